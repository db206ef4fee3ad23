-- What NSEC3 records prove of a query that a response denies or answers from a wildcard (RFC 5155, 8; RFC 6840, 4; RFC 9276, 3.2).
use Rattle.std.specs.Prelude.{ℕ, Bool, true, false, not, ◌+◌, ◌==◌, ◌&&◌, ◌||◌, nat_eq, nat_lt, nat_le, List, [], ◌∷◌, length, Option, None, Some, is_some, if◌then◌else◌}
use Rattle.std.specs.Cmp.Lexicographic.{pointwise}
use Rattle.std.specs.List.{list_all, list_any, find}
use Rattle.dns_model.specs.Names.{Labels, name_eq, at_or_above, strictly_above, parent, last_labels, star}
use Rattle.dns_model.specs.Nsec3Hash.{nsec3_hash}
use Rattle.dns_model.specs.Types.{type_ds, code_nx_domain, can_deny}
use Rattle.dns_model.specs.Records.{Question}
use Rattle.dns_model.specs.Owned.{OwnedNsec3}
use Rattle.dns_model.specs.declared.proof.Proof.{Proof}
use Rattle.dns_model.specs.declared.proof.Proof.TheVariants.{Secure, Insecure, Bogus}
use Rattle.dns_model.specs.declared.answered.Answered.{Answered}
use Rattle.dns_model.specs.declared.answered.Answered.TheVariants.{No, Plain, Expanded}
use Rattle.dns_rules.specs.ListedTypes.{ends_zone, is_unanswered, proved_by_owner, wildcard_lacks, is_unsigned_cut}
use Rattle.dns_rules.specs.NsecVerdict.{secure_if, holds_query, is_plain}
use Rattle.dns_rules.specs.Nsec3Covering.{is_considered, is_opt_out, nsec3_matches, nsec3_covering}

-- ---- the zone and its parameters

-- the record stands right below the zone's apex (RFC 5155, 3)
abbrev pub is_of_zone : Labels → OwnedNsec3 → Bool
is_of_zone zone nsec3 = name_eq (parent nsec3.owner) zone

-- how the names of a zone are hashed (RFC 5155, 3.1)
pub record Parameters : Type 0 where
  pub salt : List ℕ
  pub iterations : ℕ

abbrev pub parameters_in : OwnedNsec3 → Parameters
parameters_in nsec3 = record { salt = nsec3.fields.salt; iterations = nsec3.fields.iterations }

abbrev pub has_parameters : Parameters → OwnedNsec3 → Bool
has_parameters by nsec3 = pointwise nat_eq nsec3.fields.salt by.salt && (nsec3.fields.iterations == by.iterations)

-- each record that isn't ignored has these parameters
abbrev pub is_shared : List OwnedNsec3 → Parameters → Bool
is_shared nsec3s by = list_all (λ nsec3. not (is_considered nsec3) || has_parameters by nsec3) nsec3s

abbrev pub if_shared : List OwnedNsec3 → Option OwnedNsec3 → Option Parameters
if_shared nsec3s None = None
if_shared nsec3s (Some first) = if is_shared nsec3s (parameters_in first) then Some (parameters_in first) else None

-- the parameters of all records that aren't ignored; None where there is no such record, or they differ (RFC 5155, 8.2)
abbrev pub parameters_of : List OwnedNsec3 → Option Parameters
parameters_of nsec3s = if_shared nsec3s (find is_considered nsec3s)

-- the hash of a name in the zone
abbrev pub hashed : Parameters → Labels → List ℕ
hashed by name = nsec3_hash by.salt name by.iterations

-- ---- the closest encloser

abbrev pub or_further : Labels → Option OwnedNsec3 → Option (Labels × OwnedNsec3) → Option (Labels × OwnedNsec3)
or_further above None further = further
or_further above (Some nsec3) further = Some (above, nsec3)

-- the longest proper ancestor of a name, at or below the zone, that a record matches, and the first such record: the parent
-- where it is matched, else that of the parent (RFC 5155, 8.3)
unfoldable pub nearest_match : Parameters → Labels → List OwnedNsec3 → Labels → Option (Labels × OwnedNsec3)
nearest_match by zone nsec3s [] = None
nearest_match by zone nsec3s (label ∷ above) =
    if not (at_or_above zone above) then None
    else or_further above (find (nsec3_matches (hashed by above)) nsec3s) (nearest_match by zone nsec3s above)

abbrev pub unless_ended : Option (Labels × OwnedNsec3) → Option Labels
unless_ended None = None
unless_ended (Some (above, nsec3)) = if ends_zone nsec3.fields.types then None else Some above

-- the closest encloser that the records prove: that ancestor, unless it is a delegation or has DNAME, so that nothing of the
-- zone is below it (RFC 5155, 8.3)
abbrev pub provable_encloser : Parameters → Labels → List OwnedNsec3 → Labels → Option Labels
provable_encloser by zone nsec3s name = unless_ended (nearest_match by zone nsec3s name)

-- the name, or the ancestor of it, with one label more than the closest encloser (RFC 5155, 1.3)
abbrev pub next_closer : Labels → Labels → Labels
next_closer encloser name = last_labels (length encloser + 1) name

-- the record that covers a name
abbrev pub covering_name : Parameters → List OwnedNsec3 → Labels → Option OwnedNsec3
covering_name by nsec3s name = nsec3_covering (hashed by name) nsec3s

-- ---- a name error (RFC 5155, 8.4)

abbrev pub both_covered : Option OwnedNsec3 → Option OwnedNsec3 → Proof
both_covered None wildcard = Bogus
both_covered (Some closer) None = Bogus
-- where one of the two is opt-out, an unsigned delegation may be there (RFC 5155, 6 and 12.2)
both_covered (Some closer) (Some wildcard) = if is_opt_out closer || is_opt_out wildcard then Insecure else Secure

abbrev pub name_error : Parameters → List OwnedNsec3 → Labels → Option Labels → Proof
name_error by nsec3s name None = Bogus
name_error by nsec3s name (Some encloser) =
    both_covered (covering_name by nsec3s (next_closer encloser name)) (covering_name by nsec3s (star encloser))

-- ---- an answer from a wildcard (RFC 5155, 8.8)

-- the wildcard is in the zone and above the name, and no closer name than it is there
abbrev pub no_closer_name : Parameters → Labels → List OwnedNsec3 → Labels → ℕ → Bool
no_closer_name by zone nsec3s name labels =
    nat_le (length zone) labels
    && (nat_lt labels (length name) && is_some (covering_name by nsec3s (last_labels (labels + 1) name)))

-- ---- no data at a name without a record of its own

-- some record of the wildcard shows that it has no data of the type (RFC 5155, 8.7)
abbrev pub wildcard_denies : Parameters → ℕ → List OwnedNsec3 → Labels → Bool
wildcard_denies by rtype nsec3s wildcard =
    list_any (λ nsec3. nsec3_matches (hashed by wildcard) nsec3 && wildcard_lacks rtype nsec3.fields.types) nsec3s

abbrev pub no_data_below : Parameters → ℕ → List OwnedNsec3 → Labels → Option OwnedNsec3 → Bool
no_data_below by rtype nsec3s encloser None = false
no_data_below by rtype nsec3s encloser (Some closer) =
    -- a DS, where an unsigned delegation may be (RFC 5155, 8.6)
    if (rtype == type_ds) && is_opt_out closer then true
    -- the wildcard is there, without the type (RFC 5155, 8.7)
    else wildcard_denies by rtype nsec3s (star encloser)

abbrev pub no_data : Parameters → Question → List OwnedNsec3 → Option Labels → Bool
no_data by query nsec3s None = false
no_data by query nsec3s (Some encloser) =
    no_data_below by query.rtype nsec3s encloser (covering_name by nsec3s (next_closer encloser query.owner))

-- ---- the verdict

abbrev pub unmatched_verdict : Parameters → Question → Labels → ℕ → Answered → List OwnedNsec3 → Proof
unmatched_verdict by query zone code (Expanded labels) nsec3s = secure_if (no_closer_name by zone nsec3s query.owner labels)
unmatched_verdict by query zone code Plain nsec3s = Bogus
unmatched_verdict by query zone code No nsec3s =
    if code == code_nx_domain then name_error by nsec3s query.owner (provable_encloser by zone nsec3s query.owner)
    else secure_if (no_data by query nsec3s (provable_encloser by zone nsec3s query.owner))

abbrev pub verdict_at_name : Parameters → Question → Labels → ℕ → Answered → List OwnedNsec3 → Option OwnedNsec3 → Proof
-- a record matches the name (RFC 5155, 8.5 and 8.6)
verdict_at_name by query zone code answered nsec3s (Some nsec3) =
    secure_if (proved_by_owner query.rtype code answered nsec3.fields.types)
verdict_at_name by query zone code answered nsec3s None = unmatched_verdict by query zone code answered nsec3s

abbrev pub verdict_by : Question → Labels → ℕ → Answered → List OwnedNsec3 → ℕ → ℕ → Option Parameters → Proof
-- no record that isn't ignored, or records that are hashed in several ways
verdict_by query zone code answered nsec3s soft hard None = Bogus
verdict_by query zone code answered nsec3s soft hard (Some by) =
    -- too many iterations to count them (RFC 9276, 3.2)
    if nat_lt hard by.iterations then Bogus
    else if nat_lt soft by.iterations then Insecure
    -- a code that denies nothing
    else if not (can_deny code) then Bogus
    -- an answer that is no expansion needs no denial
    else if is_plain answered then Bogus
    -- a name error has no answer
    else if (code == code_nx_domain) && not (is_unanswered answered) then Bogus
    else verdict_at_name by query zone code answered nsec3s (find (nsec3_matches (hashed by query.owner)) nsec3s)

-- what the NSEC3 records of a zone prove of a response to a query
unfoldable pub nsec3_verdict : Question → Labels → ℕ → Answered → List OwnedNsec3 → ℕ → ℕ → Proof
nsec3_verdict query zone code answered nsec3s soft hard =
    -- the zone can't tell of the query
    if not (holds_query zone query) then Bogus
    -- a record of another zone
    else if not (list_all (is_of_zone zone) nsec3s) then Bogus
    else verdict_by query zone code answered nsec3s soft hard (parameters_of nsec3s)

-- ---- a delegation to a zone that isn't signed (RFC 5155, 8.9)

abbrev pub is_covered_opt_out : Option OwnedNsec3 → Bool
is_covered_opt_out None = false
is_covered_opt_out (Some closer) = is_opt_out closer

abbrev pub may_be_unsigned : Parameters → List OwnedNsec3 → Labels → Option Labels → Bool
may_be_unsigned by nsec3s child None = false
may_be_unsigned by nsec3s child (Some encloser) = is_covered_opt_out (covering_name by nsec3s (next_closer encloser child))

abbrev pub is_unsigned_at : Parameters → Labels → List OwnedNsec3 → Labels → Option OwnedNsec3 → Bool
-- a record matches the child: it is a delegation without DS
is_unsigned_at by zone nsec3s child (Some nsec3) = is_unsigned_cut nsec3.fields.types
-- or the next closer name is in an opt-out span
is_unsigned_at by zone nsec3s child None = may_be_unsigned by nsec3s child (provable_encloser by zone nsec3s child)

abbrev pub is_unsigned_by : Labels → List OwnedNsec3 → Labels → Option Parameters → Bool
is_unsigned_by zone nsec3s child None = false
is_unsigned_by zone nsec3s child (Some by) =
    is_unsigned_at by zone nsec3s child (find (nsec3_matches (hashed by child)) nsec3s)

abbrev pub is_unsigned_in : Labels → List OwnedNsec3 → Labels → Bool
is_unsigned_in zone nsec3s child =
    strictly_above zone child && (list_all (is_of_zone zone) nsec3s && is_unsigned_by zone nsec3s child (parameters_of nsec3s))

-- the NSEC3 records of the zone that the first one is of show that no DS is at the child, or that none may be expected there
unfoldable pub shows_insecure_delegation : Labels → List OwnedNsec3 → Bool
shows_insecure_delegation child [] = false
shows_insecure_delegation child (first ∷ rest) = is_unsigned_in (parent first.owner) (first ∷ rest) child
