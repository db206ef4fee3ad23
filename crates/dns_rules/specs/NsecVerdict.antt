-- What NSEC records prove of a query that a response denies or answers from a wildcard (RFC 4035, 5.3.4 and 5.4; RFC 4592;
-- RFC 6840, 4).
use Rattle.std.specs.Prelude.{ℕ, Bool, true, false, not, ◌==◌, ◌&&◌, List, length, Option, None, Some, if◌then◌else◌}
use Rattle.std.specs.Option.{is_some}
use Rattle.std.specs.List.{list_any, find}
use Rattle.dns_model.specs.Names.{Labels, name_eq, at_or_above, strictly_above, common_ancestor, longer, star}
use Rattle.dns_model.specs.Types.{type_ds}
pub use Rattle.dns_model.specs.Types.{code_no_error, code_nx_domain, can_deny}
use Rattle.dns_model.specs.Records.{Question}
use Rattle.dns_model.specs.Owned.{OwnedNsec}
use Rattle.dns_model.specs.declared.proof.Proof.{Proof}
use Rattle.dns_model.specs.declared.proof.Proof.TheVariants.{Secure, Bogus}
use Rattle.dns_model.specs.declared.answered.Answered.{Answered}
use Rattle.dns_model.specs.declared.answered.Answered.TheVariants.{No, Plain, Expanded}
use Rattle.dns_rules.specs.ListedTypes.{is_unanswered, proved_by_owner, wildcard_lacks}
use Rattle.dns_rules.specs.Covering.{nsec_covering}

abbrev pub secure_if : Bool → Proof
secure_if proved = if proved then Secure else Bogus

-- ---- the response

-- the zone holds the query; DS records stand above the zone cut, in the parent's zone (RFC 4035, 2.4 and 3.1.4.1)
abbrev pub holds_query : Labels → Question → Bool
holds_query zone query = if query.rtype == type_ds then strictly_above zone query.owner else at_or_above zone query.owner

abbrev pub is_plain : Answered → Bool
is_plain Plain = true
is_plain _ = false

-- ---- a record at the name

abbrev pub is_owned_by : Labels → OwnedNsec → Bool
is_owned_by name nsec = name_eq nsec.owner name

-- ---- the closest encloser

-- the longest ancestor of a covered name that exists: owner and next owner exist, and so do their ancestors, and what exists
-- between the two is neither name nor ancestor of the name (RFC 4592, 3.3.1)
unfoldable pub closest_encloser : Labels → OwnedNsec → Labels
closest_encloser name nsec = longer (common_ancestor name nsec.owner) (common_ancestor name nsec.fields.next)

-- ---- the wildcard

-- a record of the wildcard shows that it has no data of the type
abbrev pub wildcard_denies : ℕ → Labels → List OwnedNsec → Bool
wildcard_denies rtype wildcard nsecs = list_any (λ nsec. is_owned_by wildcard nsec && wildcard_lacks rtype nsec.fields.types) nsecs

-- the name is covered and not above the next owner, so it doesn't exist; what else has to be shown of the closest encloser
abbrev pub missing_name : Answered → ℕ → ℕ → Labels → List OwnedNsec → Bool
-- from that wildcard the answer was made, and no closer one is there (RFC 4035, 5.3.4)
missing_name (Expanded labels) code rtype encloser nsecs = (code == code_no_error) && (length encloser == labels)
missing_name Plain code rtype encloser nsecs = false
missing_name No code rtype encloser nsecs =
    -- a name error: no wildcard is there (RFC 4035, 5.4)
    if code == code_nx_domain then is_some (nsec_covering (star encloser) nsecs)
    -- no data: the wildcard is there, without the type (RFC 4035, 3.1.3.4)
    else wildcard_denies rtype (star encloser) nsecs

-- ---- the verdict

abbrev pub proved_by_covering : Question → ℕ → Answered → List OwnedNsec → Option OwnedNsec → Bool
-- nothing covers the name
proved_by_covering query code answered nsecs None = false
proved_by_covering query code answered nsecs (Some nsec) =
    -- an empty non-terminal: the name exists above the next owner, and has no data (RFC 4592, 2.2.2)
    if strictly_above query.owner nsec.fields.next then is_unanswered answered && (code == code_no_error)
    else missing_name answered code query.rtype (closest_encloser query.owner nsec) nsecs

abbrev pub proved_at_name : Question → ℕ → Answered → List OwnedNsec → Option OwnedNsec → Bool
-- the name has a record
proved_at_name query code answered nsecs (Some nsec) = proved_by_owner query.rtype code answered nsec.fields.types
proved_at_name query code answered nsecs None = proved_by_covering query code answered nsecs (nsec_covering query.owner nsecs)

-- what the NSEC records of a zone prove of a response to a query
unfoldable pub nsec_verdict : Question → Labels → ℕ → Answered → List OwnedNsec → Proof
nsec_verdict query zone code answered nsecs =
    -- a code that denies nothing
    if not (can_deny code) then Bogus
    -- the zone can't tell of the query
    else if not (holds_query zone query) then Bogus
    -- an answer that is no expansion needs no denial
    else if is_plain answered then Bogus
    else secure_if (proved_at_name query code answered nsecs (find (is_owned_by query.owner) nsecs))
