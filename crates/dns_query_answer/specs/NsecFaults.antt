-- What NSEC records leave open of what a response denies, in words: the name that no record covers, or of which one says
-- something else (RFC 4035, 3.1.3, 5.3.4 and 5.4; RFC 4592, 3.3.1).
use Rattle.std.specs.Prelude.{ℕ, Bool, ◌==◌, List, ◌++◌, codes, Option, None, Some, is_some, if◌then◌else◌}
use Rattle.std.specs.List.{filter_map, find}
use Rattle.std.specs.Option.{option_map_or}
use Rattle.dns_model.specs.Names.{Labels, strictly_above}
use Rattle.dns_model.specs.NameText.{printed}
use Rattle.dns_model.specs.Owned.{OwnedNsec}
use Rattle.dns_model.specs.Records.{Rr, Question}
use Rattle.dns_model.specs.Told.{Told}
use Rattle.dns_model.specs.Types.{code_nx_domain}
use Rattle.dns_rules.specs.Covering.{nsec_covering}
use Rattle.dns_rules.specs.Denying.{owned_nsec}
use Rattle.dns_rules.specs.NsecVerdict.{closest_encloser, is_owned_by, wildcard_denies}
use Rattle.dns_rules.specs.Outcome.{has_answer}
use Rattle.dns_query_answer.specs.Wildcards.{is_plain_answer, wildcard_below}

-- the records that can be read as NSEC records
abbrev pub nsecs_in : List Rr → List OwnedNsec
nsecs_in records = filter_map owned_nsec records

-- ---- words

abbrev pub nsec_unshown : List ℕ
nsec_unshown = codes ": the NSEC records don't show it"

unfoldable pub nsec_uncovered : Labels → List ℕ
nsec_uncovered name = codes ": no NSEC record covers " ++ printed name

unfoldable pub nsec_contradicts : Labels → List ℕ
nsec_contradicts name = codes ": that isn't what the NSEC record says of " ++ printed name

unfoldable pub nsec_below : Labels → List ℕ
nsec_below name = codes ": there are names below " ++ printed name

unfoldable pub nsec_undenied : Labels → List ℕ
nsec_undenied name = codes ": no NSEC record denies it at " ++ printed name

-- ---- the wildcard

-- the records show that a wildcard isn't there, or that it has no data of the type
abbrev pub nsec_shows_at : Question → ℕ → List OwnedNsec → Labels → Bool
nsec_shows_at q code nsecs wildcard =
    if code == code_nx_domain then is_some (nsec_covering wildcard nsecs) else wildcard_denies q.rtype wildcard nsecs

unfoldable pub nsec_wildcard_fault : Question → ℕ → List OwnedNsec → Labels → List ℕ
nsec_wildcard_fault q code nsecs wildcard =
    if nsec_shows_at q code nsecs wildcard then nsec_unshown
    else if code == code_nx_domain then nsec_uncovered wildcard
    else nsec_undenied wildcard

-- ---- the name

-- a record covers the name: it exists all the same above the next owner (RFC 4592, 2.2.2), or a wildcard may answer
unfoldable pub nsec_covered_fault : Question → ℕ → Bool → List OwnedNsec → OwnedNsec → List ℕ
nsec_covered_fault q code answers nsecs nsec =
    if strictly_above q.owner nsec.fields.next then nsec_below q.owner
    else if answers then nsec_unshown
    else option_map_or (nsec_wildcard_fault q code nsecs) (wildcard_below (closest_encloser q.owner nsec)) nsec_unshown

abbrev pub nsec_spanned_fault : Question → ℕ → Bool → List OwnedNsec → Option OwnedNsec → List ℕ
nsec_spanned_fault q code answers nsecs None = nsec_uncovered q.owner
nsec_spanned_fault q code answers nsecs (Some nsec) = nsec_covered_fault q code answers nsecs nsec

-- by the record at the name, or else by the one that covers it
abbrev pub nsec_name_fault : Question → ℕ → Bool → List OwnedNsec → Option OwnedNsec → List ℕ
nsec_name_fault q code answers nsecs (Some nsec) = nsec_contradicts q.owner
nsec_name_fault q code answers nsecs None = nsec_spanned_fault q code answers nsecs (nsec_covering q.owner nsecs)

-- by the records of the authority section
unfoldable pub nsec_fault : Question → Told → List ℕ
nsec_fault q told =
    if is_plain_answer q told then nsec_unshown
    else nsec_name_fault q told.code (has_answer q told) (nsecs_in told.authorities)
    (find (is_owned_by q.owner) (nsecs_in told.authorities))
