-- What NSEC3 records leave open of what a response denies, in words: the name that no record matches or covers, or of which one
-- says something else (RFC 5155, 8.3 to 8.8).
use Rattle.std.specs.Prelude.{ℕ, Bool, ◌+◌, ◌==◌, nat_lt, length, List, [], ◌∷◌, ◌++◌, codes, Option, None, Some, is_some, if◌then◌else◌}
use Rattle.std.specs.List.{filter_map, find}
use Rattle.std.specs.Option.{option_map, option_map_or}
use Rattle.dns_model.specs.Names.{Labels, last_labels, parent}
use Rattle.dns_model.specs.NameText.{printed}
use Rattle.dns_model.specs.Owned.{OwnedNsec3}
use Rattle.dns_model.specs.Records.{Rr, Question}
use Rattle.dns_model.specs.Told.{Told}
use Rattle.dns_model.specs.Types.{code_nx_domain}
use Rattle.dns_rules.specs.Denying.{owned_nsec3}
use Rattle.dns_rules.specs.Nsec3Covering.{nsec3_matches}
use Rattle.dns_rules.specs.Nsec3Verdict.{Parameters, covering_name, hashed, nearest_match, next_closer, parameters_of, wildcard_denies}
use Rattle.dns_query_answer.specs.Wildcards.{expanded_labels, is_plain_answer, wildcard_below}

-- the records that can be read as NSEC3 records
abbrev pub nsec3s_in : List Rr → List OwnedNsec3
nsec3s_in records = filter_map owned_nsec3 records

-- ---- words

abbrev pub nsec3_unshown : List ℕ
nsec3_unshown = codes ": the NSEC3 records don't show it"

unfoldable pub nsec3_uncovered : Labels → List ℕ
nsec3_uncovered name = codes ": no NSEC3 record covers " ++ printed name

unfoldable pub nsec3_contradicts : Labels → List ℕ
nsec3_contradicts name = codes ": that isn't what the NSEC3 record says of " ++ printed name

unfoldable pub nsec3_unmatched : Labels → List ℕ
nsec3_unmatched name = codes ": no NSEC3 record matches a name at or above " ++ printed name

unfoldable pub nsec3_undenied : Labels → List ℕ
nsec3_undenied name = codes ": no NSEC3 record denies it at " ++ printed name

-- ---- the wildcard

-- the records show that a wildcard isn't there, or that it has no data of the type (RFC 5155, 8.4 and 8.7)
abbrev pub nsec3_shows_at : Parameters → Question → ℕ → List OwnedNsec3 → Labels → Bool
nsec3_shows_at by q code nsec3s wildcard =
    if code == code_nx_domain then is_some (covering_name by nsec3s wildcard) else wildcard_denies by q.rtype nsec3s wildcard

unfoldable pub nsec3_wildcard_fault : Parameters → Question → ℕ → List OwnedNsec3 → Labels → List ℕ
nsec3_wildcard_fault by q code nsec3s wildcard =
    if nsec3_shows_at by q code nsec3s wildcard then nsec3_unshown
    else if code == code_nx_domain then nsec3_uncovered wildcard
    else nsec3_undenied wildcard

-- ---- the name

-- by the closest encloser: the name with one label more is to be covered, and then the wildcard counts (RFC 5155, 8.3)
unfoldable pub nsec3_encloser_fault : Parameters → Question → ℕ → List OwnedNsec3 → Labels → List ℕ
nsec3_encloser_fault by q code nsec3s encloser =
    if is_some (covering_name by nsec3s (next_closer encloser q.owner))
    then option_map_or (nsec3_wildcard_fault by q code nsec3s) (wildcard_below encloser) nsec3_unshown
    else nsec3_uncovered (next_closer encloser q.owner)

-- the longest name above the one that was asked for that a record matches, in a zone
abbrev pub matched_ancestor : Parameters → Labels → List OwnedNsec3 → Labels → Option Labels
matched_ancestor by zone nsec3s name = option_map (λ found. found.0) (nearest_match by zone nsec3s name)

abbrev pub nsec3_ancestor_fault : Parameters → Question → ℕ → List OwnedNsec3 → Option Labels → List ℕ
nsec3_ancestor_fault by q code nsec3s None = nsec3_unmatched q.owner
nsec3_ancestor_fault by q code nsec3s (Some encloser) = nsec3_encloser_fault by q code nsec3s encloser

-- in the zone that the first record is of (RFC 5155, 3)
abbrev pub nsec3_denied_fault : Parameters → Question → ℕ → List OwnedNsec3 → List ℕ
nsec3_denied_fault by q code [] = nsec3_unshown
nsec3_denied_fault by q code (first ∷ rest) =
    nsec3_ancestor_fault by q code (first ∷ rest) (matched_ancestor by (parent first.owner) (first ∷ rest) q.owner)

-- an answer from a wildcard: the name with one label more is to be covered (RFC 5155, 8.8)
unfoldable pub nsec3_closer_fault : Parameters → List OwnedNsec3 → Labels → List ℕ
nsec3_closer_fault by nsec3s closer = if is_some (covering_name by nsec3s closer) then nsec3_unshown else nsec3_uncovered closer

abbrev pub nsec3_expanded_fault : Parameters → Question → List OwnedNsec3 → ℕ → List ℕ
nsec3_expanded_fault by q nsec3s labels =
    if nat_lt labels (length q.owner) then nsec3_closer_fault by nsec3s (last_labels (labels + 1) q.owner) else nsec3_unshown

abbrev pub nsec3_absent_fault : Parameters → Question → ℕ → List OwnedNsec3 → Option ℕ → List ℕ
nsec3_absent_fault by q code nsec3s (Some labels) = nsec3_expanded_fault by q nsec3s labels
nsec3_absent_fault by q code nsec3s None = nsec3_denied_fault by q code nsec3s

-- by the record that matches the name, or else by those around it
abbrev pub nsec3_name_fault : Parameters → Question → ℕ → List OwnedNsec3 → Option ℕ → Option OwnedNsec3 → List ℕ
nsec3_name_fault by q code nsec3s labels (Some nsec3) = nsec3_contradicts q.owner
nsec3_name_fault by q code nsec3s labels None = nsec3_absent_fault by q code nsec3s labels

-- by how names are hashed; nothing is shown where the records differ in that (RFC 5155, 8.2)
abbrev pub nsec3_hashed_fault : Question → ℕ → List OwnedNsec3 → Option ℕ → Option Parameters → List ℕ
nsec3_hashed_fault q code nsec3s labels None = nsec3_unshown
nsec3_hashed_fault q code nsec3s labels (Some by) =
    nsec3_name_fault by q code nsec3s labels (find (nsec3_matches (hashed by q.owner)) nsec3s)

-- by the records of the authority section
unfoldable pub nsec3_fault : Question → Told → List ℕ
nsec3_fault q told =
    if is_plain_answer q told then nsec3_unshown
    else nsec3_hashed_fault q told.code (nsec3s_in told.authorities) (expanded_labels q told.answers)
    (parameters_of (nsec3s_in told.authorities))
