-- The nearest name above one that an NSEC3 record matches, sought upwards (RFC 5155, 8.3).
use Rattle.std.proofs.Common.{◌≡◌, true, false, List, [], ◌∷◌, None, Some, refl}
use Rattle.std.specs.List.{find}
use Rattle.dns_model.specs.Names.{Label, Labels, at_or_above}
use Rattle.dns_model.specs.Owned.{OwnedNsec3}
use Rattle.dns_rules.specs.Nsec3Covering.{nsec3_matches}
use Rattle.dns_rules.specs.Nsec3Verdict.{Parameters, hashed}
use Rattle.dns_denial.proofs.Nsec3Enclosers.{match_of_root, match_outside, match_here, match_further}
use Rattle.dns_query_answer.specs.Nsec3Faults.{matched_ancestor}

-- the root has none above it
pub none_of_root : (by : Parameters) (zone : Labels) (nsec3s : List OwnedNsec3) (name : Labels) → name ≡ []
    → matched_ancestor by zone nsec3s name ≡ None
none_of_root by zone nsec3s name none = rw (none, match_of_root by zone nsec3s) refl

-- what is above the zone doesn't count
pub none_outside : (by : Parameters) (zone : Labels) (nsec3s : List OwnedNsec3) (name : Labels) (label : Label)
    (above : Labels) → name ≡ label ∷ above → at_or_above zone above ≡ false
    → matched_ancestor by zone nsec3s name ≡ None
none_outside by zone nsec3s name label above split h = rw (split, match_outside by zone nsec3s label above h) refl

-- a record matches the name right above
pub found_above : (by : Parameters) (zone : Labels) (nsec3s : List OwnedNsec3) (name : Labels) (label : Label)
    (above : Labels) (nsec3 : OwnedNsec3) → name ≡ label ∷ above → at_or_above zone above ≡ true
    → find (nsec3_matches (hashed by above)) nsec3s ≡ Some nsec3 → matched_ancestor by zone nsec3s name ≡ Some above
found_above by zone nsec3s name label above nsec3 split h found =
    rw (split, match_here by zone nsec3s label above nsec3 h found) refl

-- none does
pub found_further : (by : Parameters) (zone : Labels) (nsec3s : List OwnedNsec3) (name : Labels) (label : Label)
    (above : Labels) → name ≡ label ∷ above → at_or_above zone above ≡ true
    → find (nsec3_matches (hashed by above)) nsec3s ≡ None
    → matched_ancestor by zone nsec3s name ≡ matched_ancestor by zone nsec3s above
found_further by zone nsec3s name label above split h none =
    rw (split, match_further by zone nsec3s label above h none) refl
