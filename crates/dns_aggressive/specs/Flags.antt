-- For private functions alone: records by flags; lists in which each record has a place of its own and may be kept.
use Rattle.std.specs.Prelude.{◌≡◌, Bool, true, not, ◌&&◌, List, [], ◌∷◌, if◌then◌else◌}
use Rattle.std.specs.List.{list_all, list_any}
use Rattle.dns_aggressive.specs.declared.kept.KeptRecord.{KeptRecord}
use Rattle.dns_aggressive.specs.declared.kept.KeptRecord.TheVariants.{Nsec, Nsec3}
use Rattle.dns_aggressive.specs.Records.{KeptValue}
use Rattle.dns_aggressive.specs.Taking.{is_plain_hash}
use Rattle.dns_aggressive.specs.Lists.{same_place}

-- the elements whose flag is set
unfoldable pub flagged : {X : Type 0} → List Bool → List X → List X
flagged [] xs = []
flagged (flag ∷ flags) [] = []
flagged (flag ∷ flags) (x ∷ xs) = if flag then x ∷ flagged flags xs else flagged flags xs

-- no record stands at the place of a later one
unfoldable pub are_apart : List KeptValue → Bool
are_apart [] = true
are_apart (kept ∷ later) = not (list_any (same_place kept) later) && are_apart later

-- an NSEC3 record is one that may be kept
abbrev pub is_plain : KeptRecord → Bool
is_plain (Nsec nsec) = true
is_plain (Nsec3 nsec3) = is_plain_hash nsec3

abbrev pub are_plain : List KeptValue → Bool
are_plain kept = list_all (λ k. is_plain k.item) kept

-- what a store keeps
pub record IsStored (kept : List KeptValue) : Type 0 where
  pub apart : are_apart kept ≡ true
  pub plain : are_plain kept ≡ true
