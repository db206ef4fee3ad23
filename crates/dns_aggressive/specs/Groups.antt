-- For private functions alone: NSEC3 records by how their owners are hashed.
use Rattle.std.specs.Prelude.{◌≡◌, ℕ, List, [], map, Option, None, Some, Vec, is_some}
use Rattle.std.specs.Borrow.{Bor}
use Rattle.std.specs.List.{filter, list_any}
use Rattle.std.specs.declared.cmp.Ordering.{Ordering}
use Rattle.std.specs.Ordering.{nat_cmp, ordering_then}
use Rattle.std.specs.Cmp.Lexicographic.{slice_cmp}
use Rattle.std.specs.BTreeMap as tree
use Rattle.std.specs.BTreeMap.{BTreeMap}
use Rattle.dns_model.specs.Owned.{OwnedNsec3}
use Rattle.dns_rules.specs.Nsec3Verdict.{Parameters, parameters_in}
use Rattle.dns_aggressive.specs.Denials.{distinct, same_way}
use Rattle.dns_aggressive.specs.declared.nsec3_groups.Nsec3Groups.{Nsec3Groups}

-- what is lent
abbrev pub lent : {X : Type 0} → List (Bor X) → List X
lent xs = map (λ x. x.now) xs

-- the records of a list that are hashed in a way
abbrev pub of_way : Parameters → List OwnedNsec3 → List OwnedNsec3
of_way way nsec3s = filter (λ nsec3. same_way way (parameters_in nsec3)) nsec3s

-- ways in order
abbrev pub way_cmp : Parameters → ℕ × Bor (List ℕ) → Ordering
way_cmp way key = ordering_then (nat_cmp way.iterations key.0) (slice_cmp nat_cmp way.salt key.1.now)

abbrev pub items_or_none : {X Z : Type 0} → Option (Vec (Bor X) Z) → List X
items_or_none None = []
items_or_none (Some group) = lent group.items

-- records by how they are hashed
abbrev pub Map : Type 0 → Type 0
Map Z = BTreeMap (ℕ × Bor (List ℕ)) (Vec (Bor OwnedNsec3) Z)

-- the records that are kept for a way
abbrev pub group_at : {Z : Type 0} → Map Z → Parameters → List OwnedNsec3
group_at groups way = items_or_none (tree.get_by (way_cmp way) groups)

-- for each way the map has the records of a list, and of these the first of each way stand in order
pub record AreGroups {Z : Type 0} (list : List OwnedNsec3) (firsts : List (Bor OwnedNsec3)) (groups : Map Z) : Type 0 where
  pub heads : map parameters_in (lent firsts) ≡ distinct (map parameters_in list)
  pub each : (way : Parameters) → group_at groups way ≡ of_way way list
  pub known : (way : Parameters) → is_some (tree.get_by (way_cmp way) groups)
      ≡ list_any (λ other. same_way other way) (distinct (map parameters_in list))

abbrev pub IsGrouped : List OwnedNsec3 → Nsec3Groups → Type 0
IsGrouped list groups = AreGroups list groups.firsts.items groups.groups
