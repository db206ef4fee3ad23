-- For the calls of this crate, and for no promise of a check or a lookup: DS records as they are found by the keys
-- that they match (RFC 4034, 5; RFC 4035, 5.2).
use Rattle.std.specs.Prelude.{ℕ, ◌≡◌, Bool, false, ◌==◌, ◌&&◌, nat_lt, List, [], ◌∷◌, ◌++◌, map, take, length, Option, None, Some, Vec, if◌then◌else◌}
use Rattle.std.specs.Borrow.{Bor}
use Rattle.std.specs.Option.{option_map, option_map_or}
use Rattle.std.specs.List.{filter}
use Rattle.std.specs.declared.cmp.Ordering.{Ordering}
use Rattle.std.specs.Ordering.{nat_cmp, ordering_then}
use Rattle.std.specs.BTreeMap.{BTreeMap, get}
use Rattle.dns_model.specs.Names.{Labels, name_eq}
use Rattle.dns_model.specs.Records.{Rr}
use Rattle.dns_model.specs.Views.{DnskeyValue}
use Rattle.dns_model.specs.Signing.{key_tag_of}
use Rattle.dns_rules.specs.Delegations.{ds_of}

-- DS records, for the keys of an owner
pub record DsIndexValue : Type 0 where
  pub owner : Labels
  pub records : List Rr

-- the records that references show
abbrev pub shown : List (Bor Rr) → List Rr
shown references = map (λ r. r.now) references

-- ---- for private functions of this crate only

-- an algorithm and a tag, as the key of a map
abbrev pub algorithm_tag_cmp : ℕ × ℕ → ℕ × ℕ → Ordering
algorithm_tag_cmp a b = ordering_then (nat_cmp a.0 b.0) (nat_cmp a.1 b.1)

-- that of a key's rdata, where it is read
abbrev pub algorithm_and_tag : List ℕ → Option DnskeyValue → Option (ℕ × ℕ)
algorithm_and_tag rdata key = option_map (λ text. (text.algorithm, key_tag_of rdata)) key

abbrev pub shown_or_none : {Z : Type 0} → Option (Vec (Bor Rr) Z) → List Rr
shown_or_none None = []
shown_or_none (Some there) = shown there.items

-- the records that a map keeps for an algorithm and a tag
unfoldable pub counted_at : {Z : Type 0} → BTreeMap (ℕ × ℕ) (Vec (Bor Rr) Z) → ℕ → ℕ → List Rr
counted_at counted algorithm tag = shown_or_none (get algorithm_tag_cmp counted (algorithm, tag))

-- one record more, where fewer than two are kept
abbrev pub kept_two : List Rr → Rr → List Rr
kept_two kept r = if nat_lt (length kept) 2 then kept ++ r ∷ [] else kept

-- the same, once a record was met that is one of these or isn't
abbrev pub counted_after : {Z : Type 0} → BTreeMap (ℕ × ℕ) (Vec (Bor Rr) Z) → Bool → Rr → ℕ → ℕ → List Rr
counted_after counted here r algorithm tag =
    if here then kept_two (counted_at counted algorithm tag) r else counted_at counted algorithm tag

-- the record is a DS of an owner with an algorithm and a tag
abbrev pub is_delegation_at : Labels → ℕ → ℕ → Rr → Bool
is_delegation_at owner algorithm tag r =
    name_eq owner r.owner && option_map_or (λ ds. (algorithm == ds.algorithm) && (tag == ds.key_tag)) (ds_of r) false

-- of each algorithm and tag the first two of an owner are kept
abbrev pub KeepsFirstTwo : {Z : Type 0} → Labels → List Rr → BTreeMap (ℕ × ℕ) (Vec (Bor Rr) Z) → Type 0
KeepsFirstTwo owner records counted =
    (algorithm tag : ℕ) → counted_at counted algorithm tag ≡ take 2 (filter (is_delegation_at owner algorithm tag) records)
