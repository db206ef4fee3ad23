-- The names of nested zones are names, and so is one with a short label before it.
use Rattle.std.proofs.Common.{◌≡◌, ℕ, zero, suc, ◌+◌, ◌*◌, ◌≤◌, ◌<◌, true, [], ◌∷◌, ◌++◌, length, refl, ap, arith, length-append}
use Rattle.std.specs.Prelude.{nat_le, nat_lt}
use Rattle.std.specs.List.{list_all}
use Rattle.std.proofs.lemmas.Bool.{and_parts, and_from}
use Rattle.std.proofs.lemmas.Bool.Decides.{nat_tests}
use Rattle.dns_model.specs.Names.{Label, Labels, folded, wire, is_label, is_name}
use Rattle.dns_model.specs.NameForm.{labels_of, IsWire}
use Rattle.dns_model.proofs.WireLemmas.{labels_of-wire, IsWire-wire}
use Rattle.dns_bench_zones.specs.NestedZones.{zone_name}

-- a short label before a name that leaves room for it makes a name
pub name_below : (label : Label) (name : Labels) → 0 < length label → length label ≤ 3 → length (wire name) < 250
    → is_name name ≡ true
    → is_name (label ∷ name) ≡ true
name_below label name some short room good =
    let parts = and_parts (list_all is_label name) (nat_le (length (wire name)) 255) good in
    let least : nat_lt 0 (length label) ≡ true = grind (arith, nat_tests, some) in
    let most : nat_le (length label) 63 ≡ true = grind (arith, nat_tests, short) in
    let fits : nat_le (length (wire (label ∷ name))) 255 ≡ true = grind
    (arith, nat_tests, short, room, length-append label (wire name)) in
    rw (least, most, parts.0, fits) refl

-- what was written so reads as that name
pub form_below : (label : Label) (name : Labels) → 0 < length label → length label ≤ 3 → length (wire name) < 250
    → is_name name ≡ true
    → IsWire (length label ∷ (label ++ wire name))
form_below label name some short room good = IsWire-wire (label ∷ name) (name_below label name some short room good)

pub read_below : (label : Label) (name : Labels) → 0 < length label → length label ≤ 3 → length (wire name) < 250
    → is_name name ≡ true
    → labels_of (length label ∷ (label ++ wire name)) ≡ label ∷ name
read_below label name some short room good = labels_of-wire (label ∷ name) (name_below label name some short room good)

-- the wire form of a zone's name has two bytes for each label
pub zone_wire : (k : ℕ) → length (wire (zone_name k)) ≡ 2 * k + 1
zone_wire zero = refl
zone_wire (suc k) = omega (arith, zone_wire k)

pub zone_room : (k : ℕ) → k ≤ 100 → length (wire (zone_name k)) < 250
zone_room k low = omega (arith, zone_wire k)

zone_labels : (k : ℕ) → list_all is_label (zone_name k) ≡ true
zone_labels zero = refl
zone_labels (suc k) = zone_labels k

pub zone_is_name : (k : ℕ) → k ≤ 100 → is_name (zone_name k) ≡ true
zone_is_name k low =
    let fits : nat_le (length (wire (zone_name k))) 255 ≡ true = grind (arith, nat_tests, zone_room k low) in
    and_from (list_all is_label (zone_name k)) (nat_le (length (wire (zone_name k))) 255) (zone_labels k) fits

-- its letters are small
pub folded_zone : (k : ℕ) → folded (zone_name k) ≡ zone_name k
folded_zone zero = refl
folded_zone (suc k) = ap (λ name. (122 ∷ []) ∷ name) (folded_zone k)

pub folded_room : (k : ℕ) → k ≤ 100 → length (wire (folded (zone_name k))) ≤ 255
folded_room k low = rw (folded_zone k) (omega (arith, zone_room k low))
