-- A name's first label and the name above it, in wire form and as a list; counts of labels.
use Rattle.std.proofs.Common.{◌≡◌, ℕ, zero, suc, ◌+◌, ◌-◌, ◌≤◌, ◌<◌, true, false, List, [], ◌∷◌, length, drop, Option, None, Some, refl, sym, ap, ◌∙◌, arith, length-append, add-one}
use Rattle.std.specs.Prelude.{nat_le, nat_lt, nat_eq}
use Rattle.std.specs.Cmp.Lexicographic.{pointwise}
use Rattle.std.specs.List.{list_all, ends_with}
use Rattle.std.proofs.lemmas.Bool.{and_parts}
use Rattle.std.proofs.lemmas.Bool.Decides.{nat_tests}
use Rattle.std.proofs.lemmas.List.{length-map, drop-map}
use Rattle.dns_model.specs.Names.{Label, Labels, lowered, folded, wire, is_label, is_name, name_eq, at_or_above, parent}
use Rattle.dns_model.specs.NameForm.{label_in, labels_of, IsWire}
use Rattle.dns_model.proofs.WireLemmas.{first_of_some, second_of_some, label_in-label, wire-labels_of, is_name-labels_of, labels_of-wire, IsWire-wire}

-- ---- in wire form

-- a name above a name is one
pub is_name-above : (label : Label) (name : Labels) → is_name (label ∷ name) ≡ true → is_name name ≡ true
is_name-above label name good =
    let parts = and_parts (list_all is_label (label ∷ name)) (nat_le (length (wire (label ∷ name))) 255) good in
    let halves = and_parts (is_label label) (list_all is_label name) parts.0 in
    let fits : length (wire (label ∷ name)) ≤ 255 = grind (arith, nat_tests, parts.1) in
    let shorter : length (wire name) ≤ 255 = omega (arith, fits, length-append label (wire name)) in
    let limit : nat_le (length (wire name)) 255 ≡ true = grind (arith, nat_tests, shorter) in
    rw (halves.1, limit) refl

pub is_label-first : (label : Label) (name : Labels) → is_name (label ∷ name) ≡ true → is_label label ≡ true
is_label-first label name good =
    let parts = and_parts (list_all is_label (label ∷ name)) (nat_le (length (wire (label ∷ name))) 255) good in
    let halves = and_parts (is_label label) (list_all is_label name) parts.0 in
    halves.0

pub label_size : (label : Label) → is_label label ≡ true → (0 < length label) × (length label ≤ 63)
label_size label good =
    let parts = and_parts (nat_lt 0 (length label)) (nat_le (length label) 63) good in
    (grind (arith, nat_tests, parts.0), grind (arith, nat_tests, parts.1))

-- a wire form whose first label was read, and the wire form above it
pub record IsSplit (bytes label rest : List ℕ) : Type 0 where
  pub form : IsWire rest
  pub labels : labels_of bytes ≡ label ∷ labels_of rest

first_label : (name : Labels) → is_name name ≡ true → (label rest : List ℕ) → label_in (wire name) ≡ Some (label, rest) → 0 < length label
    → (IsWire rest) × (name ≡ label ∷ labels_of rest)
first_label [] good [] rest is some = absurd (omega arith)
first_label [] good (c ∷ label) rest is some =
    let read : ◌≡◌ {A = Option (Label × List ℕ)} (Some ([], [])) (Some (c ∷ label, rest)) = sym (label_in-label [] [] (omega arith)) ∙ is in
    let same : ◌≡◌ {A = Label} [] (c ∷ label) = first_of_some read in
    cc
first_label (l ∷ name) good label rest is some =
    let size = label_size l (is_label-first l name good) in
    let read : Some (l, wire name) ≡ Some (label, rest) = sym (label_in-label l (wire name) size.1) ∙ is in
    let same : l ≡ label = first_of_some read in
    let above : wire name ≡ rest = second_of_some read in
    let fine = is_name-above l name good in
    (rw (← above) (IsWire-wire name fine), rw (← same, ← above, labels_of-wire name fine) refl)

pub wire_split : (bytes label rest : List ℕ) → IsWire bytes → label_in bytes ≡ Some (label, rest) → 0 < length label
    → IsSplit bytes label rest
wire_split bytes label rest form is some =
    let read : label_in (wire (labels_of bytes)) ≡ Some (label, rest) = ap label_in (wire-labels_of bytes form) ∙ is in
    let both = first_label (labels_of bytes) (is_name-labels_of bytes form) label rest read some in
    record { form = both.0; labels = both.1 }

root_read : (name : Labels) → is_name name ≡ true → (rest : List ℕ) → label_in (wire name) ≡ Some ([], rest) → name ≡ []
root_read [] good rest is = refl
root_read (l ∷ name) good rest is =
    let size = label_size l (is_label-first l name good) in
    let read : ◌≡◌ {A = Option (Label × List ℕ)} (Some (l, wire name)) (Some ([], rest)) = sym (label_in-label l (wire name) size.1) ∙ is in
    let same : ◌≡◌ {A = Label} l [] = first_of_some read in
    let none : length l ≡ 0 = ap length same in
    absurd (omega arith)

-- a wire form that begins with the zero byte is the root's
pub wire_root : (bytes label rest : List ℕ) → IsWire bytes → label_in bytes ≡ Some (label, rest) → length label ≡ 0 → labels_of bytes ≡ []
wire_root bytes [] rest form is none =
    root_read (labels_of bytes) (is_name-labels_of bytes form) rest (ap label_in (wire-labels_of bytes form) ∙ is)
wire_root bytes (c ∷ label) rest form is none = absurd (omega arith)

label_read : (name : Labels) → is_name name ≡ true → label_in (wire name) ≡ None → ⊥
label_read [] good is = let read : ◌≡◌ {A = Option (Label × List ℕ)} (Some ([], [])) None = sym (label_in-label [] [] (omega arith))
    ∙ is in cc
label_read (l ∷ name) good is =
    let size = label_size l (is_label-first l name good) in
    let read : ◌≡◌ {A = Option (Label × List ℕ)} (Some (l, wire name)) None = sym (label_in-label l (wire name) size.1) ∙ is in
    cc

-- a wire form begins with a label or the zero byte
pub wire_broken : (bytes : List ℕ) → IsWire bytes → label_in bytes ≡ None → ⊥
wire_broken bytes form is = label_read (labels_of bytes) (is_name-labels_of bytes form) (ap label_in (wire-labels_of bytes form) ∙ is)

-- ---- counts

twice : (name : Labels) → list_all is_label name ≡ true → length name + length name < length (wire name)
twice [] good = omega arith
twice (label ∷ name) good =
    let parts = and_parts (is_label label) (list_all is_label name) good in
    let size = label_size label parts.0 in
    omega (arith, twice name parts.1, length-append label (wire name))

-- a name has at most 127 labels
pub length_name : (name : Labels) → is_name name ≡ true → length name ≤ 127
length_name name good =
    let parts = and_parts (list_all is_label name) (nat_le (length (wire name)) 255) good in
    let limit : length (wire name) ≤ 255 = grind (arith, nat_tests, parts.1) in
    omega (arith, twice name parts.0)

pub wire_limit : (name : Labels) → is_name name ≡ true → length (wire name) ≤ 255
wire_limit name good =
    let parts = and_parts (list_all is_label name) (nat_le (length (wire name)) 255) good in
    grind (arith, nat_tests, parts.1)

-- one label more is gone
pub parent-drop : (name : Labels) (n : ℕ) → parent (drop n name) ≡ drop (n + 1) name
parent-drop name zero = elim name as (λ (v : Labels). parent v ≡ drop (0 + 1) v) [ [] ↦ refl | l ∷ rest ↦ refl ]
parent-drop [] (suc n) = rw add-one refl
parent-drop (label ∷ name) (suc n) =
    let e : suc (n + 1) ≡ suc n + 1 = omega arith in
    parent-drop name n ∙ ap (λ (k : ℕ). drop k (label ∷ name)) e

-- ---- at or above

ends_below : (zone name : Labels)
    → ends_with (pointwise nat_eq) (folded name) (folded zone) ≡ name_eq zone (drop (length name - length zone) name)
ends_below zone name = rw (length-map name lowered, length-map zone lowered, drop-map lowered (length name - length zone) name) refl

pub at_or_above-shorter : (zone name : Labels) → length zone ≤ length name
    → at_or_above zone name ≡ name_eq zone (drop (length name - length zone) name)
at_or_above-shorter zone name small =
    let fits : nat_le (length zone) (length name) ≡ true = grind (arith, nat_tests) in
    rw (fits, ends_below zone name) refl

pub at_or_above-longer : (zone name : Labels) → length name < length zone → false ≡ at_or_above zone name
at_or_above-longer zone name more =
    let fits : nat_le (length zone) (length name) ≡ false = grind (arith, nat_tests) in
    rw fits refl
