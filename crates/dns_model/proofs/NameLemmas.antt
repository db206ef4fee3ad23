-- Names with A to Z folded: their wire forms, their equality and what is fed to a hasher.
use Rattle.std.proofs.Common.{◌≡◌, ℕ, ◌+◌, ◌≤◌, ◌<◌, Bool, true, List, [], ◌∷◌, ◌++◌, map, length, take, fold, get_or, refl, sym, ap, ◌∙◌, arith, length-append, Decides, IsTrue}
use Rattle.std.specs.Prelude.{nat_le, nat_lt, nat_eq, ◌↔◌}
use Rattle.std.specs.Char.{to_ascii_lowercase}
use Rattle.std.specs.Cmp.{IsEquivalence}
use Rattle.std.specs.Cmp.Lexicographic.{pointwise}
use Rattle.std.specs.List.{list_all, flat_map}
use Rattle.std.specs.Hash as fed
use Rattle.std.specs.Hash.{Alike, same_Alike, on_Alike}
use Rattle.std.proofs.lemmas.Bool.{and_parts}
use Rattle.std.proofs.lemmas.Bool.Decides.{nat_tests, same_from_decides, Decides-eqb}
use Rattle.std.proofs.lemmas.Cmp.{on_equiv, lists_equiv, nat_list_eq_equiv}
use Rattle.std.proofs.lemmas.List.{map-append, length-map, take_more}
use Rattle.std.proofs.lemmas.Grind.{fold-append, flat_map-append}
use Rattle.std.proofs.lemmas.Slice.Eq.{slice_eq-Decides, bytes_eq-Decides}
use Rattle.dns_model.specs.Names.{Labels, lowered, folded, name_eq, name_input, wire, is_label, is_name}
use Rattle.dns_model.specs.NameForm.{labels_of, IsWire}
use Rattle.dns_model.proofs.WireLemmas.{wire-labels_of, is_name-labels_of, wire_injective}

-- ---- folding and the wire form

-- a length byte is no letter
lower_length : (n : ℕ) → n ≤ 63 → to_ascii_lowercase n ≡ n
lower_length n small = grind (arith, nat_tests)

-- folding the bytes of a wire form folds its labels
map-wire : (name : Labels) → list_all is_label name ≡ true → map to_ascii_lowercase (wire name) ≡ wire (folded name)
map-wire [] good = refl
map-wire (label ∷ name) good =
    let parts = and_parts (is_label label) (list_all is_label name) good in
    let halves = and_parts (nat_lt 0 (length label)) (nat_le (length label) 63) parts.0 in
    let small : length label ≤ 63 = grind (arith, nat_tests, halves.1) in
    rw (
      lower_length (length label) small,
      map-append to_ascii_lowercase label (wire name),
      map-wire name parts.1,
      length-map label to_ascii_lowercase,
    ) refl

list_all-folded : (name : Labels) → list_all is_label (folded name) ≡ list_all is_label name
list_all-folded [] = refl
list_all-folded (label ∷ name) = rw (length-map label to_ascii_lowercase, list_all-folded name) refl

pub length-wire-folded : (name : Labels) → length (wire (folded name)) ≡ length (wire name)
length-wire-folded [] = refl
length-wire-folded (label ∷ name) =
    omega (
      arith,
      length-wire-folded name,
      length-append label (wire name),
      length-append (lowered label) (wire (folded name)),
      length-map label to_ascii_lowercase,
    )

-- a name that is folded is a name
pub is_name-folded : (name : Labels) → is_name (folded name) ≡ is_name name
is_name-folded name = rw (list_all-folded name, length-wire-folded name) refl

pub lower-wire_of : (name : Labels) → is_name name ≡ true → map to_ascii_lowercase (wire name) ≡ wire (folded name)
lower-wire_of name good =
    let parts = and_parts (list_all is_label name) (nat_le (length (wire name)) 255) good in
    map-wire name parts.0

-- the folded wire form of a name that stands in wire form
pub lower-wire : (bytes : List ℕ) → IsWire bytes → map to_ascii_lowercase bytes ≡ wire (folded (labels_of bytes))
lower-wire bytes form =
    ap (map to_ascii_lowercase) (sym (wire-labels_of bytes form)) ∙ lower-wire_of (labels_of bytes) (is_name-labels_of bytes form)

-- ---- equality

-- the test of equal names decides whether the folded names are one
pub name_eq-Decides : (a b : Labels) → Decides (name_eq a b) (folded a ≡ folded b)
name_eq-Decides a b = slice_eq-Decides bytes_eq-Decides (folded a) (folded b) (name_eq a b) refl

-- two names are equal where their wire forms are, but for the case of letters
pub name_eq-wire : (a b : List ℕ) (r : Bool) → IsWire a → IsWire b → (IsTrue r ↔ (map to_ascii_lowercase a ≡ map to_ascii_lowercase b))
    → r ≡ name_eq (labels_of a) (labels_of b)
name_eq-wire a b r p q same =
    let one = lower-wire a p in
    let two = lower-wire b q in
    let P = folded (labels_of a) ≡ folded (labels_of b) in
    let good : is_name (folded (labels_of a)) ≡ true = is_name-folded (labels_of a) ∙ is_name-labels_of a p in
    let good_two : is_name (folded (labels_of b)) ≡ true = is_name-folded (labels_of b) ∙ is_name-labels_of b q in
    let by_wire : Decides r P = (
      λ h. wire_injective (folded (labels_of a)) (folded (labels_of b)) good good_two (sym one ∙ same.0 h ∙ two),
      λ h. same.1 (one ∙ ap wire h ∙ sym two),
    ) in
    same_from_decides r (name_eq (labels_of a) (labels_of b)) by_wire (name_eq-Decides (labels_of a) (labels_of b))

pub name_equiv : IsEquivalence name_eq
name_equiv = on_equiv folded (lists_equiv nat_list_eq_equiv)

-- ---- what is fed to a hasher

pub name_alike : Alike name_eq name_input
name_alike = on_Alike folded (same_Alike (λ name. flat_map fed.u8 (wire name))
    (λ a b. slice_eq-Decides bytes_eq-Decides a b (pointwise (pointwise nat_eq) a b) refl))

-- two names have the same bytes where their wire forms have
pub same_bytes : (a b : Labels) (r : Bool) → is_name a ≡ true → is_name b ≡ true → r ≡ pointwise nat_eq (wire a) (wire b)
    → IsTrue r ↔ (a ≡ b)
same_bytes a b r p q is =
    let d = slice_eq-Decides Decides-eqb (wire a) (wire b) r is in
    (λ h. wire_injective a b p q (d.0 h), λ h. d.1 (ap wire h))

-- one byte more is fed, in lower case
pub fed_more : {S : Type 0} (write : S → List ℕ → S) (s t : S) (bytes : List ℕ) (i byte : ℕ) → i < length bytes → byte ≡ get_or bytes i byte
    → t ≡ fold write s (flat_map fed.u8 (map to_ascii_lowercase (take i bytes)))
    → write t (to_ascii_lowercase byte ∷ []) ≡ fold write s (flat_map fed.u8 (map to_ascii_lowercase (take (i + 1) bytes)))
fed_more write s t bytes i byte lt is so_far =
    let front = take i bytes in
    let fed_one : flat_map fed.u8 (map to_ascii_lowercase (take (i + 1) bytes)) ≡ flat_map fed.u8 (map to_ascii_lowercase (take i bytes))
    ++ fed.u8 (to_ascii_lowercase byte) =
    ap (λ (l : List ℕ). flat_map fed.u8 (map to_ascii_lowercase l)) (take_more bytes i byte lt)
    ∙ ap (λ (b : ℕ). flat_map fed.u8 (map to_ascii_lowercase (take i bytes ++ b ∷ []))) (sym is)
    ∙ ap (flat_map fed.u8) (map-append to_ascii_lowercase (take i bytes) (byte ∷ []))
    ∙ flat_map-append fed.u8 (map to_ascii_lowercase (take i bytes)) (to_ascii_lowercase byte ∷ []) in
    rw (
      fed_one,
      fold-append write s (flat_map fed.u8 (map to_ascii_lowercase (take i bytes))) (fed.u8 (to_ascii_lowercase byte)),
      ← so_far,
    ) refl
