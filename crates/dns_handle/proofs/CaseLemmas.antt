-- Names with the case of chosen letters changed, in wire form and as labels.
use Rattle.std.proofs.Common.{◌≡◌, ℕ, ◌+◌, ◌≤◌, ◌<◌, true, false, List, [], ◌∷◌, ◌++◌, length, take, get_or, refl, sym, ap, ◌∙◌, subst, arith, length-append, append_assoc}
use Rattle.std.specs.Prelude.{nat_le, nat_lt}
use Rattle.std.specs.List.{list_all}
use Rattle.std.proofs.lemmas.Bool.{and_parts}
use Rattle.std.proofs.lemmas.Bool.Decides.{nat_tests}
use Rattle.std.proofs.lemmas.List.{append-nil, take_more}
use Rattle.std.proofs.lemmas.List.Sums.{sum_by-append}
use Rattle.dns_model.specs.Names.{Label, Labels, wire, is_label, is_name}
use Rattle.dns_model.specs.NameForm.{labels_of, IsWire}
use Rattle.dns_model.proofs.WireLemmas.{labels_of-wire, IsWire-wire}
use Rattle.dns_handle.specs.LetterCase.{is_letter, letters, byte_cased, label_cased, labels_cased, name_cased}

letters-append : (xs ys : List ℕ) → letters (xs ++ ys) ≡ letters xs + letters ys
letters-append xs ys = sum_by-append _ xs ys

-- two bytes alike behind lists of as many letters
letters_alike : (a b : List ℕ) (xs : List ℕ) → letters a ≡ letters b → letters (a ++ xs) ≡ letters (b ++ xs)
letters_alike a b xs same = omega (arith, letters-append a xs, letters-append b xs, same)

-- only the count of the letters before matters
label_cased-alike : (bits a b : List ℕ) (label : Label) → letters a ≡ letters b → label_cased bits a label ≡ label_cased bits b label
unfolding label_cased
label_cased-alike bits a b [] same = refl
label_cased-alike bits a b (byte ∷ label) same =
    rw (same, label_cased-alike bits (a ++ byte ∷ []) (b ++ byte ∷ []) label (letters_alike a b (byte ∷ []) same)) refl

label_cased-append : (bits a xs ys : List ℕ) → label_cased bits a (xs ++ ys) ≡ label_cased bits a xs ++ label_cased bits (a ++ xs) ys
unfolding label_cased
label_cased-append bits a [] ys = rw append-nil refl
label_cased-append bits a (x ∷ xs) ys =
    let ih = label_cased-append bits (a ++ x ∷ []) xs ys in
    rw (ih, append_assoc) refl

length-label_cased : (bits a : List ℕ) (label : Label) → length (label_cased bits a label) ≡ length label
unfolding label_cased
length-label_cased bits a [] = refl
length-label_cased bits a (byte ∷ label) = rw (length-label_cased bits (a ++ byte ∷ []) label) refl

-- ---- the length byte of a label is no letter

no_letter : (n : ℕ) → n ≤ 63 → is_letter n ≡ false
no_letter n small = grind (arith, nat_tests)

length_byte : (bits : List ℕ) (i n : ℕ) → n ≤ 63 → byte_cased bits i n ≡ n
unfolding byte_cased
length_byte bits i n small = rw (no_letter n small) refl

behind_length : (a : List ℕ) (n : ℕ) → n ≤ 63 → letters (a ++ n ∷ []) ≡ letters a
behind_length a n small =
    let none : letters (n ∷ []) ≡ 0 = rw (no_letter n small) refl in
    omega (arith, letters-append a (n ∷ []), none)

-- ---- wire forms

-- changing the bytes of a wire form changes its labels
cased-wire : (bits a b : List ℕ) (name : Labels) → list_all is_label name ≡ true → letters a ≡ letters b
    → label_cased bits a (wire name) ≡ wire (labels_cased bits b name)
unfolding label_cased labels_cased
cased-wire bits a b [] good same = rw (length_byte bits (letters a) 0 (omega arith)) refl
cased-wire bits a b (label ∷ name) good same =
    let parts = and_parts (is_label label) (list_all is_label name) good in
    let halves = and_parts (nat_lt 0 (length label)) (nat_le (length label) 63) parts.0 in
    let small : length label ≤ 63 = grind (arith, nat_tests, halves.1) in
    let before = a ++ length label ∷ [] in
    let here : letters before ≡ letters b = behind_length a (length label) small ∙ same in
    rw (
      length_byte bits (letters a) (length label) small,
      label_cased-append bits before label (wire name),
      label_cased-alike bits before b label here,
      cased-wire bits (before ++ label) (b ++ label) name parts.1 (letters_alike before b label here),
      length-label_cased bits b label,
    ) refl

labels-cased : (bits a : List ℕ) (name : Labels) → list_all is_label (labels_cased bits a name) ≡ list_all is_label name
unfolding labels_cased
labels-cased bits a [] = refl
labels-cased bits a (label ∷ name) = rw (length-label_cased bits a label, labels-cased bits (a ++ label) name) refl

length-wire-cased : (bits a : List ℕ) (name : Labels) → length (wire (labels_cased bits a name)) ≡ length (wire name)
unfolding labels_cased
length-wire-cased bits a [] = refl
length-wire-cased bits a (label ∷ name) =
    omega (
      arith,
      length-wire-cased bits (a ++ label) name,
      length-append label (wire name),
      length-append (label_cased bits a label) (wire (labels_cased bits (a ++ label) name)),
      length-label_cased bits a label,
    )

is_name-cased : (bits : List ℕ) (name : Labels) → is_name (name_cased bits name) ≡ is_name name
is_name-cased bits name = rw (labels-cased bits [] name, length-wire-cased bits [] name) refl

-- the changed wire form of a name is that of the changed name
pub wire_cased : (bits : List ℕ) (name : Labels) → is_name name ≡ true → label_cased bits [] (wire name) ≡ wire (name_cased bits name)
wire_cased bits name good =
    let parts = and_parts (list_all is_label name) (nat_le (length (wire name)) 255) good in
    cased-wire bits [] [] name parts.0 refl

pub form_cased : (bits : List ℕ) (name : Labels) → is_name name ≡ true → IsWire (label_cased bits [] (wire name))
form_cased bits name good =
    subst (λ w. IsWire w) (sym (wire_cased bits name good)) (IsWire-wire (name_cased bits name) (is_name-cased bits name ∙ good))

pub labels_of_cased : (bits : List ℕ) (name : Labels) → is_name name ≡ true
    → labels_of (label_cased bits [] (wire name)) ≡ name_cased bits name
labels_of_cased bits name good =
    ap labels_of (wire_cased bits name good) ∙ labels_of-wire (name_cased bits name) (is_name-cased bits name ∙ good)

-- ---- one byte more

pub cased_none : (bits : List ℕ) → label_cased bits [] [] ≡ []
unfolding label_cased
cased_none bits = refl

-- the bytes up to the next one
pub cased_more : (bits bytes : List ℕ) (i : ℕ) → i < length bytes
    → label_cased bits [] (take (i + 1) bytes) ≡ label_cased bits [] (take i bytes)
    ++ byte_cased bits (letters (take i bytes)) (get_or bytes i 0) ∷ []
unfolding label_cased
cased_more bits bytes i within = rw (take_more bytes i 0 within, label_cased-append bits [] (take i bytes) (get_or bytes i 0 ∷ [])) refl
