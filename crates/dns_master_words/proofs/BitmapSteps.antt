-- What loops over types and windows gather.
use Rattle.std.proofs.Common.{◌≡◌, ℕ, suc, ◌+◌, ◌-◌, ◌*◌, ◌<◌, ◌≤◌, false, List, [], ◌∷◌, ◌++◌, length, refl, sym, ap, ◌∙◌, arith, append-nil, inl, inr}
use Rattle.std.specs.Prelude.{nat_lt}
use Rattle.std.proofs.lemmas.Bool.{cases_Bool}
use Rattle.std.proofs.lemmas.Bool.Decides.{nat_tests}
use Rattle.std.proofs.lemmas.List.{append_assoc}
use Rattle.dns_master_words.specs.Bitmaps.{bitmap_of, larger, needed, octet_of, octets_of, window_of, window_size, windows_of}

-- ---- the larger of two

pub larger_left : (a b : ℕ) → a ≤ larger a b
larger_left a b =
    elim (cases_Bool (nat_lt a b)) [
      | inl below ↦ let less : a < b = grind (arith, nat_tests, below) in rw below (omega (arith, less))
      | inr above ↦ rw above (omega arith)
    ]

pub larger_right : (a b : ℕ) → b ≤ larger a b
larger_right a b =
    elim (cases_Bool (nat_lt a b)) [
      | inl below ↦ rw below (omega arith)
      | inr above ↦ let most : b ≤ a = grind (arith, nat_tests, above) in rw above most
    ]

pub larger_most : (a b m : ℕ) → a ≤ m → b ≤ m → larger a b ≤ m
larger_most a b m one two =
    elim (cases_Bool (nat_lt a b)) [ inl below ↦ rw below two | inr above ↦ rw above one ]

-- a number is the larger of two where it is one of them and no less than both
larger_is : (a b m : ℕ) → a ≤ m → b ≤ m → m ≤ larger a b → larger a b ≡ m
larger_is a b m one two least =
    let most = larger_most a b m one two in omega (arith, most, least)

larger_all : (a b c : ℕ) → larger (larger a b) c ≡ larger a (larger b c)
larger_all a b c =
    let ab_left = larger_left a b in
    let ab_right = larger_right a b in
    let bc_left = larger_left b c in
    let bc_right = larger_right b c in
    let right = larger_left a (larger b c) in
    let right_more = larger_right a (larger b c) in
    let left_side = larger_left (larger a b) c in
    let left_more = larger_right (larger a b) c in
    let bc = larger_most b c (larger (larger a b) c) (omega (arith, ab_right, left_side)) left_more in
    let whole = larger_most a (larger b c) (larger (larger a b) c) (omega (arith, ab_left, left_side)) bc in
    let ab = larger_most a b (larger a (larger b c)) right (omega (arith, bc_left, right_more)) in
    let other = larger_most (larger a b) c (larger a (larger b c)) ab (omega (arith, bc_right, right_more)) in
    omega (arith, whole, other)

-- ---- how many bytes a window has

pub size_start : (types : List ℕ) (number : ℕ) → larger 0 (window_size types number) ≡ window_size types number
size_start types number =
    larger_is 0 (window_size types number) (window_size types number) (omega arith) (omega arith)
    (larger_right 0 (window_size types number))

-- one type more
pub size_more : (size : ℕ) (number rtype : ℕ) (types : List ℕ)
    → larger size (window_size (rtype ∷ types) number)
    ≡ larger (larger size (needed number rtype)) (window_size types number)
unfolding window_size
size_more size number rtype types = sym (larger_all size (needed number rtype) (window_size types number))

pub size_end : (size number : ℕ) (types : List ℕ) → length types ≡ 0 → larger size (window_size types number) ≡ size
unfolding window_size
size_end size number [] over = let none : nat_lt size 0 ≡ false = grind (arith, nat_tests) in rw none refl
size_end size number (a ∷ types) over = absurd (omega (arith, over))

-- ---- the bytes of a window

-- one byte more
pub octets_more : (seen types : List ℕ) (number place size : ℕ) → place < size
    → seen ++ octets_of types (number * 256 + place * 8) (size - place)
    ≡ (seen ++ octet_of types (number * 256 + place * 8) ∷ [])
    ++ octets_of types (number * 256 + (place + 1) * 8) (size - (place + 1))
unfolding octets_of
octets_more seen types number place size within =
    let first = number * 256 + place * 8 in
    let more : size - place ≡ suc (size - (place + 1)) = omega (arith, within) in
    let next : number * 256 + place * 8 + 8 ≡ number * 256 + (place + 1) * 8 = omega arith in
    ap (λ n. seen ++ octets_of types (number * 256 + place * 8) n) more
    ∙ ap (λ f. seen ++ octet_of types first ∷ octets_of types f (size - (place + 1))) next
    ∙ sym (append_assoc seen (octet_of types first ∷ [])
    (octets_of types (number * 256 + (place + 1) * 8) (size - (place + 1))))

pub octets_end : (seen types : List ℕ) (first place size : ℕ) → size ≤ place
    → seen ++ octets_of types first (size - place) ≡ seen
unfolding octets_of
octets_end seen types first place size over =
    let none : size - place ≡ 0 = omega (arith, over) in
    ap (λ n. seen ++ octets_of types first n) none ∙ append-nil seen

-- ---- windows

pub windows_start : (types : List ℕ) → windows_of types 0 (256 - 0) ≡ bitmap_of types
unfolding bitmap_of
windows_start types = refl

-- one window more
pub windows_more : (seen types : List ℕ) (number : ℕ) → number < 256
    → seen ++ windows_of types number (256 - number)
    ≡ (seen ++ window_of types number) ++ windows_of types (number + 1) (256 - (number + 1))
unfolding windows_of
windows_more seen types number within =
    let more : 256 - number ≡ suc (256 - (number + 1)) = omega (arith, within) in
    ap (λ n. seen ++ windows_of types number n) more
    ∙ sym (append_assoc seen (window_of types number) (windows_of types (number + 1) (256 - (number + 1))))

pub windows_end : (seen types : List ℕ) (number : ℕ) → 256 ≤ number
    → seen ++ windows_of types number (256 - number) ≡ seen
unfolding windows_of
windows_end seen types number over =
    let none : 256 - number ≡ 0 = omega (arith, over) in
    ap (λ n. seen ++ windows_of types number n) none ∙ append-nil seen
