-- A bitmap that lists types is the bitmap of these types.
use Rattle.std.proofs.Common.{◌≡◌, ℕ, zero, suc, ◌+◌, ◌-◌, ◌*◌, ◌/◌, ◌%◌, ◌^◌, ◌<◌, ◌≤◌, ◌⊎◌, Bool, true, false, ◌&&◌, ◌||◌, ◌==◌, List, [], ◌∷◌, ◌++◌, length, take, drop, Option, None, Some, refl, sym, ap, subst, ◌∙◌, arith, length-drop, drop-cons, inl, inr}
use Rattle.std.specs.Prelude.{nat_le, nat_lt, slice_index}
use Rattle.std.specs.List.{flat_map, list_all}
use Rattle.std.proofs.Math.Nat.{zero-div}
use Rattle.std.proofs.lemmas.Bool.{and_parts, cases_Bool, eq-eqb, eqb-true}
use Rattle.std.proofs.lemmas.Bool.Decides.{nat_tests}
use Rattle.std.proofs.lemmas.List.{length-take-le, take-append-drop}
use Rattle.std.proofs.lemmas.List.Folds.{list_all-append, list_any-append}
use Rattle.std.proofs.lemmas.Option.{same_Some}
use Rattle.dns_model.specs.Bytes.{is_bytes}
use Rattle.dns_model.specs.OptionSteps.{◌>>=◌}
use Rattle.dns_model.specs.Shapes.{Window, are_rising, has_bit, window_in, windows_in}
use Rattle.dns_text.proofs.WordShapes.{bytes_below}
use Rattle.dns_presentation.specs.TypeLists.{bit_types, is_shortest, types_below, types_in, types_of, window_types}
use Rattle.dns_master_words.specs.Bitmaps.{bit_of, bitmap_of, has_type, needed, octet_of, octets_of, window_of, window_size, windows_of}
use Rattle.dns_master_words.proofs.BitmapSteps.{larger_left, larger_most, larger_right}

-- ---- windows as bytes

abbrev wire_of : Window → List ℕ
wire_of w = w.number ∷ length w.bits ∷ w.bits

-- a window of 1 to 32 bytes, of which the last has a bit
record IsWindow (w : Window) : Type 0 where
  number : w.number < 256
  some : 0 < length w.bits
  most : length w.bits ≤ 32
  bits : is_bytes w.bits ≡ true
  last : is_shortest w ≡ true

abbrev AreWindows : List Window → Type 0
AreWindows [] = Unit {0}
AreWindows (w ∷ ws) = IsWindow w × AreWindows ws

-- a window in front of bytes
record IsFront (bytes : List ℕ) (w : Window) (rest : List ℕ) : Type 0 where
  whole : bytes ≡ wire_of w ++ rest
  number : w.number < 256
  some : 0 < length w.bits
  most : length w.bits ≤ 32
  bits : is_bytes w.bits ≡ true
  after : is_bytes rest ≡ true

small : (a : ℕ) (rest : List ℕ) → is_bytes (a ∷ rest) ≡ true → a < 256
small a rest h = let parts = and_parts (nat_lt a 256) (is_bytes rest) h in grind (arith, nat_tests, parts.0)

behind : (a : ℕ) (rest : List ℕ) → is_bytes (a ∷ rest) ≡ true → is_bytes rest ≡ true
behind a rest h = (and_parts (nat_lt a 256) (is_bytes rest) h).1

window_cut : (number size : ℕ) (rest : List ℕ) → is_bytes (number ∷ size ∷ rest) ≡ true → 0 < size → size ≤ 32
    → size ≤ length rest
    → IsFront (number ∷ size ∷ rest) (record { number = number; bits = take size rest }) (drop size rest)
window_cut number size rest h some most fits =
    let split : take size rest ++ drop size rest ≡ rest = take-append-drop size rest in
    let front : length (take size rest) ≡ size = length-take-le size rest fits in
    let octets = behind size rest (behind number (size ∷ rest) h) in
    let both : is_bytes (take size rest) && is_bytes (drop size rest) ≡ true =
    sym (list_all-append (λ b. nat_lt b 256) (take size rest) (drop size rest)) ∙ ap is_bytes split ∙ octets in
    let parts = and_parts (is_bytes (take size rest)) (is_bytes (drop size rest)) both in
    record {
      whole = ap (λ l. number ∷ size ∷ l) (sym split)
          ∙ ap (λ n. number ∷ n ∷ (take size rest ++ drop size rest)) (sym front);
      number = small number (size ∷ rest) h;
      some = omega (arith, front, some);
      most = omega (arith, front, most);
      bits = parts.0;
      after = parts.1;
    }

window_front : (bytes : List ℕ) (w : Window) (rest : List ℕ) → is_bytes bytes ≡ true → window_in bytes ≡ Some (w, rest)
    → IsFront bytes w rest
unfolding window_in
window_front [] w rest h e = cc
window_front (number ∷ []) w rest h e = cc
window_front (number ∷ size ∷ more) w rest h e =
    elim (cases_Bool (nat_lt 0 size && nat_le size 32 && nat_le size (length more))) [
      | inr other ↦ let none : None ≡ Some (w, rest) = rw other at e in cc
      | inl fits ↦
          let some : 0 < size = grind (arith, nat_tests, fits) in
          let most : size ≤ 32 = grind (arith, nat_tests, fits) in
          let within : size ≤ length more = grind (arith, nat_tests, fits) in
          let same : (record { number = number; bits = take size more }, drop size more) ≡ (w, rest) =
          same_Some _ _ (rw fits at e) in
          subst (λ (p : Window × List ℕ). IsFront (number ∷ size ∷ more) p.0 p.1) same
          (window_cut number size more h some most within)
    ]

-- bytes that are windows
record AreWire (bytes : List ℕ) (ws : List Window) : Type 0 where
  whole : bytes ≡ flat_map wire_of ws
  are : AreWindows ws

abbrev Others : List ℕ → Type 0
Others bound =
    (rest : List ℕ) (ws : List Window) → windows_in bound rest ≡ Some ws → is_bytes rest ≡ true
    → list_all is_shortest ws ≡ true → AreWire rest ws

with_front : (bytes : List ℕ) (w : Window) (rest : List ℕ) (ws : List Window) (more : Option (List Window))
    → IsFront bytes w rest
    → ((others : List Window) → more ≡ Some others → list_all is_shortest others ≡ true → AreWire rest others)
    → (more >>= λ others. Some (w ∷ others)) ≡ Some ws → list_all is_shortest ws ≡ true → AreWire bytes ws
with_front bytes w rest ws None front others e short = cc
with_front bytes w rest ws (Some them) front others e short =
    let same : w ∷ them ≡ ws = same_Some _ _ e in
    let all : list_all is_shortest (w ∷ them) ≡ true = ap (λ l. list_all is_shortest l) same ∙ short in
    let parts = and_parts (is_shortest w) (list_all is_shortest them) all in
    let wire = others them refl parts.1 in
    let is : IsWindow w =
    record { number = front.number; some = front.some; most = front.most; bits = front.bits; last = parts.0 } in
    subst (AreWire bytes) same (record {
      whole = front.whole ∙ ap (λ l. wire_of w ++ l) wire.whole;
      are = (is, wire.are);
    })

windows_at : (bound bytes : List ℕ) (ws : List Window) (read : Option (Window × List ℕ)) → window_in bytes ≡ read
    → is_bytes bytes ≡ true → Others bound
    → (read >>= λ window. windows_in bound window.1 >>= λ others. Some (window.0 ∷ others)) ≡ Some ws
    → list_all is_shortest ws ≡ true → AreWire bytes ws
windows_at bound bytes ws None is h others e short = cc
windows_at bound bytes ws (Some (w, rest)) is h others e short =
    let front = window_front bytes w rest h is in
    with_front bytes w rest ws (windows_in bound rest) front (λ them k s. others rest them k front.after s) e short

windows_whole : (bound bytes : List ℕ) (ws : List Window) → windows_in bound bytes ≡ Some ws → is_bytes bytes ≡ true
    → list_all is_shortest ws ≡ true → AreWire bytes ws
unfolding windows_in
windows_whole bound [] ws e h short =
    let same : [] ≡ ws = same_Some _ _ e in subst (AreWire []) same (record { whole = refl; are = tt })
windows_whole [] (b ∷ bs) ws e h short = cc
windows_whole (_ ∷ bound) (b ∷ bs) ws e h short =
    windows_at bound (b ∷ bs) ws (window_in (b ∷ bs)) refl h (windows_whole bound) e short

-- the numbers rise, from this one on
abbrev FromOn : ℕ → List Window → Type 0
FromOn low [] = Unit {0}
FromOn low (w ∷ ws) = (low ≤ w.number) × FromOn (w.number + 1) ws

rising_from : (low : ℕ) (w : Window) (ws : List Window) → low ≤ w.number → are_rising (w ∷ ws) ≡ true
    → FromOn low (w ∷ ws)
rising_from low w [] least h = (least, tt)
rising_from low w (next ∷ ws) least h =
    let parts = and_parts (nat_lt w.number next.number) (are_rising (next ∷ ws)) h in
    let above : w.number < next.number = grind (arith, nat_tests, parts.0) in
    (least, rising_from (w.number + 1) next ws (omega (arith, above)) parts.1)

from_zero : (ws : List Window) → are_rising ws ≡ true → FromOn 0 ws
from_zero [] h = tt
from_zero (w ∷ ws) h = rising_from 0 w ws (omega arith) h

-- ---- types among others

type_append : (a b : List ℕ) (t : ℕ) → has_type (a ++ b) t ≡ (has_type a t || has_type b t)
unfolding has_type
type_append a b t = list_any-append (λ c. c == t) a b

either : (a b : Bool) → a || b ≡ true → (a ≡ true) ⊎ (b ≡ true)
either true b h = inl refl
either false b h = inr h

in_first : (a b : List ℕ) (t : ℕ) → has_type a t ≡ true → has_type (a ++ b) t ≡ true
in_first a b t h = type_append a b t ∙ rw h refl

in_second : (a b : List ℕ) (t : ℕ) → has_type b t ≡ true → has_type (a ++ b) t ≡ true
in_second a b t h = type_append a b t ∙ rest (has_type a t)
  where
    rest : (x : Bool) → (x || has_type b t) ≡ true
    rest true = refl
    rest false = h

in_either : (a b : List ℕ) (t : ℕ) → has_type (a ++ b) t ≡ true → (has_type a t ≡ true) ⊎ (has_type b t ≡ true)
in_either a b t h = either (has_type a t) (has_type b t) (sym (type_append a b t) ∙ h)

one_type : (t : ℕ) → has_type (t ∷ []) t ≡ true
unfolding has_type
one_type t = rw (eq-eqb t t refl) refl

of_one : (a t : ℕ) → has_type (a ∷ []) t ≡ true → a ≡ t
unfolding has_type
of_one a t h =
    elim (cases_Bool (a == t)) [
      | inl same ↦ eqb-true a t same
      | inr other ↦ let none : false ≡ true = rw other at h in cc
    ]

none_of : (t : ℕ) → has_type [] t ≡ false
unfolding has_type
none_of t = refl

-- ---- the types of a window

-- a type stands in the first bits of a window
record IsBit (first : ℕ) (bits : List ℕ) (count t : ℕ) : Type 0 where
  place : ℕ
  is : t ≡ first + place
  within : place < count
  stands : has_bit bits place ≡ true

below_each : (first : ℕ) (bits : List ℕ) (count place : ℕ) → place < count → has_bit bits place ≡ true
    → has_type (types_below first bits count) (first + place) ≡ true
unfolding types_below
below_each first bits zero place within h = absurd (omega (arith, within))
below_each first bits (suc count) place within h =
    elim (cases_Bool (nat_lt place count)) [
      | inl before ↦
          let less : place < count = grind (arith, nat_tests, before) in
          in_first (types_below first bits count) (bit_types first bits count) (first + place)
          (below_each first bits count place less h)
      | inr last ↦
          let most : count ≤ place = grind (arith, nat_tests, last) in
          let same : place ≡ count = omega (arith, most, within) in
          let stands : has_bit bits count ≡ true = subst (λ p. has_bit bits p ≡ true) same h in
          let one : has_type (bit_types first bits count) (first + count) ≡ true =
          rw stands (one_type (first + count)) in
          let types = types_below first bits count ++ bit_types first bits count in
          subst (λ p. has_type types (first + p) ≡ true) (sym same)
          (in_second (types_below first bits count) (bit_types first bits count) (first + count) one)
    ]

one_bit : (first : ℕ) (bits : List ℕ) (count t : ℕ) → has_type (bit_types first bits count) t ≡ true
    → IsBit first bits (suc count) t
one_bit first bits count t h =
    elim (cases_Bool (has_bit bits count)) [
      | inl stands ↦
          let one : has_type ((first + count) ∷ []) t ≡ true = rw stands at h in
          record { place = count; is = sym (of_one (first + count) t one); within = omega arith; stands = stands }
      | inr none ↦
          let empty : has_type [] t ≡ true = rw none at h in
          let no : false ≡ true = sym (none_of t) ∙ empty in cc
    ]

below_only : (first : ℕ) (bits : List ℕ) (count t : ℕ) → has_type (types_below first bits count) t ≡ true
    → IsBit first bits count t
unfolding types_below
below_only first bits zero t h = let no : false ≡ true = sym (none_of t) ∙ h in cc
below_only first bits (suc count) t h =
    elim (in_either (types_below first bits count) (bit_types first bits count) t h) [
      | inl before ↦
          let bit = below_only first bits count t before in
          let within = bit.within in
          record { place = bit.place; is = bit.is; within = omega (arith, within); stands = bit.stands }
      | inr last ↦ one_bit first bits count t last
    ]

-- a type is one of a window
abbrev HasBit : Window → ℕ → Type 0
HasBit w t = (t / 256 ≡ w.number) × (has_bit w.bits (t % 256) ≡ true)

window_only : (w : Window) (t : ℕ) → IsWindow w → has_type (window_types w) t ≡ true → HasBit w t
window_only w t is h =
    let bit = below_only (w.number * 256) w.bits (length w.bits * 8) t h in
    let within = bit.within in
    let most = is.most in
    let same = bit.is in
    let upper : t / 256 ≡ w.number = omega (arith, same, within, most) in
    let lower : t % 256 ≡ bit.place = omega (arith, same, within, most) in
    (upper, ap (has_bit w.bits) lower ∙ bit.stands)

-- a bit that stands is one of the bytes that are there
bit_within : (bits : List ℕ) (place : ℕ) → has_bit bits place ≡ true → place < length bits * 8
bit_within bits place h =
    elim (cases_Bool (nat_lt place (length bits * 8))) [
      | inl before ↦ grind (arith, nat_tests, before)
      | inr over ↦
          let most : length bits * 8 ≤ place = grind (arith, nat_tests, over) in
          let beyond : length bits ≤ place / 8 = omega (arith, most) in
          let none : slice_index bits (place / 8) ≡ 0 = no_byte bits (place / 8) beyond in
          let off : has_bit bits place ≡ false = rw none (zero_bit (7 - place % 8)) in
          let no : false ≡ true = sym off ∙ h in cc
    ]
  where
    no_byte : (bits : List ℕ) (i : ℕ) → length bits ≤ i → slice_index bits i ≡ 0
    no_byte [] i h = refl
    no_byte (b ∷ bs) zero h = absurd (omega (arith, h))
    no_byte (b ∷ bs) (suc i) h = no_byte bs i (omega (arith, h))

    zero_bit : (n : ℕ) → ((0 / 2 ^ n) % 2 == 1) ≡ false
    zero_bit n = rw (zero-div (2 ^ n)) refl

window_each : (w : Window) (t : ℕ) → HasBit w t → has_type (window_types w) t ≡ true
window_each w t (upper, stands) =
    let within = bit_within w.bits (t % 256) stands in
    let same : w.number * 256 + t % 256 ≡ t = omega (arith, upper) in
    subst (λ r. has_type (window_types w) r ≡ true) same
    (below_each (w.number * 256) w.bits (length w.bits * 8) (t % 256) within stands)

-- ---- the types of windows

abbrev Has : List Window → ℕ → Type 0
Has [] t = ⊥
Has (w ∷ ws) t = HasBit w t ⊎ Has ws t

types_only : (ws : List Window) (t : ℕ) → AreWindows ws → has_type (flat_map window_types ws) t ≡ true → Has ws t
types_only [] t are h = let no : false ≡ true = sym (none_of t) ∙ h in cc
types_only (w ∷ ws) t are h =
    elim (in_either (window_types w) (flat_map window_types ws) t h) [
      | inl here ↦ inl (window_only w t are.0 here)
      | inr later ↦ inr (types_only ws t are.1 later)
    ]

types_each : (ws : List Window) (t : ℕ) → Has ws t → has_type (flat_map window_types ws) t ≡ true
types_each [] t h = absurd h
types_each (w ∷ ws) t (inl here) = in_first (window_types w) (flat_map window_types ws) t (window_each w t here)
types_each (w ∷ ws) t (inr later) = in_second (window_types w) (flat_map window_types ws) t (types_each ws t later)

above : (low : ℕ) (ws : List Window) (t : ℕ) → FromOn low ws → Has ws t → low ≤ t / 256
above low [] t from h = absurd h
above low (w ∷ ws) t from (inl here) = let least = from.0 in let upper = here.0 in omega (arith, least, upper)
above low (w ∷ ws) t from (inr later) =
    let least = from.0 in let more = above (w.number + 1) ws t from.1 later in omega (arith, least, more)

-- ---- how many bytes a window has

needed_is : (number t : ℕ) → t / 256 ≡ number → needed number t ≡ t % 256 / 8 + 1
unfolding needed
needed_is number t h = rw (eq-eqb (t / 256) number h) refl

needed_most : (number t m : ℕ) → (t / 256 ≡ number → t % 256 / 8 + 1 ≤ m) → needed number t ≤ m
unfolding needed
needed_most number t m h =
    elim (cases_Bool (t / 256 == number)) [
      | inl same ↦ rw same (h (eqb-true (t / 256) number same))
      | inr other ↦ rw other (omega arith)
    ]

first_type : (t : ℕ) (types : List ℕ) → has_type (t ∷ types) t ≡ true
unfolding has_type
first_type t types = rw (eq-eqb t t refl) refl

later_type : (a : ℕ) (types : List ℕ) (t : ℕ) → has_type types t ≡ true → has_type (a ∷ types) t ≡ true
later_type a types t h = in_second (a ∷ []) types t h

size_below : (types : List ℕ) (number m : ℕ)
    → ((t : ℕ) → has_type types t ≡ true → t / 256 ≡ number → t % 256 / 8 + 1 ≤ m) → window_size types number ≤ m
unfolding window_size
size_below [] number m h = omega arith
size_below (a ∷ types) number m h =
    larger_most (needed number a) (window_size types number) m
    (needed_most number a m (h a (first_type a types)))
    (size_below types number m (λ t is. h t (later_type a types t is)))

size_above : (types : List ℕ) (number t : ℕ) → has_type types t ≡ true → t / 256 ≡ number
    → t % 256 / 8 + 1 ≤ window_size types number
unfolding window_size
size_above [] number t h upper = let no : false ≡ true = sym (none_of t) ∙ h in cc
size_above (a ∷ types) number t h upper =
    elim (in_either (a ∷ []) types t h) [
      | inl here ↦
          let same : needed number a ≡ t % 256 / 8 + 1 =
          ap (needed number) (of_one a t here) ∙ needed_is number t upper in
          let left = larger_left (needed number a) (window_size types number) in
          omega (arith, same, left)
      | inr later ↦
          let rest = size_above types number t later upper in
          let right = larger_right (needed number a) (window_size types number) in
          omega (arith, rest, right)
    ]

-- ---- the bytes of a window

-- these types are, in a window, those of its bits
record IsOf (types : List ℕ) (w : Window) : Type 0 where
  only : (t : ℕ) → t / 256 ≡ w.number → has_type types t ≡ true → has_bit w.bits (t % 256) ≡ true
  each : (t : ℕ) → t / 256 ≡ w.number → has_bit w.bits (t % 256) ≡ true → has_type types t ≡ true

module _ (types : List ℕ) (w : Window) (is : IsWindow w) (of : IsOf types w) where
  half : (n : ℕ) → (n % 2 == 1) ≡ false → n % 2 ≡ 0
  half n h = grind (arith, nat_tests, h)

  -- a type's bit
  bit_at : (place t : ℕ) → place < 256 → t ≡ w.number * 256 + place
      → bit_of types t ≡ slice_index w.bits (place / 8) / 2 ^ (7 - place % 8) % 2
  unfolding bit_of
  bit_at place t within same =
      let upper : t / 256 ≡ w.number = omega (arith, same, within) in
      let lower : t % 256 ≡ place = omega (arith, same, within) in
      let bit = slice_index w.bits (place / 8) / 2 ^ (7 - place % 8) in
      elim (cases_Bool (has_bit w.bits place)) [
        | inl stands ↦
            let there = of.each t upper (ap (has_bit w.bits) lower ∙ stands) in
            rw there (sym (eqb-true (bit % 2) 1 stands))
        | inr off ↦
            elim (cases_Bool (has_type types t)) [
              | inl there ↦
                  let no : false ≡ true = sym off ∙ ap (has_bit w.bits) (sym lower) ∙ of.only t upper there in cc
              | inr none ↦ rw none (sym (half bit off))
            ]
      ]

  -- the bit of a byte
  bit_in : (p i t : ℕ) → p < 32 → i < 8 → t ≡ w.number * 256 + p * 8 + i
      → bit_of types t ≡ slice_index w.bits p / 2 ^ (7 - i) % 2
  bit_in p i t byte within same =
      let upper : (p * 8 + i) / 8 ≡ p = omega (arith, within) in
      let lower : (p * 8 + i) % 8 ≡ i = omega (arith, within) in
      bit_at (p * 8 + i) t (omega (arith, byte, within)) (omega (arith, same))
      ∙ ap (λ q. slice_index w.bits q / 2 ^ (7 - (p * 8 + i) % 8) % 2) upper
      ∙ ap (λ r. slice_index w.bits p / 2 ^ (7 - r) % 2) lower

  octet_back : (p : ℕ) → p < length w.bits → octet_of types (w.number * 256 + p * 8) ≡ slice_index w.bits p
  unfolding octet_of
  octet_back p within =
      let most = is.most in
      let byte : p < 32 = omega (arith, within, most) in
      let below : slice_index w.bits p < 256 = bytes_below w.bits is.bits p in
      let first = w.number * 256 + p * 8 in
      let a : bit_of types (w.number * 256 + p * 8) ≡ slice_index w.bits p / 128 % 2 =
      bit_in p 0 (w.number * 256 + p * 8) byte (omega arith) (omega arith) in
      let b : bit_of types (w.number * 256 + p * 8 + 1) ≡ slice_index w.bits p / 64 % 2 =
      bit_in p 1 (w.number * 256 + p * 8 + 1) byte (omega arith) refl in
      let c : bit_of types (w.number * 256 + p * 8 + 2) ≡ slice_index w.bits p / 32 % 2 =
      bit_in p 2 (w.number * 256 + p * 8 + 2) byte (omega arith) refl in
      let d : bit_of types (w.number * 256 + p * 8 + 3) ≡ slice_index w.bits p / 16 % 2 =
      bit_in p 3 (w.number * 256 + p * 8 + 3) byte (omega arith) refl in
      let e : bit_of types (w.number * 256 + p * 8 + 4) ≡ slice_index w.bits p / 8 % 2 =
      bit_in p 4 (w.number * 256 + p * 8 + 4) byte (omega arith) refl in
      let f : bit_of types (w.number * 256 + p * 8 + 5) ≡ slice_index w.bits p / 4 % 2 =
      bit_in p 5 (w.number * 256 + p * 8 + 5) byte (omega arith) refl in
      let g : bit_of types (w.number * 256 + p * 8 + 6) ≡ slice_index w.bits p / 2 % 2 =
      bit_in p 6 (w.number * 256 + p * 8 + 6) byte (omega arith) refl in
      let h : bit_of types (w.number * 256 + p * 8 + 7) ≡ slice_index w.bits p / 1 % 2 =
      bit_in p 7 (w.number * 256 + p * 8 + 7) byte (omega arith) refl in
      rw (a, b, c, d, e, f, g, h) (sum_of (slice_index w.bits p) below)
    where
      sum_of : (n : ℕ) → n < 256
          → n / 128 % 2 * 128 + n / 64 % 2 * 64 + n / 32 % 2 * 32 + n / 16 % 2 * 16 + n / 8 % 2 * 8 + n / 4 % 2 * 4
          + n / 2 % 2 * 2 + n / 1 % 2 ≡ n
      sum_of n h = omega (arith, h)

  octets_back : (n p : ℕ) → p + n ≡ length w.bits → octets_of types (w.number * 256 + p * 8) n ≡ drop p w.bits
  unfolding octets_of
  octets_back zero p all = sym (no_more (drop p w.bits) (omega (arith, all, length-drop p w.bits)))
    where
      no_more : (l : List ℕ) → length l ≡ 0 → l ≡ []
      no_more [] none = refl
      no_more (b ∷ bs) none = absurd (omega (arith, none))
  octets_back (suc n) p all =
      let within : p < length w.bits = omega (arith, all) in
      let next : w.number * 256 + p * 8 + 8 ≡ w.number * 256 + (p + 1) * 8 = omega arith in
      ap (λ b. b ∷ octets_of types (w.number * 256 + p * 8 + 8) n) (octet_back p within)
      ∙ ap (λ f. slice_index w.bits p ∷ octets_of types f n) next
      ∙ ap (λ l. slice_index w.bits p ∷ l) (octets_back n (p + 1) (omega (arith, all)))
      ∙ ap (λ q. slice_index w.bits p ∷ drop q w.bits) (one_more p)
      ∙ sym (drop-cons w.bits p 0 within)
    where
      one_more : (p : ℕ) → p + 1 ≡ suc p
      one_more p = omega arith

  size_most : window_size types w.number ≤ length w.bits
  size_most =
      size_below types w.number (length w.bits) (λ t there upper.
      let within = bit_within w.bits (t % 256) (of.only t upper there) in omega (arith, within))

  absent : (i : ℕ) → i < 8 → window_size types w.number < length w.bits
      → bit_of types (w.number * 256 + (length w.bits - 1) * 8 + i) ≡ 0
  unfolding bit_of
  absent i within short =
      let some = is.some in
      let most = is.most in
      let t = w.number * 256 + (length w.bits - 1) * 8 + i in
      elim (cases_Bool (has_type types (w.number * 256 + (length w.bits - 1) * 8 + i))) [
        | inr none ↦ rw none refl
        | inl there ↦
            let upper : (w.number * 256 + (length w.bits - 1) * 8 + i) / 256 ≡ w.number =
            omega (arith, some, most, within) in
            let lower : (w.number * 256 + (length w.bits - 1) * 8 + i) % 256 / 8 + 1 ≡ length w.bits =
            omega (arith, some, most, within) in
            let size = size_above types w.number (w.number * 256 + (length w.bits - 1) * 8 + i) there upper in
            absurd (omega (arith, lower, size, short))
      ]

  last_absent : window_size types w.number < length w.bits → slice_index w.bits (length w.bits - 1) ≡ 0
  unfolding octet_of
  last_absent short =
      let some = is.some in
      let first = w.number * 256 + (length w.bits - 1) * 8 in
      let zero_first : bit_of types (w.number * 256 + (length w.bits - 1) * 8) ≡ 0 =
      subst (λ t. bit_of types t ≡ 0) (plus_zero first) (absent 0 (omega arith) short) in
      let byte : octet_of types (w.number * 256 + (length w.bits - 1) * 8) ≡ 0 =
      rw (
        zero_first,
        absent 1 (omega arith) short,
        absent 2 (omega arith) short,
        absent 3 (omega arith) short,
        absent 4 (omega arith) short,
        absent 5 (omega arith) short,
        absent 6 (omega arith) short,
        absent 7 (omega arith) short,
      ) refl in
      sym (octet_back (length w.bits - 1) (omega (arith, some))) ∙ byte
    where
      plus_zero : (n : ℕ) → n + 0 ≡ n
      plus_zero n = omega arith

  size_back : window_size types w.number ≡ length w.bits
  size_back =
      elim (cases_Bool (nat_lt (window_size types w.number) (length w.bits))) [
        | inr enough ↦
            let least : length w.bits ≤ window_size types w.number = grind (arith, nat_tests, enough) in
            let most = size_most in omega (arith, least, most)
        | inl less ↦
            let short : window_size types w.number < length w.bits = grind (arith, nat_tests, less) in
            let zeros = eq-eqb (slice_index w.bits (length w.bits - 1)) 0 (last_absent short) in
            let no : false ≡ true = sym (rw zeros refl) ∙ is.last in cc
      ]

  window_back : window_of types w.number ≡ wire_of w
  unfolding window_of
  window_back =
      let some = is.some in
      let size = size_back in
      let filled : (window_size types w.number == 0) ≡ false = grind (arith, nat_tests, size, some) in
      let first : w.number * 256 + 0 * 8 ≡ w.number * 256 = omega arith in
      let octets : octets_of types (w.number * 256) (length w.bits) ≡ w.bits =
      ap (λ f. octets_of types f (length w.bits)) (sym first) ∙ octets_back (length w.bits) 0 (omega arith) in
      rw (filled, size, octets) refl

-- ---- all windows

no_window : (types : List ℕ) (number : ℕ) → ((t : ℕ) → has_type types t ≡ true → t / 256 ≡ number → ⊥)
    → window_of types number ≡ []
unfolding window_of
no_window types number none =
    let most = size_below types number 0 (λ t there upper. absurd (none t there upper)) in
    let empty : (window_size types number == 0) ≡ true = grind (arith, nat_tests, most) in
    rw empty refl

-- from a number on, the types are those of these windows
record AreOf (types : List ℕ) (low : ℕ) (ws : List Window) : Type 0 where
  are : AreWindows ws
  from : FromOn low ws
  only : (t : ℕ) → low ≤ t / 256 → has_type types t ≡ true → Has ws t
  each : (t : ℕ) → Has ws t → has_type types t ≡ true

first_of : (types : List ℕ) (low : ℕ) (w : Window) (ws : List Window) → AreOf types low (w ∷ ws) → w.number ≡ low
    → IsOf types w
first_of types low w ws all here =
    record {
      only = λ t upper there. only_here t upper (all.only t (omega (arith, here, upper)) there);
      each = λ t upper stands. all.each t (inl (upper, stands));
    }
  where
    only_here : (t : ℕ) → t / 256 ≡ w.number → Has (w ∷ ws) t → has_bit w.bits (t % 256) ≡ true
    only_here t upper (inl bit) = bit.1
    only_here t upper (inr later) =
        let more = above (w.number + 1) ws t all.from.1 later in absurd (omega (arith, more, upper))

rest_of : (types : List ℕ) (low : ℕ) (w : Window) (ws : List Window) → AreOf types low (w ∷ ws) → w.number ≡ low
    → AreOf types (low + 1) ws
rest_of types low w ws all here =
    record {
      are = all.are.1;
      from = subst (λ n. FromOn n ws) (ap (λ n. n + 1) here) all.from.1;
      only = λ t least there. only_later t least (all.only t (omega (arith, least)) there);
      each = λ t later. all.each t (inr later);
    }
  where
    only_later : (t : ℕ) → low + 1 ≤ t / 256 → Has (w ∷ ws) t → Has ws t
    only_later t least (inl bit) = let upper = bit.0 in absurd (omega (arith, least, upper, here))
    only_later t least (inr later) = later

-- no window of this number
skipped : (types : List ℕ) (low : ℕ) (ws : List Window) → AreOf types low ws → FromOn (low + 1) ws
    → AreOf types (low + 1) ws
skipped types low ws all from =
    record {
      are = all.are;
      from = from;
      only = λ t least there. all.only t (omega (arith, least)) there;
      each = all.each;
    }

none_here : (types : List ℕ) (low : ℕ) (ws : List Window) → AreOf types low ws → FromOn (low + 1) ws
    → window_of types low ≡ []
none_here types low ws all from =
    no_window types low (λ t there upper.
    let more = above (low + 1) ws t from (all.only t (omega (arith, upper)) there) in omega (arith, more, upper))

windows_back : (types : List ℕ) (low left : ℕ) (ws : List Window) → low + left ≡ 256 → AreOf types low ws
    → windows_of types low left ≡ flat_map wire_of ws
unfolding windows_of
windows_back types low zero [] all of = refl
windows_back types low zero (w ∷ ws) all of =
    let least = of.from.0 in let most = of.are.0.number in absurd (omega (arith, least, most, all))
windows_back types low (suc left) [] all of =
    rw (none_here types low [] of tt)
    (windows_back types (low + 1) left [] (omega (arith, all)) (skipped types low [] of tt))
windows_back types low (suc left) (w ∷ ws) all of =
    elim (cases_Bool (w.number == low)) [
      | inl same ↦
          let here = eqb-true w.number low same in
          let front : window_of types low ≡ wire_of w =
          ap (window_of types) (sym here) ∙ window_back types w of.are.0 (first_of types low w ws of here) in
          let rest = windows_back types (low + 1) left ws (omega (arith, all)) (rest_of types low w ws of here) in
          rw (front, rest) refl
      | inr other ↦
          let least = of.from.0 in
          let more : low + 1 ≤ w.number = grind (arith, nat_tests, least, other) in
          let from : FromOn (low + 1) (w ∷ ws) = (more, of.from.1) in
          rw (none_here types low (w ∷ ws) of from)
          (windows_back types (low + 1) left (w ∷ ws) (omega (arith, all)) (skipped types low (w ∷ ws) of from))
    ]

of_windows : (bytes types : List ℕ) (ws : List Window) → AreWire bytes ws → are_rising ws ≡ true
    → flat_map window_types ws ≡ types → bitmap_of types ≡ bytes
unfolding bitmap_of
of_windows bytes types ws wire rising same =
    let of : AreOf types 0 ws =
    record {
      are = wire.are;
      from = from_zero ws rising;
      only = λ t least there. types_only ws t wire.are (ap (λ l. has_type l t) same ∙ there);
      each = λ t there. ap (λ l. has_type l t) (sym same) ∙ types_each ws t there;
    } in
    windows_back types 0 256 ws refl of ∙ sym wire.whole

bitmap_at : (bytes types : List ℕ) (windows : Option (List Window)) → is_bytes bytes ≡ true
    → windows_in bytes bytes ≡ windows → (windows >>= types_of) ≡ Some types → bitmap_of types ≡ bytes
bitmap_at bytes types None h is e = cc
bitmap_at bytes types (Some ws) h is e =
    elim (cases_Bool (are_rising ws && list_all is_shortest ws)) [
      | inr other ↦ let none : None ≡ Some types = rw other at e in cc
      | inl good ↦
          let parts = and_parts (are_rising ws) (list_all is_shortest ws) good in
          let same : flat_map window_types ws ≡ types = same_Some _ _ (rw good at e) in
          of_windows bytes types ws (windows_whole bytes bytes ws is h parts.1) parts.0 same
    ]

-- the bitmap of the types that a bitmap lists is the bitmap
pub bitmap_back : (bytes types : List ℕ) → is_bytes bytes ≡ true → types_in bytes ≡ Some types
    → bitmap_of types ≡ bytes
unfolding types_in
bitmap_back bytes types h e = bitmap_at bytes types (windows_in bytes bytes) h refl e

-- ---- the types that a bitmap lists have 16 bits

bit_small : (first : ℕ) (bits : List ℕ) (place m : ℕ) → first + place < m
    → list_all (λ t. nat_lt t m) (bit_types first bits place) ≡ true
bit_small first bits place m within =
    let less : nat_lt (first + place) m ≡ true = grind (arith, nat_tests, within) in
    elim (cases_Bool (has_bit bits place)) [ inl stands ↦ rw (stands, less) refl | inr off ↦ rw off refl ]

below_small : (first : ℕ) (bits : List ℕ) (count m : ℕ) → first + count ≤ m
    → list_all (λ t. nat_lt t m) (types_below first bits count) ≡ true
unfolding types_below
below_small first bits zero m within = refl
below_small first bits (suc count) m within =
    list_all-append (λ t. nat_lt t m) (types_below first bits count) (bit_types first bits count)
    ∙ rw (
      below_small first bits count m (omega (arith, within)),
      bit_small first bits count m (omega (arith, within)),
    ) refl

windows_small : (ws : List Window) → AreWindows ws
    → list_all (λ t. nat_lt t 65536) (flat_map window_types ws) ≡ true
windows_small [] are = refl
windows_small (w ∷ ws) are =
    let number = are.0.number in
    let most = are.0.most in
    list_all-append (λ t. nat_lt t 65536) (window_types w) (flat_map window_types ws)
    ∙ rw (
      below_small (w.number * 256) w.bits (length w.bits * 8) 65536 (omega (arith, number, most)),
      windows_small ws are.1,
    ) refl

small_at : (bytes types : List ℕ) (windows : Option (List Window)) → is_bytes bytes ≡ true
    → windows_in bytes bytes ≡ windows → (windows >>= types_of) ≡ Some types
    → list_all (λ t. nat_lt t 65536) types ≡ true
small_at bytes types None h is e = cc
small_at bytes types (Some ws) h is e =
    elim (cases_Bool (are_rising ws && list_all is_shortest ws)) [
      | inr other ↦ let none : None ≡ Some types = rw other at e in cc
      | inl good ↦
          let parts = and_parts (are_rising ws) (list_all is_shortest ws) good in
          let same : flat_map window_types ws ≡ types = same_Some _ _ (rw good at e) in
          let wire = windows_whole bytes bytes ws is h parts.1 in
          subst (λ l. list_all (λ t. nat_lt t 65536) l ≡ true) same (windows_small ws wire.are)
    ]

pub types_small : (bytes types : List ℕ) → is_bytes bytes ≡ true → types_in bytes ≡ Some types
    → list_all (λ t. nat_lt t 65536) types ≡ true
unfolding types_in
types_small bytes types h e = small_at bytes types (windows_in bytes bytes) h refl e
