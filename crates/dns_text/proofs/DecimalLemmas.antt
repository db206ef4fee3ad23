-- Reading digits one by one, and the number that they are.
use Rattle.std.proofs.Common.{◌≡◌, ℕ, ◌+◌, ◌-◌, ◌*◌, ◌^◌, ◌<◌, ◌≤◌, Bool, true, false, ◌&&◌, nat_lt, nat_le, List, [], ◌∷◌, length, drop, drop-cons, slice_index, inl, inr, Option, None, Some, if◌then◌else◌, refl, sym, ◌∙◌, arith, add-one}
use Rattle.std.specs.Char.{is_ascii_digit, digit_value}
use Rattle.std.specs.Str.{all_ascii_digits}
use Rattle.std.specs.Str.Parse.{digits_value, digits_value_after}
use Rattle.std.proofs.lemmas.Bool.Decides.{nat_tests}
use Rattle.std.proofs.lemmas.Bool.{cases_lt, cases_Bool, le-leb, lt-leb}
use Rattle.std.proofs.Math.ListN.{drop_of_length-le}
use Rattle.dns_text.specs.Words.{is_unpadded, decimal_in}
use Rattle.dns_text.specs.Digits.{with_digit, read_after}
use Rattle.dns_model.specs.OptionSteps.{◌>>=◌}

-- more digits never make a number smaller
digits_after_grow : (n : ℕ) (cs : List ℕ) → n ≤ digits_value_after 10 n cs
digits_after_grow n [] = omega arith
digits_after_grow n (c ∷ cs) = let more = digits_after_grow (n * 10 + digit_value c) cs in omega (arith, more)

-- the value of a digit
digit_value_is : (c : ℕ) → is_ascii_digit c ≡ true → digit_value c ≡ c - 48
digit_value_is c h = grind (arith, nat_tests)

with_digit_yes : (n c : ℕ) → is_ascii_digit c ≡ true → n * 10 + digit_value c < 2 ^ 64
    → with_digit n c ≡ Some (n * 10 + digit_value c)
unfolding with_digit
with_digit_yes n c h fits =
    let e =
    digit_value_is c h in rw (h, e)
    (let f : n * 10 + (c - 48) < 2 ^ 64 = omega (arith, e, fits) in grind (arith, nat_tests))

with_digit_other : (n c : ℕ) → is_ascii_digit c ≡ false → with_digit n c ≡ None
unfolding with_digit
with_digit_other n c h = rw h refl

with_digit_over : (n c : ℕ) → is_ascii_digit c ≡ true → 2 ^ 64 ≤ n * 10 + digit_value c → with_digit n c ≡ None
unfolding with_digit
with_digit_over n c h over =
    let e =
    digit_value_is c h in rw h (let f : 2 ^ 64 ≤ n * 10 + (c - 48) = omega (arith, e, over) in grind (arith, nat_tests))

-- one turn of the reading
pub read_after_turn : (n i : ℕ) (word : List ℕ) → i < length word
    → read_after n (drop i word) ≡ (with_digit n (slice_index word i) >>= λ m. read_after m (drop (i + 1) word))
unfolding read_after
read_after_turn n i word h = rw (add-one, drop-cons word i 0) refl

-- at the end the number is there
pub read_after_end : (n i : ℕ) (word : List ℕ) → length word ≤ i → read_after n (drop i word) ≡ Some n
unfolding read_after
read_after_end n i word h = rw (drop_of_length-le word h) refl

-- the number where every byte is a digit and it has 64 bits
abbrev checked_value : ℕ → List ℕ → Option ℕ
checked_value n cs =
    if all_ascii_digits cs && nat_lt (digits_value_after 10 n cs) (2 ^ 64) then Some (digits_value_after 10 n cs) else None

read_after_is : (n : ℕ) (cs : List ℕ) → n < 2 ^ 64 → read_after n cs ≡ checked_value n cs
unfolding read_after
read_after_is n [] h = grind (arith, nat_tests)
read_after_is n (c ∷ cs) h =
    elim (cases_Bool (is_ascii_digit c)) [
      | inl is ↦ elim (cases_lt (n * 10 + digit_value c) (2 ^ 64)) [
        | inl fits ↦ rw (with_digit_yes n c is fits, is) (read_after_is (n * 10 + digit_value c) cs fits)
        | inr over ↦ let more = digits_after_grow (n * 10 + digit_value c) cs in
            let large : 2 ^ 64 ≤ digits_value_after 10 (n * 10 + digit_value c) cs = omega (arith, more, over) in
            rw (with_digit_over n c is over, is) (grind (arith, nat_tests))
      ]
      | inr isnt ↦ rw (with_digit_other n c isnt, isnt) refl
    ]

-- no number of 64 bits, so none up to a limit below
no_value : (plain digits : Bool) (v limit : ℕ) → limit < 2 ^ 64
    → (if digits && nat_lt v (2 ^ 64) then Some v else None) ≡ None
    → (if (plain && digits) && nat_le v limit then Some v else None) ≡ None
no_value true false v limit fits h = refl
no_value false false v limit fits h = refl
no_value false true v limit fits h = refl
no_value true true v limit fits h = grind (arith, nat_tests)

some_value : (digits : Bool) (v n limit : ℕ) → (if digits && nat_lt v (2 ^ 64) then Some v else None) ≡ Some n
    → (if digits && nat_le v limit then Some v else None) ≡ (if nat_le n limit then Some n else None)
some_value false v n limit h = cc h
some_value true v n limit h = grind (arith, nat_tests)

pub decimal_from_none : (limit : ℕ) (word : List ℕ) → limit < 2 ^ 64 → read_after 0 word ≡ None
    → decimal_in limit word ≡ None
unfolding decimal_in
decimal_from_none limit word fits h =
    no_value (is_unpadded word) (all_ascii_digits word) (digits_value 10 word) limit fits
    (sym (read_after_is 0 word (omega arith)) ∙ h)

pub decimal_from_some : (limit n : ℕ) (word : List ℕ) → is_unpadded word ≡ true → read_after 0 word ≡ Some n
    → decimal_in limit word ≡ (if nat_le n limit then Some n else None)
unfolding decimal_in
decimal_from_some limit n word plain h =
    rw plain (some_value (all_ascii_digits word) (digits_value 10 word) n limit (sym (read_after_is 0 word (omega arith)) ∙ h))

pub decimal_padded : (limit : ℕ) (word : List ℕ) → is_unpadded word ≡ false → decimal_in limit word ≡ None
unfolding decimal_in
decimal_padded limit word h = rw h refl

pub decimal_within : (limit n : ℕ) (word : List ℕ) → is_unpadded word ≡ true → Some n ≡ read_after 0 word → n ≤ limit
    → Some n ≡ decimal_in limit word
decimal_within limit n word plain h within =
    sym (decimal_from_some limit n word plain (sym h) ∙ rw (le-leb n limit within) refl)

pub decimal_above : (limit n : ℕ) (word : List ℕ) → is_unpadded word ≡ true → Some n ≡ read_after 0 word → limit < n
    → None ≡ decimal_in limit word
decimal_above limit n word plain h above =
    sym (decimal_from_some limit n word plain (sym h) ∙ rw (lt-leb n limit above) refl)
