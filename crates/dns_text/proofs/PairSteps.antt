-- The reading of pairs of digits, pair by pair.
use Rattle.std.proofs.Common.{◌≡◌, ℕ, ◌+◌, ◌*◌, ◌%◌, ◌<◌, ◌≤◌, false, nat_lt, max, List, [], ◌∷◌, ◌++◌, length, take, drop, slice_index, slice_set, Option, None, Some, unwrap_or, cond, codes, Result, Ok, Err, refl, ap, ◌∙◌, arith}
use Rattle.std.proofs.lemmas.Bool.Decides.{nat_tests}
use Rattle.std.proofs.lemmas.List.{append_assoc, append-nil, drop_all, take_all, take_more_set}
use Rattle.hex.specs.Hex.{decode_pairs, hex_digit_value, digit_or_error, ◌>>=◌}
use Rattle.hex.specs.declared.error.FromHexError.{FromHexError}
use Rattle.hex.proofs.HexLemmas.{decode_of-even, decode_of-odd}
use Rattle.hex.proofs.Pairs.{drop-pair}
use Rattle.dns_model.specs.Keys.{bytes_eq}
use Rattle.dns_text.specs.Words.{octets_in}
use Rattle.dns_text.specs.Pairs.{with_byte, with_pair, pairs_in}
use Rattle.std.specs.Result.{result_ok}

-- pairs are read as the crate for hexadecimal digits defines it, but for what an error says
pub pairs_are : (i : ℕ) (s : List ℕ) → result_ok (decode_pairs i s) ≡ pairs_in s
unfolding decode_pairs pairs_in
pairs_are i [] = refl
pairs_are i (c ∷ []) = refl
pairs_are i (high ∷ low ∷ rest) =
    pair_is (hex_digit_value high) (hex_digit_value low) (decode_pairs (i + 2) rest) (pairs_in rest)
    (pairs_are (i + 2) rest)
  where
    pair_is : (h l : Option ℕ) (r : Result (List ℕ) FromHexError) (o : Option (List ℕ)) → result_ok r ≡ o
        → result_ok ((digit_or_error high i h >>= λ a. digit_or_error low (i + 1) l >>= λ b. Ok (a * 16 + b)) >>= λ byte.
        r >>= λ bytes. Ok (byte ∷ bytes))
        ≡ with_pair h l o
    pair_is None l r o e = refl
    pair_is (Some a) None r o e = refl
    pair_is (Some a) (Some b) (Ok bytes) o e = rw (← e) refl
    pair_is (Some a) (Some b) (Err d) o e = rw (← e) refl

-- the bytes before those of the rest, where the worst digit is one
abbrev pub finish : ℕ → List ℕ → Option (List ℕ) → Option (List ℕ)
finish worst front None = None
finish worst front (Some rest) = cond (nat_lt worst 16) (Some (front ++ rest)) None

finish_bad : (worst : ℕ) (front : List ℕ) (rest : Option (List ℕ)) → 16 ≤ worst → None ≡ finish worst front rest
finish_bad worst front None h = refl
finish_bad worst front (Some rest) h = let bad : nat_lt worst 16 ≡ false = grind (arith, nat_tests) in rw bad refl

small_digit : (c v : ℕ) → hex_digit_value c ≡ Some v → v < 16
small_digit c v h = grind (arith)

finish_good : (worst a b : ℕ) (front : List ℕ) (rest : Option (List ℕ)) → a < 16 → b < 16
    → finish worst front (with_byte (a * 16 + b) rest) ≡ finish (max (max worst a) b)
    (front ++ (a % 16 * 16 + b % 16) ∷ []) rest
finish_good worst a b front None first second = refl
finish_good worst a b front (Some rest) first second =
    let worse : nat_lt (max (max worst a) b) 16 ≡ nat_lt worst 16 = grind (arith, nat_tests) in
    let same : a % 16 * 16 + b % 16 ≡ a * 16 + b = omega (arith, first, second) in
    rw (worse, same, append_assoc front ((a * 16 + b) ∷ []) rest) refl

pair_step : (worst x y : ℕ) (front : List ℕ) (rest : Option (List ℕ)) (h l : Option ℕ) → hex_digit_value x ≡ h
    → hex_digit_value y ≡ l
    → finish worst front (with_pair h l rest)
    ≡ finish (max (max worst (unwrap_or h 16)) (unwrap_or l 16)) (front ++ (unwrap_or h 16 % 16 * 16 + unwrap_or l 16 % 16) ∷ []) rest
pair_step worst x y front rest None l e f =
    let bad : 16 ≤ max (max worst 16) (unwrap_or l 16) =
    grind (arith) in finish_bad (max (max worst 16) (unwrap_or l 16)) _ rest bad
pair_step worst x y front rest (Some a) None e f =
    let bad : 16 ≤ max (max worst a) 16 = grind (arith) in finish_bad (max (max worst a) 16) _ rest bad
pair_step worst x y front rest (Some a) (Some b) e f =
    finish_good worst a b front rest (small_digit x a e) (small_digit y b f)

-- one pair more is read
pub pairs_step : (s out : List ℕ) (i worst high low : ℕ) → 2 * i + 1 < length s → i < length out
    → high ≡ unwrap_or (hex_digit_value (slice_index s (2 * i))) 16
    → low ≡ unwrap_or (hex_digit_value (slice_index s (2 * i + 1))) 16
    → pairs_in s ≡ finish worst (take i out) (pairs_in (drop (2 * i) s))
    → pairs_in s ≡ finish (max (max worst high) low) (take (i + 1) (slice_set out i (high % 16 * 16 + low % 16)))
    (pairs_in (drop (2 * (i + 1)) s))
unfolding pairs_in
pairs_step s out i worst high low fits room e f inv =
    inv ∙ ap (λ t. finish worst (take i out) (pairs_in t)) (drop-pair s i fits)
    ∙ rw (
      e,
      f,
      take_more_set out i (unwrap_or (hex_digit_value (slice_index s (2 * i))) 16 % 16 * 16 + unwrap_or
          (hex_digit_value (slice_index s (2 * i + 1))) 16 % 16) room,
    )
    (pair_step worst (slice_index s (2 * i)) (slice_index s (2 * i + 1)) (take i out) (pairs_in (drop (2 * (i + 1)) s)) _ _ refl refl)

-- nothing is read yet
pub pairs_start : (s out : List ℕ) → pairs_in s ≡ finish 0 (take 0 out) (pairs_in (drop (2 * 0) s))
pairs_start s out = start (pairs_in s)
  where
    start : (o : Option (List ℕ)) → o ≡ finish 0 [] o
    start None = refl
    start (Some bytes) = refl

-- all is read
pub pairs_end : (s out : List ℕ) (i worst : ℕ) → length out ≤ i → length s ≤ 2 * i
    → pairs_in s ≡ finish worst (take i out) (pairs_in (drop (2 * i) s))
    → pairs_in s ≡ cond (nat_lt worst 16) (Some out) None
unfolding pairs_in
pairs_end s out i worst h fits inv =
    inv ∙ ap (λ t. finish worst (take i out) (pairs_in t)) (drop_all (2 * i) s fits)
    ∙ rw (append-nil (take i out), take_all i out h) refl

-- ---- words

-- an even number of digits
pub even_word : (word : List ℕ) → bytes_eq word (codes "-") ≡ false → 0 < length word → length word % 2 ≡ 0
    → octets_in word ≡ pairs_in word
unfolding octets_in
even_word [] isnt long even = absurd (omega (arith, long))
even_word (c ∷ cs) isnt long even = rw isnt (ap result_ok (decode_of-even (c ∷ cs) even) ∙ pairs_are 0 (c ∷ cs))

pub odd_word : (word : List ℕ) → bytes_eq word (codes "-") ≡ false → length word % 2 ≡ 1 → octets_in word ≡ None
unfolding octets_in
odd_word [] isnt odd = absurd (omega (arith, odd))
odd_word (c ∷ cs) isnt odd = rw isnt (ap result_ok (decode_of-odd (c ∷ cs) odd))
