-- Bytes and their words: printing and reading, and lengths.
use Rattle.std.proofs.Common.{◌≡◌, ℕ, suc, ◌+◌, ◌%◌, ◌≤◌, ◌==◌, List, [], ◌∷◌, length, codes, Some, unwrap_or, Result, Ok, Err, refl, ap, ◌∙◌, arith, inl, inr}
use Rattle.std.specs.Result.{result_unwrap_or, result_ok}
use Rattle.std.specs.Cmp.Lexicographic.{bytes_decides}
use Rattle.std.proofs.lemmas.Bool.{cases_Bool}
use Rattle.hex.specs.Hex.{decode_of, decode_pairs, pair_value, encode_lower, lower_digits, IsBytes, ◌>>=◌}
use Rattle.hex.specs.declared.error.FromHexError.{FromHexError}
use Rattle.hex.proofs.HexLemmas.{decode_of-encode_lower, length-encode_with}
use Rattle.dns_model.specs.Keys.{bytes_eq}
use Rattle.dns_text.specs.Words.{octets_word, octets_in, hex_in}

ok_same : (xs ys : List ℕ) → ◌≡◌ {A = Result (List ℕ) FromHexError} (Ok xs) (Ok ys) → xs ≡ ys
ok_same xs ys h = ap (λ r. result_unwrap_or r xs) h

some_same : (xs ys : List ℕ) → Some xs ≡ Some ys → xs ≡ ys
some_same xs ys h = ap (λ o. unwrap_or o xs) h

pair_short : (first : Result ℕ FromHexError) (others : Result (List ℕ) FromHexError) (xs : List ℕ) (n : ℕ)
    → (first >>= λ byte. others >>= λ bytes. Ok (byte ∷ bytes)) ≡ Ok xs
    → ((ys : List ℕ) → others ≡ Ok ys → length ys ≤ n) → length xs ≤ suc n
pair_short (Err e) others xs n h below = cc
pair_short (Ok byte) (Err e) xs n h below = cc
pair_short (Ok byte) (Ok bytes) xs n h below =
    let same : byte ∷ bytes ≡ xs = ok_same _ _ h in
    let fits : length bytes ≤ n = below bytes refl in
    rw (← same) (omega arith)

pairs_short : (i : ℕ) (word xs : List ℕ) → decode_pairs i word ≡ Ok xs → length xs ≤ length word
unfolding decode_pairs
pairs_short i [] xs h = let same : [] ≡ xs = ok_same _ _ h in rw (← same) (omega arith)
pairs_short i (c ∷ []) xs h = cc
pairs_short i (high ∷ low ∷ rest) xs h =
    let more =
    pair_short (pair_value high low i) (decode_pairs (i + 2) rest) xs (length rest) h
    (λ ys e. pairs_short (i + 2) rest ys e) in
    omega (arith, more)

if_pairs : (word : List ℕ) (r : Result (List ℕ) FromHexError) (xs : List ℕ) → decode_of word ≡ r
    → result_ok r ≡ Some xs → decode_of word ≡ Ok xs
if_pairs word (Ok ys) xs e h = e ∙ ap Ok (some_same _ _ h)
if_pairs word (Err error) xs e h = cc

hex_short : (word xs : List ℕ) → hex_in word ≡ Some xs → length xs ≤ length word
hex_short [] xs h = cc
hex_short (c ∷ cs) xs h =
    let word = c ∷ cs in
    let read : decode_of (c ∷ cs) ≡ Ok xs = if_pairs (c ∷ cs) (decode_of (c ∷ cs)) xs refl h in
    elim (cases_Bool (length (c ∷ cs) % 2 == 1)) [
      | inl odd ↦ let none = rw odd at read in cc
      | inr even ↦ pairs_short 0 (c ∷ cs) xs (rw even at read)
    ]

-- bytes are no more than the digits of their word
pub octets_short : (word xs : List ℕ) → octets_in word ≡ Some xs → length xs ≤ length word
unfolding octets_in
octets_short word xs h =
    elim (cases_Bool (bytes_eq word (codes "-"))) [
      | inl is ↦ let same : [] ≡ xs = some_same _ _ (rw is at h) in rw (← same) (omega arith)
      | inr isnt ↦ hex_short word xs (rw isnt at h)
    ]

hex_back : (word bytes : List ℕ) → 2 ≤ length word → decode_of word ≡ Ok bytes → octets_in word ≡ Some bytes
unfolding octets_in
hex_back [] bytes long h = absurd (omega arith)
hex_back (c ∷ cs) bytes long h =
    elim (cases_Bool (bytes_eq (c ∷ cs) (codes "-"))) [
      | inl is ↦
          let same : length (c ∷ cs) ≡ 1 = ap (λ w. length w) ((bytes_decides (c ∷ cs) (codes "-")).0 is) in
          absurd (omega arith)
      | inr isnt ↦ rw isnt (ap result_ok h)
    ]

-- a printed word is read as the same bytes
pub octets_back : (bytes : List ℕ) → IsBytes bytes → octets_in (octets_word bytes) ≡ Some bytes
unfolding octets_in octets_word
octets_back [] h = refl
octets_back (b ∷ bs) h =
    let size = length-encode_with lower_digits (b ∷ bs) in
    hex_back (encode_lower (b ∷ bs)) (b ∷ bs) (omega (arith, size)) (decode_of-encode_lower (b ∷ bs) h)
