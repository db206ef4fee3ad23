-- A hash of 20 bytes is read from base32hex as it was written (RFC 5155, 3.3).
use Rattle.std.proofs.Common.{◌≡◌, ℕ, ◌*◌, ◌/◌, ◌%◌, true, List, [], ◌∷◌, length, map, Some, refl, ap, ◌∙◌, arith}
use Rattle.std.specs.Char.{is_ascii_alphanumeric}
use Rattle.std.specs.Int.Digits.{number_from_digits}
use Rattle.std.specs.List.{list_all}
use Rattle.std.proofs.lemmas.Bool.{eq-eqb}
use Rattle.std.proofs.lemmas.Bool.Decides.{nat_tests}
use Rattle.std.proofs.lemmas.List.Folds.{list_all-append}
use Rattle.dns_model.specs.Bytes.{is_bytes}
use Rattle.dns_model.specs.Nsec3Hash.{base32hex, base32hex_decode, groups_of_five, is_hash_text, is_symbol, symbol}
use Rattle.dns_model.proofs.HashTextLemmas.{below_from, text_length, text_read}

symbol_is : (n : ℕ) → is_symbol (symbol (n % 32)) ≡ true
symbol_is n = grind (arith, nat_tests)

letter_is : (n : ℕ) → is_ascii_alphanumeric (symbol (n % 32)) ≡ true
letter_is n = grind (arith, nat_tests)

eight_symbols : (n : ℕ) → list_all is_symbol (map symbol (groups_of_five n)) ≡ true
eight_symbols n =
    rw (
      symbol_is (n / 34359738368),
      symbol_is (n / 1073741824),
      symbol_is (n / 33554432),
      symbol_is (n / 1048576),
      symbol_is (n / 32768),
      symbol_is (n / 1024),
      symbol_is (n / 32),
      symbol_is n,
    ) refl

eight_letters : (n : ℕ) → list_all is_ascii_alphanumeric (map symbol (groups_of_five n)) ≡ true
eight_letters n =
    rw (
      letter_is (n / 34359738368),
      letter_is (n / 1073741824),
      letter_is (n / 33554432),
      letter_is (n / 1048576),
      letter_is (n / 32768),
      letter_is (n / 1024),
      letter_is (n / 32),
      letter_is n,
    ) refl

symbols_are : (hash : List ℕ) → list_all is_symbol (base32hex hash) ≡ true
unfolding base32hex
symbols_are (a ∷ b ∷ c ∷ d ∷ e ∷ rest) =
    let n = number_from_digits 256 (a ∷ b ∷ c ∷ d ∷ e ∷ []) in
    let first = eight_symbols (number_from_digits 256 (a ∷ b ∷ c ∷ d ∷ e ∷ [])) in
    list_all-append is_symbol (map symbol (groups_of_five n)) (base32hex rest) ∙ rw (first, symbols_are rest) refl
symbols_are hash = refl

-- letters and digits
pub hash_letters : (hash : List ℕ) → list_all is_ascii_alphanumeric (base32hex hash) ≡ true
unfolding base32hex
hash_letters (a ∷ b ∷ c ∷ d ∷ e ∷ rest) =
    let n = number_from_digits 256 (a ∷ b ∷ c ∷ d ∷ e ∷ []) in
    let first = eight_letters (number_from_digits 256 (a ∷ b ∷ c ∷ d ∷ e ∷ [])) in
    list_all-append is_ascii_alphanumeric (map symbol (groups_of_five n)) (base32hex rest)
    ∙ rw (first, hash_letters rest) refl
hash_letters hash = refl

pub hash_size : (hash : List ℕ) → length hash ≡ 20 → length (base32hex hash) ≡ 32
hash_size hash size = text_length hash ∙ ap (λ n. n / 5 * 8) size

pub hash_back : (hash : List ℕ) → is_bytes hash ≡ true → length hash ≡ 20
    → base32hex_decode (base32hex hash) ≡ Some hash
hash_back hash h size =
    let long = eq-eqb (length (base32hex hash)) 32 (hash_size hash size) in
    let symbols = symbols_are hash in
    let whole : length hash % 5 ≡ 0 = ap (λ n. n % 5) size in
    let text : is_hash_text (base32hex hash) ≡ true = rw (long, symbols) refl in
    rw text (ap Some (text_read hash (below_from hash h) whole))
