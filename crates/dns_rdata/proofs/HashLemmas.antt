-- Hashes and their texts made group by group (RFC 4648, 6).
use Rattle.std.proofs.Common.{◌≡◌, ℕ, ◌+◌, ◌*◌, ◌<◌, ◌≤◌, List, ◌++◌, map, length, take, drop, Result, Ok, Err, sym, ap, ◌∙◌, arith, length-append, true≢false}
use Rattle.std.specs.Prelude.{IfOk, IsOk, OnOk}
use Rattle.std.specs.Result.{result_unwrap_or}
use Rattle.std.specs.Int.Digits.{number_from_digits}
use Rattle.std.proofs.lemmas.List.{append_assoc, append-nil}
use Rattle.dns_model.specs.Nsec3Hash.{symbol, symbol_bits, groups_of_five, five_bytes, base32hex, base32hex_bytes}
use Rattle.dns_model.proofs.HashTextLemmas.{text_more, text_end, bytes_more, bytes_end}

-- the symbols of one group more
pub more_text : (hash rest group after old new : List ℕ) → old ++ base32hex rest ≡ base32hex hash → length old * 5 + length rest * 8 ≡ 160
    → group ≡ take 5 rest → after ≡ drop 5 rest → length after + 5 ≡ length rest
    → new ≡ old ++ map symbol (groups_of_five (number_from_digits 256 group))
    → (new ++ base32hex after ≡ base32hex hash) × (length new * 5 + length after * 8 ≡ 160)
more_text hash rest group after old new is size front back count grown =
    let piece : List ℕ = map symbol (groups_of_five (number_from_digits 256 group)) in
    let enough : 5 ≤ length rest = omega (arith, count) in
    let whole : base32hex rest ≡ piece ++ base32hex after =
    text_more rest enough
    ∙ ap (λ (g : List ℕ). map symbol (groups_of_five (number_from_digits 256 g)) ++ base32hex (drop 5 rest)) (sym front)
    ∙ ap (λ (a : List ℕ). piece ++ base32hex a) (sym back) in
    let longer : length new ≡ length old + 8 = ap length grown ∙ length-append old piece in (
      ap (λ (l : List ℕ). l ++ base32hex after) grown ∙ append_assoc old piece (base32hex after)
          ∙ ap (λ (l : List ℕ). old ++ l) (sym whole) ∙ is,
      omega (arith, longer, count, size),
    )

pub record IsAll (whole parts : List ℕ) (count : ℕ) : Type 0 where
  pub size : length parts ≡ count
  pub same : parts ≡ whole

-- and no group more
pub whole_text : (hash rest text : List ℕ) → text ++ base32hex rest ≡ base32hex hash → length text * 5 + length rest * 8 ≡ 160
    → length rest < 5
    → IsAll (base32hex hash) text 32
whole_text hash rest text is size short = record {
  size = omega (arith, size, short);
  same = sym (append-nil text) ∙ ap (λ (l : List ℕ). text ++ l) (sym (text_end rest short)) ∙ is;
}

-- the bytes of one group more
pub more_bytes : (text rest group after old new : List ℕ) → old ++ base32hex_bytes rest ≡ base32hex_bytes text
    → length old * 8 + length rest * 5 ≡ 160
    → group ≡ take 8 rest → after ≡ drop 8 rest → length after + 8 ≡ length rest
    → new ≡ old ++ five_bytes (number_from_digits 32 (map symbol_bits group))
    → (new ++ base32hex_bytes after ≡ base32hex_bytes text) × (length new * 8 + length after * 5 ≡ 160)
more_bytes text rest group after old new is size front back count grown =
    let piece : List ℕ = five_bytes (number_from_digits 32 (map symbol_bits group)) in
    let enough : 8 ≤ length rest = omega (arith, count) in
    let whole : base32hex_bytes rest ≡ piece ++ base32hex_bytes after =
    bytes_more rest enough
    ∙ ap (λ (g : List ℕ). five_bytes (number_from_digits 32 (map symbol_bits g)) ++ base32hex_bytes (drop 8 rest)) (sym front)
    ∙ ap (λ (a : List ℕ). piece ++ base32hex_bytes a) (sym back) in
    let longer : length new ≡ length old + 5 = ap length grown ∙ length-append old piece in (
      ap (λ (l : List ℕ). l ++ base32hex_bytes after) grown ∙ append_assoc old piece (base32hex_bytes after)
          ∙ ap (λ (l : List ℕ). old ++ l) (sym whole) ∙ is,
      omega (arith, longer, count, size),
    )

pub whole_bytes : (text rest hash : List ℕ) → hash ++ base32hex_bytes rest ≡ base32hex_bytes text
    → length hash * 8 + length rest * 5 ≡ 160 → length rest < 8
    → IsAll (base32hex_bytes text) hash 20
whole_bytes text rest hash is size short = record {
  size = omega (arith, size, short);
  same = sym (append-nil hash) ∙ ap (λ (l : List ℕ). hash ++ l) (sym (bytes_end rest short)) ∙ is;
}

-- a full vector is its array
pub unwrapped : {E : Type 0} (result : Result (List ℕ) E) (items default : List ℕ) → IsOk result → IfOk result (λ array. array ≡ items)
    → result_unwrap_or result default ≡ items
unwrapped (Ok array) items default full same = same
unwrapped (Err e) items default full same = absurd (true≢false (sym full))

pub held : {T E : Type 0} {P : Type 0} (result : Result T E) → IsOk result → OnOk result P → P
held (Ok value) is holds = holds
held (Err e) is holds = absurd (true≢false (sym is))
