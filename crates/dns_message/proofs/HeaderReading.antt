-- A header's six numbers stand in its first twelve bytes. Where there are fewer, the fault is at the first that isn't whole.
use Rattle.std.proofs.Common.{◌≡◌, ℕ, ◌+◌, ◌*◌, ◌/◌, ◌≤◌, ◌<◌, true, false, List, length, Ok, Err, refl, arith, inl, inr}
use Rattle.std.specs.Prelude.{nat_lt}
use Rattle.std.proofs.lemmas.Bool.{cases_lt}
use Rattle.std.proofs.lemmas.Bool.Decides.{nat_tests}
use Rattle.dns_model.specs.Bytes.{u16_at}
use Rattle.dns_message.specs.declared.decode_error.DecodeKind.TheVariants.{Short}
use Rattle.dns_message.specs.Reading.{fault, u16_field}
use Rattle.dns_message.specs.MessageAt.{header_at}

field_short : (bytes : List ℕ) (pos : ℕ) → length bytes < pos + 2 → u16_field bytes pos ≡ Err (fault Short pos)
unfolding u16_field
field_short bytes pos short = let test : nat_lt (length bytes) (pos + 2) ≡ true = grind (arith, nat_tests, short) in rw test refl

field_whole : (bytes : List ℕ) (pos : ℕ) → pos + 2 ≤ length bytes → u16_field bytes pos ≡ Ok (u16_at bytes pos, pos + 2)
unfolding u16_field
field_whole bytes pos inside = let test : nat_lt (length bytes) (pos + 2) ≡ false = grind (arith, nat_tests, inside) in rw test refl

pub header_whole : (bytes : List ℕ) → 12 ≤ length bytes
    → header_at bytes ≡ Ok (record {
      id = u16_at bytes 0;
      flags = u16_at bytes 2;
      questions = u16_at bytes 4;
      answers = u16_at bytes 6;
      authorities = u16_at bytes 8;
      additionals = u16_at bytes 10;
    })
unfolding header_at
header_whole bytes whole =
    let a = field_whole bytes 0 (omega (arith, whole)) in
    let b = field_whole bytes 2 (omega (arith, whole)) in
    let c = field_whole bytes 4 (omega (arith, whole)) in
    let d = field_whole bytes 6 (omega (arith, whole)) in
    let e = field_whole bytes 8 (omega (arith, whole)) in
    let f = field_whole bytes 10 (omega (arith, whole)) in
    rw (a, b, c, d, e, f) refl

pub header_short : (bytes : List ℕ) → length bytes < 12 → header_at bytes ≡ Err (fault Short (length bytes / 2 * 2))
unfolding header_at
header_short bytes short =
    elim (cases_lt (length bytes) 2) [
      | inl below ↦
          let place : length bytes / 2 * 2 ≡ 0 = omega (arith, below) in
          rw (field_short bytes 0 (omega (arith, below)), place) refl
      | inr two ↦ let a = field_whole bytes 0 (omega (arith, two)) in elim (cases_lt (length bytes) 4) [
        | inl below ↦
            let place : length bytes / 2 * 2 ≡ 2 = omega (arith, two, below) in
            rw (a, field_short bytes 2 (omega (arith, below)), place) refl
        | inr four ↦ let b = field_whole bytes 2 (omega (arith, four)) in elim (cases_lt (length bytes) 6) [
          | inl below ↦
              let place : length bytes / 2 * 2 ≡ 4 = omega (arith, four, below) in
              rw (a, b, field_short bytes 4 (omega (arith, below)), place) refl
          | inr six ↦ let c = field_whole bytes 4 (omega (arith, six)) in elim (cases_lt (length bytes) 8) [
            | inl below ↦
                let place : length bytes / 2 * 2 ≡ 6 = omega (arith, six, below) in
                rw (a, b, c, field_short bytes 6 (omega (arith, below)), place) refl
            | inr eight ↦ let d = field_whole bytes 6 (omega (arith, eight)) in elim (cases_lt (length bytes) 10) [
              | inl below ↦
                  let place : length bytes / 2 * 2 ≡ 8 = omega (arith, eight, below) in
                  rw (a, b, c, d, field_short bytes 8 (omega (arith, below)), place) refl
              | inr ten ↦
                  let place : length bytes / 2 * 2 ≡ 10 = omega (arith, ten, short) in
                  let e = field_whole bytes 8 (omega (arith, ten)) in
                  rw (a, b, c, d, e, field_short bytes 10 (omega (arith, short)), place) refl
            ]
          ]
        ]
      ]
    ]
