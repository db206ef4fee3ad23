-- Bytes that stand at a place, and the numbers that are read there.
use Rattle.std.proofs.Common.{◌≡◌, ℕ, ◌+◌, ◌-◌, ◌/◌, ◌%◌, ◌≤◌, ◌<◌, false, List, [], ◌++◌, length, get_or, drop, Ok, refl, sym, ap, ◌∙◌, append_assoc, arith, length-append, add-zero}
use Rattle.std.specs.Prelude.{nat_lt, slice_range}
use Rattle.std.proofs.lemmas.Bool.Decides.{nat_tests}
use Rattle.std.proofs.lemmas.List.{take_at, drop_at, get_or-append-add, get_or_append_left, append-nil}
use Rattle.dns_model.specs.Bytes.{u16_at, u32_at, u16_bytes, u32_bytes}
use Rattle.dns_message.specs.Reading.{u16_field, u32_field}

-- the bytes have this part at a place
pub record Stands (bytes : List ℕ) (pos : ℕ) (part : List ℕ) : Type 0 where
  pub before : List ℕ
  pub after : List ℕ
  pub whole : bytes ≡ before ++ (part ++ after)
  pub long : length before ≡ pos

pub stands_whole : (bytes : List ℕ) → Stands bytes 0 bytes
stands_whole bytes = record { before = []; after = []; whole = sym (append-nil bytes); long = refl }

pub stands_front : (bytes : List ℕ) (pos : ℕ) (a b : List ℕ) → Stands bytes pos (a ++ b) → Stands bytes pos a
stands_front bytes pos a b s = record {
  before = s.before;
  after = b ++ s.after;
  whole = s.whole ∙ ap (λ (x : List ℕ). s.before ++ x) (append_assoc a b s.after);
  long = s.long;
}

pub stands_back : (bytes : List ℕ) (pos : ℕ) (a b : List ℕ) → Stands bytes pos (a ++ b) → Stands bytes (pos + length a) b
stands_back bytes pos a b s = record {
  before = s.before ++ a;
  after = s.after;
  whole = s.whole ∙ ap (λ (x : List ℕ). s.before ++ x) (append_assoc a b s.after) ∙ sym (append_assoc s.before a (b ++ s.after));
  long = length-append s.before a ∙ ap (λ (n : ℕ). n + length a) s.long;
}

pub stands_inside : (bytes : List ℕ) (pos : ℕ) (part : List ℕ) → Stands bytes pos part → pos + length part ≤ length bytes
stands_inside bytes pos part s =
    omega (arith, ap length s.whole, length-append s.before (part ++ s.after), length-append part s.after, s.long)

pub stands_range : (bytes : List ℕ) (pos : ℕ) (part : List ℕ) → Stands bytes pos part → slice_range bytes pos (pos + length part) ≡ part
stands_range bytes pos part s =
    let n : pos + length part - pos ≡ length part = omega arith in
    let rest : drop pos bytes ≡ part ++ s.after = ap (drop pos) s.whole ∙ drop_at s.before (part ++ s.after) pos s.long in
    rw (n, rest) (take_at part s.after (length part) refl)

-- one byte of it
pub stands_byte : (bytes : List ℕ) (pos : ℕ) (part : List ℕ) (i : ℕ) → Stands bytes pos part → i < length part
    → get_or bytes (pos + i) 0 ≡ get_or part i 0
stands_byte bytes pos part i s lt =
    ap (λ (b : List ℕ). get_or b (pos + i) 0) s.whole
    ∙ ap (λ (n : ℕ). get_or (s.before ++ (part ++ s.after)) (n + i) 0) (sym s.long)
    ∙ get_or-append-add s.before (part ++ s.after) i 0
    ∙ get_or_append_left part s.after 0 i lt

pub stands_u16 : (bytes : List ℕ) (pos n : ℕ) → Stands bytes pos (u16_bytes n) → u16_field bytes pos ≡ Ok (n, pos + 2)
unfolding u16_field
stands_u16 bytes pos n s =
    let inside : pos + 2 ≤ length bytes = stands_inside bytes pos (u16_bytes n) s in
    let a : get_or bytes pos 0 ≡ n / 256 = ap (λ (k : ℕ). get_or bytes k 0) (sym (add-zero pos))
    ∙ stands_byte bytes pos (u16_bytes n) 0 s (omega arith) in
    let b : get_or bytes (pos + 1) 0 ≡ n % 256 = stands_byte bytes pos (u16_bytes n) 1 s (omega arith) in
    let value : u16_at bytes pos ≡ n = omega (arith, a, b) in
    let test : nat_lt (length bytes) (pos + 2) ≡ false = grind (arith, nat_tests, inside) in
    rw (test, value) refl

pub stands_u32 : (bytes : List ℕ) (pos n : ℕ) → Stands bytes pos (u32_bytes n) → u32_field bytes pos ≡ Ok (n, pos + 4)
unfolding u32_field
stands_u32 bytes pos n s =
    let inside : pos + 4 ≤ length bytes = stands_inside bytes pos (u32_bytes n) s in
    let a : get_or bytes pos 0 ≡ n / 16777216 = ap (λ (k : ℕ). get_or bytes k 0) (sym (add-zero pos))
    ∙ stands_byte bytes pos (u32_bytes n) 0 s (omega arith) in
    let b : get_or bytes (pos + 1) 0 ≡ n / 65536 % 256 = stands_byte bytes pos (u32_bytes n) 1 s (omega arith) in
    let c : get_or bytes (pos + 2) 0 ≡ n / 256 % 256 = stands_byte bytes pos (u32_bytes n) 2 s (omega arith) in
    let d : get_or bytes (pos + 3) 0 ≡ n % 256 = stands_byte bytes pos (u32_bytes n) 3 s (omega arith) in
    let three : pos + 2 + 1 ≡ pos + 3 = omega arith in
    let value : u32_at bytes pos ≡ n = rw three (omega (arith, a, b, c, d)) in
    let test : nat_lt (length bytes) (pos + 4) ≡ false = grind (arith, nat_tests, inside) in
    rw (test, value) refl
