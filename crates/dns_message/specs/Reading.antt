-- Reading from left to right: a value with the place after it, or the first fault that is met (RFC 1035, 4.1).
use Rattle.std.specs.Prelude.{◌≡◌, ℕ, ◌+◌, List, length, Result, Ok, Err, nat_lt, if◌then◌else◌}
use Rattle.dns_model.specs.Bytes.{u16_at, u32_at}
use Rattle.dns_message.specs.declared.decode_error.DecodeKind.{DecodeKind}
use Rattle.dns_message.specs.declared.decode_error.DecodeKind.TheVariants as kinds
use Rattle.dns_message.specs.declared.decode_error.DecodeError.{DecodeError}

-- what is wrong, and the place of the byte at which it is
abbrev pub fault : DecodeKind → ℕ → DecodeError
fault kind place = record { kind = kind; offset = place }

abbrev pub FailsWith : {Y : Type 0} → DecodeKind → ℕ → Result Y DecodeError → Type 0
FailsWith kinds.NoMemory place read = Unit {0}
FailsWith kind place read = read ≡ Err (fault kind place)

-- what a call returned, seen by `view`, is what reading gives, unless memory ran out
abbrev pub Reads : {X Y : Type 0} → (X → Y) → Result X DecodeError → Result Y DecodeError → Type 0
Reads view (Ok x) read = read ≡ Ok (view x)
Reads view (Err e) read = FailsWith e.kind e.offset read

-- a number of two bytes, the highest first, and the place after it
unfoldable pub u16_field : List ℕ → ℕ → Result (ℕ × ℕ) DecodeError
u16_field bytes pos = if nat_lt (length bytes) (pos + 2) then Err (fault kinds.Short pos) else Ok (u16_at bytes pos, pos + 2)

-- a number of four bytes, the highest first, and the place after it
unfoldable pub u32_field : List ℕ → ℕ → Result (ℕ × ℕ) DecodeError
u32_field bytes pos = if nat_lt (length bytes) (pos + 4) then Err (fault kinds.Short pos) else Ok (u32_at bytes pos, pos + 4)
