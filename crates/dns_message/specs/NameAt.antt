-- Names in a message, where a compression pointer may end a row of labels (RFC 1035, 4.1.4).
use Rattle.std.specs.Prelude.{ℕ, zero, suc, ◌+◌, ◌-◌, ◌%◌, ◌==◌, ◌&&◌, List, [], ◌∷◌, length, Result, Ok, Err, nat_le, nat_lt, if◌then◌else◌, slice_index, slice_range}
use Rattle.dns_model.specs.Names.{Labels, wire}
use Rattle.dns_model.specs.Bytes.{u16_at}
use Rattle.dns_message.specs.declared.decode_error.DecodeKind.TheVariants.{Short, BadName}
use Rattle.dns_message.specs.declared.decode_error.DecodeError.{DecodeError}
use Rattle.dns_message.specs.declared.step.Step.{Step}
use Rattle.dns_message.specs.declared.step.Step.TheVariants as step
use Rattle.dns_model.specs.ResultSteps.{◌>>=◌}
use Rattle.dns_message.specs.Reading.{fault}

-- the place that a pointer names: the lower 14 bits of its two bytes
abbrev pub target_at : List ℕ → ℕ → ℕ
target_at bytes pos = u16_at bytes pos % 16384

-- what stands at a place of a name, one row a rule. The row of labels began at `start`; `size` bytes of labels were read before
unfoldable pub step_of : List ℕ → ℕ → ℕ → ℕ → Result Step DecodeError
step_of bytes start pos size =
    -- the length byte reaches past the end
    if nat_le (length bytes) pos then Err (fault Short pos)
    -- the root ends the name
    else if slice_index bytes pos == 0 then Ok step.Root
    -- the top bits are 01 or 10
    else if nat_lt 63 (slice_index bytes pos) && nat_lt (slice_index bytes pos) 192 then Err (fault BadName pos)
    -- a pointer that reaches past the end
    else if nat_le 192 (slice_index bytes pos) && nat_le (length bytes) (pos + 1) then Err (fault Short pos)
    -- a pointer whose target isn't before its row of labels
    else if nat_le 192 (slice_index bytes pos) && nat_le start (target_at bytes pos) then Err (fault BadName pos)
    -- a pointer, whose target begins a row of its own
    else if nat_le 192 (slice_index bytes pos) then Ok (step.Pointer (target_at bytes pos))
    -- a label that reaches past the end
    else if nat_lt (length bytes) (pos + 1 + slice_index bytes pos) then Err (fault Short pos)
    -- a label with which the name, its closing zero byte too, passes 255 bytes
    else if nat_lt 255 (size + 1 + slice_index bytes pos + 1) then Err (fault BadName pos)
    else Ok (step.Label (slice_index bytes pos))

-- a label stands before what is read after it; where a pointer leads on, the name's bytes end after the pointer
abbrev pub after_step : Result Step DecodeError → List ℕ → ℕ → ℕ → ℕ → (ℕ → ℕ → ℕ → Result (Labels × ℕ) DecodeError) → Result (Labels × ℕ) DecodeError
after_step (Err e) bytes start pos size more = Err e
after_step (Ok step.Root) bytes start pos size more = Ok ([], pos + 1)
after_step (Ok (step.Label n)) bytes start pos size more =
    more start (pos + 1 + n) (size + 1 + n) >>= λ name. Ok (slice_range bytes (pos + 1) (pos + 1 + n) ∷ name.0, name.1)
after_step (Ok (step.Pointer target)) bytes start pos size more = more target target size >>= λ name. Ok (name.0, pos + 2)

-- the labels from a place on. The first number only bounds the steps
unfoldable pub labels_from : ℕ → List ℕ → ℕ → ℕ → ℕ → Result (Labels × ℕ) DecodeError
labels_from zero bytes start pos size = Err (fault Short pos)
labels_from (suc bound) bytes start pos size = after_step (step_of bytes start pos size) bytes start pos size (labels_from bound bytes)

-- the labels from a place on, with steps enough: each goes to a pointer's target before its row, or takes room of 255 bytes
unfoldable pub labels_at : List ℕ → ℕ → ℕ → ℕ → Result (Labels × ℕ) DecodeError
labels_at bytes start pos size = labels_from (suc (start + (255 - size))) bytes start pos size

-- the name at a place, and the place after its bytes
unfoldable pub name_at : List ℕ → ℕ → Result (Labels × ℕ) DecodeError
name_at bytes pos = labels_at bytes pos pos 0

-- the same name in wire form, spelled out
unfoldable pub spelled_at : List ℕ → ℕ → Result (List ℕ × ℕ) DecodeError
spelled_at bytes pos = do
  name ← name_at bytes pos
  Ok (wire name.0, name.1)
