-- For private functions of this crate only: bytes that are read, and the steps in which a name in them is (RFC 1035, 4.1.4).
use Rattle.std.specs.Prelude.{◌≡◌, ℕ, ◌+◌, ◌-◌, ◌<◌, ◌^◌, length, Result, Ok}
use Rattle.dns_message.specs.declared.message_bytes.MessageBytes.{MessageBytes}
use Rattle.dns_model.specs.ResultSteps.{◌>>=◌}
use Rattle.dns_model.specs.Names.{Labels}
use Rattle.dns_message.specs.declared.decode_error.DecodeError.{DecodeError}

-- each step of reading a name lessens this: a pointer goes before its row, a label takes room
abbrev pub steps_left : ℕ → ℕ → ℕ
steps_left start size = start + (255 - size)

-- a name whose bytes end at this place
abbrev pub ending_at : ℕ → Result (Labels × ℕ) DecodeError → Result (Labels × ℕ) DecodeError
ending_at place name = name >>= λ n. Ok (n.0, place)

-- bytes that are read: a place in them has 32 bits, and they are those of the octets
pub record IsReadable (message : MessageBytes) : Type 0 where
  pub short : length message.bytes.now < 2 ^ 32
  pub octets : message.octets.now ≡ message.bytes.now
