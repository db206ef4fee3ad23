-- Messages over a connection: each stands behind its length (RFC 1035, 4.2.2).
use Rattle.std.specs.Prelude.{ℕ, ◌+◌, ◌-◌, ◌*◌, ◌<◌, ◌≤◌, List, [], ◌∷◌, ◌++◌, length}
use Rattle.dns_model.specs.Bytes.{u16_bytes}

-- the most bytes that a message may have
abbrev pub most_framed : ℕ
most_framed = 65535

-- a message behind its length in two bytes, the high byte first
unfoldable pub frame : List ℕ → List ℕ
frame message = u16_bytes (length message) ++ message

-- the frames of messages in a row
abbrev pub frames : List (List ℕ) → List ℕ
frames [] = []
frames (m ∷ ms) = frame m ++ frames ms

-- a message that has a frame: one of 1 to 65,535 bytes
pub record HasFrame (message : List ℕ) : Type 0 where
  pub some : 0 < length message
  pub most : length message ≤ most_framed

-- how many bytes are lacking of the length or of the frame that bytes begin
abbrev pub lacking : List ℕ → ℕ
lacking [] = 2
lacking (high ∷ []) = 1
lacking (high ∷ low ∷ body) = high * 256 + low - length body
