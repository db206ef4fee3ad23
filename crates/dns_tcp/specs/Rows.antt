-- Frames one behind the other, and what isn't a row of them (RFC 1035, 4.2.2).
use Rattle.std.specs.Prelude.{◌≡◌, ℕ, List, All}
use Rattle.dns_tcp.specs.Frames.{HasFrame, frames}

-- the bytes are the frames of messages
pub record AreFrames (bytes : List ℕ) (messages : List (List ℕ)) : Type 0 where
  pub each : All HasFrame messages
  pub row : bytes ≡ frames messages

-- the bytes are no messages' frames
abbrev pub AreNoFrames : List ℕ → Type 0
AreNoFrames bytes = (messages : List (List ℕ)) → AreFrames bytes messages → ⊥
