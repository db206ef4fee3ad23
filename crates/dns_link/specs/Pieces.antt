-- For private functions only: lengths of the pieces in which bytes are read.
use Rattle.std.specs.Prelude.{ℕ, ◌+◌, ◌<◌, ◌≡◌, List, [], All, length, sum}

-- of the bytes so many were read; the rest are those left of a piece and of the later ones, none of which is empty
pub record ArePieces (at piece : ℕ) (later bytes : List ℕ) : Type 0 where
  pub whole : at + (piece + sum later) ≡ length bytes
  pub some : All (λ n. 0 < n) later
  pub last : piece ≡ 0 → later ≡ []
