-- For private functions only: what was read of a frame, as the code keeps it.
use Rattle.std.specs.Prelude.{ℕ, ◌<◌, ◌≤◌, ◌^◌, List, ◌++◌, Option, None, Some}
use Rattle.dns_model.specs.Bytes.{u16_bytes}

-- the bytes of the length, or the length and the bytes behind it
abbrev pub part_of : Option ℕ → List ℕ → List ℕ
part_of None bytes = bytes
part_of (Some announced) bytes = u16_bytes announced ++ bytes

-- so many bytes are less than a length, or at most a frame
abbrev pub IsPart : Option ℕ → ℕ → Type 0
IsPart None len = len < 2
IsPart (Some announced) len = (len ≤ announced) × (announced < 2 ^ 16)

-- so many bytes are at most a length, or at most a frame
abbrev pub HasLength : Option ℕ → ℕ → Type 0
HasLength None len = len ≤ 2
HasLength (Some announced) len = (len ≤ announced) × (announced < 2 ^ 16)
