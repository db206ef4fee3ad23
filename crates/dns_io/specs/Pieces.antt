-- For private functions of this crate only: what one read puts behind what was read before.
use Rattle.std.specs.Prelude.{◌≡◌, ℕ, List, ◌++◌, Option}
use Rattle.std.specs.Io.KnownBytes.{Consumes}

-- bytes were read, and stand in new behind those of old
pub record ReadsOnto (before now : Option (List ℕ)) (old new : List ℕ) : Type 0 where
  pub bytes : List ℕ
  pub read : Consumes before now bytes
  pub appended : new ≡ old ++ bytes
