-- What a reading to the end leaves of a source, where the source tells its bytes; and facts of what it told.
use Rattle.std.specs.Prelude.{◌≡◌, ℕ, ◌^◌, ◌≤◌, List, [], length, codes, ⊤, Option, None, Some}
use Rattle.std.specs.Io.KnownBytes.{Consumes}

-- the most bytes that an input may have
abbrev pub input_limit : ℕ
input_limit = 2 ^ 24

-- what is written of an input that has more
abbrev pub too_long_text : List ℕ
too_long_text = codes "input too long\n"

-- nothing is left of bytes that were told
abbrev pub IsEnded : Option (List ℕ) → Option (List ℕ) → Type 0
IsEnded None now = ⊤
IsEnded (Some bytes) now = now ≡ Some []

-- bytes were read from the front, at most so many
pub record ReadsFront (most : ℕ) (before now : Option (List ℕ)) : Type 0 where
  pub bytes : List ℕ
  pub bound : length bytes ≤ most
  pub read : Consumes before now bytes

-- a fact of some bytes
pub record OfSome (Fact : List ℕ → Type 0) : Type 0 where
  pub bytes : List ℕ
  pub fact : Fact bytes

-- a fact of the bytes that a source tells; where it tells none, of some bytes
abbrev pub OfInput : Option (List ℕ) → (List ℕ → Type 0) → Type 0
OfInput None Fact = OfSome Fact
OfInput (Some bytes) Fact = Fact bytes
