-- What a run leaves of a text in its sink, where its source and its sink tell their bytes.
use Rattle.std.specs.Prelude.{ℕ, List, Option}
use Rattle.std.specs.Io.KnownBytes.{Appends}
use Rattle.dns_io.specs.Reading.{OfInput}
use Rattle.dns_io.specs.Writing.{TakesPrefix}

-- a text of which a fact holds was written
pub record Wrote (before now : Option (List ℕ)) (Fact : List ℕ → Type 0) : Type 0 where
  pub text : List ℕ
  pub fact : Fact text
  pub written : Appends before now text

-- a prefix of a text of which a fact holds was written
pub record WrotePrefix (before now : Option (List ℕ)) (Fact : List ℕ → Type 0) : Type 0 where
  pub text : List ℕ
  pub fact : Fact text
  pub written : TakesPrefix before now text

-- a text was written that stands so to the told bytes; where none are told, to some bytes
abbrev pub Leaves : (List ℕ → List ℕ → Type 0) → Option (List ℕ) → Option (List ℕ) → Option (List ℕ) → Type 0
Leaves Fact told before now = OfInput told (λ bytes. Wrote before now (Fact bytes))
