-- What is made of a value, where there is one.
use Rattle.std.specs.Prelude.{Option, None, Some}

infixl 10 ◌>>=◌
abbrev pub ◌>>=◌ : {A B : Type 0} → Option A → (A → Option B) → Option B
None >>= more = None
(Some x) >>= more = more x
