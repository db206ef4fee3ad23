-- Answers that are exact unless memory runs out.
use Rattle.std.specs.Prelude.{◌≡◌, ◌⊎◌, Result, Ok, Err, Option, None, Some}

-- the result is what is told, seen by `view`, unless it is the error of want of memory
abbrev pub Gives : {X Y E : Type 0} → (X → Y) → E → Result X E → Result Y E → Type 0
Gives view want (Ok x) told = told ≡ Ok (view x)
Gives view want (Err e) told = (e ≡ want) ⊎ (told ≡ Err e)

-- a fact, unless the result is the error of want of memory
abbrev pub Unless : {X E : Type 0} → E → Result X E → Type 0 → Type 0
Unless want (Ok x) Fact = Fact
Unless want (Err e) Fact = (e ≡ want) ⊎ Fact

-- the option's value, or the error in its place
abbrev pub or_error : {X E : Type 0} → E → Option X → Result X E
or_error e None = Err e
or_error e (Some x) = Ok x
