-- Reading that stops at a bad line, or where memory runs out; and the line that names a bad one.
use Rattle.std.specs.Prelude.{ℕ, ◌≡◌, List, [], ◌∷◌, ◌++◌, codes, Result, Ok, Err}
use Rattle.std.specs.Fmt.{decimal}
use Rattle.dns_session.specs.declared.stop.SessionStop.{SessionStop}
use Rattle.dns_session.specs.declared.stop.SessionStop.TheVariants.{BadLine, NoMemory}

abbrev pub StopsAs : {Y : Type 0} → SessionStop → Result Y ℕ → Type 0
StopsAs (BadLine number) told = told ≡ Err number
StopsAs NoMemory told = Unit {0}

-- what a call returned, seen by `view`, is what reading gives, unless memory ran out
abbrev pub ReadsAs : {X Y : Type 0} → (X → Y) → Result X SessionStop → Result Y ℕ → Type 0
ReadsAs view (Ok x) told = told ≡ Ok (view x)
ReadsAs view (Err stop) told = StopsAs stop told

-- `bad line N`
abbrev pub bad_line_text : ℕ → List ℕ
bad_line_text number = codes "bad line " ++ decimal number ++ 10 ∷ []

-- status 3, and the text names this line, the first that can't stand at its place
pub record NamesLine (number status : ℕ) (text : List ℕ) : Type 0 where
  pub refused : status ≡ 3
  pub spelled : text ≡ bad_line_text number

-- the status of a program that works on a session: 0 where bytes are one, and 3 where they are none
abbrev pub session_status : {X : Type 0} → Result X ℕ → ℕ
session_status (Ok session) = 0
session_status (Err number) = 3
