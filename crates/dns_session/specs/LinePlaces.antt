-- Texts as lines that end with LF, read from a place on, with the number of the first line that can't stand there.
use Rattle.std.specs.Prelude.{ℕ, ◌+◌, ◌==◌, Bool, true, false, List, [], ◌∷◌, Option, None, Some, Result, option_map}
use Rattle.std.specs.List.{slice_split}
use Rattle.dns_model.specs.OptionSteps.{◌>>=◌}
use Rattle.std.specs.Option.{option_map_or}
use Rattle.dns_model.specs.Gives.{or_error}

-- what stands between two bytes of this value, before the first and after the last
abbrev pub pieces : ℕ → List ℕ → List (List ℕ)
pieces byte text = slice_split (λ b. b == byte) text

-- a place in a text: the number of the next line, from 1, and the pieces between LF bytes from there on; the last piece is no line
pub record Place : Type 0 where
  pub number : ℕ
  pub pieces : List (List ℕ)

abbrev pub place : ℕ → List (List ℕ) → Place
place number rest = record { number = number; pieces = rest }

-- the place before the first line
abbrev pub start_of : List ℕ → Place
start_of text = place 1 (pieces 10 text)

abbrev pub next_in : ℕ → List (List ℕ) → Option (List ℕ × Place)
next_in number (line ∷ next ∷ rest) = Some (line, place (number + 1) (next ∷ rest))
next_in number _ = None

-- the next line, and the place after it
abbrev pub next_line : Place → Option (List ℕ × Place)
next_line at = next_in at.number at.pieces

-- what a form reads from the next line, and the place after it
abbrev pub read_next : {X : Type 0} → (List ℕ → Option X) → Place → Option (X × Place)
read_next form at = next_line at >>= λ line. option_map (λ x. (x, line.1)) (form line.0)

-- one line of a form, and the place after it; a line that is missing or of another form is bad
unfoldable pub one : {X : Type 0} → (List ℕ → Option X) → Place → Result (X × Place) ℕ
one form at = or_error at.number (read_next form at)

-- a line of a form that may be missing, and the place after it; a line of another form is left
unfoldable pub optional : {X : Type 0} → (List ℕ → Option X) → Place → Option X × Place
optional form at = option_map_or (λ x. (Some x.0, x.1)) (read_next form at) (None, at)

-- a line that has the form goes before those after it; one that hasn't is left
abbrev pub before_more : {X : Type 0} → Option X → Place → List X × Place → List X × Place
before_more None here more = ([], here)
before_more (Some x) here more = (x ∷ more.0, more.1)

unfoldable pub many_in : {X : Type 0} → (List ℕ → Option X) → ℕ → List (List ℕ) → List X × Place
many_in form number [] = ([], place number [])
many_in form number (line ∷ []) = ([], place number (line ∷ []))
many_in form number (line ∷ next ∷ rest) =
    before_more (form line) (place number (line ∷ next ∷ rest)) (many_in form (number + 1) (next ∷ rest))

-- any number of lines of a form, as many as there are, and the place after them
abbrev pub many : {X : Type 0} → (List ℕ → Option X) → Place → List X × Place
many form at = many_in form at.number at.pieces

abbrev pub is_nothing : List (List ℕ) → Bool
is_nothing ([] ∷ []) = true
is_nothing _ = false

-- no byte is left
abbrev pub is_ended : Place → Bool
is_ended at = is_nothing at.pieces
