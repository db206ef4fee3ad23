-- Words of a line, one after another: as many of one kind as there are, and those in front of others.
use Rattle.std.specs.Prelude.{ℕ, List, [], ◌∷◌, Option, None, Some}
use Rattle.dns_model.specs.OptionSteps.{◌>>=◌}
use Rattle.dns_session.specs.Lines.{Words, quadruple}

-- what each word says, where each is of this kind
unfoldable pub each_in : {X : Type 0} → (List ℕ → Option X) → Words → Option (List X)
each_in kind [] = Some []
each_in kind (w ∷ ws) = do
  first ← kind w
  others ← each_in kind ws
  Some (first ∷ others)

-- five words
abbrev pub quintuple : Words → Option (List ℕ × List ℕ × List ℕ × List ℕ × List ℕ)
quintuple [] = None
quintuple (a ∷ ws) = quadruple ws >>= λ more. Some (a, more.0, more.1, more.2, more.3)

-- six words
abbrev pub sextuple : Words → Option (List ℕ × List ℕ × List ℕ × List ℕ × List ℕ × List ℕ)
sextuple [] = None
sextuple (a ∷ ws) = quintuple ws >>= λ more. Some (a, more.0, more.1, more.2, more.3, more.4)

-- a word, and those after it
abbrev pub first_of : Words → Option (List ℕ × Words)
first_of [] = None
first_of (a ∷ ws) = Some (a, ws)

-- two words, and those after them
abbrev pub two_of : Words → Option (List ℕ × List ℕ × Words)
two_of [] = None
two_of (a ∷ ws) = first_of ws >>= λ more. Some (a, more.0, more.1)

-- three words, and those after them
abbrev pub three_of : Words → Option (List ℕ × List ℕ × List ℕ × Words)
three_of [] = None
three_of (a ∷ ws) = two_of ws >>= λ more. Some (a, more.0, more.1, more.2)

-- four words, and those after them
abbrev pub four_of : Words → Option (List ℕ × List ℕ × List ℕ × List ℕ × Words)
four_of [] = None
four_of (a ∷ ws) = three_of ws >>= λ more. Some (a, more.0, more.1, more.2, more.3)

-- six words, and those after them
abbrev pub six_of : Words → Option (List ℕ × List ℕ × List ℕ × List ℕ × List ℕ × List ℕ × Words)
six_of ws = do
  front ← two_of ws
  more ← four_of front.2
  Some (front.0, front.1, more.0, more.1, more.2, more.3, more.4)
