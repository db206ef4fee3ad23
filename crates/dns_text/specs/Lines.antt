-- Lines of words: one space between each two, and LF after the last.
use Rattle.std.specs.Prelude.{ℕ, List, [], ◌∷◌, ◌++◌}

abbrev pub Words : Type 0
Words = List (List ℕ)

-- words after the first of a line, a space before each, and LF
abbrev pub line_rest : Words → List ℕ
line_rest [] = 10 ∷ []
line_rest (word ∷ words) = 32 ∷ (word ++ line_rest words)

-- words, a space before each
abbrev pub spaced : Words → List ℕ
spaced [] = []
spaced (word ∷ words) = 32 ∷ (word ++ spaced words)

-- a line
abbrev pub line : List ℕ → Words → List ℕ
line word words = word ++ line_rest words
