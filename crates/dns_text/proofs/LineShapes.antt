-- A line as its first word and the others, and which such is one.
use Rattle.std.proofs.Common.{ℕ, Bool, ◌&&◌, List}
use Rattle.std.specs.List.{list_all}
use Rattle.dns_text.specs.Lines.{Words, line}
use Rattle.dns_text.proofs.WordShapes.{is_word}

-- a line: its first word, and those after it
abbrev pub Line : Type 0
Line = List ℕ × Words

abbrev pub text_of : Line → List ℕ
text_of l = line l.0 l.1

abbrev pub is_line : Line → Bool
is_line l = is_word l.0 && list_all is_word l.1
