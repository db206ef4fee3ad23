-- Names with the case of chosen letters changed (RFC 4343, 3 and 4.1: the case has no meaning, and is kept).
use Rattle.std.specs.Prelude.{ℕ, Bool, ◌/◌, ◌%◌, ◌==◌, ◌&&◌, List, [], ◌∷◌, ◌++◌, slice_index, count_by, if◌then◌else◌}
use Rattle.std.specs.Int.{bit_at}
use Rattle.std.specs.Char.{is_ascii_alphabetic, is_ascii_uppercase, to_ascii_lowercase, to_ascii_uppercase}
use Rattle.dns_model.specs.Names.{Label, Labels}

-- the letters are A to Z and a to z
abbrev pub is_letter : ℕ → Bool
is_letter byte = is_ascii_alphabetic byte

-- how many letters there are
abbrev pub letters : List ℕ → ℕ
letters bytes = count_by is_letter bytes

-- a letter in its other case
abbrev pub other_case : ℕ → ℕ
other_case letter = if is_ascii_uppercase letter then to_ascii_lowercase letter else to_ascii_uppercase letter

-- bit number i, the lowest of each byte first; a bit behind the last byte is clear
abbrev pub is_chosen : List ℕ → ℕ → Bool
is_chosen bits i = bit_at (slice_index bits (i / 8)) (i % 8) == 1

-- a byte of a name, with the number that it has if it is a letter
unfoldable pub byte_cased : List ℕ → ℕ → ℕ → ℕ
byte_cased bits i byte = if is_letter byte && is_chosen bits i then other_case byte else byte

-- bytes of a label; a letter's number is how many letters stand before it in the name
unfoldable pub label_cased : List ℕ → List ℕ → Label → Label
label_cased bits before [] = []
label_cased bits before (byte ∷ label) = byte_cased bits (letters before) byte ∷ label_cased bits (before ++ byte ∷ []) label

-- labels, with the bytes of the labels before them
unfoldable pub labels_cased : List ℕ → List ℕ → Labels → Labels
labels_cased bits before [] = []
labels_cased bits before (label ∷ name) = label_cased bits before label ∷ labels_cased bits (before ++ label) name

-- the name whose i-th letter, from 0, has the other case where bit i is set
abbrev pub name_cased : List ℕ → Labels → Labels
name_cased bits name = labels_cased bits [] name
