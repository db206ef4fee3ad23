-- Names as text: how they are printed and read (RFC 1035, 5.1).
use Rattle.std.specs.Prelude.{ℕ, ◌+◌, ◌-◌, ◌*◌, ◌/◌, ◌%◌, Bool, true, false, ◌&&◌, ◌||◌, ◌==◌, List, [], ◌∷◌, ◌++◌, length, nat_eq, nat_le, nat_lt, if◌then◌else◌, Option, None, Some, Result, Ok, Err}
use Rattle.std.specs.Cmp.Lexicographic.{pointwise}
use Rattle.std.specs.List.{flat_map}
use Rattle.dns_model.specs.Names.{Label, Labels, wire}
use Rattle.dns_model.specs.declared.name_error.NameError.{NameError}
use Rattle.dns_model.specs.declared.name_error.NameError.TheVariants.{EmptyLabel, LongLabel, LongName, BadEscape}
use Rattle.dns_model.specs.ResultSteps.{◌>>=◌}
use Rattle.std.specs.Option.{option_map_or}

-- the bytes that stand for themselves, 0x21 to 0x7e, the dot and the backslash among them
abbrev pub is_printable : ℕ → Bool
is_printable byte = nat_le 33 byte && nat_le byte 126

abbrev pub dot : ℕ
dot = 46

abbrev pub backslash : ℕ
backslash = 92

abbrev pub is_special : ℕ → Bool
is_special byte = byte == dot || byte == backslash

-- ---- printing

-- a byte's number in three decimal digits
abbrev pub three_digits : ℕ → List ℕ
three_digits byte = (48 + byte / 100) ∷ (48 + byte / 10 % 10) ∷ (48 + byte % 10) ∷ []

unfoldable pub printed_byte : ℕ → List ℕ
printed_byte byte =
    if is_special byte then backslash ∷ byte ∷ [] else (if is_printable byte then byte ∷ [] else backslash ∷ three_digits byte)

abbrev pub printed_label : Label → List ℕ
printed_label label = flat_map printed_byte label ++ dot ∷ []

-- every label with a dot after it; the root is a dot
abbrev pub printed : Labels → List ℕ
printed [] = dot ∷ []
printed (label ∷ name) = flat_map printed_label (label ∷ name)

-- ---- reading

abbrev pub is_digit : ℕ → Bool
is_digit byte = nat_le 48 byte && nat_le byte 57

abbrev pub number_of_digits : ℕ → ℕ → ℕ → ℕ
number_of_digits a b c = (a - 48) * 100 + (b - 48) * 10 + (c - 48)

-- the byte of three digits, the first of them given, and the text after them
unfoldable pub number_in : ℕ → List ℕ → Option (ℕ × List ℕ)
number_in a (b ∷ c ∷ rest) = if is_digit b && is_digit c && nat_le (number_of_digits a b c) 255 then Some (number_of_digits a b c, rest) else None
number_in a _ = None

-- the byte of an escape, after its backslash, and the text after it
unfoldable pub escape_in : List ℕ → Option (ℕ × List ℕ)
escape_in [] = None
escape_in (byte ∷ rest) = if is_digit byte then number_in byte rest else (if is_printable byte then Some (byte, rest) else None)

-- the byte of a label that a text begins with, which isn't a dot, and the text after it
unfoldable pub byte_in : ℕ → List ℕ → Option (ℕ × List ℕ)
byte_in byte rest = if byte == backslash then escape_in rest else (if is_printable byte then Some (byte, rest) else None)

-- labels of a text, and whether a dot was the last
abbrev pub Read : Type 0
Read = Result (Labels × Bool) NameError

abbrev pub label_checked : Label → Result Label NameError
label_checked label = if length label == 0 then Err EmptyLabel else (if nat_lt 63 (length label) then Err LongLabel else Ok label)

-- a label is checked where it ends
abbrev pub ended : Label → Read → Read
ended label more = label_checked label >>= λ first. more >>= λ read. Ok (first ∷ read.0, read.1)

abbrev pub after_dot : (Label → List ℕ → Read) → List ℕ → Read
after_dot more [] = Ok ([], true)
after_dot more (byte ∷ rest) = more [] (byte ∷ rest)

abbrev pub step_in : (Label → List ℕ → Read) → Label → List ℕ → Read
step_in more label [] = ended label (Ok ([], false))
step_in more label (byte ∷ rest) =
    if byte == dot then ended label (after_dot more rest)
    else option_map_or (λ b. more (label ++ b.0 ∷ []) b.1) (byte_in byte rest) (Err BadEscape)

-- from left to right, after those bytes of a label that were read; the first list is longer than the text, and only bounds the steps
unfoldable pub labels_read : List ℕ → Label → List ℕ → Read
labels_read [] label text = Err BadEscape
labels_read (_ ∷ bound) label text = step_in (labels_read bound) label text

-- the labels of a text, without the limit of 255 bytes; a dot alone is the root
unfoldable pub text_read : List ℕ → Read
text_read text = if pointwise nat_eq text (dot ∷ []) then Ok ([], true) else labels_read (0 ∷ text) [] text

-- the limit comes last
abbrev pub within : Labels → Result Labels NameError
within name = if nat_le (length (wire name)) 255 then Ok name else Err LongName

-- the name that a text gives
abbrev pub read_name : List ℕ → Result Labels NameError
read_name text = text_read text >>= λ read. within read.0

-- the labels of an origin follow where there was no last dot
abbrev pub joined : Option Labels → Labels → Bool → Labels
joined None name dotted = name
joined (Some origin) name dotted = if dotted then name else name ++ origin

-- the name that a text gives below an origin
abbrev pub read_below : Option Labels → List ℕ → Result Labels NameError
read_below origin text = text_read text >>= λ read. within (joined origin read.0 read.1)

-- ---- from labels

-- each label in order
abbrev pub labels_checked : Labels → Result Labels NameError
labels_checked [] = Ok []
labels_checked (label ∷ name) = label_checked label >>= λ first. labels_checked name >>= λ more. Ok (first ∷ more)

-- the name of these labels
abbrev pub name_from : Labels → Result Labels NameError
name_from labels = labels_checked labels >>= within

-- the name with one more label in front
abbrev pub name_with : Label → Labels → Result Labels NameError
name_with label name = label_checked label >>= λ first. within (first ∷ name)
