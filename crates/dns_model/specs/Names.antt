-- Domain names as lists of labels, the leaf first, and their order (RFC 1035, 3.1; RFC 4034, 6.1).
use Rattle.std.specs.Prelude.{ℕ, ◌-◌, Bool, true, false, not, ◌&&◌, List, [], ◌∷◌, ◌++◌, map, reverse, length, drop, nat_eq, nat_le, nat_lt, if◌then◌else◌}
use Rattle.std.specs.Char.{to_ascii_lowercase}
use Rattle.std.specs.Ordering.{nat_cmp, on, is_lt}
use Rattle.std.specs.declared.cmp.Ordering.{Ordering}
use Rattle.std.specs.Cmp.Lexicographic.{pointwise, slice_cmp}
use Rattle.std.specs.List.{list_all, ends_with, flat_map}
use Rattle.std.specs.Hash as fed
use Rattle.std.specs.Hash.{HashWrites}

abbrev pub Label : Type 0
Label = List ℕ

abbrev pub Labels : Type 0
Labels = List Label

-- A to Z as a to z
abbrev pub lowered : Label → Label
lowered label = map to_ascii_lowercase label

abbrev pub folded : Labels → Labels
folded name = map lowered name

-- the same labels, byte for byte
abbrev pub labels_eq : Labels → Labels → Bool
labels_eq = pointwise (pointwise nat_eq)

-- label by label from the root, each as its bytes; a missing label sorts first
abbrev pub labels_cmp : Labels → Labels → Ordering
labels_cmp = on reverse (slice_cmp (slice_cmp nat_cmp))

-- names compare with A to Z folded
abbrev pub name_eq : Labels → Labels → Bool
name_eq = on folded labels_eq

-- canonical order: that of the lower-cased labels
abbrev pub name_cmp : Labels → Labels → Ordering
name_cmp = on folded labels_cmp

-- the first name comes before the second
abbrev pub before : Labels → Labels → Bool
before one two = is_lt (name_cmp one two)

-- the zone's labels are the last labels of the name
abbrev pub at_or_above : Labels → Labels → Bool
at_or_above zone name = nat_le (length zone) (length name) && ends_with (pointwise nat_eq) (folded name) (folded zone)

abbrev pub strictly_above : Labels → Labels → Bool
strictly_above zone name = at_or_above zone name && not (name_eq zone name)

-- the longest of the name and its ancestors that is at or above the other name: their common last labels
unfoldable pub common_ancestor : Labels → Labels → Labels
common_ancestor [] other = []
common_ancestor (label ∷ name) other = if at_or_above (label ∷ name) other then label ∷ name else common_ancestor name other

abbrev pub longer : Labels → Labels → Labels
longer one two = if nat_lt (length one) (length two) then two else one

-- the name has no label
abbrev pub is_root : Labels → Bool
is_root [] = true
is_root (label ∷ name) = false

-- the name without its first label; the root stays
abbrev pub parent : Labels → Labels
parent [] = []
parent (label ∷ name) = name

-- the last n labels, or all
abbrev pub last_labels : ℕ → Labels → Labels
last_labels n name = drop (length name - n) name

-- the label `*` (RFC 4592, 2.1.1)
abbrev pub asterisk : Label
asterisk = 42 ∷ []

-- the wildcard below a name
abbrev pub star : Labels → Labels
star name = asterisk ∷ name

abbrev pub is_wildcard : Labels → Bool
is_wildcard [] = false
is_wildcard (label ∷ name) = pointwise nat_eq label asterisk

-- how many labels there are, a leading `*` aside (RFC 4034, 3.1.3)
abbrev pub num_labels : Labels → ℕ
num_labels name = if is_wildcard name then length name - 1 else length name

-- labels as they stand in a message, with the closing zero byte
abbrev pub wire : Labels → List ℕ
wire [] = 0 ∷ []
wire (label ∷ name) = length label ∷ (label ++ wire name)

-- a label has 1 to 63 bytes
abbrev pub is_label : Label → Bool
is_label label = nat_lt 0 (length label) && nat_le (length label) 63

-- what a hasher is fed of a name: the bytes of its wire form with A to Z folded
abbrev pub name_input : Labels → HashWrites
name_input name = flat_map fed.u8 (wire (folded name))

-- a name's labels are labels, and its wire form has at most 255 bytes
abbrev pub is_name : Labels → Bool
is_name name = list_all is_label name && nat_le (length (wire name)) 255
