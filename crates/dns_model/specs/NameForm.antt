-- Reading a name's wire form where no pointers may stand (RFC 1035, 3.1; RFC 4034, 6.2).
use Rattle.std.specs.Prelude.{ℕ, ◌&&◌, List, [], ◌∷◌, length, take, drop, nat_le, if◌then◌else◌, ◌≡◌, Option, None, Some, option_map}
use Rattle.std.specs.Option.{option_map_or}
use Rattle.dns_model.specs.Names.{Label, Labels, wire}
use Rattle.dns_model.specs.OptionSteps.{◌>>=◌}

-- the label at the front, empty for the closing zero byte, and the bytes after it
unfoldable pub label_in : List ℕ → Option (Label × List ℕ)
label_in [] = None
label_in (size ∷ rest) = if nat_le size 63 && nat_le size (length rest) then Some (take size rest, drop size rest) else None

abbrev pub after_label : Option (Label × List ℕ) → (List ℕ → Option (Labels × List ℕ)) → Option (Labels × List ℕ)
after_label None more = None
after_label (Some ([], rest)) more = Some ([], rest)
after_label (Some (byte ∷ label, rest)) more = option_map (λ name. ((byte ∷ label) ∷ name.0, name.1)) (more rest)

-- labels up to the root's; the first list is as long as the bytes, and only bounds how many labels are read
unfoldable pub labels_in : List ℕ → List ℕ → Option (Labels × List ℕ)
labels_in [] bytes = None
labels_in (_ ∷ bound) bytes = after_label (label_in bytes) (labels_in bound)

-- the name at the front of bytes, and the bytes after it
unfoldable pub name_in : List ℕ → Option (Labels × List ℕ)
name_in bytes = do
  name ← labels_in bytes bytes
  if nat_le (length (wire name.0)) 255 then Some name else None

-- the labels of a wire form
unfoldable pub labels_of : List ℕ → Labels
labels_of bytes = option_map_or (λ n. n.0) (name_in bytes) []

-- the bytes are the wire form of a name, and nothing else
abbrev pub IsWire : List ℕ → Type 0
IsWire bytes = name_in bytes ≡ Some (labels_of bytes, [])

-- what was read, where no bytes are left
abbrev pub whole_name : Option (Labels × List ℕ) → Option Labels
whole_name (Some (name, [])) = Some name
whole_name _ = None

-- the name whose wire form the bytes are
abbrev pub name_of : List ℕ → Option Labels
name_of bytes = whole_name (name_in bytes)
