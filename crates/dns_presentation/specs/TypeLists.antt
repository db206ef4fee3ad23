-- The types that a type bitmap lists, in rising order (RFC 4034, 4.1.2 and 4.2).
use Rattle.std.specs.Prelude.{ℕ, zero, suc, ◌+◌, ◌-◌, ◌*◌, Bool, not, ◌==◌, ◌&&◌, List, [], ◌∷◌, ◌++◌, length, if◌then◌else◌, Option, None, Some, slice_index}
use Rattle.std.specs.List.{flat_map, list_all}
use Rattle.dns_model.specs.OptionSteps.{◌>>=◌}
use Rattle.dns_model.specs.Shapes.{Window, windows_in, are_rising, has_bit}

-- the type of a bit of a window, if the bit stands; the window's first bit stands for a given type
abbrev pub bit_types : ℕ → List ℕ → ℕ → List ℕ
bit_types first bits place = if has_bit bits place then (first + place) ∷ [] else []

-- the types of the first bits of a window
unfoldable pub types_below : ℕ → List ℕ → ℕ → List ℕ
types_below first bits zero = []
types_below first bits (suc place) = types_below first bits place ++ bit_types first bits place

-- the types of a window, whose number is their upper byte
abbrev pub window_types : Window → List ℕ
window_types window = types_below (window.number * 256) window.bits (length window.bits * 8)

-- the last byte of a window has a bit
abbrev pub is_shortest : Window → Bool
is_shortest window = not (slice_index window.bits (length window.bits - 1) == 0)

-- the types of windows whose numbers rise, each as short as it can be
abbrev pub types_of : List Window → Option (List ℕ)
types_of windows = if are_rising windows && list_all is_shortest windows then Some (flat_map window_types windows) else None

-- the types that a bitmap lists, where it is the one bitmap that lists just these
unfoldable pub types_in : List ℕ → Option (List ℕ)
types_in bytes = windows_in bytes bytes >>= types_of
