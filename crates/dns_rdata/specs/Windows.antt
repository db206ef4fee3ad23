-- For private functions of this crate only: a type bitmap read window by window.
use Rattle.std.specs.Prelude.{ℕ, Bool, true, false, nat_lt, ◌||◌, ◌&&◌, List, [], ◌∷◌, Option, None, Some}
use Rattle.std.specs.List.{list_any}
use Rattle.dns_model.specs.Shapes.{Window, window_has, are_rising}

-- a window's number may come after the last one's, if there was one
abbrev pub follows : Option ℕ → ℕ → Bool
follows None number = true
follows (Some last) number = nat_lt last number

-- the first window may come after the last one, and the numbers rise from there
abbrev pub rises_after : Option ℕ → Option (List Window) → Bool
rises_after last None = false
rises_after last (Some []) = true
rises_after last (Some (window ∷ windows)) = follows last window.number && are_rising (window ∷ windows)

-- the type was found before, or a window has it
abbrev pub found_or_has : Bool → ℕ → Option (List Window) → Bool
found_or_has found rtype None = false
found_or_has found rtype (Some windows) = found || list_any (window_has rtype) windows
