-- The label counts of the names that may enclose a name (RFC 5155, 8.3).
use Rattle.std.specs.Prelude.{ℕ, zero, suc, nat_le, List, [], ◌∷◌, if◌then◌else◌}

-- the counts below the second number, down to the first
unfoldable pub label_counts : ℕ → ℕ → List ℕ
label_counts zone zero = []
label_counts zone (suc above) = if nat_le zone above then above ∷ label_counts zone above else []
