-- For private functions of this crate only: different numbers of a byte each.
use Rattle.std.specs.Prelude.{ℕ, ◌≡◌, ◌<◌, true, ◌==◌, nat_eq, List}
use Rattle.std.specs.List.{list_any, IsDistinct}

-- the numbers differ, and each fits a byte
abbrev pub IsByteSet : List ℕ → Type 0
IsByteSet numbers = IsDistinct nat_eq numbers × ((n : ℕ) → list_any (λ a. n == a) numbers ≡ true → n < 256)
