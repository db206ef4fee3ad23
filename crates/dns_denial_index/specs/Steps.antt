-- For private functions alone: how many steps a search takes at most.
use Rattle.std.specs.Prelude.{ℕ, zero, suc, ◌+◌, ◌*◌, ◌^◌, nat_le, if◌then◌else◌}

-- the greatest number, of those up to the first one, to which 2 may be raised within the second one
unfoldable pub greatest_power : ℕ → ℕ → ℕ
greatest_power zero limit = 0
greatest_power (suc power) limit = if nat_le (2 ^ suc power) limit then suc power else greatest_power power limit

-- where there are so many records
abbrev pub most_steps : ℕ → ℕ
most_steps count = greatest_power (4 * count + 1) (4 * count + 1)
