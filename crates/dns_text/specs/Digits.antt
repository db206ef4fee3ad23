-- For private functions of this crate only: how a number of 64 bits is read digit by digit.
use Rattle.std.specs.Prelude.{ℕ, ◌&&◌, nat_lt, ◌+◌, ◌-◌, ◌*◌, ◌^◌, List, [], ◌∷◌, Option, None, Some, if◌then◌else◌}
use Rattle.std.specs.Char.{is_ascii_digit}
use Rattle.dns_model.specs.OptionSteps.{◌>>=◌}

-- a number of 64 bits with one more digit, if that is one
unfoldable pub with_digit : ℕ → ℕ → Option ℕ
with_digit n c = if is_ascii_digit c && nat_lt (n * 10 + (c - 48)) (2 ^ 64) then Some (n * 10 + (c - 48)) else None

-- the number that digits after those of n lead to, if each step is one of 64 bits
unfoldable pub read_after : ℕ → List ℕ → Option ℕ
read_after n [] = Some n
read_after n (c ∷ cs) = with_digit n c >>= λ m. read_after m cs
