-- Serial numbers, and when a signature is timely (RFC 1982, 3.2; RFC 4034, 3.1.5).
use Rattle.std.specs.Prelude.{ℕ, ◌+◌, ◌-◌, ◌%◌, ◌^◌, Bool, ◌==◌, ◌&&◌, ◌||◌, nat_lt, if◌then◌else◌, Option, None, Some}
use Rattle.std.specs.declared.cmp.Ordering.{Ordering}
use Rattle.std.specs.declared.cmp.Ordering.TheVariants.{Less, Equal, Greater}
use Rattle.dns_model.specs.Views.{RrsigValue}

-- how far b lies after a on the circle of 2^32 numbers
abbrev pub distance : ℕ → ℕ → ℕ
distance a b = (b + 2 ^ 32 - a) % 2 ^ 32

-- a is b, or b lies 1 to 2^31 - 1 after it
abbrev pub at_or_before : ℕ → ℕ → Bool
at_or_before a b = (a == b) || (nat_lt 0 (distance a b) && nat_lt (distance a b) (2 ^ 31))

-- how two serial numbers are ordered, if they are
abbrev pub serial_cmp : ℕ → ℕ → Option Ordering
serial_cmp a b =
    if a == b then Some Equal
    else if at_or_before a b then Some Less
    else if at_or_before b a then Some Greater
    else None

-- a moment as the times of signatures count
abbrev pub moment_number : ℕ → ℕ
moment_number now = now % 2 ^ 32

-- the moment lies in the signature's validity
abbrev pub timely : RrsigValue → ℕ → Bool
timely sig now = at_or_before sig.inception (moment_number now) && at_or_before (moment_number now) sig.expiration

-- the seconds that a signature is still valid
abbrev pub seconds_left : RrsigValue → ℕ → ℕ
seconds_left sig now = distance (moment_number now) sig.expiration
