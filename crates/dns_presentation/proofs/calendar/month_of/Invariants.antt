use Rattle.std.proofs.Common.{◌≡◌, ◌≤◌, ◌-◌}
use Rattle.dns_presentation.specs.Calendar.{month_of}
use Rattle.dns_presentation.proofs.calendar.month_of.Given as goal

-- the months that are left lead to the same day
abbrev pub invariant-months : goal.invariant-months
invariant-months l =
    (month_of (12 - l.month) l.year l.month l.rest ≡ month_of 11 l.year 1 l.day) × (l.month ≤ 12) × (l.rest ≤ l.day)

abbrev pub decreases-months : goal.decreases-months
decreases-months l = 12 - l.month
