use Rattle.std.proofs.Common.{◌≡◌, ◌≤◌, ◌-◌}
use Rattle.dns_presentation.specs.Calendar.{year_of}
use Rattle.dns_presentation.proofs.calendar.year_of.Given as goal

-- the years that are left lead to the same day
abbrev pub invariant-years : goal.invariant-years
invariant-years l =
    (year_of (2106 - l.year) l.year l.rest ≡ year_of 136 1970 l.day) × (l.year ≤ 2106) × (l.rest ≤ l.day)

abbrev pub decreases-years : goal.decreases-years
decreases-years l = 2106 - l.year
