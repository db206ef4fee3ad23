use Rattle.std.proofs.Common.{◌≡◌, ◌≤◌, ◌-◌, ◌*◌}
use Rattle.httpdate.specs.Calendar.{days_of_years}
use Rattle.dns_master_words.proofs.times.days_of_years.Given as goal

abbrev pub invariant-years : goal.invariant-years
invariant-years l = (l.days ≡ days_of_years l.passed) × (l.passed ≤ l.count) × (l.days ≤ 366 * l.passed)

abbrev pub decreases-years : goal.decreases-years
decreases-years l = l.count - l.passed
