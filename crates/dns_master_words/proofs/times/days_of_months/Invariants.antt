use Rattle.std.proofs.Common.{◌≡◌, ◌≤◌, ◌-◌, ◌*◌}
use Rattle.httpdate.specs.Calendar.{days_of_months}
use Rattle.dns_master_words.proofs.times.days_of_months.Given as goal

abbrev pub invariant-months : goal.invariant-months
invariant-months l = (l.days ≡ days_of_months l.year l.passed) × (l.passed ≤ l.count) × (l.days ≤ 31 * l.passed)

abbrev pub decreases-months : goal.decreases-months
decreases-months l = l.count - l.passed
