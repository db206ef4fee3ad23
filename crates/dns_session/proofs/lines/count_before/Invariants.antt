use Rattle.std.proofs.Common.{◌≡◌, ◌==◌, ◌≤◌, ◌-◌, false, length, take}
use Rattle.std.specs.List.{list_any}
use Rattle.dns_session.proofs.lines.count_before.Given as goal

abbrev pub invariant-steps : goal.invariant-steps
invariant-steps l = (l.count ≤ length l.text) × (list_any (λ b. b == l.byte) (take l.count l.text) ≡ false)

abbrev pub decreases-steps : goal.decreases-steps
decreases-steps l = length l.text - l.count
