use Rattle.std.proofs.Common.{◌≡◌}
use Rattle.dns_audit.specs.ReportGrammar.{times, step_at}
use Rattle.dns_audit.proofs.TimesLemmas.{with_read}
use Rattle.dns_audit.proofs.steps.steps_of.Given as goal

abbrev pub invariant-steps : goal.invariant-steps
invariant-steps l = with_read l.all.items (times step_at l.left l.here) ≡ times step_at l.count l.fn.lines

abbrev pub decreases-steps : goal.decreases-steps
decreases-steps l = l.left
