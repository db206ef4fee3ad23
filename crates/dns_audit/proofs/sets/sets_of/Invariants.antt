use Rattle.std.proofs.Common.{◌≡◌, length}
use Rattle.dns_session.specs.LinePlaces.{many}
use Rattle.dns_session.proofs.ManyLemmas.{with_front}
use Rattle.dns_audit.specs.ReportLines.{set_line}
use Rattle.dns_audit.proofs.sets.sets_of.Given as goal

abbrev pub invariant-loop-line : goal.invariant-loop-line
invariant-loop-line l =
    with_front l.all.items (many set_line l.here) ≡ many set_line l.fn.lines

abbrev pub decreases-loop-line : goal.decreases-loop-line
decreases-loop-line l = length l.here.pieces
