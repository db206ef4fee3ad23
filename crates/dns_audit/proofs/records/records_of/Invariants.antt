use Rattle.std.proofs.Common.{◌≡◌, length}
use Rattle.dns_session.specs.LinePlaces.{many}
use Rattle.dns_session.proofs.ManyLemmas.{with_front}
use Rattle.dns_audit.specs.RecordForms.{line_of}
use Rattle.dns_audit.proofs.records.records_of.Given as goal

abbrev pub invariant-loop-line : goal.invariant-loop-line
invariant-loop-line l =
    with_front l.all.items (many (line_of l.kind l.section) l.here) ≡ many (line_of l.kind l.section) l.fn.lines

abbrev pub decreases-loop-line : goal.decreases-loop-line
decreases-loop-line l = length l.here.pieces
