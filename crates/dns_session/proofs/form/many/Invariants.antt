use Rattle.std.proofs.Common.{◌≡◌, length}
use Rattle.dns_session.specs.LinePlaces.{many}
use Rattle.dns_session.proofs.ManyLemmas.{with_front}
use Rattle.dns_session.proofs.form.many.Given as goal

abbrev pub invariant-loop-line : goal.invariant-loop-line
invariant-loop-line g l = with_front l.all.items (many g.F.LineForm.form l.here) ≡ many g.F.LineForm.form l.fn.lines

abbrev pub decreases-loop-line : goal.decreases-loop-line
decreases-loop-line g l = length l.here.pieces
