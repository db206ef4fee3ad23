use Rattle.std.proofs.Common.{◌≡◌, length}
use Rattle.dns_audit.specs.ReportGrammar.{chains_at}
use Rattle.dns_audit.proofs.TimesLemmas.{with_read}
use Rattle.dns_audit.proofs.chains.chains_at.Given as goal

abbrev pub invariant-chains : goal.invariant-chains
invariant-chains l = with_read l.all.items (chains_at l.here) ≡ chains_at l.fn.lines

abbrev pub decreases-chains : goal.decreases-chains
decreases-chains l = length l.here.pieces
