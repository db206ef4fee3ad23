use Rattle.std.proofs.Common.{◌≡◌}
use Rattle.std.specs.Option.{option_copied}
use Rattle.dns_session.specs.Lines.{words_left}
use Rattle.dns_audit.specs.LineParts.{each_in}
use Rattle.dns_audit.specs.ReportWords.{rdata_in}
use Rattle.dns_audit.proofs.EachLemmas.{with_items, bytes_left}
use Rattle.dns_audit.proofs.each.rdatas_of.Given as goal

abbrev pub invariant-loop-left : goal.invariant-loop-left
invariant-loop-left l =
    with_items l.all.items (each_in rdata_in (words_left (option_copied l.left))) ≡ each_in rdata_in
    (words_left (option_copied l.fn.rest))

abbrev pub decreases-loop-left : goal.decreases-loop-left
decreases-loop-left l = bytes_left l.left
