use Rattle.std.proofs.Common.{◌≡◌, length}
use Rattle.std.specs.Option.{option_copied}
use Rattle.dns_session.specs.Lines.{words_left}
use Rattle.dns_audit.specs.ReportLines.{numbered_in}
use Rattle.dns_audit.proofs.EachLemmas.{with_both}
use Rattle.dns_audit.proofs.link_lines.numbered_in.Given as goal

abbrev pub invariant-loop-left : goal.invariant-loop-left
invariant-loop-left l =
    with_both l.links.items l.keys.items (numbered_in (words_left (option_copied l.left))) ≡ numbered_in
    (words_left (option_copied l.fn.rest))

abbrev pub decreases-loop-left : goal.decreases-loop-left
decreases-loop-left l = length (words_left (option_copied l.left))
