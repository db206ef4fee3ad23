use Rattle.std.proofs.Common.{◌≡◌}
use Rattle.std.specs.Option.{option_copied}
use Rattle.dns_session.specs.Lines.{words_left, bytes_in}
use Rattle.dns_session.proofs.ByteWords.{with_bytes, bytes_left}
use Rattle.dns_session.proofs.forms.bytes_of.Given as goal

abbrev pub invariant-loop-left : goal.invariant-loop-left
invariant-loop-left l =
    with_bytes l.all.items (bytes_in (words_left (option_copied l.left))) ≡ bytes_in (words_left (option_copied l.fn.rest))

abbrev pub decreases-loop-left : goal.decreases-loop-left
decreases-loop-left l = bytes_left l.left
