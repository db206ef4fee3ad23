use Rattle.std.proofs.Common.{◌≡◌, length}
use Rattle.dns_tcp.specs.StreamViews.{link_of}
use Rattle.dns_tcp.specs.SureReads.{IsOpen, unread}
use Rattle.dns_tcp.proofs.frame_law.next_message.Given as goal

abbrev pub invariant-frame : goal.invariant-frame
invariant-frame l = (unread l.stream ≡ unread l.fn.stream) × IsOpen l.stream

abbrev pub decreases-frame : goal.decreases-frame
decreases-frame l = length (link_of l.stream).pieces.left
