use Rattle.std.proofs.Common.{◌≡◌, ◌++◌, All, length}
use Rattle.std.specs.List.{concat}
use Rattle.dns_tcp.specs.Frames.{HasFrame, frames}
use Rattle.dns_tcp.specs.SureReads.{IsOpen, unread}
use Rattle.dns_tcp.proofs.frame_law.unframe.Given as goal

abbrev pub invariant-row : goal.invariant-row
invariant-row l = (concat l.fn.pieces.items ≡ frames l.messages.items ++ unread l.stream) × All HasFrame l.messages.items × IsOpen l.stream

abbrev pub decreases-row : goal.decreases-row
decreases-row l = length (unread l.stream)
