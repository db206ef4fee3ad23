use Rattle.std.proofs.Common.{arith}
use Rattle.std.proofs.lemmas.Grind.{common_steps}
use Rattle.dns_tcp.specs.Frames.{frame}
use Rattle.dns_tcp.proofs.frame_writer.put_frame.Goals as goal

pub returns : goal.returns
unfolding frame
returns c = grind (arith, common_steps)
