use Rattle.std.specs.Io.KnownBytes.{Keeps}
use Rattle.dns_io.proofs.standard.write_to.Given as goal

-- what failed so far moved nothing
abbrev pub invariant-loop-attempt : goal.invariant-loop-attempt
invariant-loop-attempt g l = Keeps (g.W.Write.contents l.fn.output) (g.W.Write.contents l.output)
