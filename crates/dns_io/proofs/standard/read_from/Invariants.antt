use Rattle.std.specs.Io.KnownBytes.{Keeps}
use Rattle.dns_io.proofs.standard.read_from.Given as goal

-- what failed so far moved nothing
abbrev pub invariant-loop-attempt : goal.invariant-loop-attempt
invariant-loop-attempt g l = Keeps (g.R.Read.remaining l.fn.input) (g.R.Read.remaining l.input)
