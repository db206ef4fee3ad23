use Rattle.std.proofs.Common.{◌<◌, ◌^◌, length}
use Rattle.dns_measure.proofs.counts.pass.Given as goal

abbrev pub invariant-frames : goal.invariant-frames
invariant-frames l = length l.rest < 2 ^ 32

abbrev pub decreases-frames : goal.decreases-frames
decreases-frames l = length l.rest
