use Rattle.std.proofs.Common.{subst, sym, arith}
use Rattle.dns_evidence.specs.ByteSets.{IsByteSet}
use Rattle.dns_evidence.proofs.ByteSets.{one_number, room}
use Rattle.dns_evidence.proofs.listed.add_algorithm.Goals as goal

pub push-requires : goal.push-requires
push-requires c = (
  omega arith,
  room c.args.algorithms.now.items c.args.algorithm c.requires.set (omega (arith, c.ranges.algorithm)) c.requires.new,
)

pub returns-clause-set : goal.returns-clause-set
returns-clause-set c =
    subst IsByteSet (sym c.push.ensures.items) (one_number c.args.algorithms.now.items c.args.algorithm c.requires.set
    (omega (arith, c.ranges.algorithm)) c.requires.new)
