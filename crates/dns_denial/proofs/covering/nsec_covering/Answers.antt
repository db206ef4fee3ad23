use Rattle.dns_rules.proofs.Promises.{ownerless_of}
use Rattle.dns_denial.proofs.covering.nsec_covering.Goals as goal

pub returns-clause-ownerless : goal.returns-clause-ownerless
returns-clause-ownerless c = λ number. ownerless_of c.args.name.now c.args.nsecs.now c.covering_place.result
    number c.covering_place.ensures
