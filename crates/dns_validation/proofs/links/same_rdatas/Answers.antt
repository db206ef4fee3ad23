use Rattle.std.proofs.Common.{IsTrue, subst}
use Rattle.std.specs.Cmp.Lexicographic.{bytes_decides, pointwise_decides}
use Rattle.dns_validation.proofs.links.same_rdatas.Goals as goal

pub returns : goal.returns
returns c = λ same.
    (pointwise_decides bytes_decides c.args.rdatas.now.items c.args.others.now.items).0 (subst IsTrue c.eq.ensures same)
