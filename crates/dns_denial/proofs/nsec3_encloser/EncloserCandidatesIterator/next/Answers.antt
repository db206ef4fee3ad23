use Rattle.std.proofs.Common.{◌≤◌, ◌<◌, length, sym, ap, ◌∙◌, arith, rules}
use Rattle.dns_denial.proofs.Candidates.{counts_end, counts_next}
use Rattle.dns_denial.proofs.nsec3_encloser.EncloserCandidatesIterator.next.Goals as goal

pub returns-then-self-clause-steps : goal.returns-then-self-clause-steps
returns-then-self-clause-steps c =
    let over : c.self.inside.above ≤ c.self.inside.zone = omega (arith, c.if-self.true) in
    let none = sym c.self.view_is ∙ counts_end c.self.inside.zone c.self.inside.above over in (none, none)

pub returns-clause-steps : goal.returns-clause-steps
returns-clause-steps c =
    let left : c.self.inside.zone < c.self.inside.above = omega (arith, c.if-self.false) in
    sym c.self.view_is ∙ counts_next c.self.inside.zone c.self.inside.above left

pub returns-clause-goes : goal.returns-clause-goes
returns-clause-goes c =
    let left : c.self.inside.zone < c.self.inside.above = omega (arith, c.if-self.false) in
    let step = sym c.self.view_is ∙ counts_next c.self.inside.zone c.self.inside.above left in
    let shorter = ap length step in search rules
