use Rattle.std.proofs.Common.{arith}
use Rattle.dns_hashed_denial.proofs.HashedPromises.{denial_of}
use Rattle.dns_hashed_denial.proofs.HashedExpansions.{expansion_of}
use Rattle.dns_denial.proofs.Counts.{steps_counted}
use Rattle.dns_denial.proofs.hash_verdict.nsec3_verdict.Goals as goal

pub returns-clause-denial : goal.returns-clause-denial
returns-clause-denial g c =
    denial_of c.args.query.now c.args.zone.now c.args.code.0 c.args.answered
    (g.R.Nsec3Records.records c.args.records.now) c.args.soft c.args.hard c.verdict_by_rows.result
    c.verdict_by_rows.ensures.verdict

pub returns-clause-expansion : goal.returns-clause-expansion
returns-clause-expansion g c =
    λ labels. expansion_of c.args.query.now c.args.zone.now c.args.code.0 c.args.answered
    (g.R.Nsec3Records.records c.args.records.now) c.args.soft c.args.hard c.verdict_by_rows.result labels
    c.verdict_by_rows.ensures.verdict

pub returns-clause-steps : goal.returns-clause-steps
returns-clause-steps g c =
    let name = c.args.query.now.owner in
    let most = g.R.Nsec3Records.most_steps c.args.records.now in
    let counted = steps_counted most name in
    grind (arith, counted, c.verdict_by_rows.ensures.steps)
