use Rattle.dns_rules.proofs.Promises.{denial_of, expansion_of}
use Rattle.dns_denial.proofs.verdict.nsec_verdict.Goals as goal

pub returns-clause-denial : goal.returns-clause-denial
returns-clause-denial g c =
    denial_of c.args.query.now c.args.zone.now c.args.code.0 c.args.answered
    (g.R.NsecRecords.records c.args.records.now) c.verdict_by_rows.result c.verdict_by_rows.ensures.verdict

pub returns-clause-expansion : goal.returns-clause-expansion
returns-clause-expansion g c =
    λ labels. expansion_of c.args.query.now c.args.zone.now c.args.code.0 c.args.answered
    (g.R.NsecRecords.records c.args.records.now) c.verdict_by_rows.result labels c.verdict_by_rows.ensures.verdict
