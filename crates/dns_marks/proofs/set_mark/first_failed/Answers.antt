use Rattle.std.proofs.Common.{sym, ap, ◌∙◌}
use Rattle.std.specs.Option.{option_copied}
use Rattle.dns_marks.proofs.SetLemmas.{failed_here, failed_past, failed_end}
use Rattle.dns_marks.proofs.set_mark.first_failed.Goals as goal

pub returns-in-Some : goal.returns-in-Some
returns-in-Some c =
    sym (failed_here c.args.answers.now c.loop-answer.answer-index c.answer-item.result c.in-Some.query.now
    c.loop-answer-test.true c.answer-item.is
    (sym c.failed_ask.ensures ∙ ap option_copied c.in-Some.is))
    ∙ c.loop-answer.invariant

pub loop-answer-preserved : goal.loop-answer-preserved
loop-answer-preserved c =
    failed_past c.args.answers.now c.loop-answer.answer-index c.answer-item.result c.loop-answer-test.true c.answer-item.is
    (sym c.failed_ask.ensures ∙ ap option_copied c.in_default.is)
    ∙ c.loop-answer.invariant

pub returns : goal.returns
returns c = sym (failed_end c.args.answers.now c.loop-answer.answer-index c.loop-answer-test.false) ∙ c.loop-answer.invariant
