use Rattle.dns_message.specs.WrittenAs.{question_bytes}
use Rattle.dns_message.proofs.Writing.{pieces_more, pieces_all}
use Rattle.dns_message.proofs.message_writer.push_questions.Goals as goal

pub loop-query-preserved : goal.loop-query-preserved
loop-query-preserved c =
    pieces_more question_bytes c.args.queries.now c.loop-query.query-index _ c.args.out.now.items _ _ c.loop-query-test.true
    c.query-item.is c.loop-query.invariant c.in_ok-push_question.ensures

pub returns : goal.returns
returns c = pieces_all question_bytes c.args.queries.now c.loop-query.query-index c.args.out.now.items _ c.loop-query-test.false
    c.loop-query.invariant
