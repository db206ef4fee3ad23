use Rattle.std.proofs.Common.{rules}
use Rattle.std.proofs.lemmas.Result.{err_from_is_err_and}
use Rattle.dns_message.specs.MessageAt.{questions_at}
use Rattle.dns_message.proofs.RecordReading.{questions_more, questions_fail, questions_done}
use Rattle.dns_message.proofs.message_reader.questions_of.Goals as goal

pub returns-in_err-query-clause-reads : goal.returns-in_err-query-clause-reads
returns-in_err-query-clause-reads c =
    let p = err_from_is_err_and c.from_residual-in_err-query.result c.from_residual-in_err-query.ensures.1 in
    rw (p.1, p.2) (questions_fail c.in_err-query.field-0.0.kind c.in_err-query.field-0.0.offset c.args.count
    c.questions.counter c.args.message.now.bytes.now c.questions.pos c.questions.queries.items
    (questions_at c.args.count c.args.message.now.bytes.now c.args.at) c.questions-test.true c.questions.invariant.so_far
    c.in_err-query.ensures.reads)

pub questions-preserved : goal.questions-preserved
questions-preserved c = record {
  so_far = rw c.in_ok-push.ensures.items (questions_more c.args.count c.questions.counter c.args.message.now.bytes.now
      c.questions.pos c.in_ok-query.query c.in_ok-query.next c.questions.queries.items
      (questions_at c.args.count c.args.message.now.bytes.now c.args.at) c.questions-test.true c.in_ok-query.ensures.reads
      c.questions.invariant.so_far);
  fits = c.in_ok-query.ensures.fits;
  known = search rules;
}

pub returns-clause-reads : goal.returns-clause-reads
returns-clause-reads c = questions_done c.args.count c.questions.counter c.args.message.now.bytes.now c.questions.pos
    c.questions.queries.items
    (questions_at c.args.count c.args.message.now.bytes.now c.args.at) c.questions-test.false c.questions.invariant.so_far
