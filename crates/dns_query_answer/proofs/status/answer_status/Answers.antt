use Rattle.std.proofs.Common.{sym, ◌∙◌}
use Rattle.dns_handle.specs.Replies.{reply_of}
use Rattle.dns_query_answer.proofs.StatusLemmas.{proved}
use Rattle.dns_query_answer.proofs.status.answer_status.Goals as goal

pub returns-clause-proved : goal.returns-clause-proved
returns-clause-proved c = λ zero. proved c.args.query.now (reply_of c.args.reply.now) (sym c.status_of.ensures ∙ zero)
