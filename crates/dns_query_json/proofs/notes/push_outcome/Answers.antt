use Rattle.std.proofs.Common.{codes, ◌∷◌, []}
use Rattle.dns_handle.specs.Replies.{reply_of}
use Rattle.dns_query_answer.proofs.PushLemmas.{pushed}
use Rattle.dns_query_json.specs.AnswerJson.{heard_field, outcome_fields}
use Rattle.dns_query_json.specs.Json.{number_field}
use Rattle.dns_query_json.proofs.notes.push_outcome.Goals as goal

pub returns : goal.returns
unfolding outcome_fields
returns c =
    let heard = heard_field (reply_of c.args.reply.now) in
    let field = number_field (codes "milliseconds") c.args.elapsed_ms in
    let end = c.push_heard.new.into.items in
    let behind = pushed c.push_heard.result c.push_number_field.new.into.items c.push_sign.new.into.items end (44 ∷ []) heard
    c.in_ok-push_sign.ensures c.push_heard.ensures in
    pushed c.push_heard.result c.args.into.now.items c.push_number_field.new.into.items end field (44 ∷ heard)
    c.in_ok-push_number_field.ensures behind
