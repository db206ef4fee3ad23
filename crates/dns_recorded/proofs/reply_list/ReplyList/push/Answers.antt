use Rattle.std.proofs.Common.{◌≡◌, ◌∷◌, [], ◌++◌, rules, length, ap, ◌∙◌}
use Rattle.dns_model.specs.Records.{Question}
use Rattle.dns_handle.specs.Errors.{Reply}
use Rattle.dns_handle.specs.Replies.{reply_of}
use Rattle.dns_recorded.specs.RecordedPlaces.{left}
use Rattle.dns_recorded.proofs.ReplyLemmas.{index_more, left-push}
use Rattle.dns_recorded.proofs.reply_list.ReplyList.push.Goals as goal

pub invariant_of-self-in-Ok : goal.invariant_of-self-in-Ok
invariant_of-self-in-Ok c =
    let end : c.len-place.result ≡ length c.self.inside.recordings.items = search rules in
    rw c.in_ok-push.ensures.items
    (index_more c.self.inside.places c.note_place.new.places c.self.inside.recordings.items c.args.query c.in_ok-key.key c.len-place.result
    (reply_of c.args.reply) c.self.invariant c.in_ok-key.ensures end c.in-Ok.ensures.ok)

pub returns-in-Ok-clause-ok : goal.returns-in-Ok-clause-ok
returns-in-Ok-clause-ok c =
    let told : Question × Reply = (c.args.query, reply_of c.args.reply) in
    ap left c.in_ok-push.ensures.items ∙ left-push c.self.inside.recordings.items told ∙ ap (λ l. l ++ told ∷ []) c.self.view_is
