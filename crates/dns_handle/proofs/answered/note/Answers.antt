use Rattle.std.proofs.Common.{◌∙◌, ap}
use Rattle.dns_handle.specs.QueryKeys.{key_of}
use Rattle.dns_handle.specs.AnswerIndex.{asked}
use Rattle.dns_handle.proofs.AnswerLemmas.{noted}
use Rattle.dns_handle.proofs.answered.note.Goals as goal

pub returns : goal.returns
returns c =
    noted c.args.index.now c.insert.new.self c.args.owner.now c.args.record_type.0 c.in_ok-key.key
    (c.in_ok-key.ensures ∙ ap (λ o. key_of (asked o c.args.record_type.0)) c.borrowed.ensures) c.in_ok-insert.ensures.updates
