use Rattle.std.proofs.Common.{sym, ◌∙◌}
use Rattle.dns_marks.proofs.CallLemmas.{unput, unread_key, put_accepted}
use Rattle.dns_marks.proofs.signature_keys.is_proving.Goals as goal

pub returns-in_default-clause-proving : goal.returns-in_default-clause-proving
returns-in_default-clause-proving g c = sym (unread_key _ _ _ _ _ (sym c.of.ensures ∙ c.in_default.is))

pub returns-then-not-is_put-clause-proving : goal.returns-then-not-is_put-clause-proving
returns-then-not-is_put-clause-proving g c = sym (unput _ _ _ _ _ (sym c.is_put.ensures ∙ c.if-not-is_put.true))

pub returns-clause-proving : goal.returns-clause-proving
returns-clause-proving g c =
    c.ask_verifier-accepted.ensures.accepted
    ∙ put_accepted _ _ _ _ _ _ _ _ c.requires.read (sym c.of.ensures ∙ c.in-Some.is) (sym c.is_put.ensures ∙ c.if-not-is_put.false)
    c.in_ok-bytes.ensures
