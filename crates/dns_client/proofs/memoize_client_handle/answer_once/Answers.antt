use Rattle.std.proofs.Common.{refl, sym, ◌∙◌}
use Rattle.std.proofs.lemmas.Result.{err_from_is_err_and}
use Rattle.dns_client.proofs.MemoLemmas.{asked_once, given_again, nothing_kept, refused, unsent}
use Rattle.dns_client.proofs.memoize_client_handle.answer_once.Goals as goal

pub returns-in_default : goal.returns-in_default
returns-in_default g c =
    refused g.H.DnsHandle _ _ c.args.kept.now _ _ refl (sym c.in_default.is ∙ c.in_ok-key.ensures.key)

pub returns-in_err-key : goal.returns-in_err-key
returns-in_err-key g c =
    let p = err_from_is_err_and c.from_residual.result c.from_residual.ensures.1 in
    rw (p.1, p.2) (unsent g.H.DnsHandle _ _ c.args.kept.now _ _ refl c.in_err-key.ensures.err)

pub returns-in-Some-kept_at : goal.returns-in-Some-kept_at
returns-in-Some-kept_at g c =
    given_again g.H.DnsHandle _ _ c.args.kept.now _ _ _ _ _ refl (sym c.in-Some.is ∙ c.in_ok-key.ensures.key) refl
    c.in-Some-kept_at.ensures

pub returns : goal.returns
returns g c =
    asked_once g.H.DnsHandle _ _ c.args.kept.now c.keep.new.kept _ _ _ _ _ _ refl
    (sym c.in-Some.is ∙ c.in_ok-key.ensures.key)
    (nothing_kept _ c.in_default-kept_at.ensures) (c.send-reply.ensures.sent, c.send-reply.ensures.requested) c.keep.ensures
