use Rattle.std.proofs.Common.{ap, ◌∙◌, subst}
use Rattle.dns_forwarded.specs.Requests.{query_of}
use Rattle.dns_forwarded.specs.Replies.{reply_bytes}
use Rattle.dns_respond.specs.Responding.{LeadsTo}
use Rattle.dns_respond.proofs.RespondLemmas.{kept_proved}
use Rattle.dns_respond.proofs.answering.respond_over.Goals as goal

pub returns-clause-authentic : goal.returns-clause-authentic
returns-clause-authentic g c =
    let same = c.in_ok-received.ensures in
    let asked = c.query.ensures ∙ ap query_of same in
    let looked = subst (λ q. LeadsTo g.H.DnsHandle g.V.Verifier g.C.ValidationCache q c.args.validator.now c.look_up.new.validator
    c.args.depth c.args.now c.in_ok-outcome.outcome) asked c.in_ok-outcome.ensures in
    let is = c.in_ok-reply.ensures.exact ∙ ap (λ r. reply_bytes r c.args.protocol c.in_ok-outcome.outcome) same in
    kept_proved g.H.DnsHandle g.V.Verifier g.C.ValidationCache c.args.validator.now c.look_up.new.validator
    c.args.request.now c.args.protocol c.args.depth c.args.now c.in_ok-outcome.outcome c.in_ok-kept.kept c.in_ok-reply.reply
    c.in_ok-kept.ensures is looked
