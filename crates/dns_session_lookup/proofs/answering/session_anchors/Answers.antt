use Rattle.std.proofs.Common.{◌≡◌, ◌∙◌, ap, sym}
use Rattle.std.proofs.lemmas.List.{map-id}
use Rattle.std.proofs.lemmas.Iterator.Consumers.{YieldsList-end}
use Rattle.std.proofs.lemmas.Iterator.Adapters.{YieldsList-from_vec}
use Rattle.dns_session_lookup.specs.Adding.{trusted_by}
use Rattle.dns_session_lookup.proofs.JudgeLemmas.{trusted_made}
use Rattle.dns_session_lookup.proofs.answering.session_anchors.Goals as goal

pub returns : goal.returns
returns c =
    let all =
    YieldsList-end
    (YieldsList-from_vec c.args.anchors.items (cc) (cc)) c.loop-next.yielded c.loop-next.next-iterator
    c.loop-next.yielded_by c.next.result c.next.new.self c.in-None.is c.next.ensures.steps in
    let e : c.loop-next.yielded ≡ c.args.anchors.items = sym (map-id c.loop-next.yielded) ∙ all.0 in
    trusted_made c.loop-next.trusted c.args.anchors.items (c.loop-next.invariant ∙ ap trusted_by e)
