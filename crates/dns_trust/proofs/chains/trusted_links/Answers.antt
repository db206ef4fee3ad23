use Rattle.std.proofs.Common.{rules, ◌≡◌}
use Rattle.dns_evidence.specs.Link.{link_value}
use Rattle.dns_rules.specs.ChainedSets.{trusted_link}
use Rattle.dns_trust.specs.Judge.{judge_of}
use Rattle.dns_trust.proofs.ChainOf.{links_more}
use Rattle.dns_trust.proofs.chains.trusted_links.Goals as goal

pub loop-key-preserved : goal.loop-key-preserved
loop-key-preserved g c =
    let link_of = trusted_link (judge_of g.V.Verifier.answers c.args.judge.now) c.args.set.now c.in_ok-ds_link.ds_link
    c.args.ds.now.records in
    let same : c.deref-key-items.result.now ≡ c.args.set.now.records = search rules in
    links_more link_value link_of _ _ _ _ _ c.loop-key.key-index c.in_ok-trusted_link.field-0 c.key-item.result
    same c.loop-key-test.true c.key-item.is c.in_ok-trusted_link.ensures c.in_ok-push.ensures.items c.loop-key.invariant
