use Rattle.std.proofs.Common.{rules, ◌≡◌, []}
use Rattle.dns_evidence.specs.Link.{link_value}
use Rattle.dns_rules.specs.ChainedSets.{anchored_link}
use Rattle.dns_trust.proofs.ChainOf.{links_more}
use Rattle.dns_trust.proofs.chains.anchored_links.Goals as goal

pub loop-key-preserved : goal.loop-key-preserved
loop-key-preserved c =
    let same : c.deref-key-items.result.now ≡ c.args.set.now.records = search rules in
    links_more link_value (anchored_link c.args.set.now) [] _ _ _ _ c.loop-key.key-index _ c.key-item.result
    same c.loop-key-test.true c.key-item.is c.in_ok-anchored_link.ensures c.in_ok-push.ensures.items c.loop-key.invariant
