use Rattle.std.proofs.Common.{◌∙◌, map, ap}
use Rattle.dns_evidence.specs.Link.{link_value}
use Rattle.dns_record.proofs.Copies.{copied_as, copied_all}
use Rattle.dns_evidence.proofs.link.clone_links.Goals as goal

pub loop-link-preserved : goal.loop-link-preserved
loop-link-preserved c =
    copied_as link_value _ _ _ _ _ c.link-item.result _ c.deref-link-items.ensures.value c.loop-link-test.true c.link-item.is
    c.loop-link.invariant c.in_ok-try_clone.ensures c.in_ok-push.ensures.items

pub returns : goal.returns
returns c = c.loop-link.invariant ∙ ap (map link_value) (copied_all _ _ _ c.deref-link-items.ensures.value c.loop-link-test.false)
