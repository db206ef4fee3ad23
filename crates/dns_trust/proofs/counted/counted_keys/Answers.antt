use Rattle.std.proofs.Common.{◌∙◌, sym, ap}
use Rattle.std.proofs.lemmas.List.{map-append}
use Rattle.dns_trust.specs.Delegating.{shown}
use Rattle.dns_trust.proofs.Counts.{none_taken, taken_more, taken_same, taken_end}
use Rattle.dns_trust.proofs.counted.counted_keys.Goals as goal

pub loop-key-init : goal.loop-key-init
loop-key-init c = none_taken _ _ _ _ c.new-counts.ensures.empty (ap shown c.new-counted.ensures.items)

pub loop-key-preserved-then-not-branch : goal.loop-key-preserved-then-not-branch
loop-key-preserved-then-not-branch c =
    taken_same _ _ _ _ _ c.key-item.result _ c.loop-key-test.true c.key-item.is c.loop-key.invariant c.in_ok-is_tried.ensures.counted
    (sym c.in_ok-is_tried.ensures.tried ∙ c.if-not-branch.true)

pub loop-key-preserved : goal.loop-key-preserved
loop-key-preserved c =
    taken_more _ _ _ _ _ c.key-item.result _ _ c.loop-key-test.true c.key-item.is c.loop-key.invariant c.in_ok-is_tried.ensures.counted
    (sym c.in_ok-is_tried.ensures.tried ∙ c.if-not-branch.false)
    (ap shown c.in_ok-push.ensures.items ∙ map-append (λ r. r.now) c.loop-key.counted.items _)

pub returns : goal.returns
returns c = taken_end _ _ _ _ _ c.loop-key-test.false c.loop-key.invariant
