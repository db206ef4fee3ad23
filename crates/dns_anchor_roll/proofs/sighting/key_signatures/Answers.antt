use Rattle.std.proofs.Common.{◌∙◌, sym}
use Rattle.dns_anchor_roll.specs.Sightings.{is_key_signature}
use Rattle.dns_anchor_roll.proofs.Records.{kept_more, left_more}
use Rattle.dns_anchor_roll.proofs.sighting.key_signatures.Goals as goal
use Rattle.dns_anchor_roll.proofs.sighting.key_signatures.Goals.{then-is_key_signature+in_ok-own+in_ok-push, else-is_key_signature}

pub loop-next-preserved : goal.loop-next-preserved
loop-next-preserved c =
    elim c.if-is_key_signature.branch [
      | then-is_key_signature+in_ok-own+in_ok-push w ↦ rw w.all-is
          (kept_more (is_key_signature c.args.zone.now) c.args.section.now c.loop-next.next-index c.next-item.result _ _ _ c.loop-next-test.true c.next-item.is
          (sym c.is_key_signature.ensures ∙ w.if-is_key_signature.true) c.loop-next.invariant w.in_ok-own.ensures w.in_ok-push.ensures.items)
      | else-is_key_signature w ↦ rw w.all-is
          (left_more (is_key_signature c.args.zone.now) c.args.section.now c.loop-next.next-index c.next-item.result _ c.loop-next-test.true c.next-item.is
          (sym c.is_key_signature.ensures ∙ w.if-is_key_signature.false) c.loop-next.invariant)
    ]
