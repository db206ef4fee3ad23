use Rattle.std.proofs.Common.{◌+◌, ap, ◌∙◌, subst, sym}
use Rattle.std.proofs.lemmas.List.{map-append}
use Rattle.dns_model.specs.Records.{Rr}
use Rattle.dns_trust.specs.Delegating.{shown}
use Rattle.dns_trust.proofs.Once.{Kept, none_kept, kept_new, kept_copy, kept_all}
use Rattle.dns_trust.proofs.Shown.{shown_at, shown_end, shown_within}
use Rattle.dns_trust.proofs.signers.each_once.Goals as goal
use Rattle.dns_trust.proofs.signers.each_once.Goals.{then-branch+in_ok-push, else-branch}

pub loop-key-init : goal.loop-key-init
loop-key-init c = none_kept (shown c.args.keys.now) _ _ c.new-seen.ensures.empty (ap shown c.new-once.ensures.items)

pub loop-key-preserved : goal.loop-key-preserved
loop-key-preserved c =
    let keys = shown c.args.keys.now in
    let within = shown_within c.args.keys.now c.loop-key.key-index c.loop-key-test.true in
    let at = shown_at c.args.keys.now c.loop-key.key-index c.key-item.result c.key-item.is in
    let same = c.as_slice-rdata.ensures.bytes ∙ ap (λ (r : Rr). r.rdata) c.key.view_is in
    elim c.if-branch.branch [
      | then-branch+in_ok-push w ↦
          kept_new keys c.loop-key.key-index _ _ _ _ c.key-item.result.now c.as_slice-rdata.result _ within at same c.loop-key.invariant
          c.in_ok-insert.ensures.updates c.in_ok-insert.ensures.added w.if-branch.true
          (ap (λ o. shown o.items) w.once-is ∙ ap shown w.in_ok-push.ensures.items ∙ map-append (λ r. r.now) c.loop-key.once.items _)
      | else-branch w ↦
          subst (λ o. Kept keys (c.loop-key.key-index + 1) (shown o.items) c.insert.new.self) (sym w.once-is)
          (kept_copy keys c.loop-key.key-index _ _ _ c.key-item.result.now c.as_slice-rdata.result _ within at same c.loop-key.invariant
          c.in_ok-insert.ensures.updates c.in_ok-insert.ensures.added w.if-branch.false)
    ]

pub returns : goal.returns
returns c = record {
  found = kept_all (shown c.args.keys.now) c.loop-key.key-index _ _
      (shown_end c.args.keys.now c.loop-key.key-index c.loop-key-test.false) c.loop-key.invariant;
  once = c.loop-key.invariant.distinct;
}
