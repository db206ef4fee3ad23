use Rattle.std.proofs.Common.{◌≡◌, ◌∙◌, rules, subst, sym, ap, refl}
use Rattle.std.proofs.lemmas.List.{take_all}
use Rattle.std.proofs.lemmas.Result.{IfOk-weaker}
use Rattle.dns_trust.specs.Delegating.{shown}
use Rattle.dns_trust.specs.Signers.{AreOnce}
use Rattle.std.specs.List.{filter}
use Rattle.dns_trust.proofs.Shown.{passed_more, failed_more}
use Rattle.dns_anchor_roll.specs.Findings.{is_asked}
use Rattle.dns_anchor_roll.specs.Tables.{is_trusted, standing_in}
use Rattle.dns_anchor_roll.proofs.examining.asked_once.Goals as goal
use Rattle.dns_anchor_roll.proofs.examining.asked_once.Goals.{then-is_asked+in_ok-push, else-is_asked}

pub loop-next-preserved : goal.loop-next-preserved
loop-next-preserved c =
    let test = is_asked c.args.zone.now (λ key. is_trusted (standing_in c.args.table.now.known key)) c.args.asked in
    elim c.if-is_asked.branch [
      | then-is_asked+in_ok-push w ↦ rw w.all-is
          (passed_more test _ _ c.args.records.now _ c.loop-next.next-index _ refl c.loop-next-test.true c.next-item.is
          (sym c.is_asked.ensures ∙ w.if-is_asked.true) w.in_ok-push.ensures.items c.loop-next.invariant)
      | else-is_asked w ↦ rw w.all-is
          (failed_more test _ c.args.records.now _ c.loop-next.next-index c.next-item.result refl c.loop-next-test.true c.next-item.is
          (sym c.is_asked.ensures ∙ w.if-is_asked.false) c.loop-next.invariant)
    ]

pub returns : goal.returns
returns c =
    let test = is_asked c.args.zone.now (λ key. is_trusted (standing_in c.args.table.now.known key)) c.args.asked in
    let whole = c.loop-next.invariant ∙ ap (filter test) (take_all c.loop-next.next-index c.args.records.now c.loop-next-test.false) in
    let same : c.deref.result.now ≡ c.loop-next.all.items = search rules in
    IfOk-weaker c.each_once.result _ _
    (λ v are. subst (AreOnce (shown v.items)) (ap shown same ∙ whole) are) c.each_once.ensures.found
