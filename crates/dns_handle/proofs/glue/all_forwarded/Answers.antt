use Rattle.std.proofs.Common.{◌++◌, ◌∷◌, [], sym, ap, ◌∙◌}
use Rattle.dns_handle.specs.Glue.{forwarded_by}
use Rattle.dns_handle.specs.Responses.{is_ns}
use Rattle.dns_handle.proofs.GlueLemmas.{made_more, made_same}
use Rattle.dns_handle.proofs.glue.all_forwarded.Goals as goal
use Rattle.dns_handle.proofs.glue.all_forwarded.Goals.{then-eq+in_ok-forwarded+in_ok-push, else-eq}

pub loop-next-preserved : goal.loop-next-preserved
loop-next-preserved c =
    let made = forwarded_by c.args.addresses.now in
    let section = c.args.section.now in
    let tests = ap is_ns (sym c.next.view_is) ∙ sym c.eq.ensures in
    elim c.if-eq.branch [
      | then-eq+in_ok-forwarded+in_ok-push w ↦
          rw w.all-is (made_more is_ns made section c.loop-next.next-index c.next-item.result c.loop-next.all.items _
          c.loop-next-test.true c.next-item.is (tests ∙ w.if-eq.true) c.loop-next.invariant
          (w.in_ok-push.ensures.items ∙ ap (λ z. c.loop-next.all.items ++ z ∷ []) w.in_ok-forwarded.ensures))
      | else-eq w ↦
          rw w.all-is (made_same is_ns made section c.loop-next.next-index c.next-item.result c.loop-next.all.items
          c.loop-next-test.true c.next-item.is (tests ∙ w.if-eq.false) c.loop-next.invariant)
    ]
