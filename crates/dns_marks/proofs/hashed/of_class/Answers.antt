use Rattle.std.proofs.Common.{◌∷◌, [], ◌++◌, sym, ap, ◌∙◌}
use Rattle.dns_marks.specs.ZoneVerdicts.{of_class}
use Rattle.dns_marks.proofs.HashedLemmas.{class_more}
use Rattle.dns_marks.proofs.hashed.of_class.Goals as goal

pub loop-found-preserved : goal.loop-found-preserved
loop-found-preserved c =
    let class = c.args.class.0 in
    let x = c.found-item.result in
    c.in_ok-push_own.ensures ∙ ap (λ l. l ++ of_class class (x ∷ [])) c.loop-found.invariant
    ∙ sym (class_more class c.args.records.now c.loop-found.found-index x c.loop-found-test.true c.found-item.is)
