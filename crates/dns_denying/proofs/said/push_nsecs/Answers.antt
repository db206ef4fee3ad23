use Rattle.std.proofs.Common.{◌∷◌, [], ◌++◌, take, sym, ap, append_assoc, ◌∙◌}
use Rattle.std.specs.List.{filter_map}
use Rattle.dns_rules.specs.Denying.{owned_nsec}
use Rattle.dns_denying.proofs.SaidLemmas.{said_more}
use Rattle.dns_denying.proofs.said.push_nsecs.Goals as goal

pub loop-found-preserved : goal.loop-found-preserved
loop-found-preserved c =
    let before = c.args.nsecs.now.items in
    let records = c.args.records.now in
    let x = c.found-item.result in
    c.in_ok-push_nsec.ensures ∙ ap (λ l. l ++ filter_map owned_nsec (x ∷ [])) c.loop-found.invariant
    ∙ append_assoc before (filter_map owned_nsec (take c.loop-found.found-index records)) (filter_map owned_nsec (x ∷ []))
    ∙ ap (λ l. before ++ l) (sym (said_more owned_nsec records c.loop-found.found-index x c.loop-found-test.true c.found-item.is))
