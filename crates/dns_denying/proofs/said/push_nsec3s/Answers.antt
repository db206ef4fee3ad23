use Rattle.std.proofs.Common.{◌∷◌, [], ◌++◌, take, sym, ap, append_assoc, ◌∙◌}
use Rattle.std.specs.List.{filter_map}
use Rattle.dns_rules.specs.Denying.{owned_nsec3}
use Rattle.dns_denying.proofs.SaidLemmas.{said_more}
use Rattle.dns_denying.proofs.said.push_nsec3s.Goals as goal

pub loop-found-preserved : goal.loop-found-preserved
loop-found-preserved c =
    let before = c.args.nsec3s.now.items in
    let records = c.args.records.now in
    let x = c.found-item.result in
    c.in_ok-push_nsec3.ensures ∙ ap (λ l. l ++ filter_map owned_nsec3 (x ∷ [])) c.loop-found.invariant
    ∙ append_assoc before (filter_map owned_nsec3 (take c.loop-found.found-index records)) (filter_map owned_nsec3 (x ∷ []))
    ∙ ap (λ l. before ++ l) (sym (said_more owned_nsec3 records c.loop-found.found-index x c.loop-found-test.true c.found-item.is))
