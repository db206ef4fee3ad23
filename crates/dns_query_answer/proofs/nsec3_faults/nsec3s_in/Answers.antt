use Rattle.std.proofs.Common.{◌∷◌, [], ◌++◌, sym, ap, ◌∙◌}
use Rattle.std.specs.List.{filter_map}
use Rattle.dns_rules.specs.Denying.{owned_nsec3}
use Rattle.dns_query_answer.proofs.SaidLemmas.{said_more}
use Rattle.dns_query_answer.proofs.nsec3_faults.nsec3s_in.Goals as goal

pub loop-found-preserved : goal.loop-found-preserved
loop-found-preserved c =
    let records = c.args.records.now in
    let x = c.found-item.result in
    c.in_ok-push_nsec3.ensures ∙ ap (λ l. l ++ filter_map owned_nsec3 (x ∷ [])) c.loop-found.invariant
    ∙ sym (said_more owned_nsec3 records c.loop-found.found-index x c.loop-found-test.true c.found-item.is)
