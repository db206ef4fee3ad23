use Rattle.std.proofs.Common.{◌∷◌, [], ◌++◌, sym, ap, ◌∙◌}
use Rattle.std.specs.List.{filter_map}
use Rattle.dns_rules.specs.Denying.{owned_nsec}
use Rattle.dns_query_answer.proofs.SaidLemmas.{said_more}
use Rattle.dns_query_answer.proofs.nsec_faults.nsecs_in.Goals as goal

pub loop-found-preserved : goal.loop-found-preserved
loop-found-preserved c =
    let records = c.args.records.now in
    let x = c.found-item.result in
    c.in_ok-push_nsec.ensures ∙ ap (λ l. l ++ filter_map owned_nsec (x ∷ [])) c.loop-found.invariant
    ∙ sym (said_more owned_nsec records c.loop-found.found-index x c.loop-found-test.true c.found-item.is)
