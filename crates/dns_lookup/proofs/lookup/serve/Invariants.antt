use Rattle.dns_validation.specs.Validations.{terms_in, state_of}
use Rattle.dns_lookup.specs.Driving.{cache_state}
use Rattle.dns_lookup.proofs.ServingLoop.{Serving}
use Rattle.dns_lookup.proofs.WorkLemmas.{sets_left}
use Rattle.dns_lookup.proofs.lookup.serve.Given as goal

abbrev pub invariant-sets : goal.invariant-sets
invariant-sets g l =
    Serving (terms_in g.V.Verifier.answers l.fn.validation) (terms_in g.V.Verifier.answers l.validation)
    (state_of l.fn.validation) (state_of l.validation)
    (cache_state g.C.ValidationCache l.fn.cache) (cache_state g.C.ValidationCache l.cache)

abbrev pub decreases-sets : goal.decreases-sets
decreases-sets g l = sets_left (state_of l.validation)
