use Rattle.dns_validation.specs.Validations.{terms_in, state_of}
use Rattle.dns_lookup.specs.Driving.{cache_state}
use Rattle.dns_lookup.proofs.LoopLemmas.{Going, sends_left}
use Rattle.dns_lookup.proofs.lookup.drive.Given as goal

abbrev pub invariant-asks : goal.invariant-asks
invariant-asks g l =
    Going g.H.DnsHandle (terms_in g.V.Verifier.answers l.fn.begun)
    (terms_in g.V.Verifier.answers l.validation) l.fn.handle
    (cache_state g.C.ValidationCache l.fn.cache) (state_of l.validation) l.handle
    (cache_state g.C.ValidationCache l.cache)

abbrev pub decreases-asks : goal.decreases-asks
decreases-asks g l = sends_left (state_of l.validation)
