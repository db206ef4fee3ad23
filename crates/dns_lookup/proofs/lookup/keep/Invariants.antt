use Rattle.std.proofs.Common.{length}
use Rattle.dns_validation.specs.Validations.{terms_in, state_of}
use Rattle.dns_lookup.proofs.InsertLemmas.{Inserting}
use Rattle.dns_lookup.proofs.lookup.keep.Given as goal

abbrev pub invariant-entries : goal.invariant-entries
invariant-entries g l =
    Inserting (terms_in g.V.Verifier.answers l.fn.validation) (terms_in g.V.Verifier.answers l.validation)
    (state_of l.fn.validation) (state_of l.validation)
    (g.C.ValidationCache.told l.fn.cache) (g.C.ValidationCache.told l.cache) (g.C.ValidationCache.hits l.fn.cache)
    (g.C.ValidationCache.hits l.cache)

abbrev pub decreases-entries : goal.decreases-entries
decreases-entries g l = length (state_of l.validation).kept
