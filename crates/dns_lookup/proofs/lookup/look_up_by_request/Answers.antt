use Rattle.std.proofs.lemmas.Result.{err_from_is_err_and}
use Rattle.dns_lookup.specs.Calls.{use_of}
use Rattle.dns_lookup.proofs.FrontLemmas.{unsent_front}
use Rattle.dns_lookup.proofs.TermsLemmas.{front_by, sends_by, lookup_by, cached_by}
use Rattle.dns_lookup.proofs.lookup.look_up_by_request.Goals as goal

pub returns-in_err-validation-clause-front : goal.returns-in_err-validation-clause-front
returns-in_err-validation-clause-front g c =
    let p = err_from_is_err_and c.from_residual.result c.from_residual.ensures.1 in
    rw (p.1, p.2) (unsent_front g.H.DnsHandle _ (g.C.ValidationCache.told c.args.cache.now)
    (g.C.ValidationCache.hits c.args.cache.now) _)

pub returns-clause-front : goal.returns-clause-front
returns-clause-front g c =
    front_by g.H.DnsHandle c.in_ok-validation.ensures.terms
    (use_of g.C.ValidationCache c.args.cache.now c.drive.new.cache) _ _ c.drive.result c.drive.ensures.front

pub returns-clause-sends : goal.returns-clause-sends
returns-clause-sends g c =
    sends_by g.H.DnsHandle c.in_ok-validation.ensures.terms
    c.args.handle.now c.drive.new.handle c.drive.result c.drive.ensures.sends

pub returns-clause-lookup : goal.returns-clause-lookup
returns-clause-lookup g c =
    lookup_by g.H.DnsHandle c.in_ok-validation.ensures.terms
    (use_of g.C.ValidationCache c.args.cache.now c.drive.new.cache) _ _ c.drive.result c.drive.ensures.lookup

pub returns-clause-cached : goal.returns-clause-cached
returns-clause-cached g c =
    cached_by g.H.DnsHandle c.in_ok-validation.ensures.terms
    (use_of g.C.ValidationCache c.args.cache.now c.drive.new.cache) c.args.handle.now c.drive.new.handle c.drive.result
    c.drive.ensures.cached
