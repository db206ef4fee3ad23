use Rattle.std.proofs.Common.{Some, ap, ◌∙◌}
use Rattle.std.proofs.lemmas.Result.{err_from_is_err_and}
use Rattle.dns_validation.specs.Machine.{Terms}
use Rattle.dns_validation.specs.Validations.{state_of}
use Rattle.dns_lookup.specs.Driving.{cache_state}
use Rattle.dns_lookup.proofs.ServingLoop.{serving_kept, kept_empty, failed_keeping, failed_handing, wished, serves_none, serves_reply, serving_handed, handed_fewer}
use Rattle.dns_lookup.proofs.WorkLemmas.{fewer_kept}
use Rattle.dns_lookup.proofs.lookup.serve.Goals as goal

pub returns-in_err-keep-clause-serves : goal.returns-in_err-keep-clause-serves
returns-in_err-keep-clause-serves g c =
    let p = err_from_is_err_and c.from_residual.result c.from_residual.ensures.1 in
    rw p.1 (failed_keeping _ _ _ _ _ _ _ _ _ c.sets.invariant c.in_err-keep.ensures.left)

pub returns-in-None-clause-serves : goal.returns-in-None-clause-serves
returns-in-None-clause-serves g c =
    serves_none _ _ _ _ _ _ _
    (serving_kept _ _ _ _ _ _ _ _
    (cache_state g.C.ValidationCache c.keep.new.cache) c.sets.invariant c.keep.ensures.terms
    c.in_ok-keep.ensures.state
    c.in_ok-keep.ensures.left c.keep.ensures.hits)
    (kept_empty (state_of c.sets.validation) _ c.in_ok-keep.ensures.state)
    (wished _ _ _ _ _ c.in-None.is c.next.ensures.asks c.next.ensures.same c.next.ensures.out)

pub returns-in-Some-Reply-clause-serves : goal.returns-in-Some-Reply-clause-serves
returns-in-Some-Reply-clause-serves g c =
    serves_reply _ _ _ _ _ _ _ _
    (serving_kept _ _ _ _ _ _ _ _
    (cache_state g.C.ValidationCache c.keep.new.cache) c.sets.invariant c.keep.ensures.terms
    c.in_ok-keep.ensures.state
    c.in_ok-keep.ensures.left c.keep.ensures.hits)
    (kept_empty (state_of c.sets.validation) _ c.in_ok-keep.ensures.state)
    (wished _ _ _ _ _
    (c.in-Some-Reply.is ∙ ap (λ x. Some x) c.in-Some-Reply.field-0-is) c.next.ensures.asks c.next.ensures.same
    c.next.ensures.out)

pub returns-in_err-hand_on-in-Some-Entry-clause-serves : goal.returns-in_err-hand_on-in-Some-Entry-clause-serves
returns-in_err-hand_on-in-Some-Entry-clause-serves g c =
    let p = err_from_is_err_and c.from_residual-in_err-hand_on-in-Some-Entry.result
    c.from_residual-in_err-hand_on-in-Some-Entry.ensures.1 in
    rw p.1 (failed_handing _ _ _ _ _ _ _ _ _ c.in-Some-Entry.key c.args.now _
    (serving_kept _ _ _ _ _ _ _ _
    (cache_state g.C.ValidationCache c.keep.new.cache) c.sets.invariant c.keep.ensures.terms
    c.in_ok-keep.ensures.state
    c.in_ok-keep.ensures.left c.keep.ensures.hits)
    c.in_err-hand_on-in-Some-Entry.ensures.handed)

pub hand_on-requires : goal.hand_on-requires
hand_on-requires g c =
    let terms = c.next.ensures.terms ∙ c.keep.ensures.terms ∙ c.sets.invariant.terms in
    record {
      verifier = ap (λ (t : Terms). t.judge.answers) terms ∙ c.requires.verifier;
    }

pub sets-smaller : goal.sets-smaller
sets-smaller g c =
    fewer_kept _ _ _ c.in_ok-keep.ensures.state
    (handed_fewer _ _ _ _ _ _ _ _ _ _ _ c.in-Some-Entry.key c.args.now
    (serving_kept _ _ _ _ _ _ _ _
    (cache_state g.C.ValidationCache c.keep.new.cache) c.sets.invariant c.keep.ensures.terms
    c.in_ok-keep.ensures.state
    c.in_ok-keep.ensures.left c.keep.ensures.hits)
    (wished _ _ _ _ _
    (c.in-Some-Entry.is ∙ ap (λ x. Some x) c.in-Some-Entry.field-0-is) c.next.ensures.asks c.next.ensures.same
    c.next.ensures.out)
    c.in_ok-hand_on-in-Some-Entry.ensures.handed)

pub sets-preserved : goal.sets-preserved
sets-preserved g c =
    serving_handed _ _ _ _ _ _ _ _ _ _ _ _ c.in-Some-Entry.key c.args.now c.requires.moment
    (serving_kept _ _ _ _ _ _ _ _
    (cache_state g.C.ValidationCache c.keep.new.cache) c.sets.invariant c.keep.ensures.terms
    c.in_ok-keep.ensures.state
    c.in_ok-keep.ensures.left c.keep.ensures.hits)
    (kept_empty (state_of c.sets.validation) _ c.in_ok-keep.ensures.state)
    (wished _ _ _ _ _
    (c.in-Some-Entry.is ∙ ap (λ x. Some x) c.in-Some-Entry.field-0-is) c.next.ensures.asks c.next.ensures.same
    c.next.ensures.out)
    c.next.ensures.terms c.hand_on.ensures.terms
    c.in_ok-hand_on-in-Some-Entry.ensures.handed
