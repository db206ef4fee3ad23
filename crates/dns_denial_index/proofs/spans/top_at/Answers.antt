use Rattle.std.proofs.Common.{◌≡◌, ℕ, ◌+◌, List, [], ◌∷◌, reverse, None, Some, sym, subst, ◌∙◌, arith}
use Rattle.dns_denial_index.specs.Spans.{starts_at, first_from, start_of}
use Rattle.dns_denial_index.specs.Stack.{StandsOn}
use Rattle.dns_denial_index.proofs.Stack.{none_left, stands_taken, stands_put, counting_top, counting_none, stands_without, stands_with_next, next_is_less}
use Rattle.dns_denial_index.proofs.spans.top_at.Goals as goal

pub returns-then-place-spans-clause-top : goal.returns-then-place-spans-clause-top
returns-then-place-spans-clause-top c =
    let spans = c.args.spans.now in
    let rest = c.pop.new.self.items in
    let stands : StandsOn spans c.args.place (c.in-Some.number ∷ reverse rest) =
    stands_taken spans c.args.place c.over.around.items rest c.in-Some.number c.over.invariant
    c.in-Some.ensures.items in
    sym (counting_top spans c.args.place c.in-Some.number (reverse rest) stands c.if-place-spans.true)

pub over-smaller-in-Continue-branch-2 : goal.over-smaller-in-Continue-branch-2
over-smaller-in-Continue-branch-2 c =
    let spans = c.args.spans.now in
    let rest = c.pop.new.self.items in
    let number = c.in-Some.number in
    let stands : StandsOn spans c.args.place (number ∷ reverse rest) =
    stands_taken spans c.args.place c.over.around.items rest number c.over.invariant c.in-Some.ensures.items in
    let found : first_from (starts_at (start_of spans number)) (number + 1) spans ≡ Some c.in-Some-following.next =
    sym (c.requires.chained.next number stands.falls.0) ∙ c.in-Some-following.is in
    next_is_less spans number c.in-Some-following.next c.over.around.items rest c.push-in-Some-following.new.self.items
    c.in-Some.ensures.items c.in_ok-push-2.ensures.items found

pub over-preserved-in-Continue-branch-2 : goal.over-preserved-in-Continue-branch-2
over-preserved-in-Continue-branch-2 c =
    let spans = c.args.spans.now in
    let rest = c.pop.new.self.items in
    let number = c.in-Some.number in
    let stands : StandsOn spans c.args.place (number ∷ reverse rest) =
    stands_taken spans c.args.place c.over.around.items rest number c.over.invariant c.in-Some.ensures.items in
    let found : first_from (starts_at (start_of spans number)) (number + 1) spans ≡ Some c.in-Some-following.next =
    sym (c.requires.chained.next number stands.falls.0) ∙ c.in-Some-following.is in
    stands_put spans c.args.place rest c.push-in-Some-following.new.self.items c.in-Some-following.next
    (stands_with_next spans c.args.place number c.in-Some-following.next (reverse rest) stands c.if-place-spans.false
    found)
    c.in_ok-push-2.ensures.items

pub over-preserved : goal.over-preserved
over-preserved c =
    let spans = c.args.spans.now in
    let rest = c.pop.new.self.items in
    let number = c.in-Some.number in
    let stands : StandsOn spans c.args.place (number ∷ reverse rest) =
    stands_taken spans c.args.place c.over.around.items rest number c.over.invariant c.in-Some.ensures.items in
    let none : first_from (starts_at (start_of spans number)) (number + 1) spans ≡ None =
    sym (c.requires.chained.next number stands.falls.0) ∙ c.in_default-following.is in
    stands_without spans c.args.place number (reverse rest) stands c.if-place-spans.false none

pub returns-clause-top : goal.returns-clause-top
returns-clause-top c =
    let empty : c.over.around.items ≡ [] =
    none_left c.over.around.items (omega (arith, c.over.around.ok.0, c.in_default.ensures.cases.0)) in
    sym (counting_none c.args.spans.now c.args.place
    (subst (λ (l : List ℕ). StandsOn c.args.spans.now c.args.place (reverse l)) empty c.over.invariant))
