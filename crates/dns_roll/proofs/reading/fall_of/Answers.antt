use Rattle.std.proofs.Common.{◌≡◌, ◌+◌, ◌≤◌, ◌∙◌, arith, drop, length, nat_lt, sym, ap}
use Rattle.std.proofs.lemmas.Bool.{le-ltb, lt-ltb}
use Rattle.dns_roll.specs.RollValue.{SightValue}
use Rattle.dns_roll.proofs.Moments.{fall_left, falls_here, falls_later, falls_never, from_first}
use Rattle.dns_roll.proofs.reading.fall_of.Goals as goal

pub returns-then-sight-last-clause-value : goal.returns-then-sight-last-clause-value
returns-then-sight-last-clause-value c =
    let last = c.loop-place.last in
    sym (falls_here c.args.sights.now c.loop-place.place last c.index-sights-place.result c.loop-place-test.true
    c.index-sights-place.is c.loop-place.invariant
    (sym (ap (λ (s : SightValue). nat_lt s.moment last) c.sight.view_is)
    ∙ lt-ltb c.sight.inside.moment last c.if-sight-last.true))

pub loop-place-preserved : goal.loop-place-preserved
loop-place-preserved c =
    let sights = c.args.sights.now in
    let i = c.loop-place.place in
    let last = c.loop-place.last in
    falls_later sights i last c.index-sights-place.result c.loop-place-test.true
    c.index-sights-place.is c.loop-place.invariant
    (sym (ap (λ (s : SightValue). nat_lt s.moment last) c.sight.view_is)
    ∙ le-ltb c.sight.inside.moment last c.if-sight-last.false)
    ∙ ap (λ (s : SightValue). fall_left (i + 1) s.moment (drop (i + 1) sights)) (sym c.sight.view_is)

pub returns-clause-value : goal.returns-clause-value
returns-clause-value c =
    let all : length c.args.sights.now ≤ c.loop-place.place =
    omega (arith, c.loop-place-test.false, c.loop-place.auto.place-end) in
    sym (falls_never c.args.sights.now c.loop-place.place c.loop-place.last all c.loop-place.invariant)
