use Rattle.std.proofs.Common.{◌≡◌, ℕ, ◌+◌, Option, length, option_map, subst, sym, ◌∙◌, arith}
use Rattle.dns_model.specs.Owned.{OwnedNsec}
use Rattle.dns_rules.specs.Covering.{nsec_spans}
use Rattle.dns_denial.specs.Best.{owned_before}
use Rattle.dns_denial.proofs.Best.{IsBestOf, IsFound, best_more, best_found, is_top, lent_number, lent_element}
use Rattle.dns_denial.proofs.NameOrder.{owners_ranked}
use Rattle.dns_denial.proofs.covering.nearest.Goals as goal
use Rattle.dns_denial.proofs.covering.nearest.Goals.{After-loop-place}

pub loop-place-preserved : goal.loop-place-preserved
loop-place-preserved c =
    let name = c.args.name.now in
    let nsecs = c.args.nsecs.now in
    let best : Option (ℕ × OwnedNsec) = option_map (λ p. (p.0, p.1.now)) c.loop-place.best in
    subst (IsBestOf (nsec_spans name) owned_before nsecs (c.loop-place.place + 1)) (sym c.nearer-best.ensures)
    (best_more (nsec_spans name) owned_before owners_ranked nsecs c.loop-place.place c.index-nsecs-place.result best
    c.loop-place-test.true c.index-nsecs-place.is c.loop-place.invariant)

abbrev found_at : (c : After-loop-place)
    → IsFound (is_top (nsec_spans c.args.name.now) owned_before c.args.nsecs.now) c.args.nsecs.now
    (option_map (λ p. (p.0, p.1.now)) c.loop-place.best)
found_at c =
    let name = c.args.name.now in
    let nsecs = c.args.nsecs.now in
    let best : Option (ℕ × OwnedNsec) = option_map (λ p. (p.0, p.1.now)) c.loop-place.best in
    let all : c.loop-place.place ≡ length nsecs = omega (arith, c.loop-place-test.false, c.loop-place.auto.place-end) in
    best_found (nsec_spans name) owned_before nsecs best
    (subst (λ (n : ℕ). IsBestOf (nsec_spans name) owned_before nsecs n best) all c.loop-place.invariant)

pub returns-clause-number : goal.returns-clause-number
returns-clause-number c = lent_number (λ x. x.now) c.loop-place.best ∙ (found_at c).number

pub returns-clause-found : goal.returns-clause-found
returns-clause-found c = lent_element (λ x. x.now) c.loop-place.best ∙ (found_at c).found
