use Rattle.std.proofs.Common.{◌≡◌, ℕ, ◌+◌, Option, length, option_map, subst, sym, ◌∙◌, arith}
use Rattle.dns_model.specs.Owned.{OwnedNsec3}
use Rattle.dns_rules.specs.Nsec3Covering.{nsec3_spans, is_farther}
use Rattle.dns_denial.proofs.Best.{IsBestOf, IsFound, best_counts, best_more, best_found, is_top, lent_number, lent_element}
use Rattle.dns_denial.proofs.HashOrder.{farther_ranked}
use Rattle.dns_denial.proofs.hash_covering.nearest.Goals as goal
use Rattle.dns_denial.proofs.hash_covering.nearest.Goals.{After-loop-place}

pub nearer-best-requires : goal.nearer-best-requires
nearer-best-requires c =
    best_counts (nsec3_spans c.args.hash.now) (is_farther c.args.hash.now) c.args.nsec3s.now c.loop-place.place
    (option_map (λ p. (p.0, p.1.now)) c.loop-place.best) c.loop-place.invariant

pub loop-place-preserved : goal.loop-place-preserved
loop-place-preserved c =
    let hash = c.args.hash.now in
    let nsec3s = c.args.nsec3s.now in
    let best : Option (ℕ × OwnedNsec3) = option_map (λ p. (p.0, p.1.now)) c.loop-place.best in
    let more =
    best_more (nsec3_spans hash) (is_farther hash) (farther_ranked hash) nsec3s c.loop-place.place
    c.index-nsec3s-place.result best c.loop-place-test.true c.index-nsec3s-place.is c.loop-place.invariant in
    subst (IsBestOf (nsec3_spans hash) (is_farther hash) nsec3s (c.loop-place.place + 1)) (sym c.nearer-best.ensures) more

abbrev found_at : (c : After-loop-place)
    → IsFound (is_top (nsec3_spans c.args.hash.now) (is_farther c.args.hash.now) c.args.nsec3s.now) c.args.nsec3s.now
    (option_map (λ p. (p.0, p.1.now)) c.loop-place.best)
found_at c =
    let hash = c.args.hash.now in
    let nsec3s = c.args.nsec3s.now in
    let best : Option (ℕ × OwnedNsec3) = option_map (λ p. (p.0, p.1.now)) c.loop-place.best in
    let all : c.loop-place.place ≡ length nsec3s = omega
    (arith, c.loop-place-test.false, c.loop-place.auto.place-end) in
    best_found (nsec3_spans hash) (is_farther hash) nsec3s best
    (subst (λ (n : ℕ). IsBestOf (nsec3_spans hash) (is_farther hash) nsec3s n best) all c.loop-place.invariant)

pub returns-clause-number : goal.returns-clause-number
returns-clause-number c = lent_number (λ x. x.now) c.loop-place.best ∙ (found_at c).number

pub returns-clause-found : goal.returns-clause-found
returns-clause-found c = lent_element (λ x. x.now) c.loop-place.best ∙ (found_at c).found
