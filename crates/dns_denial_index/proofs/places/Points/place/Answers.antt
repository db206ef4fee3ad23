use Rattle.std.proofs.Common.{◌+◌, ◌-◌, ◌/◌, ℕ, List, ap, arith, get_or, length, subst, sym, ◌∙◌}
use Rattle.std.specs.List.Sorted.{IsSorted}
use Rattle.std.specs.Cmp.Lexicographic.{slice_cmp}
use Rattle.std.specs.Ordering.{nat_cmp}
use Rattle.dns_denial_index.proofs.Search.{turned_less, turned_equal, turned_greater, ends_met, ends_between, ends_ticked}
use Rattle.dns_denial_index.proofs.places.Points.place.Goals as goal

pub turns-preserved-in-Less : goal.turns-preserved-in-Less
turns-preserved-in-Less g c =
    turned_less c.args.self.now c.args.key.now c.turns.low c.turns.high c.turns.met c.args.steps.now c.turns.steps
    c.tick.new.self c.index.result.now
    (subst (λ (l : List (List ℕ)). IsSorted (slice_cmp nat_cmp) l) c.self.view_is c.self.invariant)
    c.turns.invariant c.turns-test.true c.tick.ensures
    (c.index.ensures
    ∙ ap (λ (l : List (List ℕ)). get_or l (c.turns.low + (c.turns.high - c.turns.low) / 2) c.index.result.now)
    c.self.view_is)
    (ap (λ p. slice_cmp nat_cmp p c.args.key.now) (sym c.as_slice.ensures) ∙ sym c.cmp.ensures ∙ c.in-Less.is)

pub turns-preserved-in-Equal : goal.turns-preserved-in-Equal
turns-preserved-in-Equal g c =
    turned_equal c.args.self.now c.args.key.now c.turns.low c.turns.high c.turns.met c.args.steps.now c.turns.steps
    c.tick.new.self c.index.result.now
    (subst (λ (l : List (List ℕ)). IsSorted (slice_cmp nat_cmp) l) c.self.view_is c.self.invariant)
    c.turns.invariant c.turns-test.true c.tick.ensures
    (c.index.ensures
    ∙ ap (λ (l : List (List ℕ)). get_or l (c.turns.low + (c.turns.high - c.turns.low) / 2) c.index.result.now)
    c.self.view_is)
    (ap (λ p. slice_cmp nat_cmp p c.args.key.now) (sym c.as_slice.ensures) ∙ sym c.cmp.ensures ∙ c.in-Equal.is)

pub turns-preserved : goal.turns-preserved
turns-preserved g c =
    turned_greater c.args.self.now c.args.key.now c.turns.low c.turns.high c.turns.met c.args.steps.now c.turns.steps
    c.tick.new.self c.index.result.now
    (subst (λ (l : List (List ℕ)). IsSorted (slice_cmp nat_cmp) l) c.self.view_is c.self.invariant)
    c.turns.invariant c.turns-test.true c.tick.ensures
    (c.index.ensures
    ∙ ap (λ (l : List (List ℕ)). get_or l (c.turns.low + (c.turns.high - c.turns.low) / 2) c.index.result.now)
    c.self.view_is)
    (ap (λ p. slice_cmp nat_cmp p c.args.key.now) (sym c.as_slice.ensures) ∙ sym c.cmp.ensures ∙ c.in-Greater.is)

pub returns-then-met-clause-place : goal.returns-then-met-clause-place
returns-then-met-clause-place g c =
    ends_met c.args.self.now c.args.key.now c.turns.low c.turns.high c.turns.met c.turns.invariant.searched
    (omega (arith, c.turns-test.false)) c.if-met.true

pub returns-else-met-clause-place : goal.returns-else-met-clause-place
returns-else-met-clause-place g c =
    ends_between c.args.self.now c.args.key.now c.turns.low c.turns.high c.turns.met c.turns.invariant.searched
    (omega (arith, c.turns-test.false)) c.if-met.false

pub returns-then-met-clause-ticks : goal.returns-then-met-clause-ticks
returns-then-met-clause-ticks g c =
    ends_ticked (length c.args.self.now) (c.turns.steps - c.args.steps.now) c.turns.low c.turns.high
    c.turns.invariant.halved (omega (arith, c.turns-test.false))

pub returns-else-met-clause-ticks : goal.returns-else-met-clause-ticks
returns-else-met-clause-ticks g c =
    ends_ticked (length c.args.self.now) (c.turns.steps - c.args.steps.now) c.turns.low c.turns.high
    c.turns.invariant.halved (omega (arith, c.turns-test.false))
