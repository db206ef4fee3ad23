use Rattle.std.proofs.Common.{◌+◌, ◌<◌, ℕ, List, ap, arith, length, map, subst, sym, ◌∙◌}
use Rattle.std.specs.List.Sorted.{IsPermutation}
use Rattle.dns_denial_index.specs.Places.{key_of, place_of, IsFirstOf}
use Rattle.dns_denial_index.proofs.Placing.{key_in, placed_all, placed_turn, points_of, turn_begins, turn_stays, IsKeyIn}
use Rattle.dns_denial_index.proofs.places.Points.placing.Goals as goal
use Rattle.dns_denial_index.proofs.places.Points.placing.Goals.{then-ne, else-ne}

pub index_mut-requires : goal.index_mut-requires
index_mut-requires c =
    let n = c.index-in-loop-index-2.result.now in
    let ns = c.in_ok-numbered.numbered.items in
    let lt : c.loop-index.index < length ns =
    omega (arith, c.loop-index-test.true, c.len-index-end.ensures, c.in_ok-numbered.numbered.ok.0) in
    let own : IsKeyIn c.args.keys.items n =
    subst (λ (x : List ℕ × ℕ). IsKeyIn c.args.keys.items x) (sym c.index-in-loop-index-2.ensures)
    (key_in c.args.keys.items ns c.loop-index.index n c.in_ok-numbered.ensures lt) in
    omega (arith, own.within, c.loop-index.invariant.long, c.loop-index.places.ok.0)

pub loop-index-preserved : goal.loop-index-preserved
loop-index-preserved c =
    let ns = c.in_ok-numbered.numbered.items in
    let lt : c.loop-index.index < length ns =
    omega (arith, c.loop-index-test.true, c.len-index-end.ensures, c.in_ok-numbered.numbered.ok.0) in
    let start : IsFirstOf (map key_of ns) (c.loop-index.index + 1) c.if-ne.first = elim c.if-ne.branch [
      | then-ne w ↦ rw w.first-is
          (turn_begins ns c.loop-index.index c.loop-index.first c.index.result.now c.index-in-loop-index.result.now
          c.in_ok-numbered.ensures.order lt c.index.ensures c.index-in-loop-index.ensures c.loop-index.invariant.start
          w.if-ne.ensures)
      | else-ne w ↦ rw w.first-is
          (turn_stays ns c.loop-index.index c.loop-index.first c.index.result.now c.index-in-loop-index.result.now
          lt c.index.ensures c.index-in-loop-index.ensures c.loop-index.invariant.start w.if-ne.ensures)
    ] in
    placed_turn c.args.keys.items ns c.loop-index.index c.loop-index.first c.if-ne.first c.loop-index.places.items
    c.index-in-loop-index-2.result.now c.in_ok-numbered.ensures lt c.index-in-loop-index-2.ensures
    c.loop-index.invariant start

pub returns-clause-points : goal.returns-clause-points
returns-clause-points c =
    subst (λ (l : List (List ℕ)). IsPermutation c.args.keys.items l) (sym c.in_ok-sorted.ensures)
    (points_of c.args.keys.items c.in_ok-numbered.numbered.items c.in_ok-numbered.ensures)

pub returns-clause-places : goal.returns-clause-places
returns-clause-places c =
    let ns = c.in_ok-numbered.numbered.items in
    placed_all c.args.keys.items ns c.loop-index.index c.loop-index.first c.loop-index.places.items
    c.in_ok-numbered.ensures c.loop-index.invariant
    (omega (arith, c.loop-index-test.false, c.len-index-end.ensures, c.in_ok-numbered.numbered.ok.0))
    ∙ ap (λ (l : List (List ℕ)). map (place_of l) c.args.keys.items) (sym c.in_ok-sorted.ensures)
