use Rattle.std.proofs.Common.{◌+◌, ◌++◌, ◌∷◌, [], ap, arith, get_or, sym, ◌∙◌}
use Rattle.dns_denial_index.proofs.HashParts.{again_fits, places_at, spanned_two, ArePlacesAt}
use Rattle.dns_denial_index.proofs.nsec3_index.spans_of.Goals as goal

pub offset_bounds-places-next : goal.offset_bounds-places-next
offset_bounds-places-next c =
    let at : ArePlacesAt c.args.points.now c.args.places.now c.loop-nsec3.next c.nsec3-item.result =
    places_at c.args.points.now c.args.nsec3s.now c.args.places.now c.loop-nsec3.nsec3-index c.loop-nsec3.next
    c.nsec3-item.result c.loop-nsec3.spans.items c.loop-nsec3-test.true c.nsec3-item.is c.requires.places
    c.loop-nsec3.invariant (sym c.if-not-is_considered.ensures) in
    omega (arith, at.within)

pub bounds-places-next : goal.bounds-places-next
bounds-places-next c =
    let at : ArePlacesAt c.args.points.now c.args.places.now c.loop-nsec3.next c.nsec3-item.result =
    places_at c.args.points.now c.args.nsec3s.now c.args.places.now c.loop-nsec3.nsec3-index c.loop-nsec3.next
    c.nsec3-item.result c.loop-nsec3.spans.items c.loop-nsec3-test.true c.nsec3-item.is c.requires.places
    c.loop-nsec3.invariant (sym c.if-not-is_considered.ensures) in
    omega (arith, at.within)

pub overflow_add-next : goal.overflow_add-next
overflow_add-next c =
    let at : ArePlacesAt c.args.points.now c.args.places.now c.loop-nsec3.next c.nsec3-item.result =
    places_at c.args.points.now c.args.nsec3s.now c.args.places.now c.loop-nsec3.nsec3-index c.loop-nsec3.next
    c.nsec3-item.result c.loop-nsec3.spans.items c.loop-nsec3-test.true c.nsec3-item.is c.requires.places
    c.loop-nsec3.invariant (sym c.if-not-is_considered.ensures) in
    omega (arith, at.within)

pub offset_bounds-places-next-in-loop-nsec3 : goal.offset_bounds-places-next-in-loop-nsec3
offset_bounds-places-next-in-loop-nsec3 c =
    let at : ArePlacesAt c.args.points.now c.args.places.now c.loop-nsec3.next c.nsec3-item.result =
    places_at c.args.points.now c.args.nsec3s.now c.args.places.now c.loop-nsec3.nsec3-index c.loop-nsec3.next
    c.nsec3-item.result c.loop-nsec3.spans.items c.loop-nsec3-test.true c.nsec3-item.is c.requires.places
    c.loop-nsec3.invariant (sym c.if-not-is_considered.ensures) in
    omega (arith, at.within)

pub bounds-places-next-in-loop-nsec3 : goal.bounds-places-next-in-loop-nsec3
bounds-places-next-in-loop-nsec3 c =
    let at : ArePlacesAt c.args.points.now c.args.places.now c.loop-nsec3.next c.nsec3-item.result =
    places_at c.args.points.now c.args.nsec3s.now c.args.places.now c.loop-nsec3.nsec3-index c.loop-nsec3.next
    c.nsec3-item.result c.loop-nsec3.spans.items c.loop-nsec3-test.true c.nsec3-item.is c.requires.places
    c.loop-nsec3.invariant (sym c.if-not-is_considered.ensures) in
    omega (arith, at.within)

pub overflow_add-next-in-loop-nsec3 : goal.overflow_add-next-in-loop-nsec3
overflow_add-next-in-loop-nsec3 c =
    let at : ArePlacesAt c.args.points.now c.args.places.now c.loop-nsec3.next c.nsec3-item.result =
    places_at c.args.points.now c.args.nsec3s.now c.args.places.now c.loop-nsec3.nsec3-index c.loop-nsec3.next
    c.nsec3-item.result c.loop-nsec3.spans.items c.loop-nsec3-test.true c.nsec3-item.is c.requires.places
    c.loop-nsec3.invariant (sym c.if-not-is_considered.ensures) in
    omega (arith, at.within)

pub span_between-requires : goal.span_between-requires
span_between-requires c =
    let at : ArePlacesAt c.args.points.now c.args.places.now c.loop-nsec3.next c.nsec3-item.result =
    places_at c.args.points.now c.args.nsec3s.now c.args.places.now c.loop-nsec3.nsec3-index c.loop-nsec3.next
    c.nsec3-item.result c.loop-nsec3.spans.items c.loop-nsec3-test.true c.nsec3-item.is c.requires.places
    c.loop-nsec3.invariant (sym c.if-not-is_considered.ensures) in
    again_fits c.args.points.now c.nsec3-item.result.fields.next (get_or c.args.places.now (c.loop-nsec3.next + 1) 0)
    c.places-lap.result c.requires.few (at.end 0) c.places-lap.ensures

pub loop-nsec3-preserved : goal.loop-nsec3-preserved
loop-nsec3-preserved c =
    spanned_two c.args.points.now c.args.nsec3s.now c.args.places.now c.loop-nsec3.nsec3-index c.loop-nsec3.next
    c.nsec3-item.result c.loop-nsec3.spans.items c.push-in-loop-nsec3.new.self.items c.places-lap.result
    c.requires.placed c.loop-nsec3-test.true c.nsec3-item.is c.requires.places c.loop-nsec3.invariant
    (sym c.if-not-is_considered.ensures) c.places-lap.ensures
    (c.in_ok-push-2.ensures.items ∙ ap (λ s. c.loop-nsec3.spans.items ++ s ∷ []) c.span_between.ensures)
