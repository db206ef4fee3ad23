use Rattle.std.proofs.Common.{◌≡◌, ℕ, ◌+◌, ◌*◌, List, ap, arith, length, map, subst, sym, ◌∙◌}
use Rattle.dns_denial_index.specs.declared.spans.Span.{Span}
use Rattle.dns_denial_index.specs.NsecParts.{nsec_span}
use Rattle.dns_denial_index.specs.Spans.{AreInside}
use Rattle.dns_denial_index.proofs.NsecParts.{few_points, few_spans, key_count, keyed_all, spanned_by, spans_inside}
use Rattle.dns_denial_index.proofs.nsec_index.NsecIndex.new.Goals as goal

pub placing-requires : goal.placing-requires
placing-requires c =
    omega (
      arith,
      ap length c.in_ok-keys_in.ensures,
      key_count c.as_slice.result.now,
      ap length c.as_slice.ensures.value,
      c.requires,
    )

pub places-requires : goal.places-requires
places-requires c =
    few_points c.args.nsecs.items c.in_ok-points.field-0.points c.requires
    (keyed_all c.args.nsecs.items c.as_slice.result.now c.in_ok-keys_in.field-0.items c.in_ok-points.field-0.points
    c.as_slice.ensures.value c.in_ok-keys_in.ensures c.in_ok-points.ensures.points)

pub new-requires-clause-few : goal.new-requires-clause-few
new-requires-clause-few c =
    let points = c.in_ok-points.field-0.points in
    let spans : c.in_ok-spans.spans.items ≡ map (nsec_span points) c.args.nsecs.items =
    spanned_by points c.args.nsecs.items c.as_slice.result.now c.in_ok-keys_in.field-0.items
    c.in_ok-points.field-0.places.items c.as_slice-2.result.now c.in_ok-spans.spans.items c.as_slice.ensures.value
    c.in_ok-keys_in.ensures c.in_ok-points.ensures.places c.as_slice-2.ensures.value c.in_ok-spans.ensures in
    omega (arith, ap length spans, few_spans c.args.nsecs.items points c.requires)

pub new-requires-clause-inside : goal.new-requires-clause-inside
new-requires-clause-inside c =
    let points = c.in_ok-points.field-0.points in
    let spans : c.in_ok-spans.spans.items ≡ map (nsec_span points) c.args.nsecs.items =
    spanned_by points c.args.nsecs.items c.as_slice.result.now c.in_ok-keys_in.field-0.items
    c.in_ok-points.field-0.places.items c.as_slice-2.result.now c.in_ok-spans.spans.items c.as_slice.ensures.value
    c.in_ok-keys_in.ensures c.in_ok-points.ensures.places c.as_slice-2.ensures.value c.in_ok-spans.ensures in
    subst (λ (n : ℕ). AreInside n c.in_ok-spans.spans.items) (sym c.places.ensures)
    (subst (λ (l : List Span). AreInside (2 * length points + 1) l) (sym spans)
    (spans_inside points c.args.nsecs.items))

pub invariant_of-result : goal.invariant_of-result
invariant_of-result c =
    let points = c.in_ok-points.field-0.points in
    let spans : c.in_ok-spans.spans.items ≡ map (nsec_span points) c.args.nsecs.items =
    spanned_by points c.args.nsecs.items c.as_slice.result.now c.in_ok-keys_in.field-0.items
    c.in_ok-points.field-0.places.items c.as_slice-2.result.now c.in_ok-spans.spans.items c.as_slice.ensures.value
    c.in_ok-keys_in.ensures c.in_ok-points.ensures.places c.as_slice-2.ensures.value c.in_ok-spans.ensures in
    record {
      few = c.requires;
      keys =
          keyed_all c.args.nsecs.items c.as_slice.result.now c.in_ok-keys_in.field-0.items points
          c.as_slice.ensures.value c.in_ok-keys_in.ensures c.in_ok-points.ensures.points;
      spans = ap (λ t. t.spans) c.in_ok-table.ensures ∙ spans;
      places = ap (λ t. t.places) c.in_ok-table.ensures ∙ c.places.ensures;
    }
