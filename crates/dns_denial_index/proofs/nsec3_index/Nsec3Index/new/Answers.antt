use Rattle.std.proofs.Common.{◌≡◌, ℕ, ◌+◌, ◌*◌, List, ap, arith, length, map, subst, sym, ◌∙◌}
use Rattle.std.specs.List.{flat_map}
use Rattle.dns_model.specs.Owned.{OwnedNsec3}
use Rattle.dns_denial_index.specs.declared.spans.Span.{Span}
use Rattle.dns_denial_index.specs.HashParts.{AreHashPlaced, hash_keys, lap}
use Rattle.dns_denial_index.specs.Places.{place_of}
use Rattle.dns_denial_index.specs.Spans.{AreInside}
use Rattle.dns_denial_index.proofs.HashParts.{few_points, key_count, keyed_all, placed, spans_inside}
use Rattle.dns_denial_index.proofs.nsec3_index.Nsec3Index.new.Goals as goal

pub placing-requires : goal.placing-requires
placing-requires c =
    omega (
      arith,
      ap length c.in_ok-keys_in.ensures,
      key_count c.as_slice.result.now,
      ap length c.as_slice.ensures.value,
      c.requires,
    )

pub spans_of-requires-clause-few : goal.spans_of-requires-clause-few
spans_of-requires-clause-few c =
    few_points c.args.nsec3s.items c.in_ok-points.field-0.points c.requires
    (keyed_all c.args.nsec3s.items c.as_slice.result.now c.in_ok-keys_in.field-0.items c.in_ok-points.field-0.points
    c.as_slice.ensures.value c.in_ok-keys_in.ensures c.in_ok-points.ensures.points)

pub spans_of-requires-clause-placed : goal.spans_of-requires-clause-placed
spans_of-requires-clause-placed c =
    let points = c.in_ok-points.field-0.points in
    subst (λ (l : List OwnedNsec3). AreHashPlaced points l) (sym c.as_slice-3.ensures.value)
    (placed c.args.nsec3s.items points
    (keyed_all c.args.nsec3s.items c.as_slice.result.now c.in_ok-keys_in.field-0.items points
    c.as_slice.ensures.value c.in_ok-keys_in.ensures c.in_ok-points.ensures.points))

pub spans_of-requires-clause-places : goal.spans_of-requires-clause-places
spans_of-requires-clause-places c =
    c.as_slice-2.ensures.value ∙ c.in_ok-points.ensures.places
    ∙ ap (map (place_of c.in_ok-points.field-0.points)) (c.in_ok-keys_in.ensures
    ∙ ap (flat_map hash_keys) (c.as_slice.ensures.value ∙ sym c.as_slice-3.ensures.value))

pub places-requires : goal.places-requires
places-requires c =
    few_points c.args.nsec3s.items c.in_ok-points.field-0.points c.requires
    (keyed_all c.args.nsec3s.items c.as_slice.result.now c.in_ok-keys_in.field-0.items c.in_ok-points.field-0.points
    c.as_slice.ensures.value c.in_ok-keys_in.ensures c.in_ok-points.ensures.points)

pub new-requires-clause-inside : goal.new-requires-clause-inside
new-requires-clause-inside c =
    let points = c.in_ok-points.field-0.points in
    let laps : lap points + lap points ≡ 2 * c.places.result = omega (arith, c.places.ensures) in
    subst (λ (n : ℕ). AreInside n c.in_ok-spans.spans.items) laps
    (subst (λ (l : List Span). AreInside (lap points + lap points) l) (sym c.in_ok-spans.ensures)
    (spans_inside points c.as_slice-3.result.now))
