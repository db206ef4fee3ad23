use Rattle.std.proofs.Common.{◌≡◌, ◌+◌, ◌*◌, ◌-◌, ◌^◌, ◌≤◌, ◌<◌, ap, arith, length, ◌∙◌}
use Rattle.std.specs.Prelude.{position}
use Rattle.std.specs.List.{count_by}
use Rattle.std.specs.Option.{option_or}
use Rattle.dns_rules.specs.Nsec3Covering.{covering_number, is_considered, nsec3_matches}
use Rattle.dns_denial_index.specs.Places.{place_of}
use Rattle.dns_denial_index.specs.Spans.{counts_at}
use Rattle.dns_denial_index.proofs.HashParts.{few_points, again_fits, place_in_table, again_in_table, found_matching, found_covering, steps_of_search, ticks_of_search}
use Rattle.dns_denial_index.proofs.nsec3_index.Nsec3Index.found.Goals as goal

pub place-place-requires : goal.place-place-requires
place-place-requires g c =
    few_points c.self.inside.nsec3s.items c.self.inside.points c.self.invariant.few c.self.invariant.keys

pub places-requires : goal.places-requires
places-requires g c =
    few_points c.self.inside.nsec3s.items c.self.inside.points c.self.invariant.few c.self.invariant.keys

pub overflow_add-again : goal.overflow_add-again
overflow_add-again g c =
    let fits : c.place-place.result + c.places.result < 2 ^ 64 =
    again_fits c.self.inside.points c.as_slice.result.now c.place-place.result c.places.result
    (few_points c.self.inside.nsec3s.items c.self.inside.points c.self.invariant.few c.self.invariant.keys)
    c.place-place.ensures.place c.places.ensures in
    omega (arith, fits)

pub first-matching-requires : goal.first-matching-requires
first-matching-requires g c =
    place_in_table c.self.inside.nsec3s.items c.self.inside.points c.self.inside.table c.as_slice.result.now
    c.place-place.result
    c.self.invariant c.place-place.ensures.place

pub counting-requires : goal.counting-requires
counting-requires g c =
    place_in_table c.self.inside.nsec3s.items c.self.inside.points c.self.inside.table c.as_slice.result.now
    c.place-place.result
    c.self.invariant c.place-place.ensures.place

pub counting-requires-2 : goal.counting-requires-2
counting-requires-2 g c =
    again_in_table c.self.inside.nsec3s.items c.self.inside.points c.self.inside.table c.as_slice.result.now
    c.place-place.result
    (c.place-place.result + c.places.result) c.self.invariant c.place-place.ensures.place
    (ap (λ n. c.place-place.result + n) c.places.ensures)

pub returns-clause-matching : goal.returns-clause-matching
returns-clause-matching g c =
    let at : c.place-place.result ≡ place_of c.self.inside.points c.args.hash.now =
    c.place-place.ensures.place ∙ ap (place_of c.self.inside.points) c.as_slice.ensures in
    c.first-matching.ensures
    ∙ found_matching c.self.inside.nsec3s.items c.self.inside.points c.self.inside.table c.args.hash.now
    c.place-place.result
    c.self.invariant at
    ∙ ap (position (nsec3_matches c.args.hash.now)) c.self.view_is

pub returns-clause-covering : goal.returns-clause-covering
returns-clause-covering g c =
    let spans = c.self.inside.table.spans in
    let place = c.place-place.result in
    let again = c.place-place.result + c.places.result in
    let at : c.place-place.result ≡ place_of c.self.inside.points c.args.hash.now =
    c.place-place.ensures.place ∙ ap (place_of c.self.inside.points) c.as_slice.ensures in
    c.or-covering.ensures
    ∙ ap (λ o. option_or o c.counting-2.result) c.counting.ensures
    ∙ ap (option_or (position (counts_at place spans) spans)) c.counting-2.ensures
    ∙ found_covering c.self.inside.nsec3s.items c.self.inside.points c.self.inside.table c.args.hash.now place again
    c.self.invariant at (ap (λ n. c.place-place.result + n) c.places.ensures)
    ∙ ap (covering_number c.args.hash.now) c.self.view_is

pub returns-clause-steps : goal.returns-clause-steps
returns-clause-steps g c =
    let few : 2 ^ (c.place-place.new.steps - c.args.steps.now) ≤ 4 * length c.self.inside.nsec3s.items + 1 =
    steps_of_search c.self.inside.nsec3s.items c.self.inside.points c.self.inside.table
    (c.place-place.new.steps - c.args.steps.now)
    c.self.invariant c.place-place.ensures.steps in
    omega (arith, few, ap length c.self.view_is)

pub returns-clause-ticks : goal.returns-clause-ticks
returns-clause-ticks g c =
    let more : count_by is_considered c.self.inside.nsec3s.items < 2 ^ (c.place-place.new.steps - c.args.steps.now) =
    ticks_of_search c.self.inside.nsec3s.items c.self.inside.points c.self.inside.table
    (c.place-place.new.steps - c.args.steps.now)
    c.self.invariant c.place-place.ensures.ticks in
    omega (arith, more, ap (count_by is_considered) c.self.view_is)
