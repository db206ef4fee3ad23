use Rattle.std.proofs.Common.{◌≡◌, ◌+◌, ◌*◌, ◌-◌, ◌^◌, ◌<◌, ◌≤◌, List, ap, arith, length, sym, ◌∙◌}
use Rattle.std.specs.Prelude.{position}
use Rattle.dns_model.specs.Names.{Labels}
use Rattle.dns_model.specs.Owned.{OwnedNsec}
use Rattle.dns_rules.specs.Covering.{counts_for}
use Rattle.dns_rules.specs.NsecVerdict.{is_owned_by}
use Rattle.dns_denial_index.specs.NameKeys.{name_key}
use Rattle.dns_denial_index.specs.Places.{place_of}
use Rattle.dns_denial_index.proofs.NsecParts.{few_points, place_in_table, found_owned, found_counting, steps_of_search, ticks_of_search}
use Rattle.dns_denial_index.proofs.nsec_index.NsecIndex.found.Goals as goal

pub place-place-requires : goal.place-place-requires
place-place-requires g c =
    few_points c.self.inside.nsecs.items c.self.inside.points c.self.invariant.few c.self.invariant.keys

pub first-owned-requires : goal.first-owned-requires
first-owned-requires g c =
    place_in_table c.self.inside.nsecs.items c.self.inside.points c.self.inside.table c.as_slice.result.now
    c.place-place.result c.self.invariant
    c.place-place.ensures.place

pub counting-requires : goal.counting-requires
counting-requires g c =
    place_in_table c.self.inside.nsecs.items c.self.inside.points c.self.inside.table c.as_slice.result.now
    c.place-place.result c.self.invariant
    c.place-place.ensures.place

pub unless_silent-covering-requires : goal.unless_silent-covering-requires
unless_silent-covering-requires g c =
    let name = c.args.name.now in
    let at : c.place-place.result ≡ place_of c.self.inside.points (name_key name) =
    c.place-place.ensures.place
    ∙ ap (place_of c.self.inside.points) (c.as_slice.ensures.value ∙ c.name_key.ensures.value
    ∙ ap name_key c.copy-name.ensures.value) in
    c.counting.ensures
    ∙ found_counting c.self.inside.nsecs.items c.self.inside.points c.self.inside.table name c.place-place.result
    c.self.invariant at
    c.copy-name.ensures.bytes
    ∙ ap (λ (l : List OwnedNsec). position (counts_for name l) l) (sym c.deref.ensures.value)
    ∙ ap (λ (n : Labels). position (counts_for n c.deref.result.now) c.deref.result.now) (sym c.copy-name.ensures.value)

pub returns-clause-owned : goal.returns-clause-owned
returns-clause-owned g c =
    let name = c.args.name.now in
    let at : c.place-place.result ≡ place_of c.self.inside.points (name_key name) =
    c.place-place.ensures.place
    ∙ ap (place_of c.self.inside.points) (c.as_slice.ensures.value ∙ c.name_key.ensures.value
    ∙ ap name_key c.copy-name.ensures.value) in
    c.first-owned.ensures
    ∙ found_owned c.self.inside.nsecs.items c.self.inside.points c.self.inside.table name c.place-place.result
    c.self.invariant at
    ∙ ap (position (is_owned_by name)) c.self.view_is

pub returns-clause-steps : goal.returns-clause-steps
returns-clause-steps g c =
    let few : 2 ^ (c.place-place.new.steps - c.args.steps.now) ≤ 4 * length c.self.inside.nsecs.items + 1 =
    steps_of_search c.self.inside.nsecs.items c.self.inside.points c.self.inside.table
    (c.place-place.new.steps - c.args.steps.now)
    c.self.invariant c.place-place.ensures.steps in
    omega (arith, few, ap length c.self.view_is)

pub returns-clause-ticks : goal.returns-clause-ticks
returns-clause-ticks g c =
    let more : length c.self.inside.nsecs.items < 2 ^ (c.place-place.new.steps - c.args.steps.now) =
    ticks_of_search c.self.inside.nsecs.items c.self.inside.points c.self.inside.table
    (c.place-place.new.steps - c.args.steps.now) c.self.invariant c.place-place.ensures.ticks in
    omega (arith, more, ap length c.self.view_is)
