use Rattle.std.proofs.Common.{rules, ◌≡◌, ◌<◌, length, None, Some, ◌∙◌}
use Rattle.dns_model.specs.declared.section.Section.TheVariants.{Authority}
use Rattle.dns_model.specs.SoundAnswers.{set_rtype}
use Rattle.dns_outcome.specs.SetPlaces.{place_of}
use Rattle.dns_outcome.proofs.AuthorityLemmas.{place_within, insecure_at, insecure_none}
use Rattle.dns_outcome.proofs.insecure_authority.is_insecure_set.Goals as goal

pub bounds-sets-place : goal.bounds-sets-place
bounds-sets-place c =
    let r = c.args.found.now in
    let is : Some c.in-Some.place ≡ place_of c.args.places.now r.owner (set_rtype r) = search (rules, c.set_rtype.ensures.rtype) in
    place_within c.args.places.now Authority c.args.sets.now r.owner (set_rtype r) c.in-Some.place c.requires is

pub offset_bounds-sets-place : goal.offset_bounds-sets-place
offset_bounds-sets-place c =
    let r = c.args.found.now in
    let is : Some c.in-Some.place ≡ place_of c.args.places.now r.owner (set_rtype r) = search (rules, c.set_rtype.ensures.rtype) in
    let within : c.in-Some.place < length c.args.sets.now =
    place_within c.args.places.now Authority c.args.sets.now r.owner (set_rtype r) c.in-Some.place c.requires is in
    search (rules, within)

pub returns-in-Some : goal.returns-in-Some
returns-in-Some c =
    let r = c.args.found.now in
    let is : Some c.in-Some.place ≡ place_of c.args.places.now r.owner (set_rtype r) = search (rules, c.set_rtype.ensures.rtype) in
    c.is_insecure.ensures
    ∙ insecure_at c.args.places.now Authority c.args.sets.now r c.in-Some.place c.index-sets-place.result c.requires is
    c.index-sets-place.is

pub returns-in-None : goal.returns-in-None
returns-in-None c =
    let r = c.args.found.now in
    let is : None ≡ place_of c.args.places.now r.owner (set_rtype r) = search (rules, c.set_rtype.ensures.rtype) in
    insecure_none c.args.places.now Authority c.args.sets.now r c.requires is
