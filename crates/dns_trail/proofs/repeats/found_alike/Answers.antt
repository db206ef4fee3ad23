use Rattle.std.proofs.Common.{◌≡◌, ap, ◌∙◌, subst}
use Rattle.std.specs.List.{list_any}
use Rattle.dns_rules.specs.Derivation.{is_repeat}
use Rattle.dns_trust.specs.Verdicts.{listed}
use Rattle.dns_trail.specs.Ended.{ended_value}
use Rattle.dns_trail.specs.Indexed.{AreIndexed, MayBeIndexed}
use Rattle.dns_evidence.specs.Finding.{passes_at}
use Rattle.dns_trail.specs.SetKeys.{trail_key_of, set_places}
use Rattle.dns_trail.proofs.EarlierLemmas.{any_bare}
use Rattle.dns_trail.proofs.IndexLemmas.{repeat_found}
use Rattle.dns_trail.proofs.repeats.found_alike.Goals as goal

pub returns-in_ok-key-in-Some : goal.returns-in_ok-key-in-Some
returns-in_ok-key-in-Some c =
    let sets = c.args.ended.now.sets in
    let test = is_repeat c.args.placed.now c.args.entry.now in
    let places = c.in-Some.places in
    let inside = ended_value (listed c.ended.inside.answer) c.ended.inside.others.items in
    let key : c.in_ok-key-in-Some.key ≡ trail_key_of c.args.placed.now.set =
    c.in_ok-key-in-Some.ensures ∙ ap (λ p. trail_key_of p.set) c.placed.view_is in
    let own : AreIndexed places inside.sets = subst (λ o. MayBeIndexed o inside.sets) c.in-Some.is c.ended.invariant in
    let indexed : AreIndexed places sets = subst (λ e. AreIndexed places e.sets) c.ended.view_is own in
    c.has_repeat_at.ensures ∙ ap (λ js. list_any (passes_at test js) c.places_of-there.result.now) c.sets.ensures
    ∙ ap (list_any (passes_at test sets)) (c.places_of-there.ensures ∙ ap (set_places places) key)
    ∙ repeat_found places sets c.args.placed.now c.args.entry.now indexed

pub returns-in-None : goal.returns-in-None
returns-in-None c =
    c.has_repeat.ensures ∙ any_bare (is_repeat c.args.placed.now c.args.entry.now) c.sets-in-None.result.now
    ∙ ap (list_any (is_repeat c.args.placed.now c.args.entry.now)) c.sets-in-None.ensures
