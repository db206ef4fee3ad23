-- The search for a zone is the row that a trail has for it.
use Rattle.std.proofs.Common.{◌≡◌, ℕ, ◌+◌, List, [], ◌∷◌, Option, None, if◌then◌else◌, refl, ap, ◌∙◌}
use Rattle.std.specs.Option.{option_map}
use Rattle.dns_model.specs.declared.proof.Proof.TheVariants as proof
use Rattle.dns_model.specs.declared.trail.AskRef.{AskRef}
use Rattle.dns_model.specs.Names.{Labels, parent}
use Rattle.dns_model.specs.Records.{Question}
use Rattle.dns_model.specs.SoundAnswers.{Told}
use Rattle.dns_rules.specs.Delegations.{ZoneVerdict, Bogus, ds_question, zone_verdict}
use Rattle.dns_rules.specs.Derivation.{StepContext, finished_answer, is_ask, is_plain_ask, probe_by, zone_asked, search_after, search_by}
use Rattle.dns_rules.specs.MarkedSets.{MarkedSet}
use Rattle.dns_rules.specs.ProofErrors.{Net, DsRecordShouldExist}
use Rattle.dns_rules.specs.Probes.{NsProbe}
use Rattle.dns_rules.specs.Probes as probes
use Rattle.dns_rules.specs.Unsigned.{ns_question, unsigned_mark}
use Rattle.dns_flow.specs.declared.phases.Seeker.{Seeker}
use Rattle.dns_flow.specs.Phases.{judged_ask, plain_ask, AtName, AtZone, NeedValue, found, search_at, after_probe, turn, after}
use Rattle.dns_flow.specs.Leads.{bare_phase}
use Rattle.dns_flow.proofs.Bare.{trail_bare}
use Rattle.dns_flow.proofs.Ends.{led, unasked_end, asked, found_end, found_ends, last_map, last_made, map_if}

-- the end of who searched a zone with this verdict
abbrev pub zone_end : Question → Told → Seeker → ZoneVerdict → NeedValue
zone_end q told seeker zone = found_end q told seeker (unsigned_mark zone).mark

-- the ask for the DS set of the zone
zone_led : (g : StepContext) (told : Told) (seeker : Seeker) (class : ℕ) (zone : Labels) (asks : List AskRef)
    → led g told asks (bare_phase (AtZone seeker class zone)) ≡ option_map (zone_end g.query told seeker) (zone_asked g class zone asks)
unfolding turn after
zone_led g told seeker class zone [] = unasked_end g told (AtZone seeker class zone) (judged_ask (ds_question class zone)) refl
zone_led g told seeker class zone (made ∷ asks) =
    let is_one = is_ask g.limits.depth g.earlier (g.depth + 1) (ds_question class zone) made in
    let by = λ (o : Option (List MarkedSet)). zone_verdict g.judge.answers class zone o in
    let answer = finished_answer g.earlier made in
    asked g told made asks (AtZone seeker class zone) (judged_ask (ds_question class zone)) refl
    ∙ ap (λ o. if is_one then led g told asks (bare_phase (found g.query told seeker (unsigned_mark (by o)).mark))
    else None) (trail_bare answer)
    ∙ ap (λ x. if is_one then x else None) (found_ends g told asks g.query seeker (unsigned_mark (by answer)).mark)
    ∙ last_made is_one asks (zone_end g.query told seeker) (by answer)

-- what was seen of a name's NS records
probe_led : (g : StepContext) (told : Told) (seeker : Seeker) (class : ℕ) (name : Labels) (asks : List AskRef)
    (seen : NsProbe) (above : Option ZoneVerdict)
    → led g told asks (bare_phase (search_at g.query told seeker class (parent name))) ≡ option_map (zone_end g.query told seeker) above
    → led g told asks (bare_phase (after_probe g.query told seeker class name seen))
    ≡ option_map (zone_end g.query told seeker) (search_after g class name asks seen above)
probe_led g told seeker class name asks probes.Found above on = zone_led g told seeker class name asks
probe_led g told seeker class name asks probes.Absent above on = on
probe_led g told seeker class name asks probes.Failed above on =
    found_ends g told asks g.query seeker proof.Bogus ∙ last_map asks (zone_end g.query told seeker) (Bogus (Net (ns_question class name)))

-- from a name up
pub searched : (g : StepContext) (told : Told) (seeker : Seeker) (class : ℕ) (start : Labels) (asks : List AskRef) (name : Labels)
    → led g told asks (bare_phase (search_at g.query told seeker class name)) ≡ option_map (zone_end g.query told seeker)
    (search_by g class start name asks)
unfolding search_by turn after
searched g told seeker class start asks [] =
    found_ends g told asks g.query seeker proof.Bogus ∙ last_map asks (zone_end g.query told seeker) (Bogus (DsRecordShouldExist start))
searched g told seeker class start [] (label ∷ name) =
    unasked_end g told (AtName seeker class (label ∷ name)) (plain_ask (ns_question class (label ∷ name))) refl
searched g told seeker class start (made ∷ asks) (label ∷ name) =
    let here : Labels = label ∷ name in
    let is_one = is_plain_ask g.earlier g.depth (ns_question class here) made in
    let above = search_by g class start name asks in
    let seen = probe_by g.earlier here made in
    asked g told made asks (AtName seeker class here) (plain_ask (ns_question class here)) refl
    ∙ ap (λ x. if is_one then x else None)
    (probe_led g told seeker class here asks seen above (searched g told seeker class start asks name))
    ∙ map_if is_one (zone_end g.query told seeker) (search_after g class here asks seen above)
