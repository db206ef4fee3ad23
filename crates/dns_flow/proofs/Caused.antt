-- The cause to which asks lead a set is that of the row of its mark.
use Rattle.std.proofs.Common.{◌≡◌, ℕ, ◌+◌, ◌==◌, Bool, true, false, not, cond, List, [], ◌∷◌, ◌++◌, map, length, drop, Option, None, Some, is_some, slice_get, if◌then◌else◌, refl, sym, ap, ◌∙◌}
use Rattle.std.specs.Option.{option_map, option_map_or, option_and_then}
use Rattle.std.specs.List.{filter, find, zip}
use Rattle.std.proofs.lemmas.List.{length-map}
use Rattle.dns_model.specs.declared.proof.Proof.TheVariants as proof
use Rattle.dns_model.specs.declared.trail.AskRef.{AskRef}
use Rattle.dns_model.specs.Names.{Labels, parent}
use Rattle.dns_model.specs.Types.{type_dnskey}
use Rattle.dns_model.specs.Records.{Rr, RrSet, Question}
use Rattle.dns_model.specs.SoundAnswers.{Told, PlacedSet}
use Rattle.dns_model.proofs.TestLemmas.{if_some}
use Rattle.dns_rules.specs.Asking.{ask_of}
use Rattle.dns_rules.specs.ChainedSets.{ChainedVerdict, bare, chained_verdict, chained_by, chained_keys}
use Rattle.dns_rules.specs.Delegations.{ZoneVerdict, ds_question, zone_verdict}
use Rattle.dns_rules.specs.Derivation.{StepContext, finished_answer, is_ask, probe_by, zone_asked, search_after, search_by}
use Rattle.dns_rules.specs.KeySets.{needs_ds}
use Rattle.dns_rules.specs.MarkedSets.{MarkedSet}
use Rattle.dns_rules.specs.Marks.{is_proved, is_skipped}
use Rattle.dns_rules.specs.Probes.{NsProbe}
use Rattle.dns_rules.specs.Probes as probes
use Rattle.dns_rules.specs.ProofErrors.{ProofErrorKindValue, RrsigsNotPresent, Net, RrsigsUnverified, DnskeyNotFound, DsRecordShouldExist}
use Rattle.dns_rules.specs.Unsigned.{ns_question, set_start, needs_zone, unsigned_mark}
use Rattle.dns_trust.specs.Beside.{chained_beside}
use Rattle.dns_flow.specs.declared.asks.Ask.{Ask}
use Rattle.dns_flow.specs.declared.phases.Seeker.TheVariants.{Set}
use Rattle.dns_flow.specs.Phases.{judged_ask, plain_ask, PhaseValue, Marked, NeedsDs, Trying, AtName, AtZone, NeedValue, SetEnds, Asks, first_signatures, unasked, unsigned_with, search_at, after_probe, try_from, after_signature, start_keys, start_set, turn, after}
use Rattle.dns_flow.specs.Leads.{chainless, bare_phase, bare_set, bare_verdict, is_made, got_of}
use Rattle.dns_flow.specs.Causes.{start_cause, keys_cause, unsigned_cause, is_net, tried_cause, after_try, after_seen, cause_after}
use Rattle.dns_flow.specs.CauseRows.{keys_row, unsigned_row, asked_for, is_unanswered, first_failed, tried_row, cause_row, caused_on, caused}
use Rattle.dns_flow.proofs.Bare.{trail_bare}
use Rattle.dns_flow.proofs.Ends.{led, last_if, unasked_end, asked, marked}
use Rattle.dns_flow.proofs.Tries.{is_next, next_drop, is_asking, next_need, IsAsking}

-- ---- one step

-- asks that lead a phase to an end lead it to this cause
abbrev Causes : StepContext → Told → List AskRef → PhaseValue → ProofErrorKindValue → NeedValue
    → Option ProofErrorKindValue → Type 0
Causes g told asks p c n row =
    led g told asks (bare_phase p) ≡ Some n → row ≡ Some (caused g told asks (bare_phase p) c)

no_asks : (asks : List AskRef) (m n : NeedValue) → last_if asks m ≡ Some n → asks ≡ []
no_asks [] m n h = refl
no_asks (made ∷ asks) m n h = cc

-- a phase without an ask
stopped : (g : StepContext) (told : Told) (asks : List AskRef) (p : PhaseValue) (c : ProofErrorKindValue) → asks ≡ []
    → caused g told asks p c ≡ c
unfolding caused
stopped g told asks p c none = ap (λ xs. caused g told xs p c) none

record IsOn (g : StepContext) (told : Told) (made : AskRef) (asks : List AskRef) (p : PhaseValue) (ask : Ask)
    (c : ProofErrorKindValue) (n : NeedValue) : Type 0 where
  made_so : is_made g ask made ≡ true
  on : led g told asks (bare_phase (after g.judge g.query told p (got_of g.earlier ask made))) ≡ Some n
  is : caused g told (made ∷ asks) p c
      ≡ caused g told asks (bare_phase (after g.judge g.query told p (got_of g.earlier ask made)))
      (cause_after g.judge p (got_of g.earlier ask made) c)

-- and one with an ask
on_ask : (g : StepContext) (told : Told) (made : AskRef) (asks : List AskRef) (p : PhaseValue) (ask : Ask)
    (c : ProofErrorKindValue) (n : NeedValue)
    → turn p ≡ Asks ask → led g told (made ∷ asks) p ≡ Some n → IsOn g told made asks p ask c n
unfolding caused
on_ask g told made asks p ask c n is h =
    let next = bare_phase (after g.judge g.query told p (got_of g.earlier ask made)) in
    let some = if_some (is_made g ask made) (led g told asks next) n (sym (asked g told made asks p ask is) ∙ h) in
    record { made_so = some.0; on = some.1; is = ap (λ m. caused_on g told p made m c (caused g told asks)) is }

-- ---- one ask, for a DS set

-- a verdict that an ask for a DS set gives is the last
last_zone : (g : StepContext) (class : ℕ) (zone : Labels) (made : AskRef) (asks : List AskRef)
    (cause : ZoneVerdict → ProofErrorKindValue) → asks ≡ []
    → is_ask g.limits.depth g.earlier (g.depth + 1) (ds_question class zone) made ≡ true
    → option_map cause (zone_asked g class zone (made ∷ asks)) ≡ Some
    (cause (zone_verdict g.judge.answers class zone (finished_answer g.earlier made)))
last_zone g class zone made asks cause none fits =
    let verdict = zone_verdict g.judge.answers class zone (finished_answer g.earlier made) in
    ap (λ xs. option_map cause (zone_asked g class zone (made ∷ xs))) none
    ∙ ap (λ b. option_map cause (if b then Some verdict else None)) fits

ds_caused : (g : StepContext) (told : Told) (placed : PlacedSet) (asks : List AskRef) (c : ProofErrorKindValue)
    (n : NeedValue)
    → Causes g told asks (NeedsDs placed) c n
    (option_map (keys_cause placed.set) (zone_asked g placed.set.class placed.set.owner asks))
unfolding turn after cause_after
ds_caused g told placed [] c n h =
    let none : None ≡ Some n =
    sym (unasked_end g told (NeedsDs placed) (judged_ask (ds_question placed.set.class placed.set.owner)) refl)
    ∙ h in cc
ds_caused g told placed (made ∷ asks) c n h =
    let cause = keys_cause placed.set in
    let by = λ (o : Option (List MarkedSet)). zone_verdict g.judge.answers placed.set.class placed.set.owner o in
    let answer = finished_answer g.earlier made in
    let end = chained_beside g.judge placed (option_map (map chainless) answer) in
    let step =
    on_ask g told made asks (NeedsDs placed)
    (judged_ask (ds_question placed.set.class placed.set.owner)) c n refl h in
    let none : asks ≡ [] = no_asks asks (SetEnds (bare_set end)) n (sym (marked g told asks end) ∙ step.on) in
    last_zone g placed.set.class placed.set.owner made asks cause none step.made_so
    ∙ ap (λ o. Some (cause (by o))) (sym (trail_bare answer))
    ∙ ap Some
    (sym (stopped g told asks (bare_phase (Marked end))
    (cause (by (option_map bare (option_map (map chainless) answer)))) none))
    ∙ ap Some (sym step.is)

zone_caused : (g : StepContext) (told : Told) (placed : PlacedSet) (class : ℕ) (zone : Labels) (asks : List AskRef)
    (c : ProofErrorKindValue) (n : NeedValue)
    → Causes g told asks (AtZone (Set placed) class zone) c n
    (option_map (unsigned_cause placed.set) (zone_asked g class zone asks))
unfolding turn after cause_after
zone_caused g told placed class zone [] c n h =
    let none : None ≡ Some n =
    sym (unasked_end g told (AtZone (Set placed) class zone) (judged_ask (ds_question class zone)) refl) ∙ h in cc
zone_caused g told placed class zone (made ∷ asks) c n h =
    let cause = unsigned_cause placed.set in
    let by = λ (o : Option (List MarkedSet)). zone_verdict g.judge.answers class zone o in
    let answer = finished_answer g.earlier made in
    let got = option_map (map chainless) answer in
    let step =
    on_ask g told made asks (AtZone (Set placed) class zone) (judged_ask (ds_question class zone)) c n refl h in
    let end = unsigned_with placed (unsigned_mark (by (option_map bare got))).mark in
    let none : asks ≡ [] = no_asks asks (SetEnds (bare_set end)) n (sym (marked g told asks end) ∙ step.on) in
    last_zone g class zone made asks cause none step.made_so
    ∙ ap (λ o. Some (cause (by o))) (sym (trail_bare answer))
    ∙ ap Some (sym (stopped g told asks (bare_phase (Marked end)) (cause (by (option_map bare got))) none))
    ∙ ap Some (sym step.is)

-- ---- the search for a zone

module _ (g : StepContext) (told : Told) where
  probe_caused : (placed : PlacedSet) (class : ℕ) (name : Labels) (asks : List AskRef) (c : ProofErrorKindValue)
      (n : NeedValue)
      (seen : NsProbe) (above : Option ZoneVerdict)
      → Causes g told asks (search_at g.query told (Set placed) class (parent name)) c n
      (option_map (unsigned_cause placed.set) above)
      → Causes g told asks (after_probe g.query told (Set placed) class name seen)
      (after_seen c (ns_question class name) seen) n
      (option_map (unsigned_cause placed.set) (search_after g class name asks seen above))
  probe_caused placed class name asks c n probes.Found above on h = zone_caused g told placed class name asks c n h
  probe_caused placed class name asks c n probes.Absent above on h = on h
  probe_caused placed class name asks c n probes.Failed above on h =
      let end = unsigned_with placed proof.Bogus in
      let net = Net (ns_question class name) in
      let none : asks ≡ [] = no_asks asks (SetEnds (bare_set end)) n (sym (marked g told asks end) ∙ h) in
      ap (λ xs. option_map (unsigned_cause placed.set) (search_after g class name xs probes.Failed above)) none
      ∙ ap Some (sym (stopped g told asks (bare_phase (Marked end)) net none))

-- from a name up
searched_caused : (g : StepContext) (told : Told) (placed : PlacedSet) (class : ℕ) (start : Labels) (asks : List AskRef)
    (n : NeedValue) (name : Labels)
    → Causes g told asks (search_at g.query told (Set placed) class name) (DsRecordShouldExist start) n
    (option_map (unsigned_cause placed.set) (search_by g class start name asks))
unfolding search_by turn after cause_after
searched_caused g told placed class start asks n [] h =
    let end = unsigned_with placed proof.Bogus in
    let none : asks ≡ [] = no_asks asks (SetEnds (bare_set end)) n (sym (marked g told asks end) ∙ h) in
    ap (λ xs. option_map (unsigned_cause placed.set) (search_by g class start [] xs)) none
    ∙ ap Some (sym (stopped g told asks (bare_phase (Marked end)) (DsRecordShouldExist start) none))
searched_caused g told placed class start [] n (label ∷ name) h =
    let here : Labels = label ∷ name in
    let none : None ≡ Some n =
    sym (unasked_end g told (AtName (Set placed) class here) (plain_ask (ns_question class here)) refl) ∙ h in cc
searched_caused g told placed class start (made ∷ asks) n (label ∷ name) h =
    let here : Labels = label ∷ name in
    let c = DsRecordShouldExist start in
    let above = search_by g class start name asks in
    let seen = probe_by g.earlier here made in
    let step =
    on_ask g told made asks (AtName (Set placed) class here) (plain_ask (ns_question class here)) c n refl h in
    ap (λ b. option_map (unsigned_cause placed.set) (if b then search_after g class here asks seen above else None))
    step.made_so
    ∙ probe_caused g told placed class here asks c n seen above
    (λ led_on. searched_caused g told placed class start asks n name led_on) step.on
    ∙ ap Some (sym step.is)

-- ---- the signatures of a set

-- the cause behind one, by signatures with their asks
abbrev tried_on : StepContext → RrSet → ProofErrorKindValue → List (Rr × AskRef) → ProofErrorKindValue
tried_on g set c [] = c
tried_on g set c (one ∷ more) =
    if is_net c then c else option_map_or Net (first_failed g set (one ∷ more)) (RrsigsUnverified set.owner set.rtype)

zip_none : (rs : List Rr) (asks : List AskRef) → asks ≡ [] → zip rs asks ≡ []
zip_none [] asks h = refl
zip_none (r ∷ rs) [] h = refl
zip_none (r ∷ rs) (made ∷ asks) h = cc

stays_net : (g : StepContext) (set : RrSet) (c : ProofErrorKindValue) (tried : List (Rr × AskRef)) → is_net c ≡ true
    → tried_on g set c tried ≡ c
stays_net g set c [] is = refl
stays_net g set c (one ∷ more) is =
    ap (λ b. if b then c else option_map_or Net (first_failed g set (one ∷ more))
    (RrsigsUnverified set.owner set.rtype)) is

-- the ask of one signature more, by what it came to
one_tried : (g : StepContext) (set : RrSet) (c : ProofErrorKindValue) (r : Rr) (q : Question) (made : AskRef)
    (tried : List (Rr × AskRef)) (answer : Option (List MarkedSet))
    → is_net c ≡ false → ask_of set r ≡ Some q → finished_answer g.earlier made ≡ answer
    → tried_on g set (tried_cause set (Some q) (option_map (map chainless) answer)) tried
    ≡ option_map_or Net (first_failed g set ((r, made) ∷ tried)) (RrsigsUnverified set.owner set.rtype)
one_tried g set c r q made tried None other asks is =
    let unverified = RrsigsUnverified set.owner set.rtype in
    stays_net g set (Net q) tried refl
    ∙ ap (λ o. option_map_or Net o unverified) (sym asks)
    ∙ ap (λ a. option_map_or Net
    (option_and_then (λ (t : Rr × AskRef). ask_of set t.0)
    (cond (not (is_some a)) (Some (r, made)) (find (is_unanswered g) tried))) unverified) (sym is)
one_tried g set c r q made [] (Some sets) other asks is =
    let unverified = RrsigsUnverified set.owner set.rtype in
    ap (λ a. option_map_or Net
    (option_and_then (λ (t : Rr × AskRef). ask_of set t.0) (cond (not (is_some a)) (Some (r, made)) None))
    unverified) (sym is)
one_tried g set c r q made (one ∷ more) (Some sets) other asks is =
    let unverified = RrsigsUnverified set.owner set.rtype in
    ap (λ a. option_map_or Net
    (option_and_then (λ (t : Rr × AskRef). ask_of set t.0)
    (cond (not (is_some a)) (Some (r, made)) (find (is_unanswered g) (one ∷ more)))) unverified) (sym is)

next_tried : (g : StepContext) (set : RrSet) (c : ProofErrorKindValue) (r : Rr) (q : Question) (made : AskRef)
    (tried : List (Rr × AskRef)) (net : Bool) → is_net c ≡ net
    → ask_of set r ≡ Some q
    → tried_on g set
    (after_try c set (Some q) (option_map (map chainless) (finished_answer g.earlier made))) tried ≡ tried_on g set
    c ((r, made) ∷ tried)
next_tried g set c r q made tried true is asks =
    let later = tried_cause set (Some q) (option_map (map chainless) (finished_answer g.earlier made)) in
    ap (λ b. tried_on g set (if b then c else later) tried) is ∙ stays_net g set c tried is
    ∙ sym (stays_net g set c ((r, made) ∷ tried) is)
next_tried g set c r q made tried false is asks =
    let later = tried_cause set (Some q) (option_map (map chainless) (finished_answer g.earlier made)) in
    let row = option_map_or Net (first_failed g set ((r, made) ∷ tried)) (RrsigsUnverified set.owner set.rtype) in
    ap (λ b. tried_on g set (if b then c else later) tried) is
    ∙ one_tried g set c r q made tried (finished_answer g.earlier made) is asks refl
    ∙ ap (λ b. if b then c else row) (sym is)

-- what is known of signatures that are left
abbrev Tried : StepContext → Told → PlacedSet → List Rr → Type 0
Tried g told placed rs =
    (asks : List AskRef) (front : List ChainedVerdict) (c : ProofErrorKindValue) (n : NeedValue)
    → drop (length front) (first_signatures placed.set) ≡ rs
    → led g told asks (bare_phase (try_from g.query placed front rs)) ≡ Some n
    → tried_on g placed.set c (asked_for g.query placed.set rs asks) ≡ caused g told asks
    (bare_phase (try_from g.query placed front rs)) c

-- behind a verdict, which may prove the set
verdict_caused : (g : StepContext) (told : Told) (placed : PlacedSet) (rs : List Rr) (asks : List AskRef)
    (front : List ChainedVerdict) (c : ProofErrorKindValue) (n : NeedValue)
    (proved : Bool) → drop (length front) (first_signatures placed.set) ≡ rs → Tried g told placed rs
    → led g told asks
    (bare_phase (if proved then Marked (chained_by placed front) else try_from g.query placed front rs)) ≡ Some n
    → tried_on g placed.set c (asked_for g.query placed.set rs asks)
    ≡ caused g told asks
    (bare_phase (if proved then Marked (chained_by placed front) else try_from g.query placed front rs)) c
verdict_caused g told placed rs asks front c n true left go h =
    let end = chained_by placed front in
    let none : asks ≡ [] = no_asks asks (SetEnds (bare_set end)) n (sym (marked g told asks end) ∙ h) in
    ap (tried_on g placed.set c) (zip_none (filter (λ r. not (is_skipped g.query placed.set r)) rs) asks none)
    ∙ sym (stopped g told asks (bare_phase (Marked end)) c none)
verdict_caused g told placed rs asks front c n false left go h = go asks front c n left h

asked_caused : (g : StepContext) (told : Told) (placed : PlacedSet) (asks : List AskRef) (front : List ChainedVerdict)
    (r : Rr) (rs : List Rr) (c : ProofErrorKindValue) (n : NeedValue)
    → drop (length front) (first_signatures placed.set) ≡ r ∷ rs → IsAsking placed.set r → Tried g told placed rs
    → led g told asks (bare_phase (Trying placed front)) ≡ Some n
    → tried_on g placed.set c
    (zip (r ∷ filter (λ r. not (is_skipped g.query placed.set r)) rs) asks) ≡ caused g told asks
    (bare_phase (Trying placed front)) c
unfolding after cause_after
asked_caused g told placed [] front r rs c n left asking go h =
    let vs = map bare_verdict front in
    let at : slice_get (first_signatures placed.set) (length vs) ≡ Some r =
    ap (slice_get (first_signatures placed.set)) (length-map front bare_verdict)
    ∙ (is_next (first_signatures placed.set) (length front) r rs left).at in
    let none : None ≡ Some n =
    sym (unasked_end g told (Trying placed vs) (judged_ask asking.question)
    (next_need placed vs r asking.question at asking.asks)) ∙ h in cc
asked_caused g told placed (made ∷ asks) front r rs c n left asking go h =
    let vs = map bare_verdict front in
    let all = first_signatures placed.set in
    let count = length-map front bare_verdict in
    let at : slice_get all (length vs) ≡ Some r =
    ap (slice_get all) count ∙ (is_next all (length front) r rs left).at in
    let question = asking.question in
    let step =
    on_ask g told made asks (Trying placed vs) (judged_ask question) c n
    (next_need placed vs r question at asking.asks) h in
    let answer = option_map (map chainless) (finished_answer g.earlier made) in
    let v = chained_verdict g.judge placed.set r answer in
    let left_here : drop (length vs) all ≡ r ∷ rs = ap (λ k. drop k all) count ∙ left in
    let left_more : drop (length (vs ++ v ∷ [])) all ≡ rs = next_drop all vs v r rs left_here in
    let next =
    λ (xs : List Rr). if is_proved v.verdict then Marked
    (chained_by placed (vs ++ v ∷ [])) else try_from g.query placed (vs ++ v ∷ []) xs in
    let to : after_signature g.judge g.query placed vs answer (slice_get all (length vs)) ≡ next rs =
    ap (after_signature g.judge g.query placed vs answer) at ∙ ap next (is_next all (length vs) r rs left_here).more in
    let late : ProofErrorKindValue = after_try c placed.set (Some question) answer in
    let cause : after_try c placed.set (option_and_then (ask_of placed.set) (slice_get all (length vs))) answer ≡ late =
    ap (λ o. after_try c placed.set (option_and_then (ask_of placed.set) o) answer) at
    ∙ ap (λ o. after_try c placed.set o answer) asking.asks in
    sym (next_tried g placed.set c r question made (asked_for g.query placed.set rs asks) (is_net c) refl asking.asks)
    ∙ verdict_caused g told placed rs asks (vs ++ v ∷ []) late n (is_proved v.verdict) left_more go
    (ap (λ p. led g told asks (bare_phase p)) (sym to) ∙ step.on)
    ∙ ap (λ p. caused g told asks (bare_phase p) late) (sym to)
    ∙ ap (caused g told asks
    (bare_phase (after_signature g.judge g.query placed vs answer (slice_get all (length vs))))) (sym cause)
    ∙ sym step.is

module _ (g : StepContext) (told : Told) where
  skip_caused : (placed : PlacedSet) (r : Rr) (rs : List Rr) (asks : List AskRef) (front : List ChainedVerdict)
      (c : ProofErrorKindValue) (n : NeedValue)
      (skipped : Bool) → is_skipped g.query placed.set r ≡ skipped
      → drop (length front) (first_signatures placed.set) ≡ r ∷ rs → Tried g told placed rs
      → led g told asks
      (bare_phase
      (if skipped then try_from g.query placed (front ++ unasked ∷ []) rs else Trying placed front)) ≡ Some n
      → tried_on g placed.set c
      (zip (cond (not skipped) (r ∷ filter (λ r. not (is_skipped g.query placed.set r)) rs)
      (filter (λ r. not (is_skipped g.query placed.set r)) rs)) asks)
      ≡ caused g told asks
      (bare_phase (if skipped then try_from g.query placed (front ++ unasked ∷ []) rs else Trying placed front)) c
  skip_caused placed r rs asks front c n true is left go h =
      go asks (front ++ unasked ∷ []) c n (next_drop (first_signatures placed.set) front unasked r rs left) h
  skip_caused placed r rs asks front c n false is left go h =
      asked_caused g told placed asks front r rs c n left (is_asking g.query placed.set r is) go h

tried_caused : (g : StepContext) (told : Told) (placed : PlacedSet) (rs : List Rr) → Tried g told placed rs
unfolding try_from
tried_caused g told placed [] asks front c n left h =
    let end = chained_by placed front in
    let none : asks ≡ [] = no_asks asks (SetEnds (bare_set end)) n (sym (marked g told asks end) ∙ h) in
    sym (stopped g told asks (bare_phase (Marked end)) c none)
tried_caused g told placed (r ∷ rs) asks front c n left h =
    skip_caused g told placed r rs asks front c n (is_skipped g.query placed.set r) refl left
    (tried_caused g told placed rs) h

row_of_tried : (g : StepContext) (set : RrSet) (tried : List (Rr × AskRef))
    → tried_row g set tried ≡ tried_on g set (RrsigsNotPresent set.owner set.rtype) tried
row_of_tried g set [] = refl
row_of_tried g set (one ∷ more) = refl

-- ---- a set

module _ (g : StepContext) (told : Told) where
  each_caused : (asks : List AskRef) (n : NeedValue) (b : Bool) (p q : PhaseValue) (c d : ProofErrorKindValue)
      (x y : Option ProofErrorKindValue)
      → Causes g told asks p c n x → Causes g told asks q d n y
      → Causes g told asks (if b then p else q) (if b then c else d) n (if b then x else y)
  each_caused asks n true p q c d x y first second = first
  each_caused asks n false p q c d x y first second = second

keys_caused : (g : StepContext) (told : Told) (placed : PlacedSet) (asks : List AskRef) (c : ProofErrorKindValue)
    (n : NeedValue) (needs : Bool)
    → Causes g told asks (if needs then NeedsDs placed else Marked (chained_keys g.judge placed)) c n
    (if needs then option_map (keys_cause placed.set) (zone_asked g placed.set.class placed.set.owner asks) else Some c)
keys_caused g told placed asks c n true h = ds_caused g told placed asks c n h
keys_caused g told placed asks c n false h =
    let end = chained_keys g.judge placed in
    let none : asks ≡ [] = no_asks asks (SetEnds (bare_set end)) n (sym (marked g told asks end) ∙ h) in
    ap Some (sym (stopped g told asks (bare_phase (Marked end)) c none))

-- asks that lead a set to its end lead it to the cause of the row
pub set_caused : (g : StepContext) (told : Told) (placed : PlacedSet) (asks : List AskRef) (n : NeedValue)
    → led g told asks (bare_phase (start_set g.judge g.query told placed)) ≡ Some n
    → cause_row g placed asks ≡ Some
    (caused g told asks (bare_phase (start_set g.judge g.query told placed)) (start_cause placed.set))
unfolding start_set start_cause cause_row
set_caused g told placed asks n h =
    let set = placed.set in
    let tries = try_from g.query placed [] (first_signatures set) in
    let absent = RrsigsNotPresent set.owner set.rtype in
    let tried = asked_for g.query set (first_signatures set) asks in
    let by_zone = search_at g.query told (Set placed) set.class (set_start set) in
    each_caused g told asks n (set.rtype == type_dnskey) (start_keys g.judge placed)
    (if needs_zone set then by_zone else tries) (DnskeyNotFound set.owner)
    (if needs_zone set then DsRecordShouldExist (set_start set) else absent) (keys_row g placed asks)
    (if needs_zone set then unsigned_row g placed asks else Some (tried_row g set tried))
    (keys_caused g told placed asks (DnskeyNotFound set.owner) n (needs_ds g.judge set))
    (each_caused g told asks n (needs_zone set) by_zone tries (DsRecordShouldExist (set_start set)) absent
    (unsigned_row g placed asks) (Some (tried_row g set tried))
    (λ on. searched_caused g told placed set.class (set_start set) asks n (set_start set) on)
    (λ on. ap Some
    (row_of_tried g set tried ∙ tried_caused g told placed (first_signatures set) asks [] absent n refl on)))
    h
