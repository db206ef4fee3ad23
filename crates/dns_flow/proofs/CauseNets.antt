-- The cause of a set is that an ask failed exactly where one of its asks did.
use Rattle.std.proofs.Common.{◌≡◌, ℕ, ◌+◌, ◌==◌, Bool, true, false, not, ◌&&◌, ◌||◌, List, [], ◌∷◌, ◌++◌, drop, map, length, Option, None, Some, is_some, slice_get, if◌then◌else◌, refl, sym, ap, ◌∙◌, subst}
use Rattle.std.specs.Prelude.{nat_le}
use Rattle.std.specs.List.{filter, find, list_any}
use Rattle.std.specs.Option.{option_map, option_map_or, option_and_then}
use Rattle.dns_model.specs.declared.proof.Proof.{Proof}
use Rattle.dns_model.specs.declared.proof.Proof.TheVariants as proof
use Rattle.dns_model.specs.declared.trail.AskRef.{AskRef}
use Rattle.dns_model.specs.declared.trail.AskRef.TheVariants.{Step, TooDeep, TooMany}
use Rattle.dns_model.specs.Keys.{VerifierAnswers}
use Rattle.dns_model.specs.Names.{Labels, parent}
use Rattle.dns_model.specs.Types.{type_dnskey}
use Rattle.dns_model.specs.Records.{Rr, RrSet, Question, question_eq}
use Rattle.dns_model.specs.Chains.{Judge}
use Rattle.dns_model.specs.SoundAnswers.{Told, PlacedSet}
use Rattle.dns_model.specs.Trails.{AskedValue, HeardValue, Records, Fault, EndingValue, Answered, Denied, Foreign, Failed, Seen}
use Rattle.dns_model.proofs.TestLemmas.{if_some}
use Rattle.dns_rules.specs.Asking.{ask_of}
use Rattle.dns_rules.specs.ChainedSets.{ChainedSet, ChainedVerdict, bare, chained_verdict, chained_by, chained_keys}
use Rattle.dns_rules.specs.Delegations.{Signed, Insecure, Bogus, is_ds_set_of, is_supported_ds, is_readable_ds, verdict_by_ds, shows_no_ds, shows_no_ds_by_hash, is_insecure_above, verdict_without_ds, zone_verdict, ds_question}
use Rattle.dns_rules.specs.Derivation.{StepContext, finished_answer, if_answered, judged_sets, is_ask, is_plain_ask, probe_of, probe_by}
use Rattle.dns_rules.specs.KeySets.{needs_ds}
use Rattle.dns_rules.specs.MarkedSets.{MarkedSet}
use Rattle.dns_rules.specs.Marks.{is_proved, is_skipped}
use Rattle.dns_rules.specs.Probes.{NsProbe}
use Rattle.dns_rules.specs.Probes as probes
use Rattle.dns_rules.specs.ProofErrors.{ProofErrorKindValue, RrsigsNotPresent, DnskeyNotFound, DsRecordShouldExist, DsResponseInsecure, UnknownKeyAlgorithm, DsRecordsButNoDnskey}
use Rattle.dns_rules.specs.Unsigned.{ns_question, set_start, needs_zone, has_ns}
use Rattle.dns_flow.specs.declared.asks.Ask.{Ask}
use Rattle.dns_flow.specs.declared.phases.Seeker.TheVariants.{Set, Ending}
use Rattle.dns_flow.specs.Phases.{judged_ask, plain_ask, PhaseValue, Marked, NeedsDs, Trying, AtName, AtZone, Concluded, NeedValue, SetEnds, StepEnds, Asks, first_signatures, unasked, found, search_at, after_probe, try_from, after_signature, signature_need, start_keys, start_set, turn, after}
use Rattle.dns_flow.specs.Leads.{chainless, bare_phase, is_made, got_of, led_on, leads}
use Rattle.dns_flow.specs.Causes.{start_cause, zone_cause, is_net, tried_cause, after_try, after_seen, cause_after}
use Rattle.dns_flow.specs.CauseRows.{is_answered, is_fault, step_failed, ask_failed, caused_on, caused}
use Rattle.dns_flow.proofs.CauseLed.{CauseLed}
use Rattle.dns_flow.proofs.Led.{Led}

-- ---- what an ask came to

and_both : (a b : Bool) → (a && b) ≡ true → (a ≡ true) × (b ≡ true)
and_both true b h = (refl, h)
and_both false b h = cc

is_false : (b : Bool) → not b ≡ true → b ≡ false
is_false true h = cc
is_false false h = refl

or_false : (b : Bool) → (b || false) ≡ b
or_false true = refl
or_false false = refl

or_assoc : (a b c : Bool) → ((a || b) || c) ≡ (a || (b || c))
or_assoc true b c = refl
or_assoc false b c = refl

answered_if : (ending : EndingValue) (sets : List MarkedSet)
    → not (is_answered ending) ≡ not (is_some (if_answered ending sets))
answered_if (Answered d) sets = refl
answered_if (Denied p) sets = refl
answered_if (Foreign owner class rtype) sets = refl
answered_if Failed sets = refl
answered_if Seen sets = refl

step_judged : (o : Option AskedValue) (test : AskedValue → Bool)
    → option_map_or (λ s. s.judged && test s) o false ≡ true
    → option_map_or step_failed o true ≡ not (is_some (option_and_then (λ s. if_answered s.ending (judged_sets s)) o))
step_judged None test h = cc
step_judged (Some s) test h =
    ap (λ b. if b then not (is_answered s.ending) else is_fault s.reply) (and_both s.judged (test s) h).0
    ∙ answered_if s.ending (judged_sets s)

-- a judged ask
judged_failed : (g : StepContext) (q : Question) (made : AskRef)
    → is_ask g.limits.depth g.earlier (g.depth + 1) q made ≡ true
    → ask_failed g.earlier made ≡ not (is_some (finished_answer g.earlier made))
judged_failed g q (Step n) h =
    let test = λ (s : AskedValue). (s.depth == (g.depth + 1)) && question_eq q s.query in
    step_judged (slice_get g.earlier n) test
    (and_both (nat_le (g.depth + 1) g.limits.depth)
    (option_map_or (λ s. s.judged && test s) (slice_get g.earlier n) false) h).1
judged_failed g q TooDeep h = refl
judged_failed g q TooMany h = refl

abbrev is_failed : NsProbe → Bool
is_failed probes.Found = false
is_failed probes.Absent = false
is_failed probes.Failed = true

seen_if : (b : Bool) → false ≡ is_failed (if b then probes.Found else probes.Absent)
seen_if true = refl
seen_if false = refl

fault_if : (name : Labels) (heard : HeardValue) → is_fault heard ≡ is_failed (probe_of name heard)
fault_if name (Records told empty) = seen_if (not empty && has_ns name told)
fault_if name Fault = refl

step_plain : (o : Option AskedValue) (test : AskedValue → Bool) (name : Labels)
    → option_map_or (λ s. not s.judged && test s) o false ≡ true
    → option_map_or step_failed o true ≡ is_failed (option_map_or (λ s. probe_of name s.reply) o probes.Failed)
step_plain None test name h = cc
step_plain (Some s) test name h =
    ap (λ b. if b then not (is_answered s.ending) else is_fault s.reply)
    (is_false s.judged (and_both (not s.judged) (test s) h).0) ∙ fault_if name s.reply

-- a plain one
plain_failed : (g : StepContext) (q : Question) (name : Labels) (made : AskRef)
    → is_plain_ask g.earlier g.depth q made ≡ true
    → ask_failed g.earlier made ≡ is_failed (probe_by g.earlier name made)
plain_failed g q name (Step n) h =
    step_plain (slice_get g.earlier n) (λ s. (s.depth == g.depth) && question_eq q s.query) name h
plain_failed g q name TooDeep h = cc
plain_failed g q name TooMany h = refl

answer_some : (answer : Option (List MarkedSet))
    → not (is_some (option_map (map chainless) answer)) ≡ not (is_some answer)
answer_some None = refl
answer_some (Some ms) = refl

bare_some : (answer : Option (List ChainedSet)) → not (is_some (option_map bare answer)) ≡ not (is_some answer)
bare_some None = refl
bare_some (Some cs) = refl

-- ---- the causes of DS verdicts

ds_net_if : (signed : ProofErrorKindValue) (zone : Labels) (supported : List Rr) (is_any readable : Bool)
    → is_net signed ≡ false
    → is_net (zone_cause signed
    (if is_any then Signed supported else if readable then Insecure UnknownKeyAlgorithm else Bogus
    (DsRecordShouldExist zone))) ≡ false
ds_net_if signed zone supported true readable plain = plain
ds_net_if signed zone supported false true plain = refl
ds_net_if signed zone supported false false plain = refl

ds_net : (signed : ProofErrorKindValue) (verifier : VerifierAnswers) (zone : Labels) (mark : Proof) (records : List Rr)
    → is_net signed ≡ false
    → is_net (zone_cause signed (verdict_by_ds verifier zone mark records)) ≡ false
ds_net signed verifier zone proof.Secure records plain =
    ds_net_if signed zone (filter (is_supported_ds verifier) records) (list_any (is_supported_ds verifier) records)
    (list_any is_readable_ds records) plain
ds_net signed verifier zone proof.Insecure records plain = refl
ds_net signed verifier zone proof.Bogus records plain = refl
ds_net signed verifier zone proof.Indeterminate records plain = refl

absence_net_if : (signed : ProofErrorKindValue) (zone : Labels) (shown : Bool)
    → is_net (zone_cause signed
    (if shown then Insecure (DsResponseInsecure zone) else Bogus (DsRecordShouldExist zone))) ≡ false
absence_net_if signed zone true = refl
absence_net_if signed zone false = refl

set_net : (signed : ProofErrorKindValue) (verifier : VerifierAnswers) (zone : Labels) (answer : List MarkedSet)
    (found : Option MarkedSet) → is_net signed ≡ false
    → is_net (zone_cause signed
    (option_map_or (λ f. verdict_by_ds verifier zone f.mark f.set.records) found
    (verdict_without_ds zone answer))) ≡ false
set_net signed verifier zone answer None plain =
    absence_net_if signed zone
    (list_any (shows_no_ds zone) answer ||
    (shows_no_ds_by_hash zone answer || list_any (is_insecure_above zone) answer))
set_net signed verifier zone answer (Some found) plain = ds_net signed verifier zone found.mark found.set.records plain

zone_net : (signed : ProofErrorKindValue) (verifier : VerifierAnswers) (class : ℕ) (zone : Labels)
    (answer : Option (List MarkedSet)) → is_net signed ≡ false
    → is_net (zone_cause signed (zone_verdict verifier class zone answer)) ≡ not (is_some answer)
unfolding zone_verdict
zone_net signed verifier class zone None plain = refl
zone_net signed verifier class zone (Some answer) plain =
    set_net signed verifier zone answer (find (is_ds_set_of class zone) answer) plain

-- ---- one ask

-- only between signatures, and at the end, the cause may be that an ask failed
abbrev Steady : PhaseValue → ProofErrorKindValue → Type 0
Steady (Marked c) cause = Unit {0}
Steady (NeedsDs placed) cause = is_net cause ≡ false
Steady (Trying placed vs) cause = Unit {0}
Steady (AtName (Set placed) class name) cause = is_net cause ≡ false
Steady (AtName Ending class name) cause = ⊥
Steady (AtZone (Set placed) class zone) cause = is_net cause ≡ false
Steady (AtZone Ending class zone) cause = ⊥
Steady (Concluded o) cause = ⊥

record IsNetAfter (g : StepContext) (told : Told) (p : PhaseValue) (made : AskRef) (ask : Ask)
    (c : ProofErrorKindValue) : Type 0 where
  net : is_net (cause_after g.judge p (got_of g.earlier ask made) c) ≡ (is_net c || ask_failed g.earlier made)
  steady : Steady (bare_phase (after g.judge g.query told p (got_of g.earlier ask made)))
      (cause_after g.judge p (got_of g.earlier ask made) c)

-- the ask for a DS set, by the cause where the zone is signed
by_zone : (g : StepContext) (class : ℕ) (zone : Labels) (q : Question) (made : AskRef) (signed c : ProofErrorKindValue)
    → is_net signed ≡ false → is_net c ≡ false
    → is_ask g.limits.depth g.earlier (g.depth + 1) q made ≡ true
    → is_net (zone_cause signed
    (zone_verdict g.judge.answers class zone
    (option_map bare (option_map (map chainless) (finished_answer g.earlier made)))))
    ≡ (is_net c || ask_failed g.earlier made)
by_zone g class zone q made signed c plain before fits =
    let answer = option_map (map chainless) (finished_answer g.earlier made) in
    zone_net signed g.judge.answers class zone (option_map bare answer) plain ∙ bare_some answer
    ∙ answer_some (finished_answer g.earlier made)
    ∙ sym (judged_failed g q made fits) ∙ ap (λ b. b || ask_failed g.earlier made) (sym before)

try_if : (b : Bool) (p q : PhaseValue) (c : ProofErrorKindValue) → Steady (bare_phase p) c → Steady (bare_phase q) c
    → Steady (bare_phase (if b then p else q)) c
try_if true p q c first second = first
try_if false p q c first second = second

try_steady : (q : Question) (placed : PlacedSet) (vs : List ChainedVerdict) (rs : List Rr) (c : ProofErrorKindValue)
    → Steady (bare_phase (try_from q placed vs rs)) c
unfolding try_from
try_steady q placed vs [] c = tt
try_steady q placed vs (r ∷ rs) c =
    try_if (is_skipped q placed.set r) (try_from q placed (vs ++ unasked ∷ []) rs) (Trying placed vs) c
    (try_steady q placed (vs ++ unasked ∷ []) rs c) tt

signature_steady : (j : Judge) (q : Question) (placed : PlacedSet) (vs : List ChainedVerdict)
    (answer : Option (List ChainedSet)) (o : Option Rr) (c : ProofErrorKindValue)
    → Steady (bare_phase (after_signature j q placed vs answer o)) c
signature_steady j q placed vs answer None c = tt
signature_steady j q placed vs answer (Some r) c =
    let v = chained_verdict j placed.set r answer in
    let all = first_signatures placed.set in
    try_if (is_proved v.verdict) (Marked (chained_by placed (vs ++ v ∷ [])))
    (try_from q placed (vs ++ v ∷ []) (drop (length vs + 1) all)) c tt
    (try_steady q placed (vs ++ v ∷ []) (drop (length vs + 1) all) c)

try_net_if : (c : ProofErrorKindValue) (set : RrSet) (q : Question) (answer : Option (List MarkedSet)) (net : Bool)
    → is_net (if net then c else tried_cause set (Some q)
    (option_map (map chainless) answer)) ≡ (if net then is_net c else not (is_some answer))
try_net_if c set q answer true = refl
try_net_if c set q None false = refl
try_net_if c set q (Some ms) false = refl

if_or : (a b : Bool) → (if a then a else b) ≡ (a || b)
if_or true b = refl
if_or false b = refl

search_steady : (q : Question) (told : Told) (placed : PlacedSet) (class : ℕ) (name : Labels) (c : ProofErrorKindValue)
    → is_net c ≡ false
    → Steady (bare_phase (search_at q told (Set placed) class name)) c
search_steady q told placed class [] c plain = tt
search_steady q told placed class (label ∷ name) c plain = plain

seen_steady : (q : Question) (told : Told) (placed : PlacedSet) (class : ℕ) (name : Labels) (asked : Question)
    (seen : NsProbe) (c : ProofErrorKindValue) → is_net c ≡ false
    → Steady (bare_phase (after_probe q told (Set placed) class name seen)) (after_seen c asked seen)
seen_steady q told placed class name asked probes.Found c plain = plain
seen_steady q told placed class name asked probes.Absent c plain =
    search_steady q told placed class (parent name) c plain
seen_steady q told placed class name asked probes.Failed c plain = tt

seen_net : (asked : Question) (seen : NsProbe) (c : ProofErrorKindValue) → is_net c ≡ false
    → is_net (after_seen c asked seen) ≡ (is_net c || is_failed seen)
seen_net asked probes.Found c plain = sym (or_false (is_net c))
seen_net asked probes.Absent c plain = sym (or_false (is_net c))
seen_net asked probes.Failed c plain = sym (ap (λ b. b || true) plain)

record IsSignatureAsk (o : Option Question) (ask : Ask) : Type 0 where
  question : Question
  there : o ≡ Some question
  same : judged_ask question ≡ ask

signature_ask : (placed : PlacedSet) (vs : List ChainedVerdict) (o : Option Question) (ask : Ask)
    → signature_need placed vs o ≡ Asks ask → IsSignatureAsk o ask
signature_ask placed vs None ask h = cc
signature_ask placed vs (Some q) ask h = record { question = q; there = refl; same = cc }

net_after : (g : StepContext) (told : Told) (p : PhaseValue) (made : AskRef) (ask : Ask) (c : ProofErrorKindValue)
    → turn p ≡ Asks ask → is_made g ask made ≡ true → Steady p c
    → IsNetAfter g told p made ask c
unfolding turn after cause_after
net_after g told (Marked s) made ask c is fits steady = cc
net_after g told (NeedsDs placed) made ask c is fits steady =
    let q = ds_question placed.set.class placed.set.owner in
    let same : judged_ask q ≡ ask = cc in
    subst (λ a. is_made g a made ≡ true → IsNetAfter g told (NeedsDs placed) made a c) same
    (λ one. record {
      net = by_zone g placed.set.class placed.set.owner q made
          (DsRecordsButNoDnskey placed.set.owner) c refl steady one;
      steady = tt;
    }) fits
net_after g told (Trying placed vs) made ask c is fits steady =
    let all = first_signatures placed.set in
    let o = option_and_then (ask_of placed.set) (slice_get all (length vs)) in
    let asking = signature_ask placed vs o ask is in
    let answer = option_map (map chainless) (finished_answer g.earlier made) in
    subst (λ a. is_made g a made ≡ true → IsNetAfter g told (Trying placed vs) made a c) asking.same
    (λ one. record {
      net =
          ap (λ x. is_net (after_try c placed.set x answer)) asking.there
          ∙ try_net_if c placed.set asking.question (finished_answer g.earlier made) (is_net c)
          ∙ ap (λ b. if is_net c then is_net c else b) (sym (judged_failed g asking.question made one))
          ∙ if_or (is_net c) (ask_failed g.earlier made);
      steady = signature_steady g.judge g.query placed vs answer (slice_get all (length vs))
          (after_try c placed.set o answer);
    }) fits
net_after g told (AtName (Set placed) class name) made ask c is fits steady =
    let q = ns_question class name in
    let same : plain_ask q ≡ ask = cc in
    let seen = probe_by g.earlier name made in
    subst (λ a. is_made g a made ≡ true → IsNetAfter g told (AtName (Set placed) class name) made a c) same
    (λ one. record {
      net = seen_net q seen c steady ∙ ap (λ b. is_net c || b) (sym (plain_failed g q name made one));
      steady = seen_steady g.query told placed class name q seen c steady;
    }) fits
net_after g told (AtName Ending class name) made ask c is fits steady = absurd steady
net_after g told (AtZone (Set placed) class zone) made ask c is fits steady =
    let q = ds_question class zone in
    let same : judged_ask q ≡ ask = cc in
    subst (λ a. is_made g a made ≡ true → IsNetAfter g told (AtZone (Set placed) class zone) made a c) same
    (λ one. record {
      net = by_zone g class zone q made
          (RrsigsNotPresent placed.set.owner placed.set.rtype) c refl steady one;
      steady = tt;
    }) fits
net_after g told (AtZone Ending class zone) made ask c is fits steady = absurd steady
net_after g told (Concluded o) made ask c is fits steady = cc

-- ---- all asks

abbrev Nets : StepContext → Told → List AskRef → PhaseValue → PhaseValue → ProofErrorKindValue → Type 0
Nets g told asks r p c =
    Steady p c → leads g told asks p ≡ Some r
    → is_net (caused g told asks p c) ≡ (is_net c || list_any (ask_failed g.earlier) asks)

on_net : (g : StepContext) (told : Told) (p r : PhaseValue) (made : AskRef) (asks : List AskRef)
    (c : ProofErrorKindValue) (need : NeedValue) → turn p ≡ need
    → ((x : PhaseValue) (d : ProofErrorKindValue) → Nets g told asks r x d) → Steady p c
    → led_on g told p made need (leads g told asks) ≡ Some r
    → is_net (caused_on g told p made need c (caused g told asks)) ≡ (is_net c ||
    (ask_failed g.earlier made || list_any (ask_failed g.earlier) asks))
on_net g told p r made asks c (SetEnds s) is go steady h = cc
on_net g told p r made asks c (StepEnds o) is go steady h = cc
on_net g told p r made asks c (Asks ask) is go steady h =
    let next = bare_phase (after g.judge g.query told p (got_of g.earlier ask made)) in
    let late = cause_after g.judge p (got_of g.earlier ask made) c in
    let some = if_some (is_made g ask made) (leads g told asks next) r h in
    let step = net_after g told p made ask c is some.0 steady in
    go next late step.steady some.1
    ∙ ap (λ b. b || list_any (ask_failed g.earlier) asks) step.net
    ∙ or_assoc (is_net c) (ask_failed g.earlier made) (list_any (ask_failed g.earlier) asks)

net_led : (g : StepContext) (told : Told) (asks : List AskRef) (r p : PhaseValue) (c : ProofErrorKindValue)
    → Nets g told asks r p c
unfolding leads caused
net_led g told [] r p c steady h = sym (or_false (is_net c))
net_led g told (made ∷ asks) r p c steady h =
    on_net g told p r made asks c (turn p) refl (λ x d. net_led g told asks r x d) steady h

-- ---- a set

steady_if : (b : Bool) (p q : PhaseValue) (c d : ProofErrorKindValue) → Steady (bare_phase p) c
    → Steady (bare_phase q) d
    → Steady (bare_phase (if b then p else q)) (if b then c else d)
steady_if true p q c d first second = first
steady_if false p q c d first second = second

record BeginsSteady (g : StepContext) (told : Told) (placed : PlacedSet) : Type 0 where
  steady : Steady (bare_phase (start_set g.judge g.query told placed)) (start_cause placed.set)
  plain : is_net (start_cause placed.set) ≡ false

net_if : (b : Bool) (c d : ProofErrorKindValue) → is_net c ≡ false → is_net d ≡ false
    → is_net (if b then c else d) ≡ false
net_if true c d first second = first
net_if false c d first second = second

begins_steady : (g : StepContext) (told : Told) (placed : PlacedSet) → BeginsSteady g told placed
unfolding start_set start_cause
begins_steady g told placed =
    let set = placed.set in
    let tries = try_from g.query placed [] (first_signatures set) in
    let absent = RrsigsNotPresent set.owner set.rtype in
    let no_zone = DsRecordShouldExist (set_start set) in
    let by_search = search_at g.query told (Set placed) set.class (set_start set) in
    record {
      steady =
          steady_if (set.rtype == type_dnskey) (start_keys g.judge placed) (if needs_zone set then by_search else tries)
          (DnskeyNotFound set.owner)
          (if needs_zone set then no_zone else absent)
          (try_if (needs_ds g.judge set) (NeedsDs placed) (Marked (chained_keys g.judge placed))
          (DnskeyNotFound set.owner) refl tt)
          (steady_if (needs_zone set) by_search tries no_zone absent
          (search_steady g.query told placed set.class (set_start set) no_zone refl)
          (try_steady g.query placed [] (first_signatures set) absent));
      plain = net_if (set.rtype == type_dnskey) (DnskeyNotFound set.owner)
          (if needs_zone set then no_zone else absent) refl (net_if (needs_zone set) no_zone absent refl refl);
    }

-- the cause of a set is that an ask failed exactly where one of its asks did
pub cause_net : (g : StepContext) (told : Told) (placed : PlacedSet) (asks : List AskRef) (phase : PhaseValue)
    (cause : ProofErrorKindValue)
    → Led g told (start_set g.judge g.query told placed) asks phase → CauseLed g told placed asks cause
    → is_net cause ≡ list_any (ask_failed g.earlier) asks
cause_net g told placed asks phase cause way led =
    let begin = bare_phase (start_set g.judge g.query told placed) in
    let begins = begins_steady g told placed in
    ap is_net (sym led.is)
    ∙ net_led g told asks (bare_phase phase) begin (start_cause placed.set) begins.steady way.path
    ∙ ap (λ b. b || list_any (ask_failed g.earlier) asks) begins.plain
