-- A set that is Insecure by the tables has a ground: by the key set of a signature, by the DS verdict of a key set's owner, or by
-- that of the zone that was searched.
use Rattle.std.proofs.Common.{◌≡◌, ◌⊎◌, ℕ, ◌+◌, Bool, true, false, not, ◌==◌, ◌&&◌, ◌||◌, List, [], ◌∷◌, take, Option, None, Some, if◌then◌else◌, refl, ap, ◌∙◌}
use Rattle.std.specs.Option.{option_map_or}
use Rattle.std.specs.List.{filter, find, position, list_any, list_all}
use Rattle.std.proofs.Math.Logic.{⊎_elim}
use Rattle.std.proofs.lemmas.Bool.{and_parts, or_cases}
use Rattle.std.proofs.lemmas.List.Folds.{list_any_at}
use Rattle.std.proofs.lemmas.List.Quantifiers.{position-Some}
use Rattle.dns_model.specs.declared.proof.Proof.{Proof}
use Rattle.dns_model.specs.declared.proof.Proof.TheVariants.{Secure, Insecure, Bogus, Indeterminate}
use Rattle.dns_model.specs.declared.section.Section.TheVariants.{Answer}
use Rattle.dns_model.specs.declared.trail.AskRef.{AskRef}
use Rattle.dns_model.specs.Names.{Labels, name_eq, parent, at_or_above, strictly_above}
use Rattle.dns_model.specs.Types.{type_ds, type_dnskey, type_nsec3}
use Rattle.dns_model.specs.Records.{Rr, RrSet, question_eq}
use Rattle.dns_model.specs.RecordViews.{rrsig_of}
use Rattle.dns_model.specs.Views.{RrsigValue}
use Rattle.dns_model.specs.Chains.{Judge, signer_fits}
use Rattle.dns_model.specs.SoundAnswers.{PlacedSet, section_eq}
use Rattle.dns_model.specs.Trails.{JudgedSetValue}
use Rattle.dns_model.proofs.AboveLemmas.{above_itself, strictly_parts}
use Rattle.dns_model.proofs.EachLemmas.{find_known}
use Rattle.dns_model.proofs.SetLemmas.{name_back}
use Rattle.dns_model.proofs.TestLemmas.{if_some}
use Rattle.dns_rules.specs.Validity.{is_good_by}
use Rattle.dns_rules.specs.MarkedSets.{MarkedSet}
use Rattle.dns_rules.specs.Marks.{Verdict, is_proved, shows_insecure, is_skipped, is_key_set_of, may_be_signed, key_question, counted_keys, by_keys, verdict_of, mark_at, set_mark, judged_by, most_signatures}
use Rattle.dns_rules.specs.Marks as marks
use Rattle.dns_rules.specs.ProofErrors.{Net, DsRecordShouldExist, DnskeyNotFound, DsRecordsButNoDnskey, ProofErrorKindValue}
use Rattle.dns_rules.specs.Delegations.{ZoneVerdict, ds_question, is_supported_ds, is_insecure, zone_verdict}
use Rattle.dns_rules.specs.Delegations as delegation
use Rattle.dns_rules.specs.Unsigned.{is_empty, ns_question, set_start, needs_zone, unsigned_by}
use Rattle.dns_rules.specs.KeySets.{SignedKeys, KeysOutcome, SignedByAnchored, WhollyAnchored, SignedByMatched, WhollyTrusted, Refused, signed_by, is_anchored_key, is_matched_key, is_trusted_key, is_root, outcome_by_verdict, keys_outcome, needs_ds, outcome_mark, judged_keys}
use Rattle.dns_rules.specs.Asking.{ask_of}
use Rattle.dns_rules.specs.MarkParts.{is_skipped_read, by_key_set, verdict_by}
use Rattle.dns_rules.specs.Derivation.{StepContext, finished_answer, is_ask, verdicts_after, verdicts_asked, verdicts_by, probe_by, zone_asked, search_after, search_by, search_from, proof_eq, has_mark_of, keys_hold, unsigned_holds, is_by_rules, is_plain_ask}
use Rattle.dns_rules.specs.DerivationParts.{is_ask_for, after_verdict, if_last, is_by_verdicts, is_by_search, place_eq}
use Rattle.dns_rules.specs.Probes.{NsProbe}
use Rattle.dns_rules.specs.Probes as probes
use Rattle.dns_rules.proofs.StayLemmas.{some_after}
use Rattle.dns_rules.proofs.ExtendLemmas.{is_by_zone}
use Rattle.dns_laws.proofs.GroundParts.{above_label, parent_above}
use Rattle.dns_laws.proofs.GroundAnswers.{Grounded, IsSettled, AreSettled, StepsSettled, grounded_below, grounded_alike, is_insecure_zone, zone_grounded, answer_settled}

-- among the steps before, each Insecure set has its ground there
abbrev pub EarlierSettled : StepContext → Type 0
EarlierSettled g = StepsSettled g.judge.answers g.earlier g.earlier

abbrev pub GroundedIn : StepContext → Labels → Type 0
GroundedIn g name = Grounded g.judge.answers g.earlier name

-- ---- by a signature

signer_above : (b : Bool) (signer owner : Labels) → (if b then strictly_above signer owner else at_or_above signer owner) ≡ true
    → at_or_above signer owner ≡ true
signer_above true signer owner h = (strictly_parts signer owner h).0
signer_above false signer owner h = h

proved_step : (o : Option Rr) → shows_insecure (option_map_or (λ key. marks.Proved) o marks.Failed) ≡ true → ⊥
proved_step None h = cc
proved_step (Some key) h = cc

keys_excuse : (j : Judge) (set : RrSet) (r : Rr) (mark : Proof) (keys : List Rr) → shows_insecure (by_keys j set r mark keys) ≡ true
    → is_insecure mark ≡ true
keys_excuse j set r Secure keys h = absurd (proved_step (find (is_good_by j set r) keys) h)
keys_excuse j set r Insecure keys h = refl
keys_excuse j set r Bogus keys h = cc
keys_excuse j set r Indeterminate keys h = cc

-- an Insecure key set of the signer has a ground, and so has what the signer may sign
key_set_excuse : (g : StepContext) (set : RrSet) (r : Rr) (sig : RrsigValue) (answer : List MarkedSet) (o : Option MarkedSet) (b : Bool)
    → AreSettled g.judge.answers g.earlier answer → signer_fits set.rtype sig.signer set.owner ≡ true
    → find (is_key_set_of set.class sig.signer) answer ≡ o
    → shows_insecure (if b then by_key_set g.judge set r sig.signer o else marks.Failed) ≡ true → GroundedIn g set.owner
key_set_excuse g set r sig answer o false settled fits is h = cc
key_set_excuse g set r sig answer None true settled fits is h = cc
key_set_excuse g set r sig answer (Some keys) true settled fits is h =
    let found = find_known (is_key_set_of set.class sig.signer) (IsSettled g.judge.answers g.earlier) answer keys settled is in
    let rest = (keys.set.rtype == type_dnskey) && (set.class == keys.set.class) in
    let one = and_parts (section_eq Answer keys.section) (name_eq sig.signer keys.set.owner && rest) found.passes in
    let named = name_back sig.signer keys.set.owner ((and_parts (name_eq sig.signer keys.set.owner) rest one.1).0) in
    let insecure = keys_excuse g.judge set r keys.mark (counted_keys sig.signer keys.set.records) h in
    grounded_below g.judge.answers g.earlier sig.signer set.owner (signer_above (set.rtype == type_ds) sig.signer set.owner fits)
    (grounded_alike g.judge.answers g.earlier keys.set.owner sig.signer named (found.known.grounded insecure))

kept_fits : (fits rest : Bool) → (not fits || rest) ≡ false → fits ≡ true
kept_fits true rest h = refl
kept_fits false rest h = cc

signature_excuse : (g : StepContext) (set : RrSet) (r : Rr) (answer : List MarkedSet) (o : Option RrsigValue)
    → AreSettled g.judge.answers g.earlier answer
    → is_skipped_read g.query set o ≡ false → shows_insecure (verdict_by g.judge set r answer o) ≡ true → GroundedIn g set.owner
signature_excuse g set r answer None settled kept h = cc
signature_excuse g set r answer (Some sig) settled kept h =
    key_set_excuse g set r sig answer (find (is_key_set_of set.class sig.signer) answer)
    (may_be_signed set sig) settled
    (kept_fits (signer_fits set.rtype sig.signer set.owner) (question_eq (key_question set.class sig.signer) g.query) kept) refl h

verdict_excuse : (g : StepContext) (set : RrSet) (r : Rr) (ask : AskRef) (o : Option (List MarkedSet)) → EarlierSettled g
    → is_skipped g.query set r ≡ false
    → finished_answer g.earlier ask ≡ o → shows_insecure (verdict_of g.judge set r o) ≡ true → GroundedIn g set.owner
unfolding verdict_of
verdict_excuse g set r ask None settled kept is h = cc
verdict_excuse g set r ask (Some answer) settled kept is h =
    signature_excuse g set r answer (rrsig_of r) (answer_settled g.judge.answers g.earlier ask answer settled is) kept h

-- ---- by a set's signatures

first_excused : (v : Verdict) (vs ws : List Verdict) → v ∷ vs ≡ ws → list_any shows_insecure ws ≡ true
    → (shows_insecure v ≡ true) ⊎ (list_any shows_insecure vs ≡ true)
first_excused v vs ws same h = or_cases (shows_insecure v) (list_any shows_insecure vs) (ap (list_any shows_insecure) same ∙ h)

last_excused : (v : Verdict) (asks : List AskRef) (vs : List Verdict) → is_proved v ≡ true → if_last asks (v ∷ []) ≡ Some vs
    → list_any shows_insecure vs ≡ true → ⊥
last_excused marks.Proved [] vs proved is h = let same : marks.Proved ∷ [] ≡ vs = cc in cc
last_excused marks.Insecure asks vs proved is h = cc
last_excused marks.Failed asks vs proved is h = cc
last_excused marks.Proved (ask ∷ asks) vs proved is h = cc

after_excused : (G : Type 0) (b : Bool) (v : Verdict) (asks : List AskRef) (o : Option (List Verdict)) (vs : List Verdict) → is_proved v ≡ b
    → (if b then if_last asks (v ∷ []) else after_verdict v o) ≡ Some vs → list_any shows_insecure vs ≡ true → (shows_insecure v ≡ true → G)
    → ((rest : List Verdict) → o ≡ Some rest → list_any shows_insecure rest ≡ true → G) → G
after_excused G true v asks o vs proved is h first later = absurd (last_excused v asks vs proved is h)
after_excused G false v asks o vs proved is h first later =
    let some = some_after v o vs is in
    ⊎_elim first (later some.rest some.found) (first_excused v some.rest vs some.whole h)

skipped_excused : (G : Type 0) (b : Bool) (o x : Option (List Verdict)) (vs : List Verdict)
    → (if b then after_verdict marks.Failed o else x) ≡ Some vs → list_any shows_insecure vs ≡ true
    → ((rest : List Verdict) → o ≡ Some rest → list_any shows_insecure rest ≡ true → G) → (b ≡ false → x ≡ Some vs → G) → G
skipped_excused G true o x vs is h later asked =
    let some = some_after marks.Failed o vs is in
    ⊎_elim (λ (e : false ≡ true). cc) (later some.rest some.found) (first_excused marks.Failed some.rest vs some.whole h)
skipped_excused G false o x vs is h later asked = asked refl is

none_excused : (asks : List AskRef) (vs : List Verdict) → if_last asks [] ≡ Some vs → list_any shows_insecure vs ≡ true → ⊥
none_excused [] vs is h = let same : [] ≡ vs = cc in cc
none_excused (ask ∷ asks) vs is h = cc

-- where a signature excuses its set, the set's owner has a ground
verdicts_excuse : (g : StepContext) (set : RrSet) (rs : List Rr) (asks : List AskRef) (vs : List Verdict) → EarlierSettled g
    → verdicts_by g set rs asks ≡ Some vs → list_any shows_insecure vs ≡ true → GroundedIn g set.owner
unfolding verdicts_by
verdicts_excuse g set [] asks vs settled is h = absurd (none_excused asks vs is h)
verdicts_excuse g set (r ∷ rs) [] vs settled is h =
    skipped_excused (GroundedIn g set.owner) (is_skipped g.query set r) (verdicts_by g set rs []) None vs is h
    (λ rest. verdicts_excuse g set rs [] rest settled) (λ kept e. cc)
verdicts_excuse g set (r ∷ rs) (ask ∷ asks) vs settled is h =
    let v = verdict_of g.judge set r (finished_answer g.earlier ask) in
    skipped_excused (GroundedIn g set.owner) (is_skipped g.query set r) (verdicts_by g set rs (ask ∷ asks))
    (verdicts_asked g set r (ask ∷ asks) (verdicts_by g set rs)) vs is h (λ rest. verdicts_excuse g set rs (ask ∷ asks) rest settled)
    (λ kept e.
    after_excused (GroundedIn g set.owner) (is_proved v) v asks (verdicts_by g set rs asks) vs refl
    ((if_some (is_ask_for g (ask_of set r) ask) (verdicts_after v asks (verdicts_by g set rs)) vs e).1) h
    (verdict_excuse g set r ask (finished_answer g.earlier ask) settled kept refl) (λ rest. verdicts_excuse g set rs asks rest settled))

place_excused : (vs : List Verdict) (proved excused : Option ℕ) → position shows_insecure vs ≡ excused
    → is_insecure ((mark_at proved excused).mark) ≡ true
    → list_any shows_insecure vs ≡ true
place_excused vs (Some n) excused is h = cc
place_excused vs None None is h = cc
place_excused vs None (Some n) is h =
    let p = position-Some shows_insecure vs n marks.Failed is in
    list_any_at shows_insecure vs n marks.Failed p.0 p.1

mark_excused : (vs : List Verdict) → is_insecure ((set_mark vs).mark) ≡ true → list_any shows_insecure vs ≡ true
mark_excused [] h = cc
mark_excused (v ∷ vs) h = place_excused (v ∷ vs) (position is_proved (v ∷ vs)) (position shows_insecure (v ∷ vs)) refl h

-- ---- by the DS verdict of a zone

abbrev verdict_asked : StepContext → ℕ → Labels → AskRef → ZoneVerdict
verdict_asked g class name ask = zone_verdict g.judge.answers class name (finished_answer g.earlier ask)

asked_zone : (g : StepContext) (class : ℕ) (name : Labels) (asks : List AskRef) (zone : ZoneVerdict) → EarlierSettled g
    → is_root name ≡ false
    → zone_asked g class name asks ≡ Some zone → is_insecure_zone zone ≡ true → GroundedIn g name
asked_zone g class name [] zone settled below is h = cc
asked_zone g class name (ask ∷ asks) zone settled below is h =
    let asked = is_ask g.limits.depth g.earlier (g.depth + 1) (ds_question class name) ask in
    let some = if_some (is_empty asks && asked) (Some (verdict_asked g class name ask)) zone is in
    let same : verdict_asked g class name ask ≡ zone = cc in
    zone_grounded g.judge.answers g.limits.depth g.earlier (g.depth + 1) class name ask settled below
    ((and_parts (is_empty asks) asked some.0).1)
    (ap is_insecure_zone same ∙ h)

-- ---- a key set

keys_step : (o : Option SignedKeys) (wholly root : Bool) (kind : ProofErrorKindValue) (x : KeysOutcome)
    → is_insecure ((outcome_mark (option_map_or SignedByAnchored o (if wholly then WhollyAnchored else if root
    then Refused Bogus kind else x))).mark) ≡ true
    → (root ≡ false) × (is_insecure ((outcome_mark x).mark) ≡ true)
keys_step (Some signed) wholly root kind x h = cc
keys_step None true root kind x h = cc
keys_step None false true kind x h = cc
keys_step None false false kind x h = (refl, h)

ds_step : (o : Option SignedKeys) (ds : List Rr) (wholly : Bool) (kind : ProofErrorKindValue)
    → is_insecure ((outcome_mark (option_map_or (SignedByMatched ds) o (if wholly then WhollyTrusted ds else Refused Bogus kind))).mark)
    ≡ true → ⊥
ds_step (Some signed) ds wholly kind h = cc
ds_step None ds true kind h = cc
ds_step None ds false kind h = cc

zone_step : (j : Judge) (set : RrSet) (zone : ZoneVerdict) → is_insecure ((outcome_mark (outcome_by_verdict j set (Some zone))).mark) ≡ true
    → is_insecure_zone zone ≡ true
zone_step j set (delegation.Signed ds) h =
    let supported = filter (is_supported_ds j.answers) ds in
    absurd (ds_step (signed_by (is_matched_key j set supported) j set) supported (list_all (is_trusted_key j set supported) set.records)
    (DsRecordsButNoDnskey set.owner) h)
zone_step j set (delegation.Insecure kind) h = refl
zone_step j set (delegation.Bogus kind) h = cc

-- a key set is Insecure only by a DS verdict on its owner, which isn't the root
keys_insecure : (j : Judge) (placed : PlacedSet) (zone : ZoneVerdict) → is_insecure ((judged_keys j placed (Some zone)).mark) ≡ true
    → (is_root placed.set.owner ≡ false) × (is_insecure_zone zone ≡ true)
unfolding judged_keys keys_outcome
keys_insecure j placed zone h =
    let set = placed.set in
    let step = keys_step (signed_by (is_anchored_key j set) j set) (list_all (is_anchored_key j set) set.records) (is_root set.owner)
    (DnskeyNotFound set.owner) (outcome_by_verdict j set (Some zone)) h in
    (step.0, zone_step j set zone step.1)

never_without : (j : Judge) (placed : PlacedSet) → is_insecure ((judged_keys j placed None).mark) ≡ true → ⊥
unfolding judged_keys keys_outcome
never_without j placed h =
    let set = placed.set in
    let step = keys_step (signed_by (is_anchored_key j set) j set) (list_all (is_anchored_key j set) set.records) (is_root set.owner)
    (DnskeyNotFound set.owner) (outcome_by_verdict j set None) h in
    cc

same_mark : (a b : Proof) → proof_eq a b ≡ true → is_insecure b ≡ true → is_insecure a ≡ true
same_mark Insecure b h k = refl
same_mark Secure Secure h k = k
same_mark Secure Insecure h k = cc
same_mark Secure Bogus h k = k
same_mark Secure Indeterminate h k = k
same_mark Bogus Secure h k = k
same_mark Bogus Insecure h k = cc
same_mark Bogus Bogus h k = k
same_mark Bogus Indeterminate h k = k
same_mark Indeterminate Secure h k = k
same_mark Indeterminate Insecure h k = cc
same_mark Indeterminate Bogus h k = k
same_mark Indeterminate Indeterminate h k = k

-- an entry has the mark of its judged set
pub mark_of_entry : (s : MarkedSet) (entry : JudgedSetValue) → has_mark_of s entry ≡ true → is_insecure entry.mark ≡ true
    → is_insecure s.mark ≡ true
mark_of_entry s entry h k = same_mark s.mark entry.mark ((and_parts (proof_eq s.mark entry.mark) (place_eq s.sig entry.sig) h).0) k

keys_by : (g : StepContext) (placed : PlacedSet) (entry : JudgedSetValue) (needs : Bool) (o : Option ZoneVerdict) → EarlierSettled g
    → zone_asked g placed.set.class placed.set.owner entry.asked ≡ o → is_insecure entry.mark ≡ true
    → (if needs then is_by_zone g placed entry o else is_empty entry.asked && has_mark_of (judged_keys g.judge placed None) entry) ≡ true
    → GroundedIn g placed.set.owner
keys_by g placed entry false o settled is insecure h =
    absurd (never_without g.judge placed
    (mark_of_entry (judged_keys g.judge placed None) entry
    ((and_parts (is_empty entry.asked) (has_mark_of (judged_keys g.judge placed None) entry) h).1) insecure))
keys_by g placed entry true None settled is insecure h = cc
keys_by g placed entry true (Some zone) settled is insecure h =
    let parts = keys_insecure g.judge placed zone (mark_of_entry (judged_keys g.judge placed (Some zone)) entry h insecure) in
    asked_zone g placed.set.class placed.set.owner entry.asked zone settled parts.0 is parts.1

-- ---- an unsigned set

probe_zone : (g : StepContext) (class : ℕ) (name : Labels) (asks : List AskRef) (probe : NsProbe) (above : Option ZoneVerdict)
    (zone : ZoneVerdict)
    → EarlierSettled g → is_root name ≡ false → search_after g class name asks probe above ≡ Some zone → is_insecure_zone zone ≡ true
    → (above ≡ Some zone → GroundedIn g name) → GroundedIn g name
probe_zone g class name asks probes.Found above zone settled below is h onward = asked_zone g class name asks zone settled below is h
probe_zone g class name asks probes.Absent above zone settled below is h onward = onward is
probe_zone g class name asks probes.Failed above zone settled below is h onward = never_seen (is_empty asks) is
  where
    never_seen : (b : Bool) → (if b then Some (delegation.Bogus (Net (ns_question class name))) else None) ≡ Some zone → GroundedIn g name
    never_seen true e = let same : delegation.Bogus (Net (ns_question class name)) ≡ zone = cc in cc
    never_seen false e = cc

root_zone : (b : Bool) (start : Labels) (zone : ZoneVerdict)
    → (if b then Some (delegation.Bogus (DsRecordShouldExist start)) else None) ≡ Some zone
    → is_insecure_zone zone ≡ true → ⊥
root_zone true start zone is h = let same : delegation.Bogus (DsRecordShouldExist start) ≡ zone = cc in cc
root_zone false start zone is h = cc

-- a search that comes to an Insecure zone shows it of each name below
searched_zone : (g : StepContext) (class : ℕ) (start name : Labels) (asks : List AskRef) (zone : ZoneVerdict) → EarlierSettled g
    → search_by g class start name asks ≡ Some zone → is_insecure_zone zone ≡ true → GroundedIn g name
unfolding search_by
searched_zone g class start [] asks zone settled is h = absurd (root_zone (is_empty asks) start zone is h)
searched_zone g class start (label ∷ rest) [] zone settled is h = cc
searched_zone g class start (label ∷ rest) (ask ∷ asks) zone settled is h =
    let name : Labels = label ∷ rest in
    let probe = probe_by g.earlier name ask in
    let above = search_by g class start rest asks in
    let some = if_some (is_plain_ask g.earlier g.depth (ns_question class name) ask) (search_after g class name asks probe above) zone is in
    probe_zone g class name asks probe above zone settled refl some.1 h
    (λ e. grounded_below g.judge.answers g.earlier rest name (above_label label rest)
    (searched_zone g class start rest asks zone settled e h))

unsigned_insecure : (placed : PlacedSet) (zone : ZoneVerdict) → is_insecure ((unsigned_by placed zone).mark) ≡ true
    → is_insecure_zone zone ≡ true
unfolding unsigned_by
unsigned_insecure placed (delegation.Signed ds) h = cc
unsigned_insecure placed (delegation.Insecure kind) h = refl
unsigned_insecure placed (delegation.Bogus kind) h = cc

start_above : (b : Bool) (owner : Labels) → at_or_above (if b then parent owner else owner) owner ≡ true
start_above true owner = parent_above owner
start_above false owner = above_itself owner

unsigned_grounded : (g : StepContext) (placed : PlacedSet) (entry : JudgedSetValue) (o : Option ZoneVerdict) → EarlierSettled g
    → search_from g placed.set.class (set_start placed.set) entry.asked ≡ o → is_insecure entry.mark ≡ true
    → is_by_search placed entry o ≡ true
    → GroundedIn g placed.set.owner
unsigned_grounded g placed entry None settled is insecure h = cc
unsigned_grounded g placed entry (Some zone) settled is insecure h =
    let start = set_start placed.set in
    grounded_below g.judge.answers g.earlier start placed.set.owner (start_above (placed.set.rtype == type_nsec3) placed.set.owner)
    (searched_zone g placed.set.class start start entry.asked zone settled is
    (unsigned_insecure placed zone (mark_of_entry (unsigned_by placed zone) entry h insecure)))

-- ---- by the tables

signed_grounded : (g : StepContext) (placed : PlacedSet) (entry : JudgedSetValue) (o : Option (List Verdict)) → EarlierSettled g
    → verdicts_by g placed.set (take most_signatures placed.set.signatures) entry.asked ≡ o → is_insecure entry.mark ≡ true
    → is_by_verdicts placed entry o ≡ true → GroundedIn g placed.set.owner
unfolding judged_by
signed_grounded g placed entry None settled is insecure h = cc
signed_grounded g placed entry (Some vs) settled is insecure h =
    verdicts_excuse g placed.set (take most_signatures placed.set.signatures) entry.asked vs settled is
    (mark_excused vs (mark_of_entry (judged_by placed vs) entry h insecure))

rules_step : (G : Type 0) (keys searched x y z : Bool) → (if keys then x else if searched then y else z) ≡ true
    → (x ≡ true → G) → (y ≡ true → G)
    → (z ≡ true → G) → G
rules_step G true searched x y z h of_keys of_search of_signatures = of_keys h
rules_step G false true x y z h of_keys of_search of_signatures = of_search h
rules_step G false false x y z h of_keys of_search of_signatures = of_signatures h

-- a set that is Insecure by the tables has a ground
pub rules_grounded : (g : StepContext) (placed : PlacedSet) (entry : JudgedSetValue) → EarlierSettled g → is_insecure entry.mark ≡ true
    → is_by_rules g placed entry ≡ true → GroundedIn g placed.set.owner
rules_grounded g placed entry settled insecure h =
    let verdicts = verdicts_by g placed.set (take most_signatures placed.set.signatures) entry.asked in
    rules_step (GroundedIn g placed.set.owner) (placed.set.rtype == type_dnskey) (needs_zone placed.set) (keys_hold g placed entry)
    (unsigned_holds g placed entry) (is_by_verdicts placed entry verdicts) h
    (keys_by g placed entry (needs_ds g.judge placed.set) (zone_asked g placed.set.class placed.set.owner entry.asked)
    settled refl insecure)
    (unsigned_grounded g placed entry (search_from g placed.set.class (set_start placed.set) entry.asked) settled refl insecure)
    (signed_grounded g placed entry verdicts settled refl insecure)
