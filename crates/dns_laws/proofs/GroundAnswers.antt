-- What the steps before show: a ground for each of their Insecure sets, and one for a zone whose DS verdict is Insecure.
use Rattle.std.proofs.Common.{◌≡◌, ◌⊎◌, inl, inr, ℕ, Bool, true, false, not, ◌==◌, ◌&&◌, ◌||◌, List, [], ◌∷◌, Option, None, Some, slice_get, nat_le, if◌then◌else◌, refl, sym, ap, ◌∙◌, subst}
use Rattle.std.specs.Option.{option_map_or}
use Rattle.std.specs.List.{filter, find, list_any, AllByRecursion}
use Rattle.std.proofs.Math.Logic.{⊎_elim}
use Rattle.std.proofs.lemmas.Bool.{and_parts, and_from, or_cases}
use Rattle.dns_model.specs.declared.proof.Proof.{Proof}
use Rattle.dns_model.specs.declared.proof.Proof.TheVariants.{Secure, Insecure, Bogus, Indeterminate}
use Rattle.dns_model.specs.declared.section.Section.TheVariants.{Answer, Authority}
use Rattle.dns_model.specs.declared.trail.AskRef.{AskRef}
use Rattle.dns_model.specs.declared.trail.AskRef.TheVariants.{Step, TooDeep, TooMany}
use Rattle.dns_model.specs.Names.{Labels, name_eq, at_or_above}
use Rattle.dns_model.specs.Types.{type_ds, type_nsec}
use Rattle.dns_model.specs.Records.{Rr, question_eq}
use Rattle.dns_model.specs.Keys.{VerifierAnswers}
use Rattle.dns_model.specs.SoundAnswers.{section_eq, is_secure}
use Rattle.dns_model.specs.Trails.{AskedValue, EndingValue, Answered, Denied, Foreign, Failed, Seen}
use Rattle.dns_model.proofs.AboveLemmas.{above_trans, above_alike, above_itself}
use Rattle.dns_model.proofs.EachLemmas.{find_known, any_agree}
use Rattle.dns_model.proofs.SetLemmas.{IsProper, name_left, name_back, number_same}
use Rattle.dns_rules.specs.MarkedSets.{MarkedSet}
use Rattle.dns_rules.specs.Denying.{hashed_denials}
use Rattle.dns_hashed_denial.proofs.AlikeNames.{delegation_alike}
use Rattle.dns_rules.specs.Delegations.{ZoneVerdict, ds_question, is_readable_ds, is_supported_ds, is_ds_set_of, shows_unsigned_cut, shows_no_ds, shows_no_ds_by_hash, is_insecure, is_insecure_above, verdict_by_ds, verdict_without_ds, zone_verdict}
use Rattle.dns_rules.specs.Delegations as delegation
use Rattle.dns_rules.specs.ProofErrors.{DsRecordShouldExist, DsResponseInsecure, UnknownKeyAlgorithm}
use Rattle.dns_rules.specs.KeySets.{is_root}
use Rattle.dns_rules.specs.Derivation.{if_answered, judged_sets, finished_answer, is_ask}
use Rattle.dns_rules.specs.DerivationParts.{answer_of, is_judged_ask}
use Rattle.dns_rules.proofs.Members.{picked_known}
use Rattle.dns_laws.specs.Ground.{none_supported, shows_unsupported_ds, shows_unsigned, is_ground}
use Rattle.dns_laws.proofs.GroundParts.{any_more, any_at, each_at, found_any, none_any}

-- some of these steps is a ground of the name
abbrev pub Grounded : VerifierAnswers → List AskedValue → Labels → Type 0
Grounded verifier earlier name = list_any (is_ground verifier name) earlier ≡ true

-- a set of a step: it is proper, and where it is Insecure its owner has a ground
pub record IsSettled (verifier : VerifierAnswers) (earlier : List AskedValue) (s : MarkedSet) : Type 0 where
  pub proper : IsProper s.set
  pub grounded : is_insecure s.mark ≡ true → Grounded verifier earlier s.set.owner

abbrev pub AreSettled : VerifierAnswers → List AskedValue → List MarkedSet → Type 0
AreSettled verifier earlier sets = AllByRecursion (IsSettled verifier earlier) sets

-- each set of each of these steps has its ground among those
abbrev pub StepsSettled : VerifierAnswers → List AskedValue → List AskedValue → Type 0
StepsSettled verifier earlier steps = AllByRecursion (λ step. AreSettled verifier earlier (judged_sets step)) steps

-- ---- a step that is a ground

pub record IsGroundOf (verifier : VerifierAnswers) (name : Labels) (step : AskedValue) : Type 0 where
  pub judged : step.judged ≡ true
  pub rtype : (step.query.rtype == type_ds) ≡ true
  pub below_root : not (is_root step.query.owner) ≡ true
  pub above : at_or_above step.query.owner name ≡ true
  pub shows : option_map_or (shows_unsigned verifier step.query.class step.query.owner) (if_answered step.ending (judged_sets step)) false
      ≡ true

ground_parts : (verifier : VerifierAnswers) (name : Labels) (step : AskedValue) → is_ground verifier name step ≡ true
    → IsGroundOf verifier name step
ground_parts verifier name step h =
    let rtype = step.query.rtype == type_ds in
    let below = not (is_root step.query.owner) in
    let above = at_or_above step.query.owner name in
    let shows = option_map_or (shows_unsigned verifier step.query.class step.query.owner)
    (if_answered step.ending (judged_sets step)) false in
    let one = and_parts step.judged (rtype && (below && (above && shows))) h in
    let two = and_parts rtype (below && (above && shows)) one.1 in
    let three = and_parts below (above && shows) two.1 in
    let four = and_parts above shows three.1 in
    record { judged = one.0; rtype = two.0; below_root = three.0; above = four.0; shows = four.1 }

ground_made : (verifier : VerifierAnswers) (name : Labels) (step : AskedValue) → IsGroundOf verifier name step
    → is_ground verifier name step ≡ true
ground_made verifier name step i =
    let rtype = step.query.rtype == type_ds in
    let below = not (is_root step.query.owner) in
    let above = at_or_above step.query.owner name in
    let shows = option_map_or (shows_unsigned verifier step.query.class step.query.owner)
    (if_answered step.ending (judged_sets step)) false in
    and_from step.judged (rtype && (below && (above && shows))) i.judged
    (and_from rtype (below && (above && shows)) i.rtype
    (and_from below (above && shows) i.below_root (and_from above shows i.above i.shows)))

-- a ground of a name is one of each name below it
pub grounded_below : (verifier : VerifierAnswers) (earlier : List AskedValue) (above name : Labels)
    → at_or_above above name ≡ true
    → Grounded verifier earlier above → Grounded verifier earlier name
grounded_below verifier earlier above name below h =
    any_more (is_ground verifier above) (is_ground verifier name)
    (λ step k. let i = ground_parts verifier above step k in
    ground_made verifier name step (record {
      judged = i.judged;
      rtype = i.rtype;
      below_root = i.below_root;
      above = above_trans step.query.owner above name i.above below;
      shows = i.shows;
    }))
    earlier h

pub grounded_alike : (verifier : VerifierAnswers) (earlier : List AskedValue) (one two : Labels)
    → name_eq one two ≡ true
    → Grounded verifier earlier one → Grounded verifier earlier two
grounded_alike verifier earlier one two same h =
    grounded_below verifier earlier one two (above_alike two one two (name_back one two same) (above_itself two)) h

-- ---- an answer by which a zone is Insecure

abbrev pub is_insecure_zone : ZoneVerdict → Bool
is_insecure_zone (delegation.Signed ds) = false
is_insecure_zone (delegation.Insecure kind) = true
is_insecure_zone (delegation.Bogus kind) = false

supported_step : (name : Labels) (ds : List Rr) (some readable : Bool)
    → is_insecure_zone (if some then delegation.Signed ds else if readable then delegation.Insecure UnknownKeyAlgorithm
    else delegation.Bogus (DsRecordShouldExist name)) ≡ true
    → (readable && not some) ≡ true
supported_step name ds true readable h = cc
supported_step name ds false true h = refl
supported_step name ds false false h = cc

-- a DS set by which it is so is Secure, and none of its records is supported
by_ds : (verifier : VerifierAnswers) (name : Labels) (mark : Proof) (records : List Rr)
    → is_insecure_zone (verdict_by_ds verifier name mark records) ≡ true
    → (is_secure mark && none_supported verifier records) ≡ true
by_ds verifier name Secure records h =
    supported_step name (filter (is_supported_ds verifier) records) (list_any (is_supported_ds verifier) records)
    (list_any is_readable_ds records) h
by_ds verifier name Insecure records h = cc
by_ds verifier name Bogus records h = cc
by_ds verifier name Indeterminate records h = cc

without_step : (name : Labels) (b : Bool)
    → is_insecure_zone (if b then delegation.Insecure (DsResponseInsecure name) else delegation.Bogus (DsRecordShouldExist name)) ≡ true
    → b ≡ true
without_step name true h = refl
without_step name false h = cc

abbrev verdict_found : VerifierAnswers → Labels → List MarkedSet → Option MarkedSet → ZoneVerdict
verdict_found verifier name answer found =
    option_map_or (λ s. verdict_by_ds verifier name s.mark s.set.records) found (verdict_without_ds name answer)

-- it shows that the zone is unsigned, or has an Insecure set at the zone or above it
answer_shows : (verifier : VerifierAnswers) (earlier : List AskedValue) (class : ℕ) (name : Labels)
    (answer : List MarkedSet) (o : Option MarkedSet)
    → AreSettled verifier earlier answer → find (is_ds_set_of class name) answer ≡ o
    → is_insecure_zone (verdict_found verifier name answer o) ≡ true
    → (shows_unsigned verifier class name answer ≡ true) ⊎ Grounded verifier earlier name
answer_shows verifier earlier class name answer (Some s) settled is h =
    let found = find_known (is_ds_set_of class name) (IsSettled verifier earlier) answer s settled is in
    let unsupported : shows_unsupported_ds verifier class name s ≡ true =
    and_from (is_ds_set_of class name s) (is_secure s.mark && none_supported verifier s.set.records) found.passes
    (by_ds verifier name s.mark s.set.records h) in
    inl (ap (λ b. b || (not (list_any (is_ds_set_of class name) answer)
    && (list_any (shows_no_ds name) answer || shows_no_ds_by_hash name answer)))
    (found_any (is_ds_set_of class name) (shows_unsupported_ds verifier class name) answer s is unsupported))
answer_shows verifier earlier class name answer None settled is h =
    let unsupported = list_any (shows_unsupported_ds verifier class name) answer in
    let some = list_any (is_ds_set_of class name) answer in
    let cut = list_any (shows_no_ds name) answer in
    let hashed = shows_no_ds_by_hash name answer in
    let above = list_any (is_insecure_above name) answer in
    let shown : (cut || hashed) ≡ true → (unsupported || (not some && (cut || hashed))) ≡ true =
    λ e. or_second unsupported (not some && (cut || hashed))
    (and_from (not some) (cut || hashed) (ap not (none_any (is_ds_set_of class name) answer is)) e) in
    ⊎_elim
    (λ (e : cut ≡ true). inl (shown (ap (λ b. b || hashed) e)))
    (λ (e : (hashed || above) ≡ true).
    ⊎_elim
    (λ (k : hashed ≡ true). inl (shown (or_second cut hashed k)))
    (λ (k : above ≡ true).
    let p = picked_known (is_insecure_above name) (IsSettled verifier earlier) answer settled k in
    let parts = and_parts (is_insecure p.it.mark) (at_or_above p.it.set.owner name) p.passes in
    inr (grounded_below verifier earlier p.it.set.owner name parts.1 (p.known.grounded parts.0)))
    (or_cases hashed above e))
    (or_cases cut (hashed || above) (without_step name (cut || (hashed || above)) h))
  where
    or_second : (a b : Bool) → b ≡ true → (a || b) ≡ true
    or_second true b e = refl
    or_second false b e = e

-- ---- the question that was asked

-- an answer shows the same of a zone by equal names
shows_alike : (verifier : VerifierAnswers) (class : ℕ) (one two : Labels) (answer : List MarkedSet)
    → name_eq one two ≡ true
    → shows_unsigned verifier class one answer ≡ shows_unsigned verifier class two answer
shows_alike verifier class one two answer same =
    let ds = λ (s : MarkedSet).
    ap (λ b. section_eq Answer s.section && (b && ((s.set.rtype == type_ds) && (class == s.set.class))))
    (name_left one two s.set.owner same) in
    let unsupported = any_agree (shows_unsupported_ds verifier class one) (shows_unsupported_ds verifier class two)
    (λ s. ap (λ b. b && (is_secure s.mark && none_supported verifier s.set.records)) (ds s)) answer in
    let none = any_agree (is_ds_set_of class one) (is_ds_set_of class two) ds answer in
    let cut = any_agree (shows_no_ds one) (shows_no_ds two)
    (λ s. ap (λ b. section_eq Authority s.section
    && (is_secure s.mark && (b && ((s.set.rtype == type_nsec) && list_any shows_unsigned_cut s.set.records))))
    (name_left one two s.set.owner same)) answer in
    let hashed = delegation_alike one two (hashed_denials answer) same in
    let shown = λ (name : Labels). list_any (shows_no_ds name) answer || shows_no_ds_by_hash name answer in
    ap (λ b. b || (not (list_any (is_ds_set_of class one) answer) && shown one)) unsupported
    ∙ ap (λ b. list_any (shows_unsupported_ds verifier class two) answer || (not b && shown one)) none
    ∙ ap (λ b. list_any (shows_unsupported_ds verifier class two) answer || (not (list_any (is_ds_set_of class two) answer)
    && (b || shows_no_ds_by_hash one answer))) cut
    ∙ ap (λ b. list_any (shows_unsupported_ds verifier class two) answer || (not (list_any (is_ds_set_of class two) answer)
    && (list_any (shows_no_ds two) answer || b))) hashed

root_alike : (one two : Labels) → name_eq one two ≡ true → is_root one ≡ false → not (is_root two) ≡ true
root_alike [] two same h = cc
root_alike (label ∷ one) [] same h = cc
root_alike (label ∷ one) (other ∷ two) same h = refl

-- the sets of an answer
pub answered_sets : (ending : EndingValue) (sets answer : List MarkedSet) → if_answered ending sets ≡ Some answer
    → sets ≡ answer
answered_sets (Answered d) sets answer h = cc
answered_sets (Denied proof) sets answer h = cc
answered_sets (Foreign owner class rtype) sets answer h = cc
answered_sets Failed sets answer h = cc
answered_sets Seen sets answer h = cc

-- an earlier step asked for the DS set of a zone, and its answer makes the zone Insecure
by_answer : (verifier : VerifierAnswers) (earlier : List AskedValue) (n class : ℕ) (name : Labels) (step : AskedValue)
    (o : Option (List MarkedSet))
    → StepsSettled verifier earlier earlier → is_root name ≡ false → slice_get earlier n ≡ Some step
    → step.judged ≡ true
    → question_eq (ds_question class name) step.query ≡ true → if_answered step.ending (judged_sets step) ≡ o
    → is_insecure_zone (zone_verdict verifier class name o) ≡ true → Grounded verifier earlier name
unfolding zone_verdict
by_answer verifier earlier n class name step None settled below is judged asked answered h = cc
by_answer verifier earlier n class name step (Some answer) settled below is judged asked answered h =
    let one = and_parts (name_eq name step.query.owner) ((type_ds == step.query.rtype) && (class == step.query.class)) asked in
    let two = and_parts (type_ds == step.query.rtype) (class == step.query.class) one.1 in
    let same = answered_sets step.ending (judged_sets step) answer answered in
    let each : AreSettled verifier earlier answer =
    subst (AreSettled verifier earlier) same (each_at (λ s. AreSettled verifier earlier (judged_sets s)) earlier n step settled is) in
    ⊎_elim
    (λ (e : shows_unsigned verifier class name answer ≡ true).
    any_at (is_ground verifier name) earlier n step is (ground_made verifier name step (record {
      judged = judged;
      rtype = ap (λ t. t == type_ds) (sym (number_same type_ds step.query.rtype two.0));
      below_root = root_alike name step.query.owner one.0 below;
      above = above_alike name step.query.owner name one.0 (above_itself name);
      shows = ap (λ a. option_map_or (shows_unsigned verifier step.query.class step.query.owner) a false) answered
          ∙ ap (λ c. shows_unsigned verifier c step.query.owner answer) (sym (number_same class step.query.class two.1))
          ∙ sym (shows_alike verifier class name step.query.owner answer one.0) ∙ e;
    })))
    (λ (e : Grounded verifier earlier name). e)
    (answer_shows verifier earlier class name answer (find (is_ds_set_of class name) answer) each refl h)

by_step : (verifier : VerifierAnswers) (earlier : List AskedValue) (n depth class : ℕ) (name : Labels)
    (o : Option AskedValue)
    → StepsSettled verifier earlier earlier → is_root name ≡ false → slice_get earlier n ≡ o
    → is_judged_ask depth (ds_question class name) o ≡ true
    → is_insecure_zone (zone_verdict verifier class name (answer_of o)) ≡ true → Grounded verifier earlier name
by_step verifier earlier n depth class name None settled below is asks h = cc
by_step verifier earlier n depth class name (Some step) settled below is asks h =
    let fits = step.depth == depth in
    let asked = question_eq (ds_question class name) step.query in
    let one = and_parts step.judged (fits && asked) asks in
    by_answer verifier earlier n class name step (if_answered step.ending (judged_sets step)) settled below is one.0
    ((and_parts fits asked one.1).1) refl h

-- an ask for the DS set of a zone by whose answer the zone is Insecure
pub zone_grounded : (verifier : VerifierAnswers) (limit : ℕ) (earlier : List AskedValue) (depth class : ℕ)
    (name : Labels) (ask : AskRef)
    → StepsSettled verifier earlier earlier → is_root name ≡ false
    → is_ask limit earlier depth (ds_question class name) ask ≡ true
    → is_insecure_zone (zone_verdict verifier class name (finished_answer earlier ask)) ≡ true
    → Grounded verifier earlier name
unfolding zone_verdict
zone_grounded verifier limit earlier depth class name (Step n) settled below asks h =
    by_step verifier earlier n depth class name (slice_get earlier n) settled below refl
    ((and_parts (nat_le depth limit) (is_judged_ask depth (ds_question class name) (slice_get earlier n)) asks).1) h
zone_grounded verifier limit earlier depth class name TooDeep settled below asks h = cc
zone_grounded verifier limit earlier depth class name TooMany settled below asks h = cc

-- ---- the sets of any finished ask

settled_by : (verifier : VerifierAnswers) (earlier : List AskedValue) (n : ℕ) (o : Option AskedValue)
    (answer : List MarkedSet)
    → StepsSettled verifier earlier earlier → slice_get earlier n ≡ o → answer_of o ≡ Some answer
    → AreSettled verifier earlier answer
settled_by verifier earlier n None answer settled is h = cc
settled_by verifier earlier n (Some step) answer settled is h =
    subst (AreSettled verifier earlier) (answered_sets step.ending (judged_sets step) answer h)
    (each_at (λ s. AreSettled verifier earlier (judged_sets s)) earlier n step settled is)

pub answer_settled : (verifier : VerifierAnswers) (earlier : List AskedValue) (ask : AskRef) (answer : List MarkedSet)
    → StepsSettled verifier earlier earlier → finished_answer earlier ask ≡ Some answer
    → AreSettled verifier earlier answer
answer_settled verifier earlier (Step n) answer settled h = settled_by verifier earlier n (slice_get earlier n) answer settled refl h
answer_settled verifier earlier TooDeep answer settled h = cc
answer_settled verifier earlier TooMany answer settled h = cc
