-- Derivations on worked rows: trails that are, and what they become where one thing in them is another, shown by computing it.
use Rattle.std.specs.Prelude.{◌≡◌, ℕ, Bool, true, false, List, [], ◌∷◌, Option, None, Some, refl}
use Rattle.dns_model.specs.declared.proof.Proof.{Proof}
use Rattle.dns_model.specs.declared.proof.Proof.TheVariants.{Secure, Bogus}
use Rattle.dns_model.specs.declared.denial.Denial.TheVariants as denial
use Rattle.dns_model.specs.declared.trail.AskRef.TheVariants.{Step, TooDeep, TooMany}
use Rattle.dns_model.specs.declared.trail.MarkOrigin.{MarkOrigin}
use Rattle.dns_model.specs.declared.trail.MarkOrigin.TheVariants.{Repeat, Cache}
use Rattle.dns_model.specs.NameForm.{label_in, labels_in, name_in}
use Rattle.dns_model.specs.Names.{Labels, common_ancestor}
use Rattle.dns_model.specs.Records.{Rr, RrSet, Question}
use Rattle.dns_model.specs.Views.{RrsigValue, rrsig_in, dnskey_in, ds_in, nsec_in, nsec3_in}
use Rattle.dns_model.specs.Shapes.{parts_in, shape_of, is_lowered_type, canonical_form, is_bitmap, bitmap_has, windows_in, window_in}
use Rattle.dns_model.specs.Signing.{tag_sum, insert_once, rising_once, signed_bytes}
use Rattle.dns_model.specs.Sections.{leaders, sets_of}
use Rattle.dns_model.specs.Chains.{Judge, judge}
use Rattle.dns_model.specs.SoundAnswers.{Told, PlacedSet}
use Rattle.dns_model.specs.Trails.{AskedValue, Fault, Answered, Denied, Foreign, Failed}
use Rattle.dns_model.proofs.Worked.{name_a, signature, anchors}
use Rattle.dns_rules.specs.Covering.{nsec_covering}
use Rattle.dns_rules.specs.NsecVerdict.{closest_encloser, nsec_verdict}
use Rattle.dns_rules.specs.MarkedSets.{MarkedSet}
use Rattle.dns_rules.specs.Validity.{validity, is_good_by}
use Rattle.dns_rules.specs.Marks.{first_two, verdict_of, judged_by}
use Rattle.dns_rules.specs.Asking.{Limits}
use Rattle.dns_rules.specs.Nsec3Verdict.{nsec3_verdict, shows_insecure_delegation}
use Rattle.dns_rules.specs.Delegations.{ZoneVerdict, zone_verdict}
use Rattle.dns_rules.specs.Unsigned.{unsigned_by}
use Rattle.dns_rules.specs.KeySets.{first_signed, keys_outcome, judged_keys}
use Rattle.dns_rules.specs.Outcome.{Outcome, least, answered, outcome_of}
use Rattle.dns_rules.specs.CacheEntries.{EntryValue}
use Rattle.dns_rules.specs.Derivation.{derivation, search_by, verdicts_by, entry_holds, entries_hold, step_holds, steps_hold, order_asks, order_step, end_asks, end_step, has_order}
use Rattle.dns_rules.proofs.WorkedTrailValues.{verifier, root_judge, ns_records, record_of, reply_of, answer_entry, address_entry, keys_step, ns_step, keys_judged, keys_found, keys_fault, keys_missed, ns_found, ns_secure, ns_beside, both_secure, within}

-- ---- what the examples compute with

signed_computed : Labels → ℕ → ℕ → List (List ℕ) → RrsigValue → List ℕ
unfolding signed_bytes rising_once insert_once canonical_form is_lowered_type parts_in shape_of name_in labels_in label_in
signed_computed = signed_bytes

unfoldable pub good_computed : Judge → RrSet → Rr → Rr → Bool
unfolding signed_computed is_good_by validity rrsig_in dnskey_in tag_sum
good_computed = is_good_by

keys_computed : Judge → PlacedSet → Option ZoneVerdict → MarkedSet
unfolding good_computed judged_keys keys_outcome first_signed
keys_computed = judged_keys

outcome_computed : Limits → Question → Told → List MarkedSet → Outcome
unfolding outcome_of answered least nsec3_verdict nsec3_in nsec_in is_bitmap bitmap_has windows_in window_in nsec_verdict
    nsec_covering closest_encloser common_ancestor name_in labels_in label_in
outcome_computed = outcome_of

step_computed : Judge → Limits → List EntryValue → List AskedValue → AskedValue → Bool
unfolding keys_computed ds_in zone_verdict shows_insecure_delegation step_holds entries_hold entry_holds search_by unsigned_by
    verdicts_by verdict_of judged_by first_two outcome_computed sets_of leaders
step_computed = step_holds

unfoldable pub computed : Judge → Limits → List EntryValue → List AskedValue → Bool
unfolding step_computed derivation has_order order_asks order_step end_asks end_step steps_hold
computed = derivation

-- ---- the root's keys, and the NS set that they prove

-- the ask for the keys, and then the set that asked
abbrev pub secure_trail : List AskedValue
secure_trail = keys_found ∷ ns_secure ns_records (Answered denial.None) ∷ []

pub proved_by_the_keys : derivation root_judge (within 26) [] secure_trail ≡ true
unfolding computed
proved_by_the_keys = refl

pub no_steps : derivation root_judge (within 26) [] [] ≡ false
unfolding computed
no_steps = refl

pub other_order : derivation root_judge (within 26) []
    (ns_secure ns_records (Answered denial.None) ∷ keys_found ∷ []) ≡ false
unfolding computed
other_order = refl

-- the last step is at depth 0
pub keys_alone : derivation root_judge (within 26) [] (keys_found ∷ []) ≡ false
unfolding computed
keys_alone = refl

-- one signature asks once
pub asked_twice : derivation root_judge (within 26) []
    (keys_found ∷ ns_found Secure (Some 0) (Step 0 ∷ Step 0 ∷ []) ∷ []) ≡ false
unfolding computed
asked_twice = refl

pub named_by_none : derivation root_judge (within 26) []
    (keys_found ∷ keys_found ∷ ns_found Secure (Some 0) (Step 1 ∷ []) ∷ []) ≡ false
unfolding computed
named_by_none = refl

pub named_itself : derivation root_judge (within 26) [] (keys_found ∷ ns_found Bogus None (Step 1 ∷ []) ∷ []) ≡ false
unfolding computed
named_itself = refl

-- the signature asks
pub left_out : derivation root_judge (within 26) [] (ns_found Bogus None [] ∷ []) ≡ false
unfolding computed
left_out = refl

-- 1,024 steps come before an ask that is one too many
pub left_out_as_too_many : derivation root_judge (within 26) [] (ns_found Bogus None (TooMany ∷ []) ∷ []) ≡ false
unfolding computed
left_out_as_too_many = refl

pub another_mark : derivation root_judge (within 26) [] (keys_found ∷ ns_found Bogus None (Step 0 ∷ []) ∷ []) ≡ false
unfolding computed
another_mark = refl

pub another_signature : derivation root_judge (within 26) []
    (keys_found ∷ ns_found Secure (Some 1) (Step 0 ∷ []) ∷ []) ≡ false
unfolding computed
another_signature = refl

-- the keys are Secure as anchors, and have no signature
pub signature_of_unsigned_keys :
    derivation root_judge (within 26) []
    (keys_judged (answer_entry 48 Secure (Some 0) [] ∷ []) ∷ ns_secure ns_records (Answered denial.None) ∷ []) ≡ false
unfolding computed
signature_of_unsigned_keys = refl

pub no_entry : derivation root_judge (within 26) []
    (keys_judged [] ∷ ns_secure ns_records (Answered denial.None) ∷ []) ≡ false
unfolding computed
no_entry = refl

pub ends_as_denied : derivation root_judge (within 26) []
    (keys_found ∷ ns_secure ns_records (Denied Bogus) ∷ []) ≡ false
unfolding computed
ends_as_denied = refl

pub ends_as_failed : derivation root_judge (within 26) [] (keys_found ∷ ns_secure ns_records Failed ∷ []) ≡ false
unfolding computed
ends_as_failed = refl

-- the signature is over another record
pub another_rdata :
    derivation root_judge (within 26) []
    (keys_found ∷ ns_secure (record_of [] 2 (1 ∷ 98 ∷ 0 ∷ []) ∷ record_of [] 46 signature ∷ []) (Answered denial.None) ∷ []) ≡ false
unfolding computed
another_rdata = refl

pub after_its_end : derivation (judge verifier anchors 2001) (within 26) [] secure_trail ≡ false
unfolding computed
after_its_end = refl

pub without_an_anchor : derivation (judge verifier [] 1000) (within 26) [] secure_trail ≡ false
unfolding computed
without_an_anchor = refl

-- ---- a record of another class

abbrev pub foreign_records : List Rr
foreign_records = record (record_of [] 2 name_a) { class = 3 } ∷ record_of [] 46 signature ∷ []

-- it ends its step, and nothing is asked
pub ends_at_another_class : derivation root_judge (within 26) []
    (ns_step (reply_of foreign_records []) [] (Foreign [] 3 2) ∷ []) ≡ true
unfolding computed
ends_at_another_class = refl

pub another_class_judged :
    derivation root_judge (within 26) []
    (keys_found ∷ ns_secure foreign_records (Answered denial.None) ∷ []) ≡ false
unfolding computed
another_class_judged = refl

-- ---- asks that may go no deeper

pub too_deep : derivation root_judge (within 0) [] (ns_found Bogus None (TooDeep ∷ []) ∷ []) ≡ true
unfolding computed
too_deep = refl

pub too_deep_and_secure : derivation root_judge (within 0) [] (ns_found Secure (Some 0) (TooDeep ∷ []) ∷ []) ≡ false
unfolding computed
too_deep_and_secure = refl

pub asked_too_deep : derivation root_judge (within 0) [] secure_trail ≡ false
unfolding computed
asked_too_deep = refl

pub not_too_deep : derivation root_judge (within 26) [] (ns_found Bogus None (TooDeep ∷ []) ∷ []) ≡ false
unfolding computed
not_too_deep = refl

-- ---- an ask that gets no reply

pub bogus_after_a_fault : derivation root_judge (within 26) []
    (keys_fault ∷ ns_found Bogus None (Step 0 ∷ []) ∷ []) ≡ true
unfolding computed
bogus_after_a_fault = refl

pub secure_after_a_fault : derivation root_judge (within 26) []
    (keys_fault ∷ ns_secure ns_records (Answered denial.None) ∷ []) ≡ false
unfolding computed
secure_after_a_fault = refl

pub answer_of_a_fault :
    derivation root_judge (within 26) []
    (keys_step Fault [] (Answered denial.None) ∷ ns_found Bogus None (Step 0 ∷ []) ∷ []) ≡ false
unfolding computed
answer_of_a_fault = refl

-- ---- two asks, the first of which gets no records

pub second_ask_proves :
    derivation root_judge (within 26) []
    (keys_missed ∷ keys_found ∷ ns_beside 0 (address_entry Secure (Some 0) (Step 1 ∷ [])) ∷ []) ≡ true
unfolding computed
second_ask_proves = refl

pub swapped :
    derivation root_judge (within 26) []
    (keys_found ∷ keys_missed ∷ ns_beside 0 (address_entry Secure (Some 0) (Step 1 ∷ [])) ∷ []) ≡ false
unfolding computed
swapped = refl

-- swapped, and the asks renumbered: each mark follows, but the step that was asked first ends second
abbrev pub renumbered_trail : List AskedValue
renumbered_trail = keys_found ∷ keys_missed ∷ ns_beside 1 (address_entry Secure (Some 0) (Step 0 ∷ [])) ∷ []

pub renumbered_marks_follow : steps_hold root_judge (within 26) [] [] renumbered_trail ≡ true
unfolding computed
renumbered_marks_follow = refl

pub swapped_and_renumbered : derivation root_judge (within 26) [] renumbered_trail ≡ false
unfolding computed
swapped_and_renumbered = refl

-- each mark follows, but two asks name one step
abbrev pub one_step_for_two : List AskedValue
one_step_for_two = keys_missed ∷ ns_beside 0 (address_entry Bogus None (Step 0 ∷ [])) ∷ []

pub marks_of_one_step_follow : steps_hold root_judge (within 26) [] [] one_step_for_two ≡ true
unfolding computed
marks_of_one_step_follow = refl

pub named_twice : derivation root_judge (within 26) [] one_step_for_two ≡ false
unfolding computed
named_twice = refl

-- each mark follows, but no ask names the second step
abbrev pub one_step_unnamed : List AskedValue
one_step_unnamed = keys_missed ∷ keys_found ∷ ns_beside 0 (address_entry Bogus None (Step 0 ∷ [])) ∷ []

pub marks_beside_an_unnamed_step_follow : steps_hold root_judge (within 26) [] [] one_step_unnamed ≡ true
unfolding computed
marks_beside_an_unnamed_step_follow = refl

pub unnamed : derivation root_judge (within 26) [] one_step_unnamed ≡ false
unfolding computed
unnamed = refl

pub second_left_out :
    derivation root_judge (within 26) []
    (keys_missed ∷ ns_beside 0 (address_entry Bogus None (TooMany ∷ [])) ∷ []) ≡ false
unfolding computed
second_left_out = refl

-- ---- a step that says what an earlier one found

abbrev pub keys_by : MarkOrigin → Proof → AskedValue
keys_by origin mark = keys_judged (record (answer_entry 48 mark None []) { origin = origin } ∷ [])

pub as_the_first_found : derivation root_judge (within 26) []
    (keys_found ∷ keys_by (Repeat 0) Secure ∷ both_secure ∷ []) ≡ true
unfolding computed
as_the_first_found = refl

pub by_the_rules_again : derivation root_judge (within 26) [] (keys_found ∷ keys_found ∷ both_secure ∷ []) ≡ true
unfolding computed
by_the_rules_again = refl

pub repeats_itself : derivation root_judge (within 26) []
    (keys_found ∷ keys_by (Repeat 1) Secure ∷ both_secure ∷ []) ≡ false
unfolding computed
repeats_itself = refl

pub repeats_another_mark : derivation root_judge (within 26) []
    (keys_found ∷ keys_by (Repeat 0) Bogus ∷ both_secure ∷ []) ≡ false
unfolding computed
repeats_another_mark = refl

-- nothing was kept
pub kept_from_an_earlier_lookup : derivation root_judge (within 26) []
    (keys_found ∷ keys_by Cache Secure ∷ both_secure ∷ []) ≡ false
unfolding computed
kept_from_an_earlier_lookup = refl
