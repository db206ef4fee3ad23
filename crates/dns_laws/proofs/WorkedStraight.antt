-- Straight replies and valid sessions on worked rows, shown by computing them: the root's NS set, signed by its anchored key.
use Rattle.std.specs.Prelude.{◌≡◌, ℕ, Bool, true, false, List, [], ◌∷◌, Option, None, Some, refl, if◌then◌else◌}
use Rattle.dns_model.specs.Records.{Rr, Question, question_eq}
use Rattle.dns_model.specs.Views.{ds_in}
use Rattle.dns_model.specs.Sections.{leaders, sets_of}
use Rattle.dns_model.specs.Chains.{Judge, judge}
use Rattle.dns_model.specs.SoundAnswers.{Told}
use Rattle.dns_model.proofs.Worked.{key, name_a, signature, anchors}
use Rattle.dns_rules.specs.Marks.{first_two}
use Rattle.dns_rules.proofs.WorkedTrailValues.{verifier, root_judge, record_of, keys_question, ns_question, ns_records}
use Rattle.dns_rules.proofs.WorkedTrails.{good_computed}
use Rattle.dns_laws.specs.Straight.{is_straight}
use Rattle.dns_laws.specs.Valid.{leads_to_anchor}

unfoldable pub straight_computed : Judge → Question → Told → Bool
unfolding good_computed sets_of leaders
straight_computed = is_straight

unfoldable pub leads_computed : Judge → (Question → Option Told) → Question → List Question → Bool
unfolding straight_computed leads_to_anchor first_two ds_in
leads_computed = leads_to_anchor

-- ---- replies

abbrev pub answers_of : List Rr → Told
answers_of answers = record { code = 0; answers = answers; authorities = []; additionals = [] }

abbrev keys : List Rr
keys = record_of [] 48 key ∷ []

pub signed_set : is_straight root_judge ns_question (answers_of ns_records) ≡ true
unfolding straight_computed
signed_set = refl

pub anchored_keys : is_straight root_judge keys_question (answers_of keys) ≡ true
unfolding straight_computed
anchored_keys = refl

pub keys_without_an_anchor : is_straight (judge verifier [] 1000) keys_question (answers_of keys) ≡ false
unfolding straight_computed
keys_without_an_anchor = refl

pub unsigned_set : is_straight root_judge ns_question (answers_of (record_of [] 2 name_a ∷ [])) ≡ false
unfolding straight_computed
unsigned_set = refl

pub no_records : is_straight root_judge ns_question (answers_of []) ≡ false
unfolding straight_computed
no_records = refl

pub twice_the_same : is_straight root_judge ns_question (answers_of (record_of [] 2 name_a ∷ ns_records)) ≡ false
unfolding straight_computed
twice_the_same = refl

pub two_signatures : is_straight root_judge ns_question (answers_of (record_of [] 46 signature ∷ ns_records)) ≡ false
unfolding straight_computed
two_signatures = refl

pub another_name : is_straight root_judge ns_question (answers_of (record_of ((97 ∷ []) ∷ []) 2 name_a ∷ ns_records)) ≡ false
unfolding straight_computed
another_name = refl

pub beside_an_authority :
    is_straight root_judge ns_question (record (answers_of ns_records) { authorities = record_of [] 6 name_a ∷ [] }) ≡ false
unfolding straight_computed
beside_an_authority = refl

pub another_code : is_straight root_judge ns_question (record (answers_of ns_records) { code = 3 }) ≡ false
unfolding straight_computed
another_code = refl

-- ---- sessions

abbrev tells : List Rr → List Rr → Question → Option Told
tells ns found q =
    if question_eq ns_question q then Some (answers_of ns) else if question_eq keys_question q then Some (answers_of found) else None

pub valid_session : leads_to_anchor root_judge (tells ns_records keys) ns_question (keys_question ∷ []) ≡ true
unfolding leads_computed
valid_session = refl

pub keys_are_missing : leads_to_anchor root_judge (tells ns_records keys) ns_question [] ≡ false
unfolding leads_computed
keys_are_missing = refl

pub goes_past_an_anchor : leads_to_anchor root_judge (tells ns_records keys) ns_question (keys_question ∷ keys_question ∷ []) ≡ false
unfolding leads_computed
goes_past_an_anchor = refl

pub after_its_end : leads_to_anchor (judge verifier anchors 2001) (tells ns_records keys) ns_question (keys_question ∷ []) ≡ false
unfolding leads_computed
after_its_end = refl

pub at_its_end : leads_to_anchor (judge verifier anchors 2000) (tells ns_records keys) ns_question (keys_question ∷ []) ≡ true
unfolding leads_computed
at_its_end = refl

pub another_rdata :
    leads_to_anchor root_judge (tells (record_of [] 2 (1 ∷ 98 ∷ 0 ∷ []) ∷ record_of [] 46 signature ∷ []) keys) ns_question
    (keys_question ∷ []) ≡ false
unfolding leads_computed
another_rdata = refl

-- ---- keys of one tag

-- each with the tag of the root's key, and an anchor like it; neither accepted
abbrev second_key : List ℕ
second_key = 1 ∷ 1 ∷ 3 ∷ 13 ∷ 170 ∷ 186 ∷ 0 ∷ 1 ∷ []

abbrev third_key : List ℕ
third_key = 1 ∷ 1 ∷ 3 ∷ 13 ∷ 170 ∷ 185 ∷ 0 ∷ 2 ∷ []

abbrev all_anchored : Judge
all_anchored =
    judge verifier
    (record { owner = []; algorithm = 13; key = 170 ∷ 186 ∷ 0 ∷ 1 ∷ [] } ∷ record {
      owner = [];
      algorithm = 13;
      key = 170 ∷ 185 ∷ 0 ∷ 2 ∷ [];
    } ∷ anchors) 1000

-- the second key of a tag counts
pub by_the_second_key :
    leads_to_anchor all_anchored (tells ns_records (record_of [] 48 second_key ∷ keys)) ns_question (keys_question ∷ []) ≡ true
unfolding leads_computed
by_the_second_key = refl

-- a third doesn't
pub not_by_the_third_key :
    leads_to_anchor all_anchored (tells ns_records (record_of [] 48 second_key ∷ record_of [] 48 third_key ∷ keys))
    ns_question (keys_question ∷ [])
    ≡ false
unfolding leads_computed
not_by_the_third_key = refl
