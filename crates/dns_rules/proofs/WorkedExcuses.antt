-- Derivations on worked rows where an answer is expanded from a wildcard and the zone of its query is searched, shown by computing
-- them; and what they become where one thing in them is another.
use Rattle.std.proofs.Common.{◌≡◌, true, false, List, [], ◌∷◌, ◌++◌, None, Some, refl}
use Rattle.dns_model.specs.declared.proof.Proof.TheVariants.{Insecure, Bogus}
use Rattle.dns_model.specs.declared.denial.Denial.TheVariants as denial
use Rattle.dns_model.specs.declared.trail.AskRef.{AskRef}
use Rattle.dns_model.specs.declared.trail.AskRef.TheVariants.{Step}
use Rattle.dns_model.specs.Records.{Rr}
use Rattle.dns_model.specs.Trails.{AskedValue, EndingValue, Answered, Denied}
use Rattle.dns_model.proofs.Delegation.{signature_of}
use Rattle.dns_rules.specs.Marks.{key_question}
use Rattle.dns_rules.specs.Delegations.{ds_question}
use Rattle.dns_rules.specs.Derivation.{derivation}
use Rattle.dns_rules.proofs.WorkedTrailValues.{record_of, reply_of, keys_found, within}
use Rattle.dns_rules.proofs.WorkedTrails.{computed}
use Rattle.dns_rules.proofs.WorkedDelegations.{zone, by_root, step_of, zone_entry, root_keys, other_algorithm, zone_keys}
use Rattle.dns_rules.proofs.WorkedSearches.{host, address, address_question, host_seen, zone_seen, host_fault, ds_unsupported, host_entry}

-- ---- the answer to a query, expanded from a wildcard

-- the signature counts fewer labels than the host has, and names the zone as its signer
abbrev pub expanded : List Rr
expanded = address ∷ record_of host 46 (signature_of 1 1 zone) ∷ []

-- the zone's keys, which the signature asks for: Insecure by the DS set
abbrev pub keys_insecure : AskedValue
keys_insecure = step_of 1 (key_question 1 zone) (reply_of zone_keys []) (zone_entry 48 Insecure None (Step 1 ∷ []) ∷ [])
    (Answered denial.None)

-- what that signature asks
abbrev pub asked_by_the_signature : List AskedValue
asked_by_the_signature = record keys_found { depth = 3 } ∷ record (ds_unsupported (Step 0 ∷ [])) { depth = 2 } ∷ keys_insecure ∷ []

-- what the search for the query's zone asks
abbrev pub asked_by_the_ending : List AskedValue
asked_by_the_ending = host_seen ∷ zone_seen ∷ root_keys ∷ ds_unsupported (Step 5 ∷ []) ∷ []

-- these records came, and the set is Insecure by its signature
abbrev pub signed_step : List Rr → EndingValue → List AskRef → AskedValue
signed_step records ending excuse =
    record (step_of 0 address_question (reply_of records []) (host_entry Insecure (Some 0) (Step 2 ∷ []) ∷ []) ending) { excuse = excuse }

abbrev pub excused : EndingValue → List AskRef → List AskedValue
excused ending excuse = asked_by_the_signature ++ asked_by_the_ending ++ signed_step expanded ending excuse ∷ []

-- the excuse names the search, and the answer stands
pub excused_by_the_search : derivation by_root (within 26) []
    (excused (Answered denial.None) (Step 3 ∷ Step 4 ∷ Step 6 ∷ [])) ≡ true
unfolding computed
excused_by_the_search = refl

pub denied_though_excused : derivation by_root (within 26) []
    (excused (Denied Bogus) (Step 3 ∷ Step 4 ∷ Step 6 ∷ [])) ≡ false
unfolding computed
denied_though_excused = refl

pub expanded_without_an_excuse :
    derivation by_root (within 26) []
    (asked_by_the_signature ++ signed_step expanded (Answered denial.None) [] ∷ []) ≡ false
unfolding computed
expanded_without_an_excuse = refl

pub excuse_stops_without_ns :
    derivation by_root (within 26) []
    (asked_by_the_signature ++ host_seen ∷ signed_step expanded (Denied Bogus) (Step 3 ∷ []) ∷ []) ≡ false
unfolding computed
excuse_stops_without_ns = refl

-- where the search shows nothing, the answer is denied
pub denied_after_a_fault :
    derivation by_root (within 26) []
    (asked_by_the_signature ++ host_fault ∷ signed_step expanded (Denied Bogus) (Step 3 ∷ []) ∷ []) ≡ true
unfolding computed
denied_after_a_fault = refl

pub answered_after_a_fault :
    derivation by_root (within 26) []
    (asked_by_the_signature ++ host_fault ∷ signed_step expanded (Answered denial.None) (Step 3 ∷ []) ∷ []) ≡ false
unfolding computed
answered_after_a_fault = refl

-- a signature that counts each label: nothing is searched
abbrev pub unexpanded : List Rr
unexpanded = address ∷ record_of host 46 (signature_of 1 2 zone) ∷ []

pub answered_without_a_search :
    derivation by_root (within 26) []
    (asked_by_the_signature ++ signed_step unexpanded (Answered denial.None) [] ∷ []) ≡ true
unfolding computed
answered_without_a_search = refl

pub excuse_of_a_plain_answer :
    derivation by_root (within 26) []
    (asked_by_the_signature ++ asked_by_the_ending ++ signed_step unexpanded (Answered denial.None) (Step 3 ∷ Step 4 ∷ Step 6 ∷ []) ∷ [])
    ≡ false
unfolding computed
excuse_of_a_plain_answer = refl

-- ---- an expanded DS set: the search for its query's zone begins at the parent

abbrev pub expanded_ds : List AskRef → AskedValue
expanded_ds excuse =
    record (step_of 0 (ds_question 1 host)
    (reply_of (record_of host 43 other_algorithm ∷ record_of host 46 (signature_of 43 1 zone) ∷ []) [])
    (record (host_entry Insecure (Some 0) (Step 2 ∷ [])) { rtype = 43 } ∷ []) (Answered denial.None)) { excuse = excuse }

pub ds_excused_from_its_parent :
    derivation by_root (within 26) []
    (asked_by_the_signature ++ zone_seen ∷ root_keys ∷ ds_unsupported (Step 4 ∷ []) ∷ expanded_ds (Step 3 ∷ Step 5 ∷ []) ∷ []) ≡ true
unfolding computed
ds_excused_from_its_parent = refl

pub ds_excused_from_its_owner :
    derivation by_root (within 26) []
    (asked_by_the_signature ++ asked_by_the_ending ++ expanded_ds (Step 3 ∷ Step 4 ∷ Step 6 ∷ []) ∷ []) ≡ false
unfolding computed
ds_excused_from_its_owner = refl
