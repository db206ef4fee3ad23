-- Derivations on worked rows where the zone of an unsigned set is searched: `example.`, whose DS set the root's anchored key signs
-- and whose only DS has an algorithm that isn't supported. They are shown by computing them; and what they become where one thing in
-- them is another.
use Rattle.std.proofs.Common.{◌≡◌, ℕ, true, false, List, [], ◌∷◌, Option, None, Some, refl}
use Rattle.dns_model.specs.declared.proof.Proof.{Proof}
use Rattle.dns_model.specs.declared.proof.Proof.TheVariants.{Secure, Insecure, Bogus}
use Rattle.dns_model.specs.declared.section.Section.TheVariants.{Authority}
use Rattle.dns_model.specs.declared.denial.Denial.TheVariants as denial
use Rattle.dns_model.specs.declared.trail.AskRef.{AskRef}
use Rattle.dns_model.specs.declared.trail.AskRef.TheVariants.{Step, TooDeep, TooMany}
use Rattle.dns_model.specs.Names.{Labels}
use Rattle.dns_model.specs.Records.{Rr, Question}
use Rattle.dns_model.specs.Trails.{AskedValue, JudgedSetValue, HeardValue, Records, Fault, Answered, Failed, Seen}
use Rattle.dns_model.proofs.Worked.{letter_a, name_a}
use Rattle.dns_rules.specs.Delegations.{ds_question}
use Rattle.dns_rules.specs.Unsigned.{ns_question}
use Rattle.dns_rules.specs.Derivation.{derivation}
use Rattle.dns_rules.proofs.WorkedTrailValues.{record_of, reply_of, answer_entry, keys_found, within}
use Rattle.dns_rules.proofs.WorkedTrails.{computed}
use Rattle.dns_rules.proofs.WorkedDelegations.{zone, by_root, step_of, zone_entry, root_keys, ds_by_root, other_algorithm}

-- ---- steps

abbrev pub host : Labels
host = letter_a ∷ zone

abbrev pub address : Rr
address = record_of host 1 (192 ∷ 0 ∷ 2 ∷ 1 ∷ [])

abbrev pub address_question : Question
address_question = record { owner = host; rtype = 1; class = 1 }

-- a plain ask for the NS records of a name, at the top
abbrev pub plain : Labels → HeardValue → AskedValue
plain name reply = record {
  depth = 0;
  judged = false;
  query = ns_question 1 name;
  reply = reply;
  sets = [];
  ending = Seen;
  excuse = [];
}

abbrev pub no_records : HeardValue
no_records = reply_of [] []

-- the host has no NS records, and the zone has
abbrev pub host_seen : AskedValue
host_seen = plain host no_records

abbrev pub zone_ns : List Rr
zone_ns = record_of zone 2 name_a ∷ []

abbrev pub zone_seen : AskedValue
zone_seen = plain zone (reply_of zone_ns [])

-- no reply came for the NS records of the host
abbrev pub host_fault : AskedValue
host_fault = record (plain host Fault) { ending = Failed }

-- the DS set of the zone, of one record that isn't supported, after its ask
abbrev pub ds_unsupported : List AskRef → AskedValue
ds_unsupported asked = record (ds_by_root (other_algorithm ∷ [])) { sets = zone_entry 43 Secure (Some 0) asked ∷ [] }

abbrev pub host_entry : Proof → Option ℕ → List AskRef → JudgedSetValue
host_entry mark sig asked = record (answer_entry 1 mark sig asked) { owner = host }

-- the address of the host came without a signature, and got this mark after these asks
abbrev pub unsigned_step : Proof → List AskRef → AskedValue
unsigned_step mark asked = step_of 0 address_question (reply_of (address ∷ []) []) (host_entry mark None asked ∷ []) (Answered denial.None)

-- two plain asks, the root's keys, the DS set that asks for them, and what follows
abbrev pub searched : AskedValue → AskedValue → AskedValue → List AskedValue
searched first second last = first ∷ second ∷ root_keys ∷ ds_unsupported (Step 2 ∷ []) ∷ last ∷ []

abbrev pub whole_search : List AskRef
whole_search = Step 0 ∷ Step 1 ∷ Step 3 ∷ []

-- ---- an unsigned set whose zone is found

-- the plain asks in order, from the host on, and the DS ask last
pub insecure_by_the_search : derivation by_root (within 26) []
    (searched host_seen zone_seen (unsigned_step Insecure whole_search)) ≡ true
unfolding computed
insecure_by_the_search = refl

pub bogus_though_searched : derivation by_root (within 26) []
    (searched host_seen zone_seen (unsigned_step Bogus whole_search)) ≡ false
unfolding computed
bogus_though_searched = refl

pub secure_though_unsigned : derivation by_root (within 26) []
    (searched host_seen zone_seen (unsigned_step Secure whole_search)) ≡ false
unfolding computed
secure_though_unsigned = refl

pub asked_in_another_order :
    derivation by_root (within 26) []
    (searched zone_seen host_seen (unsigned_step Insecure (Step 1 ∷ Step 0 ∷ Step 3 ∷ []))) ≡ false
unfolding computed
asked_in_another_order = refl

pub begun_at_the_zone : derivation by_root (within 26) []
    (searched zone_seen host_seen (unsigned_step Insecure whole_search)) ≡ false
unfolding computed
begun_at_the_zone = refl

-- every unsigned set Insecure
pub insecure_without_a_search : derivation by_root (within 26) [] (unsigned_step Insecure [] ∷ []) ≡ false
unfolding computed
insecure_without_a_search = refl

pub bogus_without_a_search : derivation by_root (within 26) [] (unsigned_step Bogus [] ∷ []) ≡ false
unfolding computed
bogus_without_a_search = refl

-- 1,024 steps come before an ask that is one too many
pub left_out_as_too_many : derivation by_root (within 26) [] (unsigned_step Bogus (TooMany ∷ []) ∷ []) ≡ false
unfolding computed
left_out_as_too_many = refl

-- ---- NS records, wherever they stand and of whatever class

abbrev pub beside : List Rr → HeardValue
beside records = Records (record { code = 0; answers = []; authorities = records; additionals = [] }) false

pub seen_in_the_authority_section :
    derivation by_root (within 26) []
    (searched host_seen (plain zone (beside zone_ns)) (unsigned_step Insecure whole_search)) ≡ true
unfolding computed
seen_in_the_authority_section = refl

pub seen_of_another_class :
    derivation by_root (within 26) []
    (searched host_seen (plain zone (reply_of [] (record (record_of zone 2 name_a) { class = 3 } ∷ [])))
    (unsigned_step Insecure whole_search))
    ≡ true
unfolding computed
seen_of_another_class = refl

-- those of another name don't count
pub passed_by_the_parents :
    derivation by_root (within 26) []
    (searched (plain host (beside zone_ns)) zone_seen (unsigned_step Insecure whole_search)) ≡ true
unfolding computed
passed_by_the_parents = refl

-- nor do those beside the word that there are no records
abbrev pub said_empty : HeardValue
said_empty = Records (record { code = 0; answers = []; authorities = record_of host 2 name_a ∷ []; additionals = [] }) true

pub passed_where_none_are_said :
    derivation by_root (within 26) []
    (searched (plain host said_empty) zone_seen (unsigned_step Insecure whole_search)) ≡ true
unfolding computed
passed_where_none_are_said = refl

-- ---- a search that stops, or goes on

pub stops_without_ns : derivation by_root (within 26) [] (host_seen ∷ unsigned_step Bogus (Step 0 ∷ []) ∷ []) ≡ false
unfolding computed
stops_without_ns = refl

pub ds_asked_without_ns :
    derivation by_root (within 26) []
    (host_seen ∷ plain zone no_records ∷ root_keys ∷ ds_unsupported (Step 2 ∷ []) ∷ unsigned_step Insecure whole_search ∷ []) ≡ false
unfolding computed
ds_asked_without_ns = refl

pub goes_on_where_ns_are :
    derivation by_root (within 26) []
    (plain host (reply_of (record_of host 2 name_a ∷ []) []) ∷ zone_seen ∷ root_keys ∷ ds_unsupported
    (Step 2 ∷ []) ∷ unsigned_step Insecure whole_search ∷ [])
    ≡ false
unfolding computed
goes_on_where_ns_are = refl

-- at the root nothing is asked
pub bogus_at_the_root : derivation by_root (within 26) []
    (host_seen ∷ plain zone no_records ∷ unsigned_step Bogus (Step 0 ∷ Step 1 ∷ []) ∷ []) ≡ true
unfolding computed
bogus_at_the_root = refl

pub insecure_at_the_root : derivation by_root (within 26) []
    (host_seen ∷ plain zone no_records ∷ unsigned_step Insecure (Step 0 ∷ Step 1 ∷ []) ∷ []) ≡ false
unfolding computed
insecure_at_the_root = refl

pub root_asked :
    derivation by_root (within 26) []
    (host_seen ∷ plain zone no_records ∷ plain [] no_records ∷ unsigned_step Bogus (Step 0 ∷ Step 1 ∷ Step 2 ∷ []) ∷ []) ≡ false
unfolding computed
root_asked = refl

-- a fault ends it
pub bogus_after_a_fault : derivation by_root (within 26) [] (host_fault ∷ unsigned_step Bogus (Step 0 ∷ []) ∷ []) ≡ true
unfolding computed
bogus_after_a_fault = refl

pub insecure_after_a_fault : derivation by_root (within 26) []
    (host_fault ∷ unsigned_step Insecure (Step 0 ∷ []) ∷ []) ≡ false
unfolding computed
insecure_after_a_fault = refl

pub goes_on_after_a_fault : derivation by_root (within 26) []
    (searched host_fault zone_seen (unsigned_step Insecure whole_search)) ≡ false
unfolding computed
goes_on_after_a_fault = refl

pub bogus_long_after_a_fault :
    derivation by_root (within 26) []
    (host_fault ∷ plain zone no_records ∷ unsigned_step Bogus (Step 0 ∷ Step 1 ∷ []) ∷ []) ≡ false
unfolding computed
bogus_long_after_a_fault = refl

-- ---- how a plain ask is made

pub plain_ask_judged :
    derivation by_root (within 26) []
    (searched (record host_seen { judged = true; ending = Failed }) zone_seen (unsigned_step Insecure whole_search)) ≡ false
unfolding computed
plain_ask_judged = refl

pub plain_ask_deeper :
    derivation by_root (within 26) []
    (searched (record host_seen { depth = 1 }) zone_seen (unsigned_step Insecure whole_search)) ≡ false
unfolding computed
plain_ask_deeper = refl

pub plain_ask_of_another_type :
    derivation by_root (within 26) []
    (searched (record host_seen { query = ds_question 1 host }) zone_seen (unsigned_step Insecure whole_search)) ≡ false
unfolding computed
plain_ask_of_another_type = refl

pub plain_ask_of_another_class :
    derivation by_root (within 26) []
    (searched (record host_seen { query = ns_question 3 host }) zone_seen (unsigned_step Insecure whole_search)) ≡ false
unfolding computed
plain_ask_of_another_class = refl

pub ds_asked_without_judging :
    derivation by_root (within 26) []
    (host_seen ∷ zone_seen ∷ record (plain zone no_records) { depth = 1; query = ds_question 1 zone } ∷ unsigned_step Bogus
    (Step 0 ∷ Step 1 ∷ Step 2 ∷ [])
    ∷ []) ≡ false
unfolding computed
ds_asked_without_judging = refl

-- it is no deeper than its step, so that it never is too deep; the ask for the DS set may be
pub ds_too_deep : derivation by_root (within 0) []
    (host_seen ∷ zone_seen ∷ unsigned_step Bogus (Step 0 ∷ Step 1 ∷ TooDeep ∷ []) ∷ []) ≡ true
unfolding computed
ds_too_deep = refl

pub plain_ask_too_deep : derivation by_root (within 0) [] (unsigned_step Bogus (TooDeep ∷ []) ∷ []) ≡ false
unfolding computed
plain_ask_too_deep = refl

-- ---- where a search begins

-- the zone's NS records, the root's keys, the DS set that asks for them, and what follows
abbrev pub searched_above : AskedValue → List AskedValue
searched_above last = zone_seen ∷ root_keys ∷ ds_unsupported (Step 1 ∷ []) ∷ last ∷ []

-- a set of one record at the host, and its mark after these asks
abbrev pub one_step : ℕ → Proof → List AskRef → AskedValue
one_step rtype mark asked =
    step_of 0 (record address_question { rtype = rtype }) (reply_of (record_of host rtype (192 ∷ 0 ∷ 2 ∷ 1 ∷ []) ∷ []) [])
    (record (host_entry mark None asked) { rtype = rtype } ∷ []) (Answered denial.None)

-- an NSEC3 stands right below its zone
pub nsec3_from_its_parent : derivation by_root (within 26) []
    (searched_above (one_step 50 Insecure (Step 0 ∷ Step 2 ∷ []))) ≡ true
unfolding computed
nsec3_from_its_parent = refl

pub nsec3_from_its_owner :
    derivation by_root (within 26) []
    (host_seen ∷ zone_seen ∷ root_keys ∷ ds_unsupported (Step 2 ∷ []) ∷ one_step 50 Insecure whole_search ∷ []) ≡ false
unfolding computed
nsec3_from_its_owner = refl

pub text_from_its_parent : derivation by_root (within 26) []
    (searched_above (one_step 16 Insecure (Step 0 ∷ Step 2 ∷ []))) ≡ false
unfolding computed
text_from_its_parent = refl

-- no zone excuses an unsigned DS set
pub unsigned_ds : derivation by_root (within 26) [] (one_step 43 Bogus [] ∷ []) ≡ true
unfolding computed
unsigned_ds = refl

pub unsigned_ds_from_its_owner : derivation by_root (within 26) []
    (searched host_seen zone_seen (one_step 43 Insecure whole_search)) ≡ false
unfolding computed
unsigned_ds_from_its_owner = refl

pub unsigned_ds_from_its_parent : derivation by_root (within 26) []
    (searched_above (one_step 43 Insecure (Step 0 ∷ Step 2 ∷ []))) ≡ false
unfolding computed
unsigned_ds_from_its_parent = refl

-- ---- a cut whose DS ask is answered by an alias, beside an SOA of the zone above it

abbrev pub soa_entry : Proof → List AskRef → JudgedSetValue
soa_entry mark asked = record (zone_entry 6 mark None asked) { section = Authority }

-- of these sets the alias isn't judged below the top; the SOA has no signature, and its zone is searched, one deeper than the top
abbrev pub alias_step : Proof → AskedValue
alias_step mark =
    step_of 1 (ds_question 1 host)
    (Records (record { code = 0; answers = record_of host 5 name_a ∷ []; authorities = record_of zone 6 [] ∷ []; additionals = [] }) false)
    (soa_entry mark (Step 1 ∷ Step 3 ∷ []) ∷ []) (Answered denial.None)

abbrev pub below_an_alias : Proof → Proof → List AskedValue
below_an_alias soa mark =
    plain host (beside (record_of host 2 name_a ∷ [])) ∷ record zone_seen { depth = 1 } ∷ record keys_found { depth = 3 }
    ∷ record (ds_unsupported (Step 2 ∷ [])) { depth = 2 } ∷ alias_step soa ∷ unsigned_step mark (Step 0 ∷ Step 4 ∷ []) ∷ []

pub insecure_beside_an_insecure_set : derivation by_root (within 26) [] (below_an_alias Insecure Insecure) ≡ true
unfolding computed
insecure_beside_an_insecure_set = refl

pub bogus_beside_an_insecure_set : derivation by_root (within 26) [] (below_an_alias Insecure Bogus) ≡ false
unfolding computed
bogus_beside_an_insecure_set = refl

pub insecure_beside_a_bogus_set : derivation by_root (within 26) [] (below_an_alias Bogus Insecure) ≡ false
unfolding computed
insecure_beside_a_bogus_set = refl
