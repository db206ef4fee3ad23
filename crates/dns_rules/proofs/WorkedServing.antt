-- Trails with kept entries on worked rows: the root's NS set, which an earlier lookup found Secure or Bogus, and the chain that was kept of it.
use Rattle.std.proofs.Common.{◌≡◌, ℕ, Bool, true, false, List, [], ◌∷◌, Option, None, Some, refl}
use Rattle.std.specs.Prelude.{Ok, Err}
use Rattle.dns_model.specs.declared.proof.Proof.{Proof}
use Rattle.dns_model.specs.declared.proof.Proof.TheVariants.{Secure, Insecure, Bogus}
use Rattle.dns_model.specs.declared.section.Section.TheVariants.{Answer}
use Rattle.dns_model.specs.declared.denial.Denial.TheVariants as denial
use Rattle.dns_model.specs.declared.trail.AskRef.{AskRef}
use Rattle.dns_model.specs.declared.trail.AskRef.TheVariants.{Step}
use Rattle.dns_model.specs.declared.trail.MarkOrigin.TheVariants.{Cache}
use Rattle.dns_model.specs.Chains.{LinkValue, Anchored, KeySet, Judge, judge, all_shown, link_holds, links_hold, last_link}
use Rattle.dns_model.specs.Names.{Labels}
use Rattle.dns_model.specs.Records.{RrSet, Question}
use Rattle.dns_model.specs.SoundAnswers.{in_section}
use Rattle.dns_model.specs.Trails.{AskedValue, Answered}
use Rattle.dns_model.proofs.Worked.{key, signature, name_a, anchors, chain_by}
use Rattle.dns_rules.specs.ProofErrors.{RrsigsUnverified}
use Rattle.dns_rules.specs.CacheKeys.{key_of}
use Rattle.dns_rules.specs.CacheEntries.{EntryValue, Found, live}
use Rattle.dns_rules.specs.Serving.{may_serve}
use Rattle.dns_rules.specs.Derivation.{derivation}
use Rattle.dns_rules.proofs.WorkedTrails.{computed}
use Rattle.dns_rules.proofs.WorkedTrailValues.{verifier, root_judge, keys_question, ns_question, ns_records, record_of, reply_of, answer_entry, ns_step, keys_judged, keys_found, within}

-- ---- what was kept

-- the NS set with its signature
abbrev pub ns_set : RrSet
ns_set = record {
  owner = [];
  rtype = 2;
  class = 1;
  records = record_of [] 2 name_a ∷ [];
  signatures = record_of [] 46 signature ∷ [];
}

-- its chain: the anchored key, the key set, and the NS set by that key
abbrev pub key_links : List LinkValue
key_links = Anchored [] 1 key ∷ KeySet [] 1 (key ∷ []) (0 ∷ []) ∷ []

abbrev pub ns_links : List LinkValue
ns_links = chain_by key

abbrev pub secure_by : Option ℕ → Found
secure_by sig = Ok (record { proof = Secure; adjusted_ttl = Some 1000; rrsig_index = sig })

-- an entry of that set in the answer to a question, with this chain, until 2000
abbrev pub kept : Question → Found → List LinkValue → EntryValue
kept q found links =
    record { key = key_of q ns_set; expires = 2000; found = found; chain = Some (record { section = Answer; links = links }) }

-- it was found Bogus
abbrev pub kept_bogus : EntryValue
kept_bogus =
    record {
      key = key_of ns_question ns_set;
      expires = 2000;
      found = Err (record { proof = Bogus; kind = RrsigsUnverified [] 2 });
      chain = None;
    }

abbrev pub kept_secure : EntryValue
kept_secure = kept ns_question (secure_by (Some 0)) ns_links

-- ---- the trail of a lookup that is served

-- the NS set has this mark by this signature, out of the cache
abbrev pub served : Proof → Option ℕ → List AskRef → AskedValue
served mark sig asked =
    ns_step (reply_of ns_records []) (record (answer_entry 2 mark sig asked) { origin = Cache } ∷ []) (Answered denial.None)

-- what was kept makes one step a trail that is a derivation
abbrev pub serve : Judge → List EntryValue → AskedValue → Bool
serve j kept step = derivation j (within 26) kept (step ∷ [])

pub one_step_and_no_ask : serve root_judge (kept_secure ∷ []) (served Secure (Some 0) []) ≡ true
unfolding computed links_hold link_holds all_shown last_link
one_step_and_no_ask = refl

pub among_others : serve root_judge (kept_bogus ∷ kept_secure ∷ []) (served Secure (Some 0) []) ≡ true
unfolding computed links_hold link_holds all_shown last_link
among_others = refl

pub nothing_kept : serve root_judge [] (served Secure (Some 0) []) ≡ false
unfolding computed
nothing_kept = refl

pub asks_though_served :
    derivation root_judge (within 26) (kept_secure ∷ []) (keys_found ∷ served Secure (Some 0) (Step 0 ∷ []) ∷ []) ≡ false
unfolding computed links_hold link_holds all_shown last_link
asks_though_served = refl

-- ---- a Secure one is judged anew

pub after_the_signature_ended : serve (judge verifier anchors 2001) (kept_secure ∷ [])
    (served Secure (Some 0) []) ≡ false
unfolding computed links_hold link_holds all_shown last_link
after_the_signature_ended = refl

pub under_no_anchors : serve (judge verifier [] 1000) (kept_secure ∷ []) (served Secure (Some 0) []) ≡ false
unfolding computed links_hold link_holds all_shown last_link
under_no_anchors = refl

pub by_the_chain_of_another_set : serve root_judge (kept ns_question (secure_by (Some 0)) key_links ∷ [])
    (served Secure (Some 0) []) ≡ false
unfolding computed links_hold link_holds all_shown last_link
by_the_chain_of_another_set = refl

pub by_no_signature_of_its_link : serve root_judge (kept ns_question (secure_by None) ns_links ∷ [])
    (served Secure None []) ≡ false
unfolding computed links_hold link_holds all_shown last_link
by_no_signature_of_its_link = refl

pub of_another_question : serve root_judge (kept keys_question (secure_by (Some 0)) ns_links ∷ [])
    (served Secure (Some 0) []) ≡ false
unfolding computed links_hold link_holds all_shown last_link
of_another_question = refl

pub by_another_place : serve root_judge (kept_secure ∷ []) (served Secure (Some 1) []) ≡ false
unfolding computed links_hold link_holds all_shown last_link
by_another_place = refl

-- ---- a key set that no signature decided

abbrev pub keys_set : RrSet
keys_set = record { owner = []; rtype = 48; class = 1; records = record_of [] 48 key ∷ []; signatures = [] }

-- found Secure by this place
abbrev pub kept_keys : Option ℕ → EntryValue
kept_keys place = record {
  key = key_of keys_question keys_set;
  expires = 2000;
  found = secure_by place;
  chain = Some (record { section = Answer; links = key_links });
}

abbrev pub served_keys : Option ℕ → AskedValue
served_keys place =
    record (keys_judged (record (answer_entry 48 Secure place []) { origin = Cache } ∷ [])) { depth = 0 }

pub by_an_anchored_key : serve root_judge (kept_keys None ∷ []) (served_keys None) ≡ true
unfolding computed links_hold link_holds all_shown last_link
by_an_anchored_key = refl

-- it has no signature at the place that is named
pub by_a_place_without_a_signature : serve root_judge (kept_keys (Some 7) ∷ []) (served_keys (Some 7)) ≡ false
unfolding computed links_hold link_holds all_shown last_link
by_a_place_without_a_signature = refl

-- ---- the case of letters: that of the question tells nothing apart, that of an owner does

abbrev pub address_question : Labels → Question
address_question owner = record { owner = owner; rtype = 1; class = 1 }

abbrev pub address_set : Labels → RrSet
address_set owner =
    record { owner = owner; rtype = 1; class = 1; records = record_of owner 1 (192 ∷ 0 ∷ 2 ∷ 1 ∷ []) ∷ []; signatures = [] }

-- the address of `a.` was kept, which `a.` was asked for
abbrev pub kept_address : EntryValue
kept_address = record {
  key = key_of (address_question ((97 ∷ []) ∷ [])) (address_set ((97 ∷ []) ∷ []));
  expires = 2000;
  found = Err (record { proof = Bogus; kind = RrsigsUnverified ((97 ∷ []) ∷ []) 1 });
  chain = None;
}

pub asked_in_another_case :
    may_serve root_judge (address_question ((65 ∷ []) ∷ [])) (in_section Answer (address_set ((97 ∷ []) ∷ []))) kept_address ≡ true
asked_in_another_case = refl

pub owned_in_another_case :
    may_serve root_judge (address_question ((97 ∷ []) ∷ [])) (in_section Answer (address_set ((65 ∷ []) ∷ []))) kept_address ≡ false
owned_in_another_case = refl

-- ---- another mark is served as it was kept

pub as_it_was_found : serve (judge verifier [] 2001) (kept_bogus ∷ []) (served Bogus None []) ≡ true
unfolding computed links_hold link_holds all_shown last_link
as_it_was_found = refl

pub another_mark : serve root_judge (kept_bogus ∷ []) (served Insecure None []) ≡ false
unfolding computed links_hold link_holds all_shown last_link
another_mark = refl

-- Insecure by its first signature, without a chain
abbrev pub kept_insecure : EntryValue
kept_insecure = record {
  key = key_of ns_question ns_set;
  expires = 2000;
  found = Ok (record { proof = Insecure; adjusted_ttl = None; rrsig_index = Some 0 });
  chain = None;
}

pub insecure_by_a_signature : serve root_judge (kept_insecure ∷ []) (served Insecure (Some 0) []) ≡ true
unfolding computed links_hold link_holds all_shown last_link
insecure_by_a_signature = refl

-- ---- until it expires

pub until_its_time_is_up : live 1999 (kept_bogus ∷ []) ≡ kept_bogus ∷ []
until_its_time_is_up = refl

pub at_its_end : live 2000 (kept_bogus ∷ []) ≡ []
at_its_end = refl
