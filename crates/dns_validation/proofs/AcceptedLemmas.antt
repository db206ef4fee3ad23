-- The chains that a validation remembers: the verifier accepts them.
use Rattle.std.proofs.Common.{ℕ, ◌≡◌, Bool, true, false, ◌&&◌, cond, List, [], Option, None, Some, Result, Ok, Err, OnOk, OnErr, if◌then◌else◌, refl, sym, ap, subst, ◌∙◌}
use Rattle.std.specs.BTreeMap.{BTreeMap, get, Updates}
use Rattle.std.specs.Map.{lookup}
use Rattle.std.specs.Option.{IfSome, option_map_or}
use Rattle.std.specs.Ordering.{is_eq}
use Rattle.std.proofs.lemmas.Bool.{and_parts}
use Rattle.dns_model.specs.Chains.{LinkValue, Judge, accepted_alone, ends_at, judge, justified, last_link}
use Rattle.dns_model.specs.Keys.{AnchorValue, VerifierAnswers}
use Rattle.dns_model.specs.SoundAnswers.{ChainValue, PlacedSet, is_secure}
use Rattle.dns_rules.specs.CacheEntries.{EntryValue, mark_of, sig_of}
use Rattle.dns_rules.specs.CacheKeys.{CacheKeyValue}
use Rattle.dns_rules.specs.ChainedSets.{ChainedSet, stands}
use Rattle.dns_rules.specs.MarkedSets.{MarkedSet, decider}
use Rattle.dns_rules.specs.Serving.{has_place, judged_as, links_of, names_decider, proves_set, still_holds}
use Rattle.dns_cache.specs.Caches.{HasAccepted}
use Rattle.dns_cache.specs.KeyOrder.{key_cmp}
use Rattle.dns_chain_check.proofs.Laws.{holds_alone}
use Rattle.dns_flow.specs.Causes.{found_of}
use Rattle.dns_flow.proofs.Founds.{found_mark}
use Rattle.dns_validation.specs.AcceptedChains.{AreAccepted, SameChains}
use Rattle.dns_validation.specs.Left.{IsLeft}
use Rattle.dns_validation.specs.Machine.{Terms, chain_of, entry_by}
use Rattle.dns_validation.specs.Runs.{Sent}

-- ---- which chains are known

pub none_accepted : (chains : BTreeMap CacheKeyValue ChainValue) → chains.entries ≡ [] → (answers : VerifierAnswers)
    → AreAccepted answers chains
none_accepted chains none answers = λ key.
    subst (λ es. IfSome (lookup (λ q. is_eq (key_cmp key q)) es) (λ chain. accepted_alone answers chain.links ≡ true))
    (sym none) tt

-- one more
one_accepted : (answers : VerifierAnswers) (chain : ChainValue) (b : Bool) (o : Option ChainValue)
    → accepted_alone answers chain.links ≡ true
    → IfSome o (λ c. accepted_alone answers c.links ≡ true)
    → IfSome (cond b (Some chain) o) (λ c. accepted_alone answers c.links ≡ true)
one_accepted answers chain true o here rest = here
one_accepted answers chain false o here rest = rest

pub more_accepted : (old new : BTreeMap CacheKeyValue ChainValue) (key : CacheKeyValue) (chain : ChainValue)
    → Updates key_cmp old new key (Some chain)
    → (answers : VerifierAnswers) → AreAccepted answers old → accepted_alone answers chain.links ≡ true
    → AreAccepted answers new
more_accepted old new key chain updates answers each here = λ k.
    subst (λ o. IfSome o (λ c. accepted_alone answers c.links ≡ true)) (sym (updates.0 k))
    (one_accepted answers chain (is_eq (key_cmp key k)) (get key_cmp old k) here (each k))

pub same_accepted : (old new : BTreeMap CacheKeyValue ChainValue) → SameChains old new → (answers : VerifierAnswers)
    → AreAccepted answers old → AreAccepted answers new
same_accepted old new same answers each = λ key.
    subst (λ o. IfSome o (λ c. accepted_alone answers c.links ≡ true)) (sym (same key)) (each key)

-- one more, or the same after an error
pub noted_accepted : {X E : Type 0} (r : Result X E) (old new : BTreeMap CacheKeyValue ChainValue) (key : CacheKeyValue)
    (chain : ChainValue)
    → OnOk r (Updates key_cmp old new key (Some chain)) → OnErr r (SameChains old new)
    → (answers : VerifierAnswers) → AreAccepted answers old → accepted_alone answers chain.links ≡ true
    → AreAccepted answers new
noted_accepted (Ok x) old new key chain updates same answers each here =
    more_accepted old new key chain updates answers each here
noted_accepted (Err e) old new key chain updates same answers each here = same_accepted old new same answers each

-- the chain of an entry is one of them
pub known_accepted : (chains : BTreeMap CacheKeyValue ChainValue) (e : EntryValue) (known chain : ChainValue)
    → get key_cmp chains e.key ≡ Some known → e.chain ≡ Some chain → known.links ≡ chain.links
    → (answers : VerifierAnswers) → AreAccepted answers chains → HasAccepted answers e
known_accepted chains e known chain is own same answers each = λ secure.
    let here : accepted_alone answers known.links ≡ true =
    subst (λ o. IfSome o (λ c. accepted_alone answers c.links ≡ true)) is (each e.key) in
    ap (λ o. option_map_or (λ (c : ChainValue). accepted_alone answers c.links) o false) own
    ∙ ap (accepted_alone answers) (sym same) ∙ here

-- what the verifier accepts of an entry that says Secure
pub entry_accepted : (answers : VerifierAnswers) (e : EntryValue) (chain : ChainValue) → HasAccepted answers e
    → is_secure (mark_of e.found) ≡ true → e.chain ≡ Some chain → accepted_alone answers chain.links ≡ true
entry_accepted answers e chain accepted secure own =
    sym (ap (λ o. option_map_or (λ (c : ChainValue). accepted_alone answers c.links) o false) own) ∙ accepted secure

-- ---- what was tested

proves_alone : (answers : VerifierAnswers) (anchors : List AnchorValue) (now : ℕ) (judged : MarkedSet)
    (links : List LinkValue) → proves_set (judge answers anchors now) judged links ≡ true
    → accepted_alone answers links ≡ true
proves_alone answers anchors now judged links h =
    holds_alone answers anchors now links
    ((and_parts (justified (judge answers anchors now) links)
    (ends_at links judged.set && names_decider (last_link links) (decider judged)) h).0)

chain_tested : (answers : VerifierAnswers) (anchors : List AnchorValue) (now : ℕ) (judged : MarkedSet)
    (o : Option ChainValue)
    → proves_set (judge answers anchors now) judged (links_of o) ≡ true
    → option_map_or (λ c. accepted_alone answers c.links) o false ≡ true
chain_tested answers anchors now judged None h = cc
chain_tested answers anchors now judged (Some chain) h = proves_alone answers anchors now judged chain.links h

-- an entry that holds has the chain that was put to the verifier
pub holds_accepted : (answers : VerifierAnswers) (anchors : List AnchorValue) (now : ℕ) (placed : PlacedSet)
    (e : EntryValue) → still_holds (judge answers anchors now) placed e ≡ true → HasAccepted answers e
holds_accepted answers anchors now placed e holds = λ secure.
    let j = judge answers anchors now in
    let place = has_place placed.set (sig_of e.found) in
    let proves = proves_set j (judged_as placed e.found) (links_of e.chain) in
    chain_tested answers anchors now (judged_as placed e.found) e.chain
    ((and_parts place proves (sym (ap (λ b. if b then place && proves else true) secure) ∙ holds)).1)

-- ---- what was judged

chain_judged : (answers : VerifierAnswers) (anchors : List AnchorValue) (now : ℕ) (c : ChainedSet) (b : Bool) → b ≡ true
    → (if b then proves_set (judge answers anchors now) c.judged c.chain else true) ≡ true
    → option_map_or (λ chain. accepted_alone answers chain.links)
    (if b then Some (let x : ChainValue = record { section = c.judged.section; links = c.chain } in x) else None)
    false ≡ true
chain_judged answers anchors now c true is stand = proves_alone answers anchors now c.judged c.chain stand
chain_judged answers anchors now c false is stand = cc

-- an entry that is given out to be kept has a chain that the verifier accepts
pub left_accepted : (answers : VerifierAnswers) (anchors : List AnchorValue) (now : ℕ) (t : Terms) (sends : List Sent)
    (e : EntryValue)
    → t.judge ≡ judge answers anchors now → IsLeft t sends e → HasAccepted answers e
left_accepted answers anchors now t sends e by h =
    subst (HasAccepted answers) (sym h.is)
    (λ secure. chain_judged answers anchors now h.set (is_secure h.set.judged.mark)
    (sym (ap is_secure (found_mark t.now h.set.judged h.cause)) ∙ secure)
    (subst (λ j. stands j h.set ≡ true) by h.stand))
