-- Entries that a verifier accepts, through what the calls on a cache's list leave and give.
use Rattle.std.proofs.Common.{◌≡◌, ◌⊎◌, inl, inr, ℕ, zero, suc, ◌≤◌, Bool, true, false, cond, ◌&&◌, List, [], ◌∷◌, length, take, Option, None, Some, Result, Ok, Err, refl, sym, ap, ◌∙◌, subst, arith}
use Rattle.std.specs.Prelude.{not, ◌||◌}
use Rattle.std.specs.List.{filter, find, list_all}
use Rattle.std.specs.Option.{option_map_or}
use Rattle.std.proofs.lemmas.Bool.{and_from, and_parts}
use Rattle.dns_model.specs.Keys.{VerifierAnswers}
use Rattle.dns_model.specs.Chains.{LinkValue, accepted_alone, judge_alone}
use Rattle.dns_model.specs.SoundAnswers.{ChainValue, is_secure}
use Rattle.dns_rules.specs.CacheKeys.{CacheKeyValue}
use Rattle.dns_rules.specs.CacheEntries.{EntryValue, mark_of}
use Rattle.dns_cache.specs.CacheLists.{CacheList, IsCacheList, after_get, after_insert, has_key, hit, is_hit, without}
use Rattle.dns_cache.specs.Caches.{HasAccepted, LeftByGet, LeftByInsert}
use Rattle.dns_chain_check.proofs.MoreTrust.{justified-more}
use Rattle.dns_evidence.specs.Verifiers.{AnswerAlike}
use Rattle.dns_shared_cache.specs.Shelves.{LeftByOffer, are_accepted, is_accepted}

-- ---- where all elements of a list pass a test

pub all-take : {X : Type 0} (p : X → Bool) (n : ℕ) (xs : List X) → list_all p xs ≡ true → list_all p (take n xs) ≡ true
all-take p zero xs h = refl
all-take p (suc n) [] h = refl
all-take p (suc n) (x ∷ xs) h =
    let parts = and_parts (p x) (list_all p xs) h in
    and_from (p x) (list_all p (take n xs)) parts.0 (all-take p n xs parts.1)

pub all-filter : {X : Type 0} (p q : X → Bool) (xs : List X) → list_all p xs ≡ true → list_all p (filter q xs) ≡ true
all-filter p q [] h = refl
all-filter p q (x ∷ xs) h =
    let parts = and_parts (p x) (list_all p xs) h in
    let rest = all-filter p q xs parts.1 in
    (elim (q x) as (λ b. q x ≡ b → list_all p (filter q (x ∷ xs)) ≡ true) [
      | true ↦ λ t. rw t (and_from (p x) (list_all p (filter q xs)) parts.0 rest)
      | false ↦ λ t. rw t rest
    ]) refl

-- what is found passes it
pub all-find : {X : Type 0} (p q : X → Bool) (xs : List X) (y : X) → list_all p xs ≡ true → find q xs ≡ Some y
    → p y ≡ true
all-find p q [] y h found = cc
all-find p q (x ∷ xs) y h found =
    let parts = and_parts (p x) (list_all p xs) h in
    (elim (q x) as (λ b. q x ≡ b → p y ≡ true) [
      | true ↦ λ t. let at = rw t at found in let same : x ≡ y = cc in subst (λ z. p z ≡ true) same parts.0
      | false ↦ λ t. all-find p q xs y parts.1 (rw t at found)
    ]) refl

-- ---- accepted entries

-- each entry of a list is accepted
abbrev pub AreAccepted : VerifierAnswers → CacheList → Type 0
AreAccepted answers list = are_accepted answers list.entries ≡ true

-- a hit is one of them
pub hit_accepted : (answers : VerifierAnswers) (key : CacheKeyValue) (now : ℕ) (list : CacheList) (e : EntryValue)
    → AreAccepted answers list → hit key now list ≡ Some e → is_accepted answers e ≡ true
hit_accepted answers key now list e each found =
    all-find (is_accepted answers) (is_hit key now) list.entries e each found

front_accepted : (answers : VerifierAnswers) (e : EntryValue) (key : CacheKeyValue) (entries : List EntryValue)
    → are_accepted answers entries ≡ true → is_accepted answers e ≡ true
    → are_accepted answers (e ∷ without key entries) ≡ true
front_accepted answers e key entries each here =
    and_from (is_accepted answers e) (are_accepted answers (without key entries)) here
    (all-filter (is_accepted answers) (λ f. not (has_key key f)) entries each)

-- a get moves them
got_accepted : (answers : VerifierAnswers) (key : CacheKeyValue) (now : ℕ) (list : CacheList)
    → AreAccepted answers list → AreAccepted answers (after_get key now list)
got_accepted answers key now list each =
    (elim (hit key now list) as (λ o. hit key now list ≡ o → AreAccepted answers (after_get key now list)) [
      | None ↦ λ h. rw h each
      | Some e ↦ λ h. rw h (front_accepted answers e key list.entries each
          (hit_accepted answers key now list e each h))
    ]) refl

-- an insert of an accepted entry leaves such entries
inserted_accepted : (answers : VerifierAnswers) (e : EntryValue) (list : CacheList)
    → AreAccepted answers list → is_accepted answers e ≡ true → AreAccepted answers (after_insert e list)
inserted_accepted answers e list each here =
    all-take (is_accepted answers) list.capacity (e ∷ without e.key list.entries)
    (front_accepted answers e e.key list.entries each here)

-- where there is room for none, there are none
nowhere_accepted : (answers : VerifierAnswers) (e : EntryValue) (list : CacheList) → list.capacity ≡ 0
    → AreAccepted answers (after_insert e list)
nowhere_accepted answers e list none =
    subst (λ (n : ℕ). list_all (is_accepted answers) (take n (e ∷ without e.key list.entries)) ≡ true)
    (sym none) refl

nothing_in : (entries : List EntryValue) (n : ℕ) → length entries ≤ n → n ≡ 0 → [] ≡ entries
nothing_in [] n fits none = refl
nothing_in (e ∷ entries) n fits none = absurd (omega arith)

-- and an insert leaves them as they are
nowhere_inserted : (e : EntryValue) (list : CacheList) → IsCacheList list → list.capacity ≡ 0
    → after_insert e list ≡ list
nowhere_inserted e list is none =
    ap (λ (es : List EntryValue). record list { entries = es })
    (ap (λ (n : ℕ). take n (e ∷ without e.key list.entries)) none
    ∙ nothing_in list.entries list.capacity is.fits none)

-- ---- what the calls of a cache that tells its list leave

the_list : (a b : CacheList) → Some a ≡ Some b → a ≡ b
the_list a b same = cc

replaced : (answers : VerifierAnswers) (after list : CacheList) → Some after ≡ Some list → AreAccepted answers list
    → AreAccepted answers after
replaced answers after list same each = subst (AreAccepted answers) (sym (the_list after list same)) each

-- a get leaves accepted entries
pub left-get_accepted : {E : Type 0} (answers : VerifierAnswers) (key : CacheKeyValue) (now : ℕ)
    (before after : CacheList) (given : Result (Option EntryValue) E)
    → LeftByGet key now (Some before) (Some after) given
    → AreAccepted answers before → AreAccepted answers after
left-get_accepted answers key now before after (Ok found) left each =
    replaced answers after (after_get key now before) left (got_accepted answers key now before each)
left-get_accepted answers key now before after (Err e) (inl same) each = replaced answers after before same each
left-get_accepted answers key now before after (Err e) (inr moved) each =
    replaced answers after (after_get key now before) moved (got_accepted answers key now before each)

-- an entry may be put in: it is accepted, or there is room for none
abbrev pub MayPut : VerifierAnswers → EntryValue → CacheList → Type 0
MayPut answers e list = (list.capacity ≡ 0) ⊎ (is_accepted answers e ≡ true)

-- then an insert leaves accepted entries
pub left-insert_accepted : {X E : Type 0} (answers : VerifierAnswers) (e : EntryValue) (before after : CacheList)
    (done : Result X E) → LeftByInsert e (Some before) (Some after) done → MayPut answers e before
    → AreAccepted answers before → AreAccepted answers after
left-insert_accepted answers e before after (Ok d) left (inl none) each =
    replaced answers after (after_insert e before) left (nowhere_accepted answers e before none)
left-insert_accepted answers e before after (Ok d) left (inr here) each =
    replaced answers after (after_insert e before) left (inserted_accepted answers e before each here)
left-insert_accepted answers e before after (Err x) left may each = replaced answers after before left each

offered : (e : EntryValue) (list : CacheList) (accepted : Bool) → IsCacheList list
    → (list.capacity ≡ 0) ⊎ (accepted ≡ true) → after_insert e list ≡ cond accepted (after_insert e list) list
offered e list true is may = refl
offered e list false is (inl none) = nowhere_inserted e list is none
offered e list false is (inr never) = cc

-- and what an offer leaves
pub left-insert_offered : {X E : Type 0} (answers : VerifierAnswers) (e : EntryValue) (before after : CacheList)
    (done : Result X E) → LeftByInsert e (Some before) (Some after) done → MayPut answers e before
    → IsCacheList before → LeftByOffer answers e before after done
left-insert_offered answers e before after (Ok d) left may is =
    the_list after (after_insert e before) left ∙ offered e before (is_accepted answers e) is may
left-insert_offered answers e before after (Err x) left may is = the_list after before left

-- ---- whose acceptance

-- a chain that a verifier accepts is accepted by one that answers alike
accepted_alike : (one other : VerifierAnswers) (chain : List LinkValue) → AnswerAlike one other
    → accepted_alone one chain ≡ true → accepted_alone other chain ≡ true
accepted_alike one other chain alike held =
    justified-more (judge_alone one) (judge_alone other) (record {
      answers = record {
        supports = λ algorithm h. sym (alike.supports algorithm) ∙ h;
        accepts = λ algorithm key bytes signature h. sym (alike.accepts algorithm key bytes signature) ∙ h;
      };
      is_anchored = λ owner key h. h;
      is_timely = λ sig h. h;
    }) chain held

chain_alike : (one other : VerifierAnswers) (secure : Bool) (chain : Option ChainValue) → AnswerAlike one other
    → (not secure || option_map_or (λ c. accepted_alone one c.links) chain false) ≡ true
    → secure ≡ true → option_map_or (λ c. accepted_alone other c.links) chain false ≡ true
chain_alike one other true (Some chain) alike held is = accepted_alike one other chain.links alike held
chain_alike one other true None alike held is = held
chain_alike one other false chain alike held is = cc

-- so is an entry
pub entry_alike : (one other : VerifierAnswers) (e : EntryValue) → AnswerAlike one other
    → is_accepted one e ≡ true → HasAccepted other e
entry_alike one other e alike held = chain_alike one other (is_secure (mark_of e.found)) e.chain alike held
