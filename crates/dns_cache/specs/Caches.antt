-- What the calls of a cache give and leave: by the list of its entries, where it tells them, and by how often it was hit.
use Rattle.std.specs.Prelude.{ℕ, ◌≡◌, ◌≢◌, ◌⊎◌, true, false, Option, Some, Result, Ok, Err, IfOk, IfSome}
use Rattle.std.specs.Option.{option_map, option_map_or}
use Rattle.dns_model.specs.Counts.{one_more}
use Rattle.dns_model.specs.Keys.{VerifierAnswers}
use Rattle.dns_model.specs.Chains.{accepted_alone}
use Rattle.dns_model.specs.SoundAnswers.{is_secure}
use Rattle.dns_rules.specs.CacheKeys.{CacheKeyValue}
use Rattle.dns_rules.specs.CacheEntries.{EntryValue, mark_of}
use Rattle.dns_cache.specs.CacheLists.{CacheList, after_get, after_insert, hit, is_hit}
use Rattle.dns_cache.specs.declared.acceptance.Acceptance.{Acceptance}
use Rattle.dns_cache.specs.declared.acceptance.Acceptance.TheVariants.{Kept, Unknown, Other}

-- an entry that is given is the key's, and its time isn't up
abbrev pub GivesHit : {E : Type 0} → CacheKeyValue → ℕ → Result (Option EntryValue) E → Type 0
GivesHit key now given = IfOk given (λ found. IfSome found (λ e. is_hit key now e ≡ true))

-- it is that of the list, and none exactly where the list has none
abbrev pub GivesHitOf : {E : Type 0} → Option CacheList → CacheKeyValue → ℕ → Result (Option EntryValue) E → Type 0
GivesHitOf told key now given = IfSome told (λ list. IfOk given (λ found. found ≡ hit key now list))

-- what a get leaves; one that is refused may have moved the hit, and no more
abbrev pub LeftByGet : {E : Type 0} → CacheKeyValue → ℕ → Option CacheList → Option CacheList → Result (Option EntryValue) E → Type 0
LeftByGet key now before after (Ok found) = after ≡ option_map (after_get key now) before
LeftByGet key now before after (Err e) = (after ≡ before) ⊎ (after ≡ option_map (after_get key now) before)

-- what an insert leaves; one that is refused changes nothing
abbrev pub LeftByInsert : {X E : Type 0} → EntryValue → Option CacheList → Option CacheList → Result X E → Type 0
LeftByInsert entry before after (Ok done) = after ≡ option_map (after_insert entry) before
LeftByInsert entry before after (Err e) = after ≡ before

-- one more hit exactly where an entry is given
abbrev pub hits_after : {E : Type 0} → ℕ → Result (Option EntryValue) E → ℕ
hits_after hits (Ok (Some entry)) = one_more hits
hits_after hits _ = hits

-- ---- whose acceptance the chain of an entry has

abbrev pub GivenWith : Type 0
GivenWith = Option (EntryValue × Acceptance)

-- the entry alone
abbrev pub entry_given : {E : Type 0} → Result GivenWith E → Result (Option EntryValue) E
entry_given (Ok given) = Ok (option_map (λ p. p.0) given)
entry_given (Err e) = Err e

-- a verifier accepts the chain of a Secure entry by itself
abbrev pub HasAccepted : VerifierAnswers → EntryValue → Type 0
HasAccepted answers entry =
    is_secure (mark_of entry.found) ≡ true → option_map_or (λ chain. accepted_alone answers chain.links) entry.chain false ≡ true

-- so it is where the acceptance was kept
abbrev pub KeptIsAccepted : {E : Type 0} → VerifierAnswers → Result GivenWith E → Type 0
KeptIsAccepted answers given = IfOk given (λ found. IfSome found (λ p. p.1 ≡ Kept → HasAccepted answers p.0))

-- a cache that tells its entries has no verifier of its own
abbrev pub TellsNoOther : {E : Type 0} → Option CacheList → Result GivenWith E → Type 0
TellsNoOther told given = IfSome told (λ list. IfOk given (λ found. IfSome found (λ p. p.1 ≢ Other)))

-- nobody's acceptance is known of any entry that is given
abbrev pub AreUnknown : {E : Type 0} → Result GivenWith E → Type 0
AreUnknown given = IfOk given (λ found. IfSome found (λ p. p.1 ≡ Unknown))
