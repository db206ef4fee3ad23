-- A cache's list whose Secure entries a verifier accepts (RFC 4035, 4.5 and 5.3.3), and what the calls on it give and leave.
use Rattle.std.specs.Prelude.{ℕ, ◌≡◌, ◌≢◌, Bool, true, false, not, ◌||◌, List, Result, Ok, Err, IfOk, IfSome, if◌then◌else◌}
use Rattle.std.specs.List.{list_all}
use Rattle.std.specs.Option.{option_map_or}
use Rattle.dns_model.specs.Keys.{VerifierAnswers}
use Rattle.dns_model.specs.Chains.{accepted_alone}
use Rattle.dns_model.specs.SoundAnswers.{is_secure}
use Rattle.dns_rules.specs.CacheEntries.{EntryValue, mark_of}
use Rattle.dns_cache.specs.CacheLists.{CacheList, after_insert}
use Rattle.dns_cache.specs.Caches.{GivenWith}
use Rattle.dns_cache.specs.declared.acceptance.Acceptance.{Acceptance}
use Rattle.dns_cache.specs.declared.acceptance.Acceptance.TheVariants.{Kept, Unknown, Other}

-- of an entry that is Secure the verifier accepts the chain by itself
abbrev pub is_accepted : VerifierAnswers → EntryValue → Bool
is_accepted answers entry =
    not (is_secure (mark_of entry.found)) || option_map_or (λ chain. accepted_alone answers chain.links) entry.chain false

abbrev pub are_accepted : VerifierAnswers → List EntryValue → Bool
are_accepted answers entries = list_all (is_accepted answers) entries

-- an entry that isn't accepted changes nothing, also where its key has an entry
abbrev pub after_offer : VerifierAnswers → EntryValue → CacheList → CacheList
after_offer answers entry list = if is_accepted answers entry then after_insert entry list else list

-- what an insert leaves; one that is refused changes nothing
abbrev pub LeftByOffer : {X E : Type 0} → VerifierAnswers → EntryValue → CacheList → CacheList → Result X E → Type 0
LeftByOffer answers entry before after (Ok done) = after ≡ after_offer answers entry before
LeftByOffer answers entry before after (Err e) = after ≡ before

abbrev pub is_kept : Acceptance → Bool
is_kept Kept = true
is_kept _ = false

-- what a shelf says with an entry: whether the verifiers are the same, whatever the entry's mark
abbrev pub SaysWhose : {E : Type 0} → (Bool → Type 0) → Result GivenWith E → Type 0
SaysWhose says_same given = IfOk given (λ found. IfSome found (λ p. (p.1 ≢ Unknown) × says_same (is_kept p.1)))
