-- For private functions of this crate only: the chains that a validation remembers, since its verifier accepts them (RFC 4035, 5.3.3).
use Rattle.std.specs.Prelude.{◌≡◌, true, IfSome}
use Rattle.std.specs.BTreeMap.{BTreeMap, get}
use Rattle.dns_model.specs.Chains.{accepted_alone}
use Rattle.dns_model.specs.Keys.{VerifierAnswers}
use Rattle.dns_model.specs.SoundAnswers.{ChainValue}
use Rattle.dns_rules.specs.CacheKeys.{CacheKeyValue}
use Rattle.dns_cache.specs.KeyOrder.{key_cmp}

-- a verifier accepts each of them by itself
abbrev pub AreAccepted : VerifierAnswers → BTreeMap CacheKeyValue ChainValue → Type 0
AreAccepted answers chains =
    (key : CacheKeyValue) → IfSome (get key_cmp chains key) (λ chain. accepted_alone answers chain.links ≡ true)

-- each key has the chain that it had
abbrev pub SameChains : BTreeMap CacheKeyValue ChainValue → BTreeMap CacheKeyValue ChainValue → Type 0
SameChains old new = (key : CacheKeyValue) → get key_cmp new key ≡ get key_cmp old key
