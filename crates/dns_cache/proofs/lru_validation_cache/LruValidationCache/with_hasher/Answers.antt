use Rattle.dns_cache.proofs.PairLemmas.{kept-none}
use Rattle.dns_cache.proofs.lru_validation_cache.LruValidationCache.with_hasher.Goals as goal

pub invariant_of-result : goal.invariant_of-result
invariant_of-result g c = kept-none _ _ c.in_ok-kept.ensures.entries c.in_ok-kept.ensures.capacity
