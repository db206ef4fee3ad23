use Rattle.std.proofs.Common.{◌<◌, Some, sym, ap, ◌∙◌, subst, arith}
use Rattle.lru.specs.LruCache.{LruCache}
use Rattle.dns_rules.specs.CacheKeys.{CacheKeyValue}
use Rattle.dns_rules.specs.CacheEntries.{EntryValue}
use Rattle.dns_cache.specs.CacheLists.{CountedList, IsCacheList, after_insert}
use Rattle.dns_cache.specs.KeptEntries.{IsCacheMap, KeptValue, listed}
use Rattle.dns_cache.proofs.PairLemmas.{after_put, kept-put}
use Rattle.dns_cache.proofs.lru_validation_cache.LruValidationCacheValidationCache.insert.Goals as goal

pub invariant_of-self-2 : goal.invariant_of-self-2
invariant_of-self-2 g c =
    let some : 0 < c.self.inside.capacity = omega arith in
    subst (λ (kept : LruCache CacheKeyValue KeptValue). IsCacheMap kept c.self.inside.capacity) (sym c.in_ok-put.ensures.entries)
    (kept-put c.self.inside.kept c.self.inside.capacity c.into_parts-key.result.0 c.into_parts-key.result.1 c.self.invariant some)

pub returns-clause-after : goal.returns-clause-after
returns-clause-after g c =
    let some : 0 < c.self.inside.capacity = omega arith in
    ap Some
    (ap (λ (kept : LruCache CacheKeyValue KeptValue). listed kept.entries c.self.inside.capacity) c.in_ok-put.ensures.entries
    ∙ after_put c.self.inside.kept c.self.inside.capacity c.into_parts-key.result.0 c.into_parts-key.result.1 c.self.invariant some
    ∙ ap (λ (e : EntryValue). after_insert e (listed c.self.inside.kept.entries c.self.inside.capacity)) c.into_parts-key.ensures
    ∙ ap (λ (v : CountedList). after_insert c.args.entry v.list) c.self.view_is)

pub returns-clause-listed : goal.returns-clause-listed
returns-clause-listed g c =
    let some : 0 < c.self.inside.capacity = omega arith in
    subst (λ (kept : LruCache CacheKeyValue KeptValue). IsCacheList (listed kept.entries c.self.inside.capacity))
    (sym c.in_ok-put.ensures.entries)
    (kept-put c.self.inside.kept c.self.inside.capacity c.into_parts-key.result.0 c.into_parts-key.result.1 c.self.invariant some).list
