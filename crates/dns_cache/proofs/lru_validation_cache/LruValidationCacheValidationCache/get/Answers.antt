use Rattle.std.proofs.Common.{Some, sym, ap, ◌∙◌, subst}
use Rattle.lru.specs.LruCache.{LruCache}
use Rattle.dns_rules.specs.CacheKeys.{CacheKeyValue}
use Rattle.dns_cache.specs.CacheLists.{CountedList, IsCacheList, after_get, hit, is_hit}
use Rattle.dns_cache.specs.KeptEntries.{IsCacheMap, KeptValue, entries_of, listed}
use Rattle.dns_cache.proofs.ListLemmas.{find_passes, nothing_moves}
use Rattle.dns_cache.proofs.PairLemmas.{after_promote, distinct_keys, kept-promoted}
use Rattle.dns_cache.proofs.lru_validation_cache.LruValidationCacheValidationCache.get.Goals as goal

pub copy_of_hit-requires : goal.copy_of_hit-requires
copy_of_hit-requires g c = distinct_keys c.self.inside.kept.entries c.self.invariant.list.distinct

pub invariant_of-self : goal.invariant_of-self
invariant_of-self g c =
    subst (λ (kept : LruCache CacheKeyValue KeptValue). IsCacheMap kept c.self.inside.capacity) (sym c.promote.ensures.entries)
    (kept-promoted c.args.key.now c.args.now c.self.inside.kept c.self.inside.capacity c.in-Some.found c.self.invariant
    (sym c.in_ok-found.ensures ∙ c.in-Some.is))

pub returns-in-Some-clause-given : goal.returns-in-Some-clause-given
returns-in-Some-clause-given g c =
    find_passes (is_hit c.args.key.now c.args.now) (entries_of c.self.inside.kept.entries) c.in-Some.found
    (sym c.in_ok-found.ensures ∙ c.in-Some.is)

pub returns-in-Some-clause-found : goal.returns-in-Some-clause-found
returns-in-Some-clause-found g c =
    sym c.in-Some.is ∙ c.in_ok-found.ensures ∙ ap (λ (v : CountedList). hit c.args.key.now c.args.now v.list) c.self.view_is

pub returns-in-Some-clause-after : goal.returns-in-Some-clause-after
returns-in-Some-clause-after g c =
    ap Some
    (ap (λ (kept : LruCache CacheKeyValue KeptValue). listed kept.entries c.self.inside.capacity) c.promote.ensures.entries
    ∙ after_promote c.args.key.now c.args.now c.self.inside.kept.entries c.self.inside.capacity c.in-Some.found
    c.self.invariant.list.distinct
    (sym c.in_ok-found.ensures ∙ c.in-Some.is)
    ∙ ap (λ (v : CountedList). after_get c.args.key.now c.args.now v.list) c.self.view_is)

pub returns-in-Some-clause-listed : goal.returns-in-Some-clause-listed
returns-in-Some-clause-listed g c =
    subst (λ (kept : LruCache CacheKeyValue KeptValue). IsCacheList (listed kept.entries c.self.inside.capacity))
    (sym c.promote.ensures.entries)
    (kept-promoted c.args.key.now c.args.now c.self.inside.kept c.self.inside.capacity c.in-Some.found c.self.invariant
    (sym c.in_ok-found.ensures ∙ c.in-Some.is)).list

pub returns-in-None-clause-found : goal.returns-in-None-clause-found
returns-in-None-clause-found g c =
    sym c.in-None.is ∙ c.in_ok-found.ensures ∙ ap (λ (v : CountedList). hit c.args.key.now c.args.now v.list) c.self.view_is

pub returns-in-None-clause-after : goal.returns-in-None-clause-after
returns-in-None-clause-after g c =
    ap Some (sym (nothing_moves c.args.key.now c.args.now c.args.self.now.list
    (sym (ap (λ (v : CountedList). hit c.args.key.now c.args.now v.list) c.self.view_is) ∙ sym c.in_ok-found.ensures ∙ c.in-None.is)))
