use Rattle.std.proofs.Common.{sym, subst}
use Rattle.dns_cache.specs.CacheLists.{IsCacheList}
use Rattle.dns_cache.proofs.ListLemmas.{is_list-inserted}
use Rattle.dns_cache.proofs.list_cache.ListCacheValidationCache.insert.Goals as goal

pub invariant_of-self-2 : goal.invariant_of-self-2
invariant_of-self-2 c =
    subst (λ es. IsCacheList (record { entries = es; capacity = c.self.inside.capacity })) (sym c.in_ok-put_in_front.ensures.ok)
    (is_list-inserted c.args.entry (record { entries = c.self.inside.entries.items; capacity = c.self.inside.capacity }) c.self.invariant)

pub returns-clause-listed : goal.returns-clause-listed
returns-clause-listed c =
    subst (λ es. IsCacheList (record { entries = es; capacity = c.self.inside.capacity })) (sym c.in_ok-put_in_front.ensures.ok)
    (is_list-inserted c.args.entry (record { entries = c.self.inside.entries.items; capacity = c.self.inside.capacity }) c.self.invariant)
