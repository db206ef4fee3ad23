use Rattle.dns_cache.proofs.ListLemmas.{empty_is}
use Rattle.dns_cache.proofs.list_cache.ListCache.new.Goals as goal

pub invariant_of-result : goal.invariant_of-result
invariant_of-result c = rw c.new.ensures.items (empty_is c.args.capacity)
