use Rattle.std.proofs.Common.{sym, ap, ◌∙◌}
use Rattle.std.specs.Ordering.{is_eq}
use Rattle.dns_rules.specs.CacheKeys.{CacheKeyValue, key_of}
use Rattle.dns_cache.specs.KeyLaws.{key_ties}
use Rattle.dns_cache.specs.KeyOrder.{key_cmp}
use Rattle.dns_cache.proofs.cache_key.CacheKey.is_of.Goals as goal

pub returns : goal.returns
returns c =
    let own = key_of c.args.query.now c.args.set.now in
    c.is_eq.ensures ∙ ap is_eq (c.cmp_sets.ensures ∙ ap (λ (k : CacheKeyValue). key_cmp own k) c.self.view_is)
    ∙ sym (key_ties own c.args.self.now)
