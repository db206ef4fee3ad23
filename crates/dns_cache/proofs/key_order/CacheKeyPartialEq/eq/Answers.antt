use Rattle.std.proofs.Common.{sym, ap, ◌∙◌}
use Rattle.std.specs.Ordering.{is_eq}
use Rattle.dns_cache.specs.KeyLaws.{key_ties}
use Rattle.dns_cache.proofs.key_order.CacheKeyPartialEq.eq.Goals as goal

pub returns : goal.returns
returns c = c.is_eq.ensures ∙ ap is_eq c.cmp_keys.ensures ∙ sym (key_ties c.args.self.now c.args.other.now)
