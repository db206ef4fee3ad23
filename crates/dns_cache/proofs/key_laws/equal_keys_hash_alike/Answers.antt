use Rattle.std.proofs.Common.{ap}
use Rattle.dns_cache.specs.KeyOrder.{key_input}
use Rattle.dns_cache.specs.KeyLaws.{key_eq-Decides}
use Rattle.dns_cache.proofs.key_laws.equal_keys_hash_alike.Goals as goal

pub returns : goal.returns
returns c = ap key_input ((key_eq-Decides c.args._a.now c.args._b.now).0 c.requires)
