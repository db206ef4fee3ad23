use Rattle.dns_model.proofs.NameLemmas.{name_alike}
use Rattle.dns_record.proofs.name_laws.equal_names_hash_alike.Goals as goal

pub returns : goal.returns
returns c = name_alike.fed c.args._a.now c.args._b.now c.requires
