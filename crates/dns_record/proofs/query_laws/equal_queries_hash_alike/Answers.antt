use Rattle.std.proofs.Common.{refl}
use Rattle.dns_model.proofs.NameLemmas.{name_alike, name_eq-Decides}
use Rattle.dns_record.proofs.QueryLemmas.{question_eq-parts}
use Rattle.dns_record.proofs.query_laws.equal_queries_hash_alike.Goals as goal

pub returns : goal.returns
returns c =
    let a = c.args._a.now in
    let b = c.args._b.now in
    let parts = (question_eq-parts a b).0 c.requires in
    rw (name_alike.fed a.owner b.owner ((name_eq-Decides a.owner b.owner).1 parts.0), parts.1, parts.2) refl
