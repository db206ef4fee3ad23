-- NSEC records are ranked by the canonical order of their owners (RFC 4034, 6.1).
use Rattle.dns_model.proofs.NamesInOrder.{before_itself, before_back, before_past}
use Rattle.dns_denial.specs.Best.{owned_before}
use Rattle.dns_denial.proofs.Best.{IsRanking}

pub owners_ranked : IsRanking owned_before
owners_ranked = record {
  itself = λ x. before_itself x.owner;
  back = λ x y h. before_back x.owner y.owner h;
  past = λ x y z differs holds. before_past x.owner y.owner z.owner differs holds;
}
