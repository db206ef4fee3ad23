-- For private functions alone: a closest encloser with the name right below it, and that name's hash.
use Rattle.std.specs.Prelude.{◌≡◌, ℕ, true, List}
use Rattle.dns_model.specs.Names.{Labels, is_name, is_wildcard, star}
use Rattle.dns_rules.specs.Nsec3Verdict.{Parameters, hashed, next_closer}

pub record EncloserValue : Type 0 where
  pub name : Labels
  pub next_closer : Labels
  pub hash : List ℕ

-- the next closer name has this hash; the wildcard below the encloser is a name, and may be the next closer name
pub record IsHashedBy (by : Parameters) (encloser : EncloserValue) : Type 0 where
  pub hash : encloser.hash ≡ hashed by encloser.next_closer
  pub wildcard : is_wildcard encloser.next_closer ≡ true → encloser.next_closer ≡ star encloser.name
  pub is_name : is_name (star encloser.name) ≡ true

-- the next closer name is that of this encloser of a name
pub record IsEncloserOf (by : Parameters) (name : Labels) (encloser : EncloserValue) : Type 0 where
  pub closer : encloser.next_closer ≡ next_closer encloser.name name
  pub hashed : IsHashedBy by encloser
