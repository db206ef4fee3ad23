-- For private functions alone: few records that prove of a name what all of a zone do.
use Rattle.std.specs.Prelude.{◌≡◌, true, ◌||◌, List}
use Rattle.std.specs.List.{Contains}
use Rattle.dns_model.specs.Names.{Labels, name_eq}
use Rattle.dns_model.specs.Owned.{OwnedNsec}
use Rattle.dns_rules.specs.Covering.{nsec_spans}
use Rattle.dns_rules.specs.NsecVerdict.{is_owned_by}

-- each of the one list stands in the other
pub record ArePart {X : Type 0} (part all : List X) : Type 0 where
  pub each : (x : X) → Contains part x → Contains all x

-- those that the name owns, or that it lies behind, stand in the part
pub record AreAround (name : Labels) (part all : List OwnedNsec) : Type 0 where
  pub each : (nsec : OwnedNsec) → Contains all nsec → (is_owned_by name nsec || nsec_spans name nsec) ≡ true → Contains part nsec

-- no two have one owner
pub record AreOwnedApart (all : List OwnedNsec) : Type 0 where
  pub each : (one two : OwnedNsec) → Contains all one → Contains all two → name_eq one.owner two.owner ≡ true → one ≡ two
