-- NSEC and NSEC3 records with their owners (RFC 4034, 4; RFC 5155, 3).
use Rattle.dns_model.specs.Names.{Labels}
use Rattle.dns_model.specs.Views.{NsecValue, Nsec3Value}

pub record OwnedNsec : Type 0 where
  pub owner : Labels
  pub fields : NsecValue

pub record OwnedNsec3 : Type 0 where
  pub owner : Labels
  pub fields : Nsec3Value
