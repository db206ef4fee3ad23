-- Records, questions and messages as contracts see them (RFC 1035, 3.2 and 4.1; RFC 6891, 6.1; RFC 2181, 5).
use Rattle.std.specs.Prelude.{ℕ, Bool, ◌==◌, ◌&&◌, List, Option}
use Rattle.dns_model.specs.Names.{Labels, name_eq}
use Rattle.dns_model.specs.declared.proof.Proof.{Proof}

pub record Rr : Type 0 where
  pub owner : Labels
  pub rtype : ℕ
  pub class : ℕ
  pub ttl : ℕ
  pub rdata : List ℕ
  pub proof : Proof

-- the records of one owner, type and class, with the signatures that cover them
pub record RrSet : Type 0 where
  pub owner : Labels
  pub rtype : ℕ
  pub class : ℕ
  pub records : List Rr
  pub signatures : List Rr

pub record Question : Type 0 where
  pub owner : Labels
  pub rtype : ℕ
  pub class : ℕ

pub record EdnsValue : Type 0 where
  pub max_payload : ℕ
  pub version : ℕ
  pub dnssec_ok : Bool
  pub flags : ℕ
  pub options : List ℕ

pub record MessageValue : Type 0 where
  pub id : ℕ
  pub response : Bool
  pub op_code : ℕ
  pub authoritative : Bool
  pub truncated : Bool
  pub recursion_desired : Bool
  pub recursion_available : Bool
  pub authentic_data : Bool
  pub checking_disabled : Bool
  pub response_code : ℕ
  pub queries : List Question
  pub answers : List Rr
  pub authorities : List Rr
  pub additionals : List Rr
  pub edns : Option EdnsValue

-- questions compare with their names folded
abbrev pub question_eq : Question → Question → Bool
question_eq a b = name_eq a.owner b.owner && ((a.rtype == b.rtype) && (a.class == b.class))
