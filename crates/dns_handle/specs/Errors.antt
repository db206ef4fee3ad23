-- Errors and replies as contracts see them.
use Rattle.std.specs.Prelude.{ℕ, List, Result}
use Rattle.dns_model.specs.declared.proof.Proof.{Proof}
use Rattle.dns_model.specs.Names.{Labels}
use Rattle.dns_model.specs.Records.{Question}
use Rattle.dns_model.specs.SoundAnswers.{ResponseValue}
use Rattle.dns_handle.specs.declared.io_kind.IoKind.{IoKind}
use Rattle.dns_handle.specs.declared.error.ProtoError.{ProtoError}
use Rattle.dns_handle.specs.declared.notice.Notice.{Notice}
use Rattle.dns_handle.specs.NoRecords.{NoRecordsValue}

-- what DNS itself answers in place of the records
pub data DnsErrorValue : Type 0 where
  ResponseCode : (code : ℕ) → DnsErrorValue
  NoRecordsFound : (missing : NoRecordsValue) → DnsErrorValue
  Nsec : (query : Question) (response : ResponseValue) (proof : Proof) → DnsErrorValue
  DnssecBogus : DnsErrorValue

pub data ErrorValue : Type 0 where
  Busy : ErrorValue
  Dns : (error : DnsErrorValue) → ErrorValue
  Message : (notice : Notice) → ErrorValue
  Msg : (text : List ℕ) → ErrorValue
  NoConnections : ErrorValue
  Proto : (error : ProtoError) → ErrorValue
  Io : (kind : IoKind) → ErrorValue
  Timeout : ErrorValue
  QueryCaseMismatch : ErrorValue
  ForeignClassRecord : (owner : Labels) (class rtype : ℕ) → ErrorValue
  Truncated : ErrorValue
  NoMemory : ErrorValue

-- what a send is answered
abbrev pub Reply : Type 0
Reply = Result ResponseValue ErrorValue
