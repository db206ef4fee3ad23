-- What a session says of what a query was answered.
use Rattle.std.specs.Prelude.{◌≡◌, Ok, Err}
use Rattle.dns_handle.specs.Errors as seen
use Rattle.dns_handle.specs.Errors.{Reply, ErrorValue}
use Rattle.dns_message.specs.WrittenAs.{encoded, IsReadAgain}
use Rattle.dns_message.specs.declared.encode_error.EncodeError.TheVariants as encode
use Rattle.dns_model.specs.Records.{Question}
use Rattle.dns_saved_session.specs.Saved.{CameValue, Message, Fault, SavedReplyValue}
use Rattle.dns_session.specs.declared.reply.ReplyFault.{ReplyFault}
use Rattle.dns_session.specs.declared.reply.ReplyFault.TheVariants.{Timeout, Io, Busy}
use Rattle.dns_saved_lookup.specs.declared.save_error.SaveError.{SaveError}
use Rattle.dns_saved_lookup.specs.declared.save_error.SaveError.TheVariants.{LongMessage, LongText, Differs, NoMemory}

-- the fault that stands for an error: its own where it is of time or load, else one of the outside
abbrev pub fault_told : ErrorValue → ReplyFault
fault_told seen.Timeout = Timeout
fault_told seen.Busy = Busy
fault_told _ = Io

-- a response is said by its message, in bytes that are read as that message where any are; an error by its fault
abbrev pub SaysReply : Reply → CameValue → Type 0
SaysReply (Ok response) (Message bytes) = (encoded response.message ≡ Ok bytes) × IsReadAgain response.message bytes
SaysReply (Ok response) (Fault fault) = ⊥
SaysReply (Err error) (Message bytes) = ⊥
SaysReply (Err error) (Fault fault) = fault ≡ fault_told error

-- what is saved of a query and its reply
pub record IsSavedOf (q : Question) (reply : Reply) (saved : SavedReplyValue) : Type 0 where
  pub question : saved.question ≡ q
  pub came : SaysReply reply saved.came

-- the message of a reply has more than 65,535 bytes
abbrev pub HasLongMessage : Reply → Type 0
HasLongMessage (Ok response) = encoded response.message ≡ Err encode.TooLong
HasLongMessage (Err error) = ⊥

-- why a session can't say what a query was answered
abbrev pub IsUnsaid : Reply → SaveError → Type 0
IsUnsaid reply LongMessage = HasLongMessage reply
IsUnsaid reply LongText = ⊥
IsUnsaid reply Differs = ⊥
IsUnsaid reply NoMemory = Unit {0}
