-- When two lookups came to the same: their reports are the same with their trails, or the lines of their errors.
use Rattle.std.specs.Prelude.{◌≡◌, Ok, Err}
use Rattle.std.specs.Option.{option_map}
use Rattle.dns_handle.specs.Errors.{Reply, ErrorValue, Busy, Dns, Message, Msg, NoConnections, Proto, Io, Timeout, QueryCaseMismatch, ForeignClassRecord, Truncated, NoMemory}
use Rattle.dns_handle.specs.declared.io_kind.IoKind.TheVariants.{Other}
use Rattle.dns_model.specs.SoundAnswers.{ResponseValue}
use Rattle.dns_report.specs.declared.parts.Parts.TheVariants.{WithTrail}
use Rattle.dns_report.specs.Faults.{fault_text}
use Rattle.dns_report.specs.View.{View, view_of}
use Rattle.dns_session.specs.SessionValue.{SessionValue}
use Rattle.dns_session_lookup.specs.Causes.{AnswersSession}
use Rattle.dns_session_lookup.specs.declared.verification.Verification.TheVariants.{ByList}
use Rattle.dns_saved_lookup.specs.Lookups.{denied_in}

-- an error as a session can say it: each that isn't of DNS, of time or of load is one of the outside
abbrev pub as_told : ErrorValue → ErrorValue
as_told Busy = Busy
as_told (Dns error) = Dns error
as_told (Message notice) = Io Other
as_told (Msg text) = Io Other
as_told NoConnections = Io Other
as_told (Proto error) = Io Other
as_told (Io kind) = Io Other
as_told Timeout = Timeout
as_told QueryCaseMismatch = Io Other
as_told (ForeignClassRecord owner class rtype) = ForeignClassRecord owner class rtype
as_told Truncated = Io Other
as_told NoMemory = NoMemory

-- all that a report shows of a response, with its trail
abbrev pub shown : ResponseValue → View
shown response = view_of WithTrail response

-- two errors have one line, and what they hold of a response, if they do, has one report
pub record AlikeErrors (one other : ErrorValue) : Type 0 where
  pub line : fault_text (as_told one) ≡ fault_text (as_told other)
  pub held : option_map shown (denied_in one) ≡ option_map shown (denied_in other)

-- two answers have one report, with the trail; or two errors are alike
abbrev pub Alike : Reply → Reply → Type 0
Alike (Ok one) (Ok other) = shown one ≡ shown other
Alike (Ok one) (Err other) = ⊥
Alike (Err one) (Ok other) = ⊥
Alike (Err one) (Err other) = AlikeErrors one other

-- a lookup of the session, by the signatures that it lists, gives an answer that is like this one
pub record IsAnsweredSo (s : SessionValue) (reply : Reply) : Type 0 where
  pub again : Reply
  pub answered : AnswersSession ByList s again
  pub alike : Alike reply again

-- or it gives one that isn't
pub record IsAnsweredElse (s : SessionValue) (reply : Reply) : Type 0 where
  pub again : Reply
  pub answered : AnswersSession ByList s again
  pub unlike : Alike reply again → ⊥
