-- What each answer of a lookup over a server comes from, by what the dialer counted (RFC 1035, 4.2; RFC 4035, 4.3).
use Rattle.std.specs.Prelude.{◌≡◌, ◌⊎◌, List, ◌∷◌, ◌++◌, Ok, Err}
use Rattle.dns_model.specs.Counts.{Rose, RoseBy}
use Rattle.dns_message.specs.MessageAt.{message_at}
use Rattle.dns_message.specs.declared.decode_error.DecodeError.{DecodeError}
use Rattle.dns_handle.specs.Errors.{Reply, Dns, Nsec, ForeignClassRecord, Io, Message, Timeout, Proto, NoMemory}
use Rattle.dns_handle.specs.declared.error.ProtoError.TheVariants.{Decode}
use Rattle.dns_handle.specs.declared.io_kind.IoKind.TheVariants.{BrokenPipe}
use Rattle.dns_handle.specs.declared.notice.Notice.TheVariants.{NotAllBytesSent}
use Rattle.dns_handle.specs.declared.protocol.Protocol.{Protocol}
use Rattle.dns_handle.specs.declared.protocol.Protocol.TheVariants.{Udp, Tcp}
use Rattle.dns_link.specs.Counts.{CountsValue}
use Rattle.dns_link.specs.Moved.{DatagramValue}
use Rattle.dns_udp.specs.Met.{AreGiven, DialerView}

-- a call of the outside failed, or ended short: a read found the end, or less was taken than has to be
abbrev pub FailedOrEnded : CountsValue → CountsValue → Type 0
FailedOrEnded met now = Rose met.faults now.faults ⊎ Rose met.ends now.ends

-- bytes or a datagram came
abbrev pub HasCome : CountsValue → CountsValue → Type 0
HasCome met now = Rose met.gots now.gots

-- one of the datagrams that came is no message: so the dialer tells where it tells what came
pub record IsUndecodable (before now : DialerView) (error : DecodeError) : Type 0 where
  pub came : List DatagramValue
  pub earlier : List DatagramValue
  pub datagram : DatagramValue
  pub later : List DatagramValue
  pub told : AreGiven before.given came now.given
  pub among : came ≡ earlier ++ datagram ∷ later
  pub unread : message_at datagram.0 ≡ Err error

-- none came in time: the outside timed out; 1,024 messages came that weren't the answer, all but the first by two reads at least; half a
-- hundred waits of a tenth of a second were in vain; or 65,536 datagrams were no answer
abbrev pub IsLate : Protocol → CountsValue → CountsValue → Type 0
IsLate Tcp met now = Rose met.faults now.faults ⊎ RoseBy 2047 met.gots now.gots
IsLate Udp met now = Rose met.faults now.faults ⊎ (RoseBy 50 met.quiet now.quiet ⊎ RoseBy 65536 met.gots now.gots)

-- datagrams are decoded before they are taken for an answer; what comes over a connection is passed over where it is no message
abbrev pub IsUnread : Protocol → DialerView → DialerView → DecodeError → Type 0
IsUnread Tcp before now error = ⊥
IsUnread Udp before now error = HasCome before.counts now.counts × IsUndecodable before now error

-- a whole answer and a denial come only where something came; so does the complaint of a class. No other error comes than these
abbrev pub AnswerCause : Protocol → DialerView → DialerView → Reply → Type 0
AnswerCause protocol before now (Ok response) = HasCome before.counts now.counts
AnswerCause protocol before now (Err (Dns (Nsec asked response proof))) = HasCome before.counts now.counts
AnswerCause protocol before now (Err (ForeignClassRecord owner class rtype)) = HasCome before.counts now.counts
AnswerCause protocol before now (Err (Io BrokenPipe)) = FailedOrEnded before.counts now.counts ⊎ HasCome before.counts now.counts
AnswerCause protocol before now (Err (Io kind)) = FailedOrEnded before.counts now.counts
AnswerCause protocol before now (Err (Message NotAllBytesSent)) = FailedOrEnded before.counts now.counts
AnswerCause protocol before now (Err Timeout) = IsLate protocol before.counts now.counts
AnswerCause protocol before now (Err (Proto (Decode error))) = IsUnread protocol before now error
AnswerCause protocol before now (Err NoMemory) = Unit {0}
AnswerCause protocol before now (Err error) = ⊥
