-- For private functions only: a call that sends a request by datagrams, while it goes on.
use Rattle.std.specs.Prelude.{ℕ, ◌+◌, ◌*◌, ◌≡◌, ◌<◌, ◌⊎◌, ◌&&◌, nat_lt, Bool, List, length, Option, None, Some, Result, Ok, Err}
use Rattle.std.specs.declared.net.socket_addr.SocketAddr.{SocketAddr}
use Rattle.dns_model.specs.Records.{MessageValue}
use Rattle.dns_model.specs.SoundAnswers.{ResponseValue}
use Rattle.dns_message.specs.declared.decode_error.DecodeError.{DecodeError}
use Rattle.dns_handle.specs.Errors.{Reply}
use Rattle.dns_handle.specs.Replies.{reply_of}
use Rattle.dns_handle.specs.Requests.{RequestValue}
use Rattle.dns_handle.specs.Conversions.{outside_failed}
use Rattle.dns_handle.specs.declared.io_kind.IoKind.{IoKind}
use Rattle.dns_handle.specs.declared.error.NetError.{NetError}
use Rattle.dns_handle.specs.declared.error.NetError.TheVariants.{Message, Proto, QueryCaseMismatch, NoMemory}
use Rattle.dns_handle.specs.declared.error.ProtoError.TheVariants.{Decode}
use Rattle.dns_handle.specs.declared.notice.Notice.TheVariants.{NotAllBytesSent}
use Rattle.dns_link.specs.Counts.{CountsValue, with_end, with_fault}
use Rattle.dns_link.specs.Moved.{DatagramValue}
use Rattle.dns_udp.specs.declared.acceptance.Accepted.TheVariants.{Ignored, Undecodable, CaseMismatch, Answer}
use Rattle.dns_udp.specs.Bindings.{DrawsPorts}
use Rattle.dns_udp.specs.Met.{DialerView, capped, sum_met}
use Rattle.dns_udp.specs.Conversations.{AllFit, AreIgnored, Ends, most_ignored, tick}
use Rattle.dns_udp.specs.OpenSockets.{Holds}
use Rattle.dns_udp.specs.Requests.{AskedValue, judged, response_by}
use Rattle.dns_udp.specs.declared.waiting.Progress.{Progress}

-- a send of the whole request, of a part of it, or one that failed
abbrev pub IsSentOn : {X : Type 0} → CountsValue → CountsValue → Result X NetError → Type 0
IsSentOn old new (Ok done) = new ≡ old
IsSentOn old new (Err error) =
    ((error ≡ Message NotAllBytesSent) × (new ≡ with_end old))
    ⊎ ((kind : IoKind) × (error ≡ outside_failed kind) × (new ≡ with_fault old))

-- want of memory; less was sent than the request; or the outside failed
abbrev pub FailsBy : CountsValue → NetError → Type 0
FailsBy more error =
    (error ≡ NoMemory)
    ⊎ (((error ≡ Message NotAllBytesSent) × (0 < more.ends))
    ⊎ ((kind : IoKind) × (error ≡ outside_failed kind) × (0 < more.faults) × (more.ends ≡ 0)))

abbrev pub OpensBy : {X : Type 0} → CountsValue → Result X NetError → Type 0
OpensBy more (Ok done) = more.ends ≡ 0
OpensBy more (Err error) = FailsBy more error

-- sockets were opened, or not: nothing came meanwhile
pub record Opens {G X : Type 0} (counts : G → CountsValue) (given : G → Option (List DatagramValue)) (before now : DialerView)
    (sockets : List G) (came : List DatagramValue) (met : CountsValue) (result : Result X NetError) : Type 0 where
  pub more : CountsValue
  pub holds : Holds counts given before now sockets came (sum_met met more)
  pub gots : more.gots ≡ 0
  pub quiet : more.quiet ≡ 0
  pub cause : OpensBy more result

-- the same from whatever was met before it
abbrev pub OpensMore : {G X : Type 0} → (G → CountsValue) → (G → Option (List DatagramValue)) → DialerView → DialerView → List G → List G
    → Result X NetError → Type 0
OpensMore counts given old_dial now_dial old now result =
    (before : DialerView) → (came : List DatagramValue) → (met : CountsValue) → Holds counts given before old_dial old came met
    → Opens counts given before now_dial now came met result

-- a datagram as it was judged: no answer, the answer, or an error
abbrev pub Judges : RequestValue → SocketAddr → DatagramValue → Option (Result ResponseValue NetError) → Type 0
Judges request server datagram None = judged request server datagram ≡ Ignored
Judges request server datagram (Some (Ok response)) =
    (message : MessageValue) × (judged request server datagram ≡ Answer message) × (response ≡ response_by request message)
Judges request server datagram (Some (Err error)) =
    (error ≡ NoMemory)
    ⊎ (((error ≡ QueryCaseMismatch) × (judged request server datagram ≡ CaseMismatch))
    ⊎ ((fault : DecodeError) × (error ≡ Proto (Decode fault)) × (judged request server datagram ≡ Undecodable fault)))

-- there is time left, and not too many datagrams were no answer
abbrev pub goes_on : ℕ → ℕ → ℕ → Bool
goes_on timeout elapsed ignored = nat_lt elapsed timeout && nat_lt ignored most_ignored

-- the time that has passed, in milliseconds, and how many datagrams were no answer
pub record IsWaiting {G R : Type 0} (counts : G → CountsValue) (given : G → Option (List DatagramValue)) (draw : R → ℕ → R → Type 0)
    (asked : AskedValue) (before now : DialerView) (from to : R) (sockets : List G) (elapsed ignored : ℕ) : Type 0 where
  pub came : List DatagramValue
  pub met : CountsValue
  pub holds : Holds counts given before now sockets came met
  pub ports : DrawsPorts draw from to
  pub all : AreIgnored asked came
  pub room : AllFit asked came
  pub counted : ignored ≡ length came
  pub passed : elapsed ≡ capped (tick * met.quiet)
  pub no_longer : tick * met.quiet < asked.timeout + tick
  pub whole : met.ends ≡ 0

-- the call is over, but for the sockets, which are open
pub record IsStopped {G R : Type 0} (counts : G → CountsValue) (given : G → Option (List DatagramValue)) (draw : R → ℕ → R → Type 0)
    (asked : AskedValue) (before now : DialerView) (from to : R) (sockets : List G) (reply : Reply) : Type 0 where
  pub came : List DatagramValue
  pub met : CountsValue
  pub holds : Holds counts given before now sockets came met
  pub ports : DrawsPorts draw from to
  pub room : AllFit asked came
  pub ends : Ends asked came met reply

-- a turn of one socket: the call goes on, or is over
abbrev pub TurnEnds : (ℕ → ℕ → Type 0) → (Reply → Type 0) → ℕ → ℕ → Option (Result ResponseValue NetError) → Type 0
TurnEnds Waits Stops elapsed ignored None = Waits elapsed ignored
TurnEnds Waits Stops elapsed ignored (Some result) = Stops (reply_of result)

-- the same from whatever went before it
abbrev pub TakesTurn : {G R : Type 0} → (G → CountsValue) → (G → Option (List DatagramValue)) → (R → ℕ → R → Type 0) → AskedValue
    → DialerView → DialerView → R → R → List G → List G → Progress → Progress → Option (Result ResponseValue NetError) → Type 0
TakesTurn {R} counts given draw asked old_dial now_dial mid to old now progress after result =
    (before : DialerView) → (from : R)
    → IsWaiting counts given draw asked before old_dial from mid old progress.elapsed progress.ignored
    → TurnEnds (λ elapsed ignored. IsWaiting counts given draw asked before now_dial from to now elapsed ignored)
    (λ reply. IsStopped counts given draw asked before now_dial from to now reply) after.elapsed after.ignored result
