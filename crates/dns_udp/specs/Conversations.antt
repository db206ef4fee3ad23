-- What a request that is sent by datagrams comes to (RFC 1035, 4.2.1 and 7.3; RFC 5452, 9.1).
use Rattle.std.specs.Prelude.{ℕ, ◌+◌, ◌*◌, ◌≡◌, ◌<◌, ◌≤◌, ◌⊎◌, Bool, true, false, List, ◌∷◌, ◌++◌, length, replicate, Option, None, Some, Ok, Err}
use Rattle.std.specs.List.{list_all}
use Rattle.dns_model.specs.Records.{MessageValue}
use Rattle.dns_message.specs.declared.encode_error.EncodeError.TheVariants as encode
use Rattle.dns_message.specs.WrittenAs.{encoded}
use Rattle.dns_handle.specs.Errors.{Reply, Message, Proto, Io, Timeout, QueryCaseMismatch, NoMemory}
use Rattle.dns_handle.specs.declared.error.ProtoError.TheVariants.{Decode, TooLong}
use Rattle.dns_handle.specs.declared.notice.Notice.TheVariants.{NotAllBytesSent}
use Rattle.dns_handle.specs.declared.io_kind.IoKind.{IoKind}
use Rattle.dns_handle.specs.declared.io_kind.IoKind.TheVariants.{TimedOut}
use Rattle.dns_link.specs.Calls.{IsToldWith, NetCalls, and_calls, last_fault, no_calls}
use Rattle.dns_link.specs.Counts.{CountsValue}
use Rattle.dns_link.specs.Moved.{DatagramValue}
use Rattle.dns_link.specs.declared.net_call.NetCall.{NetCall}
use Rattle.dns_link.specs.declared.net_call.NetCall.TheVariants.{Send}
use Rattle.dns_multiplexer.specs.Draws.{Drawn}
use Rattle.dns_udp.specs.declared.acceptance.Accepted.{Accepted}
use Rattle.dns_udp.specs.declared.acceptance.Accepted.TheVariants.{Undecodable, CaseMismatch, Answer}
use Rattle.dns_udp.specs.Bindings.{AreTried, BindingValue}
use Rattle.dns_udp.specs.Met.{DialerView, HasMet}
use Rattle.dns_udp.specs.Requests.{AskedValue, fits, judged, is_ignored, response_by}

-- a wait in which no datagram comes counts as so many milliseconds
abbrev pub tick : ℕ
tick = 100

-- so many datagrams that are no answer end a call
abbrev pub most_ignored : ℕ
most_ignored = 65536

abbrev pub AreIgnored : AskedValue → List DatagramValue → Type 0
AreIgnored asked came = list_all (is_ignored asked) came ≡ true

-- there is room for each of the datagrams
abbrev pub AllFit : AskedValue → List DatagramValue → Type 0
AllFit asked came = list_all (fits asked.request) came ≡ true

-- one of the datagrams is judged so, and all others are no answer
pub record OneIsJudged (asked : AskedValue) (came : List DatagramValue) (verdict : Accepted) : Type 0 where
  pub before : List DatagramValue
  pub datagram : DatagramValue
  pub after : List DatagramValue
  pub all : came ≡ before ++ datagram ∷ after
  pub ignored_before : AreIgnored asked before
  pub ignored_after : AreIgnored asked after
  pub judged : judged asked.request asked.server datagram ≡ verdict

-- a datagram ended the call before the time was over, and nothing was cut short
pub record EndsByOne (asked : AskedValue) (came : List DatagramValue) (met : CountsValue) (verdict : Accepted) : Type 0 where
  pub one : OneIsJudged asked came verdict
  pub in_time : tick * met.quiet < asked.timeout
  pub few : length came ≤ most_ignored
  pub whole : met.ends ≡ 0

-- the time was over, or too many datagrams were no answer; none was waited for once the time was over
pub record EndsInVain (asked : AskedValue) (came : List DatagramValue) (met : CountsValue) : Type 0 where
  pub ignored : AreIgnored asked came
  pub over : (asked.timeout ≤ tick * met.quiet) ⊎ (most_ignored ≤ length came)
  pub no_longer : tick * met.quiet < asked.timeout + tick
  pub few : length came ≤ most_ignored
  pub whole : met.ends ≡ 0

-- a socket couldn't be made or failed, or took less than the request, before the time was over; the first socket is made and used
-- without a look at the time
pub record EndsByFault (asked : AskedValue) (came : List DatagramValue) (met : CountsValue) : Type 0 where
  pub ignored : AreIgnored asked came
  pub in_time : (met.quiet ≡ 0) ⊎ (tick * met.quiet < asked.timeout)
  pub few : length came < most_ignored

-- how a call ends, by what it answers; want of memory is free
abbrev pub Ends : AskedValue → List DatagramValue → CountsValue → Reply → Type 0
Ends asked came met (Ok response) =
    (message : MessageValue) × EndsByOne asked came met (Answer message) × (response ≡ response_by asked.request message)
Ends asked came met (Err QueryCaseMismatch) = EndsByOne asked came met CaseMismatch
Ends asked came met (Err (Proto (Decode error))) = EndsByOne asked came met (Undecodable error)
Ends asked came met (Err (Proto TooLong)) = encoded asked.request.message ≡ Err encode.TooLong
Ends asked came met (Err Timeout) =
    EndsInVain asked came met ⊎ (EndsByFault asked came met × (0 < met.faults) × (met.ends ≡ 0))
Ends asked came met (Err (Io kind)) = EndsByFault asked came met × (0 < met.faults) × (met.ends ≡ 0)
Ends asked came met (Err (Message NotAllBytesSent)) = EndsByFault asked came met × (0 < met.ends)
Ends asked came met (Err NoMemory) = Unit {0}
Ends asked came met (Err error) = ⊥

-- ---- what is asked

-- so many sockets were asked for and made, one after another, each by binds of its own that begin at no attempt; where not all
-- were made, one more was asked for at last, and wasn't. These are the calls of their binds
pub data AreAskedFor {R : Type 0} (draw : R → ℕ → R → Type 0) (binding : BindingValue) (from : R)
    : R → ℕ → Bool → NetCalls → Type 0 where
  NoSocket : AreAskedFor draw binding from from 0 true no_calls
  AndMade : (mid to : R) (made after refused : ℕ) (calls more : NetCalls) → AreAskedFor draw binding from mid made true calls
      → AreTried {G = Unit {0}} draw binding mid to 0 after refused more (Ok tt)
      → AreAskedFor draw binding from to (made + 1) true (and_calls calls more)
  AndRefused : (mid to : R) (made after refused : ℕ) (calls more : NetCalls) (kind : IoKind)
      → AreAskedFor draw binding from mid made true calls
      → AreTried {G = Unit {0}} draw binding mid to 0 after refused more (Err kind)
      → AreAskedFor draw binding from to made false (and_calls calls more)

-- an error of the outside has the kind of the last fault; no time is left, too, where each socket was made and none failed
abbrev pub HasKind : Bool → Option IoKind → Option IoKind → Reply → Type 0
HasKind all fault last (Err (Io kind)) = last ≡ Some kind
HasKind all fault last (Err Timeout) = (last ≡ Some TimedOut) ⊎ ((all ≡ true) × (fault ≡ None))
HasKind all fault last reply = Unit {0}

-- the calls of sockets' binds, and one datagram of these bytes from each socket that was made; and the kind of the fault of one
abbrev pub calls_with_sends : NetCalls → ℕ → NetCall → Option IoKind → NetCalls
calls_with_sends binds made send fault = and_calls binds (record { made = replicate made send; fault = fault })

-- what a call asked, from one state of its draws to another: sockets, and on each that was made the request once, as one datagram to
-- the server
pub record Asks {R : Type 0} (draw : R → ℕ → R → Type 0) (binding : BindingValue) (asked : AskedValue) (before now : Option NetCalls)
    (from to : R) (reply : Reply) : Type 0 where
  pub made : ℕ
  pub all : Bool
  pub binds : NetCalls
  pub sockets : AreAskedFor draw binding from to made all binds
  pub bytes : List ℕ
  pub written : (made ≡ 0) ⊎ (encoded asked.request.message ≡ Ok bytes)
  pub fault : Option IoKind
  pub told : IsToldWith before (calls_with_sends binds made (Send bytes asked.server) fault) now
  pub kind : HasKind all fault (last_fault binds.fault fault) reply

-- the same, unless memory ran out
abbrev pub AsksAll : {R : Type 0} → (R → ℕ → R → Type 0) → BindingValue → AskedValue → Option NetCalls → Option NetCalls → R → R → Reply
    → Type 0
AsksAll draw binding asked before now from to reply = (reply ≡ Err NoMemory) ⊎ Asks draw binding asked before now from to reply

-- a call: the datagrams that came in it, what was met, and the local ports that were drawn, one after another
pub record IsConversation {R : Type 0} (draws_port : R → ℕ → R → Type 0) (asked : AskedValue) (before now : DialerView)
    (from to : R) (reply : Reply) : Type 0 where
  pub came : List DatagramValue
  pub met : CountsValue
  pub ports : List ℕ
  pub has_met : HasMet before now came met
  pub room : AllFit asked came
  pub drawn : Drawn draws_port from ports to
  pub ends : Ends asked came met reply
