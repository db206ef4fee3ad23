-- How a run of the forwarder ends (RFC 1035, 4.2; RFC 4035, 3.2): by its words, by its input, by what the outside met, and by how its
-- seats ended.
use Rattle.std.specs.Prelude.{ℕ, ◌≡◌, ◌≢◌, ◌<◌, IsSome, List, [], length, Option, None, Some, Result, Ok, Err}
use Rattle.std.specs.declared.net.socket_addr.SocketAddr.{SocketAddr}
use Rattle.dns_asking.specs.Addresses.{IsSocketOf}
use Rattle.dns_asking.specs.declared.address.ServerAddress.{ServerAddress}
use Rattle.dns_handle.specs.declared.io_kind.IoKind.{IoKind}
use Rattle.dns_io.specs.Reading.{input_limit, too_long_text, OfInput}
use Rattle.dns_io.specs.Writing.{bad_words_text, WritesText}
use Rattle.dns_io.specs.Leaving.{Leaves, WrotePrefix}
use Rattle.dns_link.specs.Calls.{NetCalls}
use Rattle.dns_link.specs.Counts.{CountsValue, with_fault}
use Rattle.dns_listener.specs.Listening.{ListenerCounts, TrafficValue}
use Rattle.dns_model.specs.Counts.{Rose}
use Rattle.dns_session.specs.SessionValue.{SessionValue}
use Rattle.dns_session.specs.Grammar.{session_of}
use Rattle.dns_session.specs.Stops.{NamesLine}
use Rattle.dns_tcp.specs.Dialing.{IsAskedFor, dial_to}
use Rattle.dns_forward_run.specs.Forms.{help_text, seats_of, version_text}
use Rattle.dns_forward_run.specs.Judging.{TellsAnswered, judging_by}
use Rattle.dns_forward_run.specs.Lines.{lines_from, lines_status}
use Rattle.dns_forward_run.specs.Retired.{AreBack, IsRefused}
use Rattle.dns_forward_run.specs.declared.form.Carried.{Carried}
use Rattle.dns_forward_run.specs.declared.form.Carried.TheVariants.{Datagrams, Connections}
use Rattle.dns_forward_run.specs.declared.form.Form.{Form}
use Rattle.dns_forward_run.specs.declared.form.Form.TheVariants.{Forward, Help, Version}
use Rattle.dns_forward_run.specs.declared.form.Service.{Service}
use Rattle.dns_forward_run.specs.declared.lines.SeatLine.{SeatLine}

-- what is seen of a dialer and of a listener
pub record NetView (D N : Type 0) : Type 0 where
  pub dialed : D → CountsValue
  pub calls : D → Option NetCalls
  pub listened : N → ListenerCounts
  pub heard : N → Option (List TrafficValue)

abbrev pub net_view : {D N : Type 0} → (D → CountsValue) → (D → Option NetCalls) → (N → ListenerCounts)
    → (N → Option (List TrafficValue)) → NetView D N
net_view dialed calls listened heard = record { dialed = dialed; calls = calls; listened = listened; heard = heard }

-- what a run has of the outside: the dialer that was given, the one that is given back, if any, and the listener before and after
pub record Met (D N : Type 0) : Type 0 where
  pub given : D
  pub left : Option D
  pub old : N
  pub new : N

abbrev pub met_of : {D N : Type 0} → D → Option D → N → N → Met D N
met_of given left old new = record { given = given; left = left; old = old; new = new }

-- nothing was connected, and nobody listened for
pub record IsUntouched {D N : Type 0} (met : Met D N) : Type 0 where
  pub dialer : met.left ≡ Some met.given
  pub listener : met.new ≡ met.old

-- a connection waits for so many milliseconds at most
abbrev pub connection_timeout : ℕ
connection_timeout = 5000

-- a dialer was asked for one connection to a server, which was refused with this kind of fault or made
pub record IsAskedOnce {D : Type 0} (calls : D → Option NetCalls) (address : ServerAddress) (fault : Option IoKind)
    (old new : D) : Type 0 where
  pub server : SocketAddr
  pub is : IsSocketOf address server
  pub asked : IsAskedFor (dial_to server None connection_timeout) (calls old) (calls new) fault

-- a dialer that made the connection to the server counted nothing. By datagrams it is asked for sockets later
abbrev pub HasReached : {D N : Type 0} → NetView D N → Carried → ServerAddress → D → D → Type 0
HasReached seen Datagrams server old new = new ≡ old
HasReached seen (Connections n) server old new =
    (seen.dialed new ≡ seen.dialed old) × IsAskedOnce seen.calls server None old new

-- ---- seats that were served

-- the dialer that is given back where seats were served: by datagrams as the seat leaves it, and else as it was once the connection
-- was made, whose link isn't counted
abbrev pub IsGivenBack : {D N : Type 0} → NetView D N → Carried → ServerAddress → D → Option D → Type 0
IsGivenBack seen Datagrams server given left = IsSome left
IsGivenBack seen (Connections n) server given None = ⊥
IsGivenBack seen (Connections n) server given (Some dial) = HasReached seen (Connections n) server given dial

-- each seat was served and has a line, in order. The status is 1 exactly where a seat ended at a fault of its port
pub record Forwards {D N : Type 0} (seen : NetView D N) (service : Service) (met : Met D N) (status : ℕ) (text : List ℕ) : Type 0 where
  pub lines : List SeatLine
  pub seats : length lines ≡ seats_of service.carried
  pub back : AreBack service.count lines (seen.listened met.old) (seen.listened met.new)
  pub dialer : IsGivenBack seen service.carried service.upstream met.given met.left
  pub ended : status ≡ lines_status lines
  pub spelled : text ≡ lines_from 0 lines

-- ---- seats that were not

-- the dialer refused to connect: that was counted, and nobody was listened for
pub record IsUnreached {D N : Type 0} (seen : NetView D N) (service : Service) (met : Met D N) : Type 0 where
  pub dial : D
  pub left : met.left ≡ Some dial
  pub kind : IoKind
  pub counted : seen.dialed dial ≡ with_fault (seen.dialed met.given)
  pub asked : IsAskedOnce seen.calls service.upstream (Some kind) met.given dial
  pub carried : (n : ℕ) × (service.carried ≡ Connections n)
  pub listener : met.new ≡ met.old

-- the listener refused a port
pub record IsUnopened {D N : Type 0} (seen : NetView D N) (service : Service) (met : Met D N) : Type 0 where
  pub dial : D
  pub left : met.left ≡ Some dial
  pub reached : HasReached seen service.carried service.upstream met.given dial
  pub refused : IsRefused (seats_of service.carried) (seen.listened met.old) (seen.listened met.new)

-- why no seat was served: a fault of the dialer or of the listener
pub data IsUnserved {D N : Type 0} (seen : NetView D N) (service : Service) (met : Met D N) : Type 0 where
  Unreached : IsUnreached seen service met → IsUnserved seen service met
  Unopened : IsUnopened seen service met → IsUnserved seen service met

-- ---- how a run ends

-- seats were served for a session, and by what it trusts
pub record ForwardsBy {D N : Type 0} (s : SessionValue) (seen : NetView D N) (service : Service) (met : Met D N) (status : ℕ)
    (text : List ℕ) : Type 0 where
  pub forwards : Forwards seen service met status text
  pub answered : TellsAnswered (judging_by s service.carried) (seen.heard met.old) (seen.heard met.new)

-- what an input comes to: a session, for which seats were served; and where it is none, nothing was touched
abbrev pub ForwardEnds : {D N : Type 0} → NetView D N → Service → Met D N → Result SessionValue ℕ → ℕ → List ℕ → Type 0
ForwardEnds seen service met (Ok s) status text = ForwardsBy s seen service met status text
ForwardEnds seen service met (Err number) status text = NamesLine number status text × IsUntouched met

-- what may be written of bytes: the text of a status to which they come; what is said of an input that is too long; or nothing
pub data ForwardTells {D N : Type 0} (seen : NetView D N) (service : Service) (met : Met D N) (bytes text : List ℕ) : Type 0 where
  Ended : (status : ℕ) → ForwardEnds seen service met (session_of bytes) status text → ForwardTells seen service met bytes text
  TooLong : input_limit < length bytes → text ≡ too_long_text → ForwardTells seen service met bytes text
  Nothing : text ≡ [] → ForwardTells seen service met bytes text

-- the cause of status 4: a read failed, which was counted, and nothing was touched; or no seat could be served for bytes that are a session
pub data IsStopped {D N : Type 0} (seen : NetView D N) (service : Service) (met : Met D N) (failed_reads now : ℕ) : Type 0 where
  Unread : Rose failed_reads now → IsUntouched met → IsStopped seen service met failed_reads now
  Unserved : IsUnserved seen service met → IsStopped seen service met failed_reads now

-- a status below 4 is one to which the told bytes come, and its text was written; 4 has its cause; and whatever the status, a prefix of a
-- text that the bytes may come to was written
pub record EndsForward {D N : Type 0} (seen : NetView D N) (service : Service) (met : Met D N) (status : ℕ)
    (told before now : Option (List ℕ)) : Type 0 where
  pub ends : status < 4 → Leaves (λ bytes text. ForwardEnds seen service met (session_of bytes) status text) told before now
  pub form : status ≢ 2
  pub prefix : OfInput told (λ bytes. WrotePrefix before now (ForwardTells seen service met bytes))

-- how words end that ask for a text or for nothing; then nothing was touched
pub record EndsBare {D N : Type 0} (met : Met D N) (status expected : ℕ) (before now : Option (List ℕ)) (text : List ℕ) : Type 0 where
  pub writes : WritesText status expected before now text
  pub untouched : IsUntouched met

-- how words end
abbrev pub EndsByWords : {D N : Type 0} → NetView D N → Option Form → Met D N → ℕ → Option (List ℕ) → Option (List ℕ)
    → Option (List ℕ) → Type 0
EndsByWords seen (Some (Forward service)) met status told before now = EndsForward seen service met status told before now
EndsByWords seen (Some Help) met status told before now = EndsBare met status 0 before now help_text
EndsByWords seen (Some Version) met status told before now = EndsBare met status 0 before now version_text
EndsByWords seen None met status told before now = EndsBare met status 2 before now bad_words_text

-- status 4 is only for words that ask to serve clients
abbrev pub StopsByWords : {D N : Type 0} → NetView D N → Option Form → Met D N → ℕ → ℕ → Type 0
StopsByWords seen (Some (Forward service)) met failed_reads now = IsStopped seen service met failed_reads now
StopsByWords seen _ met failed_reads now = ⊥
