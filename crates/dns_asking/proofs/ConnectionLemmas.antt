-- What the sends of a handle over one connection come from.
use Rattle.std.proofs.Common.{ℕ, ◌≡◌, ◌≤◌, ◌*◌, ◌⊎◌, inl, inr, ◌∙◌, Bool, true, false, cond, List, [], ◌∷◌, ◌++◌, length, nat_le, Option, None, Some, Result, Ok, Err, refl, sym, ap, subst, arith, length-append, length-drop}
use Rattle.std.proofs.lemmas.Bool.{leb-true}
use Rattle.std.proofs.lemmas.List.Elements.{All-append, All-cons, All-nil, All-tail}
use Rattle.std.specs.List.{All}
use Rattle.std.specs.declared.net.socket_addr.SocketAddr.{SocketAddr}
use Rattle.std.specs.Result.{result_ok}
use Rattle.dns_model.specs.Counts.{Rose, RoseBy}
use Rattle.dns_model.specs.Names.{wire}
use Rattle.dns_model.specs.Records.{MessageValue, Question}
use Rattle.dns_message.specs.WrittenAs.{encoded, written}
use Rattle.dns_message.specs.declared.encode_error.EncodeError.{EncodeError}
use Rattle.dns_message.specs.declared.encode_error.EncodeError.TheVariants as encode
use Rattle.dns_handle.specs.Errors as told
use Rattle.dns_handle.specs.Errors.{Reply, ErrorValue}
use Rattle.dns_handle.specs.Replies.{error_of}
use Rattle.dns_handle.specs.Requests.{RequestValue}
use Rattle.dns_handle.specs.declared.error.NetError.{NetError}
use Rattle.dns_handle.specs.declared.error.NetError.TheVariants.{Busy, Dns, Message, Msg, NoConnections, Proto, Io, Timeout, QueryCaseMismatch, ForeignClassRecord, Truncated, NoMemory}
use Rattle.dns_handle.specs.declared.io_kind.IoKind.{IoKind}
use Rattle.dns_handle.specs.declared.io_kind.IoKind.TheVariants.{PermissionDenied, ConnectionRefused, ConnectionReset, ConnectionAborted, NotConnected, AddrInUse, AddrNotAvailable, BrokenPipe, InvalidData, TimedOut, UnexpectedEof, RequestTooLong, Other}
use Rattle.dns_handle.specs.declared.protocol.Protocol.TheVariants.{Tcp}
use Rattle.dns_link.specs.Counts.{CountsValue, no_counts, with_counts}
use Rattle.dns_link.specs.Moved.{DatagramValue}
use Rattle.dns_multiplexer.specs.Draws.{Plays, request_bytes}
use Rattle.dns_multiplexer.specs.Events.{Send, last_drawn}
use Rattle.dns_multiplexer.specs.History.{put_out}
use Rattle.dns_multiplexer.specs.Machine.{State, send_reply}
use Rattle.dns_multiplexer.specs.Messages.{SerialMessageValue, with_id}
use Rattle.dns_tcp.specs.Causes.{DrainCause, DrainFault, FeedCause, FeedFault, IsMisaddressed, IsOverlong}
use Rattle.dns_tcp.specs.declared.feed.Feed.{Feed}
use Rattle.dns_tcp.specs.declared.feed.Feed.TheVariants.{Closed}
use Rattle.dns_tcp.specs.Frames.{most_framed}
use Rattle.dns_tcp.specs.Links.{LinkView}
use Rattle.dns_tcp.specs.Streams.{StreamValue, new_stream}
use Rattle.dns_tcp.proofs.CauseLemmas.{feed_answer}
use Rattle.dns_tcp.proofs.DrainLemmas.{drain_answer}
use Rattle.dns_tcp.specs.Exchanges.{Carried, WasWritten, DrainFailed, NoRoomToWrite, Exchanged, Unconnected, Refused, Sent, Parts, Received, Answered, Unanswered, WasClosed, FeedFailed, NoRoom, most_messages}
use Rattle.dns_tcp.specs.Making.{new_parts}
use Rattle.dns_tcp.specs.Reads.{HasFed, HasRead, Sight, reads_for_all, sight}
use Rattle.dns_tcp.specs.Writes.{HasDrained, HasWritten, message_to, messages_to}
use Rattle.dns_udp.specs.Met.{DialerView, dialer_view}
use Rattle.dns_evidence.specs.declared.verifier.Verifier as verifier
use Rattle.dns_handle.specs.Conversions.{outside_failed}
use Rattle.dns_handle.specs.declared.handle.DnsHandle as handle
use Rattle.dns_flow.specs.declared.asks.Ask.{Ask}
use Rattle.dns_flow.specs.Phases.{judged_ask}
use Rattle.dns_link.specs.Counts.{with_fault}
use Rattle.dns_lookup.specs.Calls.{ask_of_call, first_ask_of_call}
use Rattle.dns_tcp.specs.Exchanges.{milliseconds}
use Rattle.dns_tcp.specs.ExchangeParts.{parts_of}
use Rattle.dns_tcp.specs.declared.tcp_exchange.TcpExchange.{TcpExchange}
use Rattle.dns_asking.specs.Lookups.{LooksUp, call_over}
use Rattle.dns_asking.specs.declared.inquiry.Inquiry.{Inquiry}
use Rattle.dns_asking.proofs.AnswerLemmas.{lookup_caused}
use Rattle.dns_asking.specs.Causes.{AnswerCause, FailedOrEnded, HasCome}
use Rattle.dns_asking.proofs.CountLemmas.{fault_rose, rose_by_none, rose_by_then, sum_later, sum_rose, sum_rose_one}
use Rattle.dns_asking.proofs.RequestLemmas.{first_request, never_long}

-- what a dialer counts once it has a link back, and the datagrams that it tells
abbrev pub with_link : DialerView → CountsValue → DialerView
with_link before met = record { counts = with_counts before.counts met; given = before.given }

-- ---- what a link counted, as a dialer counts it that has it back

module _ (before : DialerView) (met : CountsValue) where
  fault_counts : Rose 0 met.faults → FailedOrEnded before.counts (with_counts before.counts met)
  fault_counts h = inl (sum_rose_one before.counts.faults met.faults h)

  end_counts : Rose 0 met.ends → FailedOrEnded before.counts (with_counts before.counts met)
  end_counts h = inr (sum_rose_one before.counts.ends met.ends h)

  got_counts : Rose 0 met.gots → HasCome before.counts (with_counts before.counts met)
  got_counts h = sum_rose_one before.counts.gots met.gots h

  failed_kind : (kind : IoKind) → FailedOrEnded before.counts (with_counts before.counts met)
      → AnswerCause Tcp before (with_link before met) (Err (told.Io kind))
  failed_kind PermissionDenied h = h
  failed_kind ConnectionRefused h = h
  failed_kind ConnectionReset h = h
  failed_kind ConnectionAborted h = h
  failed_kind NotConnected h = h
  failed_kind AddrInUse h = h
  failed_kind AddrNotAvailable h = h
  failed_kind BrokenPipe h = inl h
  failed_kind InvalidData h = h
  failed_kind TimedOut h = h
  failed_kind UnexpectedEof h = h
  failed_kind RequestTooLong h = h
  failed_kind Other h = h

  -- a kind that `feed` answers of a link that had counted no fault and no end, and of a stream that hadn't failed
  feed_kind : (from : CountsValue) (stream : StreamValue) (kind : IoKind) → from.faults ≡ 0 → from.ends ≡ 0
      → stream.failed ≡ false
      → FeedFault from met stream kind → AnswerCause Tcp before (with_link before met) (Err (told.Io kind))
  feed_kind from stream PermissionDenied f e open_ h = fault_counts (subst (λ n. Rose n met.faults) f h)
  feed_kind from stream ConnectionRefused f e open_ h = fault_counts (subst (λ n. Rose n met.faults) f h)
  feed_kind from stream ConnectionReset f e open_ h = fault_counts (subst (λ n. Rose n met.faults) f h)
  feed_kind from stream ConnectionAborted f e open_ h = fault_counts (subst (λ n. Rose n met.faults) f h)
  feed_kind from stream NotConnected f e open_ (inl failed) = absurd (let no : true ≡ false = sym failed ∙ open_ in cc)
  feed_kind from stream NotConnected f e open_ (inr h) = fault_counts (subst (λ n. Rose n met.faults) f h)
  feed_kind from stream AddrInUse f e open_ h = fault_counts (subst (λ n. Rose n met.faults) f h)
  feed_kind from stream AddrNotAvailable f e open_ h = fault_counts (subst (λ n. Rose n met.faults) f h)
  feed_kind from stream BrokenPipe f e open_ (inl h) = inl (end_counts (subst (λ n. Rose n met.ends) e h.1))
  feed_kind from stream BrokenPipe f e open_ (inr (inl h)) = inr (got_counts (omega (arith, h)))
  feed_kind from stream BrokenPipe f e open_ (inr (inr h)) = inl (fault_counts (subst (λ n. Rose n met.faults) f h))
  feed_kind from stream InvalidData f e open_ h = fault_counts (subst (λ n. Rose n met.faults) f h)
  feed_kind from stream TimedOut f e open_ h = fault_counts (subst (λ n. Rose n met.faults) f h)
  feed_kind from stream UnexpectedEof f e open_ h = fault_counts (subst (λ n. Rose n met.faults) f h)
  feed_kind from stream RequestTooLong f e open_ h = fault_counts (subst (λ n. Rose n met.faults) f h)
  feed_kind from stream Other f e open_ h = fault_counts (subst (λ n. Rose n met.faults) f h)

  feed_error : (from : CountsValue) (stream : StreamValue) (error : NetError) → from.faults ≡ 0 → from.ends ≡ 0
      → stream.failed ≡ false
      → FeedCause from met stream (Err error) → AnswerCause Tcp before (with_link before met) (Err (error_of error))
  feed_error from stream Busy f e open_ h = absurd h
  feed_error from stream (Dns error) f e open_ h = absurd h
  feed_error from stream (Message notice) f e open_ h = absurd h
  feed_error from stream (Msg text) f e open_ h = absurd h
  feed_error from stream NoConnections f e open_ h = absurd h
  feed_error from stream (Proto error) f e open_ h = absurd h
  feed_error from stream (Io kind) f e open_ h = feed_kind from stream kind f e open_ h
  feed_error from stream Timeout f e open_ h = inl
      (sum_rose_one before.counts.faults met.faults (subst (λ n. Rose n met.faults) f h))
  feed_error from stream QueryCaseMismatch f e open_ h = absurd h
  feed_error from stream (ForeignClassRecord owner class rtype) f e open_ h = absurd h
  feed_error from stream Truncated f e open_ h = absurd h
  feed_error from stream NoMemory f e open_ h = tt

  -- and a kind that `drain` answers, where the next message can be written
  drain_kind : (stream : StreamValue) (kind : IoKind) → stream.failed ≡ false → (IsMisaddressed stream → ⊥)
      → (IsOverlong stream → ⊥)
      → DrainFault no_counts met stream kind → AnswerCause Tcp before (with_link before met) (Err (told.Io kind))
  drain_kind stream PermissionDenied open_ m l h = fault_counts h
  drain_kind stream ConnectionRefused open_ m l h = fault_counts h
  drain_kind stream ConnectionReset open_ m l h = fault_counts h
  drain_kind stream ConnectionAborted open_ m l h = fault_counts h
  drain_kind stream NotConnected open_ m l (inl failed) = absurd (let no : true ≡ false = sym failed ∙ open_ in cc)
  drain_kind stream NotConnected open_ m l (inr h) = fault_counts h
  drain_kind stream AddrInUse open_ m l h = fault_counts h
  drain_kind stream AddrNotAvailable open_ m l h = fault_counts h
  drain_kind stream BrokenPipe open_ m l h = inl (fault_counts h)
  drain_kind stream InvalidData open_ m l (inl is) = absurd (m is)
  drain_kind stream InvalidData open_ m l (inr h) = fault_counts h
  drain_kind stream TimedOut open_ m l h = fault_counts h
  drain_kind stream UnexpectedEof open_ m l h = fault_counts h
  drain_kind stream RequestTooLong open_ m l (inl is) = absurd (l is)
  drain_kind stream RequestTooLong open_ m l (inr h) = fault_counts h
  drain_kind stream Other open_ m l (inl h) = end_counts h
  drain_kind stream Other open_ m l (inr h) = fault_counts h

  drain_error : (stream new : StreamValue) (error : NetError) → stream.failed ≡ false → (IsMisaddressed stream → ⊥)
      → (IsOverlong stream → ⊥)
      → DrainCause no_counts met stream new (Err error)
      → AnswerCause Tcp before (with_link before met) (Err (error_of error))
  drain_error stream new Busy open_ m l h = absurd h
  drain_error stream new (Dns error) open_ m l h = absurd h
  drain_error stream new (Message notice) open_ m l h = absurd h
  drain_error stream new (Msg text) open_ m l h = absurd h
  drain_error stream new NoConnections open_ m l h = absurd h
  drain_error stream new (Proto error) open_ m l h = absurd h
  drain_error stream new (Io kind) open_ m l h = drain_kind stream kind open_ m l h
  drain_error stream new Timeout open_ m l h = inl (sum_rose_one before.counts.faults met.faults h)
  drain_error stream new QueryCaseMismatch open_ m l h = absurd h
  drain_error stream new (ForeignClassRecord owner class rtype) open_ m l h = absurd h
  drain_error stream new Truncated open_ m l h = absurd h
  drain_error stream new NoMemory open_ m l h = tt

  reading_late : RoseBy 2047 0 met.gots → AnswerCause Tcp before (with_link before met) (Err told.Timeout)
  reading_late h = inr (sum_rose 2047 before.counts.gots met.gots h)

-- ---- a link's counts during a send

module _ {L : Type 0} (seen : LinkView L) where
  read_later : (a b : Sight) (old new : StreamValue) (ms : List (List ℕ)) → HasRead a b old new ms
      → RoseBy 0 a.counts.gots b.counts.gots
  read_later a b old new ms h = let more = h.gots in omega (arith, more)

  fed_later : (a b : Sight) (old new : StreamValue) (ms : List (List ℕ)) (reply : Result Feed NetError)
      → HasFed seen a b old new ms reply
      → RoseBy 0 a.counts.gots b.counts.gots
  fed_later a b old new ms reply h =
      rose_by_then 0 _ _ _ (read_later a (sight seen h.link) old h.stream ms h.before)
      (subst (λ (s : Sight). RoseBy 0 (seen.counts h.link).gots s.counts.gots) (sym h.until)
      (feed_answer seen h.link h.new_link h.stream new reply h.fed).later.gots)

  received_later : (a b : Sight) (old new : StreamValue) (id most : ℕ) (closed : Bool) (reply : Reply)
      → Received seen a b old new id most closed reply → RoseBy 0 a.counts.gots b.counts.gots
  received_later a b old new id most closed reply (Answered earlier bytes message h unanswered is own open_ r) =
      read_later a b old new _ h
  received_later a b old new id most closed reply (Unanswered ms h size others open_ r) = read_later a b old new ms h
  received_later a b old new id most closed reply (WasClosed ms h unanswered shut r) = fed_later a b old new ms _ h
  received_later a b old new id most closed reply (FeedFailed ms error h unanswered open_ r) =
      fed_later a b old new ms _ h
  received_later a b old new id most closed reply (NoRoom earlier bytes h unanswered open_ r) =
      read_later a b old new _ h

  written_counts : (a b : Sight) (old new : StreamValue) (ms : List SerialMessageValue) → HasWritten a b old new ms
      → b.counts ≡ a.counts
  written_counts a b old new ms h = h.counts

  drained_later : (a b : Sight) (old new : StreamValue) (ms : List SerialMessageValue) (error : NetError)
      → HasDrained seen a b old new ms error → RoseBy 0 a.counts.gots b.counts.gots
  drained_later a b old new ms error h =
      subst (λ (s : Sight). RoseBy 0 a.counts.gots s.counts.gots) (sym h.until)
      (subst (λ (c : CountsValue). RoseBy 0 c.gots (seen.counts h.new_link).gots) h.before.counts
      (drain_answer seen h.link h.new_link h.stream new (Err error) h.drained).later.gots)

  carried_later : (a b : Sight) (old new : StreamValue) (out left : List SerialMessageValue) (id : ℕ)
      (closed : Bool) (reply : Reply)
      → Carried seen a b old new out left id closed reply → RoseBy 0 a.counts.gots b.counts.gots
  carried_later a b old new out left id closed reply (WasWritten mid mid_stream h none received) =
      subst (λ (c : CountsValue). RoseBy 0 c.gots b.counts.gots) h.out.counts
      (received_later mid b mid_stream new id most_messages closed reply received)
  carried_later a b old new out left id closed reply (DrainFailed moved error parted h open_ r) =
      drained_later a b old new _ error h
  carried_later a b old new out left id closed reply (NoRoomToWrite moved lost parted h open_ r) =
      subst (λ (c : CountsValue). RoseBy 0 a.counts.gots c.gots) (sym h.out.counts) (rose_by_none _)

  pub exchanged_later : {R : Type 0} (draw : R → ℕ → R → Type 0) (old new : Parts L R) (request : RequestValue)
      (moment : ℕ) (reply : Reply)
      → Exchanged seen draw old new request moment reply
      → RoseBy 0 (seen.counts old.link).gots (seen.counts new.link).gots
  exchanged_later draw old new request moment reply (Unconnected shut same r) =
      subst (λ (p : Parts L _). RoseBy 0 (seen.counts old.link).gots (seen.counts p.link).gots) (sym same)
      (rose_by_none _)
  exchanged_later draw old new request moment reply (Refused error open_ send link stream core r) =
      subst (λ l. RoseBy 0 (seen.counts old.link).gots (seen.counts l).gots) (sym link) (rose_by_none _)
  exchanged_later draw old new request moment reply (Sent number sent open_ send carried settings ended lives) =
      carried_later (sight seen old.link) (sight seen new.link) old.stream new.stream _ _ _ _ reply carried

reads_from_none : (ms : List (List ℕ)) → reads_for_all [] ms ≡ 2 * length ms
reads_from_none [] = refl
reads_from_none (m ∷ ms) = omega arith

-- ---- the messages of a first send can be written

-- a message for the peer that has a frame
pub record CanBeWritten (peer : SocketAddr) (m : SerialMessageValue) : Type 0 where
  pub addressed : m.addr ≡ peer
  pub fits : length m.bytes ≤ most_framed

one_written : (peer : SocketAddr) (bytes : List ℕ) → length bytes ≤ most_framed
    → All (CanBeWritten peer) (message_to peer bytes)
one_written peer [] fits = All-nil (CanBeWritten peer)
one_written peer (b ∷ bs) fits =
    All-cons (CanBeWritten peer) _ [] (record { addressed = refl; fits = fits }) (All-nil (CanBeWritten peer))

messages_written : (peer : SocketAddr) (ms : List SerialMessageValue) → All (λ m. length m.bytes ≤ most_framed) ms
    → All (CanBeWritten peer) (messages_to peer ms)
messages_written peer [] fits = All-nil (CanBeWritten peer)
messages_written peer (m ∷ ms) fits =
    All-append (CanBeWritten peer) (message_to peer m.bytes) (messages_to peer ms)
    (one_written peer m.bytes (fits 0 m (omega arith)))
    (messages_written peer ms (All-tail (λ (x : SerialMessageValue). length x.bytes ≤ most_framed) m ms fits))

cons_head : {X : Type 0} (x y : X) (xs ys : List X) → x ∷ xs ≡ y ∷ ys → x ≡ y
cons_head x y xs ys h = cc

cons_tail : {X : Type 0} (x y : X) (xs ys : List X) → x ∷ xs ≡ y ∷ ys → xs ≡ ys
cons_tail x y xs ys h = cc

no_cons : {X : Type 0} (x : X) (xs : List X) → [] ≡ x ∷ xs → ⊥
no_cons x xs h = cc

head_all : {X : Type 0} (P : X → Type 0) (x : X) (xs : List X) → All P (x ∷ xs) → P x
head_all P x xs all = all 0 x (omega arith)

-- the first and the last of a list are among it
prefix_all : {X : Type 0} (P : X → Type 0) (xs ys zs : List X) → All P zs → zs ≡ xs ++ ys → All P xs
prefix_all P [] ys zs all is = All-nil P
prefix_all P (x ∷ xs) ys [] all is = absurd (no_cons x (xs ++ ys) is)
prefix_all P (x ∷ xs) ys (z ∷ zs) all is =
    All-cons P x xs (subst P (cons_head z x zs (xs ++ ys) is) (head_all P z zs all))
    (prefix_all P xs ys zs (All-tail P z zs all) (cons_tail z x zs (xs ++ ys) is))

suffix_all : {X : Type 0} (P : X → Type 0) (xs ys zs : List X) → All P zs → zs ≡ xs ++ ys → All P ys
suffix_all P [] ys zs all is = subst (All P) is all
suffix_all P (x ∷ xs) ys [] all is = absurd (no_cons x (xs ++ ys) is)
suffix_all P (x ∷ xs) ys (z ∷ zs) all is =
    suffix_all P xs ys zs (All-tail P z zs all) (cons_tail z x zs (xs ++ ys) is)

no_misaddressed : (stream : StreamValue) → All (CanBeWritten stream.peer) stream.queue → IsMisaddressed stream → ⊥
no_misaddressed stream all is =
    is.elsewhere (head_all (CanBeWritten stream.peer) is.message is.rest
    (subst (All (CanBeWritten stream.peer)) is.next.1 all)).addressed

no_overlong : (stream : StreamValue) → All (CanBeWritten stream.peer) stream.queue → IsOverlong stream → ⊥
no_overlong stream all is =
    let fits = (head_all (CanBeWritten stream.peer) is.message is.rest
    (subst (All (CanBeWritten stream.peer)) is.next.1 all)).fits in
    omega (arith, fits, is.long)

-- what is put out of a request has a frame
encoded_fits : (test : Bool) (bytes request : List ℕ) → (nat_le (length bytes) 65535) ≡ test
    → result_ok (cond {A = Result (List ℕ) EncodeError} test (Ok bytes) (Err encode.TooLong)) ≡ Some request
    → length request ≤ 65535
encoded_fits true bytes request fits is =
    let same : bytes ≡ request = some_is bytes request is in
    omega (arith, leb-true _ _ fits, ap length same)
  where
    some_is : (xs ys : List ℕ) → Some xs ≡ Some ys → xs ≡ ys
    some_is xs ys h = cc
encoded_fits false bytes request fits is = absurd (none_some request is)
  where
    none_some : (xs : List ℕ) → None ≡ Some xs → ⊥
    none_some xs h = cc

request_fits : (request : RequestValue) (bytes : List ℕ) → request_bytes request ≡ Some bytes → length bytes ≤ 65535
unfolding encoded
request_fits request bytes is =
    encoded_fits (nat_le (length (written request.message)) 65535) (written request.message) bytes refl is

with_id_fits : (id : ℕ) (bytes : List ℕ) → length bytes ≤ 65535 → length (with_id id bytes) ≤ most_framed
with_id_fits id bytes fits = omega (arith, fits, length-drop 2 bytes)

put_out_fits : (server : SocketAddr) (request : Option (List ℕ)) (moment : ℕ) (drawn : List ℕ) (number : ℕ)
    → ((bytes : List ℕ) → request ≡ Some bytes → length bytes ≤ 65535)
    → All (λ m. length m.bytes ≤ most_framed) (put_out server (Send request moment drawn true (Ok number)))
put_out_fits server None moment drawn number fits = All-nil (λ (m : SerialMessageValue). length m.bytes ≤ most_framed)
put_out_fits server (Some bytes) moment drawn number fits =
    All-cons (λ (m : SerialMessageValue). length m.bytes ≤ most_framed)
    (record { bytes = with_id (last_drawn drawn) bytes; addr = server }) []
    (with_id_fits (last_drawn drawn) bytes (fits bytes refl))
    (All-nil (λ (m : SerialMessageValue). length m.bytes ≤ most_framed))

same_error : (e f : ErrorValue) → (let y : Result ℕ ErrorValue = Err e in y) ≡ Err f → e ≡ f
same_error e f h = cc

none_long : (test : Bool) (bytes : List ℕ)
    → result_ok (cond {A = Result (List ℕ) EncodeError} test (Ok bytes) (Err encode.TooLong)) ≡ None
    → cond {A = Result (List ℕ) EncodeError} test (Ok bytes) (Err encode.TooLong) ≡ Err encode.TooLong
none_long true bytes h = cc
none_long false bytes h = refl

-- a request that isn't too long has bytes
bytes_there : (m : MessageValue) → (encoded m ≡ Err encode.TooLong → ⊥) → result_ok (encoded m) ≡ None → ⊥
unfolding encoded
bytes_there m short h = short (none_long (nat_le (length (written m)) 65535) (written m) h)

-- ---- the first send, over a new link

module _ {L R : Type 0} (seen : LinkView L) (draw : R → ℕ → R → Type 0) (before : DialerView) (link : L)
    (server : SocketAddr) (draws : R)
    (is_new : seen.counts link ≡ no_counts) where
  abbrev begun : Parts L R
  begun = new_parts link (new_stream server []) draws 5000 None

  -- the stream has neither failed nor read a part
  pub record IsFresh (stream : StreamValue) : Type 0 where
    pub open_ : stream.failed ≡ false
    pub part : stream.part ≡ []
    pub peer : stream.peer ≡ server

  written_fresh : (a b : Sight) (stream : StreamValue) (ms : List SerialMessageValue)
      → HasWritten a b (new_stream server []) stream ms → IsFresh stream
  written_fresh a b stream ms h = record {
    open_ = ap (λ (s : StreamValue). s.failed) h.kept;
    part = ap (λ (s : StreamValue). s.part) h.kept;
    peer = ap (λ (s : StreamValue). s.peer) h.kept;
  }

  read_fresh : (a b : Sight) (old stream : StreamValue) (ms : List (List ℕ)) → IsFresh old → HasRead a b old stream ms
      → stream.failed ≡ false
  read_fresh a b old stream ms fresh h = ap (λ (s : StreamValue). s.failed) h.kept ∙ fresh.open_

  messages_gots : (a b : Sight) (old stream : StreamValue) (ms : List (List ℕ)) → a.counts ≡ no_counts → IsFresh old
      → HasRead a b old stream ms → RoseBy (2 * length ms) 0 b.counts.gots
  messages_gots a b old stream ms none fresh h =
      subst (λ (c : CountsValue). RoseBy (2 * length ms) c.gots b.counts.gots) none
      (subst (λ n. RoseBy n a.counts.gots b.counts.gots)
      (ap (λ (p : List ℕ). reads_for_all p ms) fresh.part ∙ reads_from_none ms) h.gots)

  some_messages : (earlier : List (List ℕ)) (bytes : List ℕ) → 1 ≤ length (earlier ++ bytes ∷ [])
  some_messages earlier bytes = omega (arith, length-append earlier (bytes ∷ []))

  fed_counts : (a b : Sight) (old stream : StreamValue) (ms : List (List ℕ)) (reply : Result Feed NetError)
      → a.counts ≡ no_counts
      → (h : HasFed seen a b old stream ms reply)
      → ((seen.counts h.link).faults ≡ 0) × ((seen.counts h.link).ends ≡ 0)
  fed_counts a b old stream ms reply none h =
      (h.before.faults ∙ ap (λ (c : CountsValue). c.faults) none, h.before.ends ∙ ap (λ (c : CountsValue). c.ends) none)

  -- how messages are answered that were read behind what was written
  received_cause : (a b : Sight) (old new : StreamValue) (id : ℕ) (closed : Bool) (reply : Reply)
      → a.counts ≡ no_counts → IsFresh old
      → Received seen a b old new id most_messages closed reply
      → AnswerCause Tcp before (with_link before b.counts) reply
  received_cause a b old new id closed reply none fresh (Answered earlier bytes message h unanswered is own open_ r) =
      let gots = messages_gots a b old new _ none fresh h in
      let some = some_messages earlier bytes in
      subst (λ x. AnswerCause Tcp before (with_link before b.counts) x) (sym r)
      (got_counts before b.counts (omega (arith, gots, some)))
  received_cause a b old new id closed reply none fresh (Unanswered ms h size others open_ r) =
      let gots = messages_gots a b old new ms none fresh h in
      subst (λ x. AnswerCause Tcp before (with_link before b.counts) x) (sym r)
      (reading_late before b.counts (omega (arith, gots, size)))
  received_cause a b old new id closed reply none fresh (WasClosed ms h unanswered shut r) =
      let zero_counts = fed_counts a b old new ms (Ok Closed) none h in
      let answer = feed_answer seen h.link h.new_link h.stream new (Ok Closed) h.fed in
      subst (λ x. AnswerCause Tcp before (with_link before b.counts) x) (sym r)
      (subst (λ (s : Sight). FailedOrEnded before.counts (with_counts before.counts s.counts)) (sym h.until)
      (end_counts before (seen.counts h.new_link)
      (subst (λ n. Rose n (seen.counts h.new_link).ends) zero_counts.1 answer.cause.1)))
  received_cause a b old new id closed reply none fresh (FeedFailed ms error h unanswered open_ r) =
      let zero_counts = fed_counts a b old new ms (Err error) none h in
      let answer = feed_answer seen h.link h.new_link h.stream new (Err error) h.fed in
      subst (λ x. AnswerCause Tcp before (with_link before b.counts) x) (sym r)
      (subst (λ (s : Sight). AnswerCause Tcp before (with_link before s.counts) (Err (error_of error))) (sym h.until)
      (feed_error before (seen.counts h.new_link) (seen.counts h.link) h.stream error zero_counts.0 zero_counts.1
      (read_fresh a (sight seen h.link) old h.stream ms fresh h.before) answer.cause))
  received_cause a b old new id closed reply none fresh (NoRoom earlier bytes h unanswered open_ r) =
      subst (λ x. AnswerCause Tcp before (with_link before b.counts) x) (sym r) tt

  -- writing failed
  drained_cause : (b : Sight) (new : StreamValue) (moved left out : List SerialMessageValue) (error : NetError)
      → All (λ m. length m.bytes ≤ most_framed) out → out ≡ moved ++ left
      → HasDrained seen (sight seen link) b (new_stream server []) new (messages_to server moved) error
      → AnswerCause Tcp before (with_link before b.counts) (Err (error_of error))
  drained_cause b new moved left out error fits parted h =
      let fresh = written_fresh _ _ h.stream _ h.before in
      let can = suffix_all (CanBeWritten server) h.before.begun h.stream.queue (messages_to server moved)
      (messages_written server moved (prefix_all (λ (m : SerialMessageValue). length m.bytes ≤ most_framed) moved
      left out fits parted)) h.before.waiting in
      let queued = subst (λ p. All (CanBeWritten p) h.stream.queue) (sym fresh.peer) can in
      let answer = drain_answer seen h.link h.new_link h.stream new (Err error) h.drained in
      subst (λ (s : Sight). AnswerCause Tcp before (with_link before s.counts) (Err (error_of error))) (sym h.until)
      (drain_error before (seen.counts h.new_link) h.stream new error fresh.open_ (no_misaddressed h.stream queued)
      (no_overlong h.stream queued)
      (subst (λ (c : CountsValue). DrainCause c (seen.counts h.new_link) h.stream new (Err error))
      (h.before.counts ∙ is_new) answer.cause))

  carried_cause : (b : Sight) (new : StreamValue) (out left : List SerialMessageValue) (id : ℕ) (closed : Bool)
      (reply : Reply)
      → All (λ m. length m.bytes ≤ most_framed) out
      → Carried seen (sight seen link) b (new_stream server []) new out left id closed reply
      → AnswerCause Tcp before (with_link before b.counts) reply
  carried_cause b new out left id closed reply fits (WasWritten mid mid_stream h none received) =
      received_cause mid b mid_stream new id closed reply (h.out.counts ∙ is_new)
      (written_fresh _ _ mid_stream _ h.out) received
  carried_cause b new out left id closed reply fits (DrainFailed moved error parted h open_ r) =
      subst (λ x. AnswerCause Tcp before (with_link before b.counts) x) (sym r)
      (drained_cause b new moved left out error fits parted h)
  carried_cause b new out left id closed reply fits (NoRoomToWrite moved lost parted h open_ r) =
      subst (λ x. AnswerCause Tcp before (with_link before b.counts) x) (sym r) tt

  -- a new multiplexer refuses no request that isn't too long
  refused_never : (request : Option (List ℕ)) (drawn : List ℕ) (error : ErrorValue) → (request ≡ None → ⊥)
      → Err error ≡ send_reply begun.core.settings begun.core.state request drawn → ⊥
  refused_never None drawn error some h = some refl
  refused_never (Some bytes) drawn error some h = let no : (let y : Result ℕ ErrorValue = Err error in y) ≡ Ok 0 =
      h in cc

  pub first_exchange : (q : Question) (depth moment : ℕ) (new : Parts L R) (reply : Reply) → length (wire q.owner) ≤ 255
      → Exchanged seen draw begun new (first_request q depth) moment reply
      → AnswerCause Tcp before (with_link before (seen.counts new.link)) reply
  first_exchange q depth moment new reply short (Unconnected shut same r) = absurd (let no : false ≡ true = shut in cc)
  first_exchange q depth moment new reply short (Refused error open_ send l s c r) = elim (send.played) [
    | inl none ↦ subst (λ x. AnswerCause Tcp before (with_link before (seen.counts new.link)) x)
        (sym (r ∙ ap Err (same_error error told.NoMemory none.0))) tt
    | inr plays ↦ absurd (refused_never _ send.drawn error
        (bytes_there (first_request q depth).message (never_long q depth 0 short)) plays.answered.2)
  ]
  first_exchange q depth moment new reply short (Sent number sent open_ send carried settings ended lives) =
      carried_cause (sight seen new.link) new.stream sent.outbound _ _ _ reply (out_fits send.played) carried
    where
      out_fits : ((Ok number ≡ Err told.NoMemory) × (sent ≡ begun.core.state))
          ⊎ Plays begun.core.settings begun.core.state sent
          (Send (request_bytes (first_request q depth)) moment send.drawn true (Ok number))
          → All (λ m. length m.bytes ≤ most_framed) sent.outbound
      out_fits (inl none) = absurd (let no = none.0 in cc)
      out_fits (inr plays) =
          subst (λ (t : State). All (λ m. length m.bytes ≤ most_framed) t.outbound) (sym plays.moved)
          (put_out_fits server (request_bytes (first_request q depth)) moment send.drawn number
          (request_fits (first_request q depth)))

-- ---- a lookup over a connection

-- what is seen of the dialer once the handle is let go
abbrev pub dialer_after : {L R : Type 0} → LinkView L → DialerView → TcpExchange L R → DialerView
dialer_after seen before exchange = with_link before (seen.counts (parts_of exchange).link)

-- each answer of a lookup over a connection has its cause
module _ {L R V : Type 0} (seen : LinkView L) (draw : R → ℕ → R → Type 0)
    (meanings : handle.Ghosts (TcpExchange L R)) (tests : verifier.Ghosts V) (inquiry : Inquiry V) where
  pub connection_caused : ((old new : TcpExchange L R) (request : RequestValue) (now : ℕ) (reply : Reply)
      → meanings.requested old request now new reply
      → Exchanged seen draw (parts_of old) (parts_of new) request (milliseconds now) reply)
      → (before : DialerView) (link : L) (server : SocketAddr) (draws : R) (first last : TcpExchange L R)
      (reply : Reply)
      → length (wire inquiry.query.owner) ≤ 255 → seen.counts link ≡ no_counts
      → parts_of first ≡ new_parts link (new_stream server []) draws 5000 None
      → LooksUp meanings tests inquiry first last reply
      → AnswerCause Tcp before (dialer_after seen before last) reply
  connection_caused carries before link server draws first last reply short is_new made looked =
      lookup_caused meanings (call_over tests inquiry looked.kept first last) Tcp before (dialer_after seen before)
      (record { first = first_of; later = later_of }) reply looked.is
    where
      first_of : (to : TcpExchange L R) (heard : Reply)
          → first_ask_of_call meanings (call_over tests inquiry looked.kept first last) first
          (judged_ask inquiry.query) to heard
          → AnswerCause Tcp before (dialer_after seen before to) heard
      first_of to heard sent =
          first_exchange seen draw before link server draws is_new inquiry.query inquiry.depth
          (milliseconds inquiry.moment) (parts_of to) heard short
          (subst (λ (p : Parts L R). Exchanged seen draw p (parts_of to) (first_request inquiry.query inquiry.depth)
          (milliseconds inquiry.moment) heard)
          made (carries first to _ _ heard sent.carried))

      later_of : (from to : TcpExchange L R) (ask : Ask) (heard : Reply)
          → ask_of_call meanings (call_over tests inquiry looked.kept first last) from ask to heard
          → RoseBy 0 (dialer_after seen before from).counts.gots (dialer_after seen before to).counts.gots
      later_of from to ask heard sent =
          sum_later before.counts.gots _ _ (exchanged_later seen draw (parts_of from) (parts_of to) _ _ heard
          (carries from to _ _ heard sent.carried))

-- what the dialer has after it has the link back
pub link_back : {D : Type 0} (counts : D → CountsValue) (given : D → Option (List DatagramValue)) (old new : D)
    (met : CountsValue)
    → counts new ≡ with_counts (counts old) met → given new ≡ given old
    → dialer_view counts given new ≡ with_link (dialer_view counts given old) met
link_back counts given old new met c g = rw (c, g) refl

-- a refusal is a fault
failed_fault : (before now : DialerView) (kind : IoKind) → Rose before.counts.faults now.counts.faults
    → AnswerCause Tcp before now (Err (error_of (outside_failed kind)))
failed_fault before now PermissionDenied h = inl h
failed_fault before now ConnectionRefused h = inl h
failed_fault before now ConnectionReset h = inl h
failed_fault before now ConnectionAborted h = inl h
failed_fault before now NotConnected h = inl h
failed_fault before now AddrInUse h = inl h
failed_fault before now AddrNotAvailable h = inl h
failed_fault before now BrokenPipe h = inl (inl h)
failed_fault before now InvalidData h = inl h
failed_fault before now TimedOut h = inl h
failed_fault before now UnexpectedEof h = inl h
failed_fault before now RequestTooLong h = inl h
failed_fault before now Other h = inl h

pub unreached_cause : (before now : DialerView) (kind : IoKind) → now.counts ≡ with_fault before.counts
    → AnswerCause Tcp before now (Err (error_of (outside_failed kind)))
unreached_cause before now kind counts = failed_fault before now kind (fault_rose before.counts now.counts counts)
