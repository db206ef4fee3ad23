-- What the sends of a handle over datagrams come from.
use Rattle.std.proofs.Common.{ℕ, ◌≡◌, ◌≤◌, ◌<◌, inl, inr, ◌∙◌, List, ◌∷◌, length, Option, Ok, Err, refl, sym, ap, subst, arith, length-append}
use Rattle.dns_model.specs.Counts.{Rose, RoseBy}
use Rattle.dns_model.specs.Names.{wire}
use Rattle.dns_model.specs.Records.{Question}
use Rattle.std.specs.declared.net.socket_addr.SocketAddr.{SocketAddr}
use Rattle.dns_message.specs.WrittenAs.{encoded}
use Rattle.dns_message.specs.declared.decode_error.DecodeError.{DecodeError}
use Rattle.dns_udp.specs.Acceptance.{accepted}
use Rattle.dns_handle.specs.Errors.{Reply, Busy, Dns, Message, Msg, NoConnections, Proto, Io, Timeout, QueryCaseMismatch, ForeignClassRecord, Truncated, NoMemory}
use Rattle.dns_handle.specs.declared.error.ProtoError.TheVariants.{Decode, TooLong}
use Rattle.dns_handle.specs.declared.io_kind.IoKind.{IoKind}
use Rattle.dns_handle.specs.declared.io_kind.IoKind.TheVariants.{PermissionDenied, ConnectionRefused, ConnectionReset, ConnectionAborted, NotConnected, AddrInUse, AddrNotAvailable, BrokenPipe, InvalidData, TimedOut, UnexpectedEof, RequestTooLong, Other}
use Rattle.dns_handle.specs.declared.notice.Notice.TheVariants.{NoQueryInRequest, ExpiredRrsig, WrongDnskey, WrongRrsig, ExceededMaxValidationDepth, ExceededMaxNestedQueries, IdSpaceExhausted, SendQueueFull, PolledAfterCompletion, NotAllBytesSent, TransferHasTrailingRecords, TransferIsIncremental, HistoryFull}
use Rattle.dns_handle.specs.declared.protocol.Protocol.TheVariants.{Udp}
use Rattle.dns_handle.specs.Requests.{RequestValue}
use Rattle.dns_link.specs.Calls.{NetCalls}
use Rattle.dns_link.specs.Counts.{CountsValue}
use Rattle.dns_link.specs.Moved.{DatagramValue}
use Rattle.dns_udp.specs.declared.acceptance.Accepted.{Accepted}
use Rattle.dns_udp.specs.declared.acceptance.Accepted.TheVariants.{Undecodable}
use Rattle.dns_udp.specs.Met.{DialerView, HasMet, dialer_view}
use Rattle.dns_udp.specs.ClientStreams.{asked_of, plain_builder}
use Rattle.dns_udp.specs.Conversations.{Ends, EndsByOne, EndsInVain}
use Rattle.dns_udp.specs.Exchanges.{Exchanged, IsExchangeOf, parts_of, under_id}
use Rattle.dns_udp.specs.Requests.{AskedValue}
use Rattle.dns_udp.specs.declared.exchange.UdpExchange.{UdpExchange}
use Rattle.dns_evidence.specs.declared.verifier.Verifier as verifier
use Rattle.dns_handle.specs.declared.handle.DnsHandle as handle
use Rattle.dns_flow.specs.declared.asks.Ask.{Ask}
use Rattle.dns_lookup.specs.Calls.{ask_of_call, first_ask_of_call}
use Rattle.dns_flow.specs.Phases.{judged_ask}
use Rattle.dns_asking.specs.Lookups.{LooksUp, call_over}
use Rattle.dns_asking.specs.declared.inquiry.Inquiry.{Inquiry}
use Rattle.dns_asking.proofs.AnswerLemmas.{lookup_caused}
use Rattle.dns_asking.specs.Causes.{AnswerCause, FailedOrEnded, HasCome, IsUndecodable}
use Rattle.dns_asking.proofs.CountLemmas.{rises_one, rises_rose}
use Rattle.dns_asking.proofs.RequestLemmas.{first_request, never_long, never_mismatched, undecodable_message}

module _ (before now : DialerView) (came : List DatagramValue) (met : CountsValue)
    (has : HasMet before now came met) where
  -- a datagram ended the call
  one_came : (asked : AskedValue) (verdict : Accepted) → EndsByOne asked came met verdict
      → HasCome before.counts now.counts
  one_came asked verdict ends =
      let size = ap length ends.one.all ∙ length-append ends.one.before (ends.one.datagram ∷ ends.one.after) in
      rises_one _ met.gots _ (omega (arith, size, has.gots)) has.counts.gots

  faults_rose : 0 < met.faults → Rose before.counts.faults now.counts.faults
  faults_rose some = rises_one _ met.faults _ (omega (arith, some)) has.counts.faults

  failed_so : 0 < met.faults → FailedOrEnded before.counts now.counts
  failed_so some = inl (faults_rose some)

  ended_so : 0 < met.ends → FailedOrEnded before.counts now.counts
  ended_so some = inr (rises_one _ met.ends _ (omega (arith, some)) has.counts.ends)

  kind_cause : (kind : IoKind) → 0 < met.faults → AnswerCause Udp before now (Err (Io kind))
  kind_cause PermissionDenied some = failed_so some
  kind_cause ConnectionRefused some = failed_so some
  kind_cause ConnectionReset some = failed_so some
  kind_cause ConnectionAborted some = failed_so some
  kind_cause NotConnected some = failed_so some
  kind_cause AddrInUse some = failed_so some
  kind_cause AddrNotAvailable some = failed_so some
  kind_cause BrokenPipe some = inl (failed_so some)
  kind_cause InvalidData some = failed_so some
  kind_cause TimedOut some = failed_so some
  kind_cause UnexpectedEof some = failed_so some
  kind_cause RequestTooLong some = failed_so some
  kind_cause Other some = failed_so some

  vain_cause : (asked : AskedValue) → asked.timeout ≡ 5000 → EndsInVain asked came met
      → AnswerCause Udp before now (Err Timeout)
  vain_cause asked long ends = elim (ends.over) [
    | inl late ↦ inr (inl (rises_rose 50 _ met.quiet _ (omega (arith, late, long)) has.counts.quiet))
    | inr many ↦ inr (inr (rises_rose 65536 _ met.gots _ (omega (arith, many, has.gots)) has.counts.gots))
  ]

  undecoded : (asked : AskedValue) (error : DecodeError) → EndsByOne asked came met (Undecodable error)
      → IsUndecodable before now error
  undecoded asked error ends =
      let d = ends.one.datagram in
      record {
        came = came;
        earlier = ends.one.before;
        datagram = d;
        later = ends.one.after;
        told = has.given;
        among = ends.one.all;
        unread = undecodable_message asked.request.message asked.server d.1 asked.request.options.case_randomization
            d.0 error ends.one.judged;
      }

  -- how a conversation over a request that isn't too long is answered
  conversation_cause : (q : Question) (depth id : ℕ) (asked : AskedValue) (reply : Reply)
      → asked.request ≡ under_id id (first_request q depth) → asked.timeout ≡ 5000 → length (wire q.owner) ≤ 255
      → Ends asked came met reply → AnswerCause Udp before now reply
  conversation_cause q depth id asked (Ok response) same long short (message, one, is) = one_came asked _ one
  conversation_cause q depth id asked (Err Busy) same long short ends = absurd ends
  conversation_cause q depth id asked (Err (Dns error)) same long short ends = absurd ends
  conversation_cause q depth id asked (Err (Message NotAllBytesSent)) same long short ends = ended_so ends.1
  conversation_cause q depth id asked (Err (Message NoQueryInRequest)) same long short ends = absurd ends
  conversation_cause q depth id asked (Err (Message ExpiredRrsig)) same long short ends = absurd ends
  conversation_cause q depth id asked (Err (Message WrongDnskey)) same long short ends = absurd ends
  conversation_cause q depth id asked (Err (Message WrongRrsig)) same long short ends = absurd ends
  conversation_cause q depth id asked (Err (Message ExceededMaxValidationDepth)) same long short ends = absurd ends
  conversation_cause q depth id asked (Err (Message ExceededMaxNestedQueries)) same long short ends = absurd ends
  conversation_cause q depth id asked (Err (Message IdSpaceExhausted)) same long short ends = absurd ends
  conversation_cause q depth id asked (Err (Message SendQueueFull)) same long short ends = absurd ends
  conversation_cause q depth id asked (Err (Message PolledAfterCompletion)) same long short ends = absurd ends
  conversation_cause q depth id asked (Err (Message TransferHasTrailingRecords)) same long short ends = absurd ends
  conversation_cause q depth id asked (Err (Message TransferIsIncremental)) same long short ends = absurd ends
  conversation_cause q depth id asked (Err (Message HistoryFull)) same long short ends = absurd ends
  conversation_cause q depth id asked (Err (Msg text)) same long short ends = absurd ends
  conversation_cause q depth id asked (Err NoConnections) same long short ends = absurd ends
  conversation_cause q depth id asked (Err (Proto (Decode error))) same long short ends =
      (one_came asked _ ends, undecoded asked error ends)
  conversation_cause q depth id asked (Err (Proto TooLong)) same long short ends =
      absurd (never_long q depth id short (ap (λ (r : RequestValue). encoded r.message) (sym same) ∙ ends))
  conversation_cause q depth id asked (Err (Io kind)) same long short ends = kind_cause kind ends.1
  conversation_cause q depth id asked (Err Timeout) same long short (inl vain) = vain_cause asked long vain
  conversation_cause q depth id asked (Err Timeout) same long short (inr fault) = inl (faults_rose fault.1)
  conversation_cause q depth id asked (Err QueryCaseMismatch) same long short ends =
      let d = ends.one.datagram in
      absurd (never_mismatched asked.request.message asked.server d.1 d.0
      (ap (λ (r : RequestValue). accepted asked.request.message asked.server r.options.case_randomization d.1 d.0)
      (sym same) ∙ ends.one.judged))
  conversation_cause q depth id asked (Err (ForeignClassRecord owner class rtype)) same long short ends = absurd ends
  conversation_cause q depth id asked (Err Truncated) same long short ends = absurd ends
  conversation_cause q depth id asked (Err NoMemory) same long short ends = tt

module _ {D R : Type 0} (counts : D → CountsValue) (given : D → Option (List DatagramValue)) (calls : D → Option NetCalls)
    (ids ports : R → ℕ → R → Type 0) where
  -- the dialer of a handle
  abbrev pub dialer_in : UdpExchange D R → DialerView
  dialer_in exchange = dialer_view counts given (parts_of exchange).dial

  -- the first send of a lookup, over a new handle
  pub first_cause : (q : Question) (depth : ℕ) (server : SocketAddr) (dial : D) (draws : R)
      (old new : UdpExchange D R) (reply : Reply)
      → length (wire q.owner) ≤ 255 → IsExchangeOf (plain_builder server) dial draws old
      → Exchanged counts given calls ids ports (parts_of old) (parts_of new) (first_request q depth) reply
      → AnswerCause Udp (dialer_view counts given dial) (dialer_in new) reply
  first_cause q depth server dial draws old new reply short made sent =
      let talk = sent.talk in
      subst (λ d. AnswerCause Udp (dialer_view counts given d) (dialer_in new) reply) made.dial_in
      (conversation_cause (dialer_in old) (dialer_in new) talk.came talk.met talk.has_met q depth sent.id
      (asked_of (parts_of old).stream (under_id sent.id (first_request q depth))) reply refl made.stream.timeout
      short talk.ends)

  -- no send makes the count of datagrams fall
  pub send_later : (request : RequestValue) (old new : UdpExchange D R) (reply : Reply)
      → Exchanged counts given calls ids ports (parts_of old) (parts_of new) request reply
      → RoseBy 0 (dialer_in old).counts.gots (dialer_in new).counts.gots
  send_later request old new reply sent =
      rises_rose 0 _ sent.talk.met.gots _ (omega arith) sent.talk.has_met.counts.gots

  module _ {V : Type 0} (meanings : handle.Ghosts (UdpExchange D R)) (tests : verifier.Ghosts V)
      (inquiry : Inquiry V) where
    -- each answer of a lookup by datagrams has its cause
    pub datagrams_caused : ((old new : UdpExchange D R) (request : RequestValue) (now : ℕ) (reply : Reply)
        → meanings.requested old request now new reply
        → Exchanged counts given calls ids ports (parts_of old) (parts_of new) request reply)
        → (server : SocketAddr) (dial : D) (draws : R) (first last : UdpExchange D R) (reply : Reply)
        → length (wire inquiry.query.owner) ≤ 255 → IsExchangeOf (plain_builder server) dial draws first
        → LooksUp meanings tests inquiry first last reply
        → AnswerCause Udp (dialer_view counts given dial) (dialer_in last) reply
    datagrams_caused carries server dial draws first last reply short made looked =
        lookup_caused meanings (call_over tests inquiry looked.kept first last) Udp (dialer_view counts given dial)
        dialer_in (record { first = first_of; later = later_of }) reply looked.is
      where
        first_of : (to : UdpExchange D R) (heard : Reply)
            → first_ask_of_call meanings (call_over tests inquiry looked.kept first last) first
            (judged_ask inquiry.query) to heard
            → AnswerCause Udp (dialer_view counts given dial) (dialer_in to) heard
        first_of to heard sent =
            first_cause inquiry.query inquiry.depth server dial draws first to heard short made
            (carries first to _ _ heard sent.carried)

        later_of : (from to : UdpExchange D R) (ask : Ask) (heard : Reply)
            → ask_of_call meanings (call_over tests inquiry looked.kept first last) from ask to heard
            → RoseBy 0 (dialer_in from).counts.gots (dialer_in to).counts.gots
        later_of from to ask heard sent = send_later _ from to heard (carries from to _ _ heard sent.carried)
