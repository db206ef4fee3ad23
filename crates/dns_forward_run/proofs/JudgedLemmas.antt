-- What the ports of seats that were served tell, and by what it was judged.
use Rattle.std.proofs.Common.{◌≡◌, ◌<◌, ◌≤◌, ◌∙◌, ℕ, List, [], ◌∷◌, ◌++◌, map, length, Option, None, Some, Result, Ok, Err, inl, inr, refl, sym, ap, subst, append_assoc, append-nil, slice_index_or, arith}
use Rattle.std.specs.Prelude.{All, IfOk, IfSome, Vec}
use Rattle.std.proofs.lemmas.List.{get_or-map, length-map, map-append}
use Rattle.std.proofs.lemmas.List.Elements.{All-nil, All-cons, All-map, All-push}
use Rattle.std.specs.declared.hash.BuildHasher as build_hasher
use Rattle.std.specs.declared.hash.Hasher as hasher
use Rattle.dns_model.specs.Keys.{AnchorValue, anchored}
use Rattle.dns_model.specs.Records.{Question}
use Rattle.dns_evidence.specs.declared.verifier.Verifier as verifier
use Rattle.dns_handle.specs.declared.handle.DnsHandle as handle
use Rattle.dns_handle.specs.declared.protocol.Protocol.{Protocol}
use Rattle.dns_cache.specs.declared.validation_cache.ValidationCache as cache
use Rattle.dns_shared_cache.specs.declared.shared_cache.SharedCache.{SharedCache}
use Rattle.dns_lookup.specs.Calls.{anchors_of, verifier_of}
use Rattle.dns_lookup.specs.declared.handle.DnssecDnsHandle.{DnssecDnsHandle}
use Rattle.dns_forwarded.specs.Requests.{query_of, received_of}
use Rattle.dns_forwarded.specs.declared.outcome.Outcome.{Outcome}
use Rattle.dns_respond.specs.Responding.{LeadsTo}
use Rattle.dns_respond.specs.declared.exchanged.Exchanged.{Exchanged}
use Rattle.dns_ports.specs.declared.port.Port as port
use Rattle.dns_ports.specs.Ports.{TellsMore}
use Rattle.dns_listener.specs.Listening.{IsSilent, TellsPorts, TrafficValue}
use Rattle.dns_seats.specs.Serving.{AllRespond, EndsBare, IsServed, Moves, replies_of, requests_of}
use Rattle.dns_seats.specs.declared.seat.Ended.{Ended}
use Rattle.dns_seats.specs.declared.seat.Ended.TheVariants as ended
use Rattle.dns_seats.specs.declared.seat.Seat.{Seat}
use Rattle.dns_seats.specs.declared.seat.Served.{Served}
use Rattle.dns_session.specs.SessionValue.{SessionValue}
use Rattle.dns_forward_run.specs.Judging.{IsAnswered, IsReplyBy, Judging, TellsAnswered, judging_by, protocol_of}
use Rattle.dns_forward_run.specs.Settings.{AreSilent, IsTrustOf, JudgeAlike, carried_by, judging_in, judging_of, seats_carried, seats_judging}
use Rattle.dns_forward_run.specs.Forwards.{Met, NetView}
use Rattle.dns_forward_run.specs.Steps.{ComesTo, ServesAs, TellsLines, WasAnswered, WhenTold}
use Rattle.dns_forward_run.specs.declared.ending.Ending.{Ending}
use Rattle.dns_forward_run.specs.declared.ending.Ending.TheVariants.{Told, Failed, NoMemory}
use Rattle.dns_forward_run.specs.declared.form.Carried.{Carried}
use Rattle.dns_forward_run.specs.declared.form.Service.{Service}
use Rattle.dns_forward_run.specs.declared.lines.SeatLine.{SeatLine}
use Rattle.dns_forward_run.specs.declared.trust.Trust.{Trust}
use Rattle.dns_forward_run.proofs.RetiredLemmas.{met_seats}

-- ---- a port

heard_on : (mid now : Option (List (List ℕ))) (first more : List (List ℕ)) → IfSome mid (λ l. l ≡ first)
    → TellsMore mid more now → IfSome now (λ l. l ≡ first ++ more)
heard_on mid None first more is tells = tt
heard_on None (Some now) first more is tells = absurd tells
heard_on (Some mid) (Some now) first more is tells = tells ∙ ap (λ l. l ++ more) is

-- a port told these requests and replies, if any
record HasCarried {P : Type 0} (ports : port.Ghosts P) (requests replies : List (List ℕ)) (p : P) : Type 0 where
  received : IfSome (ports.received p) (λ l. l ≡ requests)
  replied : IfSome (ports.replied p) (λ l. l ≡ replies)

carried_on : {P : Type 0} (ports : port.Ghosts P) (old new : P) (rs ss requests replies : List (List ℕ)) (ends : ℕ)
    → HasCarried ports rs ss old → Moves ports old new requests replies ends
    → HasCarried ports (rs ++ requests) (ss ++ replies) new
carried_on ports old new rs ss requests replies ends has moves = record {
  received = heard_on (ports.received old) (ports.received new) rs requests has.received moves.received;
  replied = heard_on (ports.replied old) (ports.replied new) ss replies has.replied moves.replied;
}

-- behind exchanges a port gave one request at most, and sent no reply
answered_by : {P : Type 0} (ports : port.Ghosts P) (by : Judging) (sent : List Exchanged) (last : List (List ℕ)) (p : P)
    → All (IsReplyBy by) sent → length last ≤ 1
    → HasCarried ports (requests_of sent ++ last) (replies_of sent ++ []) p → IsAnswered by (carried_by ports p)
answered_by ports by sent last p each few has = record {
  exchanges = sent;
  each = each;
  last = last;
  few = few;
  received = has.received;
  replied = subst (λ r. IfSome (ports.replied p) (λ l. l ≡ r)) (append-nil (replies_of sent)) has.replied;
}

-- ---- a validator judges as before

module _ {H V C : Type 0} (meanings : handle.Ghosts H) (tests : verifier.Ghosts V) (caches : cache.Ghosts C) where
  abbrev judging_from : Protocol → V → List AnchorValue → Judging
  judging_from protocol v anchors =
      record { answers = tests.answers v; is_anchored = anchored anchors; protocol = protocol }

  abbrev judging : Protocol → DnssecDnsHandle H V C → Judging
  judging protocol validator = judging_from protocol (verifier_of validator) (anchors_of validator)

  kept_judging : (q : Option Question) (protocol : Protocol) (old new : DnssecDnsHandle H V C) (depth now : ℕ)
      (o : Outcome) → LeadsTo meanings tests caches q old new depth now o → judging protocol new ≡ judging protocol old
  kept_judging None protocol old new depth now o same = ap (λ v. judging protocol v) same.1
  kept_judging (Some q) protocol old new depth now o comes =
      ap (λ v. judging_from protocol v (anchors_of new)) comes.looked.counted.verifier
      ∙ ap (λ a. judging_from protocol (verifier_of old) a) comes.looked.counted.anchors

  replies_by : (protocol : Protocol) (depth : ℕ) (by : Judging) (from to : DnssecDnsHandle H V C) (es : List Exchanged)
      → judging protocol from ≡ by → AllRespond meanings tests caches protocol depth from es to
      → All (IsReplyBy by) es
  replies_by protocol depth by from to [] is each = All-nil (IsReplyBy by)
  replies_by protocol depth by from to (e ∷ es) is (middle, exchange, rest) =
      All-cons (IsReplyBy by) e es
      (subst (λ j. IsReplyBy j e) is
      (record { reply = exchange.responds.reply; authentic = exchange.authentic }))
      (replies_by protocol depth by middle to es
      (kept_judging (query_of (received_of e.request)) protocol from middle depth e.moment e.outcome
      exchange.responds.lookup ∙ is)
      rest)

-- ---- a seat

module _ {P H V K S T B : Type 0} {builds : build_hasher.Ghosts S B} {hashes : hasher.Ghosts B}
    {tests : verifier.Ghosts V} (ports : port.Ghosts P) (meanings : handle.Ghosts H)
    (caches : cache.Ghosts (SharedCache V S T B tests builds hashes)) where
  rested : (by : Judging) (sent : List Exchanged) (middle new : Seat P H V K S T B tests builds hashes)
      (last : List (List ℕ)) (ends : ℕ) → All (IsReplyBy by) sent
      → HasCarried ports (requests_of sent) (replies_of sent) middle.port → length last ≤ 1
      → Moves ports middle.port new.port last [] ends → IsAnswered by (carried_by ports new.port)
  rested by sent middle new last ends each has few moves =
      answered_by ports by sent last new.port each few
      (carried_on ports middle.port new.port (requests_of sent) (replies_of sent) last [] ends has moves)

  bare_answered : (by : Judging) (sent : List Exchanged) (middle new : Seat P H V K S T B tests builds hashes)
      (why : Ended) → All (IsReplyBy by) sent → HasCarried ports (requests_of sent) (replies_of sent) middle.port
      → EndsBare ports meanings tests caches why middle new → IsAnswered by (carried_by ports new.port)
  bare_answered by sent middle new ended.Count each has ends = absurd ends
  bare_answered by sent middle new ended.Closed each has ends =
      rested by sent middle new [] 1 each has (omega arith) ends.rests.moves
  bare_answered by sent middle new (ended.Port kind) each has ends =
      rested by sent middle new [] 0 each has (omega arith) ends.0.rests.moves
  bare_answered by sent middle new ended.NoMemory each has (inl stays) =
      rested by sent middle new [] 0 each has (omega arith) stays.rests.moves
  bare_answered by sent middle new ended.NoMemory each has (inr loses) =
      rested by sent middle new (loses.request ∷ []) 0 each has (omega arith) loses.rests.moves

  enough_answered : (by : Judging) (sent : List Exchanged) (middle new : Seat P H V K S T B tests builds hashes)
      → All (IsReplyBy by) sent → HasCarried ports (requests_of sent) (replies_of sent) middle.port → new ≡ middle
      → IsAnswered by (carried_by ports new.port)
  enough_answered by sent middle new each has same =
      subst (λ (s : Seat P H V K S T B tests builds hashes). IsAnswered by (carried_by ports s.port)) (sym same)
      (record {
        exchanges = sent;
        each = each;
        last = [];
        few = omega arith;
        received = subst (λ r. IfSome (ports.received middle.port) (λ l. l ≡ r)) (sym (append-nil (requests_of sent)))
            has.received;
        replied = has.replied;
      })

  pub seat_answered : (count : ℕ) (old : Seat P H V K S T B tests builds hashes)
      (served : Served P H V K S T B tests builds hashes) → IsSilent (carried_by ports old.port)
      → IsServed ports meanings tests caches count old served → WasAnswered ports (judging_of old) served
  seat_answered count old served silent h =
      let by : Judging = judging_of old in
      let each : All (IsReplyBy by) h.sent =
      replies_by meanings tests caches old.protocol old.depth by old.validator h.middle.validator h.sent refl
      h.keeps.each in
      let none : HasCarried ports [] [] old.port = record { received = silent.received; replied = silent.replied } in
      let has : HasCarried ports (requests_of h.sent) (replies_of h.sent) h.middle.port =
      carried_on ports old.port h.middle.port [] [] (requests_of h.sent) (replies_of h.sent) 0 none h.keeps.moves in
      elim h.ends [
        | inl enough ↦ enough_answered by h.sent h.middle served.seat each has enough.seat
        | inr less ↦ elim less.stops [
          | inl bare ↦ bare_answered by h.sent h.middle served.seat served.ended each has bare.bare
          | inr unsent ↦ rested by h.sent h.middle served.seat (unsent.last.request ∷ []) 0 each has (omega arith)
              unsent.unsent.answers.moves
        ]
      ]

  -- seats whose ports were silent, and which judge alike
  pub seats_answered : (count : ℕ) (seats : List (Seat P H V K S T B tests builds hashes))
      (all : List (Served P H V K S T B tests builds hashes)) → AreSilent (seats_carried ports seats)
      → length all ≡ length seats
      → ((i : ℕ) (seat : Seat P H V K S T B tests builds hashes) (s : Served P H V K S T B tests builds hashes)
      → i < length seats
      → IsServed ports meanings tests caches count (slice_index_or seats i seat) (slice_index_or all i s))
      → (by : Judging) → JudgeAlike by (seats_judging seats) → All (WasAnswered ports by) all
  seats_answered count seats all quiet same each by alike = λ k d short.
      let within : k < length seats = omega (arith, same) in
      let silent : IsSilent (carried_by ports (slice_index_or seats k d.seat).port) =
      subst IsSilent
      (get_or-map (λ s. carried_by ports s.port) seats k d.seat (carried_by ports d.seat.port) within)
      (quiet k (carried_by ports d.seat.port)
      (omega (arith, within, length-map seats (λ s. carried_by ports s.port)))) in
      let is : judging_of (slice_index_or seats k d.seat) ≡ by =
      sym (get_or-map (λ s. judging_of s) seats k d.seat (judging_of d.seat) within)
      ∙ alike k (judging_of d.seat) (omega (arith, within, length-map seats (λ s. judging_of s))) in
      subst (λ j. WasAnswered ports j (slice_index_or all k d)) is
      (seat_answered count (slice_index_or seats k d.seat) (slice_index_or all k d) silent (each k d.seat d within))

-- ---- a listener

-- nothing more is told
pub tells_none : (told : Option (List TrafficValue)) → TellsPorts told [] told
tells_none None = tt
tells_none (Some told) = sym (append-nil told)

pub tells_on : (before mid now : Option (List TrafficValue)) (first more : List TrafficValue)
    → TellsPorts before first mid → TellsPorts mid more now → TellsPorts before (first ++ more) now
tells_on before mid None first more one other = tt
tells_on before None (Some now) first more one other = absurd other
tells_on None (Some mid) (Some now) first more one other = absurd one
tells_on (Some before) (Some mid) (Some now) first more one other =
    other ∙ (ap (λ l. l ++ more) one ∙ append_assoc before first more)

pub tells_answered : {X : Type 0} (by : Judging) (carried : X → TrafficValue) (xs : List X)
    (before now : Option (List TrafficValue)) → TellsPorts before (map carried xs) now
    → All (λ x. IsAnswered by (carried x)) xs → TellsAnswered by before now
tells_answered by carried xs before None tells each = tt
tells_answered by carried xs None (Some now) tells each = absurd tells
tells_answered by carried xs (Some before) (Some now) tells each =
    record { ports = map carried xs; each = All-map (IsAnswered by) carried xs each; more = tells }

-- one port, whose seat may have a line
pub one_answered : {Z E : Type 0} (by : Judging) (port : TrafficValue) (lines : Result (Vec SeatLine Z) E)
    (before now : Option (List TrafficValue)) → TellsPorts before (port ∷ []) now → IsAnswered by port
    → IfOk lines (λ all. TellsAnswered by before now)
one_answered by port (Err e) before now tells answered = tt
one_answered by port (Ok all) before now tells answered =
    tells_answered by (λ p. p) (port ∷ []) before now tells
    (All-cons (IsAnswered by) port [] answered (All-nil (IsAnswered by)))

-- one more that judges alike
pub alike_more : {X : Type 0} (by : Judging) (f : X → Judging) (xs : List X) (x : X) → JudgeAlike by (map f xs)
    → f x ≡ by
    → JudgeAlike by (map f (xs ++ x ∷ []))
alike_more by f xs x alike same =
    subst (λ l. JudgeAlike by l) (sym (map-append f xs (x ∷ []))) (All-push (λ j. j ≡ by) (map f xs) (f x) alike same)

-- the only one
pub alike_one : {X : Type 0} (by : Judging) (f : X → Judging) (empty all : List X) (x : X) → empty ≡ []
    → all ≡ empty ++ x ∷ [] → f x ≡ by → JudgeAlike by (map f all)
alike_one by f empty all x none is same =
    subst (λ l. JudgeAlike by (map f l)) (sym (is ∙ ap (λ l. l ++ x ∷ []) none))
    (All-cons (λ j. j ≡ by) (f x) [] same (All-nil (λ j. j ≡ by)))

-- seats over ports that were silent
pub seated_silent : {X P : Type 0} (port_of : X → P) (carried : P → TrafficValue) (seats : List X) (all : List P)
    → map port_of seats ≡ all → AreSilent (map carried all) → AreSilent (map (λ s. carried (port_of s)) seats)
seated_silent port_of carried seats all same quiet =
    subst AreSilent (met_seats port_of carried seats) (subst (λ ps. AreSilent (map carried ps)) (sym same) quiet)

-- a fact of lines is one of the ending that they come to
pub when_told : {Z E : Type 0} (Fact : Type 0) (lines : Result (Vec SeatLine Z) E) (ending : Ending)
    → TellsLines lines ending → IfOk lines (λ all. Fact) → WhenTold ending Fact
when_told Fact (Ok all) (Told status text) told fact = fact
when_told Fact (Err e) (Told status text) told fact = absurd told
when_told Fact lines Failed told fact = tt
when_told Fact lines NoMemory told fact = tt

-- what a session trusts is what it was made of
pub session_judging : (s : SessionValue) (trust : Trust) (protocol : Protocol) (carried : Carried)
    → IsTrustOf s trust → protocol ≡ protocol_of carried → judging_in trust protocol ≡ judging_by s carried
session_judging s trust protocol carried is same = cc

-- what a session comes to
pub comes_by : {D N : Type 0} (seen : NetView D N) (s : SessionValue) (service : Service) (met : Met D N)
    (ending : Ending)
    → ServesAs seen service met ending
    → WhenTold ending (TellsAnswered (judging_by s service.carried) (seen.heard met.old) (seen.heard met.new))
    → ComesTo seen service met (Ok s) ending
comes_by seen s service met (Told status text) serves answered = record { forwards = serves; answered = answered }
comes_by seen s service met Failed serves answered = serves
comes_by seen s service met NoMemory serves answered = tt
