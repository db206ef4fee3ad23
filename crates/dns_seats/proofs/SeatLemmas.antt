-- What one exchange more makes of a seat (RFC 1035, 4.2).
use Rattle.std.proofs.Common.{◌≡◌, ◌<◌, ◌∙◌, ◌+◌, ℕ, List, [], ◌∷◌, ◌++◌, map, length, Option, None, Some, Result, Ok, Err, refl, sym, ap, subst, inr, append-nil, append_assoc, length-append, slice_index_or, arith}
use Rattle.std.specs.Prelude.{◌↔◌, IfSome}
use Rattle.std.proofs.lemmas.List.{get_or-map, length-map, map-append}
use Rattle.std.specs.declared.hash.BuildHasher as build_hasher
use Rattle.std.specs.declared.hash.Hasher as hasher
use Rattle.dns_evidence.specs.declared.verifier.Verifier as verifier
use Rattle.dns_handle.specs.declared.handle.DnsHandle as handle
use Rattle.dns_handle.specs.declared.protocol.Protocol.{Protocol}
use Rattle.dns_cache.specs.declared.validation_cache.ValidationCache as cache
use Rattle.dns_shared_cache.specs.declared.shared_cache.SharedCache.{SharedCache}
use Rattle.dns_lookup.specs.declared.handle.DnssecDnsHandle.{DnssecDnsHandle}
use Rattle.dns_forwarded.specs.Laws.{IsSmall}
use Rattle.dns_forwarded.specs.Replies.{forwarded}
use Rattle.dns_forwarded.specs.Requests.{query_of, received_of}
use Rattle.dns_forwarded.specs.declared.outcome.Outcome.TheVariants as outcome
use Rattle.dns_respond.specs.Authentic.{ProvesAd}
use Rattle.dns_respond.specs.Responding.{LeadsTo}
use Rattle.dns_respond.specs.declared.exchanged.Exchanged.{Exchanged}
use Rattle.dns_ports.specs.declared.port.Port as port
use Rattle.dns_seats.specs.declared.seat.Ended.{Ended}
use Rattle.dns_seats.specs.declared.seat.Ended.TheVariants as ended
use Rattle.dns_seats.specs.declared.seat.Seat.{Seat}
use Rattle.dns_seats.specs.declared.serving.Job.{Job}
use Rattle.dns_seats.specs.declared.seat.Served.{Served}
use Rattle.dns_seats.specs.Serving.{AllRespond, Answers, IsExchange, IsServed, IsSetAs, Keeps, Moves, replies_in, replies_of, requests_of}
use Rattle.dns_seats.specs.Turns.{Goes, GoesOn, IsAnswered, Next}
use Rattle.dns_seats.proofs.PortLemmas.{moves_none, moves_then}

-- one exchange behind as many as before
pub behind : (old same new : List Exchanged) (e : Exchanged) → new ≡ same ++ e ∷ [] → same ≡ old → new ≡ old ++ e ∷ []
behind old same new e grown is = grown ∙ ap (λ l. l ++ e ∷ []) is

-- the replies of one exchange more
replies_more : (es : List Exchanged) (e : Exchanged) → replies_of es ++ replies_in e.reply ≡ replies_of (es ++ e ∷ [])
replies_more [] e = sym (append-nil (replies_in e.reply))
replies_more (x ∷ es) e =
    append_assoc (replies_in x.reply) (replies_of es) (replies_in e.reply)
    ∙ ap (λ l. replies_in x.reply ++ l) (replies_more es e)

requests_more : (es : List Exchanged) (e : Exchanged) → requests_of es ++ e.request ∷ [] ≡ requests_of (es ++ e ∷ [])
requests_more es e = sym (map-append (λ x. x.request) es (e ∷ []))

module _ {H V C : Type 0} {meanings : handle.Ghosts H} {tests : verifier.Ghosts V} {caches : cache.Ghosts C} where
  -- one exchange more behind the others
  all_more : (protocol : Protocol) (depth : ℕ) (a b c : DnssecDnsHandle H V C) (es : List Exchanged) (e : Exchanged)
      → AllRespond meanings tests caches protocol depth a es b → IsExchange meanings tests caches b c protocol depth e
      → AllRespond meanings tests caches protocol depth a (es ++ e ∷ []) c
  all_more protocol depth a b c [] e same h =
      (c, subst (λ x. IsExchange meanings tests caches x c protocol depth e) (sym same) h, refl)
  all_more protocol depth a b c (x ∷ es) e more h = (more.0, more.1, all_more protocol depth more.0 b c es e more.2 h)

module _ {H V C : Type 0} {meanings : handle.Ghosts H} {tests : verifier.Ghosts V} {caches : cache.Ghosts C} where
  -- what `respond` says of an exchange, of the request that it tells
  pub exchange_of : (old new : DnssecDnsHandle H V C) (protocol : Protocol) (depth now : ℕ) (request : List ℕ)
      (e : Exchanged) → e.request ≡ request → e.moment ≡ now → e.reply ≡ forwarded request protocol e.outcome
      → LeadsTo meanings tests caches (query_of (received_of request)) old new depth now e.outcome
      → ((e.outcome ≡ outcome.None) ↔ (query_of (received_of request) ≡ None))
      → IfSome e.reply (IsSmall protocol (received_of request)) → ProvesAd tests old e
      → IsExchange meanings tests caches old new protocol depth e
  exchange_of old new protocol depth now request e is at reply lookup none small authentic = record {
    responds = record {
      reply = subst (λ r. e.reply ≡ forwarded r protocol e.outcome) (sym is) reply;
      lookup = subst (λ r. LeadsTo meanings tests caches (query_of (received_of r)) old new depth e.moment e.outcome)
          (sym is)
          (subst (λ m. LeadsTo meanings tests caches (query_of (received_of request)) old new depth m e.outcome)
          (sym at) lookup);
    };
    none = subst (λ r. (e.outcome ≡ outcome.None) ↔ (query_of (received_of r) ≡ None)) (sym is) none;
    small = subst (λ r. IfSome e.reply (IsSmall protocol (received_of r))) (sym is) small;
    authentic = authentic;
  }

module _ {P H V K S T B : Type 0} {tests : verifier.Ghosts V} {builds : build_hasher.Ghosts S B}
    {hashes : hasher.Ghosts B} where
  set_then : (a b c : Seat P H V K S T B tests builds hashes) → IsSetAs a b → IsSetAs b c → IsSetAs a c
  set_then a b c one two = record { protocol = two.protocol ∙ one.protocol; depth = two.depth ∙ one.depth }

module _ {P H V K S T B : Type 0} {tests : verifier.Ghosts V} {builds : build_hasher.Ghosts S B}
    {hashes : hasher.Ghosts B} where
  -- as many jobs as seats
  pub same_length : (jobs : List (Job P H V K S T B tests builds hashes))
      (seats : List (Seat P H V K S T B tests builds hashes))
      → map (λ j. j.seat) jobs ≡ seats → length jobs ≡ length seats
  same_length jobs seats same = sym (length-map jobs (λ j. j.seat)) ∙ ap length same

module _ {P H V K S T B : Type 0} {builds : build_hasher.Ghosts S B} {hashes : hasher.Ghosts B}
    {meanings : handle.Ghosts H} {tests : verifier.Ghosts V}
    {caches : cache.Ghosts (SharedCache V S T B tests builds hashes)} where
  exchange_with : (a m b : Seat P H V K S T B tests builds hashes) (e : Exchanged) → b.validator ≡ m.validator
      → IsExchange meanings tests caches a.validator m.validator a.protocol a.depth e
      → IsExchange meanings tests caches a.validator b.validator a.protocol a.depth e
  exchange_with a m b e same h =
      subst (λ v. IsExchange meanings tests caches a.validator v a.protocol a.depth e) (sym same) h

module _ {P H V K S T B : Type 0} {builds : build_hasher.Ghosts S B} {hashes : hasher.Ghosts B}
    {ports : port.Ghosts P} {meanings : handle.Ghosts H} {tests : verifier.Ghosts V}
    {caches : cache.Ghosts (SharedCache V S T B tests builds hashes)} where
  -- a seat that was served nothing yet
  pub keeps_none : (s : Seat P H V K S T B tests builds hashes) (es : List Exchanged) → es ≡ []
      → Keeps ports meanings tests caches s s es
  keeps_none s es none = subst (λ l. Keeps ports meanings tests caches s s l) (sym none) (record {
    set = record { protocol = refl; depth = refl };
    each = refl;
    moves = moves_none s.port s.port refl;
  })

  -- one exchange more whose reply was sent
  keeps_more : {a b c : Seat P H V K S T B tests builds hashes} {es : List Exchanged} {e : Exchanged}
      → Keeps ports meanings tests caches a b es → Answers ports meanings tests caches b c e (replies_in e.reply)
      → Keeps ports meanings tests caches a c (es ++ e ∷ [])
  keeps_more {a} {b} {c} {es} {e} k h = record {
    set = set_then a b c k.set h.set;
    each = all_more a.protocol a.depth a.validator b.validator c.validator es e k.each
        (subst (λ p. IsExchange meanings tests caches b.validator c.validator p a.depth e) k.set.protocol
        (subst (λ d. IsExchange meanings tests caches b.validator c.validator b.protocol d e) k.set.depth h.exchange));
    moves = subst (λ l. Moves ports a.port c.port l (replies_of (es ++ e ∷ [])) 0) (requests_more es e)
        (subst (λ l. Moves ports a.port c.port (requests_of es ++ e.request ∷ []) l 0) (replies_more es e)
        (moves_then k.moves h.moves));
  }

  pub keeps_goes : {a b c : Seat P H V K S T B tests builds hashes} {before after : List Exchanged}
      → Keeps ports meanings tests caches a b before → GoesOn ports meanings tests caches b c before after
      → Keeps ports meanings tests caches a c after
  keeps_goes {a} {b} {c} k h = subst (λ l. Keeps ports meanings tests caches a c l) (sym h.all) (keeps_more k h.answers)

  -- and by so much there are more
  pub longer : {b c : Seat P H V K S T B tests builds hashes} {before after : List Exchanged} (n : ℕ)
      → GoesOn ports meanings tests caches b c before after → length before ≡ n → length after ≡ n + 1
  longer {b} {c} {before} {after} n h is =
      ap length h.all ∙ (length-append before (h.last ∷ []) ∙ ap (λ k. k + 1) is)

  -- a request was answered, and its reply went or did not
  module _ (a m b : Seat P H V K S T B tests builds hashes) (before after : List Exchanged) (e : Exchanged) where
    answered_by : (reply : Option (List ℕ)) (sent : Result (Unit {0}) Ended) → e.reply ≡ reply
        → IsAnswered ports meanings tests caches a m e
        → IsSetAs m b → b.validator ≡ m.validator → Goes ports m.port b.port reply sent
        → after ≡ before ++ e ∷ [] → Next ports meanings tests caches a b before after sent
    answered_by None (Ok done) is h set same went all = record {
      last = e;
      answers = record {
        set = set_then a m b h.set set;
        exchange = exchange_with a m b e same h.exchange;
        moves = subst (λ l. Moves ports a.port b.port (e.request ∷ []) l 0) (ap replies_in (sym is))
            (subst (λ p. Moves ports a.port p (e.request ∷ []) [] 0) (sym went) h.came);
      };
      all = all;
    }
    answered_by None (Err why) is h set same went all = absurd went
    answered_by (Some bytes) (Ok done) is h set same went all = record {
      last = e;
      answers = record {
        set = set_then a m b h.set set;
        exchange = exchange_with a m b e same h.exchange;
        moves = subst (λ l. Moves ports a.port b.port (e.request ∷ []) l 0) (ap replies_in (sym is))
            (moves_then h.came went);
      };
      all = all;
    }
    answered_by (Some bytes) (Err ended.Count) is h set same went all = absurd went
    answered_by (Some bytes) (Err ended.Closed) is h set same went all = absurd went
    answered_by (Some bytes) (Err ended.NoMemory) is h set same went all = absurd went
    answered_by (Some bytes) (Err (ended.Port kind)) is h set same went all = inr (record {
      last = e;
      unsent = record {
        kind = kind;
        bytes = bytes;
        port = refl;
        reply = is;
        answers = record {
          set = set_then a m b h.set set;
          exchange = exchange_with a m b e same h.exchange;
          moves = moves_then h.came went.0;
        };
        rose = omega (arith, h.came.later, went.1);
      };
      all = all;
    })

    pub answered : (sent : Result (Unit {0}) Ended) → IsAnswered ports meanings tests caches a m e
        → IsSetAs m b → b.validator ≡ m.validator → Goes ports m.port b.port e.reply sent
        → after ≡ before ++ e ∷ [] → Next ports meanings tests caches a b before after sent
    answered sent h set same went all = answered_by e.reply sent refl h set same went all

  -- each seat in its place, by its number's seat
  pub in_place : (count : ℕ) (jobs : List (Job P H V K S T B tests builds hashes))
      (seats : List (Seat P H V K S T B tests builds hashes)) (all : List (Served P H V K S T B tests builds hashes))
      → map (λ j. j.seat) jobs ≡ seats
      → ((i : ℕ) (j : Job P H V K S T B tests builds hashes) (s : Served P H V K S T B tests builds hashes)
      → i < length jobs
      → IsServed ports meanings tests caches count (slice_index_or jobs i j).seat (slice_index_or all i s))
      → (i : ℕ) (seat : Seat P H V K S T B tests builds hashes) (s : Served P H V K S T B tests builds hashes)
      → i < length seats
      → IsServed ports meanings tests caches count (slice_index_or seats i seat) (slice_index_or all i s)
  in_place count jobs seats all same each i seat s short =
      let j : Job P H V K S T B tests builds hashes = record { number = 0; seat = seat } in
      let within : i < length jobs = omega (arith, short, ap length same, length-map jobs (λ x. x.seat)) in
      let is : (slice_index_or jobs i j).seat ≡ slice_index_or seats i seat =
      sym (get_or-map (λ x. x.seat) jobs i j seat within) ∙ ap (λ l. slice_index_or l i seat) same in
      subst (λ x. IsServed ports meanings tests caches count x (slice_index_or all i s)) is (each i j s within)
