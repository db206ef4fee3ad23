-- The line of a seat that was served.
use Rattle.std.proofs.Common.{◌≡◌, ◌<◌, ◌≤◌, ◌∙◌, ◌+◌, ◌-◌, ◌^◌, ℕ, zero, suc, List, [], ◌∷◌, length, inl, inr, sym, ap, subst, length-append, slice_index_or, arith}
use Rattle.std.specs.Prelude.{All, IfSome}
use Rattle.std.proofs.lemmas.List.{get_or-map, length-map}
use Rattle.std.specs.declared.hash.BuildHasher as build_hasher
use Rattle.std.specs.declared.hash.Hasher as hasher
use Rattle.dns_evidence.specs.declared.verifier.Verifier as verifier
use Rattle.dns_handle.specs.declared.handle.DnsHandle as handle
use Rattle.dns_cache.specs.declared.validation_cache.ValidationCache as cache
use Rattle.dns_shared_cache.specs.declared.shared_cache.SharedCache.{SharedCache}
use Rattle.dns_respond.specs.declared.exchanged.Exchanged.{Exchanged}
use Rattle.dns_ports.specs.declared.port.Port as port
use Rattle.dns_model.specs.Counts.{one_more}
use Rattle.dns_listener.specs.Listening.{nothing_met}
use Rattle.dns_seats.specs.Serving.{EndsBare, HadEnough, IsServed, Moves, StopsBare, StopsUnsent, raised, requests_of}
use Rattle.dns_seats.specs.declared.seat.Ended.{Ended}
use Rattle.dns_seats.specs.declared.seat.Ended.TheVariants as ended
use Rattle.dns_seats.specs.declared.seat.Seat.{Seat}
use Rattle.dns_seats.specs.declared.seat.Served.{Served}
use Rattle.dns_forward_run.specs.Lines.{line_of}
use Rattle.dns_forward_run.specs.Retired.{AreNew, IsLineOf, met_by}
use Rattle.dns_forward_run.specs.Settings.{seats_met}
use Rattle.dns_forward_run.specs.Steps.{HasLine}

-- a count that doesn't reach the greatest
raised_sum : (n count : ℕ) → n + count ≤ 2 ^ 64 - 1 → raised n count ≡ n + count
unfolding raised
raised_sum zero count fits = omega arith
raised_sum (suc n) count fits =
    let one : one_more count ≡ count + 1 = omega arith in
    raised_sum n (one_more count) (omega (arith, one)) ∙ omega (arith, one)

-- what a port met by so many requests, none of which was its last word
record HasMet {P : Type 0} (ports : port.Ghosts P) (requests : ℕ) (p : P) : Type 0 where
  gots : ports.gots p ≡ requests
  ends : ports.ends p ≡ 0

moved : {P : Type 0} (ports : port.Ghosts P) (old new : P) (before : ℕ) (requests replies : List (List ℕ))
    → HasMet ports before old → Moves ports old new requests replies 0 → length requests + before ≤ 2 ^ 64 - 1
    → HasMet ports (length requests + before) new
unfolding raised
moved ports old new before requests replies met moves fits = record {
  gots = moves.gots ∙ (ap (λ n. raised (length requests) n) met.gots ∙ raised_sum (length requests) before fits);
  ends = moves.ends_rose ∙ met.ends;
}

module _ {P H V K S T B : Type 0} {builds : build_hasher.Ghosts S B} {hashes : hasher.Ghosts B}
    {tests : verifier.Ghosts V} (ports : port.Ghosts P) (meanings : handle.Ghosts H)
    (caches : cache.Ghosts (SharedCache V S T B tests builds hashes)) where
  -- a seat that ended without one exchange more
  bare_line : (count n : ℕ) (middle new : Seat P H V K S T B tests builds hashes) (why : Ended) → n < count
      → count ≤ 1000 → HasMet ports n middle.port → EndsBare ports meanings tests caches why middle new
      → IfSome (line_of n why) (λ line. IsLineOf count line (met_by ports new.port))
  unfolding raised
  bare_line count n middle new ended.Count less few met ends = absurd ends
  bare_line count n middle new ended.Closed less few met ends = record {
    requests = ends.rests.moves.gots ∙ met.gots;
    bound = omega arith;
    ended = ends.rests.moves.ends_rose ∙ ap one_more met.ends;
  }
  bare_line count n middle new (ended.Port kind) less few met ends = record {
    requests = ends.0.rests.moves.gots ∙ met.gots;
    bound = omega arith;
    ended = (ends.0.rests.moves.ends_rose ∙ met.ends, omega (arith, ends.1));
  }
  bare_line count n middle new ended.NoMemory less few met ends = tt

  enough_line : (count : ℕ) (middle : Seat P H V K S T B tests builds hashes) (sent : List Exchanged)
      (served : Served P H V K S T B tests builds hashes) → HasMet ports (length sent) middle.port
      → HadEnough count middle sent served → HasLine ports count served
  enough_line count middle sent served met had =
      let seat : HasMet ports (length sent) served.seat.port =
      subst (λ s. HasMet ports (length sent) s.port) (sym had.seat) met in
      let many : length served.exchanges.items ≡ length sent = ap length had.all in
      subst (λ why. IfSome (line_of (length served.exchanges.items) why)
      (λ line. IsLineOf count line (met_by ports served.seat.port)))
      (sym had.why)
      (record {
        requests = seat.gots ∙ sym many;
        bound = omega (arith, many, had.number);
        ended = (many ∙ had.number, seat.ends);
      })

  less_line : (count : ℕ) (middle : Seat P H V K S T B tests builds hashes) (sent : List Exchanged)
      (served : Served P H V K S T B tests builds hashes) → count ≤ 1000 → length sent < count
      → HasMet ports (length sent) middle.port
      → StopsBare ports meanings tests caches middle served.seat sent served.exchanges.items served.ended
      → HasLine ports count served
  less_line count middle sent served few less met stops =
      subst (λ n. IfSome (line_of n served.ended) (λ line. IsLineOf count line (met_by ports served.seat.port)))
      (sym (ap length stops.all))
      (bare_line count (length sent) middle served.seat served.ended less few met stops.bare)

  unsent_line : (count : ℕ) (middle : Seat P H V K S T B tests builds hashes) (sent : List Exchanged)
      (served : Served P H V K S T B tests builds hashes) → count ≤ 1000 → length sent < count
      → HasMet ports (length sent) middle.port
      → StopsUnsent ports meanings tests caches middle served.seat sent served.exchanges.items served.ended
      → HasLine ports count served
  unsent_line count middle sent served few less met stops =
      let many : length served.exchanges.items ≡ 1 + length sent =
      omega (arith, ap length stops.all, length-append sent (stops.last ∷ [])) in
      let seat : HasMet ports (1 + length sent) served.seat.port =
      moved ports middle.port served.seat.port (length sent) (stops.last.request ∷ []) [] met stops.unsent.answers.moves
      (omega arith) in
      subst (λ why. IfSome (line_of (length served.exchanges.items) why)
      (λ line. IsLineOf count line (met_by ports served.seat.port)))
      (sym stops.unsent.port)
      (record {
        requests = seat.gots ∙ sym many;
        bound = omega (arith, many);
        ended = (seat.ends, omega (arith, stops.unsent.rose));
      })

  -- a seat whose port was new
  pub seat_line : (count : ℕ) (old : Seat P H V K S T B tests builds hashes)
      (served : Served P H V K S T B tests builds hashes) → count ≤ 1000 → met_by ports old.port ≡ nothing_met
      → IsServed ports meanings tests caches count old served → HasLine ports count served
  seat_line count old served few new h =
      let none : HasMet ports 0 old.port =
      record { gots = ap (λ p. p.gots) new; ends = ap (λ p. p.ends) new } in
      let number : length (requests_of h.sent) ≡ length h.sent = length-map h.sent (λ e. e.request) in
      let most : length h.sent ≤ count =
      elim h.ends [ inl enough ↦ omega (arith, enough.number) | inr less ↦ omega (arith, less.number) ] in
      let met : HasMet ports (length h.sent) h.middle.port =
      subst (λ n. HasMet ports n h.middle.port) (omega (arith, number))
      (moved ports old.port h.middle.port 0 (requests_of h.sent) _ none h.keeps.moves (omega (arith, number, most))) in
      elim h.ends [
        | inl enough ↦ enough_line count h.middle h.sent served met enough
        | inr less ↦ elim less.stops [
          | inl bare ↦ less_line count h.middle h.sent served few less.number met bare
          | inr unsent ↦ unsent_line count h.middle h.sent served few less.number met unsent
        ]
      ]

  -- seats whose ports were new
  pub seat_lines : (count : ℕ) (seats : List (Seat P H V K S T B tests builds hashes))
      (all : List (Served P H V K S T B tests builds hashes)) → count ≤ 1000 → AreNew (seats_met ports seats)
      → length all ≡ length seats
      → ((i : ℕ) (seat : Seat P H V K S T B tests builds hashes) (s : Served P H V K S T B tests builds hashes)
      → i < length seats
      → IsServed ports meanings tests caches count (slice_index_or seats i seat) (slice_index_or all i s))
      → All (HasLine ports count) all
  seat_lines count seats all few new same each = λ k d short.
      let within : k < length seats = omega (arith, same) in
      let is : met_by ports (slice_index_or seats k d.seat).port ≡ nothing_met =
      sym (get_or-map (λ s. met_by ports s.port) seats k d.seat (met_by ports d.seat.port) within)
      ∙ new k (met_by ports d.seat.port) (omega (arith, within, length-map seats (λ s. met_by ports s.port))) in
      seat_line count (slice_index_or seats k d.seat) (slice_index_or all k d) few is (each k d.seat d within)
