-- No more exchanges carry an upstream's error than faults were met meanwhile.
use Rattle.std.proofs.Common.{◌≡◌, ◌≤◌, ◌+◌, ◌⊎◌, ℕ, Bool, true, false, List, [], ◌∷◌, ◌++◌, Option, None, Some, Result, Ok, Err, if◌then◌else◌, refl, sym, ap, subst, inl, inr, arith}
use Rattle.std.specs.declared.hash.BuildHasher as build_hasher
use Rattle.std.specs.declared.hash.Hasher as hasher
use Rattle.dns_model.specs.Counts.{Rose, RoseBy}
use Rattle.dns_model.specs.Records.{Question}
use Rattle.dns_model.specs.SoundAnswers.{ResponseValue}
use Rattle.dns_evidence.specs.declared.verifier.Verifier as verifier
use Rattle.dns_handle.specs.Replies.{error_of, reply_of}
use Rattle.dns_handle.specs.declared.error.NetError.{NetError}
use Rattle.dns_handle.specs.declared.error.NetError.TheVariants as error
use Rattle.dns_handle.specs.declared.error.DnsError.TheVariants as dns_error
use Rattle.dns_handle.specs.declared.handle.DnsHandle as handle
use Rattle.dns_handle.specs.declared.protocol.Protocol.{Protocol}
use Rattle.dns_cache.specs.declared.validation_cache.ValidationCache as cache
use Rattle.dns_shared_cache.specs.declared.shared_cache.SharedCache.{SharedCache}
use Rattle.dns_lookup.specs.Calls.{inner_of}
use Rattle.dns_lookup.specs.Causes.{is_upstreams}
use Rattle.dns_lookup.specs.declared.handle.DnssecDnsHandle.{DnssecDnsHandle}
use Rattle.dns_forwarded.specs.Outcomes.{outcome_of}
use Rattle.dns_forwarded.specs.Requests.{query_of, received_of}
use Rattle.dns_forwarded.specs.declared.outcome.Outcome.{Outcome}
use Rattle.dns_forwarded.specs.declared.outcome.Outcome.TheVariants as outcome
use Rattle.dns_respond.specs.Responding.{LeadsTo, Leaves, LooksUp}
use Rattle.dns_respond.specs.declared.exchanged.Exchanged.{Exchanged}
use Rattle.dns_ports.specs.declared.port.Port as port
use Rattle.dns_seats.specs.declared.seat.Ended.{Ended}
use Rattle.dns_seats.specs.declared.seat.Ended.TheVariants as ended
use Rattle.dns_seats.specs.declared.seat.Seat.{Seat}
use Rattle.dns_seats.specs.declared.seat.Served.{Served}
use Rattle.dns_seats.specs.Serving.{AllRespond, EndsBare, ErrorsHaveFaults, HadEnough, HadLess, IsServed, Stops, errors_in, upstreams_errors}

-- what failed was found so
abbrev IsErrorOf : Result ResponseValue NetError → Outcome → Type 0
IsErrorOf found outcome.None = Unit {0}
IsErrorOf found (outcome.Answered response) = Unit {0}
IsErrorOf found (outcome.Denied response proof) = Unit {0}
IsErrorOf found (outcome.Failed error) = found ≡ Err error

failed : (e : NetError) (o : Outcome) → (let made : Option Outcome = Some (outcome.Failed e) in made) ≡ Some o
    → IsErrorOf (Err e) o
failed e o h = let same : outcome.Failed e ≡ o = cc in subst (IsErrorOf (Err e)) same refl

error_found : (found : Result ResponseValue NetError) (o : Outcome) → outcome_of found ≡ Some o → IsErrorOf found o
error_found (Ok response) o h =
    let same : outcome.Answered response ≡ o = cc in subst (IsErrorOf (Ok response)) same tt
error_found (Err error.NoMemory) o h = absurd cc
error_found (Err (error.Dns (dns_error.Nsec query response proof))) o h =
    let same : outcome.Denied response.value proof ≡ o = cc in
    subst (IsErrorOf (Err (error.Dns (dns_error.Nsec query response proof)))) same tt
error_found (Err (error.Dns (dns_error.ResponseCode code))) o h = failed (error.Dns (dns_error.ResponseCode code)) o h
error_found (Err (error.Dns (dns_error.NoRecordsFound missing))) o h =
    failed (error.Dns (dns_error.NoRecordsFound missing)) o h
error_found (Err (error.Dns dns_error.DnssecBogus)) o h = failed (error.Dns dns_error.DnssecBogus) o h
error_found (Err error.Busy) o h = failed error.Busy o h
error_found (Err (error.Message notice)) o h = failed (error.Message notice) o h
error_found (Err (error.Msg text)) o h = failed (error.Msg text) o h
error_found (Err error.NoConnections) o h = failed error.NoConnections o h
error_found (Err (error.Proto why)) o h = failed (error.Proto why) o h
error_found (Err (error.Io kind)) o h = failed (error.Io kind) o h
error_found (Err error.Timeout) o h = failed error.Timeout o h
error_found (Err error.QueryCaseMismatch) o h = failed error.QueryCaseMismatch o h
error_found (Err (error.ForeignClassRecord owner class rtype)) o h =
    failed (error.ForeignClassRecord owner class rtype) o h
error_found (Err error.Truncated) o h = failed error.Truncated o h

-- a count that rose by these and then by those
rose_then : (n m a b c : ℕ) → RoseBy n a b → RoseBy m b c → RoseBy (n + m) a c
rose_then n m a b c one two = omega (arith, one, two)

rose_none : (a b : ℕ) → a ≤ b → RoseBy 0 a b
rose_none a b later = omega (arith, later)

rose_if : (b : Bool) (before now : ℕ) → (b ≡ true → Rose before now) → before ≤ now
    → RoseBy (if b then 1 else 0) before now
rose_if true before now rose later = rose refl
rose_if false before now rose later = rose_none before now later

errors_more : (es : List Exchanged) (e : Exchanged)
    → upstreams_errors es + errors_in e.outcome ≡ upstreams_errors (es ++ e ∷ [])
errors_more [] e = omega arith
errors_more (x ∷ es) e =
    let more : upstreams_errors es + errors_in e.outcome ≡ upstreams_errors (es ++ e ∷ []) = errors_more es e in
    omega (arith, more)

module _ {H V C : Type 0} {meanings : handle.Ghosts H} {tests : verifier.Ghosts V} {caches : cache.Ghosts C} where
  rises : (old new : DnssecDnsHandle H V C) (q : Question) (depth now : ℕ) (found : Result ResponseValue NetError)
      (o : Outcome) → IsErrorOf found o → LooksUp meanings tests caches old new q depth now found
      → RoseBy (errors_in o) (meanings.faults (inner_of old)) (meanings.faults (inner_of new))
  rises old new q depth now found outcome.None is looked = rose_none _ _ looked.later
  rises old new q depth now found (outcome.Answered response) is looked = rose_none _ _ looked.later
  rises old new q depth now found (outcome.Denied response proof) is looked = rose_none _ _ looked.later
  rises old new q depth now found (outcome.Failed error) is looked =
      rose_if (is_upstreams (error_of error)) (meanings.faults (inner_of old)) (meanings.faults (inner_of new))
      (λ upstreams. (looked.caused.passed (error_of error) upstreams (ap reply_of is)).rose) looked.later

module _ {H V C : Type 0} (meanings : handle.Ghosts H) (tests : verifier.Ghosts V) (caches : cache.Ghosts C) where
  led : (q : Option Question) (old new : DnssecDnsHandle H V C) (depth now : ℕ) (o : Outcome)
      → LeadsTo meanings tests caches q old new depth now o
      → RoseBy (errors_in o) (meanings.faults (inner_of old)) (meanings.faults (inner_of new))
  led None old new depth now o h =
      let stays : RoseBy 0 (meanings.faults (inner_of old)) (meanings.faults (inner_of new)) =
      subst (λ v. RoseBy 0 (meanings.faults (inner_of old)) (meanings.faults (inner_of v))) (sym h.1)
      (rose_none (meanings.faults (inner_of old)) (meanings.faults (inner_of old)) (omega arith)) in
      subst (λ x. RoseBy (errors_in x) (meanings.faults (inner_of old)) (meanings.faults (inner_of new)))
      (sym h.0) stays
  led (Some q) old new depth now o h = rises old new q depth now h.found o (error_found h.found o h.came) h.looked

  same_later : (old new : DnssecDnsHandle H V C) → new ≡ old
      → RoseBy 0 (meanings.faults (inner_of old)) (meanings.faults (inner_of new))
  same_later old new same =
      subst (λ v. RoseBy 0 (meanings.faults (inner_of old)) (meanings.faults (inner_of v))) (sym same)
      (rose_none (meanings.faults (inner_of old)) (meanings.faults (inner_of old)) (omega arith))

  left_later : (q : Option Question) (old new : DnssecDnsHandle H V C) (depth now : ℕ)
      → Leaves meanings tests caches q old new depth now
      → RoseBy 0 (meanings.faults (inner_of old)) (meanings.faults (inner_of new))
  left_later None old new depth now same = same_later old new same
  left_later (Some q) old new depth now (inl same) = same_later old new same
  left_later (Some q) old new depth now (inr looked) = rose_none _ _ looked.looked.later

  all_led : (protocol : Protocol) (depth : ℕ) (from : DnssecDnsHandle H V C) (es : List Exchanged)
      (to : DnssecDnsHandle H V C) → AllRespond meanings tests caches protocol depth from es to
      → RoseBy (upstreams_errors es) (meanings.faults (inner_of from)) (meanings.faults (inner_of to))
  all_led protocol depth from [] to same = same_later from to (sym same)
  all_led protocol depth from (e ∷ es) to more =
      rose_then (errors_in e.outcome) (upstreams_errors es) (meanings.faults (inner_of from))
      (meanings.faults (inner_of more.0)) (meanings.faults (inner_of to))
      (led (query_of (received_of e.request)) from more.0 depth e.moment e.outcome more.1.responds.lookup)
      (all_led protocol depth more.0 es to more.2)

module _ {P H V K S T B : Type 0} {builds : build_hasher.Ghosts S B} {hashes : hasher.Ghosts B}
    (ports : port.Ghosts P) (meanings : handle.Ghosts H) (tests : verifier.Ghosts V)
    (caches : cache.Ghosts (SharedCache V S T B tests builds hashes)) where
  -- a seat that ends with no exchange more has met no fault less
  ended_later : (why : Ended) (a b : Seat P H V K S T B tests builds hashes)
      → EndsBare ports meanings tests caches why a b
      → RoseBy 0 (meanings.faults (inner_of a.validator)) (meanings.faults (inner_of b.validator))
  ended_later ended.Count a b h = absurd h
  ended_later ended.Closed a b h = same_later meanings tests caches a.validator b.validator h.validator
  ended_later (ended.Port kind) a b h = same_later meanings tests caches a.validator b.validator h.0.validator
  ended_later ended.NoMemory a b (inl h) = same_later meanings tests caches a.validator b.validator h.validator
  ended_later ended.NoMemory a b (inr h) =
      left_later meanings tests caches (query_of (received_of h.request)) a.validator b.validator a.depth h.moment
      h.left

  stopped : (why : Ended) (a b c : Seat P H V K S T B tests builds hashes) (sent all : List Exchanged)
      → RoseBy (upstreams_errors sent) (meanings.faults (inner_of a.validator)) (meanings.faults (inner_of b.validator))
      → Stops ports meanings tests caches b c sent all why
      → RoseBy (upstreams_errors all) (meanings.faults (inner_of a.validator)) (meanings.faults (inner_of c.validator))
  stopped why a b c sent all rose (inl h) =
      let later : RoseBy 0 (meanings.faults (inner_of b.validator)) (meanings.faults (inner_of c.validator)) =
      ended_later why b c h.bare in
      subst (λ l. RoseBy (upstreams_errors l) (meanings.faults (inner_of a.validator))
      (meanings.faults (inner_of c.validator))) (sym h.all) (omega (arith, rose, later))
  stopped why a b c sent all rose (inr h) =
      let e = h.last in
      subst (λ l. RoseBy (upstreams_errors l) (meanings.faults (inner_of a.validator))
      (meanings.faults (inner_of c.validator))) (sym h.all)
      (subst (λ n. RoseBy n (meanings.faults (inner_of a.validator)) (meanings.faults (inner_of c.validator)))
      (errors_more sent e)
      (rose_then (upstreams_errors sent) (errors_in e.outcome) (meanings.faults (inner_of a.validator))
      (meanings.faults (inner_of b.validator)) (meanings.faults (inner_of c.validator)) rose
      (led meanings tests caches (query_of (received_of e.request)) b.validator c.validator b.depth e.moment e.outcome
      h.unsent.answers.exchange.responds.lookup)))

  by_end : (count : ℕ) (old middle : Seat P H V K S T B tests builds hashes) (sent : List Exchanged)
      (served : Served P H V K S T B tests builds hashes)
      → HadEnough count middle sent served ⊎ HadLess ports meanings tests caches count middle sent served
      → RoseBy (upstreams_errors sent) (meanings.faults (inner_of old.validator))
      (meanings.faults (inner_of middle.validator))
      → ErrorsHaveFaults meanings old served
  by_end count old middle sent served (inl h) rose =
      subst (λ l. RoseBy (upstreams_errors l) (meanings.faults (inner_of old.validator))
      (meanings.faults (inner_of served.seat.validator))) (sym h.all)
      (subst (λ s. RoseBy (upstreams_errors sent) (meanings.faults (inner_of old.validator))
      (meanings.faults (inner_of s.validator))) (sym h.seat) rose)
  by_end count old middle sent served (inr h) rose =
      stopped served.ended old middle served.seat sent served.exchanges.items rose h.stops

module _ {P H V K S T B : Type 0} {builds : build_hasher.Ghosts S B} {hashes : hasher.Ghosts B}
    {ports : port.Ghosts P} {meanings : handle.Ghosts H} {tests : verifier.Ghosts V}
    {caches : cache.Ghosts (SharedCache V S T B tests builds hashes)} where
  pub errors_have_faults : {count : ℕ} {old : Seat P H V K S T B tests builds hashes}
      {served : Served P H V K S T B tests builds hashes}
      → IsServed ports meanings tests caches count old served → ErrorsHaveFaults meanings old served
  errors_have_faults {count} {old} {served} h =
      by_end ports meanings tests caches count old h.middle h.sent served h.ends
      (all_led meanings tests caches old.protocol old.depth old.validator h.sent h.middle.validator h.keeps.each)
