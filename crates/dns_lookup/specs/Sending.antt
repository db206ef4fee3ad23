-- What a validator answers to a whole request (RFC 1035, 4.1.1; RFC 4035, 3.2 and 4.1; RFC 6840, 5.7).
use Rattle.std.specs.Prelude.{ℕ, ◌≡◌, ◌≢◌, ◌≤◌, Option, None, Some, Err, IfOk}
use Rattle.dns_model.specs.Counts.{one_more}
use Rattle.dns_model.specs.Gives.{Unless}
use Rattle.dns_model.specs.Records.{Question}
use Rattle.dns_model.specs.Chains.{Judge, judge}
use Rattle.dns_handle.specs.Errors as seen
use Rattle.dns_handle.specs.Errors.{Reply, Message}
use Rattle.dns_handle.specs.Causes.{faults_after}
use Rattle.dns_handle.specs.Requests.{RequestValue, first_question}
use Rattle.dns_handle.specs.declared.handle.DnsHandle as handle
use Rattle.dns_handle.specs.declared.notice.Notice.TheVariants.{NoQueryInRequest}
use Rattle.dns_cache.specs.Expiry.{TtlRangesValue}
use Rattle.dns_cache.specs.declared.validation_cache.ValidationCache as cache
use Rattle.dns_evidence.specs.declared.limits.IterationLimits.{IterationLimits}
use Rattle.dns_evidence.specs.declared.verifier.Verifier as verifier
use Rattle.dns_validation.specs.Requests.{checked_request}
use Rattle.dns_lookup.specs.Calls.{Call, CacheUse, use_of, Sending, inner_of, anchors_of, verifier_of, iterations_of, cache_of, ranges_of, ask_of_call, first_ask_of_call, terms_of_call}
use Rattle.dns_lookup.specs.Caching.{UsesCache}
use Rattle.dns_lookup.specs.Causes.{HasItsCause, PassesOn, ForeignNamed, AnswersTold}
use Rattle.dns_lookup.specs.Completing.{Completes}
use Rattle.dns_lookup.specs.LookupAnswers.{OfAnswer, IsSoundAnswer, IsTrail, IsExplained, ShowsItsDenial, DeniesQuery}
use Rattle.dns_lookup.specs.Sends.{SendsBy}
use Rattle.dns_lookup.specs.Fronts.{IsFront}
use Rattle.dns_lookup.specs.declared.handle.DnssecDnsHandle.{DnssecDnsHandle}

-- ---- a query

-- the lookup of a request's first question by the request's options, whose first send is this request
abbrev pub call_for : {H : Type 0} → Judge → RequestValue → Question → IterationLimits → TtlRangesValue → ℕ → CacheUse → H → H → Call H
call_for j request q iterations ranges now kept old new = record {
  judge = j;
  query = q;
  request = checked_request request;
  options = request.options;
  iterations = iterations;
  ranges = ranges;
  now = now;
  old = old;
  new = new;
  cache = kept;
}

-- all that a lookup promises of its sends, its answer and its cache, whichever request it sends first; the last four unless it answers
-- that memory ran out. Whatever it answers, its sends are a front of a run
pub record IsLookedUp {H : Type 0} (meanings : handle.Ghosts H) (call : Call H) (reply : Reply) : Type 0 where
  pub sends : SendsBy (first_ask_of_call meanings call) (ask_of_call meanings call) call.old call.new call.query
  pub front : IsFront meanings (terms_of_call call) call.cache call.old call.new reply
  pub sound : OfAnswer reply (λ a ending. IsSoundAnswer meanings call a)
  pub trail : OfAnswer reply (λ a ending. IsTrail meanings call a.trail ending)
  pub cached : OfAnswer reply (λ a ending. UsesCache call a.trail)
  pub explained : OfAnswer reply (λ a ending. IsExplained call.judge.answers call.cache.before call.now a)
  pub denies : IfOk reply (λ a. ShowsItsDenial call.now call.query a)
  pub denied : DeniesQuery call.query reply
  pub caused : HasItsCause meanings call reply
  pub passes : Unless seen.NoMemory reply (PassesOn (meanings.told call.old) call.query reply)
  pub names_foreign : Unless seen.NoMemory reply (ForeignNamed (meanings.told call.old) call.query reply)
  pub answers : Unless seen.NoMemory reply (AnswersTold (meanings.told call.old) call.query reply)
  pub completes : Unless seen.NoMemory reply (Completes (meanings.told call.old) call reply)

-- ---- any request

-- the cache has the entries from before, and wasn't hit
pub record IsUnused (kept : CacheUse) : Type 0 where
  pub same : kept.after ≡ kept.before
  pub still : kept.hits_after ≡ kept.hits_before

-- the answer to a request, by a handle that was asked for it and by what its replies are judged
pub data AnswersRequest {H : Type 0} (meanings : handle.Ghosts H) (j : Judge) (request : RequestValue)
    (iterations : IterationLimits) (ranges : TtlRangesValue) (now : ℕ) (kept : CacheUse) (old new : H) : Reply → Type 0 where
  -- a request of another opcode than Query goes on as it is, and its reply is the answer
  Goes : (reply : Reply) → request.message.op_code ≢ 0 → Sending meanings request (first_question request) now old new reply → IsUnused kept
      → AnswersRequest meanings j request iterations ranges now kept old new reply
  -- a query without a question is refused, and nothing is sent
  Refused : request.message.op_code ≡ 0 → first_question request ≡ None → new ≡ old → IsUnused kept
      → AnswersRequest meanings j request iterations ranges now kept old new (Err (Message NoQueryInRequest))
  -- another query is looked up
  LookedUp : (reply : Reply) (q : Question) → request.message.op_code ≡ 0 → first_question request ≡ Some q
      → IsLookedUp meanings (call_for j request q iterations ranges now kept old new) reply
      → AnswersRequest meanings j request iterations ranges now kept old new reply
  -- or memory runs out before anything is sent for it
  Unsent : (q : Question) → request.message.op_code ≡ 0 → first_question request ≡ Some q → new ≡ old
      → IsFront meanings (terms_of_call (call_for j request q iterations ranges now kept old new)) kept old new (Err seen.NoMemory)
      → AnswersRequest meanings j request iterations ranges now kept old new (Err seen.NoMemory)

-- ---- the validator

-- how often it was asked
abbrev pub sends_of : {H V C : Type 0} → DnssecDnsHandle H V C → ℕ
sends_of validator = validator.sends

-- how many errors it answered, want of memory aside and that there are no records
abbrev pub faults_of : {H V C : Type 0} → DnssecDnsHandle H V C → ℕ
faults_of validator = validator.faults

-- it trusts the same keys, tests by the same verifier, counts as many iterations and keeps for as long, and has counted one send and the fault that
-- the reply may be
pub record CountsSend {H V C : Type 0} (old new : DnssecDnsHandle H V C) (reply : Reply) : Type 0 where
  pub anchors : anchors_of new ≡ anchors_of old
  pub verifier : verifier_of new ≡ verifier_of old
  pub iterations : iterations_of new ≡ iterations_of old
  pub ranges : ranges_of new ≡ ranges_of old
  pub sends : sends_of new ≡ one_more (sends_of old)
  pub faults : faults_of new ≡ faults_after (faults_of old) reply

-- a validator answers a request
pub record ValidatesRequest {H V C : Type 0} (meanings : handle.Ghosts H) (tests : verifier.Ghosts V) (caches : cache.Ghosts C)
    (old : DnssecDnsHandle H V C) (request : RequestValue) (now : ℕ) (new : DnssecDnsHandle H V C) (reply : Reply) : Type 0 where
  pub counted : CountsSend old new reply
  pub later : meanings.faults (inner_of old) ≤ meanings.faults (inner_of new)
  pub answers : AnswersRequest meanings (judge (tests.answers (verifier_of old)) (anchors_of old) now) request (iterations_of old) (ranges_of old) now
      (use_of caches (cache_of old) (cache_of new)) (inner_of old) (inner_of new) reply

-- a validator answers some request with this first question, at some moment
pub record ValidatesQuestion {H V C : Type 0} (meanings : handle.Ghosts H) (tests : verifier.Ghosts V) (caches : cache.Ghosts C)
    (old : DnssecDnsHandle H V C) (asked : Option Question) (new : DnssecDnsHandle H V C) (reply : Reply) : Type 0 where
  pub request : RequestValue
  pub now : ℕ
  pub asks : first_question request ≡ asked
  pub validates : ValidatesRequest meanings tests caches old request now new reply
