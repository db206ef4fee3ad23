-- For private functions of this crate only: how a lookup came to its answer.
use Rattle.std.specs.Prelude.{ℕ, ◌≡◌, ◌≢◌, ◌≤◌, List, [], ◌++◌, None, Some, Err}
use Rattle.dns_model.specs.Chains.{Judge}
use Rattle.dns_model.specs.Records.{Rr, MessageValue, Question}
use Rattle.dns_model.specs.SoundAnswers.{told_by}
use Rattle.dns_rules.specs.CacheEntries.{EntryValue}
use Rattle.dns_rules.specs.Asking.{most_sends, effective, judged_part}
use Rattle.dns_rules.specs.ChainedSets.{bare}
use Rattle.dns_rules.specs.DerivationParts.{asks_of_sets, steps_at}
use Rattle.dns_rules.specs.Marking.{cleared_message}
use Rattle.dns_rules.specs.Outcome.{foreign_record}
use Rattle.dns_rules.specs.Parts.{TrailPart}
use Rattle.dns_handle.specs.Errors as seen
use Rattle.dns_handle.specs.Errors.{Reply, ErrorValue}
use Rattle.dns_handle.specs.declared.handle.DnsHandle as handle
use Rattle.dns_handle.specs.Requests.{RequestValue}
use Rattle.dns_handle.specs.declared.request.DnsRequestOptions.{DnsRequestOptions}
use Rattle.dns_cache.specs.Expiry.{TtlRangesValue}
use Rattle.dns_evidence.specs.declared.limits.IterationLimits.{IterationLimits}
use Rattle.dns_flow.specs.Phases.{judged_ask}
use Rattle.dns_flow.specs.Endings.{IsStepEnd}
use Rattle.dns_validation.specs.Requests.{asking_request, checked_request}
use Rattle.dns_validation.specs.Received.{received_message, says_none}
use Rattle.dns_validation.specs.Steps.{Findings, judged_answer}
use Rattle.dns_validation.specs.Machine.{Terms}
use Rattle.dns_validation.specs.Comes.{IsJudgement, top_context}
use Rattle.dns_validation.specs.Validations.{terms_by}
use Rattle.dns_lookup.specs.Caching.{ServeFrom}
use Rattle.dns_lookup.specs.Calls.{Call, CacheUse, limits_of_call, ask_of_call, first_ask_of_call, terms_of_call}
use Rattle.dns_lookup.specs.Sends.{SendsAlong}

-- the terms of a lookup by its query's own request
abbrev pub terms_for : Judge → Question → DnsRequestOptions → IterationLimits → TtlRangesValue → ℕ → Terms
terms_for j q options iterations ranges now = terms_by j q (asking_request q options) options iterations ranges now

-- the terms of a lookup by a request with its query
abbrev pub terms_by_request : Judge → Question → RequestValue → IterationLimits → TtlRangesValue → ℕ → Terms
terms_by_request j q request iterations ranges now = terms_by j q (checked_request request) request.options iterations ranges now

-- the lookup that a validation with these terms makes
abbrev pub call_by : {H : Type 0} → Terms → CacheUse → H → H → Call H
call_by t kept old new = record {
  judge = t.judge;
  query = t.query;
  request = t.request;
  options = t.options;
  iterations = t.iterations;
  ranges = t.ranges;
  now = t.now;
  old = old;
  new = new;
  cache = kept;
}

-- the message of the first ask, and how its sets were judged by further asks
pub record Found {H : Type 0} (meanings : handle.Ghosts H) (call : Call H) (found : Findings) : Type 0 where
  pub reply : Reply
  pub from : MessageValue
  pub middle : H
  pub sends : ℕ
  pub made : first_ask_of_call meanings call call.old (judged_ask call.query) middle reply
  pub received : received_message reply ≡ Some from
  pub cleared : found.message ≡ cleared_message from
  pub empty : found.empty ≡ says_none reply
  pub own : foreign_record call.query (told_by found.message) ≡ None
  pub cached : List EntryValue
  pub kept : ServeFrom call.cache.before call.now cached
  pub part : TrailPart call.judge (effective (limits_of_call call)) cached [] found.steps
      (asks_of_sets found.entries ++ found.excuse) 1 sends
  pub along : SendsAlong (ask_of_call meanings call) middle (steps_at found.steps (Some part.order)) call.new
  pub judged : IsJudgement (top_context (terms_of_call call) cached found.steps) (judged_part 0 (told_by found.message))
      found.sets found.entries
  pub concluded : IsStepEnd (top_context (terms_of_call call) cached found.steps) (told_by found.message) (bare found.sets)
      found.outcome found.excuse
  pub few : sends ≤ most_sends

-- why a lookup answers as it does
pub data AnswersLookup {H : Type 0} (meanings : handle.Ghosts H) (call : Call H) : Reply → Type 0 where
  -- an error without a message is passed on
  Passes : (e : ErrorValue) → first_ask_of_call meanings call call.old (judged_ask call.query) call.new (Err e)
      → received_message (Err e) ≡ None → e ≢ seen.NoMemory → AnswersLookup meanings call (Err e)
  -- a record of another class is named
  Names : (reply answer : Reply) (from : MessageValue) (r : Rr)
      → first_ask_of_call meanings call call.old (judged_ask call.query) call.new reply
      → received_message reply ≡ Some from → foreign_record call.query (told_by (cleared_message from)) ≡ Some r
      → answer ≡ Err (seen.ForeignClassRecord r.owner r.class r.rtype) → AnswersLookup meanings call answer
  -- the sets of the message are judged, and make the answer
  Judges : (answer : Reply) (found : Findings) → Found meanings call found
      → answer ≡ judged_answer call.now call.query found → AnswersLookup meanings call answer
