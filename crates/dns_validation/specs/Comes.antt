-- What a run of a validation comes to: an answer by a trail of exactly its sends, or an error of the first reply (RFC 4035, 4.3 and 5).
use Rattle.std.specs.Prelude.{ℕ, ◌≡◌, ◌≤◌, Bool, true, false, List, [], ◌∷◌, ◌++◌, None, Some, Err}
use Rattle.std.specs.List.{AllByRecursion}
use Rattle.dns_model.specs.Records.{Rr, MessageValue}
use Rattle.dns_model.specs.SoundAnswers.{PlacedSet, told_by}
use Rattle.dns_model.specs.Trails.{AskedValue, JudgedSetValue}
use Rattle.dns_rules.specs.Asking.{most_sends, judged_part}
use Rattle.dns_rules.specs.ChainedSets.{ChainedSet, bare, stands}
use Rattle.dns_rules.specs.CacheEntries.{EntryValue}
use Rattle.dns_rules.specs.Derivation.{StepContext, entries_hold, with_entries}
use Rattle.dns_rules.specs.DerivationParts.{asks_of_sets, steps_at}
use Rattle.dns_rules.specs.Outcome.{foreign_record}
use Rattle.dns_rules.specs.Parts.{TrailPart}
use Rattle.dns_handle.specs.Errors as seen
use Rattle.dns_handle.specs.Errors.{Reply, ErrorValue}
use Rattle.dns_flow.specs.Endings.{IsStepEnd}
use Rattle.dns_flow.specs.Phases.{judged_ask}
use Rattle.dns_validation.specs.Received.{Message, Failed, received_value, heard_from, is_out_of_memory}
use Rattle.dns_validation.specs.Requests.{request_for}
use Rattle.dns_validation.specs.Steps.{Findings, judged_answer}
use Rattle.dns_validation.specs.Machine.{Terms, limits_of}
use Rattle.dns_validation.specs.Runs.{Sent}

-- ---- sends and steps

-- the first send: the request that the validation was given, for its query
pub record IsFirst (t : Terms) (sent : Sent) : Type 0 where
  pub ask : sent.ask ≡ judged_ask t.query
  pub request : sent.request ≡ t.request
  pub depth : sent.depth ≡ 0
  pub kept : is_out_of_memory sent.reply ≡ false

-- a step of a trail is that of a send: it has its ask and its depth, and heard what its reply tells
pub record IsStepOf (t : Terms) (step : AskedValue) (sent : Sent) : Type 0 where
  pub query : sent.ask.query ≡ step.query
  pub judged : sent.ask.judged ≡ step.judged
  pub request : sent.request ≡ request_for t.options sent.ask
  pub depth : sent.depth ≡ step.depth
  pub heard : step.reply ≡ heard_from sent.reply
  pub kept : is_out_of_memory sent.reply ≡ false

-- each step that of one send, in order
abbrev pub StepsOf : Terms → List AskedValue → List Sent → Type 0
StepsOf t [] [] = Unit {0}
StepsOf t [] (sent ∷ sends) = ⊥
StepsOf t (step ∷ steps) [] = ⊥
StepsOf t (step ∷ steps) (sent ∷ sends) = IsStepOf t step sent × StepsOf t steps sends

-- ---- what was found

-- sets with their chains, and the entries that a step has for them: each entry follows, and each Secure set has its chain
pub record IsJudgement (g : StepContext) (placed : List PlacedSet) (sets : List ChainedSet) (entries : List JudgedSetValue) : Type 0 where
  pub hold : entries_hold g placed entries ≡ true
  pub same : bare sets ≡ with_entries placed entries
  pub stand : AllByRecursion (λ c. stands g.judge c ≡ true) sets

-- by what the sets of the step for the query are judged
abbrev pub top_context : Terms → List EntryValue → List AskedValue → StepContext
top_context t cached steps = record { judge = t.judge; limits = limits_of t; cached = cached; earlier = steps; query = t.query; depth = 0 }

-- the reply to the first send, and how its sets were judged by the other sends, each of which is a step before the last one
pub record FoundBy (t : Terms) (cached : List EntryValue) (sends : List Sent) (found : Findings) : Type 0 where
  pub first : Sent
  pub others : List Sent
  pub are : sends ≡ first ∷ others
  pub begins : IsFirst t first
  pub received : received_value first.reply ≡ Message found.message found.empty
  pub own : foreign_record t.query (told_by found.message) ≡ None
  pub count : ℕ
  pub few : count ≤ most_sends
  pub part : TrailPart t.judge (limits_of t) cached [] found.steps (asks_of_sets found.entries ++ found.excuse) 1 count
  pub along : StepsOf t (steps_at found.steps (Some part.order)) others
  pub judged : IsJudgement (top_context t cached found.steps) (judged_part 0 (told_by found.message)) found.sets found.entries
  pub concluded : IsStepEnd (top_context t cached found.steps) (told_by found.message) (bare found.sets) found.outcome found.excuse

-- why a validation answers as it does after these sends
pub data Comes (t : Terms) (cached : List EntryValue) (sends : List Sent) : Reply → Type 0 where
  -- an error without a message is passed on
  Passes : (error : ErrorValue) (sent : Sent) → sends ≡ sent ∷ [] → IsFirst t sent → received_value sent.reply ≡ Failed error
      → Comes t cached sends (Err error)
  -- a record of another class is named
  Names : (reply : Reply) (sent : Sent) (m : MessageValue) (r : Rr) → sends ≡ sent ∷ [] → IsFirst t sent → (empty : Bool)
      → received_value sent.reply ≡ Message m empty → foreign_record t.query (told_by m) ≡ Some r
      → reply ≡ Err (seen.ForeignClassRecord r.owner r.class r.rtype) → Comes t cached sends reply
  -- the sets of the message are judged, and make the answer
  Judges : (reply : Reply) (found : Findings) → FoundBy t cached sends found → reply ≡ judged_answer t.now t.query found → Comes t cached sends reply
