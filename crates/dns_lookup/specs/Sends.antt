-- The sends of a lookup: one for each step of its trail, in the order in which they were made (RFC 4035, 4.2 and 5).
use Rattle.std.specs.Prelude.{ℕ, ◌≡◌, ◌≢◌, ◌≤◌, Bool, true, false, List, [], ◌∷◌, Err}
use Rattle.dns_model.specs.Records.{Question}
use Rattle.dns_model.specs.Trails.{AskedValue, HeardValue, Records, Fault}
use Rattle.dns_rules.specs.Asking.{most_sends}
use Rattle.dns_handle.specs.Errors as seen
use Rattle.dns_handle.specs.Errors.{Reply}
use Rattle.dns_handle.specs.Handles.{Replies, reply_to, left_after}
use Rattle.dns_handle.specs.Walks.{Walked}
use Rattle.dns_validation.specs.Received.{heard_from}
use Rattle.dns_flow.specs.declared.asks.Ask.{Ask}
use Rattle.dns_flow.specs.Phases.{judged_ask}

-- the ask of a step
abbrev pub ask_of_step : AskedValue → Ask
ask_of_step step = record { query = step.query; judged = step.judged }

-- one ask for a step of a trail: what the step heard follows from the reply, which is never want of memory
pub record SendOf {H : Type 0} (ask : H → Ask → H → Reply → Type 0) (from : H) (step : AskedValue) (to : H) : Type 0 where
  pub reply : Reply
  pub made : ask from (ask_of_step step) to reply
  pub heard : step.reply ≡ heard_from reply
  pub remembered : reply ≢ Err seen.NoMemory

-- a handle went from one state to another by one ask for each step, in order
abbrev pub SendsAlong : {H : Type 0} → (H → Ask → H → Reply → Type 0) → H → List AskedValue → H → Type 0
SendsAlong ask from [] to = from ≡ to
SendsAlong {H} ask from (step ∷ steps) to = (middle : H) × SendOf ask from step middle × SendsAlong ask middle steps to

-- the first step by an ask of another kind
abbrev pub SendsFrom : {H : Type 0} → (H → Ask → H → Reply → Type 0) → (H → Ask → H → Reply → Type 0)
    → H → List AskedValue → H → Type 0
SendsFrom first ask from [] to = from ≡ to
SendsFrom {H} first ask from (step ∷ steps) to = (middle : H) × SendOf first from step middle × SendsAlong ask middle steps to

-- each step heard what an upstream that tells its replies replies, one send after another
abbrev pub IsFromReplies : Replies → List AskedValue → Type 0
IsFromReplies replies [] = Unit {0}
IsFromReplies replies (step ∷ steps) =
    (step.reply ≡ heard_from (reply_to replies.list step.query)) × IsFromReplies (left_after replies step.query) steps

-- a step heard a fault
abbrev pub heard_fault : HeardValue → Bool
heard_fault (Records told empty) = false
heard_fault Fault = true

-- a handle went from one state to another by a judged ask for the query, of one kind, and asks of another kind after it, at most
-- so many in all
pub record SendsBy {H : Type 0} (begin ask : H → Ask → H → Reply → Type 0) (old new : H) (q : Question) : Type 0 where
  pub middle : H
  pub reply : Reply
  pub sends : ℕ
  pub first : begin old (judged_ask q) middle reply
  pub others : Walked ask middle new 1 sends
  pub few : sends ≤ most_sends

-- all of them of one kind
abbrev pub SendsFor : {H : Type 0} → (H → Ask → H → Reply → Type 0) → H → H → Question → Type 0
SendsFor ask old new q = SendsBy ask ask old new q
