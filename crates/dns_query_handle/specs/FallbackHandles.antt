-- What contracts see of a handle that sends truncated requests again (RFC 1035, 4.2.1): its parts, how it counts, and what its sends are.
use Rattle.std.specs.Prelude.{ℕ, ◌≡◌, Option}
use Rattle.dns_model.specs.Counts.{one_more}
use Rattle.dns_model.specs.Records.{Question}
use Rattle.dns_handle.specs.Causes.{faults_after}
use Rattle.dns_handle.specs.Errors.{Reply}
use Rattle.dns_handle.specs.Requests.{RequestValue, first_question}
use Rattle.dns_handle.specs.declared.handle.DnsHandle as handle
use Rattle.dns_query_handle.specs.Fallbacks.{AsksBoth}
use Rattle.dns_query_handle.specs.declared.fallback_handle.FallbackHandle.{FallbackHandle}

-- the handles that are asked
abbrev pub first_of : {U T : Type 0} → FallbackHandle U T → U
first_of fallback = fallback.first

abbrev pub second_of : {U T : Type 0} → FallbackHandle U T → T
second_of fallback = fallback.second

-- how many sends there were, and how many faults were answered
abbrev pub sends_of : {U T : Type 0} → FallbackHandle U T → ℕ
sends_of fallback = fallback.sends

abbrev pub faults_of : {U T : Type 0} → FallbackHandle U T → ℕ
faults_of fallback = fallback.faults

-- a send: the handles are asked, and the send is counted
pub record FallsBack {U T : Type 0} (firsts : handle.Ghosts U) (seconds : handle.Ghosts T) (old : FallbackHandle U T)
    (request : RequestValue) (now : ℕ) (new : FallbackHandle U T) (reply : Reply) : Type 0 where
  pub asked : AsksBoth firsts seconds (first_of old) (second_of old) request now (first_of new) (second_of new) reply
  pub sends : sends_of new ≡ one_more (sends_of old)
  pub faults : faults_of new ≡ faults_after (faults_of old) reply

-- the same of some request with a first question, at some moment
pub record FallsBackQuestion {U T : Type 0} (firsts : handle.Ghosts U) (seconds : handle.Ghosts T) (old : FallbackHandle U T)
    (q : Option Question) (new : FallbackHandle U T) (reply : Reply) : Type 0 where
  pub request : RequestValue
  pub moment : ℕ
  pub asks : q ≡ first_question request
  pub is : FallsBack firsts seconds old request moment new reply
