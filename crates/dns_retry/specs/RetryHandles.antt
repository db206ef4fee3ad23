-- What contracts see of a handle that sends again: its parts, how it counts, and what its sends are (RFC 1035, 4.2.1).
use Rattle.std.specs.Prelude.{ℕ, ◌≡◌, Option}
use Rattle.dns_model.specs.Counts.{one_more}
use Rattle.dns_model.specs.Records.{Question}
use Rattle.dns_handle.specs.Causes.{faults_after}
use Rattle.dns_handle.specs.Errors.{Reply}
use Rattle.dns_handle.specs.Requests.{RequestValue}
use Rattle.dns_handle.specs.declared.handle.DnsHandle as handle
use Rattle.dns_retry.specs.Retries.{IsRetried, SendsRequest}
use Rattle.dns_retry.specs.declared.retry_handle.RetryDnsHandle.{RetryDnsHandle}

-- the handle that is asked
abbrev pub inner_of : {H : Type 0} → RetryDnsHandle H → H
inner_of retry = retry.handle

-- so many sends at most follow errors other than being busy
abbrev pub attempts_of : {H : Type 0} → RetryDnsHandle H → ℕ
attempts_of retry = retry.attempts

-- how many calls there were, and how many faults were answered
abbrev pub sends_of : {H : Type 0} → RetryDnsHandle H → ℕ
sends_of retry = retry.sends

abbrev pub faults_of : {H : Type 0} → RetryDnsHandle H → ℕ
faults_of retry = retry.faults

-- the call is counted, and so is a fault that it answers; the attempts stay
pub record CountsSend {H : Type 0} (old new : RetryDnsHandle H) (reply : Reply) : Type 0 where
  pub sends : sends_of new ≡ one_more (sends_of old)
  pub faults : faults_of new ≡ faults_after (faults_of old) reply
  pub attempts : attempts_of new ≡ attempts_of old

-- a call of which the question alone is told
pub record RetriesQuestion {H : Type 0} (meanings : handle.Ghosts H) (old : RetryDnsHandle H) (q : Option Question)
    (new : RetryDnsHandle H) (reply : Reply) : Type 0 where
  pub retried : IsRetried (λ a r b. meanings.sent a q b r) (attempts_of old) (inner_of old) (inner_of new) reply
  pub counted : CountsSend old new reply

-- a call with its request and its moment
pub record RetriesRequest {H : Type 0} (meanings : handle.Ghosts H) (old : RetryDnsHandle H) (request : RequestValue) (now : ℕ)
    (new : RetryDnsHandle H) (reply : Reply) : Type 0 where
  pub retried : IsRetried (SendsRequest meanings request now) (attempts_of old) (inner_of old) (inner_of new) reply
  pub counted : CountsSend old new reply
