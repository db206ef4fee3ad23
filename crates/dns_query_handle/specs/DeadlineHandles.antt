-- What contracts see of a handle that sends in time alone (RFC 1035, 7.1): its parts, how it counts, and what its sends are.
use Rattle.std.specs.Prelude.{ℕ, ◌≡◌, Option}
use Rattle.dns_model.specs.Counts.{one_more}
use Rattle.dns_model.specs.Records.{Question}
use Rattle.dns_handle.specs.Causes.{faults_after}
use Rattle.dns_handle.specs.Errors.{Reply}
use Rattle.dns_handle.specs.Requests.{RequestValue, first_question}
use Rattle.dns_handle.specs.declared.handle.DnsHandle as handle
use Rattle.dns_query_handle.specs.Deadlines.{AsksInTime}
use Rattle.dns_query_handle.specs.declared.deadline_handle.DeadlineHandle.{DeadlineHandle}

-- the handle that is asked, the stopwatch, and the limit in milliseconds
abbrev pub inner_of : {H T : Type 0} → DeadlineHandle H T → H
inner_of timed = timed.handle

abbrev pub watch_of : {H T : Type 0} → DeadlineHandle H T → T
watch_of timed = timed.watch

abbrev pub limit_of : {H T : Type 0} → DeadlineHandle H T → ℕ
limit_of timed = timed.limit_ms

-- how many sends there were, and how many faults were answered
abbrev pub sends_of : {H T : Type 0} → DeadlineHandle H T → ℕ
sends_of timed = timed.sends

abbrev pub faults_of : {H T : Type 0} → DeadlineHandle H T → ℕ
faults_of timed = timed.faults

-- a send: the handle is asked if there is time, and the send is counted; the limit stays
pub record StopsInTime {H T : Type 0} (meanings : handle.Ghosts H) (reads : T → ℕ → T → Type 0) (old : DeadlineHandle H T)
    (request : RequestValue) (now : ℕ) (new : DeadlineHandle H T) (reply : Reply) : Type 0 where
  pub asked : AsksInTime meanings reads (limit_of old) (inner_of old) (watch_of old) request now (inner_of new) (watch_of new) reply
  pub limit : limit_of new ≡ limit_of old
  pub sends : sends_of new ≡ one_more (sends_of old)
  pub faults : faults_of new ≡ faults_after (faults_of old) reply

-- the same of some request with a first question, at some moment
pub record StopsQuestion {H T : Type 0} (meanings : handle.Ghosts H) (reads : T → ℕ → T → Type 0) (old : DeadlineHandle H T)
    (q : Option Question) (new : DeadlineHandle H T) (reply : Reply) : Type 0 where
  pub request : RequestValue
  pub moment : ℕ
  pub asks : q ≡ first_question request
  pub is : StopsInTime meanings reads old request moment new reply
