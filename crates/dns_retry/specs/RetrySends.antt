-- A send that is polled: one send of the handle inside in each poll.
use Rattle.std.specs.Prelude.{ℕ, ◌≡◌, Bool, true, false, List, [], ◌∷◌, Result, Err}
use Rattle.futures.specs.declared.task.Poll.{Poll}
use Rattle.futures.specs.declared.task.Poll.TheVariants.{Ready, Pending}
use Rattle.dns_model.specs.SoundAnswers.{ResponseValue}
use Rattle.dns_handle.specs.Errors.{Reply, Message}
use Rattle.dns_handle.specs.Replies.{reply_of}
use Rattle.dns_handle.specs.Requests.{RequestValue}
use Rattle.dns_handle.specs.declared.error.NetError.{NetError}
use Rattle.dns_handle.specs.declared.handle.DnsHandle as handle
use Rattle.dns_handle.specs.declared.notice.Notice.TheVariants.{PolledAfterCompletion}
use Rattle.dns_retry.specs.Retries.{is_due, left_after, busy_after, MaySend, SendsRequest}
use Rattle.dns_retry.specs.RetryHandles.{inner_of, CountsSend}
use Rattle.dns_retry.specs.declared.retry_handle.RetryDnsHandle.{RetryDnsHandle}
use Rattle.dns_retry.specs.declared.retry_send.RetrySend.{RetrySend}

-- the handle, the request and its moment in seconds, the attempts that are left, how often it was busy, and whether it was answered
pub record SendState (H : Type 0) : Type 0 where
  pub retry : RetryDnsHandle H
  pub request : RequestValue
  pub now : ℕ
  pub left : ℕ
  pub busy : ℕ
  pub is_done : Bool

abbrev pub state_of : {H : Type 0} → RetrySend H → SendState H
state_of s = record {
  retry = s.retry;
  request = s.request;
  now = s.now;
  left = s.attempts.left;
  busy = s.attempts.busy;
  is_done = s.is_done;
}

-- the error of a poll after the answer
abbrev pub polled_again : Reply
polled_again = Err (Message PolledAfterCompletion)

abbrev pub OneSend : {H : Type 0} → handle.Ghosts H → SendState H → H → Reply → H → Type 0
OneSend meanings s = SendsRequest meanings s.request s.now

-- ---- what one poll does

-- a send was made after which another one is due
pub record GoesOn {H : Type 0} (meanings : handle.Ghosts H) (old new : SendState H) : Type 0 where
  pub reply : Reply
  pub running : old.is_done ≡ false
  pub sent : OneSend meanings old (inner_of old.retry) reply (inner_of new.retry)
  pub due : is_due old.left old.busy reply ≡ true
  pub left : new ≡ record old {
    retry = record old.retry { handle = inner_of new.retry };
    left = left_after old.left reply;
    busy = busy_after old.busy reply;
  }

-- the send is answered, and counted as one call
pub record EndsSend {H : Type 0} (meanings : handle.Ghosts H) (old new : SendState H) (reply : Reply) : Type 0 where
  pub sent : MaySend (OneSend meanings old) (inner_of old.retry) reply (inner_of new.retry)
  pub over : is_due old.left old.busy reply ≡ false
  pub counted : CountsSend old.retry new.retry reply
  pub left : new ≡ record old { retry = new.retry; is_done = true }

abbrev pub AnswersBy : Bool → {H : Type 0} → handle.Ghosts H → SendState H → SendState H → Reply → Type 0
AnswersBy true meanings old new reply = (reply ≡ polled_again) × (new ≡ old)
AnswersBy false meanings old new reply = EndsSend meanings old new reply

-- pending exactly where another send is due; polled again after the answer, nothing is sent
abbrev pub IsPolled : {H : Type 0} → handle.Ghosts H → RetrySend H → RetrySend H → Poll (Result ResponseValue NetError) → Type 0
IsPolled meanings old new Pending = GoesOn meanings (state_of old) (state_of new)
IsPolled meanings old new (Ready x) = AnswersBy old.is_done meanings (state_of old) (state_of new) (reply_of x)

-- ---- what all polls may come to

-- sends after each of which another one is due, by their replies in order, and the one that is answered
unfoldable pub Follows : {H : Type 0} → (H → Reply → H → Type 0) → ℕ → ℕ → H → List Reply → H → Reply → Type 0
Follows one left busy old [] new reply = MaySend one old reply new × (is_due left busy reply ≡ false)
Follows {H} one left busy old (r ∷ rest) new reply = (mid : H) × one old r mid × (is_due left busy r ≡ true)
    × Follows one (left_after left r) (busy_after busy r) mid rest new reply

pub record MayEnd {H : Type 0} (meanings : handle.Ghosts H) (s : SendState H) (reply : Reply) : Type 0 where
  pub again : List Reply
  pub new : H
  pub follows : Follows (OneSend meanings s) s.left s.busy (inner_of s.retry) again new reply

abbrev pub MayAnswerBy : Bool → {H : Type 0} → handle.Ghosts H → SendState H → Reply → Type 0
MayAnswerBy true meanings s reply = reply ≡ polled_again
MayAnswerBy false meanings s reply = MayEnd meanings s reply

abbrev pub MayAnswer : {H : Type 0} → handle.Ghosts H → RetrySend H → Result ResponseValue NetError → Type 0
MayAnswer meanings s x = MayAnswerBy s.is_done meanings (state_of s) (reply_of x)
