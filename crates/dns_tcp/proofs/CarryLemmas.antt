-- A send from the first write to the answer.
use Rattle.std.proofs.Common.{◌≡◌, ℕ, inl, inr, false, Bool, List, Result, Ok, Err, refl, ap, ◌∙◌, arith}
use Rattle.dns_model.specs.Counts.{Rose, one_more}
use Rattle.dns_model.specs.SoundAnswers.{ResponseValue}
use Rattle.dns_handle.specs.declared.error.NetError.{NetError}
use Rattle.dns_handle.specs.declared.error.NetError.TheVariants as errors
use Rattle.dns_handle.specs.declared.error.DnsError.TheVariants as dns
use Rattle.dns_handle.specs.Causes.{HasCause, faults_after}
use Rattle.dns_handle.specs.Errors.{ErrorValue, Reply}
use Rattle.dns_handle.specs.Replies.{error_of, reply_of}
use Rattle.dns_handle.specs.Requests.{RequestValue}
use Rattle.dns_multiplexer.specs.Draws.{CoreValue, Drawn, IsSend, Plays, request_bytes}
use Rattle.dns_multiplexer.specs.Events.{Cancel, last_drawn}
use Rattle.dns_multiplexer.specs.Machine.{Request, State}
use Rattle.dns_multiplexer.specs.Messages.{SerialMessageValue}
use Rattle.dns_tcp.specs.Links.{LinkView}
use Rattle.dns_tcp.specs.Streams.{StreamValue}
use Rattle.dns_tcp.specs.Exchanges.{Carried, WasWritten, DrainFailed, NoRoomToWrite, Exchanged, NoneRevived, Refused, Sent, Parts, Received, most_messages}
use Rattle.dns_tcp.specs.Reads.{sight}
use Rattle.dns_tcp.specs.Steps.{Carries, IsOurs, WritesOut}
use Rattle.dns_tcp.proofs.LiveLemmas.{cancelled_ends, sent_lives}
use Rattle.dns_tcp.proofs.OursLemmas.{sent_ours}

pub ours_at : (old new : List Request) (number id moment : ℕ) → new ≡ old → IsOurs old number id moment
    → IsOurs new number id moment
ours_at old new number id moment e h = rw e h

module _ {L : Type 0} (seen : LinkView L) (old_link mid_link new_link : L) (old mid new : StreamValue)
    (outbound waiting left : List SerialMessageValue) (id : ℕ) (is_shutdown : Bool) where
  -- all was written
  pub carry_on : (reply : Reply) → WritesOut seen old_link mid_link old mid outbound waiting (Ok tt) → left ≡ waiting
      → Received seen (sight seen mid_link) (sight seen new_link) mid new id most_messages is_shutdown reply
      → Carried seen (sight seen old_link) (sight seen new_link) old new outbound left id is_shutdown reply
  carry_on reply w same r = WasWritten (sight seen mid_link) mid w.0 (same ∙ w.1) r

module _ {L : Type 0} (seen : LinkView L) (old_link new_link : L) (old new : StreamValue)
    (outbound left : List SerialMessageValue) (id : ℕ) (is_shutdown : Bool) where
  -- writing failed
  pub carry_failed : (error : NetError) → WritesOut seen old_link new_link old new outbound left (Err error) → is_shutdown ≡ false
      → Carried seen (sight seen old_link) (sight seen new_link) old new outbound left id is_shutdown (Err (error_of error))
  carry_failed error (inl n) sh =
      NoRoomToWrite n.1.moved n.1.lost n.1.parted n.1.done sh (ap (λ (e : NetError). Err (error_of e)) n.0)
  carry_failed error (inr d) sh = DrainFailed d.moved error d.parted d.drained sh refl

module _ {L R : Type 0} (seen : LinkView L) (draw : R → ℕ → R → Type 0) (old new : Parts L R) (request : RequestValue)
    (moment : ℕ) (reply : Reply) where
  -- a request that was sent
  pub exchanged_sent : (number : ℕ) (mid later : CoreValue) (draws : R) → old.core.is_shutdown ≡ false
      → IsSend (λ ids. Drawn draw old.draws ids draws) old.core.settings old.core.state mid.state
      (request_bytes request) moment (Ok number)
      → mid ≡ record old.core { state = mid.state } → new.draws ≡ draws
      → Carries seen old.link new.link old.stream new.stream mid later number reply
      → later.settings ≡ mid.settings → NoneRevived mid.state later.state
      → Plays later.settings later.state new.core.state (Cancel number)
      → new.core ≡ record later { state = new.core.state }
      → Exchanged seen draw old new request moment reply
  exchanged_sent number mid later draws open_ send kept same carried settings lives cancel last =
      let again : IsSend (λ ids. Drawn draw old.draws ids new.draws) old.core.settings old.core.state mid.state
      (request_bytes request) moment
      (Ok number) = rw same send in
      let mid_open : mid.is_shutdown ≡ false = ap (λ (c : CoreValue). c.is_shutdown) kept ∙ open_ in
      let ours = sent_ours (λ ids. Drawn draw old.draws ids new.draws) old.core.settings old.core.state mid.state
      (request_bytes request) moment number again in
      let shut : new.core.is_shutdown ≡ later.is_shutdown = ap (λ (c : CoreValue). c.is_shutdown) last in
      let left : new.core.state.outbound ≡ later.state.outbound = ap (λ (s : State). s.outbound) cancel.moved in
      Sent number mid.state open_ again
      (rw (shut, left) (carried (last_drawn again.drawn) moment mid_open ours))
      (ap (λ (c : CoreValue). c.settings) last ∙ settings ∙ ap (λ (c : CoreValue). c.settings) kept)
      (cancelled_ends later.settings later.state new.core.state number cancel)
      (sent_lives (λ ids. Drawn draw old.draws ids new.draws) old.core.settings later.settings old.core.state mid.state
      later.state new.core.state (request_bytes request) moment number again lives cancel)

  -- one that was refused
  pub exchanged_refused : (error : ErrorValue) (draws : R) → old.core.is_shutdown ≡ false
      → IsSend (λ ids. Drawn draw old.draws ids draws) old.core.settings old.core.state new.core.state
      (request_bytes request) moment (Err error)
      → new.draws ≡ draws → new.link ≡ old.link → new.stream ≡ old.stream
      → new.core ≡ record old.core { state = new.core.state }
      → reply ≡ Err error → Exchanged seen draw old new request moment reply
  exchanged_refused error draws open_ send same l s kept r = Refused error open_ (rw same send) l s kept r

rose : (before now : ℕ) → now ≡ one_more before → Rose before now
rose before now e = omega (arith, e)

-- a fault that is counted has its cause
pub has_cause : (before now : ℕ) (result : Result ResponseValue NetError) → now ≡ faults_after before (reply_of result)
    → HasCause before now result
has_cause before now (Ok response) e = tt
has_cause before now (Err errors.NoMemory) e = inl refl
has_cause before now (Err (errors.Dns (dns.NoRecordsFound missing))) e = inr (inl refl)
has_cause before now (Err _) e = inr (inr (rose before now e))
