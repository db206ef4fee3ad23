-- Calls that are over: what was met, and what an answer has of its request.
use Rattle.std.proofs.Common.{◌≡◌, ℕ, true, List, [], Option, None, Result, Ok, Err, IfOk, refl, sym, ap, ◌∙◌, subst, inl, inr, arith}
use Rattle.dns_model.specs.Counts.{Rose, one_more}
use Rattle.dns_model.specs.SoundAnswers.{ResponseValue}
use Rattle.dns_handle.specs.Causes.{HasCause, faults_after}
use Rattle.dns_handle.specs.Errors.{Reply}
use Rattle.dns_handle.specs.declared.error.DnsError.TheVariants as dns
use Rattle.dns_handle.specs.declared.error.NetError.TheVariants as errors
use Rattle.dns_handle.specs.Replies.{error_of, reply_of}
use Rattle.dns_handle.specs.declared.error.NetError.{NetError}
use Rattle.dns_link.specs.Counts.{CountsValue, no_counts}
use Rattle.dns_link.specs.Moved.{DatagramValue}
use Rattle.dns_udp.specs.Questions.{asks_alike}
use Rattle.dns_udp.specs.Met.{DialerView, HasMet}
use Rattle.dns_udp.specs.Conversations.{Ends, IsConversation}
use Rattle.dns_udp.specs.Encodings.{IsEncoded}
use Rattle.dns_udp.specs.OpenSockets.{Holds}
use Rattle.dns_udp.specs.Requests.{AskedValue}
use Rattle.dns_udp.specs.Waiting.{IsStopped}
use Rattle.dns_udp.proofs.HoldLemmas.{holds_end, holds_none}
use Rattle.dns_udp.proofs.JudgeLemmas.{answer_has, asks_restored}

module _ {R : Type 0} (draw : R → ℕ → R → Type 0) (asked : AskedValue) where
  -- nothing was done
  pub no_talk : (now : DialerView) (from : R) (reply : Reply) → Ends asked [] no_counts reply
      → IsConversation draw asked now now from from reply
  no_talk now from reply ends = record {
    came = [];
    met = no_counts;
    ports = [];
    has_met = holds_end {G = ℕ} (λ _. no_counts) (λ _. None) now now [] no_counts
        (holds_none (λ _. no_counts) (λ _. None) now);
    room = refl;
    drawn = refl;
    ends = ends;
  }

  refused_ends : (error : NetError) → IsEncoded asked.request.message (Err error)
      → Ends asked [] no_counts (Err (error_of error))
  refused_ends error (inl none) = rw none tt
  refused_ends error (inr long) = rw long.1 long.0

  -- the request couldn't be encoded
  pub refused_talk : (now : DialerView) (from : R) (error : NetError) → IsEncoded asked.request.message (Err error)
      → IsConversation draw asked now now from from (Err (error_of error))
  refused_talk now from error h = no_talk now from (Err (error_of error)) (refused_ends error h)

  ends_id : (came : List DatagramValue) (met : CountsValue) (result : Result ResponseValue NetError)
      → Ends asked came met (reply_of result)
      → IfOk result (λ r. r.message.id ≡ asked.request.message.id)
  ends_id came met (Ok response) (message, one, same) =
      let d = one.one.datagram in
      let has = answer_has asked.request.message asked.server asked.request.options.case_randomization d.1 d.0
      message one.one.judged in
      ap (λ (r : ResponseValue). r.message.id) same ∙ has.id
  ends_id came met (Err error) ends = tt

  ends_questions : (came : List DatagramValue) (met : CountsValue) (result : Result ResponseValue NetError)
      → Ends asked came met (reply_of result)
      → IfOk result (λ r. asks_alike asked.request.message.queries r.message.queries ≡ true)
  ends_questions came met (Ok response) (message, one, same) =
      let d = one.one.datagram in
      let has = answer_has asked.request.message asked.server asked.request.options.case_randomization d.1 d.0
      message one.one.judged in
      subst (λ (r : ResponseValue). asks_alike asked.request.message.queries r.message.queries ≡ true) (sym same)
      (asks_restored asked.request.options.case_randomization asked.request.original asked.request.message.queries
      message.queries has.questions)
  ends_questions came met (Err error) ends = tt

  pub talk_id : (before now : DialerView) (from to : R) (result : Result ResponseValue NetError)
      → IsConversation draw asked before now from to (reply_of result)
      → IfOk result (λ r. r.message.id ≡ asked.request.message.id)
  talk_id before now from to result h = ends_id h.came h.met result h.ends

  pub talk_questions : (before now : DialerView) (from to : R) (result : Result ResponseValue NetError)
      → IsConversation draw asked before now from to (reply_of result)
      → IfOk result (λ r. asks_alike asked.request.message.queries r.message.queries ≡ true)
  talk_questions before now from to result h = ends_questions h.came h.met result h.ends

module _ {G R : Type 0} (draw : R → ℕ → R → Type 0) (asked : AskedValue) (counts : G → CountsValue)
    (given : G → Option (List DatagramValue)) where
  -- the sockets were given back
  pub talk_over : (before mid now : DialerView) (from to : R) (sockets : List G) (reply : Reply)
      → IsStopped counts given draw asked before mid from to sockets reply
      → ((came : List DatagramValue)
      (met : CountsValue) → Holds counts given before mid sockets came met → HasMet before now came met)
      → IsConversation draw asked before now from to reply
  talk_over before mid now from to sockets reply h back = record {
    came = h.came;
    met = h.met;
    ports = h.ports.ports;
    has_met = back h.came h.met h.holds;
    room = h.room;
    drawn = h.ports.drawn;
    ends = h.ends;
  }

-- what is said of a response is said of the reply
pub ok_reply : (P : ResponseValue → Type 0) (result : Result ResponseValue NetError) → IfOk result P
    → IfOk (reply_of result) P
ok_reply P (Ok response) h = h
ok_reply P (Err error) h = tt

rose : (before now : ℕ) → now ≡ one_more before → Rose before now
rose before now e = omega (arith, e)

-- a fault that is counted has its cause
pub counted_cause : (before now : ℕ) (result : Result ResponseValue NetError)
    → now ≡ faults_after before (reply_of result) → HasCause before now result
counted_cause before now (Ok response) e = tt
counted_cause before now (Err errors.NoMemory) e = inl refl
counted_cause before now (Err (errors.Dns (dns.NoRecordsFound missing))) e = inr (inl refl)
counted_cause before now (Err _) e = inr (inr (rose before now e))
