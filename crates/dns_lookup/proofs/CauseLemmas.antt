-- Why a lookup gives each answer that has no response, out of how it went.
use Rattle.std.proofs.Common.{ℕ, ◌≡◌, ◌≢◌, ◌∙◌, Bool, true, false, Option, None, Some, Result, Ok, Err, refl, sym, ap, subst, inl, inr}
use Rattle.dns_model.specs.Counts.{Rose}
use Rattle.dns_model.specs.declared.proof.Proof.TheVariants.{Bogus}
use Rattle.dns_model.specs.Records.{Question, MessageValue}
use Rattle.dns_model.specs.SoundAnswers.{ResponseValue}
use Rattle.dns_rules.specs.Outcome.{Outcome, Given, NeedsZone}
use Rattle.dns_rules.specs.Outcome as outcome
use Rattle.dns_handle.specs.Errors as seen
use Rattle.dns_handle.specs.Errors.{Reply, ErrorValue, Dns, Message, ForeignClassRecord, Nsec}
use Rattle.dns_handle.specs.ErrorKinds.{is_no_records_found}
use Rattle.dns_handle.specs.Handles.{reply_to, ReplyIsTold}
use Rattle.dns_handle.specs.Replies.{reply_of}
use Rattle.dns_handle.specs.declared.error.NetError.{NetError}
use Rattle.dns_handle.specs.declared.handle.DnsHandle as handle
use Rattle.dns_validation.specs.Received.{received_message}
use Rattle.dns_flow.specs.Phases.{judged_ask}
use Rattle.dns_validation.specs.Steps.{Findings, answer_by}
use Rattle.dns_lookup.specs.Calls.{Call, IsCaused, first_ask_of_call}
use Rattle.dns_lookup.specs.LookupAnswers.{UnlessNoMemory}
use Rattle.dns_lookup.specs.Causes.{is_upstreams, PassedOn, PassesOnly, PassesOn}
use Rattle.dns_lookup.specs.Answering.{AnswersLookup, Passes, Names, Judges}
use Rattle.dns_lookup.specs.LookupParts.{KnownReplies, IsReplyTo}
use Rattle.dns_lookup.proofs.AlongLemmas.{told_reply}
use Rattle.dns_lookup.proofs.LookupAnswerLemmas.{unless_map, or_memory}

-- ---- what can't be

err_same : (answer : Reply) (a b : ErrorValue) → answer ≡ Err a → answer ≡ Err b → a ≡ b
err_same answer a b x y = cc

err_ok : (answer : Reply) (a : ResponseValue) (e : ErrorValue) → answer ≡ Err e → answer ≡ Ok a → ⊥
err_ok answer a e x y = cc

pub some_same : {X : Type 0} (o : Option X) (a b : X) → o ≡ Some a → o ≡ Some b → a ≡ b
some_same o a b x y = cc

pub none_some : {X : Type 0} (o : Option X) (a : X) → o ≡ None → o ≡ Some a → ⊥
none_some o a x y = cc

pub no_both : (b : Bool) → b ≡ true → b ≡ false → ⊥
no_both b true_is false_is = cc

pub memory_some : (reply : Reply) (m : MessageValue) → received_message reply ≡ Some m → reply ≡ Err seen.NoMemory → ⊥
memory_some reply m is memory = none_some (received_message reply) m (ap received_message memory) is

-- ---- the reply at the start of a call

-- a reply that isn't want of memory is the told one
pub told_to : (tells : KnownReplies) (q : Question) (reply : Reply) → (reply ≡ Err seen.NoMemory → ⊥)
    → ReplyIsTold tells (Some q) reply → IsReplyTo tells q reply
told_to None q reply remembered told = tt
told_to (Some replies) q reply remembered told = sym (told_reply replies q reply remembered told)

-- the error of a reply that is want of memory
pub error_memory : (e : ErrorValue) → e ≢ seen.NoMemory → (let x : Reply = Err e in x) ≡ Err seen.NoMemory → ⊥
error_memory e remembered is = remembered (err_same (Err e) e seen.NoMemory refl is)

-- that there are no records has a message
silent_none : (e : ErrorValue) → received_message (Err e) ≡ None → is_no_records_found e ≡ true → ⊥
silent_none seen.Busy silent none = cc
silent_none (Dns (seen.ResponseCode code)) silent none = cc
silent_none (Dns (seen.NoRecordsFound missing)) silent none = cc
silent_none (Dns (Nsec asked response proof)) silent none = cc
silent_none (Dns seen.DnssecBogus) silent none = cc
silent_none (Message notice) silent none = cc
silent_none (seen.Msg text) silent none = cc
silent_none seen.NoConnections silent none = cc
silent_none (seen.Proto error) silent none = cc
silent_none (seen.Io kind) silent none = cc
silent_none seen.Timeout silent none = cc
silent_none seen.QueryCaseMismatch silent none = cc
silent_none (ForeignClassRecord owner class rtype) silent none = cc
silent_none seen.Truncated silent none = cc
silent_none seen.NoMemory silent none = cc

rose_by : (before after : ℕ) (e : ErrorValue) → received_message (Err e) ≡ None → e ≢ seen.NoMemory
    → IsCaused before after (Err e) → Rose before after
rose_by before after e silent remembered (inl memory) = absurd (remembered memory)
rose_by before after e silent remembered (inr (inl none)) = absurd (silent_none e silent none)
rose_by before after e silent remembered (inr (inr rose)) = rose

pub passed_on : {H : Type 0} (meanings : handle.Ghosts H) (call : Call H) (e : ErrorValue)
    → first_ask_of_call meanings call call.old (judged_ask call.query) call.new (Err e)
    → received_message (Err e) ≡ None → e ≢ seen.NoMemory → PassedOn meanings call e
passed_on meanings call e made silent remembered = record {
  made = made;
  silent = silent;
  rose = rose_by (meanings.faults call.old) (meanings.faults call.new) e silent remembered made.cause;
}

-- an error by one that is equal
pub passed_as : {H : Type 0} (meanings : handle.Ghosts H) (call : Call H) (e error : ErrorValue)
    → PassedOn meanings call e
    → (let x : Reply = Err e in x) ≡ Err error → PassedOn meanings call error
passed_as meanings call e error passed is =
    subst (λ x. PassedOn meanings call x) (err_same (Err e) e error refl is) passed

-- ---- an error of the upstream

not_by : (now : ℕ) (q : Question) (found : Findings) (o : Outcome) (error : ErrorValue)
    → answer_by now q found o ≡ Err error
    → is_upstreams error ≡ true → ⊥
not_by now q found NeedsZone error is up =
    no_both (is_upstreams error) up (ap is_upstreams (err_same (Err error) error (Dns (Nsec q _ Bogus)) refl (sym is)))
not_by now q found (Given d) error is up = cc
not_by now q found (outcome.Denied p) error is up =
    no_both (is_upstreams error) up (ap is_upstreams (err_same (Err error) error (Dns (Nsec q _ p)) refl (sym is)))

passed_only : {H : Type 0} (meanings : handle.Ghosts H) (call : Call H) {answer : Reply}
    → AnswersLookup meanings call answer → PassesOnly meanings call answer
passed_only meanings call (Passes e made silent remembered) =
    λ error up is. passed_as meanings call e error (passed_on meanings call e made silent remembered) is
passed_only meanings call (Names reply answer from r made received foreign is) = λ error up passed.
    absurd (no_both (is_upstreams error) up
    (ap is_upstreams (err_same answer error (ForeignClassRecord r.owner r.class r.rtype) passed is)))
passed_only meanings call (Judges answer found f is) = λ error up passed.
    absurd (not_by call.now call.query found found.outcome error (sym is ∙ passed) up)

pub lookup_passed : {H : Type 0} (meanings : handle.Ghosts H) (call : Call H) (result : Result ResponseValue NetError)
    → UnlessNoMemory result (AnswersLookup meanings call (reply_of result)) → PassesOnly meanings call (reply_of result)
lookup_passed meanings call result lookup =
    elim (or_memory result (AnswersLookup meanings call (reply_of result)) lookup) [
      | inl memory ↦ λ error up is. absurd
          (no_both (is_upstreams error) up (ap is_upstreams (err_same (reply_of result) error seen.NoMemory is memory)))
      | inr l ↦ passed_only meanings call l
    ]

passes_error : (tells : KnownReplies) (q : Question) (e : ErrorValue) → IsReplyTo tells q (Err e)
    → PassesOn tells q (Err e)
passes_error None q e told = tt
passes_error (Some replies) q e told = λ none. sym told

passes_received : (tells : KnownReplies) (q : Question) (reply answer : Reply) (m : MessageValue)
    → IsReplyTo tells q reply → received_message reply ≡ Some m
    → PassesOn tells q answer
passes_received None q reply answer m told is = tt
passes_received (Some replies) q reply answer m told is =
    λ none. absurd (none_some (received_message (reply_to replies.list q)) m none (ap received_message told ∙ is))

passes_on : {H : Type 0} (meanings : handle.Ghosts H) (call : Call H) {answer : Reply}
    → AnswersLookup meanings call answer
    → PassesOn (meanings.told call.old) call.query answer
passes_on meanings call (Passes e made silent remembered) =
    passes_error (meanings.told call.old) call.query e
    (told_to (meanings.told call.old) call.query (Err e) (error_memory e remembered) made.told)
passes_on meanings call (Names reply answer from r made received foreign is) =
    passes_received (meanings.told call.old) call.query reply answer from
    (told_to (meanings.told call.old) call.query reply (memory_some reply from received) made.told) received
passes_on meanings call (Judges answer found f is) =
    passes_received (meanings.told call.old) call.query f.reply answer f.from
    (told_to (meanings.told call.old) call.query f.reply (memory_some f.reply f.from f.received) f.made.told) f.received

pub lookup_passes : {H : Type 0} (meanings : handle.Ghosts H) (call : Call H) (result : Result ResponseValue NetError)
    → UnlessNoMemory result (AnswersLookup meanings call (reply_of result))
    → UnlessNoMemory result (PassesOn (meanings.told call.old) call.query (reply_of result))
lookup_passes meanings call result lookup = unless_map result (λ l. passes_on meanings call l) lookup
