-- What a lookup's answer is, out of why it was given: its soundness, its trail and its marks.
use Rattle.std.proofs.Common.{ℕ, ◌≡◌, ◌∙◌, ◌⊎◌, Option, None, Some, Result, Ok, Err, refl, sym, ap, subst, inl, inr}
use Rattle.dns_model.specs.declared.proof.Proof.{Proof}
use Rattle.dns_model.specs.declared.proof.Proof.TheVariants.{Bogus}
use Rattle.dns_model.specs.declared.denial.Denial.{Denial}
use Rattle.dns_model.specs.declared.denial.Denial.TheVariants as denial
use Rattle.dns_model.specs.Records.{Question, MessageValue}
use Rattle.dns_model.specs.SoundAnswers.{told_by, ResponseValue}
use Rattle.dns_model.specs.Trails.{EndingValue, Answered, Denied}
use Rattle.dns_rules.specs.ChainedSets.{bare, finished}
use Rattle.dns_rules.specs.Derivation.{ending_by}
use Rattle.dns_rules.specs.Outcome.{Outcome, Given, NeedsZone}
use Rattle.dns_rules.specs.Outcome as outcome
use Rattle.dns_handle.specs.Errors as seen
use Rattle.dns_handle.specs.Errors.{Reply, ErrorValue, Busy, Dns, Message, Msg, NoConnections, Proto, Io, Timeout, QueryCaseMismatch, ForeignClassRecord, Truncated, ResponseCode, NoRecordsFound, Nsec, DnssecBogus}
use Rattle.dns_handle.specs.Replies.{reply_of, error_of}
use Rattle.dns_handle.specs.declared.error.NetError.{NetError}
use Rattle.dns_handle.specs.declared.handle.DnsHandle as handle
use Rattle.dns_validation.specs.Received.{received_message, no_records_message}
use Rattle.dns_validation.specs.Steps.{Findings, trail_of, answer_by}
use Rattle.dns_lookup.specs.Calls.{Call, terms_of_call}
use Rattle.dns_lookup.specs.LookupAnswers.{UnlessNoMemory, OfAnswer, IsSoundAnswer, IsTrail, HasMarksOfTrail, DeniesQuery}
use Rattle.dns_lookup.specs.Answering.{Found, AnswersLookup, Passes, Names, Judges}
use Rattle.dns_validation.specs.Comes.{top_context}
use Rattle.dns_lookup.proofs.ConclusionLemmas.{never_searched}
use Rattle.dns_lookup.proofs.TopLemmas.{found_trail, found_marks, found_sound}

-- ---- results and replies

-- a fact that follows from another, unless memory ran out
pub unless_map : {X A B : Type 0} (result : Result X NetError) → (A → B) → UnlessNoMemory result A
    → UnlessNoMemory result B
unless_map (Ok x) f a = f a
unless_map (Err e) f (inl memory) = inl memory
unless_map (Err e) f (inr a) = inr (f a)

-- the reply of a result is want of memory, or a fact holds
pub or_memory : (result : Result ResponseValue NetError) (Fact : Type 0) → UnlessNoMemory result Fact
    → (reply_of result ≡ Err seen.NoMemory) ⊎ Fact
or_memory (Ok a) Fact fact = inr fact
or_memory (Err e) Fact (inl memory) = inl (ap (λ x. Err (error_of x)) memory)
or_memory (Err e) Fact (inr fact) = inr fact

silent_message : (m : MessageValue) → (let o : Option MessageValue = Some m in o) ≡ None → ⊥
silent_message m h = cc

-- ---- each answer

-- a fact of the answer that was found, with the ending by its outcome
pub record OfFound {H : Type 0} (meanings : handle.Ghosts H) (call : Call H)
    (Fact : ResponseValue → EndingValue → Type 0) : Type 0 where
  pub each : (found : Findings) (d : Denial) (ending : EndingValue) → Found meanings call found
      → ending ≡ ending_by found.outcome
      → Fact (finished call.now found.sets found.message d (trail_of call.query found ending)) ending

-- an error without a message has no answer inside
pub silent_error : (Fact : ResponseValue → EndingValue → Type 0) (e : ErrorValue) → received_message (Err e) ≡ None
    → OfAnswer (Err e) Fact
silent_error Fact Busy silent = tt
silent_error Fact (Dns (ResponseCode code)) silent = tt
silent_error Fact (Dns (NoRecordsFound missing)) silent = absurd (silent_message (no_records_message missing) silent)
silent_error Fact (Dns (Nsec asked response proof)) silent = absurd (silent_message response.message silent)
silent_error Fact (Dns DnssecBogus) silent = tt
silent_error Fact (Message notice) silent = tt
silent_error Fact (Msg text) silent = tt
silent_error Fact NoConnections silent = tt
silent_error Fact (Proto error) silent = tt
silent_error Fact (Io kind) silent = tt
silent_error Fact Timeout silent = tt
silent_error Fact QueryCaseMismatch silent = tt
silent_error Fact (ForeignClassRecord owner class rtype) silent = tt
silent_error Fact Truncated silent = tt
silent_error Fact seen.NoMemory silent = tt

by_outcome : {H : Type 0} (meanings : handle.Ghosts H) (call : Call H) (Fact : ResponseValue → EndingValue → Type 0)
    (found : Findings)
    → OfFound meanings call Fact → Found meanings call found → (o : Outcome) → found.outcome ≡ o
    → OfAnswer (answer_by call.now call.query found o) Fact
by_outcome meanings call Fact found all f (Given d) is = all.each found d (Answered d) f (sym (ap ending_by is))
by_outcome meanings call Fact found all f NeedsZone is =
    absurd (never_searched (top_context (terms_of_call call) f.cached found.steps) (told_by found.message)
    (bare found.sets) found.outcome found.excuse f.concluded is)
by_outcome meanings call Fact found all f (outcome.Denied p) is =
    all.each found denial.None (Denied p) f (sym (ap ending_by is))

of_lookup : {H : Type 0} (meanings : handle.Ghosts H) (call : Call H)
    (Fact : ResponseValue → EndingValue → Type 0) {answer : Reply}
    → OfFound meanings call Fact → AnswersLookup meanings call answer → OfAnswer answer Fact
of_lookup meanings call Fact all (Passes e made silent remembered) = silent_error Fact e silent
of_lookup meanings call Fact all (Names reply answer from r made received foreign is) =
    subst (λ x. OfAnswer x Fact) (sym is) tt
of_lookup meanings call Fact all (Judges answer found f is) =
    subst (λ x. OfAnswer x Fact) (sym is)
    (by_outcome meanings call Fact found all f found.outcome refl)

-- a fact of what was found is one of a lookup's answer
pub of_result : {H : Type 0} (meanings : handle.Ghosts H) (call : Call H) (Fact : ResponseValue → EndingValue → Type 0)
    (result : Result ResponseValue NetError)
    → OfFound meanings call Fact → UnlessNoMemory result (AnswersLookup meanings call (reply_of result))
    → OfAnswer (reply_of result) Fact
of_result meanings call Fact result all lookup =
    elim (or_memory result (AnswersLookup meanings call (reply_of result)) lookup) [
      | inl memory ↦ subst (λ x. OfAnswer x Fact) (sym memory) tt
      | inr l ↦ of_lookup meanings call Fact all l
    ]

-- ---- the clauses of a lookup

pub lookup_sound : {H : Type 0} (meanings : handle.Ghosts H) (call : Call H) (result : Result ResponseValue NetError)
    → UnlessNoMemory result (AnswersLookup meanings call (reply_of result))
    → OfAnswer (reply_of result) (λ a ending. IsSoundAnswer meanings call a)
lookup_sound meanings call result lookup =
    of_result meanings call (λ a ending. IsSoundAnswer meanings call a) result
    (record { each = λ found d ending f ends. found_sound meanings call found d ending f }) lookup

pub lookup_trail : {H : Type 0} (meanings : handle.Ghosts H) (call : Call H) (result : Result ResponseValue NetError)
    → UnlessNoMemory result (AnswersLookup meanings call (reply_of result))
    → OfAnswer (reply_of result) (λ a ending. IsTrail meanings call a.trail ending)
lookup_trail meanings call result lookup =
    of_result meanings call (λ a ending. IsTrail meanings call a.trail ending) result
    (record { each = λ found d ending f ends. (found_trail meanings call found ending f ends).is }) lookup

pub lookup_marks : {H : Type 0} (meanings : handle.Ghosts H) (call : Call H) (result : Result ResponseValue NetError)
    → UnlessNoMemory result (AnswersLookup meanings call (reply_of result))
    → OfAnswer (reply_of result) (λ a ending. HasMarksOfTrail call.now a)
lookup_marks meanings call result lookup =
    of_result meanings call (λ a ending. HasMarksOfTrail call.now a) result
    (record { each = λ found d ending f ends. found_marks meanings call found d ending f }) lookup

-- ---- a denial

denied_by : (now : ℕ) (q : Question) (found : Findings) (o : Outcome) (asked : Question) (response : ResponseValue)
    (proof : Proof)
    → answer_by now q found o ≡ Err (Dns (Nsec asked response proof)) → (asked ≡ q) × (response.denial ≡ denial.None)
denied_by now q found (Given d) asked response proof is = cc
denied_by now q found NeedsZone asked response proof is =
    let same : finished now found.sets found.message denial.None (trail_of q found (Denied Bogus)) ≡ response = cc in
    (cc, sym (ap (λ a. a.denial) same))
denied_by now q found (outcome.Denied p) asked response proof is =
    let same : finished now found.sets found.message denial.None (trail_of q found (Denied p)) ≡ response = cc in
    (cc, sym (ap (λ a. a.denial) same))

passed_denial : (e : ErrorValue) (asked : Question) (response : ResponseValue) (proof : Proof)
    → received_message (Err e) ≡ None
    → (let x : Reply = Err e in x) ≡ Err (Dns (Nsec asked response proof)) → ⊥
passed_denial e asked response proof silent is = silent_message response.message (sym (ap received_message is) ∙ silent)

denied_lookup : {H : Type 0} (meanings : handle.Ghosts H) (call : Call H) {answer : Reply}
    → AnswersLookup meanings call answer → DeniesQuery call.query answer
denied_lookup meanings call (Passes e made silent remembered) =
    λ asked response proof is. absurd (passed_denial e asked response proof silent is)
denied_lookup meanings call (Names reply answer from r made received foreign is) = λ asked response proof denied. cc
denied_lookup meanings call (Judges answer found f is) = λ asked response proof denied.
    denied_by call.now call.query found found.outcome asked response proof (sym is ∙ denied)

pub lookup_denied : {H : Type 0} (meanings : handle.Ghosts H) (call : Call H) (result : Result ResponseValue NetError)
    → UnlessNoMemory result (AnswersLookup meanings call (reply_of result)) → DeniesQuery call.query (reply_of result)
lookup_denied meanings call result lookup =
    elim (or_memory result (AnswersLookup meanings call (reply_of result)) lookup) [
      | inl memory ↦ λ asked response proof is. cc
      | inr l ↦ denied_lookup meanings call l
    ]
