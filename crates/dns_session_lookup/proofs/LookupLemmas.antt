-- What a lookup of a session's query answers: out of the clauses of a lookup.
use Rattle.std.proofs.Common.{ℕ, ◌≡◌, ◌≢◌, ◌⊎◌, ◌∙◌, List, map, Option, None, Some, IfSome, IfOk, Result, Ok, Err, refl, sym, ap, subst, inl, inr, []}
use Rattle.dns_model.specs.Keys.{anchored}
use Rattle.dns_model.specs.Records.{Question}
use Rattle.dns_model.specs.SoundAnswers.{told_by, Sound, ResponseValue}
use Rattle.dns_model.specs.Chains.{judge}
use Rattle.dns_model.specs.Trails.{AskedValue, EndingValue, Answered, Denied}
use Rattle.dns_rules.specs.Asking.{Limits}
use Rattle.dns_rules.specs.Derivation.{derivation, in_send_order}
use Rattle.dns_rules.specs.Outcome.{foreign_record}
use Rattle.dns_laws.specs.Ground.{HasGrounds}
use Rattle.dns_handle.specs.Errors as seen
use Rattle.dns_handle.specs.Errors.{Reply, ErrorValue, DnsErrorValue, Busy, Dns, Message, Msg, NoConnections, Proto, Io, Timeout, QueryCaseMismatch, ForeignClassRecord, Truncated, ResponseCode, NoRecordsFound, Nsec, DnssecBogus}
use Rattle.dns_handle.specs.Handles.{Replies, reply_to, ReplyIsTold}
use Rattle.dns_handle.specs.Replies.{reply_of}
use Rattle.dns_handle.specs.Requests.{plain_options}
use Rattle.dns_handle.specs.declared.error.NetError.{NetError}
use Rattle.dns_handle.specs.declared.handle.DnsHandle as handle
use Rattle.dns_validation.specs.Received.{received_message, received}
use Rattle.dns_handle.specs.declared.request.DnsRequestOptions.{DnsRequestOptions}
use Rattle.dns_evidence.specs.declared.limits.IterationLimits.{IterationLimits}
use Rattle.dns_evidence.specs.declared.verifier.Verifier as verifier
use Rattle.dns_cache.specs.CacheLists.{CountedList}
use Rattle.dns_cache.specs.declared.validation_cache.ValidationCache as cache
use Rattle.dns_recorded.specs.Recording.{RecordedValue, replies_of}
use Rattle.dns_lookup.specs.declared.handle.DnssecDnsHandle.{DnssecDnsHandle}
use Rattle.dns_lookup.specs.Calls.{Call, inner_of, anchors_of, verifier_of, iterations_of, cache_of, limits_of_call, call_of}
use Rattle.dns_lookup.specs.Limiting.{default_iterations, default_entries, IsFresh}
use Rattle.dns_lookup.proofs.FrontLemmas.{fresh_serves, fresh_none}
use Rattle.dns_lookup.specs.Sends.{IsFromReplies}
use Rattle.dns_lookup.specs.Causes.{PassedOn, PassesOn, NamesForeign, ForeignNamed, HasItsCause, AnswersTold}
use Rattle.dns_lookup.specs.LookupAnswers.{UnlessNoMemory, OfAnswer, IsSoundAnswer, IsTrail, HasMarksOfTrail, IsExplained, ShowsItsDenial, DeniesQuery}
use Rattle.dns_session.specs.SessionValue.{SessionValue}
use Rattle.dns_session_lookup.specs.Replies.{recorded, session_told}
use Rattle.dns_session_lookup.specs.Soundness.{session_judge, IsSound}
use Rattle.dns_session_lookup.specs.Verifying.{session_answers}
use Rattle.dns_session_lookup.specs.declared.verification.Verification.{Verification}
use Rattle.dns_session_lookup.specs.Answering.{recorded_by, session_replies, session_depth, session_limits, IsSessionTrail, IsSessionAnswer}
use Rattle.dns_session_lookup.specs.Causes.{HasNoMessage, FaultCause, NoMessage, OtherClass, NotDenied, AnswersSession}
use Rattle.dns_session_lookup.proofs.JudgeLemmas.{judge_plain}
use Rattle.dns_session_lookup.proofs.ReplyLemmas.{err_same, session_replied}

-- how far asks of this depth go that count so many iterations
abbrev limits_by : ℕ → IterationLimits → Limits
limits_by depth iterations = record { depth = depth; soft = iterations.soft; hard = iterations.hard }

-- the lookup that a session asks for
pub record IsSessionCall {H : Type 0} (how : Verification) (meanings : handle.Ghosts H) (s : SessionValue) (call : Call H) : Type 0 where
  pub judge : call.judge ≡ session_judge how s
  pub query : call.query ≡ s.query
  pub limits : limits_of_call call ≡ session_limits s
  pub moment : call.now ≡ s.moment
  pub told : meanings.told call.old ≡ Some (session_replies s)
  pub fresh : IsFresh call.cache

-- ---- its trail, its soundness

pub session_trail : {H : Type 0} (how : Verification) (meanings : handle.Ghosts H) (s : SessionValue) (call : Call H)
    (trail : List AskedValue) (ending : EndingValue)
    → IsSessionCall how meanings s call → IsTrail meanings call trail ending → IsSessionTrail how s trail ending
session_trail how meanings s call trail ending c is = record {
  derived =
      ap (λ j. derivation j (session_limits s) [] trail) (sym c.judge)
      ∙ ap (λ limits. derivation call.judge limits [] trail) (sym c.limits)
      ∙ ap (λ cached. derivation call.judge (limits_of_call call) cached trail)
      (sym (fresh_serves call.cache.before call.now is.cached c.fresh is.kept))
      ∙ is.derived;
  top = is.top;
  last = is.last;
  query = is.query ∙ c.query;
  ends = is.ends;
  from = subst (λ told. IfSome told (λ replies. IsFromReplies replies (in_send_order trail))) c.told is.from;
}

-- a fact of what the upstream tells and of the query is one of the session's
at_session : {H : Type 0} (how : Verification) (meanings : handle.Ghosts H) (s : SessionValue) (call : Call H)
    (Fact : Option Replies → Question → Type 0)
    → IsSessionCall how meanings s call → Fact (meanings.told call.old) call.query → Fact (Some (session_replies s)) s.query
at_session how meanings s call Fact c fact =
    subst (λ told. Fact told s.query) c.told (subst (λ q. Fact (meanings.told call.old) q) c.query fact)

-- what was heard was told
told_heard : {X : Type 0} (f : Reply → Option X) (told : List (Question × Reply)) (q : Question) (reply answer : Reply)
    (x : X)
    → (reply ≡ Err seen.NoMemory) ⊎ (reply ≡ reply_to told q) → reply_to told q ≡ answer → f (Err seen.NoMemory) ≡ None
    → f reply ≡ Some x
    → f answer ≡ Some x
told_heard f told q reply answer x is told_is silent heard = elim is [
  | inl none ↦ absurd (none_heard (sym silent ∙ sym (ap f none) ∙ heard))
  | inr same ↦ sym (ap f (same ∙ told_is)) ∙ heard
]
  where
    none_heard : None ≡ Some x → ⊥
    none_heard h = cc

session_sound : {H : Type 0} (how : Verification) (meanings : handle.Ghosts H) (s : SessionValue) (call : Call H) (a : ResponseValue)
    → IsSessionCall how meanings s call → IsSoundAnswer meanings call a → IsSound how s a
session_sound how meanings s call a c is =
    let told = at_session how meanings s call (λ told q. ReplyIsTold told (Some q) is.reply) c is.made.told in
    record {
      message = is.message;
      told =
          told_heard received_message (map recorded s.replies) s.query is.reply (session_told s) is.message told
          (session_replied s) refl is.received;
      sound =
          subst (λ j. Sound j s.moment (told_by is.message) a) c.judge
          (subst (λ now. Sound call.judge now (told_by is.message) a) c.moment is.sound);
    }

-- ---- the answer

-- what is said of the answer of a call
pub record SaysOf {H : Type 0} (meanings : handle.Ghosts H) (call : Call H) (answer : Reply) : Type 0 where
  pub sound : OfAnswer answer (λ a ending. IsSoundAnswer meanings call a)
  pub trail : OfAnswer answer (λ a ending. IsTrail meanings call a.trail ending)
  pub explained : OfAnswer answer (λ a ending. IsExplained call.judge.answers call.cache.before call.now a)
  pub denies : IfOk answer (λ a. ShowsItsDenial call.now call.query a)
  pub denied : DeniesQuery call.query answer
  pub caused : HasItsCause meanings call answer

-- a response of the call is one of the session
session_response : {H : Type 0} (how : Verification) (meanings : handle.Ghosts H) (s : SessionValue) (call : Call H) (a : ResponseValue)
    (ending : EndingValue)
    → IsSessionCall how meanings s call → IsSoundAnswer meanings call a → IsTrail meanings call a.trail ending
    → IsExplained call.judge.answers call.cache.before call.now a → IsSessionAnswer how s a ending
session_response how meanings s call a ending c sound trail explained = record {
  sound = session_sound how meanings s call a c sound;
  trail = session_trail how meanings s call a.trail ending c trail;
  marks = subst (λ now. HasMarksOfTrail now a) c.moment explained.marks;
  grounds =
      subst (λ j. HasGrounds j.answers a.trail) c.judge
      (explained.grounds (fresh_none call.cache.before call.now c.fresh));
  denials = explained.denials;
}

session_answered : {H : Type 0} (how : Verification) (meanings : handle.Ghosts H) (s : SessionValue) (call : Call H) (answer : Reply)
    → IsSessionCall how meanings s call → SaysOf meanings call answer → OfAnswer answer (IsSessionAnswer how s)
session_answered how meanings s call (Ok a) c says =
    session_response how meanings s call a (Answered a.denial) c says.sound says.trail says.explained
session_answered how meanings s call (Err Busy) c says = tt
session_answered how meanings s call (Err (Dns (ResponseCode code))) c says = tt
session_answered how meanings s call (Err (Dns (NoRecordsFound missing))) c says = tt
session_answered how meanings s call (Err (Dns (Nsec asked response proof))) c says =
    session_response how meanings s call response (Denied proof) c says.sound says.trail says.explained
session_answered how meanings s call (Err (Dns DnssecBogus)) c says = tt
session_answered how meanings s call (Err (Message notice)) c says = tt
session_answered how meanings s call (Err (Msg text)) c says = tt
session_answered how meanings s call (Err NoConnections) c says = tt
session_answered how meanings s call (Err (Proto error)) c says = tt
session_answered how meanings s call (Err (Io kind)) c says = tt
session_answered how meanings s call (Err Timeout) c says = tt
session_answered how meanings s call (Err QueryCaseMismatch) c says = tt
session_answered how meanings s call (Err (ForeignClassRecord owner class rtype)) c says = tt
session_answered how meanings s call (Err Truncated) c says = tt
session_answered how meanings s call (Err seen.NoMemory) c says = tt

-- an Ok answer shows what it denies
session_denies : {H : Type 0} (how : Verification) (meanings : handle.Ghosts H) (s : SessionValue) (call : Call H) (answer : Reply)
    → IsSessionCall how meanings s call → SaysOf meanings call answer → IfOk answer (λ a. ShowsItsDenial s.moment s.query a)
session_denies how meanings s call answer c says =
    subst (λ now. IfOk answer (λ a. ShowsItsDenial now s.query a)) c.moment
    (subst (λ q. IfOk answer (λ a. ShowsItsDenial call.now q a)) c.query says.denies)

-- ---- the cause of an error

passed_cause : {H : Type 0} (how : Verification) (meanings : handle.Ghosts H) (s : SessionValue) (call : Call H) (e : ErrorValue)
    → IsSessionCall how meanings s call → e ≢ seen.NoMemory → PassedOn meanings call e → FaultCause how s e
passed_cause how meanings s call e c own p =
    elim (at_session how meanings s call (λ told q. ReplyIsTold told (Some q) (Err e)) c p.made.told) [
      | inl memory ↦ absurd (own (err_same (Err e) e seen.NoMemory refl memory))
      | inr told ↦ NoMessage (no_message (sym (session_replied s) ∙ sym told))
    ]
  where
    no_message : session_told s ≡ Err e → HasNoMessage s e
    no_message told = record { told = told; silent = ap received_message told ∙ p.silent }

foreign_cause : {H : Type 0} (how : Verification) (meanings : handle.Ghosts H) (s : SessionValue) (call : Call H) (e : ErrorValue)
    → IsSessionCall how meanings s call → NamesForeign meanings call e → FaultCause how s e
foreign_cause how meanings s call e c names =
    let told = at_session how meanings s call (λ told q. ReplyIsTold told (Some q) names.reply) c names.made.told in
    OtherClass (record {
      records = names.records;
      first = names.first;
      told =
          told_heard received (map recorded s.replies) s.query names.reply (session_told s) names.records told
          (session_replied s) refl names.received;
      found = ap (λ q. foreign_record q names.records) (sym c.query) ∙ names.found;
      named = names.named;
    })

dns_cause : {H : Type 0} (how : Verification) (meanings : handle.Ghosts H) (s : SessionValue) (call : Call H) (e : DnsErrorValue)
    → IsSessionCall how meanings s call → SaysOf meanings call (Err (Dns e)) → Dns e ≢ seen.NoMemory → FaultCause how s (Dns e)
dns_cause how meanings s call (ResponseCode code) c says own =
    passed_cause how meanings s call _ c own (says.caused.passed _ refl refl)
dns_cause how meanings s call (NoRecordsFound missing) c says own =
    passed_cause how meanings s call _ c own (says.caused.passed _ refl refl)
dns_cause how meanings s call (Nsec asked response proof) c says own =
    NotDenied response proof (session_answered how meanings s call (Err (Dns (Nsec asked response proof))) c says)
    (ap (λ q. Dns (Nsec q response proof)) ((says.denied asked response proof refl).0 ∙ c.query))
dns_cause how meanings s call DnssecBogus c says own = passed_cause how meanings s call _ c own (says.caused.passed _ refl refl)

error_cause : {H : Type 0} (how : Verification) (meanings : handle.Ghosts H) (s : SessionValue) (call : Call H) (e : ErrorValue)
    → IsSessionCall how meanings s call → SaysOf meanings call (Err e)
    → e ≢ seen.NoMemory → FaultCause how s e
error_cause how meanings s call Busy c says own =
    passed_cause how meanings s call _ c own (says.caused.passed _ refl refl)
error_cause how meanings s call (Dns error) c says own = dns_cause how meanings s call error c says own
error_cause how meanings s call (Message notice) c says own =
    passed_cause how meanings s call _ c own (says.caused.passed _ refl refl)
error_cause how meanings s call (Msg text) c says own =
    passed_cause how meanings s call _ c own (says.caused.passed _ refl refl)
error_cause how meanings s call NoConnections c says own =
    passed_cause how meanings s call _ c own (says.caused.passed _ refl refl)
error_cause how meanings s call (Proto error) c says own =
    passed_cause how meanings s call _ c own (says.caused.passed _ refl refl)
error_cause how meanings s call (Io kind) c says own =
    passed_cause how meanings s call _ c own (says.caused.passed _ refl refl)
error_cause how meanings s call Timeout c says own =
    passed_cause how meanings s call _ c own (says.caused.passed _ refl refl)
error_cause how meanings s call QueryCaseMismatch c says own =
    passed_cause how meanings s call _ c own (says.caused.passed _ refl refl)
error_cause how meanings s call (ForeignClassRecord owner class rtype) c says own =
    elim (says.caused.foreign owner class rtype refl) [
      | inl p ↦ passed_cause how meanings s call _ c own p
      | inr names ↦ foreign_cause how meanings s call _ c names
    ]
error_cause how meanings s call Truncated c says own =
    passed_cause how meanings s call _ c own (says.caused.passed _ refl refl)
error_cause how meanings s call seen.NoMemory c says own = absurd (own refl)

session_caused : {H : Type 0} (how : Verification) (meanings : handle.Ghosts H) (s : SessionValue) (call : Call H) (answer : Reply)
    → IsSessionCall how meanings s call → SaysOf meanings call answer → (e : ErrorValue) → answer ≡ Err e
    → e ≢ seen.NoMemory
    → FaultCause how s e
session_caused how meanings s call answer c says e is own =
    error_cause how meanings s call e c (subst (λ x. SaysOf meanings call x) is says) own

-- ---- the whole

-- a fact of an Ok result is one of its reply
pub reply_ok : (result : Result ResponseValue NetError) (Fact : ResponseValue → Type 0) → IfOk result Fact
    → IfOk (reply_of result) Fact
reply_ok (Ok a) Fact fact = fact
reply_ok (Err e) Fact fact = tt

-- what is said of the answer where the upstream tells its replies
pub record Known (told : Option Replies) (q : Question) (answer : Reply) : Type 0 where
  pub passes : PassesOn told q answer
  pub foreign : ForeignNamed told q answer
  pub answers : AnswersTold told q answer

pub all_known : (told : Option Replies) (q : Question) (result : Result ResponseValue NetError)
    → UnlessNoMemory result (PassesOn told q (reply_of result))
    → UnlessNoMemory result (ForeignNamed told q (reply_of result))
    → UnlessNoMemory result (AnswersTold told q (reply_of result))
    → UnlessNoMemory result (Known told q (reply_of result))
all_known told q (Ok x) p f a = record { passes = p; foreign = f; answers = a }
all_known told q (Err e) (inl memory) f a = inl memory
all_known told q (Err e) (inr p) (inl memory) a = inl memory
all_known told q (Err e) (inr p) (inr f) (inl memory) = inl memory
all_known told q (Err e) (inr p) (inr f) (inr a) = inr (record { passes = p; foreign = f; answers = a })

session_known : {H : Type 0} (how : Verification) (meanings : handle.Ghosts H) (s : SessionValue) (call : Call H) (answer : Reply)
    → IsSessionCall how meanings s call → SaysOf meanings call answer → Known (meanings.told call.old) call.query answer
    → AnswersSession how s answer
session_known how meanings s call answer c says given =
    let known : Known (Some (session_replies s)) s.query answer =
    at_session how meanings s call (λ told q. Known told q answer) c given in
    record {
      answered = session_answered how meanings s call answer c says;
      denies = session_denies how meanings s call answer c says;
      caused = session_caused how meanings s call answer c says;
      passes = known.passes;
      foreign = known.foreign;
      answers = known.answers;
    }

-- the answer to a session is that of its lookup
pub answers_session : {H : Type 0} (how : Verification) (meanings : handle.Ghosts H) (s : SessionValue) (call : Call H)
    (result : Result ResponseValue NetError)
    → IsSessionCall how meanings s call → SaysOf meanings call (reply_of result)
    → UnlessNoMemory result (Known (meanings.told call.old) call.query (reply_of result))
    → UnlessNoMemory result (AnswersSession how s (reply_of result))
answers_session how meanings s call (Ok a) c says known = session_known how meanings s call (Ok a) c says known
answers_session how meanings s call (Err e) c says (inl memory) = inl memory
answers_session how meanings s call (Err e) c says (inr known) =
    inr (session_known how meanings s call (reply_of (Err e)) c says known)

-- what a lookup answered, over the handle, the keys and the verifier that were made of a session
module _ {V : Type 0} (meanings : handle.Ghosts RecordedValue) (tests : verifier.Ghosts V)
    (caches : cache.Ghosts CountedList) (how : Verification) (s : SessionValue) where
  pub answers_looked : (old new : DnssecDnsHandle RecordedValue V CountedList) (q : Question)
      (options : DnsRequestOptions) (now : ℕ) (result : Result ResponseValue NetError)
      → meanings.told (inner_of old) ≡ Some (replies_of (inner_of old))
      → inner_of old ≡ recorded_by s.by_turn s.replies → anchored (anchors_of old) ≡ anchored s.anchors
      → tests.answers (verifier_of old) ≡ session_answers how s → q ≡ s.query
      → iterations_of old ≡ default_iterations → options ≡ record plain_options { max_request_depth = session_depth s }
      → now ≡ s.moment
      → caches.told (cache_of old) ≡ Some ((cache_of old).list) → (cache_of old).list ≡ default_entries
      → SaysOf meanings (call_of tests caches old new q options now) (reply_of result)
      → UnlessNoMemory result (Known (meanings.told (inner_of old)) q (reply_of result))
      → UnlessNoMemory result (AnswersSession how s (reply_of result))
  answers_looked old new q options now result told over by verified asked counted deep timed tells empty says
      known =
      answers_session how meanings s (call_of tests caches old new q options now) result
      (record {
        judge =
            ap (λ n. judge (tests.answers (verifier_of old)) (anchors_of old) n) timed
            ∙ judge_plain how s (tests.answers (verifier_of old)) (anchors_of old) verified by;
        query = asked;
        limits =
            ap (λ (o : DnsRequestOptions). limits_by o.max_request_depth (iterations_of old)) deep
            ∙ ap (limits_by (session_depth s)) counted;
        moment = timed;
        told = told ∙ ap (λ u. Some (replies_of u)) over;
        fresh = tells ∙ ap (λ l. Some l) empty;
      })
      says known
