-- What a session must end with, out of how a run ended.
use Rattle.std.proofs.Common.{ℕ, ◌≡◌, ◌≢◌, ◌≤◌, ◌∙◌, true, zero, suc, List, Option, None, Some, Result, Ok, Err, refl}
use Rattle.std.proofs.Common.{sym, ap, subst, arith}
use Rattle.std.specs.Io.KnownBytes.{Appends}
use Rattle.dns_model.specs.SoundAnswers.{Told, ResponseValue}
use Rattle.dns_model.specs.Trails.{Answered, Denied}
use Rattle.dns_rules.specs.DerivationParts.{is_foreign}
use Rattle.dns_rules.specs.Outcome.{foreign_record}
use Rattle.dns_handle.specs.Errors.{ErrorValue, ForeignClassRecord}
use Rattle.dns_io.specs.Leaving.{Wrote, Leaves}
use Rattle.dns_lookup.specs.LookupParts.{told_of}
use Rattle.dns_lookup.specs.Causes.{has_response}
use Rattle.dns_report.specs.declared.parts.Parts.{Parts}
use Rattle.dns_report.specs.Faults.{fault_text}
use Rattle.dns_session_lookup.specs.declared.verification.Verification.{Verification}
use Rattle.dns_session.specs.SessionValue.{SessionValue}
use Rattle.dns_session.specs.Grammar.{session_of}
use Rattle.dns_session.specs.Stops.{bad_line_text}
use Rattle.dns_session_lookup.specs.Soundness.{IsSound}
use Rattle.dns_session_lookup.specs.Replies.{session_told, session_message, session_records}
use Rattle.dns_session_lookup.specs.Answering.{IsSessionAnswer}
use Rattle.dns_session_lookup.specs.Causes.{HasNoMessage, HasForeign, FaultCause, NoMessage, OtherClass, NotDenied}
use Rattle.dns_run.specs.Outcomes.{IsTrailReport, IsFault, Derives, Fails, Refuses}
use Rattle.dns_run.specs.Runs.{EndsWith, Ended, Stopped, EndsAsAnswered, EndsAsSession, EndsByGrammar, IfSession}
use Rattle.dns_run.specs.Runs.{IfBadLine}
use Rattle.dns_run.specs.Runs as runs
use Rattle.dns_session_lookup.proofs.ReplyLemmas.{err_same}
use Rattle.dns_run.proofs.TopLemmas.{some_same, trail_foreign}

-- ---- the ways to end

-- a status below 4 says what was written
pub data RunEnding (how : Verification) (shows : Parts) (bytes : List ℕ) (status : ℕ) (before now : Option (List ℕ)) : Type 0 where
  Reported : status ≡ 0 → Wrote before now (Derives how shows bytes) → RunEnding how shows bytes status before now
  Failed : status ≡ 1 → Wrote before now (Fails how bytes) → RunEnding how shows bytes status before now
  Refused : status ≡ 3 → Wrote before now (Refuses bytes) → RunEnding how shows bytes status before now
  Later : 4 ≤ status → RunEnding how shows bytes status before now

-- what a run says of its statuses
pub record Says (how : Verification) (shows : Parts) (status : ℕ) (told before now : Option (List ℕ)) : Type 0 where
  pub report : status ≡ 0 → Leaves (Derives how shows) told before now
  pub fault : status ≡ 1 → Leaves (Fails how) told before now
  pub form : status ≢ 2
  pub grammar : status ≡ 3 → Leaves Refuses told before now

pub ending : (how : Verification) (shows : Parts) (bytes : List ℕ) (status : ℕ) (before now : Option (List ℕ))
    → Says how shows status (Some bytes) before now → RunEnding how shows bytes status before now
ending how shows bytes zero before now says = Reported refl (says.report refl)
ending how shows bytes (suc zero) before now says = Failed refl (says.fault refl)
ending how shows bytes (suc (suc zero)) before now says = absurd (says.form refl)
ending how shows bytes (suc (suc (suc zero))) before now says = Refused refl (says.grammar refl)
ending how shows bytes (suc (suc (suc (suc n)))) before now says = Later (omega arith)

pub session_same : (bytes : List ℕ) (s x : SessionValue) → session_of bytes ≡ Ok s → session_of bytes ≡ Ok x → x ≡ s
session_same bytes s x is also = ok_is (sym also ∙ is)
  where
    ok_is : (let y : Result SessionValue ℕ = Ok x in y) ≡ Ok s → x ≡ s
    ok_is h = cc

pub no_line : (bytes : List ℕ) (s : SessionValue) (n : ℕ) → session_of bytes ≡ Ok s → session_of bytes ≡ Err n → ⊥
no_line bytes s n is also = clash (sym is ∙ also)
  where
    clash : (let y : Result SessionValue ℕ = Ok s in y) ≡ Err n → ⊥
    clash h = cc

line_same : (bytes : List ℕ) (n k : ℕ) → session_of bytes ≡ Err n → session_of bytes ≡ Err k → k ≡ n
line_same bytes n k is also = err_is (sym also ∙ is)
  where
    err_is : (let y : Result SessionValue ℕ = Err k in y) ≡ Err n → k ≡ n
    err_is h = cc

-- what a run over a session gave
data Session (how : Verification) (s : SessionValue) (status : ℕ) (before now : Option (List ℕ)) : Type 0 where
  GivesReport : (answer : ResponseValue) → IsSessionAnswer how s answer (Answered answer.denial) → status ≡ 0
      → Session how s status before now
  GivesFault : (error : ErrorValue) → FaultCause how s error → status ≡ 1 → Appends before now (fault_text error)
      → Session how s status before now
  GivesLater : 4 ≤ status → Session how s status before now

-- how a run over a session ended
session_ends : (how : Verification) (shows : Parts) (bytes : List ℕ) (s : SessionValue) (status : ℕ)
    (before now : Option (List ℕ))
    → session_of bytes ≡ Ok s → RunEnding how shows bytes status before now → Session how s status before now
session_ends how shows bytes s status before now read (Reported is wrote) =
    let r : IsTrailReport how shows s wrote.text =
    subst (λ x. IsTrailReport how shows x wrote.text)
    (session_same bytes s wrote.fact.session read wrote.fact.read) wrote.fact.report in
    GivesReport r.report.answer r.given is
session_ends how shows bytes s status before now read (Failed is wrote) =
    let f : IsFault how s wrote.text =
    subst (λ x. IsFault how x wrote.text) (session_same bytes s wrote.fact.session read wrote.fact.read) wrote.fact.fault in
    GivesFault f.error f.cause is (subst (λ t. Appends before now t) f.spelled wrote.written)
session_ends how shows bytes s status before now read (Refused is wrote) =
    absurd (no_line bytes s wrote.fact.number read wrote.fact.read)
session_ends how shows bytes s status before now read (Later late) = GivesLater late

-- ---- what it must end with

-- a session that has no report, and no cause but for this error
record OnlyFault (how : Verification) (s : SessionValue) (error : ErrorValue) : Type 0 where
  pub no_answer : (answer : ResponseValue) → IsSessionAnswer how s answer (Answered answer.denial) → ⊥
  pub only : (x : ErrorValue) → FaultCause how s x → x ≡ error

ends_fault : (how : Verification) (s : SessionValue) (status : ℕ) (before now : Option (List ℕ)) (error : ErrorValue)
    → OnlyFault how s error → Session how s status before now → EndsWith status 1 before now (fault_text error)
ends_fault how s status before now error f (GivesReport answer given is) = absurd (f.no_answer answer given)
ends_fault how s status before now error f (GivesFault x cause is written) =
    Ended is (subst (λ y. Appends before now (fault_text y)) (f.only x cause) written)
ends_fault how s status before now error f (GivesLater late) = Stopped late

-- a session without a message has no records
pub no_records : (s : SessionValue) (records : Told) → session_records s ≡ Some records → session_message s ≡ None → ⊥
no_records s records told none = clash (sym told ∙ ap told_of none)
  where
    clash : Some records ≡ None → ⊥
    clash h = cc

sound_message : (how : Verification) (s : SessionValue) (answer : ResponseValue) → IsSound how s answer
    → session_message s ≡ None → ⊥
sound_message how s answer is none = clash (sym is.told ∙ none)
  where
    clash : Some is.message ≡ None → ⊥
    clash h = cc

-- without a message
no_message_only : (how : Verification) (s : SessionValue) (error x : ErrorValue) → HasNoMessage s error
    → FaultCause how s x → x ≡ error
no_message_only how s error x h (NoMessage other) =
    err_same (session_told s) x error other.told h.told
no_message_only how s error x h (OtherClass f) = absurd (no_records s f.records f.told h.silent)
no_message_only how s error x h (NotDenied response proof given is) =
    absurd (sound_message how s response given.sound h.silent)

only_no_message : (how : Verification) (s : SessionValue) (error : ErrorValue) → HasNoMessage s error
    → OnlyFault how s error
only_no_message how s error h = record {
  no_answer = λ answer given. sound_message how s answer given.sound h.silent;
  only = λ x cause. no_message_only how s error x h cause;
}

-- with a record of another class
foreign_only : (how : Verification) (s : SessionValue) (error x : ErrorValue) → HasForeign s error → FaultCause how s x
    → x ≡ error
foreign_only how s error x f (NoMessage other) = absurd (no_records s f.records f.told other.silent)
foreign_only how s error x f (OtherClass g) =
    let records : g.records ≡ f.records = some_same _ g.records f.records g.told f.told in
    let first : g.first ≡ f.first =
    some_same _ g.first f.first (ap (foreign_record s.query) (sym records) ∙ g.found) f.found in
    g.named ∙ ap (λ r. ForeignClassRecord r.owner r.class r.rtype) first ∙ sym f.named
foreign_only how s error x f (NotDenied response proof given is) =
    absurd (not_true (trail_foreign how s response.trail (Denied proof) f.records f.first given.trail f.told f.found))
  where
    not_true : is_foreign f.first (Denied proof) ≡ true → ⊥
    not_true h = cc

only_foreign : (how : Verification) (s : SessionValue) (error : ErrorValue) → HasForeign s error → OnlyFault how s error
only_foreign how s error f = record {
  no_answer = λ answer given. not_true answer
      (trail_foreign how s answer.trail (Answered answer.denial) f.records f.first given.trail f.told f.found);
  only = λ x cause. foreign_only how s error x f cause;
}
  where
    not_true : (answer : ResponseValue) → is_foreign f.first (Answered answer.denial) ≡ true → ⊥
    not_true answer h = cc

-- a record of another class, where there is none
pub own_class : (s : SessionValue) (records : Told) (x : ErrorValue) → session_records s ≡ Some records
    → foreign_record s.query records ≡ None
    → HasForeign s x → ⊥
own_class s records x told own g =
    let same : g.records ≡ records = some_same _ g.records records g.told told in
    clash (sym g.found ∙ ap (foreign_record s.query) same ∙ own)
  where
    clash : Some g.first ≡ None → ⊥
    clash h = cc

-- with records of the query's class alone
response_caused : (how : Verification) (s : SessionValue) (records : Told) (x : ErrorValue)
    → session_records s ≡ Some records
    → foreign_record s.query records ≡ None
    → FaultCause how s x → has_response (Err x) ≡ true
response_caused how s records x told own (NoMessage other) = absurd (no_records s records told other.silent)
response_caused how s records x told own (OtherClass g) = absurd (own_class s records x told own g)
response_caused how s records x told own (NotDenied response proof given is) = ap (λ y. has_response (Err y)) is

ends_answered : (how : Verification) (s : SessionValue) (status : ℕ) (before now : Option (List ℕ))
    → Session how s status before now
    → ((x : ErrorValue) → FaultCause how s x → has_response (Err x) ≡ true) → EndsAsAnswered status before now
ends_answered how s status before now (GivesReport answer given is) caused = runs.Reported is
ends_answered how s status before now (GivesFault x cause is written) caused =
    runs.Refused x (caused x cause) (Ended is written)
ends_answered how s status before now (GivesLater late) caused = runs.Late late

-- what a run over a session ends with
ends_session : (how : Verification) (s : SessionValue) (status : ℕ) (before now : Option (List ℕ))
    → Session how s status before now
    → EndsAsSession s status before now
ends_session how s status before now ended = record {
  no_message = λ error none. ends_fault how s status before now error (only_no_message how s error none) ended;
  other_class = λ error foreign. ends_fault how s status before now error (only_foreign how s error foreign) ended;
  answered = λ records told own.
      ends_answered how s status before now ended (λ x cause. response_caused how s records x told own cause);
}

pub ends_as_session : (how : Verification) (shows : Parts) (status : ℕ) (told before now : Option (List ℕ))
    → Says how shows status told before now
    → IfSession told (λ s. EndsAsSession s status before now)
ends_as_session how shows status None before now says = tt
ends_as_session how shows status (Some bytes) before now says = λ s read.
    ends_session how s status before now
    (session_ends how shows bytes s status before now read (ending how shows bytes status before now says))

line_ends : (how : Verification) (shows : Parts) (bytes : List ℕ) (number status : ℕ) (before now : Option (List ℕ))
    → session_of bytes ≡ Err number → RunEnding how shows bytes status before now
    → EndsWith status 3 before now (bad_line_text number)
line_ends how shows bytes number status before now read (Reported is wrote) =
    absurd (no_line bytes wrote.fact.session number wrote.fact.read read)
line_ends how shows bytes number status before now read (Failed is wrote) =
    absurd (no_line bytes wrote.fact.session number wrote.fact.read read)
line_ends how shows bytes number status before now read (Refused is wrote) =
    let P : List ℕ → Type 0 = λ t. Appends before now t in
    let e : wrote.text ≡ bad_line_text number =
    wrote.fact.spelled ∙ ap bad_line_text (line_same bytes number wrote.fact.number read wrote.fact.read) in
    Ended is (subst P e wrote.written)
line_ends how shows bytes number status before now read (Later late) = Stopped late

-- an input that is no session
ends_bad_line : (how : Verification) (shows : Parts) (status : ℕ) (told before now : Option (List ℕ))
    → Says how shows status told before now
    → IfBadLine told (λ number. EndsWith status 3 before now (bad_line_text number))
ends_bad_line how shows status None before now says = tt
ends_bad_line how shows status (Some bytes) before now says = λ number read.
    line_ends how shows bytes number status before now read (ending how shows bytes status before now says)

pub ends_by_grammar : (how : Verification) (shows : Parts) (status : ℕ) (told before now : Option (List ℕ))
    → Says how shows status told before now → EndsByGrammar status told before now
ends_by_grammar how shows status told before now says =
    record { only = says.grammar; always = ends_bad_line how shows status told before now says }
