-- What a run over an input leaves that does a task, out of what bytes come to.
use Rattle.std.proofs.Common.{◌≡◌, ◌<◌, ◌≤◌, ◌⊎◌, ◌∙◌, Bool, false, ℕ, List, [], Option, None, Some, IfSome, Result}
use Rattle.std.proofs.Common.{Ok, Err, length, refl, sym, ap, subst, arith, inl, inr}
use Rattle.std.specs.Io.KnownBytes.{Appends}
use Rattle.dns_model.specs.Chains.{Judge, judge}
use Rattle.dns_model.specs.Records.{Question}
use Rattle.dns_model.specs.SoundAnswers.{ResponseValue}
use Rattle.dns_model.specs.Trails.{AskedValue, Answered, Denied}
use Rattle.dns_model.specs.declared.proof.Proof.{Proof}
use Rattle.dns_evidence.specs.Listing.{ListedValue, answers_of}
use Rattle.dns_handle.specs.ErrorKinds.{is_no_memory}
use Rattle.dns_handle.specs.Errors as seen
use Rattle.dns_rules.specs.Asking.{Limits}
use Rattle.dns_handle.specs.Errors.{ErrorValue, Reply, Dns, Nsec}
use Rattle.dns_handle.specs.Replies.{error_of}
use Rattle.dns_handle.specs.declared.error.NetError.{NetError}
use Rattle.dns_handle.specs.declared.error.NetError.TheVariants.{NoMemory}
use Rattle.dns_handle.proofs.ErrorLemmas.{untold_no_memory}
use Rattle.dns_audit.specs.ReportValue.{ReportValue}
use Rattle.dns_audit.specs.ReportGrammar.{audit_of}
use Rattle.dns_io.specs.Reading.{input_limit, too_long_text, OfInput}
use Rattle.dns_io.specs.Writing.{TakesPrefix}
use Rattle.dns_io.specs.Leaving.{Leaves, Wrote, WrotePrefix}
use Rattle.dns_io.proofs.Leaving.{of_read, of_any, of_long, nothing_taken}
use Rattle.dns_deny.specs.DenyGrammar.{DenyValue, deny_of}
use Rattle.dns_deny.specs.DenialLines.{denials_text}
use Rattle.dns_questions.specs.Questions.{questions}
use Rattle.dns_questions.specs.QuestionsText.{questions_text}
use Rattle.dns_roll.specs.RollValue.{RollValue}
use Rattle.dns_roll.specs.RollGrammar.{roll_of}
use Rattle.dns_report.specs.Faults.{fault_text}
use Rattle.dns_session.specs.SessionValue.{SessionValue}
use Rattle.dns_session.specs.Grammar.{session_of}
use Rattle.dns_run.specs.declared.task.Task.{Task}
use Rattle.dns_run.specs.declared.task.Task.TheVariants.{Audit, Questions, Roll, Deny, Explain}
use Rattle.dns_session_lookup.specs.Causes.{AnswersSession}
use Rattle.dns_run.specs.Explaining.{ExplainEnds, IsExplained}
use Rattle.dns_run.specs.Forms.{goes_further}
use Rattle.dns_run.specs.Outcomes.{Fails}
use Rattle.dns_session_lookup.specs.Answering.{session_limits}
use Rattle.dns_session_lookup.specs.Soundness.{session_judge}
use Rattle.dns_session_lookup.specs.Verifying.{listing}
use Rattle.dns_session_lookup.specs.declared.verification.Verification.{Verification}
use Rattle.dns_session_lookup.specs.declared.verification.Verification.TheVariants.{ByList}
use Rattle.dns_run.specs.Tasks.{AuditEnds, QuestionsEnd, RollEnds, DenyEnds, AnswersDeny, Told, Faulted, EndsAsFault}
use Rattle.dns_run.specs.Tasks.{MayFail, AnswersQuestions, Listed, Failed, question_judge, denied_trail, TaskEnds}
use Rattle.dns_run.specs.Tasks.{TaskTells, Ended, TooLong, Nothing, EndsTask}

-- ---- what bytes come to, written

pub ended_wrote : (task : Task) (bytes text : List ℕ) (expected status : ℕ) (before now : Option (List ℕ))
    → TaskEnds task bytes expected text → status ≡ expected → Appends before now text
    → Wrote before now (TaskEnds task bytes status)
ended_wrote task bytes text expected status before now ends same written = record {
  text = text;
  fact = subst (λ n. TaskEnds task bytes n text) (sym same) ends;
  written = written;
}

pub ended_prefix : (task : Task) (bytes text : List ℕ) (status : ℕ) (before now : Option (List ℕ))
    → TaskEnds task bytes status text → TakesPrefix before now text
    → WrotePrefix before now (TaskTells task bytes)
ended_prefix task bytes text status before now ends taken =
    record { text = text; fact = Ended status ends; written = taken }

-- nothing was written
pub nothing_ended : (task : Task) (bytes : List ℕ) (before : Option (List ℕ))
    → WrotePrefix before before (TaskTells task bytes)
nothing_ended task bytes before = record { text = []; fact = Nothing refl; written = nothing_taken before [] }

-- ---- over the input that the source told

pub read_ends : (task : Task) (told : Option (List ℕ)) (bytes : List ℕ) (status : ℕ) (before now : Option (List ℕ))
    → IfSome told (λ left. bytes ≡ left) → (status < 4 → Wrote before now (TaskEnds task bytes status))
    → WrotePrefix before now (TaskTells task bytes) → EndsTask task status told before now
read_ends task told bytes status before now same wrote prefix = record {
  ends = λ low. of_read (λ bs. Wrote before now (TaskEnds task bs status)) told bytes same (wrote low);
  prefix = of_read (λ bs. WrotePrefix before now (TaskTells task bs)) told bytes same prefix;
}

pub long_ends : (task : Task) (told : Option (List ℕ)) (status : ℕ) (before now : Option (List ℕ)) → 5 ≤ status
    → IfSome told (λ left. input_limit < length left) → TakesPrefix before now too_long_text
    → EndsTask task status told before now
long_ends task told status before now least long taken = record {
  ends = λ low. absurd (omega arith);
  prefix = of_long (λ bs. WrotePrefix before now (TaskTells task bs)) told long
      (λ bytes more. record { text = too_long_text; fact = TooLong more refl; written = taken });
}

pub stopped_ends : (task : Task) (told : Option (List ℕ)) (status : ℕ) (before : Option (List ℕ)) → 4 ≤ status
    → EndsTask task status told before before
stopped_ends task told status before least = record {
  ends = λ low. absurd (omega arith);
  prefix = of_any (λ bs. WrotePrefix before before (TaskTells task bs)) told (λ bytes. nothing_ended task bytes before);
}

-- ---- what follows for single statuses

less_differs : (m n : ℕ) → m < n → m ≡ n → ⊥
less_differs m n less same = omega (arith, less, same)

audit_fault : (read : Result (SessionValue × ReportValue) ℕ) (text : List ℕ) → AuditEnds read 1 text → ⊥
audit_fault (Ok read) text ends = less_differs 0 1 (omega arith) (sym ends.done)
audit_fault (Err number) text ends = less_differs 1 3 (omega arith) ends.refused

audit_form : (read : Result (SessionValue × ReportValue) ℕ) (text : List ℕ) → AuditEnds read 2 text → ⊥
audit_form (Ok read) text ends = less_differs 0 2 (omega arith) (sym ends.done)
audit_form (Err number) text ends = less_differs 2 3 (omega arith) ends.refused

questions_fault : (bytes : List ℕ) (read : Result SessionValue ℕ) (text : List ℕ) → session_of bytes ≡ read
    → QuestionsEnd read 1 text → Fails ByList bytes text
questions_fault bytes (Ok s) text is (Listed done lists) = absurd (less_differs 0 1 (omega arith) (sym done))
questions_fault bytes (Ok s) text is (Failed done bare) = record { session = s; read = is; fault = bare.fault }
questions_fault bytes (Err number) text is ends = absurd (less_differs 1 3 (omega arith) ends.refused)

questions_form : (read : Result SessionValue ℕ) (text : List ℕ) → QuestionsEnd read 2 text → ⊥
questions_form (Ok s) text (Listed done lists) = less_differs 0 2 (omega arith) (sym done)
questions_form (Ok s) text (Failed done bare) = less_differs 1 2 (omega arith) (sym done)
questions_form (Err number) text ends = less_differs 2 3 (omega arith) ends.refused

roll_fault : (read : Result RollValue ℕ) (text : List ℕ) → RollEnds read 1 text → ⊥
roll_fault (Ok t) text ends = less_differs 0 1 (omega arith) (sym ends.done)
roll_fault (Err number) text ends = less_differs 1 3 (omega arith) ends.refused

roll_form : (read : Result RollValue ℕ) (text : List ℕ) → RollEnds read 2 text → ⊥
roll_form (Ok t) text ends = less_differs 0 2 (omega arith) (sym ends.done)
roll_form (Err number) text ends = less_differs 2 3 (omega arith) ends.refused

deny_form : (read : Result DenyValue ℕ) (text : List ℕ) → DenyEnds read 2 text → ⊥
deny_form (Ok t) text (Told done tells) = less_differs 0 2 (omega arith) (sym done)
deny_form (Ok t) text (Faulted done fault) = less_differs 1 2 (omega arith) (sym done)
deny_form (Err number) text ends = less_differs 2 3 (omega arith) ends.refused

explained_form : (j : Judge) (limits : Limits) (reply : Reply) (text : List ℕ) → IsExplained j limits reply 2 text → ⊥
explained_form j limits (Ok answer) text is = less_differs 0 2 (omega arith) (sym is.0)
explained_form j limits (Err error) text is = less_differs 1 2 (omega arith) (sym is.0)

explain_form : (how : Verification) (read : Result SessionValue ℕ) (text : List ℕ) → ExplainEnds how read 2 text → ⊥
explain_form how (Ok s) text ends =
    explained_form (session_judge how s) (session_limits s) ends.reply text ends.is
explain_form how (Err number) text ends = less_differs 2 3 (omega arith) ends.refused

ends_fault : (task : Task) (bytes text : List ℕ) → goes_further task ≡ false → TaskEnds task bytes 1 text
    → Fails ByList bytes text
ends_fault Audit bytes text plain ends = absurd (audit_fault (audit_of bytes) text ends)
ends_fault Questions bytes text plain ends = questions_fault bytes (session_of bytes) text refl ends
ends_fault Roll bytes text plain ends = absurd (roll_fault (roll_of bytes) text ends)
ends_fault Deny bytes text plain ends = cc
ends_fault (Explain how) bytes text plain ends = cc

ends_form : (task : Task) (bytes text : List ℕ) → TaskEnds task bytes 2 text → ⊥
ends_form Audit bytes text ends = audit_form (audit_of bytes) text ends
ends_form Questions bytes text ends = questions_form (session_of bytes) text ends
ends_form Roll bytes text ends = roll_form (roll_of bytes) text ends
ends_form Deny bytes text ends = deny_form (deny_of bytes) text ends
ends_form (Explain how) bytes text ends = explain_form how (session_of bytes) text ends

wrote_fault : (task : Task) (bytes : List ℕ) (before now : Option (List ℕ)) → goes_further task ≡ false
    → Wrote before now (TaskEnds task bytes 1) → Wrote before now (Fails ByList bytes)
wrote_fault task bytes before now plain wrote =
    record { text = wrote.text; fact = ends_fault task bytes wrote.text plain wrote.fact; written = wrote.written }

leaves_fault : (task : Task) (told before now : Option (List ℕ)) → goes_further task ≡ false
    → OfInput told (λ bytes. Wrote before now (TaskEnds task bytes 1)) → Leaves (Fails ByList) told before now
leaves_fault task None before now plain some =
    record { bytes = some.bytes; fact = wrote_fault task some.bytes before now plain some.fact }
leaves_fault task (Some bytes) before now plain wrote = wrote_fault task bytes before now plain wrote

leaves_form : (task : Task) (told before now : Option (List ℕ))
    → OfInput told (λ bytes. Wrote before now (TaskEnds task bytes 2)) → ⊥
leaves_form task None before now some = ends_form task some.bytes some.fact.text some.fact.fact
leaves_form task (Some bytes) before now wrote = ends_form task bytes wrote.text wrote.fact

-- where nothing is explained, 1 is answered only with the line of a session's error
pub task_faults : (task : Task) (status : ℕ) (told before now : Option (List ℕ)) → goes_further task ≡ false
    → EndsTask task status told before now → status ≡ 1 → Leaves (Fails ByList) told before now
task_faults task status told before now plain ends is =
    leaves_fault task told before now plain
    (subst (λ n. OfInput told (λ bytes. Wrote before now (TaskEnds task bytes n))) is (ends.ends (omega (arith, is))))

-- and 2 never
pub task_forms : (task : Task) (status : ℕ) (told before now : Option (List ℕ)) → EndsTask task status told before now
    → status ≡ 2 → ⊥
task_forms task status told before now ends is =
    leaves_form task told before now
    (subst (λ n. OfInput told (λ bytes. Wrote before now (TaskEnds task bytes n))) is (ends.ends (omega (arith, is))))

-- ---- the questions of an answer

judged_alike : (s : SessionValue) (listed : ListedValue) (moment : ℕ) (trail : List AskedValue)
    → answers_of listed ≡ answers_of (listing s.algorithms []) → moment ≡ s.moment
    → questions_text (questions (judge (answers_of listed) [] moment) trail)
    ≡ questions_text (questions (question_judge s) trail)
judged_alike s listed moment trail lists at =
    ap (λ answers. questions_text (questions (judge answers [] moment) trail)) lists
    ∙ ap (λ n. questions_text (questions (judge (answers_of (listing s.algorithms [])) [] n) trail)) at

pub answer_listed : (s : SessionValue) (answer : ResponseValue) (listed : ListedValue) (moment : ℕ) (text : List ℕ)
    → AnswersSession ByList s (Ok answer) → answers_of listed ≡ answers_of (listing s.algorithms []) → moment ≡ s.moment
    → text ≡ questions_text (questions (judge (answers_of listed) [] moment) answer.trail) → AnswersQuestions s 0 text
answer_listed s answer listed moment text given lists at is =
    Listed refl (record {
      trail = answer.trail;
      ending = Answered answer.denial;
      shown = refl;
      is = given.answered.trail;
      spelled = is ∙ judged_alike s listed moment answer.trail lists at;
    })

-- an error with a trail is a denial
record IsDenial (error : ErrorValue) (trail : List AskedValue) : Type 0 where
  asked : Question
  response : ResponseValue
  proof : Proof
  is : error ≡ Dns (Nsec asked response proof)
  its : response.trail ≡ trail

denial_of : (error : ErrorValue) (trail : List AskedValue) → denied_trail error ≡ Some trail → IsDenial error trail
denial_of seen.Busy trail h = cc
denial_of (Dns (seen.ResponseCode code)) trail h = cc
denial_of (Dns (seen.NoRecordsFound missing)) trail h = cc
denial_of (Dns (Nsec asked response proof)) trail h =
    record { asked = asked; response = response; proof = proof; is = refl; its = cc }
denial_of (Dns seen.DnssecBogus) trail h = cc
denial_of (seen.Message notice) trail h = cc
denial_of (seen.Msg text) trail h = cc
denial_of seen.NoConnections trail h = cc
denial_of (seen.Proto error) trail h = cc
denial_of (seen.Io kind) trail h = cc
denial_of seen.Timeout trail h = cc
denial_of seen.QueryCaseMismatch trail h = cc
denial_of (seen.ForeignClassRecord owner class rtype) trail h = cc
denial_of seen.Truncated trail h = cc
denial_of seen.NoMemory trail h = cc

denial_given : (s : SessionValue) (error : ErrorValue) (trail : List AskedValue) (listed : ListedValue) (moment : ℕ)
    (text : List ℕ)
    → IsDenial error trail → AnswersSession ByList s (Err error)
    → answers_of listed ≡ answers_of (listing s.algorithms [])
    → moment ≡ s.moment → text ≡ questions_text (questions (judge (answers_of listed) [] moment) trail)
    → AnswersQuestions s 0 text
denial_given s error trail listed moment text d given lists at is =
    let own : AnswersSession ByList s (Err (Dns (Nsec d.asked d.response d.proof))) =
    subst (λ e. AnswersSession ByList s (Err e)) d.is given in
    Listed refl (record {
      trail = d.response.trail;
      ending = Denied d.proof;
      shown = refl;
      is = own.answered.trail;
      spelled = is ∙ ap (λ t. questions_text (questions (judge (answers_of listed) [] moment) t)) (sym d.its)
          ∙ judged_alike s listed moment d.response.trail lists at;
    })

no_trail : (error : ErrorValue) (trail : List AskedValue) → error ≡ seen.NoMemory → denied_trail error ≡ Some trail → ⊥
no_trail error trail is has = let none : denied_trail seen.NoMemory ≡ Some trail = ap denied_trail (sym is) ∙ has in cc

-- the questions of a denial
pub denial_listed : (s : SessionValue) (error : NetError) (trail : List AskedValue) (listed : ListedValue) (moment : ℕ)
    (text : List ℕ)
    → denied_trail (error_of error) ≡ Some trail → (error ≡ NoMemory) ⊎ AnswersSession ByList s (Err (error_of error))
    → answers_of listed ≡ answers_of (listing s.algorithms []) → moment ≡ s.moment
    → text ≡ questions_text (questions (judge (answers_of listed) [] moment) trail) → AnswersQuestions s 0 text
denial_listed s error trail listed moment text has (inl memory) lists at is =
    absurd (no_trail (error_of error) trail (ap error_of memory) has)
denial_listed s error trail listed moment text has (inr given) lists at is =
    denial_given s (error_of error) trail listed moment text (denial_of (error_of error) trail has) given lists at is

-- ---- the line of an error

pub fault_ends : (s : SessionValue) (error : NetError) (told : Bool) (text : List ℕ)
    → told ≡ is_no_memory (error_of error) → told ≡ false → MayFail s error → text ≡ fault_text (error_of error)
    → EndsAsFault s error 1 text
fault_ends s error told text tests untold (inl memory) is =
    absurd (untold_no_memory error told tests untold (ap error_of memory))
fault_ends s error told text tests untold (inr given) is =
    let own = untold_no_memory error told tests untold in
    record {
      done = refl;
      fault = record {
        error = error_of error;
        own = own;
        cause = given.caused (error_of error) refl own;
        spelled = is;
      };
      its = refl;
    }

-- the questions of an error without a trail
pub bare_fault : (s : SessionValue) (error : NetError) (status : ℕ) (text : List ℕ)
    → denied_trail (error_of error) ≡ None
    → EndsAsFault s error status text → AnswersQuestions s status text
bare_fault s error status text none ends =
    Failed ends.done (record { fault = ends.fault; bare = ap denied_trail ends.its ∙ none })

-- ---- what an answer denies

pub denials_told : (t : DenyValue) (answer : ResponseValue) (moment : ℕ) (lines : List Question) (text : List ℕ)
    → moment ≡ t.session.moment → lines ≡ t.questions → AnswersSession ByList t.session (Ok answer)
    → text ≡ denials_text answer moment lines → AnswersDeny t 0 text
denials_told t answer moment lines text at are given is =
    Told refl (record {
      answer = answer;
      given = given.answered;
      denies = given.denies;
      spelled = is ∙ ap (λ n. denials_text answer n lines) at ∙ ap (denials_text answer t.session.moment) are;
    })
