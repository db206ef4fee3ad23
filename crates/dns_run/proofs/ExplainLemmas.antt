-- The explained answer to a session, by what it is judged.
use Rattle.std.proofs.Common.{◌≡◌, ℕ, ◌∙◌, List, Result, Ok, Err, inl, inr, ap, subst}
use Rattle.dns_model.specs.Chains.{judge}
use Rattle.dns_model.specs.SoundAnswers.{ResponseValue}
use Rattle.dns_handle.specs.Replies.{error_of, reply_of}
use Rattle.dns_handle.specs.declared.error.NetError.{NetError}
use Rattle.dns_lookup.specs.LookupAnswers.{UnlessNoMemory}
use Rattle.dns_session.specs.SessionValue.{SessionValue}
use Rattle.dns_session_lookup.specs.Causes.{AnswersSession}
use Rattle.dns_session_lookup.specs.Soundness.{session_judge}
use Rattle.dns_session_lookup.specs.Verifying.{verifier_answers}
use Rattle.dns_session_lookup.specs.declared.verification.Verification.{Verification}
use Rattle.dns_session_lookup.proofs.JudgeLemmas.{judge_plain}
use Rattle.dns_run.specs.Asks.{at_moment}
use Rattle.dns_run.specs.Explaining.{Explains, IsExplained, judge_by}
use Rattle.dns_run.specs.ExplainingOver.{JudgesSession}
use Rattle.dns_run.specs.declared.judging.Judging.{Judging}

-- by what the sets of a session's lookup are judged is the session's judge
pub judging_session : (how : Verification) (s : SessionValue) (j : Judging) → JudgesSession how s s.moment j
    → judge_by j ≡ session_judge how s
judging_session how s j is =
    ap (λ m. judge (verifier_answers j.verifier) j.anchors m) is.moment
    ∙ judge_plain how s (verifier_answers j.verifier) j.anchors is.verifier is.anchors

-- at another moment than the session's
pub at_own_moment : (how : Verification) (s : SessionValue) (now : ℕ) (j : Judging) → JudgesSession how s now j
    → JudgesSession how (at_moment now s) now j
at_own_moment how s now j is =
    record { verifier = is.verifier; anchors = is.anchors; moment = is.moment; limits = is.limits }

explains_by : (how : Verification) (s : SessionValue) (reply : Result ResponseValue NetError) (j : Judging) (status : ℕ)
    (text : List ℕ)
    → JudgesSession how s s.moment j → AnswersSession how s (reply_of reply)
    → IsExplained (judge_by j) j.limits (reply_of reply) status text → Explains how s status text
explains_by how s reply j status text judges given is = record {
  reply = reply_of reply;
  answers = given;
  is =
      subst (λ l. IsExplained (session_judge how s) l (reply_of reply) status text) judges.limits
      (subst (λ by. IsExplained by j.limits (reply_of reply) status text) (judging_session how s j judges) is);
}

-- what is told of the answer to a session explains it
pub explains_session : (how : Verification) (s : SessionValue) (reply : Result ResponseValue NetError) (j : Judging)
    (status : ℕ) (text : List ℕ)
    → JudgesSession how s s.moment j → UnlessNoMemory reply (AnswersSession how s (reply_of reply))
    → IsExplained (judge_by j) j.limits (reply_of reply) status text → Explains how s status text
explains_session how s (Ok answer) j status text judges given is =
    explains_by how s (Ok answer) j status text judges given is
explains_session how s (Err error) j status text judges (inl memory) is = absurd (is.1.0 (ap error_of memory))
explains_session how s (Err error) j status text judges (inr given) is =
    explains_by how s (Err error) j status text judges given is
