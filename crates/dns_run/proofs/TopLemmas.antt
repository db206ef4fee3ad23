-- How the last step of a session's trail ends: by what the session replies to its query.
use Rattle.std.proofs.Common.{◌≡◌, ◌∙◌, ◌-◌, ◌++◌, Bool, true, List, [], map, length, take, Option, Some, sym, ap}
use Rattle.std.proofs.Common.{subst}
use Rattle.std.proofs.lemmas.Bool.{and_parts}
use Rattle.dns_model.specs.Records.{Rr}
use Rattle.dns_model.specs.SoundAnswers.{Told}
use Rattle.dns_model.specs.Trails.{AskedValue, Records, EndingValue}
use Rattle.dns_rules.specs.Asking.{effective}
use Rattle.dns_rules.specs.Derivation.{StepContext, step_holds}
use Rattle.dns_rules.specs.DerivationParts.{step_context_of, is_foreign, is_bare, judged_holds, step_holds_by}
use Rattle.dns_rules.specs.Outcome.{foreign_record}
use Rattle.dns_rules.proofs.DerivedLemmas.{Derived, derivation_parts, steps_hold_at, TopFirst, derivation_first}
use Rattle.dns_handle.specs.Handles.{reply_to}
use Rattle.dns_validation.specs.Received.{heard_from, says_none}
use Rattle.dns_lookup.specs.LookupParts.{heard_told}
use Rattle.dns_lookup.specs.Sends.{IsFromReplies}
use Rattle.dns_session_lookup.specs.declared.verification.Verification.{Verification}
use Rattle.dns_session.specs.SessionValue.{SessionValue}
use Rattle.dns_session_lookup.specs.Replies.{recorded, session_told, session_records}
use Rattle.dns_session_lookup.specs.Soundness.{session_judge}
use Rattle.dns_session_lookup.specs.Answering.{session_replies, session_limits, IsSessionTrail}
use Rattle.dns_session_lookup.proofs.ReplyLemmas.{session_replied}

pub some_same : {X : Type 0} (o : Option X) (a b : X) → o ≡ Some a → o ≡ Some b → a ≡ b
some_same o a b x y = cc

-- the last step is a judged one that heard the session's reply to its query, and it follows from the steps before it
record IsTop (how : Verification) (s : SessionValue) (trail : List AskedValue) (ending : EndingValue) : Type 0 where
  pub step : AskedValue
  pub before : StepContext
  pub query : step.query ≡ s.query
  pub ends : step.ending ≡ ending
  pub judged : step.judged ≡ true
  pub heard : step.reply ≡ heard_told (says_none (session_told s)) (session_records s)
  pub holds : step_holds_by before step step.reply ≡ true

top_heard : (how : Verification) (s : SessionValue) (trail : List AskedValue) (ending : EndingValue)
    (is : IsSessionTrail how s trail ending)
    (f : TopFirst trail)
    → is.top.reply ≡ heard_told (says_none (session_told s)) (session_records s)
top_heard how s trail ending is f =
    let same : is.top ≡ f.top = some_same _ is.top f.top is.last f.last in
    let from = subst (λ steps. IsFromReplies (session_replies s) steps) f.first is.from in
    ap (λ step. step.reply) same ∙ from.0
    ∙ ap (λ q. heard_from (reply_to (map recorded s.replies) q)) (ap (λ step. step.query) (sym same) ∙ is.query)
    ∙ ap heard_from (session_replied s)

is_top : (how : Verification) (s : SessionValue) (trail : List AskedValue) (ending : EndingValue)
    → IsSessionTrail how s trail ending
    → IsTop how s trail ending
unfolding step_holds
is_top how s trail ending is =
    let f : TopFirst trail = derivation_first (session_judge how s) (session_limits s) [] trail is.derived in
    let d : Derived (session_judge how s) (session_limits s) [] trail =
    derivation_parts (session_judge how s) (session_limits s) [] trail is.derived in
    let limits = effective (session_limits s) in
    record {
      step = is.top;
      before = step_context_of (session_judge how s) limits [] ([] ++ take (length trail - 1) trail) is.top;
      query = is.query;
      ends = is.ends;
      judged = ap (λ step. step.judged) (some_same _ is.top f.top is.last f.last) ∙ f.judged;
      heard = top_heard how s trail ending is f;
      holds = steps_hold_at (session_judge how s) limits [] [] trail (length trail - 1) is.top d.hold is.last;
    }

-- a judged step with records is judged by them
records_judged : (g : StepContext) (step : AskedValue) (empty : Bool) (o : Option Told) (records : Told)
    → step.judged ≡ true
    → step.reply ≡ heard_told empty o → o ≡ Some records → step_holds_by g step step.reply ≡ true
    → judged_holds g step records (foreign_record step.query records) ≡ true
records_judged g step empty o records judged heard told holds =
    let b : step_holds_by g step (Records records empty) ≡ true =
    ap (step_holds_by g step) (ap (heard_told empty) (sym told) ∙ sym heard) ∙ holds in
    rw judged at b

foreign_ends : (g : StepContext) (step : AskedValue) (records : Told) (o : Option Rr) (r : Rr) → o ≡ Some r
    → judged_holds g step records o ≡ true → is_foreign r step.ending ≡ true
foreign_ends g step records o r is holds =
    (and_parts (is_foreign r step.ending) (is_bare step) (ap (judged_holds g step records) (sym is) ∙ holds)).0

-- where the reply has a record of another class, the trail names the first
pub trail_foreign : (how : Verification) (s : SessionValue) (trail : List AskedValue) (ending : EndingValue)
    (records : Told) (r : Rr)
    → IsSessionTrail how s trail ending
    → session_records s ≡ Some records → foreign_record s.query records ≡ Some r → is_foreign r ending ≡ true
trail_foreign how s trail ending records r is told found =
    let t : IsTop how s trail ending = is_top how s trail ending is in
    ap (is_foreign r) (sym t.ends)
    ∙ foreign_ends t.before t.step records (foreign_record t.step.query records) r
    (ap (λ q. foreign_record q records) t.query ∙ found)
    (records_judged t.before t.step (says_none (session_told s))
    (session_records s) records t.judged t.heard told t.holds)
