-- The verdicts of a set's signatures, one signature after another.
use Rattle.std.proofs.Common.{◌≡◌, true, false, List, [], ◌∷◌, ◌++◌, None, Some, if◌then◌else◌, append_assoc, append-nil, refl, sym, ap, ◌∙◌, subst}
use Rattle.dns_model.specs.declared.trail.AskRef.{AskRef}
use Rattle.dns_model.specs.Records.{Rr, RrSet}
use Rattle.dns_model.specs.Trails.{AskedValue}
use Rattle.dns_rules.specs.Marks.{Verdict, is_proved, is_skipped, verdict_of}
use Rattle.dns_rules.specs.Marks as marks
use Rattle.dns_rules.specs.Asking.{ask_of}
use Rattle.dns_rules.specs.Derivation.{StepContext, finished_answer, verdicts_after, verdicts_asked, verdicts_by}
use Rattle.dns_rules.specs.DerivationParts.{is_ask_for}
use Rattle.dns_rules.specs.DerivationParts.{after_verdict, if_last}
use Rattle.dns_rules.proofs.StayLemmas.{later_step_context, ask_for_stays}

-- the first signatures were read with these asks and verdicts, and none of them proved the set: the verdicts of others come
-- after theirs, also when further steps were appended
pub record VerdictsDone (g : StepContext) (set : RrSet) (front : List Rr) (asks : List AskRef) (vs : List Verdict) : Type 0 where
  pub more : (later : List AskedValue) (rest : List Rr) (rest_asks : List AskRef) (rest_verdicts : List Verdict)
      → verdicts_by (later_step_context g later) set rest rest_asks ≡ Some rest_verdicts
      → verdicts_by (later_step_context g later) set (front ++ rest) (asks ++ rest_asks) ≡ Some (vs ++ rest_verdicts)

-- none was read
pub verdicts_none : (g : StepContext) (set : RrSet) → VerdictsDone g set [] [] []
verdicts_none g set = record { more = λ later rest rest_asks rest_verdicts h. h }

-- what was read stays when steps are appended
pub verdicts_done_stay : (g : StepContext) (more : List AskedValue) (set : RrSet) (front : List Rr) (asks : List AskRef) (vs : List Verdict)
    → VerdictsDone g set front asks vs → VerdictsDone (later_step_context g more) set front asks vs
verdicts_done_stay g more set front asks vs done = record {
  more = λ later rest rest_asks rest_verdicts h.
      let same = append_assoc g.earlier more later in
      subst (λ steps. verdicts_by (record g { earlier = steps }) set (front ++ rest) (asks ++ rest_asks) ≡ Some (vs ++ rest_verdicts))
      (sym same)
      (done.more (more ++ later) rest rest_asks rest_verdicts
      (subst (λ steps. verdicts_by (record g { earlier = steps }) set rest rest_asks ≡ Some rest_verdicts) same h));
}

-- ---- one more signature

-- others after signatures, asks and verdicts with one more at their end
regroup : (g : StepContext) (set : RrSet) (front : List Rr) (r : Rr) (rest : List Rr) (asks more rest_asks : List AskRef)
    (vs : List Verdict) (v : Verdict)
    (rest_verdicts : List Verdict)
    → verdicts_by g set (front ++ r ∷ rest) (asks ++ (more ++ rest_asks)) ≡ Some (vs ++ v ∷ rest_verdicts)
    → verdicts_by g set ((front ++ r ∷ []) ++ rest) ((asks ++ more) ++ rest_asks) ≡ Some ((vs ++ v ∷ []) ++ rest_verdicts)
regroup g set front r rest asks more rest_asks vs v rest_verdicts h =
    rw (append_assoc front (r ∷ []) rest, append_assoc asks more rest_asks, append_assoc vs (v ∷ []) rest_verdicts) h

-- one that isn't asked for
pub verdicts_skip : (g : StepContext) (set : RrSet) (front : List Rr) (r : Rr) (asks : List AskRef) (vs : List Verdict)
    → VerdictsDone g set front asks vs → is_skipped g.query set r ≡ true
    → VerdictsDone g set (front ++ r ∷ []) asks (vs ++ marks.Failed ∷ [])
unfolding verdicts_by
verdicts_skip g set front r asks vs done skipped = record {
  more = λ later rest rest_asks rest_verdicts h.
      let g' = later_step_context g later in
      let one : verdicts_by g' set (r ∷ rest) rest_asks ≡ Some (marks.Failed ∷ rest_verdicts) =
      ap (λ b. if b then after_verdict marks.Failed (verdicts_by g' set rest rest_asks)
      else verdicts_asked g' set r rest_asks (verdicts_by g' set rest)) skipped
      ∙ ap (after_verdict marks.Failed) h in
      subst (λ xs. verdicts_by g' set ((front ++ r ∷ []) ++ rest) (xs ++ rest_asks) ≡ Some ((vs ++ marks.Failed ∷ [])
      ++ rest_verdicts)) (append-nil asks)
      (regroup g' set front r rest asks [] rest_asks vs marks.Failed rest_verdicts
      (done.more later (r ∷ rest) rest_asks (marks.Failed ∷ rest_verdicts) one));
}

-- one whose ask fits
pub record AskFits (g : StepContext) (set : RrSet) (r : Rr) (ask : AskRef) : Type 0 where
  pub kept : is_skipped g.query set r ≡ false
  pub asks : is_ask_for g (ask_of set r) ask ≡ true

-- the verdict that the answer to an ask gives a signature
abbrev pub asked_verdict : StepContext → RrSet → Rr → AskRef → Verdict
asked_verdict g set r ask = verdict_of g.judge set r (finished_answer g.earlier ask)

pub fits_later : (g : StepContext) (more : List AskedValue) (set : RrSet) (r : Rr) (ask : AskRef) → AskFits g set r ask
    → AskFits (later_step_context g more) set r ask
fits_later g more set r ask fits = record { kept = fits.kept; asks = (ask_for_stays g more (ask_of set r) ask fits.asks).asks }

first_asked : (g : StepContext) (set : RrSet) (r : Rr) (ask : AskRef) (rest : List Rr) (asks : List AskRef) → AskFits g set r ask
    → verdicts_by g set (r ∷ rest) (ask ∷ asks) ≡ verdicts_after (asked_verdict g set r ask) asks (verdicts_by g set rest)
unfolding verdicts_by
first_asked g set r ask rest asks fits =
    let after = verdicts_after (asked_verdict g set r ask) asks (verdicts_by g set rest) in
    ap (λ b. if b then after_verdict marks.Failed (verdicts_by g set rest (ask ∷ asks))
    else verdicts_asked g set r (ask ∷ asks) (verdicts_by g set rest)) fits.kept
    ∙ ap (λ b. if b then after else None) fits.asks

-- one whose ask fits and whose verdict doesn't prove the set
pub verdicts_ask : (g : StepContext) (set : RrSet) (front : List Rr) (r : Rr) (asks : List AskRef) (ask : AskRef) (vs : List Verdict)
    → VerdictsDone g set front asks vs → AskFits g set r ask → is_proved (asked_verdict g set r ask) ≡ false
    → VerdictsDone g set (front ++ r ∷ []) (asks ++ ask ∷ []) (vs ++ asked_verdict g set r ask ∷ [])
verdicts_ask g set front r asks ask vs done fits unproved = record {
  more = λ later rest rest_asks rest_verdicts h.
      let g' = later_step_context g later in
      let v = asked_verdict g set r ask in
      let same : asked_verdict g' set r ask ≡ v =
      ap (verdict_of g.judge set r) ((ask_for_stays g later (ask_of set r) ask fits.asks).answer) in
      let one : verdicts_by g' set (r ∷ rest) (ask ∷ rest_asks) ≡ Some (v ∷ rest_verdicts) =
      first_asked g' set r ask rest rest_asks (fits_later g later set r ask fits)
      ∙ ap (λ w. verdicts_after w rest_asks (verdicts_by g' set rest)) same
      ∙ ap (λ b. if b then if_last rest_asks (v ∷ []) else after_verdict v (verdicts_by g' set rest rest_asks)) unproved
      ∙ ap (after_verdict v) h in
      regroup g' set front r rest asks (ask ∷ []) rest_asks vs v rest_verdicts
      (done.more later (r ∷ rest) (ask ∷ rest_asks) (v ∷ rest_verdicts) one);
}

-- ---- the end

at_once : (g : StepContext) (set : RrSet) (front rest : List Rr) (asks rest_asks : List AskRef) (vs rest_verdicts : List Verdict)
    → VerdictsDone g set front asks vs → verdicts_by g set rest rest_asks ≡ Some rest_verdicts
    → verdicts_by g set (front ++ rest) (asks ++ rest_asks) ≡ Some (vs ++ rest_verdicts)
at_once g set front rest asks rest_asks vs rest_verdicts done h =
    let same = append-nil g.earlier in
    subst (λ steps. verdicts_by (record g { earlier = steps }) set (front ++ rest) (asks ++ rest_asks) ≡ Some (vs ++ rest_verdicts)) same
    (done.more [] rest rest_asks rest_verdicts
    (subst (λ steps. verdicts_by (record g { earlier = steps }) set rest rest_asks ≡ Some rest_verdicts) (sym same) h))

-- all were read, and none proved the set
pub verdicts_all : (g : StepContext) (set : RrSet) (front : List Rr) (asks : List AskRef) (vs : List Verdict)
    → VerdictsDone g set front asks vs
    → verdicts_by g set front asks ≡ Some vs
unfolding verdicts_by
verdicts_all g set front asks vs done =
    rw (append-nil front, append-nil asks, append-nil vs) at (at_once g set front [] asks [] vs [] done refl)

-- one proves the set, and those after it aren't read
pub verdicts_proved : (g : StepContext) (set : RrSet) (front : List Rr) (r : Rr) (rest : List Rr) (asks : List AskRef)
    (ask : AskRef) (vs : List Verdict)
    → VerdictsDone g set front asks vs → AskFits g set r ask → is_proved (asked_verdict g set r ask) ≡ true
    → verdicts_by g set (front ++ r ∷ rest) (asks ++ ask ∷ []) ≡ Some (vs ++ asked_verdict g set r ask ∷ [])
verdicts_proved g set front r rest asks ask vs done fits proved =
    let v = asked_verdict g set r ask in
    at_once g set front (r ∷ rest) asks (ask ∷ []) vs (v ∷ []) done
    (first_asked g set r ask rest [] fits ∙ ap (λ b. if b then Some (v ∷ []) else after_verdict v (verdicts_by g set rest [])) proved)
