-- The verdicts of signatures, one after another.
use Rattle.std.proofs.Common.{◌≡◌, Bool, true, false, List, [], ◌∷◌, ◌++◌, Option, None, Some, if◌then◌else◌, refl, sym, ap, ◌∙◌, append_assoc, append-nil}
use Rattle.dns_model.specs.declared.trail.AskRef.{AskRef}
use Rattle.dns_model.specs.Records.{Rr, RrSet}
use Rattle.dns_rules.specs.Asking.{ask_of}
use Rattle.dns_rules.specs.Derivation.{StepContext, finished_answer, is_empty, verdicts_by, verdicts_after, verdicts_asked}
use Rattle.dns_rules.specs.DerivationParts.{after_verdict, is_ask_for, if_last}
use Rattle.dns_rules.specs.Marks.{Verdict, is_skipped, is_proved, verdict_of}
use Rattle.dns_rules.specs.Marks as marks
use Rattle.dns_trail.specs.Ended.{some_if}
use Rattle.dns_trail.specs.Trying.{asked_by, behind, tried_by}

-- after one verdict
after_try : Option (Verdict × List AskRef) → (List AskRef → Option (List Verdict)) → Option (List Verdict)
after_try None rest = None
after_try (Some t) rest = verdicts_after t.0 t.1 rest

asked_step : (b : Bool) (v : Verdict) (left : List AskRef) (rest : List AskRef → Option (List Verdict))
    → (if b then verdicts_after v left rest else None) ≡ after_try (if b then Some (v, left) else None) rest
unfolding after_try
asked_step true v left rest = refl
asked_step false v left rest = refl

asked_all : (g : StepContext) (set : RrSet) (r : Rr) (asks : List AskRef) (rest : List AskRef → Option (List Verdict))
    → verdicts_asked g set r asks rest ≡ after_try (asked_by g set r asks) rest
unfolding after_try
asked_all g set r [] rest = refl
asked_all g set r (ask ∷ left) rest =
    asked_step (is_ask_for g (ask_of set r) ask) (verdict_of g.judge set r (finished_answer g.earlier ask)) left rest

skip_step : (b : Bool) (asks : List AskRef) (o : Option (Verdict × List AskRef))
    (rest : List AskRef → Option (List Verdict))
    → (if b then after_verdict marks.Failed (rest asks) else after_try o rest) ≡ after_try (if b then Some (marks.Failed, asks) else o) rest
unfolding after_try
skip_step true asks o rest = refl
skip_step false asks o rest = refl

-- the verdicts of signatures are that of the first and those after it
step : (g : StepContext) (set : RrSet) (r : Rr) (rs : List Rr) (asks : List AskRef)
    → verdicts_by g set (r ∷ rs) asks ≡ after_try (tried_by g set r asks) (verdicts_by g set rs)
unfolding verdicts_by
step g set r rs asks =
    ap (λ o. if is_skipped g.query set r then after_verdict marks.Failed (verdicts_by g set rs asks) else o)
    (asked_all g set r asks (verdicts_by g set rs))
    ∙ skip_step (is_skipped g.query set r) asks (asked_by g set r asks) (verdicts_by g set rs)

-- ---- behind others

pub behind_none : (o : Option (List Verdict)) → behind [] o ≡ o
behind_none None = refl
behind_none (Some vs) = refl

-- the first ask isn't that of the first signature
pub tried_none : (g : StepContext) (set : RrSet) (done : List Verdict) (sigs : List Rr) (r : Rr) (rs : List Rr)
    (asks : List AskRef) (whole : Option (List Verdict))
    → behind done (verdicts_by g set sigs asks) ≡ whole → sigs ≡ r ∷ rs → tried_by g set r asks ≡ None → None ≡ whole
unfolding after_try
tried_none g set done sigs r rs asks whole so_far first none =
    sym (ap (λ o. behind done (after_try o (verdicts_by g set rs))) none)
    ∙ sym (ap (behind done) (ap (λ xs. verdicts_by g set xs asks) first ∙ step g set r rs asks)) ∙ so_far

last_step : (b : Bool) (done : List Verdict) (v : Verdict)
    → behind done (if b then Some (v ∷ []) else None) ≡ some_if b (done ++ v ∷ [])
last_step true done v = refl
last_step false done v = refl

more_step : (done : List Verdict) (v : Verdict) (o : Option (List Verdict))
    → behind (done ++ v ∷ []) o ≡ behind done (after_verdict v o)
more_step done v None = refl
more_step done v (Some vs) = ap Some (append_assoc done (v ∷ []) vs)

module _ (g : StepContext) (set : RrSet) (done : List Verdict) where
  -- the first signature proves the set
  pub tried_proved : (sigs : List Rr) (r : Rr) (rs : List Rr) (asks : List AskRef) (whole : Option (List Verdict))
      (v : Verdict) (left : List AskRef)
      → behind done (verdicts_by g set sigs asks) ≡ whole → sigs ≡ r ∷ rs → tried_by g set r asks ≡ Some (v, left)
      → is_proved v ≡ true
      → some_if (is_empty left) (done ++ v ∷ []) ≡ whole
  unfolding after_try
  tried_proved sigs r rs asks whole v left so_far first tried proved =
      sym (last_step (is_empty left) done v)
      ∙ sym
      (ap (λ b. behind done (if b then if_last left (v ∷ []) else after_verdict v (verdicts_by g set rs left))) proved)
      ∙ sym (ap (λ o. behind done (after_try o (verdicts_by g set rs))) tried)
      ∙ sym (ap (behind done) (ap (λ xs. verdicts_by g set xs asks) first ∙ step g set r rs asks)) ∙ so_far

  -- it doesn't
  pub tried_more : (sigs : List Rr) (r : Rr) (rs : List Rr) (asks : List AskRef) (whole : Option (List Verdict))
      (v : Verdict) (left : List AskRef)
      → behind done (verdicts_by g set sigs asks) ≡ whole → sigs ≡ r ∷ rs → tried_by g set r asks ≡ Some (v, left)
      → is_proved v ≡ false
      → behind (done ++ v ∷ []) (verdicts_by g set rs left) ≡ whole
  unfolding after_try
  tried_more sigs r rs asks whole v left so_far first tried failed =
      more_step done v (verdicts_by g set rs left)
      ∙ sym
      (ap (λ b. behind done (if b then if_last left (v ∷ []) else after_verdict v (verdicts_by g set rs left))) failed)
      ∙ sym (ap (λ o. behind done (after_try o (verdicts_by g set rs))) tried)
      ∙ sym (ap (behind done) (ap (λ xs. verdicts_by g set xs asks) first ∙ step g set r rs asks)) ∙ so_far

all_step : (b : Bool) (done : List Verdict) → some_if b done ≡ behind done (if b then Some [] else None)
all_step true done = ap Some (sym (append-nil done))
all_step false done = refl

-- no signature is left
pub tried_all : (g : StepContext) (set : RrSet) (done : List Verdict) (sigs : List Rr) (asks : List AskRef)
    (whole : Option (List Verdict))
    → behind done (verdicts_by g set sigs asks) ≡ whole → sigs ≡ [] → some_if (is_empty asks) done ≡ whole
unfolding verdicts_by
tried_all g set done sigs asks whole so_far none =
    all_step (is_empty asks) done ∙ sym (ap (λ xs. behind done (verdicts_by g set xs asks)) none) ∙ so_far

-- a signature that asks, by the answer to its ask
pub tried_asked : (g : StepContext) (set : RrSet) (r : Rr) (asks : List AskRef) (ask : AskRef) (left : List AskRef)
    (v : Verdict)
    → is_skipped g.query set r ≡ false → asks ≡ ask ∷ left → is_ask_for g (ask_of set r) ask ≡ true
    → v ≡ verdict_of g.judge set r (finished_answer g.earlier ask) → Some (v, left) ≡ tried_by g set r asks
tried_asked g set r asks ask left v kept is own same =
    ap (λ x. Some (x, left)) same
    ∙ sym (ap (λ b. if b then Some (verdict_of g.judge set r (finished_answer g.earlier ask), left) else None) own)
    ∙ sym (ap (asked_by g set r) is)
    ∙ sym (ap (λ b. if b then Some (marks.Failed, asks) else asked_by g set r asks) kept)
