-- What an earlier step found stays when steps are appended: the answers of asks, and the verdicts of signatures.
use Rattle.std.proofs.Common.{◌≡◌, ℕ, zero, suc, ◌+◌, Bool, true, false, ◌&&◌, List, [], ◌∷◌, ◌++◌, Option, None, Some, slice_get, nat_le, if◌then◌else◌, refl, ap, ◌∙◌}
use Rattle.std.proofs.lemmas.Bool.{and_parts}
use Rattle.dns_model.specs.declared.trail.AskRef.{AskRef}
use Rattle.dns_model.specs.declared.trail.AskRef.TheVariants.{Step, TooDeep, TooMany}
use Rattle.dns_model.specs.Records.{Rr, RrSet, Question}
use Rattle.dns_model.specs.Trails.{AskedValue}
use Rattle.dns_model.proofs.TestLemmas.{if_some}
use Rattle.dns_rules.specs.Marks.{Verdict, is_proved, is_skipped, verdict_of}
use Rattle.dns_rules.specs.Marks as marks
use Rattle.dns_rules.specs.Asking.{ask_of}
use Rattle.dns_rules.specs.Derivation.{StepContext, finished_answer, is_ask, verdicts_after, verdicts_asked, verdicts_by}
use Rattle.dns_rules.specs.DerivationParts.{is_ask_for, answer_of, is_judged_ask, after_verdict, if_last}

-- ---- an earlier step

pub slice_get-stays : {X : Type 0} (xs ys : List X) (n : ℕ) (x : X) → slice_get xs n ≡ Some x → slice_get (xs ++ ys) n ≡ Some x
slice_get-stays [] ys n x h = cc
slice_get-stays (y ∷ xs) ys zero x h = h
slice_get-stays (y ∷ xs) ys (suc n) x h = slice_get-stays xs ys n x h

-- the grounds after further steps
abbrev pub later_step_context : StepContext → List AskedValue → StepContext
later_step_context g more = record g { earlier = g.earlier ++ more }

judged_stays : (depth : ℕ) (q : Question) (earlier more : List AskedValue) (n : ℕ) (o : Option AskedValue) → slice_get earlier n ≡ o
    → is_judged_ask depth q o ≡ true → slice_get (earlier ++ more) n ≡ o
judged_stays depth q earlier more n None is h = cc
judged_stays depth q earlier more n (Some step) is h = slice_get-stays earlier more n step is

-- an ask that stands for a question stands for it later, and got the same answer
pub record AskStays (limit : ℕ) (earlier more : List AskedValue) (depth : ℕ) (q : Question) (ask : AskRef) : Type 0 where
  pub asks : is_ask limit (earlier ++ more) depth q ask ≡ true
  pub answer : finished_answer (earlier ++ more) ask ≡ finished_answer earlier ask

pub ask_stays : (limit : ℕ) (earlier more : List AskedValue) (depth : ℕ) (q : Question) (ask : AskRef)
    → is_ask limit earlier depth q ask ≡ true
    → AskStays limit earlier more depth q ask
ask_stays limit earlier more depth q (Step n) h =
    let parts = and_parts (nat_le depth limit) (is_judged_ask depth q (slice_get earlier n)) h in
    let same = judged_stays depth q earlier more n (slice_get earlier n) refl parts.1 in
    record { asks = ap (λ o. nat_le depth limit && is_judged_ask depth q o) same ∙ h; answer = ap answer_of same }
ask_stays limit earlier more depth q TooDeep h = record { asks = h; answer = refl }
ask_stays limit earlier more depth q TooMany h = record { asks = h; answer = refl }

-- the same of the ask of a signature
pub record AskForStays (g : StepContext) (more : List AskedValue) (o : Option Question) (ask : AskRef) : Type 0 where
  pub asks : is_ask_for (later_step_context g more) o ask ≡ true
  pub answer : finished_answer (g.earlier ++ more) ask ≡ finished_answer g.earlier ask

pub ask_for_stays : (g : StepContext) (more : List AskedValue) (o : Option Question) (ask : AskRef) → is_ask_for g o ask ≡ true
    → AskForStays g more o ask
ask_for_stays g more None ask h = cc
ask_for_stays g more (Some q) ask h =
    let stays = ask_stays g.limits.depth g.earlier more (g.depth + 1) q ask h in
    record { asks = stays.asks; answer = stays.answer }

-- ---- the verdicts of signatures

-- the verdicts of the rest, where there are verdicts
pub record SomeAfter (v : Verdict) (o : Option (List Verdict)) (vs : List Verdict) : Type 0 where
  pub rest : List Verdict
  pub found : o ≡ Some rest
  pub whole : v ∷ rest ≡ vs

pub some_after : (v : Verdict) (o : Option (List Verdict)) (vs : List Verdict) → after_verdict v o ≡ Some vs → SomeAfter v o vs
some_after v None vs h = cc
some_after v (Some rest) vs h = record { rest = rest; found = refl; whole = cc }

after_stays : (v : Verdict) (o p : Option (List Verdict)) (vs : List Verdict) → after_verdict v o ≡ Some vs
    → ((rest : List Verdict) → o ≡ Some rest → p ≡ Some rest) → after_verdict v p ≡ Some vs
after_stays v o p vs h stays =
    let some = some_after v o vs h in
    ap (after_verdict v) (stays some.rest some.found) ∙ ap Some some.whole

verdicts_after_stay : (b : Bool) (v : Verdict) (asks : List AskRef) (o p : Option (List Verdict)) (vs : List Verdict)
    → (if b then if_last asks (v ∷ []) else after_verdict v o) ≡ Some vs
    → ((rest : List Verdict) → o ≡ Some rest → p ≡ Some rest) → (if b then if_last asks (v ∷ []) else after_verdict v p) ≡ Some vs
verdicts_after_stay true v asks o p vs h stays = h
verdicts_after_stay false v asks o p vs h stays = after_stays v o p vs h stays

skipped_stays : (b : Bool) (v : Verdict) (o p x y : Option (List Verdict)) (vs : List Verdict)
    → (if b then after_verdict v o else x) ≡ Some vs → ((rest : List Verdict) → o ≡ Some rest → p ≡ Some rest)
    → (x ≡ Some vs → y ≡ Some vs) → (if b then after_verdict v p else y) ≡ Some vs
skipped_stays true v o p x y vs h stays asked = after_stays v o p vs h stays
skipped_stays false v o p x y vs h stays asked = asked h

-- one signature whose ask stays, before others whose verdicts stay
asked_stays : (g : StepContext) (more : List AskedValue) (set : RrSet) (r : Rr) (ask : AskRef) (asks : List AskRef)
    (o p : Option (List Verdict))
    (vs : List Verdict) → verdicts_asked g set r (ask ∷ asks) (λ x. o) ≡ Some vs → ((rest : List Verdict) → o ≡ Some rest → p ≡ Some rest)
    → verdicts_asked (later_step_context g more) set r (ask ∷ asks) (λ x. p) ≡ Some vs
asked_stays g more set r ask asks o p vs h stays =
    let v = verdict_of g.judge set r (finished_answer g.earlier ask) in
    let some = if_some (is_ask_for g (ask_of set r) ask) (verdicts_after v asks (λ x. o)) vs h in
    let ask_stays = ask_for_stays g more (ask_of set r) ask some.0 in
    let kept = verdicts_after_stay (is_proved v) v asks o p vs some.1 stays in
    ap (λ b. if b then verdicts_after (verdict_of g.judge set r (finished_answer (g.earlier ++ more) ask)) asks (λ x. p)
    else None) ask_stays.asks
    ∙ ap (λ a. verdicts_after (verdict_of g.judge set r a) asks (λ x. p)) ask_stays.answer
    ∙ kept

-- the verdicts of signatures stay when steps are appended
pub verdicts_stay : (g : StepContext) (more : List AskedValue) (set : RrSet) (rs : List Rr) (asks : List AskRef) (vs : List Verdict)
    → verdicts_by g set rs asks ≡ Some vs → verdicts_by (later_step_context g more) set rs asks ≡ Some vs
unfolding verdicts_by
verdicts_stay g more set [] asks vs h = h
verdicts_stay g more set (r ∷ rs) [] vs h =
    skipped_stays (is_skipped g.query set r) marks.Failed (verdicts_by g set rs [])
    (verdicts_by (later_step_context g more) set rs []) None None vs h
    (λ rest. verdicts_stay g more set rs [] rest) (λ k. k)
verdicts_stay g more set (r ∷ rs) (ask ∷ asks) vs h =
    skipped_stays (is_skipped g.query set r) marks.Failed (verdicts_by g set rs (ask ∷ asks))
    (verdicts_by (later_step_context g more) set rs (ask ∷ asks))
    (verdicts_asked g set r (ask ∷ asks) (verdicts_by g set rs))
    (verdicts_asked (later_step_context g more) set r (ask ∷ asks) (verdicts_by (later_step_context g more) set rs)) vs h
    (λ rest. verdicts_stay g more set rs (ask ∷ asks) rest)
    (λ k. asked_stays g more set r ask asks (verdicts_by g set rs asks) (verdicts_by (later_step_context g more) set rs asks) vs k
    (λ rest. verdicts_stay g more set rs asks rest))
