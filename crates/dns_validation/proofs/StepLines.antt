-- A step that has ended: its lines follow.
use Rattle.std.proofs.Common.{ℕ, ◌≡◌, ◌==◌, ◌&&◌, Bool, true, List, [], None, Some, refl, sym, ap, subst, ◌∙◌}
use Rattle.std.proofs.lemmas.Bool.{and_from}
use Rattle.dns_model.specs.declared.denial.Denial.{Denial}
use Rattle.dns_model.specs.declared.denial.Denial.TheVariants as denial
use Rattle.dns_model.specs.declared.trail.AskRef.{AskRef}
use Rattle.dns_model.specs.Names.{name_eq}
use Rattle.dns_model.specs.Records.{Rr, Question}
use Rattle.dns_model.specs.Chains.{Judge}
use Rattle.dns_model.specs.SoundAnswers.{Told}
use Rattle.dns_model.specs.Trails.{AskedValue, JudgedSetValue, Records, Fault, Failed, Seen}
use Rattle.dns_model.proofs.SetLemmas.{name_refl, number_refl}
use Rattle.dns_rules.specs.Asking.{Limits, judged_part}
use Rattle.dns_rules.specs.ChainedSets.{ChainedSet, bare}
use Rattle.dns_rules.specs.MarkedSets.{MarkedSet}
use Rattle.dns_rules.specs.Delegations.{ZoneVerdict}
use Rattle.dns_rules.specs.Unsigned.{question_start}
use Rattle.dns_rules.specs.CacheEntries.{EntryValue}
use Rattle.dns_rules.specs.Derivation.{StepContext, search_from, entries_hold, with_entries, is_empty, denial_eq, ending_eq, ending_by, ending_holds, step_holds}
use Rattle.dns_rules.specs.DerivationParts.{step_context_of, is_bare, is_ending, judged_holds}
use Rattle.dns_rules.specs.Outcome.{Outcome, Given, NeedsZone, Denied, outcome_of, outcome_by_zone, foreign_record}
use Rattle.dns_rules.proofs.EndingLemmas.{ending_without, ending_by_search}
use Rattle.dns_rules.proofs.ExtendLemmas.{proof_refl}
use Rattle.dns_flow.specs.Endings.{IsStepEnd, Settled, LeftToZone}
use Rattle.dns_validation.specs.Steps.{judged_step, plain_step, foreign_ending}
use Rattle.dns_validation.specs.Comes.{IsJudgement}

-- a step that heard a fault
pub fault_holds : (j : Judge) (limits : Limits) (cached : List EntryValue) (earlier : List AskedValue) (depth : ℕ)
    (q : Question)
    → step_holds j limits cached earlier (judged_step depth q Fault [] Failed []) ≡ true
unfolding step_holds
fault_holds j limits cached earlier depth q = refl

-- a step that only would have seen, and heard a fault
pub plain_fault_holds : (j : Judge) (limits : Limits) (cached : List EntryValue) (earlier : List AskedValue) (depth : ℕ)
    (q : Question)
    → step_holds j limits cached earlier (plain_step depth q Fault Failed) ≡ true
unfolding step_holds
plain_fault_holds j limits cached earlier depth q = refl

-- and one that has seen records
pub plain_holds : (j : Judge) (limits : Limits) (cached : List EntryValue) (earlier : List AskedValue) (depth : ℕ)
    (q : Question) (told : Told) (empty : Bool)
    → step_holds j limits cached earlier (plain_step depth q (Records told empty) Seen) ≡ true
unfolding step_holds
plain_holds j limits cached earlier depth q told empty = refl

-- it names the record that it names
foreign_refl : (r : Rr) → ending_eq (foreign_ending r) (foreign_ending r) ≡ true
foreign_refl r =
    and_from (name_eq r.owner r.owner) ((r.class == r.class) && (r.rtype == r.rtype)) (name_refl r.owner)
    (and_from (r.class == r.class) (r.rtype == r.rtype) (number_refl r.class) (number_refl r.rtype))

-- a step with a record of another class
pub foreign_holds : (j : Judge) (limits : Limits) (cached : List EntryValue) (earlier : List AskedValue) (depth : ℕ)
    (q : Question) (told : Told) (empty : Bool) (r : Rr)
    → foreign_record q told ≡ Some r
    → step_holds j limits cached earlier (judged_step depth q (Records told empty) [] (foreign_ending r) []) ≡ true
unfolding step_holds
foreign_holds j limits cached earlier depth q told empty r found =
    let step = judged_step depth q (Records told empty) [] (foreign_ending r) [] in
    ap (judged_holds (step_context_of j limits cached earlier step) step told) found
    ∙ and_from (ending_eq (foreign_ending r) (foreign_ending r)) (is_bare step) (foreign_refl r) refl

denial_refl : (d : Denial) → denial_eq d d ≡ true
denial_refl denial.None = refl
denial_refl (denial.Absent p) = proof_refl p
denial_refl (denial.Expanded p) = proof_refl p

-- a step ends as its judged sets make it end
ends_so : (o : Outcome) → is_ending o (ending_by o) ≡ true
ends_so (Given d) = denial_refl d
ends_so NeedsZone = refl
ends_so (Denied p) = proof_refl p

-- it ends as what they come to makes it end
concluded_ends : (g : StepContext) (step : AskedValue) (told : Told) (sets : List MarkedSet) (o : Outcome)
    (excuse : List AskRef) → step.query ≡ g.query
    → step.ending ≡ ending_by o → step.excuse ≡ excuse → IsStepEnd g told sets o excuse
    → ending_holds g step told (outcome_of g.limits g.query told sets) ≡ true
concluded_ends g step told sets o excuse same ends names (Settled is settled none) =
    let by = outcome_of g.limits g.query told sets in
    ending_without g step told by (λ h. settled (is ∙ h))
    (ap (is_ending by) ends ∙ ap (λ x. is_ending by (ending_by x)) is ∙ ends_so by) (ap is_empty (names ∙ none))
concluded_ends g step told sets o excuse same ends names (LeftToZone zone left found is) =
    let q = g.query in
    let by = outcome_by_zone q told zone in
    let here : is_ending by step.ending ≡ true =
    ap (is_ending by) ends ∙ ap (λ x. is_ending by (ending_by x)) is ∙ ends_so by in
    let there : search_from g q.class (question_start q) step.excuse ≡ Some zone =
    ap (search_from g q.class (question_start q)) names ∙ found in
    ap (ending_holds g step told) left ∙ searched_ends g step told zone q same there here
  where
    searched_ends : (g : StepContext) (step : AskedValue) (told : Told) (zone : ZoneVerdict) (q : Question)
        → step.query ≡ q
        → search_from g q.class (question_start q) step.excuse ≡ Some zone
        → is_ending (outcome_by_zone q told zone) step.ending ≡ true
        → ending_holds g step told NeedsZone ≡ true
    searched_ends g step told zone q same found ends =
        let Found : Question → Type 0 = λ x. search_from g x.class (question_start x) step.excuse ≡ Some zone in
        let Ends : Question → Type 0 = λ x. is_ending (outcome_by_zone x told zone) step.ending ≡ true in
        ending_by_search g step told zone (subst Found (sym same) found) (subst Ends (sym same) ends)

module _ (j : Judge) (limits : Limits) (cached : List EntryValue) (earlier : List AskedValue) (depth : ℕ) (q : Question)
    (told : Told) (empty : Bool) (sets : List ChainedSet) (entries : List JudgedSetValue) (o : Outcome) where
  -- a step whose sets are judged
  pub judged_step_holds : (excuse : List AskRef) → foreign_record q told ≡ None
      → IsJudgement
      (record { judge = j; limits = limits; cached = cached; earlier = earlier; query = q; depth = depth })
      (judged_part depth told) sets entries
      → IsStepEnd
      (record { judge = j; limits = limits; cached = cached; earlier = earlier; query = q; depth = depth }) told
      (bare sets) o excuse
      → step_holds j limits cached earlier
      (judged_step depth q (Records told empty) entries (ending_by o) excuse) ≡ true
  unfolding step_holds
  judged_step_holds excuse own judged concluded =
      let step = judged_step depth q (Records told empty) entries (ending_by o) excuse in
      let g = step_context_of j limits cached earlier step in
      let part = judged_part depth told in
      let ends : ending_holds g step told (outcome_of limits q told (with_entries part entries)) ≡ true =
      ap (λ xs. ending_holds g step told (outcome_of limits q told xs)) (sym judged.same)
      ∙ concluded_ends g step told (bare sets) o excuse refl refl refl concluded in
      ap (judged_holds g step told) own
      ∙ and_from (entries_hold g part entries)
      (ending_holds g step told (outcome_of limits q told (with_entries part entries))) judged.hold ends
