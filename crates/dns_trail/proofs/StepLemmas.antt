-- The steps of a trail, one after another, and what each comes to.
use Rattle.std.proofs.Common.{◌≡◌, ℕ, ◌+◌, ◌<◌, ◌≤◌, Bool, true, false, ◌&&◌, List, [], ◌∷◌, ◌++◌, length, map, take, drop, get_or, Option, None, Some, if◌then◌else◌, refl, sym, ap, ◌∙◌, subst}
use Rattle.std.specs.Option.{option_map_or}
use Rattle.std.proofs.lemmas.Bool.{and_parts}
use Rattle.std.proofs.lemmas.List.{drop_all, drop_more, map-append, take_more}
use Rattle.dns_model.specs.Chains.{Judge}
use Rattle.dns_model.specs.Records.{Rr}
use Rattle.dns_model.specs.SoundAnswers.{Told, PlacedSet}
use Rattle.dns_model.specs.Trails.{AskedValue, EndingValue, Fault, Answered, Denied, Foreign, Failed, Seen}
use Rattle.dns_model.proofs.Lists.{empty_is}
use Rattle.dns_rules.specs.Asking.{Limits, judged_part}
use Rattle.dns_rules.specs.CacheEntries.{EntryValue}
use Rattle.dns_rules.specs.Derivation.{StepContext, ending_eq, ending_holds, ends_bare, entries_hold, if_answered, judged_sets, step_holds, steps_hold, told_in, with_entries}
use Rattle.dns_rules.specs.DerivationParts.{step_context_of, is_bare, judged_holds, step_holds_by}
use Rattle.dns_rules.specs.MarkedSets.{MarkedSet}
use Rattle.dns_rules.specs.Outcome.{outcome_of, foreign_record}
use Rattle.dns_rules.proofs.ExtendLemmas.{without_entries}
use Rattle.dns_trail.specs.Ended.{EndedValue, ended_of, nothing, nothing_if, some_if}
use Rattle.dns_trail.specs.Endings.{ending_fits}
use Rattle.dns_trail.proofs.EndingLemmas.{by_parts}

-- ---- a step nothing of which is judged

told_none : (depth : ℕ) (o : Option Told) → option_map_or (λ told. with_entries (judged_part depth told) []) o [] ≡ []
told_none depth None = refl
told_none depth (Some told) = without_entries (judged_part depth told)

sets_none : (step : AskedValue) → step.sets ≡ [] → judged_sets step ≡ []
sets_none step none =
    ap (λ xs. option_map_or (λ told. with_entries (judged_part step.depth told) xs) (told_in step.reply) []) none
    ∙ told_none step.depth (told_in step.reply)

some_same : (b : Bool) (x y : EndedValue) → (b ≡ true → x ≡ y) → some_if b x ≡ some_if b y
some_same true x y h = ap Some (h refl)
some_same false x y h = refl

ended_none : (step : AskedValue) → if_answered step.ending [] ≡ None → step.sets ≡ [] → nothing ≡ ended_of step
ended_none step unanswered none =
    let E : Option (List MarkedSet) → List MarkedSet → EndedValue = λ a s. record { answer = a; sets = s } in
    let sets = sets_none step none in
    sym (ap (λ xs. E (if_answered step.ending xs) xs) sets ∙ ap (λ a. E a []) unanswered)

-- an ending that isn't an answer
bare_end : (e : EndingValue) (step : AskedValue) → (ending_eq e step.ending ≡ true → if_answered step.ending [] ≡ None)
    → nothing_if (ending_eq e step.ending) step ≡ some_if (ends_bare e step) (ended_of step)
bare_end e step unanswered =
    some_same (ending_eq e step.ending && is_bare step) nothing (ended_of step)
    (λ h. let parts = and_parts (ending_eq e step.ending) (is_bare step) h in
    ended_none step (unanswered parts.0) (empty_is step.sets (and_parts _ _ parts.1).0))

failed_end : (e : EndingValue) → ending_eq Failed e ≡ true → if_answered e [] ≡ None
failed_end (Answered d) h = cc
failed_end (Denied proof) h = refl
failed_end (Foreign owner class rtype) h = refl
failed_end Failed h = refl
failed_end Seen h = refl

seen_end : (e : EndingValue) → ending_eq Seen e ≡ true → if_answered e [] ≡ None
seen_end (Answered d) h = cc
seen_end (Denied proof) h = refl
seen_end (Foreign owner class rtype) h = refl
seen_end Failed h = refl
seen_end Seen h = refl

foreign_end : (r : Rr) (e : EndingValue) → ending_eq (Foreign r.owner r.class r.rtype) e ≡ true
    → if_answered e [] ≡ None
foreign_end r (Answered d) h = cc
foreign_end r (Denied proof) h = refl
foreign_end r (Foreign owner class rtype) h = refl
foreign_end r Failed h = refl
foreign_end r Seen h = refl

-- a fault
pub fault_ends : (g : StepContext) (step : AskedValue) (b : Bool) → b ≡ ending_eq Failed step.ending
    → step.reply ≡ Fault
    → nothing_if b step ≡ some_if (step_holds_by g step step.reply) (ended_of step)
fault_ends g step b is fault =
    ap (λ x. nothing_if x step) is ∙ bare_end Failed step (failed_end step.ending)
    ∙ ap (λ r. some_if (step_holds_by g step r) (ended_of step)) (sym fault)

-- a reply that was only seen
pub seen_ends : (g : StepContext) (step : AskedValue) (b : Bool) (told : Told) → b ≡ ending_eq Seen step.ending
    → told_in step.reply ≡ Some told → step.judged ≡ false
    → nothing_if b step ≡ some_if (step_holds_by g step step.reply) (ended_of step)
seen_ends g step b told is heard plain =
    ap (λ x. nothing_if x step) is ∙ bare_end Seen step (seen_end step.ending)
    ∙ ap (λ x. some_if x (ended_of step))
    (sym (ap (λ o. option_map_or (λ t. if step.judged then judged_holds g step t (foreign_record step.query t)
    else ends_bare Seen step) o (ends_bare Failed step)) heard
    ∙ ap (λ x. if x then judged_holds g step told (foreign_record step.query told) else ends_bare Seen step) plain))

-- a reply that was to be judged
pub judged_ends : (g : StepContext) (step : AskedValue) (told : Told) (o : Option EndedValue)
    → told_in step.reply ≡ Some told → step.judged ≡ true
    → o ≡ some_if (judged_holds g step told (foreign_record step.query told)) (ended_of step)
    → o ≡ some_if (step_holds_by g step step.reply) (ended_of step)
judged_ends g step told o heard judged is =
    is ∙ ap (λ x. some_if x (ended_of step))
    (sym (ap (λ h. option_map_or (λ t. if step.judged then judged_holds g step t (foreign_record step.query t)
    else ends_bare Seen step) h (ends_bare Failed step)) heard
    ∙ ap (λ x. if x then judged_holds g step told (foreign_record step.query told) else ends_bare Seen step) judged))

-- a record of another class
pub foreign_ends : (g : StepContext) (step : AskedValue) (told : Told) (b : Bool) (r : Rr) (o : Option Rr)
    → b ≡ ending_eq (Foreign r.owner r.class r.rtype) step.ending → Some r ≡ o
    → nothing_if b step ≡ some_if (judged_holds g step told o) (ended_of step)
foreign_ends g step told b r o is found =
    ap (λ x. nothing_if x step) is ∙ bare_end (Foreign r.owner r.class r.rtype) step (foreign_end r step.ending)
    ∙ ap (λ x. some_if (judged_holds g step told x) (ended_of step)) found

-- ---- a step that is judged

-- by its entries and its ending
both_hold : StepContext → AskedValue → Told → Bool
both_hold g step told =
    entries_hold g (judged_part step.depth told) step.sets
    && ending_holds g step told (outcome_of g.limits step.query told (with_entries (judged_part step.depth told) step.sets))

no_entries : (b : Bool) (x : List MarkedSet) → None ≡ some_if b x → b ≡ false
no_entries true x h = cc
no_entries false x h = refl

pub entries_fail : (g : StepContext) (step : AskedValue) (told : Told) (placed : List PlacedSet) (o : Option Rr)
    → None ≡ o → placed ≡ judged_part step.depth told
    → None ≡ some_if (entries_hold g placed step.sets) (with_entries placed step.sets)
    → None ≡ some_if (judged_holds g step told o) (ended_of step)
unfolding both_hold
entries_fail g step told placed o none is fails =
    let P : List PlacedSet → Type 0 = λ ps. None ≡ some_if (entries_hold g ps step.sets) (with_entries ps step.sets) in
    let no = no_entries (entries_hold g (judged_part step.depth told) step.sets) _ (subst P is fails) in
    sym (ap (λ b. some_if b (ended_of step))
    (ap (λ x. judged_holds g step told x) (sym none)
    ∙ ap (λ b. b && ending_holds g step told (outcome_of g.limits step.query told (with_entries (judged_part step.depth told) step.sets)))
    no))

are_entries : (b : Bool) (sets x : List MarkedSet) → Some sets ≡ some_if b x → (b ≡ true) × (sets ≡ x)
are_entries true sets x h = (refl, cc)
are_entries false sets x h = cc

-- its entries hold, and its ending or not
pub entries_given : (g : StepContext) (step : AskedValue) (told : Told) (placed : List PlacedSet)
    (sets : List MarkedSet) (o : Option Rr) (q : _) (b : Bool)
    → None ≡ o → placed ≡ judged_part step.depth told
    → Some sets ≡ some_if (entries_hold g placed step.sets) (with_entries placed step.sets)
    → g.query ≡ step.query → q ≡ step.query
    → b ≡ ending_fits g told (outcome_of g.limits q told sets) step.ending step.excuse
    → judged_holds g step told o ≡ b
entries_given g step told placed sets o q b none is given own asks ends =
    let P : List PlacedSet → Type 0 =
    λ ps. Some sets ≡ some_if (entries_hold g ps step.sets) (with_entries ps step.sets) in
    let hold =
    are_entries (entries_hold g (judged_part step.depth told) step.sets) sets
    (with_entries (judged_part step.depth told) step.sets) (subst P is given) in
    ap (judged_holds g step told) (sym none)
    ∙ ap (λ x. x && ending_holds g step told (outcome_of g.limits step.query told (with_entries (judged_part step.depth told) step.sets)))
    hold.0
    ∙ ap (λ xs. ending_holds g step told (outcome_of g.limits step.query told xs)) (sym hold.1)
    ∙ ap (λ x. ending_holds g step told (outcome_of g.limits x told sets)) (sym asks)
    ∙ sym (by_parts g step told (outcome_of g.limits q told sets) own) ∙ sym ends

pub ended_given : (g : StepContext) (step : AskedValue) (told : Told) (placed : List PlacedSet) (sets : List MarkedSet)
    → told_in step.reply ≡ Some told → placed ≡ judged_part step.depth told
    → Some sets ≡ some_if (entries_hold g placed step.sets) (with_entries placed step.sets)
    → (let e : EndedValue = record { answer = if_answered step.ending sets; sets = sets } in e) ≡ ended_of step
ended_given g step told placed sets heard is given =
    let P : List PlacedSet → Type 0 =
    λ ps. Some sets ≡ some_if (entries_hold g ps step.sets) (with_entries ps step.sets) in
    let hold =
    are_entries (entries_hold g (judged_part step.depth told) step.sets) sets
    (with_entries (judged_part step.depth told) step.sets) (subst P is given) in
    let E : List MarkedSet → EndedValue = λ s. record { answer = if_answered step.ending s; sets = s } in
    let own : sets ≡ judged_sets step =
    hold.1 ∙ sym (ap (λ x. option_map_or (λ t. with_entries (judged_part step.depth t) step.sets) x []) heard) in
    ap E own

-- ---- steps

-- what is left decides
pub record AreSteps (j : Judge) (limits : Limits) (cached : List EntryValue) (steps : List AskedValue) (n : ℕ)
    (ended : List EndedValue) : Type 0 where
  pub known : ended ≡ map ended_of (take n steps)
  pub hold : steps_hold j limits cached (take n steps) (drop n steps) ≡ steps_hold j limits cached [] steps

pub steps_first : (j : Judge) (limits : Limits) (cached : List EntryValue) (steps : List AskedValue)
    (ended : List EndedValue) → ended ≡ []
    → AreSteps j limits cached steps 0 ended
steps_first j limits cached steps ended none = record { known = none; hold = refl }

one_more : (j : Judge) (limits : Limits) (cached : List EntryValue) (steps : List AskedValue) (n : ℕ)
    (step : AskedValue) → n < length steps
    → step ≡ get_or steps n step
    → steps_hold j limits cached (take n steps)
    (drop n steps) ≡ (step_holds j limits cached (take n steps) step
    && steps_hold j limits cached (take (n + 1) steps) (drop (n + 1) steps))
unfolding steps_hold
one_more j limits cached steps n step lt is =
    let front : take (n + 1) steps ≡ take n steps ++ step ∷ [] =
    take_more steps n step lt ∙ ap (λ x. take n steps ++ x ∷ []) (sym is) in
    ap (steps_hold j limits cached (take n steps)) (drop_more steps n step lt)
    ∙ ap (λ x. steps_hold j limits cached (take n steps) (x ∷ drop (n + 1) steps)) (sym is)
    ∙ ap (λ xs. step_holds j limits cached (take n steps) step && steps_hold j limits cached xs (drop (n + 1) steps)) (sym front)

held_by : (j : Judge) (limits : Limits) (cached : List EntryValue) (earlier : List AskedValue) (step : AskedValue)
    → step_holds j limits cached earlier step ≡ step_holds_by
    (step_context_of j limits cached earlier step) step step.reply
unfolding step_holds
held_by j limits cached earlier step = refl

no_end : (b : Bool) (x : EndedValue) → None ≡ some_if b x → b ≡ false
no_end true x h = cc
no_end false x h = refl

pub steps_fail : (j : Judge) (limits : Limits) (cached : List EntryValue) (steps : List AskedValue) (n : ℕ)
    (ended : List EndedValue)
    (step : AskedValue)
    (g : StepContext)
    → AreSteps j limits cached steps n ended → n < length steps → step ≡ get_or steps n step
    → g ≡ step_context_of j limits cached (take n steps) step
    → None ≡ some_if (step_holds_by g step step.reply) (ended_of step) → false ≡ steps_hold j limits cached [] steps
steps_fail j limits cached steps n ended step g so_far lt is own fails =
    let no : step_holds j limits cached (take n steps) step ≡ false =
    held_by j limits cached (take n steps) step ∙ ap (λ x. step_holds_by x step step.reply) (sym own)
    ∙ no_end (step_holds_by g step step.reply) (ended_of step) fails in
    sym (ap (λ b. b && steps_hold j limits cached (take (n + 1) steps) (drop (n + 1) steps)) no)
    ∙ sym (one_more j limits cached steps n step lt is) ∙ so_far.hold

an_end : (b : Bool) (e x : EndedValue) → Some e ≡ some_if b x → (b ≡ true) × (e ≡ x)
an_end true e x h = (refl, cc)
an_end false e x h = cc

pub steps_next : (j : Judge) (limits : Limits) (cached : List EntryValue) (steps : List AskedValue) (n : ℕ)
    (ended : List EndedValue)
    (step : AskedValue) (g : StepContext) (e : EndedValue)
    → AreSteps j limits cached steps n ended → n < length steps → step ≡ get_or steps n step
    → g ≡ step_context_of j limits cached (take n steps) step
    → Some e ≡ some_if (step_holds_by g step step.reply) (ended_of step)
    → AreSteps j limits cached steps (n + 1) (ended ++ e ∷ [])
steps_next j limits cached steps n ended step g e so_far lt is own given =
    let one = an_end (step_holds_by g step step.reply) e (ended_of step) given in
    let front : take (n + 1) steps ≡ take n steps ++ step ∷ [] =
    take_more steps n step lt ∙ ap (λ x. take n steps ++ x ∷ []) (sym is) in
    let yes : step_holds j limits cached (take n steps) step ≡ true =
    held_by j limits cached (take n steps) step ∙ ap (λ x. step_holds_by x step step.reply) (sym own) ∙ one.0 in
    record {
      known = ap (λ xs. xs ++ e ∷ []) so_far.known ∙ ap (λ x. map ended_of (take n steps) ++ x ∷ []) one.1
          ∙ sym (map-append ended_of (take n steps) (step ∷ [])) ∙ ap (map ended_of) (sym front);
      hold =
          sym (ap (λ b. b && steps_hold j limits cached (take (n + 1) steps) (drop (n + 1) steps)) yes)
          ∙ sym (one_more j limits cached steps n step lt is) ∙ so_far.hold;
    }

pub steps_all : (j : Judge) (limits : Limits) (cached : List EntryValue) (steps : List AskedValue) (n : ℕ)
    (ended : List EndedValue)
    → AreSteps j limits cached steps n ended → length steps ≤ n
    → true ≡ steps_hold j limits cached [] steps
unfolding steps_hold
steps_all j limits cached steps n ended so_far past =
    sym (ap (steps_hold j limits cached (take n steps)) (drop_all n steps past)) ∙ so_far.hold
