-- The last step of a trail: it follows from the steps before it, and ends a derivation whose steps are the sends of
-- the call.
use Rattle.std.proofs.Common.{◌≡◌, ◌∙◌, true, List, [], ◌∷◌, ◌++◌, map, drop, Option, None, Some, refl, sym, ap, subst, arith}
use Rattle.std.proofs.lemmas.Bool.{and_parts}
use Rattle.dns_model.specs.declared.denial.Denial.{Denial}
use Rattle.dns_model.specs.Records.{MessageValue}
use Rattle.dns_model.specs.SoundAnswers.{PlacedSet, told_by, placed_sets, Sound}
use Rattle.dns_model.specs.Trails.{JudgedSetValue, EndingValue, Records}
use Rattle.dns_rules.specs.Asking.{effective, judged_part}
use Rattle.dns_rules.specs.ChainedSets.{bare, finished}
use Rattle.dns_rules.specs.Derivation.{StepContext, with_entries, ending_by, step_holds, entries_hold, in_send_order}
use Rattle.dns_rules.specs.DerivationParts.{steps_at}
use Rattle.dns_rules.specs.MarkedSets.{placed_of}
use Rattle.dns_rules.specs.Marking.{cleared_message, marked_message, marked_told}
use Rattle.dns_rules.proofs.ChainedLemmas.{judged_part-top}
use Rattle.dns_rules.proofs.SoundLemmas.{sound_of_sets}
use Rattle.dns_rules.proofs.DerivationLemmas.{top_step_is, top_derivation, top_counts, top_sent}
use Rattle.dns_rules.proofs.DerivedLemmas.{derivation_depths, derivation_sent}
use Rattle.dns_handle.specs.declared.handle.DnsHandle as handle
use Rattle.dns_validation.specs.Received.{received_message, says_none}
use Rattle.dns_validation.specs.Steps.{top_of, Findings, trail_of}
use Rattle.dns_validation.specs.Comes.{top_context}
use Rattle.dns_validation.proofs.StepLines.{judged_step_holds}
use Rattle.dns_lookup.specs.Calls.{Call, limits_of_call, ask_of_call, first_ask_of_call, terms_of_call}
use Rattle.dns_lookup.specs.Sends.{SendOf, SendsAlong, SendsFrom}
use Rattle.dns_lookup.specs.LookupAnswers.{IsSoundAnswer, IsTrail, HasMarksOfTrail}
use Rattle.dns_lookup.specs.Answering.{Found}
use Rattle.dns_lookup.specs.LookupParts.{told_of, heard_told}
use Rattle.dns_lookup.proofs.AlongLemmas.{first_from, first_rose}

-- ---- the last step

none_some : (m : MessageValue) → (let o : Option MessageValue = None in o) ≡ Some m → ⊥
none_some m h = cc

-- the first ask, as the last step keeps it
top_send : {H : Type 0} (meanings : handle.Ghosts H) (call : Call H) (found : Findings) (ending : EndingValue)
    (f : Found meanings call found)
    → SendOf (first_ask_of_call meanings call) call.old
    (top_of call.query (told_by found.message) found.empty found.entries ending found.excuse) f.middle
top_send meanings call found ending f = record {
  reply = f.reply;
  made = f.made;
  heard = ap (λ m. Records (told_by m) found.empty) f.cleared ∙ ap (Records (told_by (cleared_message f.from))) f.empty
      ∙ sym (ap (λ o. heard_told (says_none f.reply) (told_of o)) f.received);
  remembered = λ is. none_some f.from (sym (ap received_message is) ∙ f.received);
}

-- ---- the trail

-- the trail of what was found, and its last step
pub record TrailOf {H : Type 0} (meanings : handle.Ghosts H) (call : Call H) (found : Findings)
    (ending : EndingValue) : Type 0 where
  pub is : IsTrail meanings call (trail_of call.query found ending) ending
  pub top : is.top ≡ top_of call.query (told_by found.message) found.empty found.entries ending found.excuse

pub found_trail : {H : Type 0} (meanings : handle.Ghosts H) (call : Call H) (found : Findings) (ending : EndingValue)
    → Found meanings call found
    → ending ≡ ending_by found.outcome → TrailOf meanings call found ending
found_trail meanings call found ending f ends =
    let told = told_by found.message in
    let step = top_of call.query told found.empty found.entries ending found.excuse in
    let trail = found.steps ++ step ∷ [] in
    let limits = limits_of_call call in
    let ended : step_holds call.judge (effective limits) f.cached found.steps
    (top_of call.query told found.empty found.entries (ending_by found.outcome) found.excuse) ≡ true =
    judged_step_holds call.judge
    (effective limits) f.cached found.steps 0 call.query told found.empty found.sets found.entries found.outcome
    found.excuse f.own f.judged f.concluded in
    let holds : step_holds call.judge (effective limits) f.cached found.steps step ≡ true =
    ap (λ e. step_holds call.judge (effective limits) f.cached found.steps
    (top_of call.query told found.empty found.entries e found.excuse)) ends ∙ ended in
    let derived =
    top_derivation call.judge limits f.cached found.steps step f.sends
    (record { part = f.part; holds = holds; top = refl; few = f.few }) in
    let along : SendsFrom (first_ask_of_call meanings call) (ask_of_call meanings call) call.old
    (step ∷ steps_at found.steps (Some f.part.order)) call.new =
    (f.middle, top_send meanings call found ending f, f.along) in
    let walked : SendsFrom (first_ask_of_call meanings call) (ask_of_call meanings call) call.old
    (in_send_order trail) call.new =
    subst (λ steps. SendsFrom (first_ask_of_call meanings call) (ask_of_call meanings call) call.old steps call.new)
    (sym (top_sent call.judge (effective limits) f.cached found.steps step f.sends f.part)) along in
    let counts = top_counts call.judge (effective limits) f.cached found.steps step f.sends f.part in
    record {
      is = record {
        cached = f.cached;
        kept = f.kept;
        derived = derived;
        top = step;
        last = top_step_is found.steps step;
        query = refl;
        ends = refl;
        few = omega (arith, counts, f.few);
        shallow = derivation_depths call.judge limits f.cached trail derived;
        each = derivation_sent call.judge limits f.cached trail derived;
        walked = walked;
        from = first_from meanings call call.old (in_send_order trail) walked;
        faults = first_rose meanings call call.old (in_send_order trail) walked;
      };
      top = refl;
    }

-- the marks of an answer are those of its trail
pub found_marks : {H : Type 0} (meanings : handle.Ghosts H) (call : Call H) (found : Findings) (d : Denial)
    (ending : EndingValue) → Found meanings call found
    → HasMarksOfTrail call.now (finished call.now found.sets found.message d (trail_of call.query found ending))
found_marks meanings call found d ending f =
    let told = told_by found.message in
    record {
      top = top_of call.query told found.empty found.entries ending found.excuse;
      told = told;
      empty = found.empty;
      last = top_step_is found.steps (top_of call.query told found.empty found.entries ending found.excuse);
      heard = refl;
      marked = ap (λ sets. marked_told call.now sets told) f.judged.same;
    }

-- ---- the answer is sound

-- the sets that entries are of
placed_with : (g : StepContext) (ps : List PlacedSet) (es : List JudgedSetValue) → entries_hold g ps es ≡ true
    → map placed_of (with_entries ps es) ≡ ps
unfolding entries_hold
placed_with g [] [] h = refl
placed_with g [] (e ∷ es) h = cc
placed_with g (p ∷ ps) [] h = cc
placed_with g (p ∷ ps) (e ∷ es) h = ap (λ xs. p ∷ xs) (placed_with g ps es ((and_parts _ (entries_hold g ps es) h).1))

-- the judged sets are those of the message
pub found_grouped : {H : Type 0} (meanings : handle.Ghosts H) (call : Call H) (found : Findings)
    → Found meanings call found
    → map placed_of (bare found.sets) ≡ placed_sets (told_by found.message)
found_grouped meanings call found f =
    let told = told_by found.message in
    ap (map placed_of) f.judged.same
    ∙ placed_with (top_context (terms_of_call call) f.cached found.steps)
    (judged_part 0 told) found.entries f.judged.hold ∙ judged_part-top told

-- an answer of what was found is sound for the records of the first reply
pub found_sound : {H : Type 0} (meanings : handle.Ghosts H) (call : Call H) (found : Findings) (d : Denial)
    (ending : EndingValue) → Found meanings call found
    → IsSoundAnswer meanings call (finished call.now found.sets found.message d (trail_of call.query found ending))
found_sound meanings call found d ending f =
    let told = told_by found.message in
    let trail = trail_of call.query found ending in
    let step = top_of call.query told found.empty found.entries ending found.excuse in
    let deep = effective (limits_of_call call) in
    let Header : MessageValue → Type 0 = λ m. marked_message call.now (bare found.sets) m
    ≡ record f.from {
      answers = (marked_message call.now (bare found.sets) m).answers;
      authorities = (marked_message call.now (bare found.sets) m).authorities;
      additionals = (marked_message call.now (bare found.sets) m).additionals;
    } in
    let grouped = found_grouped meanings call found f in
    let IsSound : MessageValue → Type 0 =
    λ m. Sound call.judge call.now (told_by f.from) (finished call.now found.sets m d trail) in
    record {
      middle = f.middle;
      reply = f.reply;
      message = f.from;
      made = f.made;
      received = f.received;
      header = subst Header (sym f.cleared) refl;
      sound = subst IsSound (sym f.cleared)
          (sound_of_sets call.judge call.now f.from found.sets d trail
          (subst (λ m. map placed_of (bare found.sets) ≡ placed_sets (told_by m)) f.cleared grouped) f.judged.stand);
      rest = subst (λ steps. SendsAlong (ask_of_call meanings call) f.middle (drop 1 steps) call.new)
          (sym (top_sent call.judge deep f.cached found.steps step f.sends f.part)) f.along;
    }
