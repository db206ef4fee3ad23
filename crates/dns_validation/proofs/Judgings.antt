-- An open step: what it judged follows from the steps that have ended, and stays so; one lemma for each way in which
-- it goes on.
use Rattle.std.proofs.Common.{ℕ, ◌≡◌, true, false, List, [], ◌∷◌, ◌++◌, None, Some, append_assoc, append-nil, drop, Option, Bool, refl, sym, ap, subst, ◌∙◌}
use Rattle.std.specs.List.{AllByRecursion}
use Rattle.std.specs.Option.{option_map}
use Rattle.std.proofs.lemmas.List.{map-append}
use Rattle.std.proofs.lemmas.List.Concat.{flat_map-append}
use Rattle.dns_model.specs.declared.trail.AskRef.{AskRef}
use Rattle.dns_model.specs.Records.{Question, MessageValue}
use Rattle.dns_model.specs.SoundAnswers.{Told, PlacedSet, told_by}
use Rattle.dns_model.specs.Trails.{AskedValue, JudgedSetValue}
use Rattle.dns_model.proofs.EachLemmas.{each_append, each_back}
use Rattle.dns_model.proofs.SetLemmas.{IsProper}
use Rattle.dns_rules.specs.Asking.{judged_part}
use Rattle.dns_rules.specs.CacheEntries.{EntryValue}
use Rattle.dns_rules.specs.ChainedSets.{ChainedSet, bare, stands}
use Rattle.dns_rules.specs.Derivation.{StepContext, with_entries}
use Rattle.dns_rules.specs.DerivationParts.{asks_of_sets}
use Rattle.dns_rules.specs.ProofErrors.{ProofErrorKindValue}
use Rattle.dns_rules.specs.Outcome.{Outcome, foreign_record}
use Rattle.dns_rules.proofs.ChainedLemmas.{proper_part}
use Rattle.dns_rules.proofs.ExtendLemmas.{entries_stay, entries_none, entries_more, entries_as_many, with_entries-append}
use Rattle.dns_rules.proofs.StayLemmas.{later_step_context}
use Rattle.dns_flow.specs.declared.asks.Ask.{Ask}
use Rattle.dns_flow.specs.Endings.{IsStepEnd}
use Rattle.dns_flow.specs.Leads.{entry_of}
use Rattle.dns_flow.specs.Phases.{PhaseValue, GotValue, SetEnds, StepEnds, Asks, start_set, start_ending, turn}
use Rattle.dns_flow.specs.Causes.{start_cause, cause_after}
use Rattle.dns_flow.specs.CauseRows.{is_by_table}
use Rattle.dns_flow.proofs.CauseLed.{CauseLed, cause_begins, cause_goes_on, cause_stays}
use Rattle.dns_flow.proofs.Led.{Led, IsGot, IsSetEnd, led_set, led_ending, led_more, led_stays, set_ends, step_ends, set_never, ending_never}
use Rattle.dns_validation.specs.Machine.{Terms, SoFar, OpenValue, SeekingValue, begun, ending_item, set_item, with_set, answered, limits_of}
use Rattle.dns_validation.specs.Comes.{IsJudgement}
use Rattle.dns_validation.proofs.CausedSets.{HasCause, AreCaused, caused_later, caused_more}
use Rattle.dns_validation.proofs.Deciders.{set_decider}
use Rattle.dns_validation.proofs.GotLemmas.{context_at}

-- ---- sets that are judged

judgement_none : (g : StepContext) → IsJudgement g [] [] []
judgement_none g = record { hold = entries_none g; same = refl; stand = tt }

-- what was judged stays when steps are added
judgement_later : (g : StepContext) (more : List AskedValue) (ps : List PlacedSet) (cs : List ChainedSet)
    (es : List JudgedSetValue)
    → IsJudgement g ps cs es → IsJudgement (later_step_context g more) ps cs es
judgement_later g more ps cs es judged =
    record { hold = entries_stay g more ps es judged.hold; same = judged.same; stand = judged.stand }

-- a set of a step is a proper one
proper_set : (depth : ℕ) (told : Told) (done left : List PlacedSet) (p : PlacedSet)
    → judged_part depth told ≡ done ++ p ∷ left → IsProper p.set
proper_set depth told done left p part =
    let IsOwn = λ (x : PlacedSet). IsProper x.set in
    let behind =
    each_back IsOwn done (p ∷ left) (subst (λ ps. AllByRecursion IsOwn ps) part (proper_part depth told)) in
    behind.0

-- a set more, which is proper
judgement_more : (g : StepContext) (ps : List PlacedSet) (p : PlacedSet) (cs : List ChainedSet) (c : ChainedSet)
    (es : List JudgedSetValue) (e : JudgedSetValue)
    → IsJudgement g ps cs es → IsSetEnd g p c e → IsProper p.set
    → IsJudgement g (ps ++ p ∷ []) (cs ++ c ∷ []) (es ++ e ∷ [])
judgement_more g ps p cs c es e judged one proper = record {
  hold = entries_more g ps p es e judged.hold one.holds;
  same =
      map-append (λ x. x.judged) cs (c ∷ []) ∙ ap (λ xs. xs ++ c.judged ∷ []) judged.same
      ∙ ap (λ x. with_entries ps es ++ x ∷ []) one.same
      ∙ sym (with_entries-append ps (p ∷ []) es (e ∷ []) (entries_as_many g ps es judged.hold));
  stand = each_append (λ x. stands g.judge x ≡ true) cs (c ∷ []) judged.stand (one.stand proper, tt);
}

-- ---- an open step

-- the sets so far have their causes
abbrev pub CausesSoFar : Terms → List EntryValue → List AskedValue → SoFar → List PlacedSet → Type 0
CausesSoFar t cached closed s done =
    AreCaused (context_at t cached closed s) (told_by s.message) done s.entries s.causes

-- the set, or the ending, that is at work: those before it are judged, and its asks have led to its phase, and to the
-- cause of the set
pub data Item (t : Terms) (cached : List EntryValue) (closed : List AskedValue) (s : SoFar) (done : List PlacedSet)
    (asked : List AskRef) (phase : PhaseValue)
    (cause : Option ProofErrorKindValue) : Type 0 where
  AtSet : (placed : PlacedSet) → judged_part s.depth (told_by s.message) ≡ done ++ placed ∷ s.left
      → Led (context_at t cached closed s) (told_by s.message)
      (start_set t.judge s.query (told_by s.message) placed) asked phase
      → (why : ProofErrorKindValue) → cause ≡ Some why
      → CauseLed (context_at t cached closed s) (told_by s.message) placed asked why
      → Item t cached closed s done asked phase cause
  AtEnding : judged_part s.depth (told_by s.message) ≡ done
      → Led (context_at t cached closed s) (told_by s.message)
      (start_ending (limits_of t) s.query (told_by s.message) (bare s.sets)) asked phase
      → Item t cached closed s done asked phase cause

pub record Judging (t : Terms) (cached : List EntryValue) (closed : List AskedValue) (f : OpenValue) : Type 0 where
  pub own : foreign_record f.so_far.query (told_by f.so_far.message) ≡ None
  pub done : List PlacedSet
  pub judged : IsJudgement (context_at t cached closed f.so_far) done f.so_far.sets f.so_far.entries
  pub caused : CausesSoFar t cached closed f.so_far done
  pub item : Item t cached closed f.so_far done f.asked f.phase f.cause

-- the asks that it named so far
abbrev pub asks_so_far : OpenValue → List AskRef
asks_so_far f = asks_of_sets f.so_far.entries ++ f.asked

-- ---- between two sets

-- a step whose sets so far are judged
pub record Next (t : Terms) (cached : List EntryValue) (closed : List AskedValue) (s : SoFar) : Type 0 where
  pub own : foreign_record s.query (told_by s.message) ≡ None
  pub done : List PlacedSet
  pub judged : IsJudgement (context_at t cached closed s) done s.sets s.entries
  pub caused : CausesSoFar t cached closed s done
  pub part : judged_part s.depth (told_by s.message) ≡ done ++ s.left

-- and whose next set waits for what was kept of it
pub record Sought (t : Terms) (cached : List EntryValue) (closed : List AskedValue) (k : SeekingValue) : Type 0 where
  pub own : foreign_record k.so_far.query (told_by k.so_far.message) ≡ None
  pub done : List PlacedSet
  pub judged : IsJudgement (context_at t cached closed k.so_far) done k.so_far.sets k.so_far.entries
  pub caused : CausesSoFar t cached closed k.so_far done
  pub part : judged_part k.so_far.depth (told_by k.so_far.message) ≡ done ++ k.placed ∷ k.so_far.left

-- it opens
pub next_opened : (t : Terms) (cached : List EntryValue) (closed : List AskedValue) (q : Question) (depth : ℕ)
    (m : MessageValue) (empty : Bool)
    → foreign_record q (told_by m) ≡ None → Next t cached closed (begun q depth m empty)
next_opened t cached closed q depth m empty own =
    record {
      own =
          own;
      done =
          [];
      judged = judgement_none (context_at t cached closed (begun q depth m empty));
      caused = tt;
      part = refl;
    }

-- its ending begins
pub next_ending : (t : Terms) (cached : List EntryValue) (closed : List AskedValue) (s : SoFar) → Next t cached closed s
    → s.left ≡ []
    → Judging t cached closed (ending_item t s)
next_ending t cached closed s h none = record {
  own = h.own;
  done = h.done;
  judged = h.judged;
  caused = h.caused;
  item = AtEnding (h.part ∙ ap (λ ps. h.done ++ ps) none ∙ append-nil h.done)
      (led_ending (context_at t cached closed s) (told_by s.message) (bare s.sets));
}

-- its next set waits
pub next_sought : (t : Terms) (cached : List EntryValue) (closed : List AskedValue) (s : SoFar) (placed : PlacedSet)
    (left : List PlacedSet)
    → Next t cached closed s → s.left ≡ placed ∷ left
    → Sought t cached closed (record { so_far = record s { left = drop 1 s.left }; placed = placed })
next_sought t cached closed s placed left h is = record {
  own = h.own;
  done = h.done;
  judged = h.judged;
  caused = h.caused;
  part = h.part ∙ ap (λ ps. h.done ++ ps) (is ∙ ap (λ ps. placed ∷ drop 1 ps) (sym is));
}

-- and begins by the rules
pub sought_item : (t : Terms) (cached : List EntryValue) (closed : List AskedValue) (k : SeekingValue)
    → Sought t cached closed k
    → Judging t cached closed (set_item t k.so_far k.placed)
sought_item t cached closed k h = record {
  own = h.own;
  done = h.done;
  judged = h.judged;
  caused = h.caused;
  item = AtSet k.placed h.part (led_set (context_at t cached closed k.so_far) (told_by k.so_far.message) k.placed)
      (start_cause k.placed.set) refl
      (cause_begins (context_at t cached closed k.so_far) (told_by k.so_far.message) k.placed);
}

-- ---- its set is judged

-- a set more
next_more : (t : Terms) (cached : List EntryValue) (closed : List AskedValue) (s : SoFar) (done : List PlacedSet)
    (placed : PlacedSet) (c : ChainedSet)
    (entry : JudgedSetValue) (cause : Option ProofErrorKindValue) → foreign_record s.query (told_by s.message) ≡ None
    → IsJudgement (context_at t cached closed s) done s.sets s.entries
    → judged_part s.depth (told_by s.message) ≡ done ++ placed ∷ s.left
    → IsSetEnd (context_at t cached closed s) placed c entry → CausesSoFar t cached closed s done
    → HasCause (context_at t cached closed s) (told_by s.message) placed entry cause
    → Next t cached closed (with_set s c entry cause)
next_more t cached closed s done placed c entry cause own judged part one caused why = record {
  own = own;
  done = done ++ placed ∷ [];
  judged = judgement_more (context_at t cached closed s) done placed s.sets c s.entries entry judged one
      (proper_set s.depth (told_by s.message) done s.left placed part);
  caused = caused_more (context_at t cached closed s)
      (told_by s.message) done s.entries s.causes placed entry cause caused why;
  part = part ∙ sym (append_assoc done (placed ∷ []) s.left);
}

-- by the rules
set_by : (t : Terms) (cached : List EntryValue) (closed : List AskedValue) (f : OpenValue) (c : ChainedSet)
    → Judging t cached closed f
    → (done : List PlacedSet) → IsJudgement (context_at t cached closed f.so_far) done f.so_far.sets f.so_far.entries
    → CausesSoFar t cached closed f.so_far done → Item t cached closed f.so_far done f.asked f.phase f.cause
    → turn f.phase ≡ SetEnds c
    → Next t cached closed (with_set f.so_far c (entry_of c.judged f.asked) f.cause)
set_by t cached closed f c h done judged caused (AtEnding part led) ends = absurd (ending_never _ _ _ _ _ _ led ends)
set_by t cached closed f c h done judged caused (AtSet placed part led why is by) ends =
    let s = f.so_far in
    let g = context_at t cached closed s in
    let entry = entry_of c.judged f.asked in
    let one = set_ends g (told_by s.message) placed f.asked f.phase c led ends in
    next_more t cached closed s done placed c entry f.cause h.own judged part one caused
    (subst (HasCause g (told_by s.message) placed entry) (sym is) (
      refl,
      (
        set_decider g
            (told_by s.message) placed f.asked f.phase c led ends,
        record { phase = f.phase; led = led; caused = by },
      ),
    ))

pub set_next : (t : Terms) (cached : List EntryValue) (closed : List AskedValue) (f : OpenValue) (c : ChainedSet)
    → Judging t cached closed f
    → turn f.phase ≡ SetEnds c → Next t cached closed (with_set f.so_far c (entry_of c.judged f.asked) f.cause)
set_next t cached closed f c h ends = set_by t cached closed f c h h.done h.judged h.caused h.item ends

pub asks_of_set : (f : OpenValue) (c : ChainedSet)
    → asks_of_sets (f.so_far.entries ++ entry_of c.judged f.asked ∷ []) ≡ asks_so_far f
asks_of_set f c =
    flat_map-append (λ (x : JudgedSetValue). x.asked) f.so_far.entries (entry_of c.judged f.asked ∷ [])
    ∙ ap (λ rest. asks_of_sets f.so_far.entries ++ rest) (append-nil f.asked)

-- or as it is served
pub served_next : (t : Terms) (cached : List EntryValue) (closed : List AskedValue) (k : SeekingValue) (c : ChainedSet)
    (entry : JudgedSetValue)
    → Sought t cached closed k → IsSetEnd (context_at t cached closed k.so_far) k.placed c entry
    → is_by_table entry.origin ≡ false
    → Next t cached closed (with_set k.so_far c entry None)
served_next t cached closed k c entry h one served =
    next_more t cached closed k.so_far h.done k.placed c entry None h.own h.judged h.part one h.caused served

-- ---- its ask got an answer

item_answered : (t : Terms) (cached : List EntryValue) (closed more : List AskedValue) (f : OpenValue)
    (done : List PlacedSet) (ask : Ask) (made : AskRef) (got : GotValue)
    → Item t cached closed f.so_far done f.asked f.phase f.cause → turn f.phase ≡ Asks ask
    → IsGot (context_at t cached (closed ++ more) f.so_far) ask made got
    → (let next =
    answered t.judge made got f in Item t cached (closed ++ more) f.so_far done next.asked next.phase next.cause)
item_answered t cached closed more f done ask made got (AtSet placed part led why is by) asks one =
    let s = f.so_far in
    let told = told_by s.message in
    let g = context_at t cached (closed ++ more) s in
    let start = start_set t.judge s.query told placed in
    let way : Led g told start f.asked f.phase =
    led_stays (context_at t cached closed s) more told start f.asked f.phase led in
    AtSet placed part (led_more g told start f.asked f.phase ask made got way asks one)
    (cause_after t.judge f.phase got why)
    (ap (option_map (cause_after t.judge f.phase got)) is)
    (cause_goes_on g told placed f.asked f.phase ask made got why way asks one
    (cause_stays (context_at t cached closed s) more told placed f.asked f.phase why led by))
item_answered t cached closed more f done ask made got (AtEnding part led) asks one =
    let s = f.so_far in
    let told = told_by s.message in
    let start = start_ending (limits_of t) s.query told (bare s.sets) in
    AtEnding part (led_more (context_at t cached (closed ++ more) s) told start f.asked f.phase ask made got
    (led_stays (context_at t cached closed s) more told start f.asked f.phase led) asks one)

pub answered_judging : (t : Terms) (cached : List EntryValue) (closed more : List AskedValue) (f : OpenValue)
    (ask : Ask) (made : AskRef) (got : GotValue) → Judging t cached closed f
    → turn f.phase ≡ Asks ask → IsGot (context_at t cached (closed ++ more) f.so_far) ask made got
    → Judging t cached (closed ++ more) (answered t.judge made got f)
answered_judging t cached closed more f ask made got h asks is = record {
  own = h.own;
  done = h.done;
  judged = judgement_later (context_at t cached closed f.so_far) more h.done f.so_far.sets f.so_far.entries h.judged;
  caused = caused_later (context_at t cached closed f.so_far) more
      (told_by f.so_far.message) h.done f.so_far.entries f.so_far.causes h.caused;
  item = item_answered t cached closed more f h.done ask made got h.item asks is;
}

pub asks_of_answered : (t : Terms) (f : OpenValue) (made : AskRef) (got : GotValue)
    → asks_so_far (answered t.judge made got f) ≡ asks_so_far f ++ made ∷ []
asks_of_answered t f made got = sym (append_assoc (asks_of_sets f.so_far.entries) f.asked (made ∷ []))

-- ---- it ends

pub record StepDone (t : Terms) (cached : List EntryValue) (closed : List AskedValue) (s : SoFar) (asked : List AskRef)
    (o : Outcome) : Type 0 where
  pub judged : IsJudgement (context_at t cached closed s) (judged_part s.depth (told_by s.message)) s.sets s.entries
  pub caused : CausesSoFar t cached closed s (judged_part s.depth (told_by s.message))
  pub concluded : IsStepEnd (context_at t cached closed s) (told_by s.message) (bare s.sets) o asked

step_by : (t : Terms) (cached : List EntryValue) (closed : List AskedValue) (f : OpenValue) (o : Outcome)
    → (h : Judging t cached closed f)
    → Item t cached closed f.so_far h.done f.asked f.phase f.cause → turn f.phase ≡ StepEnds o
    → StepDone t cached closed f.so_far f.asked o
step_by t cached closed f o h (AtSet placed part led why is by) ends = absurd (set_never _ _ _ _ _ _ led ends)
step_by t cached closed f o h (AtEnding part led) ends =
    let s = f.so_far in
    record {
      judged = subst (λ ps. IsJudgement (context_at t cached closed s) ps s.sets s.entries) (sym part) h.judged;
      caused = subst (λ ps. CausesSoFar t cached closed s ps) (sym part) h.caused;
      concluded = step_ends (context_at t cached closed s) (told_by s.message) (bare s.sets) f.asked f.phase o led ends;
    }

pub step_judging : (t : Terms) (cached : List EntryValue) (closed : List AskedValue) (f : OpenValue) (o : Outcome)
    → Judging t cached closed f → turn f.phase ≡ StepEnds o
    → StepDone t cached closed f.so_far f.asked o
step_judging t cached closed f o h ends = step_by t cached closed f o h h.item ends
