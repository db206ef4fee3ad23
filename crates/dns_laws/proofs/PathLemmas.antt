-- A trail that heard a valid session: each of its steps asks once, for what the list of queries names next, up to an anchor.
use Rattle.std.proofs.Common.{◌≡◌, ℕ, ◌+◌, ◌≤◌, ◌<◌, Bool, true, false, ◌==◌, List, [], ◌∷◌, ◌++◌, length, take, drop, Option, None, Some, slice_get, nat_le, append-nil, refl, sym, ap, ◌∙◌, subst, arith}
use Rattle.std.specs.Prelude.{◌&&◌}
use Rattle.std.specs.Option.{option_map_or}
use Rattle.std.specs.List.{flat_map, cons_option, list_any}
use Rattle.std.proofs.lemmas.Bool.{and_parts}
use Rattle.std.proofs.lemmas.Bool.Decides.{nat_tests}
use Rattle.std.proofs.lemmas.List.{length_push, take-append-drop}
use Rattle.dns_model.specs.declared.denial.Denial.TheVariants as denial
use Rattle.dns_model.specs.declared.proof.Proof.{Proof}
use Rattle.dns_model.specs.declared.proof.Proof.TheVariants.{Secure, Insecure, Bogus, Indeterminate}
use Rattle.dns_model.specs.declared.section.Section.TheVariants.{Answer}
use Rattle.dns_model.specs.declared.trail.AskRef.{AskRef}
use Rattle.dns_model.specs.declared.trail.AskRef.TheVariants.{Step, TooDeep, TooMany}
use Rattle.dns_model.specs.declared.trail.MarkOrigin.{MarkOrigin}
use Rattle.dns_model.specs.declared.trail.MarkOrigin.TheVariants.{Table, Repeat, Cache}
use Rattle.dns_model.specs.Records.{RrSet, Question, question_eq}
use Rattle.dns_model.specs.Chains.{Judge}
use Rattle.dns_model.specs.SoundAnswers.{Told, PlacedSet, in_section, is_secure}
use Rattle.dns_model.specs.Trails.{AskedValue, JudgedSetValue, Answered}
use Rattle.dns_model.proofs.SetLemmas.{number_same}
use Rattle.dns_model.proofs.QuestionLemmas.{question_back, question_trans}
use Rattle.dns_model.proofs.Lists.{empty_is}
use Rattle.dns_rules.specs.Asking.{Limits, most_sends, is_judged_at, judged_part}
use Rattle.dns_rules.specs.MarkedSets.{MarkedSet}
use Rattle.dns_rules.specs.Unsigned.{is_empty}
use Rattle.dns_rules.specs.CacheEntries.{EntryValue, mark_of, sig_of}
use Rattle.dns_rules.specs.Serving.{judged_as, may_serve}
use Rattle.dns_rules.specs.Derivation.{StepContext, proof_eq, has_mark_of, is_served_by, told_in, with_entries, judged_sets, finished_answer, is_ask, is_by_rules, is_by_origin, steps_hold, asks_of, order_step, end_step}
use Rattle.dns_rules.specs.DerivationParts.{with_entry, place_eq, answer_of, is_judged_ask, step_context_of, repeats_step}
use Rattle.dns_rules.proofs.Members.{picked_known}
use Rattle.dns_rules.proofs.FindLemmas.{each_all}
use Rattle.dns_rules.proofs.ExtendLemmas.{proof_same}
use Rattle.dns_rules.proofs.DerivedLemmas.{steps_hold_at}
use Rattle.dns_rules.proofs.SentLemmas.{numbered}
use Rattle.dns_rules.proofs.StayLemmas.{slice_get-stays}
use Rattle.dns_laws.specs.Complete.{Upstream, HeardAlong, AreAsked, are_secure}
use Rattle.dns_laws.specs.Valid.{straight_set}
use Rattle.dns_laws.proofs.StraightLemmas.{is_other, IsOneSet, answered}
use Rattle.dns_laws.proofs.StraightStepLemmas.{needs_no_denial, IsStraightStep, straight_step, one_judged}
use Rattle.dns_laws.proofs.SignedEntryLemmas.{IsSecureSet}
use Rattle.dns_laws.proofs.OrderPathLemmas.{GoesOn, goes_on, met_next, one_met, many_met, EndsAs, ends_as, none_ends, one_ends}
use Rattle.dns_laws.proofs.RankLemmas.{rank, same_rank}

-- ---- where a walk stands

-- a trail whose steps hold, with the entries that were kept before it, all Secure, the numbers of its steps in the order of the sends, and
-- what its upstream told at the start
pub record Walk (R : Type 0) : Type 0 where
  pub up : Upstream R
  pub judge : Judge
  pub limits : Limits
  pub cached : List EntryValue
  pub trail : List AskedValue
  pub order : List ℕ
  pub tells : Question → Option Told
  pub hold : steps_hold judge limits cached [] trail ≡ true
  pub secure : are_secure cached ≡ true

-- the step with this number asks the first of these queries, after those that were met, and more follow
pub record IsAt {R : Type 0} (w : Walk R) (q : Question) (rest : List Question) (r : R) (n : ℕ) (step : AskedValue)
    (met more : List ℕ) : Type 0 where
  pub plain : needs_no_denial q.rtype ≡ true
  pub other : is_other q ≡ false
  pub found : slice_get w.trail n ≡ Some step
  pub judged : step.judged ≡ true
  pub same : question_eq q step.query ≡ true
  pub kept : is_judged_at step.depth q.rtype ≡ true
  pub deep : step.depth + length rest ≤ w.limits.depth
  pub few : length met + length rest < most_sends
  pub above : ℕ
  pub ordered : order_step above w.trail n met ≡ Some w.order
  pub over : ℕ
  pub ended : end_step over w.trail n 0 ≡ Some (n + 1)
  pub whole : w.order ≡ met ++ more
  pub heard : HeardAlong w.up r (numbered w.trail more)
  pub agree : (later : Question) → rank later ≤ rank q → w.up.tells r later ≡ w.tells later

-- ---- the step

-- what stands at it
pub record IsHere {R : Type 0} (w : Walk R) (q : Question) (r : R) (n : ℕ) (step : AskedValue) (met more : List ℕ)
    (set : RrSet) : Type 0 where
  pub told : Told
  pub heard_it : told_in step.reply ≡ Some told
  pub one : IsOneSet w.judge q told set
  pub on : GoesOn w.trail n step met w.order
  pub next : more ≡ n ∷ on.more
  pub later : HeardAlong w.up (w.up.left r step.query) (numbered w.trail on.more)
  pub straight : IsStraightStep (step_context_of w.judge w.limits w.cached (take n w.trail) step) set step
  pub asks : asks_of step ≡ straight.entry.asked
  pub ends : EndsAs w.trail n (n + 1) step

heard_next : {R : Type 0} (w : Walk R) (r : R) (n : ℕ) (step : AskedValue) (more rest : List ℕ) → slice_get w.trail n ≡ Some step
    → more ≡ n ∷ rest
    → HeardAlong w.up r (numbered w.trail more) → HeardAlong w.up r (step ∷ numbered w.trail rest)
heard_next w r n step more rest found is heard =
    subst (HeardAlong w.up r) (ap (numbered w.trail) is ∙ ap (λ o. cons_option o (numbered w.trail rest)) found) heard

asks_of_one : (step : AskedValue) (entry : JudgedSetValue) → step.sets ≡ entry ∷ [] → step.excuse ≡ [] → asks_of step ≡ entry.asked
asks_of_one step entry sets excuse =
    ap (λ es. flat_map (λ set. set.asked) es ++ step.excuse) sets ∙ ap (λ es. (entry.asked ++ []) ++ es) excuse
    ∙ append-nil (entry.asked ++ []) ∙ append-nil entry.asked

pub here : {R : Type 0} (w : Walk R) (q : Question) (rest : List Question) (r : R) (n : ℕ) (step : AskedValue)
    (met more : List ℕ) (set : RrSet)
    → IsAt w q rest r n step met more → straight_set w.judge w.tells q ≡ Some set → IsHere w q r n step met more set
here w q rest r n step met more set at is =
    let on = goes_on at.above w.trail n step met w.order at.found at.ordered in
    let next = met_next met more on.more w.order n at.whole on.grown in
    let heard = heard_next w r n step more on.more at.found next at.heard in
    let reply = answered w.judge w.tells q set at.other is in
    let told : told_in step.reply ≡ Some reply.told = heard.0 ∙ sym (w.up.alike r q step.query at.same)
    ∙ at.agree q (omega arith) ∙ reply.heard in
    let straight =
    straight_step w.judge w.limits w.cached (take n w.trail) step q reply.told set
    (steps_hold_at w.judge w.limits w.cached [] w.trail n step w.hold at.found) at.judged told at.same reply.is
    (ap (is_judged_at step.depth) reply.is.rtype ∙ at.kept) (ap needs_no_denial reply.is.rtype ∙ at.plain) in
    record {
      told = reply.told;
      heard_it = told;
      one = reply.is;
      on = on;
      next = next;
      later = heard.1;
      straight = straight;
      asks = asks_of_one step straight.entry straight.sets straight.excuse;
      ends = ends_as at.over w.trail n (n + 1) step at.found at.ended;
    }

-- ---- its entry is by the rules, or was kept

-- an entry that repeats another asks nothing; then its step is the first, and there is no other
first_repeats : {R : Type 0} (w : Walk R) (q : Question) (r : R) (n k : ℕ) (step : AskedValue) (met more : List ℕ) (set : RrSet)
    (h : IsHere w q r n step met more set)
    → is_by_origin (step_context_of w.judge w.limits w.cached (take n w.trail) step)
    (in_section Answer set) h.straight.entry (Repeat k) ≡ true → ⊥
first_repeats w q r n k step met more set h is =
    let g = step_context_of w.judge w.limits w.cached (take n w.trail) step in
    let placed = in_section Answer set in
    let parts = and_parts (is_empty h.straight.entry.asked) (repeats_step g placed h.straight.entry (slice_get g.earlier k)) is in
    let first = none_ends w.trail n (n + 1) step h.ends (h.asks ∙ empty_is h.straight.entry.asked parts.0) in
    let none : slice_get (take n w.trail) k ≡ None = ap (λ i. slice_get (take i w.trail) k) first in
    cc (ap (repeats_step g placed h.straight.entry) (sym none) ∙ parts.1)

-- by the rules, or served from what was kept, which there is, Secure and without asks
pub data HasEntry (g : StepContext) (placed : PlacedSet) (entry : JudgedSetValue) : Type 0 where
  ByRules : is_by_rules g placed entry ≡ true → HasEntry g placed entry
  Served : entry.asked ≡ [] → entry.mark ≡ Secure → (g.cached ≡ [] → ⊥) → HasEntry g placed entry

-- where there is nothing, nothing passes a test
none_passes : (test : EntryValue → Bool) (entries : List EntryValue) → list_any test entries ≡ true → entries ≡ [] → ⊥
none_passes test [] passes h = cc
none_passes test (e ∷ entries) passes h = cc

secure_mark : (p : Proof) → is_secure p ≡ true → p ≡ Secure
secure_mark Secure h = refl
secure_mark Insecure h = cc
secure_mark Bogus h = cc
secure_mark Indeterminate h = cc

-- what was kept is Secure, and so is what it serves
served_entry : (g : StepContext) (placed : PlacedSet) (entry : JudgedSetValue) → are_secure g.cached ≡ true
    → (is_empty entry.asked && list_any (is_served_by g.judge g.query placed entry) g.cached) ≡ true
    → HasEntry g placed entry
served_entry g placed entry secure is =
    let test = is_served_by g.judge g.query placed entry in
    let parts = and_parts (is_empty entry.asked) (list_any test g.cached) is in
    let each = each_all (λ e. is_secure (mark_of e.found)) (λ (e : EntryValue). is_secure (mark_of e.found) ≡ true)
    (λ e h. h) g.cached secure in
    let p = picked_known test (λ e. is_secure (mark_of e.found) ≡ true) g.cached each parts.1 in
    let marked = (and_parts (may_serve g.judge g.query placed p.it) (has_mark_of (judged_as placed p.it.found) entry) p.passes).1 in
    let same = proof_same (mark_of p.it.found) entry.mark
    ((and_parts (proof_eq (mark_of p.it.found) entry.mark) (place_eq (sig_of p.it.found) entry.sig) marked).0) in
    Served (empty_is entry.asked parts.0) (sym same ∙ secure_mark (mark_of p.it.found) p.known) (none_passes test g.cached parts.1)

origin_rules : {R : Type 0} (w : Walk R) (q : Question) (r : R) (n : ℕ) (step : AskedValue) (met more : List ℕ) (set : RrSet)
    (h : IsHere w q r n step met more set) (origin : MarkOrigin)
    → is_by_origin (step_context_of w.judge w.limits w.cached (take n w.trail) step)
    (in_section Answer set) h.straight.entry origin ≡ true
    → HasEntry (step_context_of w.judge w.limits w.cached (take n w.trail) step)
    (in_section Answer set) h.straight.entry
origin_rules w q r n step met more set h Table is = ByRules is
origin_rules w q r n step met more set h (Repeat k) is = absurd (first_repeats w q r n k step met more set h is)
origin_rules w q r n step met more set h Cache is =
    served_entry (step_context_of w.judge w.limits w.cached (take n w.trail) step) (in_section Answer set) h.straight.entry w.secure is

pub rules : {R : Type 0} (w : Walk R) (q : Question) (r : R) (n : ℕ) (step : AskedValue) (met more : List ℕ) (set : RrSet)
    (h : IsHere w q r n step met more set)
    → HasEntry (step_context_of w.judge w.limits w.cached (take n w.trail) step)
    (in_section Answer set) h.straight.entry
rules w q r n step met more set h = origin_rules w q r n step met more set h h.straight.entry.origin h.straight.origin

-- ---- what a step comes to

-- the first queries of a list, as many as steps before one: all of them where nothing was kept
pub record AreFirst {R : Type 0} (w : Walk R) (rest : List Question) (n : ℕ) : Type 0 where
  pub front : List Question
  pub unused : List Question
  pub whole : front ++ unused ≡ rest
  pub all : w.cached ≡ [] → unused ≡ []
  pub number : n ≡ length front

-- and those of a list with one more query, which one more step asks
abbrev pub one_more : {R : Type 0} (w : Walk R) (next : Question) (rest : List Question) (n m : ℕ) → n ≡ m + 1
    → AreFirst w rest m → AreFirst w (next ∷ rest) n
one_more w next rest n m before first = record {
  front = next ∷ first.front;
  unused = first.unused;
  whole = ap (λ t. next ∷ t) first.whole;
  all = first.all;
  number = omega (arith, before, first.number);
}

-- the set of the query is Secure, the step ends with an answer, and it and the steps after it are the first of the list
pub record IsShown {R : Type 0} (w : Walk R) (q : Question) (rest : List Question) (n : ℕ) (step : AskedValue)
    (more : List ℕ) : Type 0 where
  pub set : RrSet
  pub straight : straight_set w.judge w.tells q ≡ Some set
  pub told : Told
  pub heard_it : told_in step.reply ≡ Some told
  pub one : IsOneSet w.judge q told set
  pub judged : MarkedSet
  pub secure : IsSecureSet set judged
  pub sets : judged_sets step ≡ judged ∷ []
  pub ending : step.ending ≡ Answered denial.None
  pub first : AreFirst w rest n
  pub asked : AreAsked (q ∷ first.front) (numbered w.trail more)

-- a step at which a walk stands, with the set of the query's straight reply
pub record Stand {R : Type 0} (w : Walk R) (q : Question) (rest : List Question) : Type 0 where
  pub r : R
  pub n : ℕ
  pub step : AskedValue
  pub met : List ℕ
  pub more : List ℕ
  pub set : RrSet
  pub at : IsAt w q rest r n step met more
  pub straight : straight_set w.judge w.tells q ≡ Some set
  pub here : IsHere w q r n step met more set

-- by what the sets of the step are judged
abbrev pub context_at : {R : Type 0} (w : Walk R) (q : Question) (rest : List Question) → Stand w q rest → StepContext
context_at w q rest s = step_context_of w.judge w.limits w.cached (take s.n w.trail) s.step

-- the entry of its one set
abbrev pub entry_at : {R : Type 0} (w : Walk R) (q : Question) (rest : List Question) → Stand w q rest → JudgedSetValue
entry_at w q rest s = s.here.straight.entry

pub shown_by : {R : Type 0} (w : Walk R) (q : Question) (rest : List Question) (s : Stand w q rest)
    → (entry_at w q rest s).mark ≡ Secure → (first : AreFirst w rest s.n)
    → AreAsked first.front (numbered w.trail s.here.on.more) → IsShown w q rest s.n s.step s.more
shown_by w q rest s mark first asked =
    let placed = in_section Answer s.set in
    let entry = entry_at w q rest s in
    let alone = one_judged w.judge q s.here.told s.set s.step.depth s.here.one (ap (is_judged_at s.step.depth) s.here.one.rtype
    ∙ s.at.kept) in
    record {
      set = s.set;
      straight = s.straight;
      told = s.here.told;
      heard_it = s.here.heard_it;
      one = s.here.one;
      judged = with_entry (placed, entry);
      secure = record { section = refl; is = refl; mark = mark };
      sets = ap (λ o. option_map_or (λ told. with_entries (judged_part s.step.depth told) s.step.sets) o []) s.here.heard_it
          ∙ ap (λ ps. with_entries ps s.step.sets) alone ∙ ap (with_entries (placed ∷ [])) s.here.straight.sets;
      ending = s.here.straight.ending;
      first = first;
      asked = subst (AreAsked (q ∷ first.front))
          (sym (ap (numbered w.trail) s.here.next ∙ ap (λ o. cons_option o (numbered w.trail s.here.on.more)) s.at.found))
          (s.at.same, asked);
    }

-- ---- the step that is asked

-- the ask of a step stands for the step before it, at which the walk then stands
pub record IsAsked {R : Type 0} (w : Walk R) (next : Question) (rest : List Question) (r : R) (n : ℕ) (step : AskedValue)
    (met more : List ℕ) (ask : AskRef) : Type 0 where
  pub m : ℕ
  pub asked : AskedValue
  pub answer : finished_answer (take n w.trail) ask ≡ answer_of (Some asked)
  pub before : n ≡ m + 1
  pub at : IsAt w next rest (w.up.left r step.query) m asked (met ++ n ∷ []) more

-- what is asked next: a query of a type that is judged at any depth, and lower than the one before
pub record IsLower (q next : Question) : Type 0 where
  pub plain : needs_no_denial next.rtype ≡ true
  pub other : is_other next ≡ false
  pub kept : (depth : ℕ) → is_judged_at depth next.rtype ≡ true
  pub lower : rank next < rank q

other_query : (a b : Question) (x : Bool) → question_eq a b ≡ x → rank b < rank a → x ≡ false
other_query a b true is lower = absurd (omega (arith, same_rank a b is))
other_query a b false is lower = refl

agree_next : {R : Type 0} (w : Walk R) (q next : Question) (rest : List Question) (r : R) (n : ℕ) (step : AskedValue) (met more : List ℕ)
    → IsAt w q rest r n step met more → rank next < rank q → (later : Question) → rank later ≤ rank next
    → w.up.tells (w.up.left r step.query) later ≡ w.tells later
agree_next w q next rest r n step met more at lower later low =
    let as_high = same_rank q step.query at.same in
    w.up.stays r step.query later (other_query step.query later (question_eq step.query later) refl (omega arith))
    ∙ at.agree later (omega arith)

judged_step : {R : Type 0} (w : Walk R) (q question next : Question) (rest : List Question) (r : R) (n m : ℕ)
    (step : AskedValue) (met more : List ℕ) (set : RrSet)
    (o : Option AskedValue) (at : IsAt w q (next ∷ rest) r n step met more) (h : IsHere w q r n step met more set)
    → h.straight.entry.asked ≡ Step m ∷ [] → slice_get (take n w.trail) m ≡ o → is_judged_ask (step.depth + 1) question o ≡ true
    → question_eq question next ≡ true → IsLower q next → IsAsked w next rest r n step met h.on.more (Step m)
judged_step w q question next rest r n m step met more set None at h alone is asks same lower = cc
judged_step w q question next rest r n m step met more set (Some asked) at h alone is asks same lower =
    let deeper = asked.depth == step.depth + 1 in
    let one = and_parts asked.judged (deeper && question_eq question asked.query) asks in
    let two = and_parts deeper (question_eq question asked.query) one.1 in
    let depth = number_same asked.depth (step.depth + 1) two.0 in
    let found : slice_get w.trail m ≡ Some asked =
    subst (λ t. slice_get t m ≡ Some asked) (take-append-drop n w.trail) (slice_get-stays (take n w.trail) (drop n w.trail) m asked is) in
    let one_of = h.asks ∙ alone in
    let ended = one_ends w.trail n m (n + 1) step h.ends one_of in
    let before = (ends_as h.ends.below w.trail m n asked found ended).next in
    let deep = at.deep in
    let few = at.few in
    let longer = length_push met n in
    record {
      m = m;
      asked = asked;
      answer = ap answer_of is;
      before = before;
      at = record {
        plain = lower.plain;
        other = lower.other;
        found = found;
        judged = one.0;
        same = question_trans next question asked.query (question_back question next same) two.1;
        kept = lower.kept asked.depth;
        deep = omega arith;
        few = omega arith;
        above = h.on.below;
        ordered = one_met w.trail n m step met w.order h.on one_of;
        over = h.ends.below;
        ended = ended ∙ ap Some before;
        whole = h.on.grown;
        heard = h.later;
        agree = agree_next w q next (next ∷ rest) r n step met more at lower.lower;
      };
    }

pub asked_next : {R : Type 0} (w : Walk R) (q question next : Question) (rest : List Question) (r : R) (n : ℕ)
    (step : AskedValue) (met more : List ℕ) (set : RrSet)
    (ask : AskRef) (at : IsAt w q (next ∷ rest) r n step met more) (h : IsHere w q r n step met more set)
    → h.straight.entry.asked ≡ ask ∷ [] → is_ask w.limits.depth (take n w.trail) (step.depth + 1) question ask ≡ true
    → question_eq question next ≡ true → IsLower q next → IsAsked w next rest r n step met h.on.more ask
asked_next w q question next rest r n step met more set (Step m) at h alone asks same lower =
    let parts = and_parts (nat_le (step.depth + 1) w.limits.depth)
    (is_judged_ask (step.depth + 1) question (slice_get (take n w.trail) m)) asks in
    judged_step w q question next rest r n m step met more set (slice_get (take n w.trail) m) at h alone refl parts.1 same lower
asked_next w q question next rest r n step met more set TooDeep at h alone asks same lower =
    let deep = at.deep in
    let past : w.limits.depth < step.depth + 1 = grind (arith, nat_tests, asks) in
    absurd (omega arith)
asked_next w q question next rest r n step met more set TooMany at h alone asks same lower =
    let few = at.few in
    let many = many_met w.trail n step met w.order h.on (h.asks ∙ alone) in
    let longer = length_push met n in
    absurd (omega arith)
