-- The first set of the answer's step is served from the cache where it may be.
use Rattle.std.proofs.Common.{ℕ, ◌+◌, ◌≡◌, Bool, true, false, not, ◌&&◌, List, [], ◌∷◌, ◌++◌, length, drop, slice_get, Option, None, Some, Err, refl, sym, ap, subst, ◌∙◌}
use Rattle.dns_model.specs.declared.proof.Proof.TheVariants.{Bogus}
use Rattle.dns_model.specs.declared.trail.AskRef.{AskRef}
use Rattle.dns_model.specs.declared.trail.AskRef.TheVariants.{Step}
use Rattle.dns_model.specs.Records.{Rr, Question, MessageValue}
use Rattle.dns_model.specs.Chains.{Judge}
use Rattle.dns_model.specs.SoundAnswers.{PlacedSet, Told, placed_sets, told_by}
use Rattle.dns_model.specs.Trails.{AskedValue, JudgedSetValue, EndingValue, Answered, Denied, Records}
use Rattle.dns_model.specs.Trails as trails
use Rattle.dns_rules.specs.Asking.{judged_part}
use Rattle.dns_rules.specs.CacheEntries.{EntryValue}
use Rattle.dns_rules.specs.ChainedSets.{ChainedSet}
use Rattle.dns_rules.specs.Derivation.{told_in, probe_of}
use Rattle.dns_rules.specs.Outcome.{Outcome, Given, NeedsZone, foreign_record}
use Rattle.dns_rules.specs.Outcome as outcome
use Rattle.dns_rules.specs.Probes as probes
use Rattle.dns_rules.proofs.ChainedLemmas.{judged_part-top}
use Rattle.dns_rules.proofs.DerivationLemmas.{top_step_is}
use Rattle.dns_cache.specs.CacheLists.{CacheList}
use Rattle.dns_handle.specs.Errors as seen
use Rattle.dns_handle.specs.Errors.{Reply}
use Rattle.dns_flow.specs.declared.asks.Ask.{Ask}
use Rattle.dns_flow.specs.Leads.{entry_of}
use Rattle.dns_flow.specs.Phases.{NeedValue, SetEnds, StepEnds, Asks, GotValue, Answer, Probe, judged_ask, turn}
use Rattle.dns_validation.specs.Received.{ReceivedValue, Message, Failed, received_value}
use Rattle.dns_validation.specs.Steps.{Findings, judged_step, plain_step, foreign_ending, given_sets, top_of, trail_of, judged_answer, answer_by}
use Rattle.dns_validation.specs.Machine.{Terms, SoFar, OpenValue, SeekingValue, MadeValue, StateValue, limit_of, none_open, findings, first_left, next_in, with_set, set_ended, step_ended, give, with_step, refusal, asked_by, turned, turn_in, depth_below, heard_own, heard_nested, heard_by, no_more_waiting, heard_in, heard, found, begun, answered, nothing_got, ending_item}
use Rattle.dns_validation.specs.Runs.{Sent, sent_now, Run, is_none, Turns, Here, Onward, HasHeard}
use Rattle.dns_validation.proofs.RunLemmas.{run_stands, run_turns}
use Rattle.dns_validation.proofs.Stands.{Stand, Waits, Seeks, Moves, Done}
use Rattle.dns_lookup.specs.Driving.{bottom, is_first_served, HeadServed, TopServed, IsUntouched, FirstServed, NotYet, AtFirst, Behind, Over}
use Rattle.dns_lookup.specs.LookupAnswers.{OfAnswer}
use Rattle.dns_lookup.proofs.ComesLemmas.{silent}
use Rattle.dns_lookup.proofs.LookupAnswerLemmas.{silent_error}
use Rattle.dns_lookup.proofs.WorkLemmas.{unsought}

-- ---- the step at the bottom

-- where steps are open it doesn't go by what waits
pub bottom_any : (f : OpenValue) (outer : List OpenValue) (a b : Option SeekingValue)
    → bottom (f ∷ outer) a ≡ bottom (f ∷ outer) b
unfolding bottom
bottom_any f [] a b = refl
bottom_any f (g ∷ outer) a b = bottom_any g outer a b

-- it is the same where the innermost step is
bottom_top : (f h : OpenValue) (outer : List OpenValue) (a : Option SeekingValue) → h.so_far ≡ f.so_far
    → bottom (h ∷ outer) a ≡ bottom (f ∷ outer) a
unfolding bottom
bottom_top f h [] a same = ap (λ s. Some s) same
bottom_top f h (g ∷ outer) a same = refl

pub bottom_over : (h f : OpenValue) (outer : List OpenValue) (a : Option SeekingValue)
    → bottom (h ∷ f ∷ outer) a ≡ bottom (f ∷ outer) a
unfolding bottom
bottom_over h f outer a = refl

pub bottom_one : (f : OpenValue) (a : Option SeekingValue) → bottom (f ∷ []) a ≡ Some f.so_far
unfolding bottom
bottom_one f a = refl

pub bottom_sought : (k : SeekingValue) → bottom [] (Some k) ≡ Some k.so_far
unfolding bottom
bottom_sought k = refl

pub bottom_none : (s : SoFar) → bottom [] None ≡ Some s → ⊥
unfolding bottom
bottom_none s h = cc

bottom_give : (j : Judge) (ask : AskRef) (got : GotValue) (f : OpenValue) (outer : List OpenValue)
    (a : Option SeekingValue)
    → bottom (give j ask got (f ∷ outer)) a ≡ bottom (f ∷ outer) a
bottom_give j ask got f outer a = bottom_top f (answered j ask got f) outer a refl

pub so_far_same : (a b : SoFar) → Some a ≡ Some b → a ≡ b
so_far_same a b h = cc

-- ---- the head of the sets

head_more : (sets : List JudgedSetValue) (set : JudgedSetValue) → is_first_served sets ≡ true
    → is_first_served (sets ++ set ∷ []) ≡ true
head_more [] set h = cc
head_more (x ∷ sets) set h = h

pub served_more : (t : Terms) (before : Option CacheList) (told : Told) (sets : List JudgedSetValue) (set : JudgedSetValue)
    → HeadServed t before told sets
    → HeadServed t before told (sets ++ set ∷ [])
served_more t before told sets set h = λ placed first may. head_more sets set (h placed first may)

-- ---- a step goes on

-- the step at the bottom has these sets of this message
pub record Bottom (s : StateValue) (message : MessageValue) (entries : List JudgedSetValue) : Type 0 where
  pub so_far : SoFar
  pub is : bottom s.steps s.seeking ≡ Some so_far
  pub same : so_far.message ≡ message
  pub sets : so_far.entries ≡ entries

pub behind : (t : Terms) (before now : Option CacheList) (s : StateValue) (message : MessageValue)
    (entries : List JudgedSetValue) → Bottom s message entries
    → HeadServed t before (told_by message) entries → FirstServed t before s now
behind t before now s message entries b h =
    Behind b.so_far b.is
    (subst (λ m. HeadServed t before (told_by m) b.so_far.entries) (sym b.same)
    (subst (HeadServed t before (told_by message)) (sym b.sets) h))

-- the only step
pub next_alone : (t : Terms) (so_far : SoFar) (o : Option PlacedSet) (s : StateValue) → s.steps ≡ [] → s.seeking ≡ None
    → Bottom (next_in t so_far o s) so_far.message so_far.entries
next_alone t so_far None s none still =
    record {
      so_far =
          so_far;
      is =
          ap (λ steps. bottom (ending_item t so_far ∷ steps) s.seeking) none
          ∙ bottom_one (ending_item t so_far) s.seeking;
      same = refl;
      sets = refl;
    }
next_alone t so_far (Some placed) s none still =
    let k : SeekingValue = record { so_far = record so_far { left = drop 1 so_far.left }; placed = placed } in
    record {
      so_far =
          k.so_far;
      is = ap (λ steps. bottom steps (Some k)) none ∙ bottom_sought k;
      same = refl;
      sets = refl;
    }

-- one on top of others
pub next_over : (t : Terms) (so_far : SoFar) (o : Option PlacedSet) (s : StateValue) (f : OpenValue)
    (outer : List OpenValue) (a : Option SeekingValue) → s.steps ≡ f ∷ outer
    → bottom ((next_in t so_far o s).steps) ((next_in t so_far o s).seeking) ≡ bottom (f ∷ outer) a
next_over t so_far None s f outer a is =
    ap (λ steps. bottom (ending_item t so_far ∷ steps) s.seeking) is
    ∙ bottom_over (ending_item t so_far) f outer s.seeking ∙ bottom_any f outer s.seeking a
next_over t so_far (Some placed) s f outer a is =
    let k : SeekingValue = record { so_far = record so_far { left = drop 1 so_far.left }; placed = placed } in
    ap (λ steps. bottom steps (Some k)) is ∙ bottom_any f outer (Some k) a

-- ---- the end

top_told : (t : Terms) (before : Option CacheList) (q : Question) (found : Findings) (ending : EndingValue)
    → HeadServed t before (told_by found.message) found.entries → TopServed t before (trail_of q found ending)
top_told t before q found ending h = λ top told last heard.
    let step = top_of q (told_by found.message) found.empty found.entries ending found.excuse in
    let same : step ≡ top = top_same step top (sym (top_step_is found.steps step) ∙ last) in
    let tells : told_by found.message ≡ told =
    told_same (told_by found.message) told (ap (λ (s : AskedValue). told_in s.reply) same ∙ heard) in
    subst (λ (s : AskedValue). HeadServed t before told s.sets) same
    (subst (λ x. HeadServed t before x found.entries) tells h)
  where
    top_same : (a b : AskedValue) → Some a ≡ Some b → a ≡ b
    top_same a b h = cc

    told_same : (a b : Told) → Some a ≡ Some b → a ≡ b
    told_same a b h = cc

answer_top : (t : Terms) (before : Option CacheList) (now : ℕ) (q : Question) (found : Findings) (o : Outcome)
    → HeadServed t before (told_by found.message) found.entries
    → OfAnswer (answer_by now q found o) (λ a ending. TopServed t before a.trail)
answer_top t before now q found (Given d) h = top_told t before q found (Answered d) h
answer_top t before now q found NeedsZone h = top_told t before q found (Denied Bogus) h
answer_top t before now q found (outcome.Denied p) h = top_told t before q found (Denied p) h

-- ---- one turn

behind_is : (t : Terms) (before now : Option CacheList) (s u : StateValue) (so_far : SoFar)
    → bottom s.steps s.seeking ≡ Some so_far
    → HeadServed t before (told_by so_far.message) so_far.entries → bottom u.steps u.seeking ≡ bottom s.steps s.seeking
    → FirstServed t before u now
behind_is t before now s u so_far is h same = Behind so_far (same ∙ is) h

set_first : (t : Terms) (before now : Option CacheList) (f : OpenValue) (s : StateValue) (outer : List OpenValue)
    (c : ChainedSet) (so_far : SoFar) → s.seeking ≡ None
    → bottom (f ∷ outer) None ≡ Some so_far → HeadServed t before (told_by so_far.message) so_far.entries
    → FirstServed t before (set_ended t f c (record s { steps = outer })) now
set_first t before now f s [] c so_far none is h =
    let same = so_far_same f.so_far so_far (sym (bottom_one f None) ∙ is) in
    let here = subst (λ (x : SoFar). HeadServed t before (told_by x.message) x.entries) (sym same) h in
    let entry = entry_of c.judged f.asked in
    let grown = with_set f.so_far c entry f.cause in
    behind t before now (set_ended t f c (record s { steps = [] })) f.so_far.message (f.so_far.entries ++ entry ∷ [])
    (next_alone t grown (first_left grown.left) (record s { steps = [] }) refl none)
    (served_more t before (told_by f.so_far.message) f.so_far.entries entry here)
set_first t before now f s (g ∷ outer) c so_far none is h =
    let grown = with_set f.so_far c (entry_of c.judged f.asked) f.cause in
    Behind so_far
    (next_over t grown (first_left grown.left) (record s { steps = g ∷ outer }) g outer None refl
    ∙ sym (bottom_over f g outer None) ∙ is) h

step_first : (t : Terms) (before now : Option CacheList) (f : OpenValue) (s : StateValue) (outer : List OpenValue)
    (o : Outcome) (so_far : SoFar) → s.seeking ≡ None
    → bottom (f ∷ outer) None ≡ Some so_far → HeadServed t before (told_by so_far.message) so_far.entries
    → FirstServed t before (step_ended t f.so_far f.asked o (record s { steps = outer })) now
step_first t before now f s [] o so_far none is h =
    let same = so_far_same f.so_far so_far (sym (bottom_one f None) ∙ is) in
    let here = subst (λ (x : SoFar). HeadServed t before (told_by x.message) x.entries) (sym same) h in
    Over (judged_answer t.now f.so_far.query (findings s.closed f.so_far f.asked o)) refl
    (answer_top t before t.now f.so_far.query (findings s.closed f.so_far f.asked o) o here)
step_first t before now f s (g ∷ outer) o so_far none is h =
    let got = Answer (given_sets o f.so_far.sets) in
    Behind so_far
    (ap (bottom (give t.judge (Step (length s.closed)) got (g ∷ outer))) none
    ∙ bottom_give t.judge (Step (length s.closed)) got g outer None
    ∙ sym (bottom_over f g outer None) ∙ is) h

ask_first : (t : Terms) (before now : Option CacheList) (refused : Option AskRef) (ask : Ask) (f : OpenValue)
    (s : StateValue) (outer : List OpenValue) (so_far : SoFar) → s.seeking ≡ None
    → bottom (f ∷ outer) None ≡ Some so_far → HeadServed t before (told_by so_far.message) so_far.entries
    → FirstServed t before (asked_by t.judge refused ask f (record s { steps = outer })) now
ask_first t before now None ask f s outer so_far none is h = Behind so_far (ap (bottom (f ∷ outer)) none ∙ is) h
ask_first t before now (Some r) ask f s outer so_far none is h =
    let more = answered t.judge r (nothing_got ask.judged) f in
    Behind so_far (ap (bottom (more ∷ outer)) none ∙ bottom_top f more outer None refl ∙ is) h

need_first : (t : Terms) (before now : Option CacheList) (f : OpenValue) (s : StateValue) (outer : List OpenValue)
    (need : NeedValue) (so_far : SoFar) → s.seeking ≡ None
    → bottom (f ∷ outer) None ≡ Some so_far → HeadServed t before (told_by so_far.message) so_far.entries
    → FirstServed t before (turned t f (record s { steps = outer }) need) now
need_first t before now f s outer (SetEnds c) so_far none is h = set_first t before now f s outer c so_far none is h
need_first t before now f s outer (StepEnds o) so_far none is h = step_first t before now f s outer o so_far none is h
need_first t before now f s outer (Asks ask) so_far none is h =
    ask_first t before now (refusal (limit_of t) s.sends f.so_far.depth ask.judged) ask f s outer so_far none is h

some_reply : (o : Option Reply) (reply : Reply) → o ≡ None → o ≡ Some reply → ⊥
some_reply o reply a b = cc

no_list : (f : OpenValue) (outer : List OpenValue) → f ∷ outer ≡ [] → ⊥
no_list f outer h = cc

turn_first : (t : Terms) (before now : Option CacheList) (s : StateValue) (steps : List OpenValue) → s.steps ≡ steps
    → s.seeking ≡ None → s.ended ≡ None → none_open steps ≡ false
    → FirstServed t before s now → FirstServed t before (turn_in t s steps) now
turn_first t before now s [] at none still some first = cc
turn_first t before now s (f ∷ outer) at none still some (NotYet no_steps no_set waits untouched) =
    absurd (no_list f outer (sym at ∙ no_steps))
turn_first t before now s (f ∷ outer) at none still some (AtFirst k no_steps seeks query entries placed untouched) =
    absurd (no_list f outer (sym at ∙ no_steps))
turn_first t before now s (f ∷ outer) at none still some (Over reply ended facts) =
    absurd (some_reply s.ended reply still ended)
turn_first t before now s (f ∷ outer) at none still some (Behind so_far is h) =
    need_first t before now f s outer (turn f.phase) so_far none
    (sym (ap (λ steps. bottom steps None) at) ∙ sym (ap (bottom s.steps) none) ∙ is) h

module _ (t : Terms) (cached : List EntryValue) where
  -- a moving state has no answer
  pub moving_by : (pending : Option Ask) (seeking : Option SeekingValue) (steps : List OpenValue)
      (closed : List AskedValue) (n : ℕ)
      (sends : List Sent) (made : List MadeValue) (ended : Option Reply)
      → Stand t cached pending seeking steps closed n sends made ended
      → (is_none pending && (is_none seeking && not (none_open steps))) ≡ true → (ended ≡ None)
      × (none_open steps ≡ false)
  moving_by _ _ _ _ _ _ _ _ (Waits ask steps closed n sends made beneath few awaits each) on = cc
  moving_by _ _ _ _ _ _ _ _ (Seeks k outer below closed n m before after all first made beneath on_top is each) on = cc
  moving_by _ _ _ _ _ _ _ _ (Moves f outer closed n sends made beneath each) on = (refl, refl)
  moving_by _ _ _ _ _ _ _ _ (Done closed n sends made reply comes) on = cc

pub turns_first : (t : Terms) (cached : List EntryValue) (sends : List Sent) (before now : Option CacheList)
    (s u : StateValue) → Run t cached sends s → Turns t s u
    → FirstServed t before s now → FirstServed t before u now
turns_first t cached sends before now _ _ run (Here s u is) first =
    subst (λ x. FirstServed t before x now) (sym is) first
turns_first t cached sends before now _ _ run (Onward s m u turns on is) first =
    let there = run_stands t cached sends m (run_turns t cached sends s m run turns) in
    let still = moving_by t cached m.pending m.seeking m.steps m.closed m.sends sends m.made m.ended there on in
    subst (λ x. FirstServed t before x now) (sym is)
    (turn_first t before now m m.steps refl (unsought m on) still.0 still.1
    (turns_first t cached sends before now s m run turns first))

-- ---- a reply

-- the first reply
placed_first : (t : Terms) (before : Option CacheList) (told : Told) (left : List PlacedSet) → placed_sets told ≡ left
    → first_left left ≡ None → HeadServed t before told []
placed_first t before told [] is none = λ placed first may. nothing placed (sym (ap (λ xs. slice_get xs 0) is) ∙ first)
  where
    nothing : (placed : PlacedSet) → None ≡ Some placed → is_first_served [] ≡ true
    nothing placed h = cc
placed_first t before told (p ∷ left) is none = cc

left_head : (left : List PlacedSet) (placed : PlacedSet) → first_left left ≡ Some placed
    → slice_get left 0 ≡ Some placed
left_head [] placed h = cc
left_head (p ∷ left) placed h = h

own_first : (t : Terms) (before now : Option CacheList) (s : StateValue) (m : MessageValue) (empty : Bool)
    (o : Option PlacedSet) → s.steps ≡ [] → s.seeking ≡ None
    → IsUntouched s before now → first_left (judged_part 0 (told_by m)) ≡ o
    → FirstServed t before (next_in t (begun t.query 0 m empty) o s) now
own_first t before now s m empty None no_steps none untouched is =
    behind t before now (next_in t (begun t.query 0 m empty) None s) m []
    (next_alone t (begun t.query 0 m empty) None s no_steps none)
    (placed_first t before (told_by m) (judged_part 0 (told_by m)) (sym (judged_part-top (told_by m))) is)
own_first t before now s m empty (Some placed) no_steps none untouched is =
    AtFirst (record
    { so_far = record (begun t.query 0 m empty) { left = drop 1 (judged_part 0 (told_by m)) }; placed = placed })
    no_steps refl refl refl
    (ap (λ xs. slice_get xs 0) (sym (judged_part-top (told_by m))) ∙ left_head (judged_part 0 (told_by m)) placed is)
    (record { made = untouched.made; kept = untouched.kept; told = untouched.told })

first_by : (t : Terms) (before now : Option CacheList) (s : StateValue) (reply : Reply) (received : ReceivedValue)
    → s.steps ≡ [] → s.seeking ≡ None → IsUntouched s before now
    → received_value reply ≡ received → FirstServed t before (heard_by t s t.query true (depth_below []) received) now
first_by t before now s reply (Failed error) no_steps none untouched is =
    Over (Err error) refl (silent_error (λ a ending. TopServed t before a.trail) error ((silent reply error is).none))
first_by t before now s reply (Message m empty) no_steps none untouched is =
    by_class (foreign_record t.query (told_by m))
  where
    by_class : (o : Option Rr) → FirstServed t before (heard_own t s t.query m empty o) now
    by_class None =
        own_first t before now s m empty (first_left (judged_part 0 (told_by m))) no_steps none untouched refl
    by_class (Some r) = Over (Err (seen.ForeignClassRecord r.owner r.class r.rtype)) refl tt

-- any other
stepped_first : (t : Terms) (before now : Option CacheList) (s : StateValue) (step : AskedValue) (got : GotValue)
    (f : OpenValue) (outer : List OpenValue) (so_far : SoFar)
    → s.steps ≡ f ∷ outer → s.seeking ≡ None → bottom (f ∷ outer) None ≡ Some so_far
    → HeadServed t before (told_by so_far.message) so_far.entries
    → FirstServed t before (with_step t.judge step got s) now
stepped_first t before now s step got f outer so_far at none is h =
    let ref = Step (length s.closed) in
    Behind so_far
    (ap (λ steps. bottom (give t.judge ref got steps) s.seeking) at
    ∙ ap (bottom (give t.judge ref got (f ∷ outer))) none
    ∙ bottom_give t.judge ref got f outer None ∙ is) h

module _ (t : Terms) (before now : Option CacheList) where
  opened_first : (s : StateValue) (q : Question) (depth : ℕ) (m : MessageValue) (empty : Bool) (o : Option Rr)
      (f : OpenValue)
      (outer : List OpenValue) (so_far : SoFar) → s.steps ≡ f ∷ outer → s.seeking ≡ None
      → bottom (f ∷ outer) None ≡ Some so_far
      → HeadServed t before (told_by so_far.message) so_far.entries
      → FirstServed t before (heard_nested t s q depth m empty o) now
  opened_first s q depth m empty None f outer so_far at none is h =
      Behind so_far
      (next_over t (begun q depth m empty) (first_left (begun q depth m empty).left) s f outer None at ∙ is) h
  opened_first s q depth m empty (Some r) f outer so_far at none is h =
      stepped_first t before now s (judged_step depth q (Records (told_by m) empty) [] (foreign_ending r) [])
      (Answer None) f outer so_far at none is h

module _ (t : Terms) (before now : Option CacheList) where
  later_by : (s : StateValue) (q : Question) (judged : Bool) (received : ReceivedValue) (f : OpenValue)
      (outer : List OpenValue)
      (so_far : SoFar) → s.steps ≡ f ∷ outer → s.seeking ≡ None → bottom (f ∷ outer) None ≡ Some so_far
      → HeadServed t before (told_by so_far.message) so_far.entries
      → FirstServed t before (heard_by t s q judged (depth_below (f ∷ outer)) received) now
  later_by s q true (Failed error) f outer so_far at none is h =
      stepped_first t before now s (judged_step (f.so_far.depth + 1) q trails.Fault [] trails.Failed [])
      (Answer None) f outer so_far at none is h
  later_by s q true (Message m empty) f outer so_far at none is h =
      opened_first t before now s q (f.so_far.depth + 1) m empty
      (foreign_record q (told_by m)) f outer so_far at none is h
  later_by s q false (Failed error) f outer so_far at none is h =
      stepped_first t before now s (plain_step f.so_far.depth q trails.Fault trails.Failed)
      (Probe probes.Failed) f outer so_far at none is h
  later_by s q false (Message m empty) f outer so_far at none is h =
      stepped_first t before now s (plain_step f.so_far.depth q (Records (told_by m) empty) trails.Seen)
      (Probe (probe_of q.owner (Records (told_by m) empty)))
      f outer so_far at none is h

ask_same : (a b : Ask) → Some a ≡ Some b → a ≡ b
ask_same a b h = cc

reply_on : (t : Terms) (before now : Option CacheList) (s : StateValue) (reply : Reply) (ask : Ask)
    (steps : List OpenValue) → s.steps ≡ steps → s.pending ≡ Some ask → s.seeking ≡ None
    → s.ended ≡ None → FirstServed t before s now
    → FirstServed t before
    (heard_by t (no_more_waiting s) ask.query ask.judged (depth_below steps) (received_value reply)) now
reply_on t before now s reply ask [] at waits none still (NotYet no_steps no_set asks untouched) =
    let same = ask_same (judged_ask t.query) ask (sym asks ∙ waits) in
    subst (λ (a : Ask). FirstServed t before
    (heard_by t (no_more_waiting s) a.query a.judged (depth_below []) (received_value reply)) now) same
    (first_by t before now (no_more_waiting s) reply (received_value reply) no_steps none
    (record { made = untouched.made; kept = untouched.kept; told = untouched.told }) refl)
reply_on t before now s reply ask (f ∷ outer) at waits none still (NotYet no_steps no_set asks untouched) =
    absurd (no_list f outer (sym at ∙ no_steps))
reply_on t before now s reply ask steps at waits none still (AtFirst k no_steps seeks query entries placed untouched) =
    absurd (no_set k (sym none ∙ seeks))
  where
    no_set : (k : SeekingValue) → None ≡ Some k → ⊥
    no_set k h = cc
reply_on t before now s reply ask steps at waits none still (Over answer ended facts) =
    absurd (some_reply s.ended answer still ended)
reply_on t before now s reply ask [] at waits none still (Behind so_far is h) =
    absurd (bottom_none so_far (sym (ap (λ steps. bottom steps None) at) ∙ sym (ap (bottom s.steps) none) ∙ is))
reply_on t before now s reply ask (f ∷ outer) at waits none still (Behind so_far is h) =
    later_by t before now (no_more_waiting s) ask.query ask.judged (received_value reply) f outer so_far at none
    (sym (ap (λ steps. bottom steps None) at) ∙ sym (ap (bottom s.steps) none) ∙ is) h

waits_first : (t : Terms) (before now : Option CacheList) (s : StateValue) (reply : Reply) (ask : Ask) (o : Option Ask)
    → o ≡ Some ask → s.pending ≡ Some ask → s.seeking ≡ None
    → s.ended ≡ None → FirstServed t before s now → FirstServed t before (heard_in t s (received_value reply) o) now
waits_first t before now s reply ask None is waits none still first = cc
waits_first t before now s reply ask (Some a) is waits none still first =
    reply_on t before now s reply a s.steps refl (waits ∙ sym is) none still first

module _ (t : Terms) (cached : List EntryValue) where
  -- a state that waits for a reply has neither a set that waits nor an answer
  pub waiting_by : (pending : Option Ask) (seeking : Option SeekingValue) (steps : List OpenValue)
      (closed : List AskedValue) (n : ℕ)
      (sends : List Sent) (made : List MadeValue) (ended : Option Reply) (ask : Ask)
      → Stand t cached pending seeking steps closed n sends made ended → pending ≡ Some ask
      → (seeking ≡ None) × (ended ≡ None)
  waiting_by _ _ _ _ _ _ _ _ ask (Waits a steps closed n sends made beneath few awaits each) is = (refl, refl)
  waiting_by _ _ _ _ _ _ _ _ ask
      (Seeks k outer below closed n m before after all first made beneath on_top all_is each) is = cc
  waiting_by _ _ _ _ _ _ _ _ ask (Moves f outer closed n sends made beneath each) is = cc
  waiting_by _ _ _ _ _ _ _ _ ask (Done closed n sends made reply comes) is = cc

pub waiting_still : (t : Terms) (cached : List EntryValue) (sends : List Sent) (s : StateValue) (ask : Ask)
    → Run t cached sends s → s.pending ≡ Some ask
    → (s.seeking ≡ None) × (s.ended ≡ None)
waiting_still t cached sends s ask run is =
    waiting_by t cached s.pending s.seeking s.steps s.closed s.sends sends s.made s.ended ask
    (run_stands t cached sends s run) is

module _ (t : Terms) (cached : List EntryValue) where
  -- nor has one in which a set waits
  seeking_by : (pending : Option Ask) (seeking : Option SeekingValue) (steps : List OpenValue)
      (closed : List AskedValue) (n : ℕ) (sends : List Sent) (made : List MadeValue) (ended : Option Reply)
      (k : SeekingValue)
      → Stand t cached pending seeking steps closed n sends made ended → seeking ≡ Some k → ended ≡ None
  seeking_by _ _ _ _ _ _ _ _ k (Waits a steps closed n sends made beneath few awaits each) is = cc
  seeking_by _ _ _ _ _ _ _ _ k
      (Seeks it outer below closed n m before after all first made beneath on_top all_is each) is = refl
  seeking_by _ _ _ _ _ _ _ _ k (Moves f outer closed n sends made beneath each) is = cc
  seeking_by _ _ _ _ _ _ _ _ k (Done closed n sends made answer comes) is = cc

pub seeking_still : (t : Terms) (cached : List EntryValue) (sends : List Sent) (s : StateValue) (k : SeekingValue)
    → Run t cached sends s
    → s.seeking ≡ Some k → s.ended ≡ None
seeking_still t cached sends s k run is =
    seeking_by t cached s.pending s.seeking s.steps s.closed s.sends sends s.made s.ended k
    (run_stands t cached sends s run) is

module _ (t : Terms) (cached : List EntryValue) (sends : List Sent) where
  pub heard_first_set : (before now : Option CacheList) (s u : StateValue) (ask : Ask) (reply : Reply)
      → Run t cached sends s → (heard_run : Run t cached (sends ++ sent_now t s ask reply ∷ []) (heard t s reply))
      → s.pending ≡ Some ask
      → HasHeard t s reply u → FirstServed t before s now → FirstServed t before u now
  heard_first_set before now s u ask reply run heard_run waits h first =
      let still = waiting_still t cached sends s ask run waits in
      turns_first t cached (sends ++ sent_now t s ask reply ∷ []) before now (heard t s reply) u heard_run h.turns
      (waits_first t before now s reply ask s.pending waits waits still.0 still.1 first)
