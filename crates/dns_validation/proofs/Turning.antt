-- Each turn keeps where a validation stands.
use Rattle.std.proofs.Common.{ℕ, ◌≡◌, ◌≤◌, Bool, true, not, ◌&&◌, List, [], ◌∷◌, ◌++◌, length, Option, None, Some, map, reverse, append-nil, refl, sym, ap, subst, ◌∙◌}
use Rattle.std.specs.Option.{option_map}
use Rattle.dns_model.specs.declared.trail.AskRef.{AskRef}
use Rattle.dns_model.specs.declared.trail.AskRef.TheVariants.{Step}
use Rattle.dns_model.specs.Records.{Question}
use Rattle.dns_model.specs.Chains.{Judge}
use Rattle.dns_model.specs.SoundAnswers.{told_by}
use Rattle.dns_model.specs.Trails.{AskedValue, Records}
use Rattle.dns_rules.specs.Asking.{most_sends, judged_part}
use Rattle.dns_rules.specs.CacheEntries.{EntryValue}
use Rattle.dns_rules.specs.ChainedSets.{ChainedSet, bare}
use Rattle.dns_rules.specs.Derivation.{if_answered, judged_sets, with_entries, ending_by}
use Rattle.dns_rules.specs.DerivationParts.{asks_of_sets}
use Rattle.dns_rules.specs.Outcome.{Outcome, Given, NeedsZone, Denied, foreign_record}
use Rattle.dns_rules.proofs.ChainedLemmas.{AllStand, IsGoodAnswer}
use Rattle.dns_handle.specs.Errors.{Reply}
use Rattle.dns_flow.specs.declared.asks.Ask.{Ask}
use Rattle.dns_flow.specs.Leads.{entry_of}
use Rattle.dns_flow.specs.Phases.{NeedValue, SetEnds, StepEnds, Asks, Answer, judged_ask, turn}
use Rattle.dns_flow.proofs.Led.{IsGot}
use Rattle.dns_validation.specs.Requests.{request_for}
use Rattle.dns_validation.specs.Steps.{judged_step, given_sets, judged_answer}
use Rattle.dns_validation.specs.Machine.{Terms, SoFar, OpenValue, SeekingValue, MadeValue, StateValue, limit_of, entries_left, made_by, with_set, set_ended, answered, step_of, none_open, step_ended, findings, asked_by, nothing_got, refusal, turned, tick, limits_of}
use Rattle.dns_validation.specs.Runs.{Sent, is_none, moves}
use Rattle.dns_validation.specs.Comes.{IsStepOf, FoundBy, Judges}
use Rattle.dns_validation.proofs.Parts.{Part, step_more}
use Rattle.dns_validation.proofs.StepLines.{judged_step_holds}
use Rattle.dns_validation.proofs.GotLemmas.{context_at, step_answers, refused, allowed}
use Rattle.dns_validation.proofs.Judgings.{Judging, Next, asks_so_far, set_next, asks_of_set, step_judging, StepDone}
use Rattle.dns_validation.proofs.MadeLemmas.{AreMade, made_more}
use Rattle.dns_validation.proofs.Replies.{heard_message}
use Rattle.dns_validation.proofs.Stands.{IsHeard, IsOnTop, Open, Ground, Above, Stand, Waits, Seeks, Moves, Done, Stands, at_rest, on_top_with, stand_next, open_answered}

-- so many sends are allowed
open_few : (t : Terms) (cached : List EntryValue) (f : OpenValue) (outer : List OpenValue) (closed : List AskedValue)
    (n : ℕ) (sends : List Sent) → Open t cached (f ∷ outer) closed n sends
    → n ≤ most_sends
open_few t cached f outer closed n sends (Above _ _ _ _ _ _ _ _ _ _ _ h _) = h.most

-- ---- a set is judged

module _ (t : Terms) (cached : List EntryValue) (f : OpenValue) (outer : List OpenValue) (closed : List AskedValue)
    (n : ℕ) (sends : List Sent) where
  stand_set : (c : ChainedSet)
      (made : List MadeValue) (kept : List EntryValue) → Open t cached (f ∷ outer) closed n sends → AreMade closed made
      → turn f.phase ≡ SetEnds c
      → Stands t cached (set_ended t f c (at_rest closed outer n made kept)) sends
  stand_set c made kept
      (Above _ _ below _ k _ before after _ first beneath h all) each ends =
      let s = with_set f.so_far c (entry_of c.judged f.asked) f.cause in
      stand_next t cached s outer below closed k n before after sends first made kept s.left refl beneath
      (on_top_with t cached (Judging t cached closed f) (Next t cached closed s) f.so_far s (asks_so_far f)
      (asks_of_sets s.entries) outer below closed k n
      first after h (record { query = refl; depth = refl; message = refl; empty = refl }) (asks_of_set f c)
      (λ j. set_next t cached closed f c j ends))
      all each

  -- ---- an ask is refused, or waits for its reply

  stand_asked : (q : Question) (judged : Bool) (o : Option AskRef)
      (made : List MadeValue) (kept : List EntryValue) → Open t cached (f ∷ outer) closed n sends → AreMade closed made
      → turn f.phase ≡ Asks (record { query = q; judged = judged }) → refusal (limit_of t) n f.so_far.depth judged ≡ o
      → Stands t cached
      (asked_by t.judge o (record { query = q; judged = judged }) f (at_rest closed outer n made kept)) sends
  stand_asked q judged None made kept beneath each asks is =
      let fine = allowed t f.so_far n judged is in
      Waits (record { query = q; judged = judged }) (f ∷ outer) closed n sends made beneath fine.few
      (record { asks = asks; shallow = fine.shallow }) each
  stand_asked q judged (Some r) made kept beneath each asks is =
      let no = refused t cached closed f.so_far n q judged r is in
      let next = answered t.judge r (nothing_got judged) f in
      let done : Open t cached (next ∷ outer) closed n (sends ++ []) =
      open_answered t cached f outer closed closed n n sends [] (record { query = q; judged = judged }) r
      (nothing_got judged) beneath no.part
      (open_few t cached f outer closed n sends beneath) asks no.got in
      Moves next outer closed n sends made
      (subst (λ xs. Open t cached (next ∷ outer) closed n xs) (append-nil sends) done) each

-- ---- a step ends

-- the sets of a step answer for it where its answer is given
given_same : (q : Question) (depth : ℕ) (s : SoFar) (excuse : List AskRef) (o : Outcome)
    → bare s.sets ≡ with_entries (judged_part depth (told_by s.message)) s.entries
    → option_map bare (given_sets o s.sets)
    ≡ if_answered (ending_by o)
    (judged_sets (judged_step depth q (Records (told_by s.message) s.empty) s.entries (ending_by o) excuse))
given_same q depth s excuse (Given d) same = ap Some same
given_same q depth s excuse NeedsZone same = refl
given_same q depth s excuse (Denied p) same = refl

given_good : (j : Judge) (sets : List ChainedSet) (o : Outcome) → AllStand j sets → IsGoodAnswer j (given_sets o sets)
given_good j sets (Given d) stand = stand
given_good j sets NeedsZone stand = tt
given_good j sets (Denied p) stand = tt

step_sent : (t : Terms) (s : SoFar) (asked : List AskRef) (o : Outcome) (first : Sent) → IsHeard s first
    → first.request ≡ request_for t.options (judged_ask s.query)
    → IsStepOf t (step_of s asked o) first
step_sent t s asked o first h request = record {
  query = ap (λ (a : Ask). a.query) h.ask;
  judged = ap (λ (a : Ask). a.judged) h.ask;
  request = request ∙ ap (request_for t.options) (sym h.ask);
  depth = h.depth;
  heard = sym (heard_message first.reply s.message s.empty h.received);
  kept = h.kept;
}

module _ (t : Terms) (cached : List EntryValue) (f g : OpenValue) (outer : List OpenValue)
    (below closed : List AskedValue) (n m : ℕ) where
  -- the part of a step that ends
  step_part : (first : Sent) (after : List Sent) (o : Outcome)
      → IsOnTop t cached f (g ∷ outer) below closed n m first after → StepDone t cached closed f.so_far f.asked o
      → Part t cached below (closed ++ step_of f.so_far f.asked o ∷ []) (Step (length closed) ∷ []) n m (first ∷ after)
  step_part first after o h done =
      let s = f.so_far in
      step_more t cached below closed (step_of s f.asked o) n m first after
      (step_sent t s f.asked o first h.heard h.request) h.part h.few
      (judged_step_holds t.judge (limits_of t) cached closed s.depth s.query
      (told_by s.message) s.empty s.sets s.entries o f.asked h.judging.own done.judged done.concluded)

  -- it answers the step beneath it
  stand_nested : (before after all : List Sent) (first : Sent) (o : Outcome)
      (made : List MadeValue) → Open t cached (g ∷ outer) below n before
      → IsOnTop t cached f (g ∷ outer) below closed n m first after
      → all ≡ before ++ first ∷ after → AreMade closed made → turn f.phase ≡ StepEnds o
      → Stand t cached None None
      (answered t.judge (Step (length closed)) (Answer (given_sets o f.so_far.sets)) g ∷ outer)
      (closed ++ step_of f.so_far f.asked o ∷ []) m all
      (reverse (map (made_by (length closed)) (entries_left t f.so_far)) ++ made) None
  stand_nested before after all first o made beneath h is each ends =
      let s = f.so_far in
      let done = step_judging t cached closed f o h.judging ends in
      let grown = closed ++ step_of s f.asked o ∷ [] in
      let got : IsGot (context_at t cached grown g.so_far) (judged_ask s.query) (Step (length closed))
      (Answer (given_sets o s.sets)) =
      step_answers t cached closed g.so_far s.query s.depth (Records (told_by s.message) s.empty) s.entries
      (ending_by o) f.asked (given_sets o s.sets) h.deep (h.awaited.shallow refl)
      (given_same s.query s.depth s f.asked o done.judged.same) (given_good t.judge s.sets o done.judged.stand) in
      Moves (answered t.judge (Step (length closed)) (Answer (given_sets o s.sets)) g) outer grown m all
      (reverse (map (made_by (length closed)) (entries_left t s)) ++ made)
      (subst (λ xs. Open t cached
      (answered t.judge (Step (length closed)) (Answer (given_sets o s.sets)) g ∷ outer) grown m xs) (sym is)
      (open_answered t cached g outer below grown n m before (first ∷ after) (judged_ask s.query) (Step (length closed))
      (Answer (given_sets o s.sets)) beneath
      (step_part first after o h done) h.most h.awaited.asks got))
      (made_more t closed s f.asked o made done.judged.same each)

-- the last one makes the answer
top_found : (t : Terms) (cached : List EntryValue) (f : OpenValue) (closed : List AskedValue) (m : ℕ)
    (after all : List Sent) (first : Sent) (o : Outcome) → m ≤ most_sends
    → IsOnTop t cached f [] [] closed 0 m first after → all ≡ first ∷ after → turn f.phase ≡ StepEnds o
    → f.so_far.query ≡ t.query
    → FoundBy t cached all (findings closed f.so_far f.asked o)
top_found t cached f closed m after all first o few h is ends same =
    let s = f.so_far in
    let done = step_judging t cached closed f o h.judging ends in
    let At : Question → ℕ → Type 0 = λ q d. StepDone t cached closed (record s { query = q; depth = d }) f.asked o in
    let here : StepDone t cached closed (record s { query = t.query; depth = 0 }) f.asked o =
    subst (λ d. At t.query d) h.deep (subst (λ q. At q s.depth) same done) in
    record {
      first = first;
      others = after;
      are = is;
      begins = record {
        ask = h.heard.ask ∙ ap judged_ask same;
        request = h.request;
        depth = h.heard.depth ∙ h.deep;
        kept = h.heard.kept;
      };
      received = h.heard.received;
      own = subst (λ q. foreign_record q (told_by s.message) ≡ None) same h.judging.own;
      count = m;
      few = few;
      part = h.part.part;
      along = h.part.along;
      judged = here.judged;
      concluded = here.concluded;
    }

stand_last : (t : Terms) (cached : List EntryValue) (f : OpenValue) (closed : List AskedValue) (n : ℕ)
    (sends : List Sent) (o : Outcome) (made : List MadeValue)
    → Open t cached (f ∷ []) closed n sends → turn f.phase ≡ StepEnds o
    → Stand t cached None None [] [] n sends made
    (Some (judged_answer t.now f.so_far.query (findings closed f.so_far f.asked o)))
stand_last t cached f closed n sends o made (Above _ _ _ _ _ _ _ after _ first Ground h all) ends =
    let same : f.so_far.query ≡ t.query = ap (λ (a : Ask). a.query) h.awaited in
    Done [] n sends made (judged_answer t.now f.so_far.query (findings closed f.so_far f.asked o))
    (Judges (judged_answer t.now f.so_far.query (findings closed f.so_far f.asked o))
    (findings closed f.so_far f.asked o)
    (top_found t cached f closed n after sends first o h.most h all ends same)
    (ap (λ q. judged_answer t.now q (findings closed f.so_far f.asked o)) same))

module _ (t : Terms) (cached : List EntryValue) (f : OpenValue) where
  stand_ended : (outer : List OpenValue) (closed : List AskedValue)
      (n : ℕ) (sends : List Sent) (o : Outcome)
      (made : List MadeValue) (kept : List EntryValue) → Open t cached (f ∷ outer) closed n sends → AreMade closed made
      → turn f.phase ≡ StepEnds o
      → Stands t cached (step_ended t f.so_far f.asked o (at_rest closed outer n made kept)) sends
  stand_ended [] closed n sends o made kept beneath each ends =
      stand_last t cached f closed n sends o
      (reverse (map (made_by (length closed)) (entries_left t f.so_far)) ++ made) beneath ends
  stand_ended (g ∷ outer) closed n sends o made kept
      (Above _ _ below _ k _ before after _ first rest h all) each ends =
      stand_nested t cached f g outer below closed k n before after sends first o made rest h all each ends

  -- ---- a turn

  stand_need : (outer : List OpenValue) (closed : List AskedValue)
      (n : ℕ) (sends : List Sent) (need : NeedValue)
      (made : List MadeValue) (kept : List EntryValue) → Open t cached (f ∷ outer) closed n sends → AreMade closed made
      → turn f.phase ≡ need
      → Stands t cached (turned t f (at_rest closed outer n made kept) need) sends
  stand_need outer closed n sends (SetEnds c) made kept beneath each is =
      stand_set t cached f outer closed n sends c made kept beneath each is
  stand_need outer closed n sends (StepEnds o) made kept beneath each is =
      stand_ended outer closed n sends o made kept beneath each is
  stand_need outer closed n sends (Asks ask) made kept beneath each is =
      stand_asked t cached f outer closed n sends ask.query ask.judged
      (refusal (limit_of t) n f.so_far.depth ask.judged) made kept beneath each is refl

module _ (t : Terms) (cached : List EntryValue) where
  stand_turn : (pending : Option Ask) (seeking : Option SeekingValue)
      (steps : List OpenValue) (closed : List AskedValue) (n : ℕ)
      (sends : List Sent) (made : List MadeValue) (kept : List EntryValue) (ended : Option Reply)
      → Stand t cached pending seeking steps closed n sends made ended
      → (is_none pending && (is_none seeking && not (none_open steps))) ≡ true
      → Stands t cached (tick t (record {
        closed = closed;
        steps = steps;
        seeking = seeking;
        pending = pending;
        sends = n;
        made = made;
        kept = kept;
        ended = ended;
      })) sends
  stand_turn _ _ _ _ _ _ _ kept _ (Waits ask steps closed n sends made beneath few awaits each) on = cc
  stand_turn _ _ _ _ _ _ _ kept _
      (Seeks k outer below closed n m before after all first made beneath h is each) on = cc
  stand_turn _ _ _ _ _ _ _ kept _ (Moves f outer closed n sends made beneath each) on =
      stand_need t cached f outer closed n sends (turn f.phase) made kept beneath each refl
  stand_turn _ _ _ _ _ _ _ kept _ (Done closed n sends made reply comes) on = cc

pub stand_ticked : (t : Terms) (cached : List EntryValue) (s : StateValue) (sends : List Sent) → Stands t cached s sends
    → moves s ≡ true
    → Stands t cached (tick t s) sends
stand_ticked t cached s sends h on =
    stand_turn t cached s.pending s.seeking s.steps s.closed s.sends sends s.made s.kept s.ended h on
