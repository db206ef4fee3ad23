-- Where a validation stands: the open steps on top of one another over what has ended, each with the part of the trail
-- that its asks
-- added.
use Rattle.std.proofs.Common.{ℕ, ◌+◌, ◌≡◌, ◌≤◌, ◌<◌, true, false, List, [], ◌∷◌, ◌++◌, Option, None, Some, append_assoc, append-nil, drop, refl, sym, ap, subst, ◌∙◌}
use Rattle.dns_model.specs.declared.trail.AskRef.{AskRef}
use Rattle.dns_model.specs.SoundAnswers.{PlacedSet}
use Rattle.dns_model.specs.Trails.{AskedValue}
use Rattle.dns_rules.specs.Asking.{most_sends}
use Rattle.dns_rules.specs.CacheEntries.{EntryValue}
use Rattle.dns_rules.specs.DerivationParts.{asks_of_sets}
use Rattle.dns_handle.specs.Errors.{Reply}
use Rattle.dns_flow.specs.declared.asks.Ask.{Ask}
use Rattle.dns_flow.specs.Phases.{GotValue, Asks, judged_ask, turn}
use Rattle.dns_flow.proofs.Led.{IsGot}
use Rattle.dns_validation.specs.Received.{Message, received_value, is_out_of_memory}
use Rattle.dns_validation.specs.Machine.{Terms, SoFar, OpenValue, SeekingValue, MadeValue, StateValue, limit_of, answered, ending_item, first_left, next_in}
use Rattle.dns_validation.specs.Runs.{Sent, request_in, depth_in}
use Rattle.dns_validation.specs.Comes.{Comes}
use Rattle.dns_validation.proofs.Parts.{Part, then_more}
use Rattle.dns_validation.proofs.GotLemmas.{context_at}
use Rattle.dns_validation.proofs.Judgings.{Judging, Next, Sought, asks_so_far, answered_judging, asks_of_answered, next_ending, next_sought}
use Rattle.dns_validation.proofs.MadeLemmas.{AreMade}

-- ---- the form

-- the ask of an open step
pub record Awaited (t : Terms) (f : OpenValue) (ask : Ask) : Type 0 where
  pub asks : turn f.phase ≡ Asks ask
  pub shallow : ask.judged ≡ true → f.so_far.depth + 1 ≤ limit_of t

-- the query is what the bottom asks for; another open step is asked for by the one beneath it
abbrev pub Awaits : Terms → List OpenValue → Ask → Type 0
Awaits t [] ask = ask ≡ judged_ask t.query
Awaits t (f ∷ outer) ask = Awaited t f ask

-- the send to which an open step is the answer
pub record IsHeard (s : SoFar) (sent : Sent) : Type 0 where
  pub ask : sent.ask ≡ judged_ask s.query
  pub depth : sent.depth ≡ s.depth
  pub received : received_value sent.reply ≡ Message s.message s.empty
  pub kept : is_out_of_memory sent.reply ≡ false

-- a step on top of others, of which more is known: the asks that it named led the trail from `below` to `closed`,
-- behind n sends and its
-- own, by further sends
pub record OnTop (t : Terms) (cached : List EntryValue) (Known : Type 0) (s : SoFar) (asks : List AskRef)
    (outer : List OpenValue)
    (below closed : List AskedValue) (n m : ℕ) (first : Sent) (after : List Sent) : Type 0 where
  pub part : Part t cached below closed asks (n + 1) m after
  pub few : n < most_sends
  pub most : m ≤ most_sends
  pub judging : Known
  pub heard : IsHeard s first
  pub request : first.request ≡ request_in t outer (judged_ask s.query)
  pub awaited : Awaits t outer (judged_ask s.query)
  pub deep : s.depth ≡ depth_in outer true

-- an open step
abbrev pub IsOnTop : Terms → List EntryValue → OpenValue → List OpenValue → List AskedValue → List AskedValue → ℕ → ℕ
    → Sent → List Sent → Type 0
IsOnTop t cached f outer below closed n m first after =
    OnTop t cached (Judging t cached closed f) f.so_far (asks_so_far f) outer below closed n m first after

-- open steps over the steps that have ended, behind so many sends, which are these in order
pub data Open (t : Terms) (cached : List EntryValue) : List OpenValue → List AskedValue → ℕ → List Sent → Type 0 where
  Ground : Open t cached [] [] 0 []
  Above : (f : OpenValue) (outer : List OpenValue) (below closed : List AskedValue) (n m : ℕ)
      (before after all : List Sent) (first : Sent)
      → Open t cached outer below n before → IsOnTop t cached f outer below closed n m first after
      → all ≡ before ++ first ∷ after
      → Open t cached (f ∷ outer) closed m all

-- the ask that waits, the set that waits for what was kept of it, the open steps, those that have ended, the number of
-- sends, these, what was
-- given out to be kept, and the answer
pub data Stand (t : Terms) (cached : List EntryValue) :
    Option Ask → Option SeekingValue → List OpenValue → List AskedValue → ℕ → List Sent → List MadeValue → Option Reply
    → Type 0 where
  Waits : (ask : Ask) (steps : List OpenValue) (closed : List AskedValue) (n : ℕ) (sends : List Sent)
      (made : List MadeValue)
      → Open t cached steps closed n sends → n < most_sends → Awaits t steps ask → AreMade closed made
      → Stand t cached (Some ask) None steps closed n sends made None
  Seeks : (k : SeekingValue) (outer : List OpenValue) (below closed : List AskedValue) (n m : ℕ)
      (before after all : List Sent) (first : Sent)
      (made : List MadeValue) → Open t cached outer below n before
      → OnTop t cached (Sought t cached closed k) k.so_far
      (asks_of_sets k.so_far.entries) outer below closed n m first after
      → all ≡ before ++ first ∷ after → AreMade closed made → Stand t cached None (Some k) outer closed m all made None
  Moves : (f : OpenValue) (outer : List OpenValue) (closed : List AskedValue) (n : ℕ) (sends : List Sent)
      (made : List MadeValue)
      → Open t cached (f ∷ outer) closed n sends → AreMade closed made
      → Stand t cached None None (f ∷ outer) closed n sends made None
  Done : (closed : List AskedValue) (n : ℕ) (sends : List Sent) (made : List MadeValue) (reply : Reply)
      → Comes t cached sends reply
      → Stand t cached None None [] closed n sends made (Some reply)

abbrev pub Stands : Terms → List EntryValue → StateValue → List Sent → Type 0
Stands t cached s sends = Stand t cached s.pending s.seeking s.steps s.closed s.sends sends s.made s.ended

-- ---- a step goes on

-- the step is the same one
pub record IsSameStep (s u : SoFar) : Type 0 where
  pub query : u.query ≡ s.query
  pub depth : u.depth ≡ s.depth
  pub message : u.message ≡ s.message
  pub empty : u.empty ≡ s.empty

module _ (t : Terms) (cached : List EntryValue) (Known More : Type 0) (s u : SoFar) (asks named : List AskRef)
    (outer : List OpenValue) (below closed : List AskedValue) (n m : ℕ) (first : Sent) where
  -- more is known of it
  pub on_top_with : (after : List Sent)
      → OnTop t cached Known s asks outer below closed n m first after → IsSameStep s u → named ≡ asks → (Known → More)
      → OnTop t cached More u named outer below closed n m first after
  on_top_with after h same is more = record {
    part = subst (λ xs. Part t cached below closed xs (n + 1) m after) (sym is) h.part;
    few = h.few;
    most = h.most;
    judging = more h.judging;
    heard = record {
      ask = h.heard.ask ∙ ap judged_ask (sym same.query);
      depth = h.heard.depth ∙ sym same.depth;
      received =
          h.heard.received ∙ ap (λ m. Message m s.empty) (sym same.message) ∙ ap (Message u.message) (sym same.empty);
      kept = h.heard.kept;
    };
    request = h.request ∙ ap (λ q. request_in t outer (judged_ask q)) (sym same.query);
    awaited = subst (λ q. Awaits t outer (judged_ask q)) (sym same.query) h.awaited;
    deep = same.depth ∙ h.deep;
  }

-- a state with these parts that waits for nothing
abbrev pub at_rest : List AskedValue → List OpenValue → ℕ → List MadeValue → List EntryValue → StateValue
at_rest closed steps n made kept = record {
  closed = closed;
  steps = steps;
  seeking = None;
  pending = None;
  sends = n;
  made = made;
  kept = kept;
  ended = None;
}

module _ (t : Terms) (cached : List EntryValue) (s : SoFar) (outer : List OpenValue) (below closed : List AskedValue)
    (n m : ℕ) (before after all : List Sent) (first : Sent) (made : List MadeValue) (kept : List EntryValue) where
  -- the next of its sets waits, or its ending begins
  pub stand_next : (left : List PlacedSet) → s.left ≡ left
      → Open t cached outer below n before
      → OnTop t cached (Next t cached closed s) s (asks_of_sets s.entries) outer below closed n m first after
      → all ≡ before ++ first ∷ after
      → AreMade closed made → Stands t cached (next_in t s (first_left left) (at_rest closed outer m made kept)) all
  stand_next [] none beneath h is each =
      Moves (ending_item t s) outer closed m all made
      (Above (ending_item t s) outer below closed n m before after all first beneath
      (on_top_with t cached (Next t cached closed s) (Judging t cached closed (ending_item t s)) s s
      (asks_of_sets s.entries)
      (asks_so_far (ending_item t s)) outer below closed n m first after h
      (record { query = refl; depth = refl; message = refl; empty = refl })
      (append-nil (asks_of_sets s.entries)) (λ k. next_ending t cached closed s k none)) is)
      each
  stand_next (placed ∷ left) some beneath h is each =
      let k : SeekingValue = record { so_far = record s { left = drop 1 s.left }; placed = placed } in
      Seeks k outer below closed n m before after all first made beneath
      (on_top_with t cached (Next t cached closed s) (Sought t cached closed k) s k.so_far (asks_of_sets s.entries)
      (asks_of_sets s.entries) outer below
      closed n m first after h (record { query = refl; depth = refl; message = refl; empty = refl }) refl
      (λ x. next_sought t cached closed s placed left x some))
      is each

-- ---- an answer is given to the innermost open step

module _ (t : Terms) (cached : List EntryValue) (f : OpenValue) (outer : List OpenValue)
    (below closed grown : List AskedValue) (k n m : ℕ) (first : Sent) (sends more : List Sent) (ask : Ask)
    (made : AskRef) where
  on_top_answered : (got : GotValue) → IsOnTop t cached f outer below closed k n first sends
      → Part t cached closed grown (made ∷ []) n m more
      → m ≤ most_sends → turn f.phase ≡ Asks ask → IsGot (context_at t cached grown f.so_far) ask made got
      → IsOnTop t cached (answered t.judge made got f) outer below grown k m first (sends ++ more)
  on_top_answered got h p most asks is =
      let added = p.part.more in
      let same : grown ≡ closed ++ added = p.part.grown in
      record {
        part = subst (λ xs. Part t cached below grown xs (k + 1) m (sends ++ more))
            (sym (asks_of_answered t f made got))
            (then_more t cached below closed grown (asks_so_far f) (made ∷ []) (k + 1) n m sends more h.part p);
        few = h.few;
        most = most;
        judging = subst (λ steps. Judging t cached steps (answered t.judge made got f)) (sym same)
            (answered_judging t cached closed added f ask made got h.judging asks
            (subst (λ steps. IsGot (context_at t cached steps f.so_far) ask made got) same is));
        heard = h.heard;
        request = h.request;
        awaited = h.awaited;
        deep = h.deep;
      }

module _ (t : Terms) (cached : List EntryValue) (f : OpenValue) (outer : List OpenValue)
    (closed grown : List AskedValue) (n m : ℕ) (sends more : List Sent) (ask : Ask) (made : AskRef) where
  pub open_answered : (got : GotValue) → Open t cached (f ∷ outer) closed n sends
      → Part t cached closed grown (made ∷ []) n m more
      → m ≤ most_sends → turn f.phase ≡ Asks ask
      → IsGot (context_at t cached grown f.so_far) ask made got
      → Open t cached (answered t.judge made got f ∷ outer) grown m (sends ++ more)
  open_answered got
      (Above _ _ below _ k _ before after _ first rest h all) p most asks is =
      Above (answered t.judge made got f) outer below grown k m before (after ++ more) (sends ++ more) first rest
      (on_top_answered t cached f outer below closed grown k n m first after more ask made got h p most asks is)
      (ap (λ xs. xs ++ more) all ∙ append_assoc before (first ∷ after) more)
