-- What turns and replies change of a validation: what it gives out, how many sets are left to it, and how many sends
-- it made.
use Rattle.std.proofs.Common.{ℕ, ◌+◌, ◌≡◌, Bool, true, false, List, [], ◌∷◌, ◌++◌, length, map, reverse, Option, None, Some, refl, sym, ap, subst, ◌∙◌, arith}
use Rattle.dns_model.specs.declared.trail.AskRef.{AskRef}
use Rattle.dns_model.specs.Records.{Rr, Question, MessageValue}
use Rattle.dns_model.specs.Chains.{Judge}
use Rattle.dns_model.specs.SoundAnswers.{PlacedSet, told_by}
use Rattle.dns_rules.specs.CacheEntries.{EntryValue}
use Rattle.dns_rules.specs.Outcome.{Outcome, foreign_record}
use Rattle.dns_cache.specs.CacheLists.{CacheList}
use Rattle.dns_cache.specs.declared.acceptance.Acceptance.{Acceptance}
use Rattle.dns_handle.specs.Errors.{Reply}
use Rattle.dns_flow.specs.declared.asks.Ask.{Ask}
use Rattle.dns_flow.specs.Leads.{entry_of}
use Rattle.dns_flow.specs.Phases.{NeedValue, SetEnds, StepEnds, Asks, turn}
use Rattle.dns_validation.specs.Received.{ReceivedValue, Message, Failed, received_value}
use Rattle.dns_validation.specs.Machine.{Terms, SoFar, OpenValue, SeekingValue, MadeValue, StateValue, limit_of, made_by, entries_left, first_left, next_in, step_ended, refusal, asked_by, turned, turn_in, tick, depth_below, heard_own, heard_nested, heard_by, no_more_waiting, heard_in, heard, serving, with_set, served_set, served_entry, origin_of, found_by_entry, found_in, found, begun}
use Rattle.dns_validation.specs.Runs.{Sent, Run, Begun, Ticked, Heard, Sought, Given, sent_now, Turns, Here, Onward, HasHeard, HasTaken}
use Rattle.dns_lookup.specs.Driving.{AreMade, AllComeFrom}
use Rattle.dns_lookup.proofs.OriginLemmas.{added, added_is, made_grown, come_grown}

-- ---- what is given out

-- it gives out nothing more, or what one step leaves
pub data Leaves (s u : StateValue) : Type 0 where
  Same : u.made ≡ s.made → u.kept ≡ s.kept → Leaves s u
  Grew : (n : ℕ) (es : List EntryValue) → u.made ≡ reverse (map (made_by n) es) ++ s.made → u.kept ≡ s.kept ++ es
      → Leaves s u

-- each entry that is to be kept is known as given out, and each that the cache tells comes from somewhere
pub record Known (before now : Option CacheList) (s : StateValue) : Type 0 where
  pub made : AreMade s.made s.kept
  pub come : AllComeFrom s.made s.kept before now

known_as : (before now : Option CacheList) (s u : StateValue) (made : List MadeValue) (kept : List EntryValue)
    → u.made ≡ made → u.kept ≡ kept
    → AreMade made kept → AllComeFrom made kept before now → Known before now u
known_as before now s u made kept one two are come = record {
  made = subst (λ m. AreMade m u.kept) (sym one) (subst (AreMade made) (sym two) are);
  come = subst (λ m. AllComeFrom m u.kept before now) (sym one)
      (subst (λ k. AllComeFrom made k before now) (sym two) come);
}

known_left : (before now : Option CacheList) (s u : StateValue) → Leaves s u → Known before now s → Known before now u
known_left before now s u (Same one two) k = known_as before now s u s.made s.kept one two k.made k.come
known_left before now s u (Grew n es one two) k =
    known_as before now s u (added n es s.made) (s.kept ++ es) (one ∙ sym (added_is n es s.made)) two
    (made_grown n es s.made s.kept k.made)
    (come_grown n es s.made s.kept before now k.come)

next_leaves : (t : Terms) (so_far : SoFar) (o : Option PlacedSet) (s u : StateValue) → s.made ≡ u.made → s.kept ≡ u.kept
    → Leaves u (next_in t so_far o s)
next_leaves t so_far None s u one two = Same one two
next_leaves t so_far (Some placed) s u one two = Same one two

end_leaves : (t : Terms) (f : OpenValue) (o : Outcome) (s : StateValue) (steps : List OpenValue)
    → Leaves s (step_ended t f.so_far f.asked o (record s { steps = steps }))
end_leaves t f o s [] = Grew (length s.closed) (entries_left t f.so_far) refl refl
end_leaves t f o s (g ∷ steps) = Grew (length s.closed) (entries_left t f.so_far) refl refl

ask_leaves : (j : Judge) (o : Option AskRef) (ask : Ask) (f : OpenValue) (s : StateValue) (steps : List OpenValue)
    → Leaves s (asked_by j o ask f (record s { steps = steps }))
ask_leaves j None ask f s steps = Same refl refl
ask_leaves j (Some r) ask f s steps = Same refl refl

need_leaves : (t : Terms) (f : OpenValue) (s : StateValue) (outer : List OpenValue) (need : NeedValue)
    → Leaves s (turned t f (record s { steps = outer }) need)
need_leaves t f s outer (SetEnds c) =
    let so_far = with_set f.so_far c (entry_of c.judged f.asked) f.cause in
    next_leaves t so_far (first_left so_far.left) (record s { steps = outer }) s refl refl
need_leaves t f s outer (StepEnds o) = end_leaves t f o s outer
need_leaves t f s outer (Asks ask) =
    ask_leaves t.judge (refusal (limit_of t) s.sends f.so_far.depth ask.judged) ask f s outer

turn_leaves : (t : Terms) (s : StateValue) (steps : List OpenValue) → Leaves s (turn_in t s steps)
turn_leaves t s [] = Same refl refl
turn_leaves t s (f ∷ outer) = need_leaves t f s outer (turn f.phase)

known_turns : (before now : Option CacheList) (t : Terms) (s u : StateValue) → Turns t s u → Known before now s
    → Known before now u
known_turns before now t _ _ (Here s u is) k = subst (Known before now) (sym is) k
known_turns before now t _ _ (Onward s m u turns on is) k =
    subst (Known before now) (sym is)
    (known_left before now m (tick t m) (turn_leaves t m m.steps) (known_turns before now t s m turns k))

own_leaves : (t : Terms) (s : StateValue) (q : Question) (m : MessageValue) (empty : Bool) (o : Option Rr)
    → Leaves s (heard_own t s q m empty o)
own_leaves t s q m empty None = next_leaves t (begun q 0 m empty) (first_left (begun q 0 m empty).left) s s refl refl
own_leaves t s q m empty (Some r) = Same refl refl

nested_leaves : (t : Terms) (s : StateValue) (q : Question) (depth : ℕ) (m : MessageValue) (empty : Bool)
    (o : Option Rr)
    → Leaves s (heard_nested t s q depth m empty o)
nested_leaves t s q depth m empty None =
    next_leaves t (begun q depth m empty) (first_left (begun q depth m empty).left) s s refl refl
nested_leaves t s q depth m empty (Some r) = Same refl refl

reply_leaves : (t : Terms) (s : StateValue) (q : Question) (judged : Bool) (o : Option ℕ) (received : ReceivedValue)
    → Leaves s (heard_by t s q judged o received)
reply_leaves t s q true None (Failed error) = Same refl refl
reply_leaves t s q true None (Message m empty) = own_leaves t s q m empty (foreign_record q (told_by m))
reply_leaves t s q true (Some depth) (Failed error) = Same refl refl
reply_leaves t s q true (Some depth) (Message m empty) =
    nested_leaves t s q (depth + 1) m empty (foreign_record q (told_by m))
reply_leaves t s q false None received = Same refl refl
reply_leaves t s q false (Some depth) (Failed error) = Same refl refl
reply_leaves t s q false (Some depth) (Message m empty) = Same refl refl

known_reply : (before now : Option CacheList) (t : Terms) (s : StateValue) (received : ReceivedValue) (o : Option Ask)
    → Known before now s
    → Known before now (heard_in t s received o)
known_reply before now t s received None k = k
known_reply before now t s received (Some ask) k =
    known_left before now (no_more_waiting s)
    (heard_by t (no_more_waiting s) ask.query ask.judged (depth_below s.steps) received)
    (reply_leaves t (no_more_waiting s) ask.query ask.judged (depth_below s.steps) received)
    (record { made = k.made; come = k.come })

-- also after a reply, and after what was kept
pub known_heard : (before now : Option CacheList) (t : Terms) (s u : StateValue) (reply : Reply) → HasHeard t s reply u
    → Known before now s → Known before now u
known_heard before now t s u reply h k =
    known_turns before now t (heard t s reply) u h.turns (known_reply before now t s (received_value reply) s.pending k)

entry_leaves : (t : Terms) (k : SeekingValue) (o : Option EntryValue) (s : StateValue)
    → Leaves s (found_by_entry t k o s)
entry_leaves t k None s = Same refl refl
entry_leaves t k (Some e) s =
    let set = served_set k.placed e in
    let so_far = with_set k.so_far set (served_entry (origin_of s.made e) set) None in
    next_leaves t so_far (first_left so_far.left) s s refl refl

sought_leaves : (s u : StateValue) → Leaves (record s { seeking = None }) u → Leaves s u
sought_leaves s u (Same one two) = Same one two
sought_leaves s u (Grew n es one two) = Grew n es one two

found_leaves : (t : Terms) (given : Option (EntryValue × Acceptance)) (o : Option SeekingValue) (s : StateValue)
    → Leaves s (found_in t given o s)
found_leaves t given None s = Same refl refl
found_leaves t given (Some k) s =
    sought_leaves s (found_by_entry t k (serving t.judge k.so_far.query k.placed given) (record s { seeking = None }))
    (entry_leaves t k (serving t.judge k.so_far.query k.placed given) (record s { seeking = None }))

pub known_taken : (before now : Option CacheList) (t : Terms) (s u : StateValue)
    (given : Option (EntryValue × Acceptance)) → HasTaken t s given u → Known before now s
    → Known before now u
known_taken before now t s u given h k =
    known_turns before now t (found t given s) u h.turns
    (known_left before now s (found t given s) (found_leaves t given s.seeking s) k)

-- ---- how many sends

end_sends : (t : Terms) (f : SoFar) (asked : List AskRef) (o : Outcome) (s : StateValue) (steps : List OpenValue)
    → (step_ended t f asked o (record s { steps = steps })).sends ≡ s.sends
end_sends t f asked o s [] = refl
end_sends t f asked o s (g ∷ outer) = refl

ask_sends : (j : Judge) (o : Option AskRef) (ask : Ask) (f : OpenValue) (s : StateValue)
    → (asked_by j o ask f s).sends ≡ s.sends
ask_sends j None ask f s = refl
ask_sends j (Some r) ask f s = refl

next_sends : (t : Terms) (so_far : SoFar) (o : Option PlacedSet) (s : StateValue)
    → (next_in t so_far o s).sends ≡ s.sends
next_sends t so_far None s = refl
next_sends t so_far (Some placed) s = refl

need_sends : (t : Terms) (f : OpenValue) (s : StateValue) (outer : List OpenValue) (need : NeedValue)
    → (turned t f (record s { steps = outer }) need).sends ≡ s.sends
need_sends t f s outer (SetEnds c) =
    let so_far = with_set f.so_far c (entry_of c.judged f.asked) f.cause in
    next_sends t so_far (first_left so_far.left) (record s { steps = outer })
need_sends t f s outer (StepEnds o) = end_sends t f.so_far f.asked o s outer
need_sends t f s outer (Asks ask) =
    ask_sends t.judge (refusal (limit_of t) s.sends f.so_far.depth ask.judged) ask f (record s { steps = outer })

turn_sends : (t : Terms) (s : StateValue) (steps : List OpenValue) → (turn_in t s steps).sends ≡ s.sends
turn_sends t s [] = refl
turn_sends t s (f ∷ outer) = need_sends t f s outer (turn f.phase)

turns_sends : (t : Terms) (s u : StateValue) → Turns t s u → u.sends ≡ s.sends
turns_sends t _ _ (Here s u is) = ap (λ (x : StateValue). x.sends) is
turns_sends t _ _ (Onward s m u turns on is) =
    ap (λ (x : StateValue). x.sends) is ∙ turn_sends t m m.steps ∙ turns_sends t s m turns

own_sends : (t : Terms) (s : StateValue) (q : Question) (m : MessageValue) (empty : Bool) (o : Option Rr)
    → (heard_own t s q m empty o).sends ≡ s.sends
own_sends t s q m empty None = next_sends t (begun q 0 m empty) (first_left (begun q 0 m empty).left) s
own_sends t s q m empty (Some r) = refl

nested_sends : (t : Terms) (s : StateValue) (q : Question) (depth : ℕ) (m : MessageValue) (empty : Bool) (o : Option Rr)
    → (heard_nested t s q depth m empty o).sends ≡ s.sends
nested_sends t s q depth m empty None = next_sends t (begun q depth m empty) (first_left (begun q depth m empty).left) s
nested_sends t s q depth m empty (Some r) = refl

reply_sends : (t : Terms) (s : StateValue) (q : Question) (judged : Bool) (o : Option ℕ) (received : ReceivedValue)
    → (heard_by t s q judged o received).sends ≡ s.sends
reply_sends t s q true None (Failed error) = refl
reply_sends t s q true None (Message m empty) = own_sends t s q m empty (foreign_record q (told_by m))
reply_sends t s q true (Some depth) (Failed error) = refl
reply_sends t s q true (Some depth) (Message m empty) =
    nested_sends t s q (depth + 1) m empty (foreign_record q (told_by m))
reply_sends t s q false None received = refl
reply_sends t s q false (Some depth) (Failed error) = refl
reply_sends t s q false (Some depth) (Message m empty) = refl

waiting_sends : (t : Terms) (s : StateValue) (o : Option Ask) (ask : Ask) (received : ReceivedValue) → o ≡ Some ask
    → (heard_in t s received o).sends ≡ s.sends + 1
waiting_sends t s None ask received is = cc
waiting_sends t s (Some q) ask received is =
    reply_sends t (no_more_waiting s) q.query q.judged (depth_below s.steps) received

-- a reply counts one
pub heard_sends : (t : Terms) (s u : StateValue) (ask : Ask) (reply : Reply) → s.pending ≡ Some ask
    → HasHeard t s reply u → u.sends ≡ s.sends + 1
heard_sends t s u ask reply is h =
    turns_sends t (heard t s reply) u h.turns ∙ waiting_sends t s s.pending ask (received_value reply) is

entry_sends : (t : Terms) (k : SeekingValue) (o : Option EntryValue) (s : StateValue)
    → (found_by_entry t k o s).sends ≡ s.sends
entry_sends t k None s = refl
entry_sends t k (Some e) s =
    let set = served_set k.placed e in
    let so_far = with_set k.so_far set (served_entry (origin_of s.made e) set) None in
    next_sends t so_far (first_left so_far.left) s

found_sends : (t : Terms) (given : Option (EntryValue × Acceptance)) (o : Option SeekingValue) (s : StateValue)
    → (found_in t given o s).sends ≡ s.sends
found_sends t given None s = refl
found_sends t given (Some k) s = entry_sends t k (serving t.judge k.so_far.query k.placed given) (record s { seeking = None })

one_longer : {X : Type 0} (xs : List X) (x : X) → length (xs ++ x ∷ []) ≡ length xs + 1
one_longer [] x = refl
one_longer (y ∷ xs) x = let rest = one_longer xs x in omega (arith, rest)

-- a run counts its sends
pub run_counts : (t : Terms) (cached : List EntryValue) (sends : List Sent) (s : StateValue) → Run t cached sends s
    → s.sends ≡ length sends
run_counts t cached _ _ (Begun s is) = ap (λ (x : StateValue). x.sends) is
run_counts t cached _ _ (Ticked sends s u run on is) =
    ap (λ (x : StateValue). x.sends) is ∙ turn_sends t s s.steps ∙ run_counts t cached sends s run
run_counts t cached _ _ (Heard sends all s u ask reply run waits kept more is) =
    ap (λ (x : StateValue). x.sends) is ∙ waiting_sends t s s.pending ask (received_value reply) waits
    ∙ ap (λ n. n + 1) (run_counts t cached sends s run)
    ∙ sym (one_longer sends (sent_now t s ask reply)) ∙ ap length (sym more)
run_counts t cached _ _ (Sought sends s u k given run waits among is) =
    ap (λ (x : StateValue). x.sends) is ∙ found_sends t given s.seeking s ∙ run_counts t cached sends s run
run_counts t cached _ _ (Given sends s u run is) = ap (λ (x : StateValue). x.sends) is ∙ run_counts t cached sends s run
