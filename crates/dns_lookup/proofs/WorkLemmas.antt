-- How many sets are left to a validation: what was kept of one is sought at most so often before the next send.
use Rattle.std.proofs.Common.{ℕ, ◌+◌, ◌≡◌, ◌≤◌, ◌<◌, Bool, true, false, not, ◌&&◌, List, [], ◌∷◌, length, drop, Option, None, Some, refl, ap, subst, arith}
use Rattle.dns_model.specs.declared.trail.AskRef.{AskRef}
use Rattle.dns_model.specs.Chains.{Judge}
use Rattle.dns_model.specs.SoundAnswers.{PlacedSet}
use Rattle.dns_rules.specs.CacheEntries.{EntryValue}
use Rattle.dns_rules.specs.Outcome.{Outcome}
use Rattle.dns_cache.specs.declared.acceptance.Acceptance.{Acceptance}
use Rattle.dns_flow.specs.declared.asks.Ask.{Ask}
use Rattle.dns_flow.specs.Leads.{entry_of}
use Rattle.dns_flow.specs.Phases.{NeedValue, SetEnds, StepEnds, Asks, GotValue, turn}
use Rattle.dns_validation.specs.Machine.{Terms, SoFar, OpenValue, SeekingValue, StateValue, limit_of, none_open, first_left, next_in, went_on, step_ended, give, refusal, asked_by, turned, turn_in, serving, found_by_entry, found_in, found, with_set, served_set, served_entry, origin_of}
use Rattle.dns_validation.specs.Runs.{moves, is_none, Turns, Here, Onward, IsOut, HasTaken}
use Rattle.dns_lookup.specs.Driving.{kept_all}

-- those of the open steps, and of the step whose set waits, with that
left_open : List OpenValue → ℕ
left_open [] = 0
left_open (f ∷ outer) = length f.so_far.left + left_open outer

left_sought : Option SeekingValue → ℕ
left_sought None = 0
left_sought (Some k) = length k.so_far.left + 1

pub sets_left : StateValue → ℕ
sets_left s = left_sought s.seeking + left_open s.steps

-- the number of a step's sets that are left, or more by the one that is sought
next_left : (t : Terms) (so_far : SoFar) (left : List PlacedSet) (s : StateValue) → so_far.left ≡ left
    → s.seeking ≡ None
    → sets_left (next_in t so_far (first_left left) s) ≡ length left + left_open s.steps
unfolding sets_left left_open left_sought
next_left t so_far [] s is none =
    let here = ap length is in
    let sought = ap left_sought none in
    omega (arith, here, sought)
next_left t so_far (placed ∷ left) s is none =
    let here = ap (λ xs. length (drop 1 xs)) is in
    omega (arith, here)

went_left : (t : Terms) (so_far : SoFar) (s : StateValue) → s.seeking ≡ None
    → sets_left (went_on t so_far s) ≡ length so_far.left + left_open s.steps
went_left t so_far s none = next_left t so_far so_far.left s refl none

give_left : (j : Judge) (ask : AskRef) (got : GotValue) (steps : List OpenValue)
    → left_open (give j ask got steps) ≡ left_open steps
unfolding left_open
give_left j ask got [] = refl
give_left j ask got (f ∷ outer) = refl

sought_none : (o : Option SeekingValue) → o ≡ None → left_sought o ≡ 0
unfolding left_sought
sought_none None is = refl
sought_none (Some k) is = cc

end_left : (t : Terms) (so_far : SoFar) (asked : List AskRef) (o : Outcome) (s : StateValue) (steps : List OpenValue)
    → s.seeking ≡ None
    → sets_left (step_ended t so_far asked o (record s { steps = steps })) ≤ left_open steps
unfolding sets_left left_open
end_left t so_far asked o s [] none = let sought = sought_none s.seeking none in omega (arith, sought)
end_left t so_far asked o s (g ∷ outer) none = let sought = sought_none s.seeking none in omega (arith, sought)

ask_left : (j : Judge) (o : Option AskRef) (ask : Ask) (f : OpenValue) (s : StateValue) → s.seeking ≡ None
    → sets_left (asked_by j o ask f s) ≤ length f.so_far.left + left_open s.steps
unfolding sets_left left_open left_sought
ask_left j None ask f s none = let sought = ap left_sought none in omega (arith, sought)
ask_left j (Some r) ask f s none = let sought = ap left_sought none in omega (arith, sought)

need_left : (t : Terms) (f : OpenValue) (s : StateValue) (outer : List OpenValue) (need : NeedValue) → s.seeking ≡ None
    → sets_left (turned t f (record s { steps = outer }) need) ≤ length f.so_far.left + left_open outer
need_left t f s outer (SetEnds c) none =
    let here =
    went_left t (with_set f.so_far c (entry_of c.judged f.asked) f.cause) (record s { steps = outer }) none in
    omega (arith, here)
need_left t f s outer (StepEnds o) none = let here = end_left t f.so_far f.asked o s outer none in omega (arith, here)
need_left t f s outer (Asks ask) none =
    ask_left t.judge (refusal (limit_of t) s.sends f.so_far.depth ask.judged) ask f (record s { steps = outer }) none

no_steps : (s : StateValue) → s.steps ≡ [] → s.seeking ≡ None → sets_left s ≤ 0
unfolding sets_left left_open
no_steps s is none =
    let sought = sought_none s.seeking none in let steps = ap left_open is in omega (arith, sought, steps)

turn_left : (t : Terms) (s : StateValue) (steps : List OpenValue) → s.steps ≡ steps → s.seeking ≡ None
    → sets_left (turn_in t s steps) ≤ left_open steps
unfolding left_open
turn_left t s [] is none = no_steps s is none
turn_left t s (f ∷ outer) is none = need_left t f s outer (turn f.phase) none

left_of_steps : (s : StateValue) → left_open s.steps ≤ sets_left s
unfolding sets_left
left_of_steps s = omega arith

-- what is kept leaves as many
pub fewer_kept : (s m : StateValue) (n : ℕ) → m ≡ kept_all s → n < sets_left m → n < sets_left s
unfolding sets_left
fewer_kept s m n is less = subst (λ x. n < sets_left x) is less

-- only a state that seeks nothing moves
moving : (a b c : Bool) → (a && (b && c)) ≡ true → b ≡ true
moving true true c h = refl
moving true false c h = cc
moving false b c h = cc

none_some : {X : Type 0} (o : Option X) → is_none o ≡ true → o ≡ None
none_some None h = refl
none_some (Some x) h = cc

pub unsought : (s : StateValue) → moves s ≡ true → s.seeking ≡ None
unsought s on = none_some s.seeking (moving (is_none s.pending) (is_none s.seeking) (not (none_open s.steps)) on)

turns_left : (t : Terms) (s u : StateValue) → Turns t s u → sets_left u ≤ sets_left s
turns_left t _ _ (Here s u is) = let same = ap sets_left is in omega (arith, same)
turns_left t _ _ (Onward s m u turns on is) =
    let same = ap sets_left is in
    let one = turn_left t m m.steps refl (unsought m on) in
    let open_m = left_of_steps m in
    let rest = turns_left t s m turns in
    omega (arith, same, one, open_m, rest)

-- ---- what was kept of a set is told

rules_left : (t : Terms) (k : SeekingValue) (s : StateValue) → s.seeking ≡ None
    → sets_left (found_by_entry t k None s) ≤ length k.so_far.left + left_open s.steps
unfolding sets_left left_open
rules_left t k s none = let sought = sought_none s.seeking none in omega (arith, sought)

entry_left : (t : Terms) (k : SeekingValue) (o : Option EntryValue) (s : StateValue) → s.seeking ≡ None
    → sets_left (found_by_entry t k o s) ≤ length k.so_far.left + left_open s.steps
entry_left t k None s none = rules_left t k s none
entry_left t k (Some e) s none =
    let set = served_set k.placed e in
    let here = went_left t (with_set k.so_far set (served_entry (origin_of s.made e) set) None) s none in
    omega (arith, here)

of_sought : (s : StateValue) (k : SeekingValue) → s.seeking ≡ Some k
    → sets_left s ≡ length k.so_far.left + 1 + left_open s.steps
unfolding sets_left left_sought
of_sought s k is = let sought = ap left_sought is in omega (arith, sought)

found_left : (t : Terms) (given : Option (EntryValue × Acceptance)) (k : SeekingValue) (s : StateValue)
    (o : Option SeekingValue) → o ≡ Some k → s.seeking ≡ o
    → sets_left (found_in t given o s) < sets_left s
found_left t given k s None is at = cc
found_left t given k s (Some it) is at =
    let here = entry_left t it (serving t.judge it.so_far.query it.placed given) (record s { seeking = None }) refl in
    let there = of_sought s it at in
    omega (arith, here, there)

-- one fewer is left
pub taken_left : (t : Terms) (s u : StateValue) (given : Option (EntryValue × Acceptance)) (k : SeekingValue)
    → s.seeking ≡ Some k → HasTaken t s given u
    → sets_left u < sets_left s
taken_left t s u given k is h =
    let rest = turns_left t (found t given s) u h.turns in
    let one = found_left t given k s s.seeking is refl in
    omega (arith, rest, one)

settled_none : (pending : Option Ask) (seeking : Option SeekingValue) (steps : List OpenValue) → pending ≡ None
    → seeking ≡ None
    → (is_none pending && (is_none seeking && not (none_open steps))) ≡ false → steps ≡ []
settled_none None None [] a b h = refl
settled_none None None (f ∷ outer) a b h = cc
settled_none (Some ask) seeking steps a b h = cc
settled_none None (Some k) steps a b h = cc

-- none is left where memory ran out
pub out_left : (s u : StateValue) (k : SeekingValue) → IsOut u → s.seeking ≡ Some k → sets_left u < sets_left s
unfolding sets_left left_open left_sought
out_left s u k out is =
    let steps = ap left_open (settled_none u.pending u.seeking u.steps out.asks out.seeks out.moves) in
    let sought = ap left_sought out.seeks in
    let here = ap left_sought is in
    omega (arith, steps, sought, here)
