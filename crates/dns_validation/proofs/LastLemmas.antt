-- What a step leaves last is what was found of the last of its sets of which anything was found.
use Rattle.std.proofs.Common.{ℕ, ◌≡◌, Bool, true, false, not, ◌&&◌, ◌||◌, cond, is_some, List, [], ◌∷◌, ◌++◌, Option, None, Some, Ok, Err, slice_get, reverse, if◌then◌else◌, append_assoc, refl, sym, ap, ◌∙◌, subst}
use Rattle.std.specs.Option.{option_map}
use Rattle.std.specs.List.{AllByRecursion, cons_option, filter, filter_map, list_any, zip}
use Rattle.std.proofs.lemmas.Bool.{and_from}
use Rattle.std.proofs.lemmas.List.{reverse-append}
use Rattle.dns_model.specs.declared.proof.Proof.{Proof}
use Rattle.dns_model.specs.declared.proof.Proof.TheVariants as proof
use Rattle.dns_model.specs.declared.trail.AskRef.{AskRef}
use Rattle.dns_model.specs.Records.{Question}
use Rattle.dns_model.specs.SoundAnswers.{ChainValue, PlacedSet, Told, is_secure, told_by}
use Rattle.dns_model.specs.Trails.{AskedValue, JudgedSetValue}
use Rattle.dns_rules.specs.Asking.{judged_part}
use Rattle.dns_rules.specs.CacheEntries.{EntryValue, Found, mark_of, sig_of}
use Rattle.dns_rules.specs.CacheKeys.{key_of}
use Rattle.dns_rules.specs.ChainedSets.{ChainedSet, bare, stands}
use Rattle.dns_rules.specs.Derivation.{StepContext, with_entries}
use Rattle.dns_rules.specs.DerivationParts.{with_entry}
use Rattle.dns_rules.specs.MarkedSets.{MarkedSet, decider}
use Rattle.dns_rules.specs.Outcome.{Outcome}
use Rattle.dns_rules.specs.ProofErrors.{ProofErrorKindValue}
use Rattle.dns_rules.specs.Serving.{has_place, judged_as, links_of, proves_set}
use Rattle.dns_rules.proofs.StayLemmas.{later_step_context}
use Rattle.dns_cache.specs.Expiry.{expires_at}
use Rattle.dns_handle.specs.Errors.{Reply}
use Rattle.dns_cache.specs.Kinds.{because}
use Rattle.dns_cache.specs.Proofs.{ttl_by, proved_whole, excused}
use Rattle.dns_flow.specs.Causes.{found_of, is_net}
use Rattle.dns_flow.specs.CauseRows.{ask_failed}
use Rattle.dns_flow.specs.Leads.{entry_of}
use Rattle.dns_flow.specs.declared.asks.Ask.{Ask}
use Rattle.dns_flow.specs.Phases.{NeedValue, SetEnds, StepEnds, Asks, turn}
use Rattle.dns_flow.proofs.CauseNets.{cause_net}
use Rattle.dns_flow.proofs.Founds.{found_mark, found_sig}
use Rattle.dns_validation.specs.LastKept.{is_found, last_found, IsOfSet, IsKeptLast, LeavesLast}
use Rattle.dns_validation.specs.Machine.{Terms, MadeValue, OpenValue, SeekingValue, SoFar, StateValue, asked_by, chain_of, entries_left, entry_by, entry_if, findings, first_left, is_kept, limit_of, next_in, none_open, refusal, set_ended, step_ended, tick, turned, with_set}
use Rattle.dns_validation.specs.Runs.{Sent, Run, Turns, Here, Onward, is_none, moves}
use Rattle.dns_validation.specs.Steps.{judged_answer}
use Rattle.dns_validation.proofs.CausedSets.{HasCause, AreCaused, caused_later}
use Rattle.dns_validation.proofs.FoundLemmas.{head_same, no_head, no_some, no_tail, no_truth, some_same, tail_same}
use Rattle.dns_validation.proofs.GotLemmas.{context_at}
use Rattle.dns_validation.proofs.Judgings.{Judging, step_judging}
use Rattle.dns_validation.proofs.RunLemmas.{run_stands, run_turns}
use Rattle.dns_validation.proofs.Stands.{Open, Ground, Above, Stand, Waits, Seeks, Moves, Done, Stands, at_rest}

-- ---- what is kept

kept_by : (ttl : Option ℕ) (mark : Proof) (sig : Option ℕ) (cause : ProofErrorKindValue)
    → is_kept (if is_secure mark then Ok (record proved_whole { adjusted_ttl = ttl; rrsig_index = sig })
    else if is_some sig then Ok (record excused { proof = mark; rrsig_index = sig })
    else Err (because mark cause))
    ≡ (is_secure mark || (is_some sig || not (is_net cause)))
kept_by ttl proof.Secure sig cause = refl
kept_by ttl proof.Insecure None cause = refl
kept_by ttl proof.Insecure (Some n) cause = refl
kept_by ttl proof.Bogus None cause = refl
kept_by ttl proof.Bogus (Some n) cause = refl
kept_by ttl proof.Indeterminate None cause = refl
kept_by ttl proof.Indeterminate (Some n) cause = refl

kept_found : (now : ℕ) (judged : MarkedSet) (cause : ProofErrorKindValue)
    → is_kept (found_of now judged cause) ≡ (is_secure judged.mark || (is_some judged.sig || not (is_net cause)))
unfolding found_of
kept_found now judged cause = kept_by (option_map (ttl_by now judged.set) (decider judged)) judged.mark judged.sig cause

-- ---- one set

-- a set of which something was found leaves an entry, and no other does
pub data OneLeft (t : Terms) (q : Question) (trail : List AskedValue) (p : PlacedSet) (e : JudgedSetValue)
    (left : Option EntryValue) : Type 0 where
  Leaves : (entry : EntryValue) → is_found trail e ≡ true → left ≡ Some entry → IsOfSet t q p e entry
      → OneLeft t q trail p e left
  LeavesNone : is_found trail e ≡ false → left ≡ None → OneLeft t q trail p e left

links_back : (c : ChainedSet) (b : Bool) → b ≡ true
    → links_of
    (if b then Some
    (let x : ChainValue = record { section = c.judged.section; links = c.chain } in x) else None) ≡ c.chain
links_back c true is = refl
links_back c false is = cc

-- what was found is said of the set as it was judged
judged_again : (p : PlacedSet) (e : JudgedSetValue) (found : Found) → mark_of found ≡ e.mark → sig_of found ≡ e.sig
    → judged_as p found ≡ with_entry (p, e)
judged_again p e found mark sig =
    ap (λ m. (let x : MarkedSet = record { section = p.section; set = p.set; mark = m; sig = sig_of found } in x)) mark
    ∙ ap (λ s. (let x : MarkedSet = record { section = p.section; set = p.set; mark = e.mark; sig = s } in x)) sig

holds_if : (t : Terms) (p : PlacedSet) (e : JudgedSetValue) (c : ChainedSet) (found : Found) (b : Bool)
    → is_secure c.judged.mark ≡ b
    → c.judged ≡ with_entry (p, e) → mark_of found ≡ e.mark → sig_of found ≡ e.sig → has_place p.set e.sig ≡ true
    → (if b then proves_set t.judge c.judged c.chain else true) ≡ true
    → (if b then has_place p.set (sig_of found) && proves_set t.judge (judged_as p found)
    (links_of (chain_of c)) else true) ≡ true
holds_if t p e c found false is same mark sig place stand = refl
holds_if t p e c found true is same mark sig place stand =
    and_from (has_place p.set (sig_of found)) (proves_set t.judge (judged_as p found) (links_of (chain_of c)))
    (ap (has_place p.set) sig ∙ place)
    (ap (λ m. proves_set t.judge m (links_of (chain_of c))) (judged_again p e found mark sig ∙ sym same)
    ∙ ap (proves_set t.judge c.judged) (links_back c (is_secure c.judged.mark) is) ∙ stand)

-- what is said of a set in the entry that it leaves
of_set : (t : Terms) (q : Question) (p : PlacedSet) (e : JudgedSetValue) (c : ChainedSet) (cause : ProofErrorKindValue)
    → c.judged ≡ with_entry (p, e)
    → stands t.judge c ≡ true → has_place p.set e.sig ≡ true
    → IsOfSet t q p e (entry_by t q c (found_of t.now c.judged cause))
of_set t q p e c cause same stand place = record {
  holds =
      ap (λ m. if is_secure m then has_place p.set (sig_of (found_of t.now c.judged cause))
      && proves_set t.judge (judged_as p (found_of t.now c.judged cause)) (links_of (chain_of c)) else true)
      (found_mark t.now c.judged cause)
      ∙ holds_if t p e c (found_of t.now c.judged cause) (is_secure c.judged.mark) refl same
      (found_mark t.now c.judged cause ∙ ap (λ m. m.mark) same)
      (found_sig t.now c.judged cause ∙ ap (λ m. m.sig) same) place stand;
  key = ap (λ m. key_of q m.set) same;
  mark = found_mark t.now c.judged cause ∙ ap (λ m. m.mark) same;
  sig = found_sig t.now c.judged cause ∙ ap (λ m. m.sig) same;
  expires = ap (λ m. expires_at t.ranges t.now m.set (found_of t.now c.judged cause) (chain_of c)) same;
}

left_if : (t : Terms) (q : Question) (trail : List AskedValue) (p : PlacedSet) (e : JudgedSetValue) (entry : EntryValue)
    (kept found : Bool)
    → is_found trail e ≡ found → kept ≡ found → IsOfSet t q p e entry
    → OneLeft t q trail p e (if kept then Some entry else None)
left_if t q trail p e entry kept true is same of = Leaves entry is (ap (λ b. if b then Some entry else None) same) of
left_if t q trail p e entry kept false is same of = LeavesNone is (ap (λ b. if b then Some entry else None) same)

pub one_left : (t : Terms) (q : Question) (g : StepContext) (told : Told) (p : PlacedSet) (e : JudgedSetValue)
    (c : ChainedSet)
    (cause : Option ProofErrorKindValue) → c.judged ≡ with_entry (p, e) → stands t.judge c ≡ true
    → HasCause g told p e cause
    → OneLeft t q g.earlier p e (entry_if t q (c, cause))
one_left t q g told p e c None same stand h =
    LeavesNone
    (ap (λ b. b && (is_secure e.mark || (is_some e.sig || not (list_any (ask_failed g.earlier) e.asked)))) h) refl
one_left t q g told p e c (Some cause) same stand h =
    let way = h.1.1 in
    let failed = list_any (ask_failed g.earlier) e.asked in
    let net : is_net cause ≡ failed = cause_net g told p e.asked way.phase cause way.led way.caused in
    let kept : is_kept (found_of t.now c.judged cause) ≡ is_found g.earlier e =
    kept_found t.now c.judged cause
    ∙ ap (λ b. is_secure c.judged.mark || (is_some c.judged.sig || not b)) net
    ∙ ap (λ m. is_secure m.mark || (is_some m.sig || not failed)) same
    ∙ sym (ap (λ b. b && (is_secure e.mark || (is_some e.sig || not failed))) h.0) in
    left_if t q g.earlier p e (entry_by t q c (found_of t.now c.judged cause)) (is_kept (found_of t.now c.judged cause))
    (is_found g.earlier e) refl kept
    (of_set t q p e c cause same stand h.1.0)

-- ---- the sets of a step

-- What holds of no sets and no entries, and of one of each more, holds of the sets of a step of which anything was found and of
-- the entries that it leaves.
module _ (t : Terms) (q : Question) (Holds : List (PlacedSet × JudgedSetValue) → List EntryValue → Type 0)
    (of_none : Holds [] [])
    (of_more : (p : PlacedSet) (e : JudgedSetValue) (entry : EntryValue) (found : List (PlacedSet × JudgedSetValue))
    (left : List EntryValue) → IsOfSet t q p e entry → Holds found left → Holds ((p, e) ∷ found) (entry ∷ left)) where
  one_behind : (trail : List AskedValue) (p : PlacedSet) (e : JudgedSetValue) (o : Option EntryValue)
      (found : List (PlacedSet × JudgedSetValue)) (left : List EntryValue) → OneLeft t q trail p e o
      → Holds found left
      → Holds (cond (is_found trail e) ((p, e) ∷ found) found) (cons_option o left)
  one_behind trail p e o found left (LeavesNone not_found none) rest =
      subst (λ b. Holds (cond b ((p, e) ∷ found) found) (cons_option o left)) (sym not_found)
      (subst (λ x. Holds found (cons_option x left)) (sym none) rest)
  one_behind trail p e o found left (Leaves entry is some of) rest =
      subst (λ b. Holds (cond b ((p, e) ∷ found) found) (cons_option o left)) (sym is)
      (subst (λ x. Holds ((p, e) ∷ found) (cons_option x left)) (sym some) (of_more p e entry found left of rest))

  pub all_left : (g : StepContext) (told : Told) (ps : List PlacedSet) (es : List JudgedSetValue)
      (sets : List ChainedSet) (causes : List (Option ProofErrorKindValue)) → bare sets ≡ with_entries ps es
      → AllByRecursion (λ c. stands t.judge c ≡ true) sets
      → AreCaused g told ps es causes
      → Holds (filter (λ (x : PlacedSet × JudgedSetValue). is_found g.earlier x.1) (zip ps es))
      (filter_map (entry_if t q) (zip sets causes))
  all_left g told [] [] [] [] same stand h = of_none
  all_left g told [] [] (c ∷ sets) [] same stand h = absurd (no_head same)
  all_left g told [] [] sets (cause ∷ causes) same stand h = absurd h
  all_left g told [] (e ∷ es) sets causes same stand h = absurd h
  all_left g told (p ∷ ps) [] sets causes same stand h = absurd h
  all_left g told (p ∷ ps) (e ∷ es) sets [] same stand h = absurd h
  all_left g told (p ∷ ps) (e ∷ es) [] (cause ∷ causes) same stand h = absurd (no_tail same)
  all_left g told (p ∷ ps) (e ∷ es) (c ∷ sets) (cause ∷ causes) same stand h =
      let one : c.judged ≡ with_entry (p, e) = head_same same in
      let rest : bare sets ≡ with_entries ps es = tail_same same in
      one_behind g.earlier p e (entry_if t q (c, cause))
      (filter (λ (x : PlacedSet × JudgedSetValue). is_found g.earlier x.1) (zip ps es))
      (filter_map (entry_if t q) (zip sets causes)) (one_left t q g told p e c cause one stand.0 h.0)
      (all_left g told ps es sets causes rest stand.1 h.1)

-- the last of these sets leaves the last of these entries
data LastOf (t : Terms) (q : Question) (found : List (PlacedSet × JudgedSetValue))
    (left : List EntryValue) : Type 0 where
  NoneOf : found ≡ [] → left ≡ [] → LastOf t q found left
  OneOf : (before : List (PlacedSet × JudgedSetValue)) (one : PlacedSet × JudgedSetValue) (front : List EntryValue)
      (entry : EntryValue)
      → found ≡ before ++ one ∷ [] → left ≡ front ++ entry ∷ [] → IsOfSet t q one.0 one.1 entry → LastOf t q found left

behind_one : (t : Terms) (q : Question) (p : PlacedSet) (e : JudgedSetValue) (entry : EntryValue)
    (found : List (PlacedSet × JudgedSetValue))
    (left : List EntryValue) → IsOfSet t q p e entry → LastOf t q found left
    → LastOf t q ((p, e) ∷ found) (entry ∷ left)
behind_one t q p e entry found left of (NoneOf none_found none_left) =
    OneOf [] (p, e) [] entry (ap (λ xs. (p, e) ∷ xs) none_found) (ap (λ xs. entry ∷ xs) none_left) of
behind_one t q p e entry found left of (OneOf before one front last is_before is_front one_of) =
    OneOf ((p, e) ∷ before) one (entry ∷ front) last (ap (λ xs. (p, e) ∷ xs) is_before)
    (ap (λ xs. entry ∷ xs) is_front) one_of

last_is : (t : Terms) (q : Question) (found : List (PlacedSet × JudgedSetValue)) (left kept : List EntryValue)
    (p : PlacedSet) (e : JudgedSetValue)
    → LastOf t q found left → slice_get (reverse found) 0 ≡ Some (p, e) → IsKeptLast t q p e (kept ++ left)
last_is t q found left kept p e (NoneOf none none_left) is =
    absurd (no_some (sym (ap (λ (xs : List (PlacedSet × JudgedSetValue)). slice_get (reverse xs) 0) none) ∙ is))
last_is t q found left kept p e (OneOf before one front entry is_before is_front of) is =
    let turned : reverse found ≡ one ∷ reverse before = ap reverse is_before ∙ reverse-append before (one ∷ []) in
    let some : Some one ≡ Some (p, e) =
    sym (ap (λ (xs : List (PlacedSet × JudgedSetValue)). slice_get xs 0) turned) ∙ is in
    let same : one ≡ (p, e) = some_same some in
    record {
      front = kept ++ front;
      entry = entry;
      last = ap (λ xs. kept ++ xs) is_front ∙ sym (append_assoc kept front (entry ∷ []));
      of = subst (λ (x : PlacedSet × JudgedSetValue). IsOfSet t q x.0 x.1 entry) same of;
    }

-- ---- a step that ends

-- it leaves last what was found of the last of its sets of which anything was found, by the trail with whatever step
-- comes behind
module _ (t : Terms) (cached : List EntryValue) where
  pub step_leaves_last : (closed more : List AskedValue) (f : OpenValue) (o : Outcome) (kept : List EntryValue)
      (p : PlacedSet) (e : JudgedSetValue) → Judging t cached closed f → turn f.phase ≡ StepEnds o
      → last_found (closed ++ more) (judged_part f.so_far.depth (told_by f.so_far.message)) f.so_far.entries ≡ Some
      (p, e)
      → IsKeptLast t f.so_far.query p e (kept ++ entries_left t f.so_far)
  step_leaves_last closed more f o kept p e judging ends is =
      let s = f.so_far in
      let told = told_by s.message in
      let part = judged_part s.depth told in
      let done = step_judging t cached closed f o judging ends in
      let g = context_at t cached closed s in
      last_is t s.query
      (filter (λ (x : PlacedSet × JudgedSetValue). is_found (closed ++ more) x.1) (zip part s.entries))
      (entries_left t s) kept p e
      (all_left t s.query (LastOf t s.query) (NoneOf refl refl) (behind_one t s.query)
      (later_step_context g more) told part s.entries s.sets s.causes done.judged.same done.judged.stand
      (caused_later g more told part s.entries s.causes done.caused))
      is

-- ---- a turn

last_step : (t : Terms) (cached : List EntryValue) (f : OpenValue) (closed : List AskedValue) (n : ℕ)
    (sends : List Sent) (kept : List EntryValue) (o : Outcome)
    → Open t cached (f ∷ []) closed n sends → turn f.phase ≡ StepEnds o
    → LeavesLast t (judged_answer t.now f.so_far.query (findings closed f.so_far f.asked o))
    (kept ++ entries_left t f.so_far)
last_step t cached f closed n sends kept o (Above _ _ _ _ _ _ _ after _ first Ground h all) ends =
    let s = f.so_far in
    let found = findings closed s f.asked o in
    let same : s.query ≡ t.query = ap (λ (a : Ask). a.query) h.awaited in
    record {
      found = found;
      is = ap (λ q. judged_answer t.now q found) same;
      last = λ more p e is.
          subst (λ q. IsKeptLast t q p e (kept ++ entries_left t s)) same
          (step_leaves_last t cached closed more f o kept p e h.judging ends
          (subst (λ d. last_found (closed ++ more) (judged_part d (told_by s.message)) s.entries ≡ Some (p, e))
          (sym h.deep) is));
    }

next_ends : (t : Terms) (s : SoFar) (o : Option PlacedSet) (state : StateValue)
    → (next_in t s o state).ended ≡ state.ended
next_ends t s None state = refl
next_ends t s (Some placed) state = refl

asked_ends : (t : Terms) (f : OpenValue) (o : Option AskRef) (ask : Ask) (state : StateValue)
    → (asked_by t.judge o ask f state).ended ≡ state.ended
asked_ends t f None ask state = refl
asked_ends t f (Some r) ask state = refl

module _ (t : Terms) (cached : List EntryValue) where
  last_ended : (f : OpenValue) (outer : List OpenValue) (closed : List AskedValue) (n : ℕ) (sends : List Sent)
      (made : List MadeValue) (kept : List EntryValue) (o : Outcome) (reply : Reply)
      → Open t cached (f ∷ outer) closed n sends → turn f.phase ≡ StepEnds o
      → (step_ended t f.so_far f.asked o (at_rest closed outer n made kept)).ended ≡ Some reply
      → LeavesLast t reply (step_ended t f.so_far f.asked o (at_rest closed outer n made kept)).kept
  last_ended f [] closed n sends made kept o reply beneath is ends =
      let same : judged_answer t.now f.so_far.query (findings closed f.so_far f.asked o) ≡ reply = some_same ends in
      subst (λ r. LeavesLast t r (kept ++ entries_left t f.so_far)) same
      (last_step t cached f closed n sends kept o beneath is)
  last_ended f (g ∷ outer) closed n sends made kept o reply beneath is ends = absurd (no_some ends)

-- a set that ends makes no answer
set_makes_none : (t : Terms) (f : OpenValue) (c : ChainedSet) (state : StateValue) (reply : Reply) → state.ended ≡ None
    → (set_ended t f c state).ended ≡ Some reply → ⊥
set_makes_none t f c state reply none ends =
    let s = with_set f.so_far c (entry_of c.judged f.asked) f.cause in
    no_some (sym none ∙ sym (next_ends t s (first_left s.left) state) ∙ ends)

-- nor does an ask
ask_makes_none : (t : Terms) (f : OpenValue) (o : Option AskRef) (ask : Ask) (state : StateValue) (reply : Reply)
    → state.ended ≡ None
    → (asked_by t.judge o ask f state).ended ≡ Some reply → ⊥
ask_makes_none t f o ask state reply none ends = no_some (sym none ∙ sym (asked_ends t f o ask state) ∙ ends)

module _ (t : Terms) (cached : List EntryValue) where
  last_need : (f : OpenValue) (outer : List OpenValue) (closed : List AskedValue) (n : ℕ) (sends : List Sent)
      (made : List MadeValue) (kept : List EntryValue) (need : NeedValue) (u : StateValue) (reply : Reply)
      → Open t cached (f ∷ outer) closed n sends → turn f.phase ≡ need
      → u ≡ turned t f (at_rest closed outer n made kept) need → u.ended ≡ Some reply → LeavesLast t reply u.kept
  last_need f outer closed n sends made kept (SetEnds c) u reply beneath is by ends =
      absurd (set_makes_none t f c (at_rest closed outer n made kept) reply refl
      (sym (ap (λ (x : StateValue). x.ended) by) ∙ ends))
  last_need f outer closed n sends made kept (StepEnds o) u reply beneath is by ends =
      subst (λ (x : StateValue). LeavesLast t reply x.kept) (sym by)
      (last_ended t cached f outer closed n sends made kept o reply beneath is
      (sym (ap (λ (x : StateValue). x.ended) by) ∙ ends))
  last_need f outer closed n sends made kept (Asks ask) u reply beneath is by ends =
      absurd (ask_makes_none t f (refusal (limit_of t) n f.so_far.depth ask.judged) ask
      (at_rest closed outer n made kept) reply refl (sym (ap (λ (x : StateValue). x.ended) by) ∙ ends))

module _ (t : Terms) (cached : List EntryValue) where
  last_turn : (pending : Option Ask) (seeking : Option SeekingValue) (steps : List OpenValue) (closed : List AskedValue)
      (n : ℕ) (sends : List Sent) (made : List MadeValue) (kept : List EntryValue) (ended : Option Reply)
      → Stand t cached pending seeking steps closed n sends made ended
      → (is_none pending && (is_none seeking && not (none_open steps))) ≡ true → (u : StateValue) (reply : Reply)
      → (let s : StateValue =
      record {
        closed =
            closed;
        steps =
            steps;
        seeking = seeking;
        pending = pending;
        sends = n;
        made = made;
        kept = kept;
        ended = ended;
      } in
      u ≡ tick t s) → u.ended ≡ Some reply → LeavesLast t reply u.kept
  last_turn _ _ _ _ _ _ _ kept _ (Waits ask steps closed n sends made beneath few awaits each) on u reply by ends =
      absurd (no_truth on)
  last_turn _ _ _ _ _ _ _ kept _
      (Seeks k outer below closed n m before after all first made beneath h is each) on u reply
      by ends = absurd (no_truth on)
  last_turn _ _ _ _ _ _ _ kept _ (Moves f outer closed n sends made beneath each) on u reply by ends =
      last_need t cached f outer closed n sends made kept (turn f.phase) u reply beneath refl by ends
  last_turn _ _ _ _ _ _ _ kept _ (Done closed n sends made answer comes) on u reply by ends =
      absurd (no_truth on)

-- ---- turns

turn_leaves_last : (t : Terms) (cached : List EntryValue) (sends : List Sent) (s u : StateValue) (reply : Reply)
    → Stands t cached s sends → moves s ≡ true → u ≡ tick t s → u.ended ≡ Some reply → LeavesLast t reply u.kept
turn_leaves_last t cached sends s u reply stands on is ends =
    last_turn t cached s.pending s.seeking s.steps s.closed s.sends sends s.made s.kept s.ended stands on u reply is
    ends

turns_end : (t : Terms) (cached : List EntryValue) (sends : List Sent) (s u : StateValue) (reply : Reply)
    → s.ended ≡ None → u ≡ s
    → u.ended ≡ Some reply → LeavesLast t reply u.kept
turns_end t cached sends s u reply none is ends =
    absurd (no_some (sym none ∙ sym (ap (λ (x : StateValue). x.ended) is) ∙ ends))

-- by turns a validation that has no answer comes to one behind the last step
pub turns_leave_last : (t : Terms) (cached : List EntryValue) (sends : List Sent) (s u : StateValue) (reply : Reply)
    → Run t cached sends s → s.ended ≡ None
    → Turns t s u → u.ended ≡ Some reply → LeavesLast t reply u.kept
turns_leave_last t cached sends _ _ reply run none (Here s u is) ends = turns_end t cached sends s u reply none is ends
turns_leave_last t cached sends _ _ reply run none (Onward s m u turns on is) ends =
    turn_leaves_last t cached sends m u reply
    (run_stands t cached sends m (run_turns t cached sends s m run turns)) on is ends
