-- The way of a validation that hears one set with each reply: from an ask to its answer, turn by turn and reply by
-- reply.
use Rattle.std.proofs.Common.{◌≡◌, ℕ, ◌+◌, ◌≤◌, ◌<◌, true, false, List, [], ◌∷◌, ◌++◌, map, reverse, length, Option, None, Some, Ok, nat_lt, nat_le, refl, sym, ap, ◌∙◌, subst, arith, if◌then◌else◌}
use Rattle.std.specs.Option.{option_map}
use Rattle.std.proofs.lemmas.Bool.Decides.{nat_tests}
use Rattle.std.proofs.lemmas.List.{length_push}
use Rattle.dns_model.specs.declared.denial.Denial.TheVariants as denial
use Rattle.dns_model.specs.declared.trail.AskRef.{AskRef}
use Rattle.dns_model.specs.declared.trail.AskRef.TheVariants.{Step, TooDeep, TooMany}
use Rattle.dns_model.specs.Records.{Question, MessageValue}
use Rattle.dns_model.specs.SoundAnswers.{PlacedSet, told_by}
use Rattle.dns_model.specs.Trails.{AskedValue}
use Rattle.dns_rules.specs.Asking.{most_sends, judged_part}
use Rattle.dns_rules.specs.ChainedSets.{ChainedSet, finished}
use Rattle.dns_rules.specs.Outcome.{outcome_of, foreign_record}
use Rattle.dns_rules.specs.Outcome as outcome
use Rattle.dns_rules.specs.ProofErrors.{ProofErrorKindValue}
use Rattle.dns_handle.specs.Errors.{Reply}
use Rattle.dns_flow.specs.declared.asks.Ask.{Ask}
use Rattle.dns_flow.specs.Phases.{PhaseValue, Marked, Concluded, Answer as Got, Asks, judged_ask, start_set, start_by, start_ending, turn, after}
use Rattle.dns_flow.specs.Causes.{cause_after, start_cause}
use Rattle.dns_flow.specs.Leads.{entry_of}
use Rattle.dns_validation.specs.Received.{Message, received_value}
use Rattle.dns_validation.specs.Steps.{judged_answer}
use Rattle.dns_validation.specs.Machine.{Terms, SoFar, OpenValue, SeekingValue, MadeValue, StateValue, begin, limit_of, limits_of, went_on, opened, found, entries_left, made_by, answered, step_of, findings, asked_by, turned, tick, heard_own, heard_nested, heard_in, heard}
use Rattle.dns_validation.specs.Runs.{moves}

-- ---- what is still to be given out

-- the state, whatever it still has to give out to be kept
abbrev pub clean : StateValue → StateValue
clean s = record s { kept = [] }

-- ---- a way

-- from one state to another, by turns, by the replies that are told, and past sets of which nothing was kept, as long
-- as no step has
-- ended; what is given out doesn't count
pub data Goes (t : Terms) (tells : Question → Reply) : StateValue → StateValue → Type 0 where
  There : (s u : StateValue) → s ≡ u → Goes t tells s u
  Turns : (s m u : StateValue) → moves s ≡ true → clean (tick t s) ≡ m → Goes t tells m u → Goes t tells s u
  Hears : (s m u : StateValue) (ask : Ask) → s.pending ≡ Some ask → s.seeking ≡ None
      → clean (heard t s (tells ask.query)) ≡ m → Goes t tells m u → Goes t tells s u
  Seeks : (s m u : StateValue) (k : SeekingValue) → s.pending ≡ None → s.seeking ≡ Some k → s.made ≡ []
      → clean (found t None s) ≡ m → Goes t tells m u → Goes t tells s u

pub then_goes : (t : Terms) (tells : Question → Reply) (s m u : StateValue)
    → Goes t tells s m → Goes t tells m u → Goes t tells s u
then_goes t tells _ _ u (There s m is) more = subst (λ x. Goes t tells x u) (sym is) more
then_goes t tells _ _ u (Turns s k m on is way) more = Turns s k u on is (then_goes t tells k m u way more)
then_goes t tells _ _ u (Hears s k m ask waits rests is way) more =
    Hears s k u ask waits rests is (then_goes t tells k m u way more)
then_goes t tells _ _ u (Seeks s k m at rests seeks none is way) more =
    Seeks s k u at rests seeks none is (then_goes t tells k m u way more)

-- ---- states

-- no step has ended yet, and nothing was given out to be kept
abbrev pub waiting : List AskedValue → List OpenValue → Question → ℕ → StateValue
waiting closed steps q sends = record {
  closed = closed;
  steps = steps;
  seeking = None;
  pending = Some (judged_ask q);
  sends = sends;
  made = [];
  kept = [];
  ended = None;
}

abbrev pub seeking_at : List AskedValue → List OpenValue → SeekingValue → ℕ → StateValue
seeking_at closed steps k sends = record {
  closed = closed;
  steps = steps;
  seeking = Some k;
  pending = None;
  sends = sends;
  made = [];
  kept = [];
  ended = None;
}

abbrev pub resting : List AskedValue → List OpenValue → ℕ → List MadeValue → StateValue
resting closed steps sends made = record {
  closed = closed;
  steps = steps;
  seeking = None;
  pending = None;
  sends = sends;
  made = made;
  kept = [];
  ended = None;
}

-- ---- a step

-- a step that heard a message to its query, at its depth
pub record Place : Type 0 where
  pub query : Question
  pub depth : ℕ
  pub message : MessageValue

abbrev so_far : Place → List PlacedSet → SoFar
so_far p left = record {
  query = p.query;
  depth = p.depth;
  message = p.message;
  empty = false;
  left = left;
  sets = [];
  entries = [];
  causes = [];
}

-- its one set sought
abbrev sought_at : Place → PlacedSet → SeekingValue
sought_at p placed = record { so_far = so_far p []; placed = placed }

-- its one set at work, with a cause
abbrev pub with_phase : Place → List AskRef → PhaseValue → Option ProofErrorKindValue → OpenValue
with_phase p asked phase cause = record { so_far = so_far p []; asked = asked; phase = phase; cause = cause }

-- and judged
abbrev judged_so_far : Place → List AskRef → ChainedSet → Option ProofErrorKindValue → SoFar
judged_so_far p asked c cause =
    record (so_far p []) { sets = c ∷ []; entries = entry_of c.judged asked ∷ []; causes = cause ∷ [] }

-- its ending at work
abbrev at_end : Place → List AskRef → ChainedSet → Option ProofErrorKindValue → OpenValue
at_end p asked c cause = record {
  so_far = judged_so_far p asked c cause;
  asked = [];
  phase = Concluded (outcome.Given denial.None);
  cause = None;
}

-- ended
abbrev step_at : Place → List AskRef → ChainedSet → AskedValue
step_at p asked c = step_of (judged_so_far p asked c None) [] (outcome.Given denial.None)

-- what it leaves is given out, behind what was given out before
abbrev made_at : Terms → ℕ → Place → List AskRef → ChainedSet → Option ProofErrorKindValue → List MadeValue
    → List MadeValue
made_at t number p asked c cause made =
    reverse (map (made_by number) (entries_left t (judged_so_far p asked c cause))) ++ made

-- the step beneath it, with the answer
abbrev pub with_answer : Terms → AskRef → ChainedSet → OpenValue → OpenValue
with_answer t made c f = answered t.judge made (Got (Some (c ∷ []))) f

-- ---- what a reply tells

-- one set, which begins in a phase
pub record HearsOne (t : Terms) (tells : Question → Reply) (q : Question) (phase : PhaseValue) : Type 0 where
  pub message : MessageValue
  pub placed : PlacedSet
  pub told : received_value (tells q) ≡ Message message false
  pub own : foreign_record q (told_by message) ≡ None
  pub starts : start_set t.judge q (told_by message) placed ≡ phase

abbrev place_of : {t : Terms} {tells : Question → Reply} {phase : PhaseValue} (q : Question) (depth : ℕ)
    → HearsOne t tells q phase → Place
place_of q depth h = record { query = q; depth = depth; message = h.message }

-- the cause with which its set begins
abbrev cause_of : {t : Terms} {tells : Question → Reply} {q : Question} {phase : PhaseValue}
    → HearsOne t tells q phase → Option ProofErrorKindValue
cause_of h = Some (start_cause h.placed.set)

opens : (t : Terms) (tells : Question → Reply) (q : Question) (depth : ℕ) (phase : PhaseValue)
    (h : HearsOne t tells q phase) (closed : List AskedValue) (outer : List OpenValue) (sends : ℕ)
    → judged_part depth (told_by h.message) ≡ h.placed ∷ []
    → opened t q depth h.message false (resting closed outer sends [])
    ≡ seeking_at closed outer (sought_at (place_of q depth h) h.placed) sends
opens t tells q depth phase h closed outer sends part =
    ap (λ left. went_on t (so_far (place_of q depth h) left) (resting closed outer sends [])) part

hears_nested : (t : Terms) (tells : Question → Reply) (q : Question) (phase : PhaseValue) (h : HearsOne t tells q phase)
    (closed : List AskedValue) (f : OpenValue) (outer : List OpenValue) (sends : ℕ)
    → judged_part (f.so_far.depth + 1) (told_by h.message) ≡ h.placed ∷ []
    → clean (heard t (waiting closed (f ∷ outer) q sends) (tells q))
    ≡ seeking_at closed (f ∷ outer) (sought_at (place_of q (f.so_far.depth + 1) h) h.placed) (sends + 1)
hears_nested t tells q phase h closed f outer sends part =
    let depth = f.so_far.depth + 1 in
    let s = resting closed (f ∷ outer) (sends + 1) [] in
    ap clean
    (ap (λ r. heard_in t (waiting closed (f ∷ outer) q sends) r (Some (judged_ask q))) h.told
    ∙ ap (heard_nested t s q depth h.message false) h.own
    ∙ opens t tells q depth phase h closed (f ∷ outer) (sends + 1) part)

hears_first : (t : Terms) (tells : Question → Reply) (q : Question) (phase : PhaseValue) (h : HearsOne t tells q phase)
    → judged_part 0 (told_by h.message) ≡ h.placed ∷ []
    → clean (heard t (begin q) (tells q)) ≡ seeking_at [] [] (sought_at (place_of q 0 h) h.placed) 1
hears_first t tells q phase h part =
    let s = resting [] [] 1 [] in
    ap clean
    (ap (λ r. heard_in t (begin q) r (Some (judged_ask q))) h.told
    ∙ ap (heard_own t s q h.message false) h.own
    ∙ opens t tells q 0 phase h [] [] 1 part)

-- nothing was kept of the set, and it begins
begins : (t : Terms) (tells : Question → Reply) (q : Question) (phase : PhaseValue) (h : HearsOne t tells q phase)
    (depth : ℕ) (closed : List AskedValue) (outer : List OpenValue) (sends : ℕ)
    → clean (found t None (seeking_at closed outer (sought_at (place_of q depth h) h.placed) sends))
    ≡ resting closed (with_phase (place_of q depth h) [] phase (cause_of h) ∷ outer) sends []
begins t tells q phase h depth closed outer sends =
    ap (λ x. resting closed (with_phase (place_of q depth h) [] x (cause_of h) ∷ outer) sends []) h.starts

-- ---- it asks

turns_to_ask : (t : Terms) (closed : List AskedValue) (p : Place) (next : Question) (phase : PhaseValue)
    (cause : Option ProofErrorKindValue) (outer : List OpenValue) (sends : ℕ)
    → turn phase ≡ Asks (judged_ask next) → p.depth + 1 ≤ limit_of t → sends < most_sends
    → clean (tick t (resting closed (with_phase p [] phase cause ∷ outer) sends []))
    ≡ waiting closed (with_phase p [] phase cause ∷ outer) next sends
turns_to_ask t closed p next phase cause outer sends asks deep few =
    let f = with_phase p [] phase cause in
    let s = resting closed outer sends [] in
    let by : Option AskRef → StateValue = λ refused. clean (asked_by t.judge refused (judged_ask next) f s) in
    let shallow : nat_lt (limit_of t) (p.depth + 1) ≡ false = grind (arith, nat_tests) in
    let not_many : nat_le most_sends sends ≡ false = grind (arith, nat_tests) in
    ap (λ need. clean (turned t f s need)) asks
    ∙ ap (λ b. by (if b then Some TooDeep else if nat_le most_sends sends then Some TooMany else None)) shallow
    ∙ ap (λ b. by (if b then Some TooMany else None)) not_many

-- ---- its set is judged, and it ends

-- what is judged lets the step end
abbrev pub EndsGiven : Terms → Question → MessageValue → ChainedSet → Type 0
EndsGiven t q m c = outcome_of (limits_of t) q (told_by m) (c.judged ∷ []) ≡ outcome.Given denial.None

turns_to_end : (t : Terms) (closed : List AskedValue) (p : Place) (asked : List AskRef) (c : ChainedSet)
    (cause : Option ProofErrorKindValue) (outer : List OpenValue) (sends : ℕ) (made : List MadeValue)
    → EndsGiven t p.query p.message c
    → clean (tick t (resting closed (with_phase p asked (Marked c) cause ∷ outer) sends made))
    ≡ resting closed (at_end p asked c cause ∷ outer) sends made
unfolding turn start_ending
turns_to_end t closed p asked c cause outer sends made given =
    let s = judged_so_far p asked c cause in
    let by : outcome.Outcome → OpenValue =
    λ o. record { so_far = s; asked = []; phase = start_by p.query (told_by p.message) o; cause = None } in
    ap (λ o. resting closed (by o ∷ outer) sends made) given

-- a step that is open, the step beneath it, and what has ended, was sent and was given out so far
pub record Beneath : Type 0 where
  pub closed : List AskedValue
  pub f : OpenValue
  pub outer : List OpenValue
  pub sends : ℕ
  pub made : List MadeValue

abbrev over : Beneath → OpenValue → StateValue
over b g = resting b.closed (g ∷ b.f ∷ b.outer) b.sends b.made

-- it ends
abbrev ended_over : Terms → Beneath → Place → List AskRef → ChainedSet → Option ProofErrorKindValue → StateValue
ended_over t b p asked c cause =
    resting (b.closed ++ step_at p asked c ∷ []) (with_answer t (Step (length b.closed)) c b.f ∷ b.outer) b.sends
    (made_at t (length b.closed) p asked c cause b.made)

turns_back : (t : Terms) (b : Beneath) (p : Place) (asked : List AskRef) (c : ChainedSet)
    (cause : Option ProofErrorKindValue)
    → clean (tick t (over b (at_end p asked c cause))) ≡ ended_over t b p asked c cause
unfolding turn
turns_back t b p asked c cause = refl

-- from the judged set of a step to the answer of the step beneath it
back : (t : Terms) (tells : Question → Reply) (b : Beneath) (p : Place) (asked : List AskRef) (c : ChainedSet)
    (cause : Option ProofErrorKindValue)
    → EndsGiven t p.query p.message c
    → Goes t tells (over b (with_phase p asked (Marked c) cause)) (ended_over t b p asked c cause)
back t tells b p asked c cause given =
    let to = ended_over t b p asked c cause in
    let between = over b (at_end p asked c cause) in
    Turns (over b (with_phase p asked (Marked c) cause)) between to refl
    (turns_to_end t b.closed p asked c cause (b.f ∷ b.outer) b.sends b.made given)
    (Turns between to to refl (turns_back t b p asked c cause) (There to to refl))

-- ---- an ask and its answer

-- behind the steps that had ended, so many more
pub record GoesBack (t : Terms) (tells : Question → Reply) (q : Question) (cost : ℕ) (c : ChainedSet)
    (closed : List AskedValue)
    (f : OpenValue) (outer : List OpenValue) (sends : ℕ) : Type 0 where
  pub grown : List AskedValue
  pub longer : length grown ≡ length closed + cost
  pub ref : AskRef
  pub made : List MadeValue
  pub way : Goes t tells (waiting closed (f ∷ outer) q sends)
      (resting grown (with_answer t ref c f ∷ outer) (sends + cost) made)

-- whatever step asks it, a query gets this set, by so many sends, and as many levels deep
abbrev pub Gets : Terms → (Question → Reply) → Question → ℕ → ChainedSet → Type 0
Gets t tells q cost c =
    (closed : List AskedValue) (f : OpenValue) (outer : List OpenValue) (sends : ℕ)
    → f.so_far.depth + cost ≤ limit_of t → sends + cost ≤ most_sends
    → GoesBack t tells q cost c closed f outer sends

-- its reply is judged at any depth below the top
abbrev pub IsJudged : {t : Terms} {tells : Question → Reply} {q : Question} {phase : PhaseValue}
    → HearsOne t tells q phase → Type 0
IsJudged h = (depth : ℕ) → judged_part (depth + 1) (told_by h.message) ≡ h.placed ∷ []

-- it is heard, and its set begins
hears : (t : Terms) (tells : Question → Reply) (q : Question) (phase : PhaseValue) (h : HearsOne t tells q phase)
    (closed : List AskedValue) (f : OpenValue) (outer : List OpenValue) (sends : ℕ)
    → IsJudged h
    → Goes t tells (waiting closed (f ∷ outer) q sends)
    (resting closed (with_phase (place_of q (f.so_far.depth + 1) h) [] phase (cause_of h) ∷ f ∷ outer) (sends + 1) [])
hears t tells q phase h closed f outer sends part =
    let p = place_of q (f.so_far.depth + 1) h in
    let k = sought_at p h.placed in
    let to = resting closed (with_phase p [] phase (cause_of h) ∷ f ∷ outer) (sends + 1) [] in
    let sought = seeking_at closed (f ∷ outer) k (sends + 1) in
    Hears (waiting closed (f ∷ outer) q sends) sought to (judged_ask q) refl refl
    (hears_nested t tells q phase h closed f outer sends (part f.so_far.depth))
    (Seeks sought to to k refl refl refl
    (begins t tells q phase h (f.so_far.depth + 1) closed (f ∷ outer) (sends + 1)) (There to to refl))

-- where nothing more is asked
pub gets_at_once : (t : Terms) (tells : Question → Reply) (q : Question) (c : ChainedSet)
    (h : HearsOne t tells q (Marked c))
    → IsJudged h → EndsGiven t q h.message c → Gets t tells q 1 c
gets_at_once t tells q c h part given = λ closed f outer sends deep few.
    let p = place_of q (f.so_far.depth + 1) h in
    let b : Beneath = record { closed = closed; f = f; outer = outer; sends = sends + 1; made = [] } in
    record {
      grown = closed ++ step_at p [] c ∷ [];
      longer = length_push closed (step_at p [] c);
      ref = Step (length closed);
      made = made_at t (length closed) p [] c (cause_of h) [];
      way =
          then_goes t tells (waiting closed (f ∷ outer) q sends) (over b (with_phase p [] (Marked c) (cause_of h)))
          (ended_over t b p [] c (cause_of h)) (hears t tells q (Marked c) h closed f outer sends part)
          (back t tells b p [] c (cause_of h) given);
    }

-- the next ask of a step, what it gets, and what that makes of the step's set
pub record Link : Type 0 where
  pub phase : PhaseValue
  pub next : Question
  pub got : ChainedSet
  pub made : ChainedSet

pub record AsksOn (t : Terms) (q : Question) (m : MessageValue) (l : Link) : Type 0 where
  pub asks : turn l.phase ≡ Asks (judged_ask l.next)
  pub gets : after t.judge q (told_by m) l.phase (Got (Some (l.got ∷ []))) ≡ Marked l.made
  pub given : EndsGiven t q m l.made

-- the cause after it
abbrev cause_at : Terms → Link → Option ProofErrorKindValue → Option ProofErrorKindValue
cause_at t l cause = option_map (cause_after t.judge l.phase (Got (Some (l.got ∷ [])))) cause

-- the step beneath has its answer, and its set its mark
marked_by : (t : Terms) (p : Place) (l : Link) (ref : AskRef) (cause : Option ProofErrorKindValue)
    → AsksOn t p.query p.message l
    → with_answer t ref l.got (with_phase p [] l.phase cause) ≡ with_phase p (ref ∷ []) (Marked l.made)
    (cause_at t l cause)
marked_by t p l ref cause on = ap (λ x. with_phase p (ref ∷ []) x (cause_at t l cause)) on.gets

-- from the answer of its ask to that of the step beneath it
goes_back : (t : Terms) (tells : Question → Reply) (b : Beneath) (p : Place) (l : Link) (ref : AskRef)
    (cause : Option ProofErrorKindValue)
    → AsksOn t p.query p.message l
    → Goes t tells (over b (with_answer t ref l.got (with_phase p [] l.phase cause)))
    (ended_over t b p (ref ∷ []) l.made (cause_at t l cause))
goes_back t tells b p l ref cause on =
    subst (λ g. Goes t tells (over b g) (ended_over t b p (ref ∷ []) l.made (cause_at t l cause)))
    (sym (marked_by t p l ref cause on))
    (back t tells b p (ref ∷ []) l.made (cause_at t l cause) on.given)

pub gets_by_next : (t : Terms) (tells : Question → Reply) (q : Question) (l : Link) (cost : ℕ)
    (h : HearsOne t tells q l.phase)
    → IsJudged h → AsksOn t q h.message l → 1 ≤ cost → Gets t tells l.next cost l.got
    → Gets t tells q (cost + 1) l.made
gets_by_next t tells q l cost h part on some later = λ closed f outer sends deep few.
    let p = place_of q (f.so_far.depth + 1) h in
    let g = with_phase p [] l.phase (cause_of h) in
    let again = later closed g (f ∷ outer) (sends + 1) (omega (arith, deep)) (omega (arith, few)) in
    let last = step_at p (again.ref ∷ []) l.made in
    let cause = cause_at t l (cause_of h) in
    let made = made_at t (length again.grown) p (again.ref ∷ []) l.made cause again.made in
    let total : sends + 1 + cost ≡ sends + (cost + 1) = omega arith in
    let b : Beneath =
    record { closed = again.grown; f = f; outer = outer; sends = sends + 1 + cost; made = again.made } in
    let from = waiting closed (f ∷ outer) q sends in
    let heard_it = resting closed (g ∷ f ∷ outer) (sends + 1) [] in
    let asking = waiting closed (g ∷ f ∷ outer) l.next (sends + 1) in
    let told = over b (with_answer t again.ref l.got g) in
    let to = ended_over t b p (again.ref ∷ []) l.made cause in
    let way : Goes t tells from to =
    then_goes t tells from heard_it to (hears t tells q l.phase h closed f outer sends part)
    (Turns heard_it asking to refl
    (turns_to_ask t closed p l.next l.phase (cause_of h) (f ∷ outer) (sends + 1) on.asks (omega (arith, deep, some))
    (omega (arith, few, some)))
    (then_goes t tells asking told to again.way (goes_back t tells b p l again.ref (cause_of h) on))) in
    record {
      grown = again.grown ++ last ∷ [];
      longer = omega (arith, length_push again.grown last, again.longer);
      ref = Step (length again.grown);
      made = made;
      way = subst (λ n. Goes t tells from
          (resting (again.grown ++ last ∷ []) (with_answer t (Step (length again.grown)) l.made f ∷ outer) n made))
          total way;
    }

-- ---- the whole

-- the answer of a query whose set the next query proves
pub record Ends (t : Terms) (tells : Question → Reply) (q : Question) (m : MessageValue) (c : ChainedSet) (count : ℕ)
    : Type 0 where
  pub last : StateValue
  pub way : Goes t tells (begin q) last
  pub rests : last.pending ≡ None
  pub seeks_none : last.seeking ≡ None
  pub none_open : last.steps ≡ []
  pub trail : List AskedValue
  pub long : length trail ≡ count
  pub ended : last.ended ≡ Some (Ok (finished t.now (c ∷ []) m denial.None trail))

abbrev ended_by : Terms → Place → List AskRef → ChainedSet → Option ProofErrorKindValue → List AskedValue → ℕ
    → List MadeValue → StateValue
ended_by t p asked c cause closed sends made = record {
  closed = [];
  steps = [];
  seeking = None;
  pending = None;
  sends = sends;
  made = made_at t (length closed) p asked c cause made;
  kept = [];
  ended = Some (judged_answer t.now p.query
      (findings closed (judged_so_far p asked c cause) [] (outcome.Given denial.None)));
}

pub ends_by_next : (t : Terms) (tells : Question → Reply) (q : Question) (l : Link) (cost : ℕ)
    (h : HearsOne t tells q l.phase)
    → judged_part 0 (told_by h.message) ≡ h.placed ∷ [] → AsksOn t q h.message l → 1 ≤ cost
    → cost ≤ limit_of t → cost + 1 ≤ most_sends → Gets t tells l.next cost l.got
    → Ends t tells q h.message l.made (cost + 1)
unfolding turn
ends_by_next t tells q l cost h part on some deep few later =
    let p = place_of q 0 h in
    let g = with_phase p [] l.phase (cause_of h) in
    let again = later [] g [] 1 (omega (arith, deep)) (omega (arith, few)) in
    let asked = again.ref ∷ [] in
    let cause = cause_at t l (cause_of h) in
    let to = ended_by t p asked l.made cause again.grown (1 + cost) again.made in
    let k = sought_at p h.placed in
    let sought = seeking_at [] [] k 1 in
    let heard_it = resting [] (g ∷ []) 1 [] in
    let asking = waiting [] (g ∷ []) l.next 1 in
    let marked = resting again.grown (with_phase p asked (Marked l.made) cause ∷ []) (1 + cost) again.made in
    let ending = resting again.grown (at_end p asked l.made cause ∷ []) (1 + cost) again.made in
    let told = resting again.grown (with_answer t again.ref l.got g ∷ []) (1 + cost) again.made in
    let rest : Goes t tells marked to =
    Turns marked ending to refl (turns_to_end t again.grown p asked l.made cause [] (1 + cost) again.made on.given)
    (Turns ending to to refl refl (There to to refl)) in
    let marked_it : Goes t tells told to =
    subst (λ x. Goes t tells (resting again.grown (x ∷ []) (1 + cost) again.made) to)
    (sym (marked_by t p l again.ref (cause_of h) on)) rest in
    record {
      last = to;
      way =
          Hears (begin q) sought to (judged_ask q) refl refl (hears_first t tells q l.phase h part)
          (Seeks sought heard_it to k refl refl refl (begins t tells q l.phase h 0 [] [] 1)
          (Turns heard_it asking to refl
          (turns_to_ask t [] p l.next l.phase (cause_of h) [] 1 on.asks (omega (arith, deep, some))
          (omega (arith, few, some)))
          (then_goes t tells asking told to again.way marked_it)));
      rests = refl;
      seeks_none = refl;
      none_open = refl;
      trail = again.grown ++ step_at p asked l.made ∷ [];
      long = omega (arith, length_push again.grown (step_at p asked l.made), again.longer);
      ended = refl;
    }
