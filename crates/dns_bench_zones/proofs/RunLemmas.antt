-- A run whose replies are those that are told goes the way of these replies, and comes to where this ends.
use Rattle.std.proofs.Common.{◌≡◌, ◌⊎◌, inl, inr, ℕ, ◌+◌, Bool, true, false, not, ◌&&◌, List, [], ◌∷◌, Option, None, Some, Err, refl, sym, ap, ◌∙◌, subst, if◌then◌else◌}
use Rattle.std.specs.Prelude.{◌&&◌}
use Rattle.std.specs.List.{AllByRecursion}
use Rattle.std.specs.Option.{IfSome, IsSome}
use Rattle.dns_model.specs.Records.{Question, MessageValue, Rr}
use Rattle.dns_model.specs.Trails.{AskedValue}
use Rattle.dns_model.specs.declared.trail.AskRef.{AskRef}
use Rattle.dns_model.specs.declared.trail.MarkOrigin.TheVariants.{Cache}
use Rattle.dns_model.specs.Chains.{Judge}
use Rattle.dns_model.specs.SoundAnswers.{PlacedSet, told_by}
use Rattle.dns_rules.specs.CacheEntries.{EntryValue}
use Rattle.dns_rules.specs.CacheKeys.{key_of, key_eq}
use Rattle.dns_rules.specs.Outcome.{Outcome, foreign_record}
use Rattle.dns_model.proofs.EachLemmas.{each_back, each_front}
use Rattle.dns_handle.specs.Errors as seen
use Rattle.dns_handle.specs.Errors.{Reply}
use Rattle.dns_handle.specs.Handles.{Replies, reply_to, after_turn, left_after, IsLeft, ReplyIsTold}
use Rattle.dns_handle.specs.Requests.{RequestValue}
use Rattle.dns_cache.specs.declared.acceptance.Acceptance.{Acceptance}
use Rattle.dns_flow.specs.declared.asks.Ask.{Ask}
use Rattle.dns_flow.specs.Leads.{entry_of}
use Rattle.dns_flow.specs.Phases.{NeedValue, SetEnds, StepEnds, Asks, turn}
use Rattle.dns_validation.specs.Received.{is_out_of_memory, ReceivedValue, Message, Failed as Unheard, received_value}
use Rattle.dns_validation.specs.Machine.{Terms, SoFar, OpenValue, SeekingValue, MadeValue, StateValue, begin, limit_of, first_left, next_in, begun, with_set, holds_given, serving, origin_of, served_set, served_entry, found_by_entry, found_in, found, none_open, step_ended, refusal, asked_by, turned, turn_in, tick, heard_own, heard_nested, depth_below, heard_by, no_more_waiting, heard_in, heard}
use Rattle.dns_validation.specs.Runs.{Sent, IsIn, IsAmong, Run, Begun, Ticked, Heard, Sought, Given, is_none, moves, sent_now}
use Rattle.dns_validation.proofs.RunLemmas.{run_stands}
use Rattle.dns_validation.proofs.Stands.{Stand, Waits, Seeks as Stood, Moves, Done}
use Rattle.dns_recorded.specs.Recording.{RecordedValue, replies_of}
use Rattle.dns_recorded.specs.contracts.recorded.RecordedDnsHandle.TheImpl as recorded
use Rattle.dns_lookup.specs.Calls.{Sending}
use Rattle.dns_lookup.specs.Fronts.{MakesSends}
use Rattle.dns_bench_zones.proofs.WayLemmas.{clean, Goes, There, Turns, Hears, Seeks}

-- ---- replies that are told

-- the reply is the one that is told, or want of memory
abbrev pub HeardTold : (Question → Reply) → Sent → Type 0
HeardTold tells sent = (sent.reply ≡ Err seen.NoMemory) ⊎ (sent.reply ≡ tells sent.ask.query)

told_reply : (tells : Question → Reply) (sent : Sent) → HeardTold tells sent → is_out_of_memory sent.reply ≡ false
    → sent.reply ≡ tells sent.ask.query
told_reply tells sent (inl none) kept = cc (ap is_out_of_memory none, kept)
told_reply tells sent (inr told) kept = told

-- ---- what is still to be given out changes nothing else

clean_next : (t : Terms) (s : SoFar) (o : Option PlacedSet) (state : StateValue)
    → clean (next_in t s o state) ≡ clean (next_in t s o (clean state))
clean_next t s None state = refl
clean_next t s (Some placed) state = refl

clean_ended : (t : Terms) (s : SoFar) (excuse : List AskRef) (o : Outcome) (state : StateValue) (steps : List OpenValue)
    → clean (step_ended t s excuse o (record state { steps = steps }))
    ≡ clean (step_ended t s excuse o (record (clean state) { steps = steps }))
clean_ended t s excuse o state [] = refl
clean_ended t s excuse o state (f ∷ outer) = refl

clean_asked : (j : Judge) (o : Option AskRef) (ask : Ask) (f : OpenValue) (state : StateValue)
    → clean (asked_by j o ask f state) ≡ clean (asked_by j o ask f (clean state))
clean_asked j None ask f state = refl
clean_asked j (Some refused) ask f state = refl

clean_need : (t : Terms) (f : OpenValue) (state : StateValue) (outer : List OpenValue) (need : NeedValue)
    → clean (turned t f (record state { steps = outer }) need) ≡ clean
    (turned t f (record (clean state) { steps = outer }) need)
clean_need t f state outer (SetEnds c) =
    let s = with_set f.so_far c (entry_of c.judged f.asked) f.cause in
    clean_next t s (first_left s.left) (record state { steps = outer })
clean_need t f state outer (StepEnds o) = clean_ended t f.so_far f.asked o state outer
clean_need t f state outer (Asks ask) =
    clean_asked t.judge (refusal (limit_of t) state.sends f.so_far.depth ask.judged) ask f
    (record state { steps = outer })

clean_turn : (t : Terms) (state : StateValue) (steps : List OpenValue)
    → clean (turn_in t state steps) ≡ clean (turn_in t (clean state) steps)
clean_turn t state [] = refl
clean_turn t state (f ∷ outer) = clean_need t f state outer (turn f.phase)

clean_tick : (t : Terms) (s : StateValue) → clean (tick t s) ≡ clean (tick t (clean s))
clean_tick t s = clean_turn t s s.steps

clean_own : (t : Terms) (s : StateValue) (q : Question) (m : MessageValue) (empty : Bool) (o : Option Rr)
    → clean (heard_own t s q m empty o) ≡ clean (heard_own t (clean s) q m empty o)
clean_own t s q m empty None = let open_ = begun q 0 m empty in clean_next t open_ (first_left open_.left) s
clean_own t s q m empty (Some r) = refl

clean_nested : (t : Terms) (s : StateValue) (q : Question) (depth : ℕ) (m : MessageValue) (empty : Bool) (o : Option Rr)
    → clean (heard_nested t s q depth m empty o) ≡ clean (heard_nested t (clean s) q depth m empty o)
clean_nested t s q depth m empty None =
    let open_ = begun q depth m empty in clean_next t open_ (first_left open_.left) s
clean_nested t s q depth m empty (Some r) = refl

clean_by : (t : Terms) (s : StateValue) (q : Question) (judged : Bool) (o : Option ℕ) (received : ReceivedValue)
    → clean (heard_by t s q judged o received) ≡ clean (heard_by t (clean s) q judged o received)
clean_by t s q true None (Unheard error) = refl
clean_by t s q true None (Message m empty) = clean_own t s q m empty (foreign_record q (told_by m))
clean_by t s q true (Some depth) (Unheard error) = refl
clean_by t s q true (Some depth) (Message m empty) =
    clean_nested t s q (depth + 1) m empty (foreign_record q (told_by m))
clean_by t s q false None received = refl
clean_by t s q false (Some depth) (Unheard error) = refl
clean_by t s q false (Some depth) (Message m empty) = refl

clean_in : (t : Terms) (s : StateValue) (received : ReceivedValue) (o : Option Ask)
    → clean (heard_in t s received o) ≡ clean (heard_in t (clean s) received o)
clean_in t s received None = refl
clean_in t s received (Some ask) = clean_by t (no_more_waiting s) ask.query ask.judged (depth_below s.steps) received

clean_heard : (t : Terms) (s : StateValue) (reply : Reply) → clean (heard t s reply) ≡ clean (heard t (clean s) reply)
clean_heard t s reply = clean_in t s (received_value reply) s.pending

clean_entry : (t : Terms) (k : SeekingValue) (o : Option EntryValue) (s : StateValue)
    → clean (found_by_entry t k o s) ≡ clean (found_by_entry t k o (clean s))
clean_entry t k None s = refl
clean_entry t k (Some e) s =
    let c = served_set k.placed e in
    let so_far = with_set k.so_far c (served_entry (origin_of s.made e) c) None in
    clean_next t so_far (first_left so_far.left) s

clean_found : (t : Terms) (s : StateValue) (k : SeekingValue) (given : Option (EntryValue × Acceptance))
    → s.seeking ≡ Some k → clean (found t given s) ≡ clean (found t given (clean s))
clean_found t s k given seeks =
    ap (λ o. clean (found_in t given o s)) seeks
    ∙ clean_entry t k (serving t.judge k.so_far.query k.placed given) (record s { seeking = None })
    ∙ ap (λ o. clean (found_in t given o (clean s))) (sym seeks)

-- ---- nothing serves a set as long as no step has ended

never_cached : (t : Terms) (s : StateValue) (e : EntryValue) → s.made ≡ []
    → (origin_of s.made e ≡ Cache → IsIn e []) → ⊥
unfolding origin_of
never_cached t s e none kept = kept (ap (λ made. origin_of made e) none)

unserved : (t : Terms) (s : StateValue) (k : SeekingValue) (given : Option (EntryValue × Acceptance)) → s.made ≡ []
    → IsAmong t [] s k given → serving t.judge k.so_far.query k.placed given ≡ None
unserved t s k None none among = refl
unserved t s k (Some given) none among =
    by_test (key_eq (key_of k.so_far.query k.placed.set) given.0.key && holds_given given.1 t.judge k.placed given.0) refl
    among
  where
    by_test : (b : Bool)
        → (key_eq (key_of k.so_far.query k.placed.set) given.0.key && holds_given given.1 t.judge k.placed given.0) ≡ b
        → IfSome (if b then Some given.0 else None) (λ e.
        (key_eq (key_of k.so_far.query k.placed.set) e.key ≡ true) × (origin_of s.made e ≡ Cache → IsIn e []))
        → (if b then Some given.0 else None) ≡ None
    by_test true is h = absurd (never_cached t s given.0 none h.1)
    by_test false is h = refl

same_found : (t : Terms) (s : StateValue) (k : SeekingValue) (given : Option (EntryValue × Acceptance))
    → s.seeking ≡ Some k
    → s.made ≡ [] → IsAmong t [] s k given → found t given s ≡ found t None s
same_found t s k given seeks none among =
    ap (λ o. found_in t given o s) seeks
    ∙ ap (λ o. found_by_entry t k o (record s { seeking = None })) (unserved t s k given none among)
    ∙ ap (λ o. found_in t None o s) (sym seeks)

-- ---- a state at which nothing goes on

pub record IsLast (s : StateValue) : Type 0 where
  pub rests : s.pending ≡ None
  pub seeks_none : s.seeking ≡ None
  pub none_open : s.steps ≡ []

last_of : (s u : StateValue) → s ≡ u → IsLast u → IsLast s
last_of s u is last = subst IsLast (sym is) last

stopped : (s : StateValue) → IsLast s → moves s ≡ true → ⊥
stopped s last on =
    let still : moves s ≡ false =
    ap (λ o. is_none o && (is_none s.seeking && not (none_open s.steps))) last.rests
    ∙ ap (λ o. is_none o && not (none_open s.steps)) last.seeks_none
    ∙ ap (λ steps. not (none_open steps)) last.none_open in
    cc (still, on)

none_or_some : {X : Type 0} (o : Option X) (x : X) → o ≡ None → o ≡ Some x → ⊥
none_or_some o x none some = cc (none, some)

-- a way from it has no step
pub stays_last : (t : Terms) (tells : Question → Reply) (s u : StateValue) → IsLast s → Goes t tells s u → s ≡ u
stays_last t tells _ _ last (There s u is) = is
stays_last t tells _ _ last (Turns s m u on is way) = absurd (stopped s last on)
stays_last t tells _ _ last (Hears s m u ask waits rests is way) = absurd (none_or_some s.pending ask last.rests waits)
stays_last t tells _ _ last (Seeks s m u k rests seeks none is way) =
    absurd (none_or_some s.seeking k last.seeks_none seeks)

-- ---- a run goes on along the way

waits_or_moves : (s : StateValue) (ask : Ask) → s.pending ≡ Some ask → moves s ≡ true → ⊥
waits_or_moves s ask waits on =
    let still : moves s ≡ false = ap (λ o. is_none o && (is_none s.seeking && not (none_open s.steps))) waits in
    cc (still, on)

seeks_or_moves : (s : StateValue) (k : SeekingValue) → s.pending ≡ None → s.seeking ≡ Some k → moves s ≡ true → ⊥
seeks_or_moves s k rests seeks on =
    let still : moves s ≡ false =
    ap (λ o. is_none o && (is_none s.seeking && not (none_open s.steps))) rests
    ∙ ap (λ o. is_none o && not (none_open s.steps)) seeks in
    cc (still, on)

seeking_moves : (s : StateValue) (k : SeekingValue) (o : Option Ask) → s.pending ≡ o → s.seeking ≡ Some k
    → moves s ≡ true → ⊥
seeking_moves s k None rests seeks on = seeks_or_moves s k rests seeks on
seeking_moves s k (Some ask) waits seeks on = waits_or_moves s ask waits on

same_some : {X : Type 0} (o : Option X) (a b : X) → o ≡ Some a → o ≡ Some b → a ≡ b
same_some o a b one two = cc (one, two)

ticked_on : (t : Terms) (tells : Question → Reply) (s u : StateValue) → Goes t tells s u → IsLast u → moves s ≡ true
    → Goes t tells (clean (tick t s)) u
ticked_on t tells _ _ (There s u is) last on = absurd (stopped s (last_of s u is last) on)
ticked_on t tells _ _ (Turns s m u go is way) last on = subst (λ x. Goes t tells x u) (sym is) way
ticked_on t tells _ _ (Hears s m u ask waits rests is way) last on = absurd (waits_or_moves s ask waits on)
ticked_on t tells _ _ (Seeks s m u k rests seeks none is way) last on = absurd (seeks_or_moves s k rests seeks on)

heard_on : (t : Terms) (tells : Question → Reply) (s u : StateValue) (ask : Ask) → Goes t tells s u → IsLast u
    → s.pending ≡ Some ask
    → Goes t tells (clean (heard t s (tells ask.query))) u
heard_on t tells _ _ ask (There s u is) last waits =
    absurd (none_or_some s.pending ask ((last_of s u is last).rests) waits)
heard_on t tells _ _ ask (Turns s m u on is way) last waits = absurd (waits_or_moves s ask waits on)
heard_on t tells _ _ ask (Hears s m u other waiting rests is way) last waits =
    let same = same_some s.pending other ask waiting waits in
    subst (λ x. Goes t tells x u) (sym is ∙ ap (λ (a : Ask). clean (heard t s (tells a.query))) same) way
heard_on t tells _ _ ask (Seeks s m u k rests seeks none is way) last waits =
    absurd (none_or_some s.pending ask rests waits)

sought_on : (t : Terms) (tells : Question → Reply) (s u : StateValue) (k : SeekingValue)
    (given : Option (EntryValue × Acceptance))
    → Goes t tells s u → IsLast u → s.seeking ≡ Some k → IsAmong t [] s k given
    → Goes t tells (clean (found t given s)) u
sought_on t tells _ _ k given (There s u is) last seeks among =
    absurd (none_or_some s.seeking k ((last_of s u is last).seeks_none) seeks)
sought_on t tells _ _ k given (Turns s m u on is way) last seeks among =
    absurd (seeking_moves s k s.pending refl seeks on)
sought_on t tells _ _ k given (Hears s m u ask waits rests is way) last seeks among =
    absurd (none_or_some s.seeking k rests seeks)
sought_on t tells _ _ k given (Seeks s m u other rests sought none is way) last seeks among =
    subst (λ x. Goes t tells x u) (sym is ∙ ap clean (sym (same_found t s k given seeks none among))) way

pub run_goes : (t : Terms) (tells : Question → Reply) (cached : List EntryValue) (sends : List Sent) (s u : StateValue)
    → Run t cached sends s → cached ≡ [] → AllByRecursion (HeardTold tells) sends
    → Goes t tells (begin t.query) u → IsLast u → Goes t tells (clean s) u
run_goes t tells cached _ _ u (Begun s is) empty told way last =
    subst (λ x. Goes t tells x u) (sym (ap clean is)) way
run_goes t tells cached _ _ u (Ticked sends s v run on is) empty told way last =
    subst (λ x. Goes t tells x u) (sym (ap clean is ∙ clean_tick t s))
    (ticked_on t tells (clean s) u (run_goes t tells cached sends s u run empty told way last) last on)
run_goes t tells cached _ _ u (Heard sends all s v ask reply run waits kept more is) empty told way last =
    let one = sent_now t s ask reply in
    let both = subst (AllByRecursion (HeardTold tells)) more told in
    let before = each_front (HeardTold tells) sends (one ∷ []) both in
    let here = (each_back (HeardTold tells) sends (one ∷ []) both).0 in
    let same : reply ≡ tells ask.query = told_reply tells one here kept in
    subst (λ x. Goes t tells x u)
    (sym (ap clean is ∙ clean_heard t s reply ∙ ap (λ r. clean (heard t (clean s) r)) same))
    (heard_on t tells (clean s) u ask (run_goes t tells cached sends s u run empty before way last) last waits)
run_goes t tells cached _ _ u (Sought sends s v k given run seeks among is) empty told way last =
    let none : IsAmong t [] s k given = subst (λ entries. IsAmong t entries s k given) empty among in
    subst (λ x. Goes t tells x u) (sym (ap clean is ∙ clean_found t s k given seeks))
    (sought_on t tells (clean s) u k given (run_goes t tells cached sends s u run empty told way last) last seeks none)
run_goes t tells cached _ _ u (Given sends s v run is) empty told way last =
    subst (λ x. Goes t tells x u) (sym (ap clean is)) (run_goes t tells cached sends s u run empty told way last)

-- ---- a run that has come to its end

module _ (t : Terms) (cached : List EntryValue) where
  stand_last : (pending : Option Ask) (seeking : Option SeekingValue) (steps : List OpenValue)
      (closed : List AskedValue) (n : ℕ) (sends : List Sent) (made : List MadeValue) (ended : Option Reply)
      → Stand t cached pending seeking steps closed n sends made ended → IsSome ended
      → (pending ≡ None) × ((seeking ≡ None) × (steps ≡ []))
  stand_last _ _ _ _ _ _ _ _ (Waits ask steps closed n sends made beneath few awaits are) is = cc is
  stand_last _ _ _ _ _ _ _ _ (Stood k outer below closed n m before after all first made beneath on_top is_all are)
      is =
      cc is
  stand_last _ _ _ _ _ _ _ _ (Moves f outer closed n sends made beneath are) is = cc is
  stand_last _ _ _ _ _ _ _ _ (Done closed n sends made answer comes) is = (refl, (refl, refl))

  run_last : (sends : List Sent) (s : StateValue) (reply : Reply)
      → Run t cached sends s → s.ended ≡ Some reply → IsLast s
  run_last sends s reply run is =
      let parts = stand_last s.pending s.seeking s.steps s.closed s.sends sends s.made s.ended
      (run_stands t cached sends s run) (subst IsSome (sym is) refl) in
      record { rests = parts.0; seeks_none = parts.1.0; none_open = parts.1.1 }

-- it is the end of the way
pub run_ends : (t : Terms) (tells : Question → Reply) (cached : List EntryValue) (sends : List Sent) (s u : StateValue)
    (reply : Reply)
    → Run t cached sends s → cached ≡ [] → s.ended ≡ Some reply → AllByRecursion (HeardTold tells) sends
    → Goes t tells (begin t.query) u → IsLast u → s.ended ≡ u.ended
run_ends t tells cached sends s u reply run empty ended told way last =
    let here = run_last t cached sends s reply run ended in
    let at : IsLast (clean s) =
    record { rests = here.rests; seeks_none = here.seeks_none; none_open = here.none_open } in
    ap (λ (x : StateValue). x.ended)
    (stays_last t tells (clean s) u at (run_goes t tells cached sends s u run empty told way last))

-- ---- over recorded replies, whose first to each query serves each send of it

-- a send tells one of them, and leaves them as they are
record IsServed (replies : Replies) (to : RecordedValue) (q : Question) (reply : Reply) : Type 0 where
  told : (reply ≡ Err seen.NoMemory) ⊎ (reply ≡ reply_to replies.list q)
  left : replies_of to ≡ replies

some_replies : (a b : Replies) → Some a ≡ Some b → a ≡ b
some_replies a b h = cc

stay_left : (replies : Replies) (q : Question) → replies.by_turn ≡ false → left_after replies q ≡ replies
stay_left replies q once =
    ap (λ b. record replies { list = if b then after_turn replies.list q else replies.list }) once

serves : (request : RequestValue) (now : ℕ) (from to : RecordedValue) (q : Question) (reply : Reply) (replies : Replies)
    → replies_of from ≡ replies
    → replies.by_turn ≡ false → Sending recorded.ghosts request (Some q) now from to reply → IsServed replies to q reply
serves request now from to q reply replies is once sent =
    let left : IsLeft (Some replies) (Some q) reply (Some (replies_of to)) =
    subst (λ r. IsLeft (Some r) (Some q) reply (Some (replies_of to))) is sent.left in
    record {
      told = subst (λ r. ReplyIsTold (Some r) (Some q) reply) is sent.told;
      left = elim left [
        | inl next ↦ some_replies (replies_of to) (left_after replies q) next ∙ stay_left replies q once
        | inr none ↦ some_replies (replies_of to) replies none.1
      ];
    }

pub all_told : (now : ℕ) (from to : RecordedValue) (sends : List Sent) (replies : Replies) → replies_of from ≡ replies
    → replies.by_turn ≡ false
    → MakesSends recorded.ghosts now from sends to → AllByRecursion (HeardTold (reply_to replies.list)) sends
all_told now from to [] replies is once way = tt
all_told now from to (sent ∷ sends) replies is once way =
    let one = serves sent.request now from way.0 sent.ask.query sent.reply replies is once way.1 in
    (one.told, all_told now way.0 to sends replies one.left once way.2)
