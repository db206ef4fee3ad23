-- Runs: where they stand, how they go on, and what they come to.
use Rattle.std.proofs.Common.{ℕ, ◌≡◌, true, false, not, ◌&&◌, List, [], ◌∷◌, ◌++◌, Option, None, Some, Result, refl, sym, ap, subst, ◌∙◌, arith, ◌⊎◌, inl, inr}
use Rattle.std.specs.Option.{IsSome, IfSome, option_map}
use Rattle.dns_model.specs.declared.trail.MarkOrigin.TheVariants.{Cache}
use Rattle.dns_model.specs.Records.{Question}
use Rattle.dns_model.specs.Trails.{AskedValue}
use Rattle.dns_model.specs.SoundAnswers.{ResponseValue}
use Rattle.dns_rules.specs.CacheEntries.{EntryValue}
use Rattle.dns_rules.specs.CacheKeys.{key_of, key_eq}
use Rattle.dns_cache.specs.declared.acceptance.Acceptance.{Acceptance}
use Rattle.dns_handle.specs.Errors.{Reply}
use Rattle.dns_handle.specs.Replies.{reply_of}
use Rattle.dns_handle.specs.declared.error.NetError.{NetError}
use Rattle.dns_flow.specs.declared.asks.Ask.{Ask}
use Rattle.dns_flow.specs.Phases.{judged_ask}
use Rattle.dns_validation.specs.Machine.{Terms, OpenValue, SeekingValue, MadeValue, StateValue, begin, none_open, heard, found, origin_of, serving}
use Rattle.dns_validation.specs.Runs.{Sent, sent_now, Run, Begun, Ticked, Heard, Sought, Given, IsIn, Turns, Here, Onward, IsOut, HasHeard, GoesOn, HasTaken, TakesOn, is_none, moves}
use Rattle.dns_validation.specs.Comes.{Comes}
use Rattle.dns_validation.proofs.FindLemmas.{stand_found}
use Rattle.dns_validation.proofs.FoundLemmas.{front_in}
use Rattle.dns_validation.proofs.Stands.{Ground, Stand, Waits, Seeks, Moves, Done, Stands}
use Rattle.dns_validation.proofs.Turning.{stand_ticked}
use Rattle.dns_validation.proofs.HearLemmas.{stand_heard}

stand_begun : (t : Terms) (cached : List EntryValue) → Stands t cached (begin t.query) []
stand_begun t cached = Waits (judged_ask t.query) [] [] 0 [] [] Ground (omega arith) refl tt

pub run_stands : (t : Terms) (cached : List EntryValue) (sends : List Sent) (s : StateValue) → Run t cached sends s
    → Stands t cached s sends
run_stands t cached _ _ (Begun s is) = subst (λ x. Stands t cached x []) (sym is) (stand_begun t cached)
run_stands t cached _ _ (Ticked sends s u run on is) =
    subst (λ x. Stands t cached x sends) (sym is) (stand_ticked t cached s sends (run_stands t cached sends s run) on)
run_stands t cached _ _ (Heard sends all s u ask reply run waits kept more is) =
    subst (λ x. Stands t cached u x) (sym more)
    (subst (λ x. Stands t cached x (sends ++ sent_now t s ask reply ∷ [])) (sym is)
    (stand_heard t cached s sends ask reply (run_stands t cached sends s run) waits kept))
run_stands t cached _ _ (Sought sends s u k given run waits among is) =
    subst (λ x. Stands t cached x sends) (sym is)
    (stand_found t cached s sends k given (run_stands t cached sends s run) waits among)
run_stands t cached _ _ (Given sends s u run is) =
    subst (λ x. Stands t cached x sends) (sym is) (run_stands t cached sends s run)

-- ---- a run goes on

pub run_turns : (t : Terms) (cached : List EntryValue) (sends : List Sent) (s u : StateValue) → Run t cached sends s
    → Turns t s u → Run t cached sends u
run_turns t cached sends _ _ run (Here s u is) = subst (Run t cached sends) (sym is) run
run_turns t cached sends _ _ run (Onward s m u turns on is) =
    Ticked sends m u (run_turns t cached sends s m run turns) on is

pub goes_on : (t : Terms) (old new : StateValue) (reply : Reply) → HasHeard t old reply new → GoesOn t old reply new
goes_on t old new reply h = λ cached sends ask waits run.
    let all = sends ++ sent_now t old ask reply ∷ [] in
    run_turns t cached all (heard t old reply) new
    (Heard sends all old (heard t old reply) ask reply run waits h.kept refl refl) h.turns

pub takes_on : (t : Terms) (old new : StateValue) (given : Option (EntryValue × Acceptance)) → HasTaken t old given new
    → TakesOn t old given new
takes_on t old new given h = λ cached sends k waits among run.
    run_turns t cached sends (found t given old) new
    (Sought sends old (found t given old) k given run waits among refl) h.turns

-- ---- more that was kept before

some_more : (t : Terms) (cached more : List EntryValue) (k : SeekingValue) (made : List MadeValue)
    (o : Option EntryValue)
    → IfSome o
    (λ e. (key_eq (key_of k.so_far.query k.placed.set) e.key ≡ true) × (origin_of made e ≡ Cache → IsIn e cached))
    → IfSome o
    (λ e. (key_eq (key_of k.so_far.query k.placed.set) e.key ≡ true)
    × (origin_of made e ≡ Cache → IsIn e (cached ++ more)))
some_more t cached more k made None h = h
some_more t cached more k made (Some e) h = (h.0, λ before. front_in e cached more (h.1 before))

pub run_more : (t : Terms) (cached more : List EntryValue) (sends : List Sent) (s : StateValue) → Run t cached sends s
    → Run t (cached ++ more) sends s
run_more t cached more _ _ (Begun s is) = Begun s is
run_more t cached more _ _ (Ticked sends s u run on is) = Ticked sends s u (run_more t cached more sends s run) on is
run_more t cached more _ _ (Heard sends all s u ask reply run waits kept grown is) =
    Heard sends all s u ask reply (run_more t cached more sends s run) waits kept grown is
run_more t cached more _ _ (Sought sends s u k given run waits among is) =
    Sought sends s u k given (run_more t cached more sends s run) waits
    (some_more t cached more k s.made (serving t.judge k.so_far.query k.placed given) among) is
run_more t cached more _ _ (Given sends s u run is) = Given sends s u (run_more t cached more sends s run) is

-- ---- a run comes to its end

module _ (t : Terms) (cached : List EntryValue) where
  comes_by : (pending : Option Ask) (seeking : Option SeekingValue)
      (steps : List OpenValue) (closed : List AskedValue) (n : ℕ)
      (sends : List Sent) (made : List MadeValue) (ended : Option Reply)
      → Stand t cached pending seeking steps closed n sends made ended
      → (reply : Reply) → ended ≡ Some reply → Comes t cached sends reply
  comes_by _ _ _ _ _ _ _ _ (Waits ask steps closed n sends made beneath few awaits each) reply is = cc
  comes_by _ _ _ _ _ _ _ _
      (Seeks k outer below closed n m before after all first made beneath h all_is each) reply is = cc
  comes_by _ _ _ _ _ _ _ _ (Moves f outer closed n sends made beneath each) reply is = cc
  comes_by _ _ _ _ _ _ _ _ (Done closed n sends made answer comes) reply is =
      let same : answer ≡ reply = cc in subst (Comes t cached sends) same comes

pub run_comes : (t : Terms) (cached : List EntryValue) (sends : List Sent) (s : StateValue) (reply : Reply)
    → Run t cached sends s
    → s.ended ≡ Some reply → Comes t cached sends reply
run_comes t cached sends s reply run is =
    comes_by t cached s.pending s.seeking s.steps s.closed s.sends sends s.made s.ended
    (run_stands t cached sends s run) reply is

-- ---- what a driver knows

pub begun_run : (t : Terms) (s : StateValue) (q : Question) → t.query ≡ q → s ≡ begin q → (cached : List EntryValue)
    → Run t cached [] s
begun_run t s q same is = λ cached. Begun s (is ∙ ap begin (sym same))

pub or_goes_on : (t : Terms) (old new : StateValue) (reply : Reply) → IsOut new ⊎ HasHeard t old reply new → IsOut new
    ⊎ GoesOn t old reply new
or_goes_on t old new reply (inl out) = inl out
or_goes_on t old new reply (inr heard) = inr (goes_on t old new reply heard)

-- where no ask waits, no run goes on by a reply
pub taken_goes_on : (t : Terms) (old new : StateValue) (reply : Reply) (pending : Option Ask) → old.pending ≡ pending
    → (IsSome pending → IsOut new ⊎ HasHeard t old reply new) → IsOut new ⊎ GoesOn t old reply new
taken_goes_on t old new reply None is heard =
    inr (λ cached sends ask waits run. let no : None ≡ Some ask = sym is ∙ waits in cc)
taken_goes_on t old new reply (Some ask) is heard = or_goes_on t old new reply (heard refl)

-- and where no set waits, none by what was kept
or_takes_on : (t : Terms) (old new : StateValue) (given : Option (EntryValue × Acceptance)) → IsOut new
    ⊎ HasTaken t old given new
    → IsOut new ⊎ TakesOn t old given new
or_takes_on t old new given (inl out) = inl out
or_takes_on t old new given (inr taken) = inr (takes_on t old new given taken)

pub found_takes_on : (t : Terms) (old new : StateValue) (given : Option (EntryValue × Acceptance))
    (seeking : Option SeekingValue) → old.seeking ≡ seeking
    → (IsSome seeking → IsOut new ⊎ HasTaken t old given new) → IsOut new ⊎ TakesOn t old given new
found_takes_on t old new given None is taken =
    inr (λ cached sends k waits among run. let no : None ≡ Some k = sym is ∙ waits in cc)
found_takes_on t old new given (Some k) is taken = or_takes_on t old new given (taken refl)

-- it comes to what its run comes to
pub comes_of : (t : Terms) (s : StateValue) (o : Option (Result ResponseValue NetError))
    → option_map reply_of o ≡ s.ended
    → IfSome o
    (λ r. (cached : List EntryValue) (sends : List Sent) → Run t cached sends s → Comes t cached sends (reply_of r))
comes_of t s None is = tt
comes_of t s (Some r) is = λ cached sends run. run_comes t cached sends s (reply_of r) run (sym is)

module _ (t : Terms) (cached : List EntryValue) where
  ended_by : (pending : Option Ask) (seeking : Option SeekingValue)
      (steps : List OpenValue) (closed : List AskedValue) (n : ℕ)
      (sends : List Sent) (made : List MadeValue) (ended : Option Reply)
      → Stand t cached pending seeking steps closed n sends made ended → pending ≡ None
      → seeking ≡ None → (is_none pending && (is_none seeking && not (none_open steps))) ≡ false → ended ≡ None → ⊥
  ended_by _ _ _ _ _ _ _ _
      (Waits ask steps closed n sends made beneath few awaits each) rests still settled none = cc
  ended_by _ _ _ _ _ _ _ _
      (Seeks k outer below closed n m before after all first made beneath h all_is each) rests still settled none = cc
  ended_by _ _ _ _ _ _ _ _ (Moves f outer closed n sends made beneath each) rests still settled none = cc
  ended_by _ _ _ _ _ _ _ _ (Done closed n sends made reply comes) rests still settled none = cc

-- and has come to its end where it wants nothing and doesn't move
pub ends_of : (t : Terms) (s : StateValue) (o : Option (Result ResponseValue NetError))
    → option_map reply_of o ≡ s.ended
    → (cached : List EntryValue) (sends : List Sent) → Run t cached sends s → s.pending ≡ None → s.seeking ≡ None
    → moves s ≡ false → IsSome o
ends_of t s None is cached sends run rests still settled =
    absurd (ended_by t cached s.pending s.seeking s.steps s.closed s.sends sends s.made s.ended
    (run_stands t cached sends s run) rests still settled
    (sym is))
ends_of t s (Some r) is cached sends run rests still settled = refl
