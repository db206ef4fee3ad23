-- A validation is served from a cache: it goes along its run by what was kept, and what it gives out is kept.
use Rattle.std.proofs.Common.{ℕ, ◌≡◌, ◌≤◌, ◌+◌, ◌≢◌, ◌⊎◌, ◌&&◌, Bool, true, false, nat_lt, cond, List, [], ◌∷◌, ◌++◌, drop, Option, None, Some, Result, Ok, Err, if◌then◌else◌, refl, sym, ap, subst, ◌∙◌, inl, inr, true≢false}
use Rattle.std.specs.List.{AllByRecursion}
use Rattle.std.specs.Option.{option_map, IfSome, IsSome}
use Rattle.std.proofs.lemmas.Bool.{and_parts}
use Rattle.dns_model.specs.Counts.{RoseBy}
use Rattle.dns_model.specs.declared.trail.MarkOrigin.TheVariants.{Cache}
use Rattle.dns_model.proofs.EachLemmas.{each_append}
use Rattle.dns_rules.specs.CacheKeys.{CacheKeyValue, key_eq, key_of}
use Rattle.dns_rules.specs.CacheEntries.{EntryValue, is_live, live}
use Rattle.dns_cache.specs.CacheLists.{CacheList, IsCacheList, is_hit, hit, after_get}
use Rattle.dns_cache.specs.Caches.{LeftByGet, hits_after}
use Rattle.dns_cache.specs.declared.acceptance.Acceptance.{Acceptance}
use Rattle.dns_cache.specs.declared.acceptance.Acceptance.TheVariants.{Other}
use Rattle.dns_validation.specs.Machine.{Terms, MadeValue, SeekingValue, StateValue, holds_given, origin_of, none_open, given_out, found}
use Rattle.dns_validation.specs.Runs.{IsIn, Sent, Run, Sought, Given, IsAmong, IsOut, HasTaken}
use Rattle.dns_validation.specs.Validations.{asking_at, asking_in, wanted_by, wanted_in}
use Rattle.dns_validation.specs.declared.validation.Asking.{Asking}
use Rattle.dns_validation.specs.declared.validation.Wanted.{Wanted}
use Rattle.dns_validation.specs.declared.validation.Wanted.TheVariants.{Reply, Entry}
use Rattle.dns_validation.proofs.RunLemmas.{takes_on, run_more}
use Rattle.dns_lookup.specs.Caching.{ServeFrom, MayAdd, EachKept}
use Rattle.dns_lookup.specs.Driving.{CacheState, Got, asked_in, served_in, LeftByFront, after_inserts, kept_all, is_repeat, AreMade, ComesFrom, AllComeFrom, IsOn, IsLost, IsStopped, Stops, IsBehind, Wants, ServedTo, LostTo}
use Rattle.dns_lookup.proofs.AskedLemmas.{few_given, kept_asked, taken_asked}
use Rattle.dns_lookup.proofs.AddLemmas.{run_adds, kept_wider, kept_left, kept_inserted, kept_front}
use Rattle.dns_lookup.proofs.FirstLemmas.{seeking_still}
use Rattle.dns_lookup.proofs.FoundFirstLemmas.{GivenFirst, kept_first, taken_first}
use Rattle.dns_lookup.proofs.KeptFirstLemmas.{all_kept, taken_kept}
use Rattle.dns_lookup.proofs.GivenLemmas.{kept_gave, puts_got, puts_kept, taken_gave}
use Rattle.dns_lookup.proofs.HitLemmas.{kept_served, rose_given, taken_served}
use Rattle.dns_lookup.proofs.ListedLemmas.{hit_each, each_got}
use Rattle.dns_lookup.proofs.OriginLemmas.{come_inserted}
use Rattle.dns_lookup.proofs.TurnLemmas.{known_taken}

-- ---- what is given out is kept

state_again : (s : StateValue) → s.kept ≡ [] → kept_all s ≡ s
state_again s none = ap (λ k. (let x : StateValue = record s { kept = k } in x)) (sym none)

run_kept : (t : Terms) (cached : List EntryValue) (sends : List Sent) (kept : List EntryValue) (s : StateValue)
    → s.kept ≡ kept → Run t cached sends s
    → Run t cached sends (kept_all s)
run_kept t cached sends [] s is run = subst (Run t cached sends) (sym (state_again s is)) run
run_kept t cached sends (e ∷ kept) s is run =
    run_kept t cached sends kept (given_out s) (ap (drop 1) is) (Given sends s (given_out s) run refl)

come_kept : (made : List MadeValue) (kept : List EntryValue) (before now : Option CacheList) → AreMade made kept
    → AllComeFrom made kept before now
    → AllComeFrom made [] before (option_map (after_inserts kept) now)
come_kept made kept None now are h = tt
come_kept made kept (Some before) None are h = tt
come_kept made kept (Some before) (Some now) are h = come_inserted made kept before.entries now are h

on_kept : (t : Terms) (before : CacheState) (sends : List Sent) (s : StateValue) (now after : CacheState)
    → IsOn t before sends s now
    → after.told ≡ option_map (after_inserts s.kept) now.told → after.hits ≡ now.hits
    → IsOn t before sends (kept_all s) after
on_kept t before sends s now after on left still = record {
  cached = on.cached;
  served = on.served;
  run = run_kept t on.cached sends s.kept s refl on.run;
  settled = on.settled;
  left = subst (EachKept t on.cached sends before.told) (sym left)
      (kept_inserted t on.cached sends s.kept before.told now.told (run_adds t on.cached sends s on.run) on.left);
  come = subst (AllComeFrom s.made [] before.told) (sym left)
      (come_kept s.made s.kept before.told now.told on.made on.come);
  made = tt;
  hits = subst (λ n. RoseBy (served_in (kept_all s)) before.hits n) (sym still)
      (subst (λ n. RoseBy n before.hits now.hits) (sym (kept_served s)) on.hits);
  few = subst (λ n. n ≤ before.hits + asked_in (kept_all s)) (sym still)
      (subst (λ n. now.hits ≤ before.hits + n) (sym (kept_asked s)) on.few);
  first = kept_first t before.told now.told after.told s on.first left;
  last = all_kept t s now.told after.told on.last left;
  out = on.out ++ s.kept;
  gave = kept_gave t s on.out on.gave;
  puts = puts_kept t.now before.told now.told after.told on.out s.kept left on.puts;
}

none_kept : (o : Option CacheList) → option_map (after_inserts []) o ≡ o
none_kept None = refl
none_kept (Some list) = refl

-- where memory ran out nothing is left
out_kept : (s : StateValue) (now after : Option CacheList) → IsOut s → after ≡ option_map (after_inserts s.kept) now
    → after ≡ now
out_kept s now after out left = left ∙ ap (λ k. option_map (after_inserts k) now) out.keeps ∙ none_kept now

stopped_same : (t : Terms) (before : CacheState) (sends : List Sent) (now after : CacheState) → after.told ≡ now.told
    → IsStopped t before sends now → IsStopped t before sends after
stopped_same t before sends now after same h = record {
  cached = h.cached;
  served = h.served;
  state = h.state;
  run = h.run;
  left = subst (EachKept t h.cached sends before.told) (sym same) h.left;
}

-- whatever the state is called afterwards
pub behind_kept : (t : Terms) (before : CacheState) (sends : List Sent) (s m : StateValue) (now after : CacheState)
    → IsBehind t before sends s now → m ≡ kept_all s
    → after.told ≡ option_map (after_inserts s.kept) now.told → after.hits ≡ now.hits → IsBehind t before sends m after
behind_kept t before sends s m now after (inl on) is left still =
    inl (subst (λ x. IsOn t before sends x after) (sym is) (on_kept t before sends s now after on left still))
behind_kept t before sends s m now after (inr h) is left still =
    inr (record {
      out = subst IsOut (sym (is ∙ state_again s h.out.keeps)) h.out;
      behind = stopped_same t before sends now after (out_kept s now.told after.told h.out left) h.behind;
    })

on_stopped : (t : Terms) (before : CacheState) (sends : List Sent) (s : StateValue) (now : CacheState)
    → IsOn t before sends s now → IsStopped t before sends now
on_stopped t before sends s now on =
    record { cached = on.cached; served = on.served; state = s; run = on.run; left = on.left }

pub stopped_of : (t : Terms) (before : CacheState) (sends : List Sent) (s : StateValue) (now : CacheState)
    → IsBehind t before sends s now → IsStopped t before sends now
stopped_of t before sends s now (inl on) = on_stopped t before sends s now on
stopped_of t before sends s now (inr h) = h.behind

-- memory ran out while it was kept
pub failed_kept : (t : Terms) (before : CacheState) (sends : List Sent) (s : StateValue) (now after : CacheState)
    → IsBehind t before sends s now
    → LeftByFront s.kept now.told after.told → IsStopped t before sends after
failed_kept t before sends s now after (inl on) f = record {
  cached = on.cached;
  served = on.served;
  state = s;
  run = on.run;
  left = kept_front t on.cached sends s.kept before.told now.told after.told
      (run_adds t on.cached sends s on.run) f on.left;
}
failed_kept t before sends s now after (inr h) f = record {
  cached = h.behind.cached;
  served = h.behind.served;
  state = h.behind.state;
  run = h.behind.run;
  left = kept_front t h.behind.cached sends s.kept before.told now.told after.told
      (subst (AllByRecursion (MayAdd t h.behind.cached sends)) (sym h.out.keeps) tt) f h.behind.left;
}

module _ (t : Terms) (before : CacheState) (sends : List Sent) where
  -- or in the call of the cache
  pub failed_got : {E : Type 0} (now after : CacheState) (key : CacheKeyValue) (moment : ℕ) (e : E)
      → LeftByGet key moment now.told after.told (let r : Result (Option EntryValue) E = Err e in r)
      → IsStopped t before sends now → IsStopped t before sends after
  failed_got now after key moment e left h = record {
    cached = h.cached;
    served = h.served;
    state = h.state;
    run = h.run;
    left = kept_left t h.cached sends key moment before.told now.told after.told (Err e) left h.left;
  }

-- ---- what it wants

sought_none : (t : Terms) (s : StateValue) (o : Option SeekingValue) → None ≡ wanted_by t s o → (o ≡ None)
    × (None ≡ asking_in t s)
sought_none t s None is = (refl, reply_none (asking_in t s) is)
  where
    reply_none : (a : Option Asking) → None ≡ option_map Reply a → None ≡ a
    reply_none None h = refl
    reply_none (Some asking) h = cc
sought_none t s (Some k) is = cc

reply_sought : (t : Terms) (s : StateValue) (o : Option SeekingValue) (asking : Asking)
    → Some (Reply asking) ≡ wanted_by t s o → (o ≡ None) × (Some asking ≡ asking_in t s)
reply_sought t s None asking is = (refl, reply_some (asking_in t s) is)
  where
    reply_some : (a : Option Asking) → Some (Reply asking) ≡ option_map Reply a → Some asking ≡ a
    reply_some None h = cc
    reply_some (Some other) h = let same : asking ≡ other = cc in ap (λ x. Some x) same
reply_sought t s (Some k) asking is = cc

-- the set that waits
pub record Seeks (s : StateValue) (key : CacheKeyValue) : Type 0 where
  pub it : SeekingValue
  pub seeks : s.seeking ≡ Some it
  pub is : key ≡ key_of it.so_far.query it.placed.set

entry_sought : (t : Terms) (s : StateValue) (o : Option SeekingValue) (key : CacheKeyValue) → s.seeking ≡ o
    → Some (Entry key) ≡ wanted_by t s o → Seeks s key
entry_sought t s None key at is = absurd (no_entry (asking_in t s) is)
  where
    no_entry : (a : Option Asking) → Some (Entry key) ≡ option_map Reply a → ⊥
    no_entry None h = cc
    no_entry (Some asking) h = cc
entry_sought t s (Some k) key at is = record { it = k; seeks = at; is = key_same is }
  where
    key_same : Some (Entry key) ≡ Some (Entry (key_of k.so_far.query k.placed.set))
        → key ≡ key_of k.so_far.query k.placed.set
    key_same h = cc

out_wants : (t : Terms) (s : StateValue) → IsOut s → wanted_in t s ≡ None
out_wants t s out =
    ap (wanted_by t s) out.seeks
    ∙ ap (λ o. option_map Reply (option_map (asking_at t.request t.options (none_open s.steps)) o)) out.asks

not_wanted : (w : Wanted) → None ≡ Some w → ⊥
not_wanted w h = cc

-- it wants nothing more
pub wants_none : (E : Type 0) (t u : Terms) (before : CacheState) (sends : List Sent) (s m : StateValue)
    (now : CacheState) → IsBehind t before sends s now → s.kept ≡ []
    → u ≡ t → IsOut m ⊎ (None ≡ wanted_in u s) → IsOut m ⊎ (m ≡ s)
    → ServedTo {E = E} t before sends (Ok None) m now
wants_none E t u before sends s m now behind rests same (inl out) is =
    inr (record { out = out; behind = stopped_of t before sends s now behind }, refl)
wants_none E t u before sends s m now behind rests same (inr none) (inl out) =
    inr (record { out = out; behind = stopped_of t before sends s now behind }, refl)
wants_none E t u before sends s m now (inr h) rests same (inr none) (inr is) =
    inr (subst (λ x. Stops t before sends x now) (sym is) h, refl)
wants_none E t u before sends s m now (inl on) rests same (inr none) (inr is) =
    let wants = sought_none t s s.seeking (none ∙ ap (λ x. wanted_in x s) same) in
    inl (subst (λ x. Wants t before sends None x now) (sym is)
    (record { on = on; rests = rests; sought = wants.0; asks = wants.1 }))

-- it wants a reply
pub wants_reply : (E : Type 0) (t u : Terms) (before : CacheState) (sends : List Sent) (s m : StateValue)
    (now : CacheState) (asking : Asking) → IsBehind t before sends s now
    → s.kept ≡ [] → u ≡ t → IsOut m ⊎ (Some (Reply asking) ≡ wanted_in u s) → IsOut m ⊎ (m ≡ s)
    → (IsOut m → Some (Reply asking) ≡ None)
    → ServedTo {E = E} t before sends (Ok (Some asking)) m now
wants_reply E t u before sends s m now asking behind rests same (inl out) is none =
    absurd (not_wanted (Reply asking) (sym (none out)))
wants_reply E t u before sends s m now asking behind rests same (inr wants) (inl out) none =
    absurd (not_wanted (Reply asking) (sym (none out)))
wants_reply E t u before sends s m now asking (inr h) rests same (inr wants) (inr is) none =
    absurd (not_wanted (Reply asking) (sym (wants ∙ ap (λ x. wanted_in x s) same ∙ out_wants t s h.out)))
wants_reply E t u before sends s m now asking (inl on) rests same (inr wants) (inr is) none =
    let w = reply_sought t s s.seeking asking (wants ∙ ap (λ x. wanted_in x s) same) in
    inl (subst (λ x. Wants t before sends (Some asking) x now) (sym is)
    (record { on = on; rests = rests; sought = w.0; asks = w.1 }))

-- it wants what was kept of a set, and stands as before
pub record WantsEntry (s m : StateValue) (key : CacheKeyValue) : Type 0 where
  pub seeks : Seeks m key
  pub same : m ≡ s

pub wants_entry : (u : Terms) (s m : StateValue) (key : CacheKeyValue) → IsOut m ⊎ (Some (Entry key) ≡ wanted_in u s)
    → IsOut m ⊎ (m ≡ s)
    → (IsOut m → Some (Entry key) ≡ None) → WantsEntry s m key
wants_entry u s m key (inl out) is none = absurd (not_wanted (Entry key) (sym (none out)))
wants_entry u s m key (inr wants) (inl out) none = absurd (not_wanted (Entry key) (sym (none out)))
wants_entry u s m key (inr wants) (inr is) none = record {
  seeks = subst (λ x. Seeks x key) (sym is) (entry_sought u s s.seeking key refl wants);
  same = is;
}

-- ---- it is told

-- what holds of the entry that is given, where there is one
record IsGiven (key : CacheKeyValue) (now : ℕ) (made : List MadeValue) (cached : List EntryValue)
    (e : EntryValue) : Type 0 where
  hit : is_hit key now e ≡ true
  before : origin_of made e ≡ Cache → IsIn e cached

serving_by : (t : Terms) (k : SeekingValue) (made : List MadeValue) (cached : List EntryValue) (now : ℕ)
    (e : EntryValue) (a : Acceptance) (b : Bool)
    → IsGiven (key_of k.so_far.query k.placed.set) now made cached e
    → IfSome (if b then Some e else None)
    (λ x. (key_eq (key_of k.so_far.query k.placed.set) x.key ≡ true) × (origin_of made x ≡ Cache → IsIn x cached))
serving_by t k made cached now e a false g = tt
serving_by t k made cached now e a true g =
    ((and_parts (key_eq (key_of k.so_far.query k.placed.set) e.key) (nat_lt now e.expires) g.hit).0, g.before)

among_by : (t : Terms) (cached : List EntryValue) (s : StateValue) (k : SeekingValue) (now : ℕ)
    (given : Option (EntryValue × Acceptance))
    → IfSome given (λ p. IsGiven (key_of k.so_far.query k.placed.set) now s.made cached p.0)
    → IsAmong t cached s k given
among_by t cached s k now None h = tt
among_by t cached s k now (Some p) h =
    serving_by t k s.made cached now p.0 p.1
    (key_eq (key_of k.so_far.query k.placed.set) p.0.key && holds_given p.1 t.judge k.placed p.0) h

live_step : (now : ℕ) (e x : EntryValue) (b : Bool) (rest : List EntryValue) → is_live now x ≡ b → is_live now e ≡ true
    → (e ≡ x) ⊎ IsIn e rest
    → IsIn e (cond b (x ∷ rest) rest)
live_step now e x true rest is alive (inl same) = inl same
live_step now e x true rest is alive (inr h) = inr h
live_step now e x false rest is alive (inl same) = absurd (true≢false (sym alive ∙ ap (is_live now) same ∙ is))
live_step now e x false rest is alive (inr h) = h

in_live : (now : ℕ) (e : EntryValue) (entries : List EntryValue) → is_live now e ≡ true → IsIn e entries
    → IsIn e (live now entries)
in_live now e [] alive h = absurd h
in_live now e (x ∷ entries) alive (inl same) =
    live_step now e x (is_live now x) (live now entries) refl alive (inl same)
in_live now e (x ∷ entries) alive (inr h) =
    live_step now e x (is_live now x) (live now entries) refl alive (inr (in_live now e entries alive h))

-- one of a told list that the validation didn't give out was there before
told_given : (key : CacheKeyValue) (now : ℕ) (made : List MadeValue) (before cached : List EntryValue) (e : EntryValue)
    → cached ≡ live now before
    → is_hit key now e ≡ true → ComesFrom made [] before e → IsGiven key now made cached e
told_given key now made before cached e are hits (inl here) = record {
  hit = hits;
  before = λ origin. subst (IsIn e) (sym are)
      (in_live now e before ((and_parts (key_eq key e.key) (nat_lt now e.expires) hits).1) here);
}
told_given key now made before cached e are hits (inr (inl is)) = record {
  hit = hits;
  before = λ origin. absurd (true≢false (sym is ∙ ap is_repeat origin));
}
told_given key now made before cached e are hits (inr (inr none)) = absurd none

list_given : (key : CacheKeyValue) (now : ℕ) (made : List MadeValue) (before cached : List EntryValue)
    (list : CacheList) (given : Option (EntryValue × Acceptance))
    → cached ≡ live now before → AllByRecursion (ComesFrom made [] before) list.entries
    → IfSome (option_map (λ p. p.0) given) (λ e. is_hit key now e ≡ true)
    → option_map (λ p. p.0) given ≡ hit key now list → IfSome given (λ p. IsGiven key now made cached p.0)
list_given key now made before cached list None are come hits is = tt
list_given key now made before cached list (Some p) are come hits is =
    told_given key now made before cached p.0 are hits
    (hit_each (ComesFrom made [] before) key now list p.0 come (sym is))

-- ---- a told cache

-- from which entries the run goes on
record Serves (t : Terms) (before : CacheState) (base : List EntryValue) (sends : List Sent) (s : StateValue)
    (k : SeekingValue) (given : Option (EntryValue × Acceptance)) : Type 0 where
  cached : List EntryValue
  served : ServeFrom before.told t.now cached
  run : Run t cached sends s
  among : IsAmong t cached s k given
  wider : (now : Option CacheList) → EachKept t base sends before.told now → EachKept t cached sends before.told now

untold_more : (now : ℕ) (cached : List EntryValue) (key : CacheKeyValue) (e : EntryValue)
    → AllByRecursion (λ x. is_live now x ≡ true) cached → is_hit key now e ≡ true
    → AllByRecursion (λ x. is_live now x ≡ true) (cached ++ e ∷ [])
untold_more now cached key e all hits =
    each_append (λ x. is_live now x ≡ true) cached (e ∷ []) all
    ((and_parts (key_eq key e.key) (nat_lt now e.expires) hits).1, tt)

last_in : {X : Type 0} (xs : List X) (x : X) → IsIn x (xs ++ x ∷ [])
last_in [] x = inl refl
last_in (y ∷ xs) x = inr (last_in xs x)

serves_untold : (t : Terms) (before : CacheState) (sends : List Sent) (s : StateValue) (now : CacheState)
    (k : SeekingValue) (given : Option (EntryValue × Acceptance))
    → (on : IsOn t before sends s now) → before.told ≡ None
    → IfSome (option_map (λ p. p.0) given) (λ e. is_hit (key_of k.so_far.query k.placed.set) t.now e ≡ true)
    → Serves t before on.cached sends s k given
serves_untold t before sends s now k None on none hits =
    record { cached = on.cached; served = on.served; run = on.run; among = tt; wider = λ list h. h }
serves_untold t before sends s now k (Some p) on none hits =
    let key = key_of k.so_far.query k.placed.set in
    let more = on.cached ++ p.0 ∷ [] in
    let all = subst (λ o. ServeFrom o t.now on.cached) none on.served in
    record {
      cached = more;
      served = subst (λ o. ServeFrom o t.now more) (sym none) (untold_more t.now on.cached key p.0 all hits);
      run = run_more t on.cached (p.0 ∷ []) sends s on.run;
      among = among_by t more s k t.now (Some p) (record { hit = hits; before = λ origin. last_in on.cached p.0 });
      wider = λ list h. kept_wider t on.cached (p.0 ∷ []) sends before.told list h;
    }

module _ (t : Terms) (before : CacheState) (sends : List Sent) where
  serves_told : (s : StateValue) (now : CacheState) (k : SeekingValue) (given : Option (EntryValue × Acceptance))
      (list : CacheList) (held : Option CacheList) → (on : IsOn t before sends s now) → s.kept ≡ []
      → before.told ≡ Some list → now.told ≡ held
      → IfSome (option_map (λ p. p.0) given) (λ e. is_hit (key_of k.so_far.query k.placed.set) t.now e ≡ true)
      → IfSome held (λ l. option_map (λ p. p.0) given ≡ hit (key_of k.so_far.query k.placed.set) t.now l)
      → Serves t before on.cached sends s k given
  serves_told s now k given list None on rests is at hits told =
      absurd (subst (λ o. EachKept t on.cached sends (Some list) o) at
      (subst (λ o. EachKept t on.cached sends o now.told) is on.left))
  serves_told s now k given list (Some held) on rests is at hits told =
      let come = subst (λ o. AllComeFrom s.made s.kept o now.told) is on.come in
      let here = subst (λ kept. AllComeFrom s.made kept (Some list) now.told) rests come in
      let all = subst (λ o. AllComeFrom s.made [] (Some list) o) at here in
      record {
        cached = on.cached;
        served = on.served;
        run = on.run;
        among = among_by t on.cached s k t.now given
            (list_given (key_of k.so_far.query k.placed.set) t.now s.made list.entries on.cached held given
            (subst (λ o. ServeFrom o t.now on.cached) is on.served) all hits told);
        wider = λ l h. h;
      }

serves : (t : Terms) (before : CacheState) (sends : List Sent) (s : StateValue) (now : CacheState) (k : SeekingValue)
    (given : Option (EntryValue × Acceptance))
    (o : Option CacheList) → (on : IsOn t before sends s now) → s.kept ≡ [] → before.told ≡ o
    → IfSome (option_map (λ p. p.0) given) (λ e. is_hit (key_of k.so_far.query k.placed.set) t.now e ≡ true)
    → IfSome now.told (λ l. option_map (λ p. p.0) given ≡ hit (key_of k.so_far.query k.placed.set) t.now l)
    → Serves t before on.cached sends s k given
serves t before sends s now k given None on rests is hits told = serves_untold t before sends s now k given on is hits
serves t before sends s now k given (Some list) on rests is hits told =
    serves_told t before sends s now k given list now.told on rests is refl hits told

come_got : (made : List MadeValue) (kept : List EntryValue) (key : CacheKeyValue) (now : ℕ)
    (before old : Option CacheList) → AllComeFrom made kept before old
    → AllComeFrom made kept before (option_map (after_get key now) old)
come_got made kept key now None old h = tt
come_got made kept key now (Some before) None h = tt
come_got made kept key now (Some before) (Some old) h = each_got (ComesFrom made kept before.entries) key now old h

module _ (t : Terms) (before : CacheState) (sends : List Sent) where
  on_taken : (s u : StateValue) (now after : CacheState) (key : CacheKeyValue)
      (given : Option (EntryValue × Acceptance))
      → IsOn t before sends s now → s.kept ≡ [] → (w : Seeks s key) → Got key t.now now after given
      → HasTaken t s given u → IsOn t before sends u after
  on_taken s u now after key given on rests w got taken =
      let k = w.it in
      let hits = subst (λ x. IfSome (option_map (λ p. p.0) given) (λ e. is_hit x t.now e ≡ true)) w.is got.hits in
      let told = subst (λ x. IfSome now.told (λ l. option_map (λ p. p.0) given ≡ hit x t.now l)) w.is got.told in
      let by = serves t before sends s now k given before.told on rests refl hits told in
      let come =
      subst (AllComeFrom s.made s.kept before.told) (sym got.left)
      (come_got s.made s.kept key t.now before.told now.told on.come) in
      let known = known_taken before.told after.told t s u given taken (record { made = on.made; come = come }) in
      let found_run : Run t by.cached sends (found t given s) =
      Sought sends s (found t given s) k given by.run w.seeks by.among refl in
      let first : GivenFirst (key_of k.so_far.query k.placed.set) t.now now.told given =
      subst (λ x. GivenFirst x t.now now.told given) w.is
      (record { is = got.told; known = got.known; listed = got.listed }) in
      record {
        cached = by.cached;
        served = by.served;
        run = takes_on t s u given taken by.cached sends k w.seeks by.among by.run;
        settled = taken.settled;
        left = by.wider after.told
            (kept_left t on.cached sends key t.now before.told now.told after.told
            (let r : Result (Option EntryValue) ℕ = Ok (option_map (λ p. p.0) given) in r) got.left on.left);
        come = known.come;
        made = known.made;
        hits = rose_given (served_in s) (served_in u) before.hits now.hits after.hits given
            (taken_served t s u given taken) on.hits got.count;
        few = few_given (asked_in s) (asked_in u) before.hits now.hits after.hits given
            (taken_asked t by.cached sends s u given k w.seeks (seeking_still t by.cached sends s k by.run w.seeks)
            found_run taken) on.few got.count;
        first = taken_first t by.cached sends before.told now.told after.told s u k given found_run w.seeks first taken
            on.first;
        last = taken_kept t by.cached sends s u after.told given found_run
            (seeking_still t by.cached sends s k by.run w.seeks) taken;
        out = on.out;
        gave = taken_gave t by.cached sends s u given on.out found_run taken on.gave;
        puts = puts_got t.now before.told now.told after.told on.out key got.left on.puts;
      }

pub some_is : {X : Type 0} (o : Option X) (x : X) → o ≡ Some x → IsSome o
some_is o x is = subst IsSome (sym is) refl

not_sought : (k : SeekingValue) → Some k ≡ None → ⊥
not_sought k h = cc

module _ (t v : Terms) (before : CacheState) (sends : List Sent) where
  -- it goes on by what it was given
  pub behind_taken : (s m u : StateValue) (now after : CacheState) (key : CacheKeyValue)
      (given : Option (EntryValue × Acceptance)) → IsBehind t before sends s now → s.kept ≡ [] → WantsEntry s m key
      → v ≡ t
      → Got key t.now now after given → (IsSome m.seeking → IsOut u ⊎ HasTaken v m given u)
      → IsBehind t before sends u after
  behind_taken s m u now after key given behind rests w same got taken =
      by (taken (some_is m.seeking w.seeks.it w.seeks.seeks)) behind
    where
      here : Seeks s key
      here = subst (λ x. Seeks x key) w.same w.seeks

      got_stopped : IsStopped t before sends now → IsStopped t before sends after
      got_stopped h = record {
        cached = h.cached;
        served = h.served;
        state = h.state;
        run = h.run;
        left = kept_left t h.cached sends key t.now before.told now.told after.told
            (let r : Result (Option EntryValue) ℕ = Ok (option_map (λ p. p.0) given) in r) got.left h.left;
      }

      by : IsOut u ⊎ HasTaken v m given u → IsBehind t before sends s now → IsBehind t before sends u after
      by (inl out) any = inr (record { out = out; behind = got_stopped (stopped_of t before sends s now any) })
      by (inr h) (inl on) =
          inl (on_taken t before sends s u now after key given on rests here got
          (subst (λ x. HasTaken t x given u) w.same (subst (λ x. HasTaken x m given u) same h)))
      by (inr h) (inr stops) = absurd (not_sought here.it (sym here.seeks ∙ stops.out.seeks))

-- ---- where memory had run out

pub rests_kept : (t : Terms) (before : CacheState) (cached : List EntryValue) (sends : List Sent) (s m : StateValue)
    (now after : CacheState)
    → IsLost t before cached sends s now → m ≡ kept_all s → after.told ≡ option_map (after_inserts s.kept) now.told
    → IsLost t before cached sends m after
rests_kept t before cached sends s m now after lost is left = record {
  out = subst IsOut (sym (is ∙ state_again s lost.out.keeps)) lost.out;
  left = subst (EachKept t cached sends before.told) (sym (out_kept s now.told after.told lost.out left)) lost.left;
}

pub rests_failed : (t : Terms) (before : CacheState) (cached : List EntryValue) (sends : List Sent) (s : StateValue)
    (now after : CacheState)
    → IsLost t before cached sends s now → LeftByFront s.kept now.told after.told
    → EachKept t cached sends before.told after.told
rests_failed t before cached sends s now after lost f =
    kept_front t cached sends s.kept before.told now.told after.told
    (subst (AllByRecursion (MayAdd t cached sends)) (sym lost.out.keeps) tt) f lost.left

pub rests_none : (E : Type 0) (t : Terms) (before : CacheState) (cached : List EntryValue) (sends : List Sent)
    (s m : StateValue) (now : CacheState)
    → IsLost t before cached sends s now → IsOut m ⊎ (m ≡ s) → LostTo {E = E} t before cached sends (Ok None) m now
rests_none E t before cached sends s m now lost (inl out) = (record { out = out; left = lost.left }, refl)
rests_none E t before cached sends s m now lost (inr is) =
    (subst (λ x. IsLost t before cached sends x now) (sym is) lost, refl)

pub rests_never : (t u : Terms) (s m : StateValue) (w : Wanted) → IsOut s → u ≡ t → IsOut m ⊎ (Some w ≡ wanted_in u s)
    → (IsOut m → Some w ≡ None) → ⊥
rests_never t u s m w lost same (inl out) none = not_wanted w (sym (none out))
rests_never t u s m w lost same (inr wants) none =
    not_wanted w (sym (wants ∙ ap (λ x. wanted_in x s) same ∙ out_wants t s lost))
