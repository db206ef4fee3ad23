-- What a lookup may add to a cache, and that each other entry was there before.
use Rattle.std.proofs.Common.{◌≡◌, ◌⊎◌, ◌&&◌, ℕ, Bool, true, false, List, [], ◌∷◌, ◌++◌, append_assoc, append-nil, Option, None, Some, if◌then◌else◌, refl, sym, ap, subst, ◌∙◌, inl, inr}
use Rattle.std.specs.List.{AllByRecursion}
use Rattle.std.specs.Option.{option_map}
use Rattle.std.specs.Prelude.{Result, Ok, Err}
use Rattle.std.proofs.lemmas.Bool.{and_from}
use Rattle.dns_model.specs.SoundAnswers.{ChainValue, is_secure}
use Rattle.dns_model.proofs.EachLemmas.{each_more, each_front}
use Rattle.dns_rules.specs.CacheKeys.{CacheKeyValue}
use Rattle.dns_rules.specs.CacheEntries.{EntryValue, mark_of, sig_of}
use Rattle.dns_rules.specs.ChainedSets.{ChainedSet, stands}
use Rattle.dns_rules.specs.MarkedSets.{MarkedSet, placed_of}
use Rattle.dns_rules.specs.ProofErrors.{ProofErrorKindValue}
use Rattle.dns_rules.specs.Serving.{has_place, proves_set, judged_as, links_of}
use Rattle.dns_cache.specs.CacheLists.{CacheList, after_get}
use Rattle.dns_cache.specs.Caches.{LeftByGet}
use Rattle.dns_flow.specs.Causes.{found_of}
use Rattle.dns_flow.proofs.Founds.{found_mark, found_sig}
use Rattle.dns_validation.specs.Left.{IsLeft}
use Rattle.dns_validation.specs.Machine.{Terms, StateValue, chain_of, entry_by}
use Rattle.dns_validation.specs.Runs.{IsIn, Sent, Run}
use Rattle.dns_validation.proofs.FoundLemmas.{front_in}
use Rattle.dns_validation.proofs.LeftLemmas.{run_left}
use Rattle.dns_validation.proofs.RunLemmas.{run_more}
use Rattle.dns_lookup.specs.Caching.{MayAdd, EachKept}
use Rattle.dns_lookup.specs.Driving.{LeftByFront, after_inserts}
use Rattle.dns_lookup.proofs.ListedLemmas.{each_got, room_got, each_inserts, room_inserts}

-- ---- what may be added

-- what was found, said of its own set
judged_again : (t : Terms) (c : ChainedSet) (cause : ProofErrorKindValue)
    → judged_as (placed_of c.judged) (found_of t.now c.judged cause) ≡ c.judged
judged_again t c cause =
    ap (λ m. (let x : MarkedSet = record c.judged { mark = m; sig = sig_of (found_of t.now c.judged cause) } in x))
    (found_mark t.now c.judged cause)
    ∙ ap (λ s. (let x : MarkedSet = record c.judged { sig = s } in x)) (found_sig t.now c.judged cause)

links_back : (c : ChainedSet) (b : Bool) → b ≡ true
    → links_of
    (if b then Some
    (let x : ChainValue = record { section = c.judged.section; links = c.chain } in x) else None) ≡ c.chain
links_back c true is = refl
links_back c false is = cc

holds_by : (t : Terms) (c : ChainedSet) (cause : ProofErrorKindValue) (b : Bool) → is_secure c.judged.mark ≡ b
    → (if b then proves_set t.judge c.judged c.chain else true) ≡ true
    → has_place c.judged.set c.judged.sig ≡ true
    → (if b then has_place c.judged.set (sig_of (found_of t.now c.judged cause))
    && proves_set t.judge (judged_as (placed_of c.judged) (found_of t.now c.judged cause))
    (links_of (chain_of c)) else true) ≡ true
holds_by t c cause false is stand place = refl
holds_by t c cause true is stand place =
    and_from (has_place c.judged.set (sig_of (found_of t.now c.judged cause)))
    (proves_set t.judge (judged_as (placed_of c.judged) (found_of t.now c.judged cause)) (links_of (chain_of c)))
    (ap (has_place c.judged.set) (found_sig t.now c.judged cause) ∙ place)
    (ap (λ j. proves_set t.judge j (links_of (chain_of c))) (judged_again t c cause)
    ∙ ap (proves_set t.judge c.judged) (links_back c (is_secure c.judged.mark) is) ∙ stand)

entry_holds : (t : Terms) (c : ChainedSet) (cause : ProofErrorKindValue) → stands t.judge c ≡ true
    → has_place c.judged.set c.judged.sig ≡ true
    → (if is_secure (mark_of (found_of t.now c.judged cause))
    then has_place c.judged.set (sig_of (found_of t.now c.judged cause))
    && proves_set t.judge (judged_as (placed_of c.judged) (found_of t.now c.judged cause))
    (links_of (chain_of c)) else true) ≡ true
entry_holds t c cause stand place =
    ap (λ m. if is_secure m then has_place c.judged.set (sig_of (found_of t.now c.judged cause))
    && proves_set t.judge (judged_as (placed_of c.judged) (found_of t.now c.judged cause))
    (links_of (chain_of c)) else true)
    (found_mark t.now c.judged cause)
    ∙ holds_by t c cause (is_secure c.judged.mark) refl stand place

-- what a run leaves may be added
left_added : (t : Terms) (cached : List EntryValue) (sends : List Sent) (s : StateValue) (e : EntryValue)
    → Run t cached sends s → IsIn e s.kept → IsLeft t sends e
    → MayAdd t cached sends e
left_added t cached sends s e run gives h =
    let made = entry_by t h.sent.ask.query h.set (found_of t.now h.set.judged h.cause) in
    subst (MayAdd t cached sends) (sym h.is) (record {
      front = sends;
      rest = [];
      along = append-nil sends;
      state = s;
      run = run;
      gives = subst (λ x. IsIn x s.kept) h.is gives;
      sent = h.sent;
      among = h.among;
      message = h.message;
      empty = h.empty;
      received = h.received;
      placed = placed_of h.set.judged;
      heard = h.placed;
      key = refl;
      expires = refl;
      answered = h.kept;
      holds = entry_holds t h.set h.cause h.stand h.place;
    })

each_added : (t : Terms) (cached : List EntryValue) (sends : List Sent) (s : StateValue) (entries : List EntryValue)
    → Run t cached sends s
    → ((e : EntryValue) → IsIn e entries → IsIn e s.kept) → AllByRecursion (IsLeft t sends) entries
    → AllByRecursion (MayAdd t cached sends) entries
each_added t cached sends s [] run gives h = tt
each_added t cached sends s (e ∷ entries) run gives h = (
  left_added t cached sends s e run (gives e (inl refl)) h.0,
  each_added t cached sends s entries run
      (λ x is. gives x (inr is)) h.1,
)

pub run_adds : (t : Terms) (cached : List EntryValue) (sends : List Sent) (s : StateValue) → Run t cached sends s
    → AllByRecursion (MayAdd t cached sends) s.kept
run_adds t cached sends s run = each_added t cached sends s s.kept run (λ e is. is) (run_left t cached sends s run)

added_more : (t : Terms) (cached : List EntryValue) (sends more : List Sent) (e : EntryValue) → MayAdd t cached sends e
    → MayAdd t cached (sends ++ more) e
added_more t cached sends more e h = record {
  front = h.front;
  rest = h.rest ++ more;
  along = sym (append_assoc h.front h.rest more) ∙ ap (λ xs. xs ++ more) h.along;
  state = h.state;
  run = h.run;
  gives = h.gives;
  sent = h.sent;
  among = front_in h.sent sends more h.among;
  message = h.message;
  empty = h.empty;
  received = h.received;
  placed = h.placed;
  heard = h.heard;
  key = h.key;
  expires = h.expires;
  answered = h.answered;
  holds = h.holds;
}

added_wider : (t : Terms) (cached more : List EntryValue) (sends : List Sent) (e : EntryValue) → MayAdd t cached sends e
    → MayAdd t (cached ++ more) sends e
added_wider t cached more sends e h = record {
  front = h.front;
  rest = h.rest;
  along = h.along;
  state = h.state;
  run = run_more t cached more h.front h.state h.run;
  gives = h.gives;
  sent = h.sent;
  among = h.among;
  message = h.message;
  empty = h.empty;
  received = h.received;
  placed = h.placed;
  heard = h.heard;
  key = h.key;
  expires = h.expires;
  answered = h.answered;
  holds = h.holds;
}

-- ---- each entry

abbrev pub IsOne : Terms → List EntryValue → List Sent → List EntryValue → EntryValue → Type 0
IsOne t cached sends before e = IsIn e before ⊎ MayAdd t cached sends e

one_more : (t : Terms) (cached : List EntryValue) (sends more : List Sent) (before : List EntryValue) (e : EntryValue)
    → IsOne t cached sends before e
    → IsOne t cached (sends ++ more) before e
one_more t cached sends more before e (inl here) = inl here
one_more t cached sends more before e (inr may) = inr (added_more t cached sends more e may)

one_wider : (t : Terms) (cached more : List EntryValue) (sends : List Sent) (before : List EntryValue) (e : EntryValue)
    → IsOne t cached sends before e
    → IsOne t (cached ++ more) sends before e
one_wider t cached more sends before e (inl here) = inl here
one_wider t cached more sends before e (inr may) = inr (added_wider t cached more sends e may)

-- by more sends
pub kept_more : (t : Terms) (cached : List EntryValue) (sends more : List Sent) (before now : Option CacheList)
    → EachKept t cached sends before now
    → EachKept t cached (sends ++ more) before now
kept_more t cached sends more None None h = tt
kept_more t cached sends more None (Some now) h = h
kept_more t cached sends more (Some before) None h = h
kept_more t cached sends more (Some before) (Some now) h = (
  each_more (IsOne t cached sends before.entries) (IsOne t cached (sends ++ more) before.entries)
      (one_more t cached sends more before.entries) now.entries h.0,
  h.1,
)

-- and from more entries
pub kept_wider : (t : Terms) (cached more : List EntryValue) (sends : List Sent) (before now : Option CacheList)
    → EachKept t cached sends before now
    → EachKept t (cached ++ more) sends before now
kept_wider t cached more sends None None h = tt
kept_wider t cached more sends None (Some now) h = h
kept_wider t cached more sends (Some before) None h = h
kept_wider t cached more sends (Some before) (Some now) h = (
  each_more (IsOne t cached sends before.entries) (IsOne t (cached ++ more) sends before.entries)
      (one_wider t cached more sends before.entries) now.entries h.0,
  h.1,
)

each_self : (t : Terms) (cached : List EntryValue) (sends : List Sent) (more all : List EntryValue)
    → ((e : EntryValue) → IsIn e more → IsIn e all)
    → AllByRecursion (IsOne t cached sends all) more
each_self t cached sends [] all f = tt
each_self t cached sends (e ∷ more) all f =
    (inl (f e (inl refl)), each_self t cached sends more all (λ x is. f x (inr is)))

-- nothing was kept so far
pub kept_none : (t : Terms) (cached : List EntryValue) (sends : List Sent) (before : Option CacheList)
    → EachKept t cached sends before before
kept_none t cached sends None = tt
kept_none t cached sends (Some list) = (each_self t cached sends list.entries list.entries (λ e is. is), refl)

-- a hit
pub kept_got : (t : Terms) (cached : List EntryValue) (sends : List Sent) (key : CacheKeyValue) (now : ℕ)
    (before old : Option CacheList)
    → EachKept t cached sends before old → EachKept t cached sends before (option_map (after_get key now) old)
kept_got t cached sends key now None None h = tt
kept_got t cached sends key now None (Some old) h = h
kept_got t cached sends key now (Some before) None h = h
kept_got t cached sends key now (Some before) (Some old) h =
    (each_got (IsOne t cached sends before.entries) key now old h.0, room_got key now old ∙ h.1)

module _ (t : Terms) (cached : List EntryValue) (sends : List Sent) where
  pub kept_left : {E : Type 0} (key : CacheKeyValue) (now : ℕ) (before old new : Option CacheList)
      (given : Result (Option EntryValue) E) → LeftByGet key now old new given → EachKept t cached sends before old
      → EachKept t cached sends before new
  kept_left key now before old new (Ok found) left h =
      subst (EachKept t cached sends before) (sym left) (kept_got t cached sends key now before old h)
  kept_left key now before old new (Err e) (inl same) h = subst (EachKept t cached sends before) (sym same) h
  kept_left key now before old new (Err e) (inr left) h =
      subst (EachKept t cached sends before) (sym left) (kept_got t cached sends key now before old h)

-- what may be added is inserted
ones : (t : Terms) (cached : List EntryValue) (sends : List Sent) (before entries : List EntryValue)
    → AllByRecursion (MayAdd t cached sends) entries
    → AllByRecursion (IsOne t cached sends before) entries
ones t cached sends before entries h =
    each_more (MayAdd t cached sends) (IsOne t cached sends before) (λ e may. inr may) entries h

pub kept_inserted : (t : Terms) (cached : List EntryValue) (sends : List Sent) (entries : List EntryValue)
    (before old : Option CacheList)
    → AllByRecursion (MayAdd t cached sends) entries → EachKept t cached sends before old
    → EachKept t cached sends before (option_map (after_inserts entries) old)
kept_inserted t cached sends entries None None each h = tt
kept_inserted t cached sends entries None (Some old) each h = h
kept_inserted t cached sends entries (Some before) None each h = h
kept_inserted t cached sends entries (Some before) (Some old) each h = (
  each_inserts (IsOne t cached sends before.entries) entries old
      (ones t cached sends before.entries entries each) h.0,
  room_inserts entries old ∙ h.1,
)

each_some : {X : Type 0} (P : X → Type 0) (xs ys all : List X) → xs ++ ys ≡ all → AllByRecursion P all
    → AllByRecursion P xs
each_some P xs ys all whole h = each_front P xs ys (subst (AllByRecursion P) (sym whole) h)

-- also where memory ran out
pub kept_front : (t : Terms) (cached : List EntryValue) (sends : List Sent) (entries : List EntryValue)
    (before old new : Option CacheList)
    → AllByRecursion (MayAdd t cached sends) entries → LeftByFront entries old new → EachKept t cached sends before old
    → EachKept t cached sends before new
kept_front t cached sends entries before old new each f h =
    subst (EachKept t cached sends before) (sym f.left)
    (kept_inserted t cached sends f.some before old
    (each_some (MayAdd t cached sends) f.some f.rest entries f.whole each) h)
