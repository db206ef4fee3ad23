-- The sends of a run, as a handle makes them: the first one by the request of the terms, each other one by that of its
-- ask.
use Rattle.std.proofs.Common.{ℕ, ◌≡◌, ◌≤◌, ◌<◌, ◌⊎◌, List, [], ◌∷◌, ◌++◌, length, map, Option, None, Some, Result, Ok, Err, refl, sym, ap, subst, ◌∙◌, arith, inl, inr}
use Rattle.std.specs.List.{AllByRecursion}
use Rattle.dns_model.specs.Records.{Question}
use Rattle.dns_model.specs.Trails.{AskedValue}
use Rattle.dns_model.proofs.EachLemmas.{each_append}
use Rattle.dns_rules.specs.Asking.{most_sends}
use Rattle.dns_rules.specs.CacheEntries.{EntryValue, live}
use Rattle.dns_handle.specs.Errors as seen
use Rattle.dns_handle.specs.Errors.{Reply}
use Rattle.dns_handle.specs.Handles.{OrUnsent}
use Rattle.dns_handle.specs.Requests.{first_question}
use Rattle.dns_handle.specs.Walks.{Steps}
use Rattle.dns_handle.specs.declared.error.NetError.{NetError}
use Rattle.dns_handle.specs.declared.handle.DnsHandle as handle
use Rattle.dns_handle.specs.declared.request.DnsRequestOptions.{DnsRequestOptions}
use Rattle.dns_flow.specs.declared.asks.Ask.{Ask}
use Rattle.dns_flow.specs.Phases.{judged_ask}
use Rattle.dns_validation.specs.Requests.{request_for}
use Rattle.dns_validation.specs.Machine.{Terms, OpenValue, SeekingValue, MadeValue, StateValue, begin}
use Rattle.dns_validation.specs.Runs.{Sent, Run, Begun, request_in, sent_now}
use Rattle.dns_validation.proofs.RunLemmas.{run_stands}
use Rattle.dns_validation.proofs.Stands.{Awaits, Open, Ground, Above, Stand, Waits, Seeks, Moves, Done}
use Rattle.dns_cache.specs.CacheLists.{CacheList}
use Rattle.dns_lookup.specs.Caching.{ServeFrom, HasNone, HasSecureAlone}
use Rattle.dns_lookup.specs.Calls.{Sending, Asking, Requesting}
use Rattle.dns_lookup.specs.Sends.{SendsBy, SendsFor}
use Rattle.dns_lookup.specs.Limiting.{default_entries}
use Rattle.dns_lookup.specs.Fronts.{MakesSend, MakesSends, IsFront, SendsOfTerms}
use Rattle.dns_lookup.proofs.AddLemmas.{kept_none}
use Rattle.dns_lookup.proofs.SendLemmas.{first_asked}

-- ---- which sends they are

-- the first send
pub record Begins (t : Terms) (sent : Sent) : Type 0 where
  pub ask : sent.ask ≡ judged_ask t.query
  pub request : sent.request ≡ t.request

abbrev IsOwn : Terms → Sent → Type 0
IsOwn t sent = sent.request ≡ request_for t.options sent.ask

abbrev pub AreSends : Terms → List Sent → Type 0
AreSends t [] = Unit {0}
AreSends t (sent ∷ sends) = Begins t sent × AllByRecursion (λ s. s.request ≡ request_for t.options s.ask) sends

one_more : (t : Terms) (sends : List Sent) (one : Sent) → AreSends t sends → (sends ≡ [] → Begins t one)
    → ((sends ≡ [] → ⊥) → IsOwn t one)
    → AreSends t (sends ++ one ∷ [])
one_more t [] one are first own = (first refl, tt)
one_more t (s ∷ sends) one are first own = (
  are.0,
  each_append (λ (x : Sent). x.request ≡ request_for t.options x.ask) sends (one ∷ []) are.1
      (own (λ h. cc), tt),
)

-- ---- an ask that waits

-- it is one of at most 1,024, its request has its question, and its send goes on with the others
pub record IsNext (t : Terms) (s : StateValue) (sends : List Sent) (ask : Ask) : Type 0 where
  pub few : s.sends < most_sends
  pub asks : first_question (request_in t s.steps ask) ≡ Some ask.query
  pub more : (reply : Reply) → AreSends t sends → AreSends t (sends ++ sent_now t s ask reply ∷ [])

none_sent : (t : Terms) (cached : List EntryValue) (steps : List OpenValue) (closed : List AskedValue) (n : ℕ)
    (sends : List Sent) → Open t cached steps closed n sends
    → steps ≡ [] → sends ≡ []
none_sent t cached _ _ _ _ Ground none = refl
none_sent t cached _ _ _ _ (Above f outer below closed n m before after all first beneath on_top is) none = cc

never_none : (before : List Sent) (first : Sent) (after : List Sent) → before ++ first ∷ after ≡ [] → ⊥
never_none [] first after h = cc
never_none (s ∷ before) first after h = cc

some_sent : (t : Terms) (cached : List EntryValue) (f : OpenValue) (outer : List OpenValue) (closed : List AskedValue)
    (n : ℕ) (sends : List Sent)
    → Open t cached (f ∷ outer) closed n sends → sends ≡ [] → ⊥
some_sent t cached _ _ _ _ _ (Above f outer below closed n m before after all first beneath on_top is) none =
    never_none before first after (sym is ∙ none)

-- the request of an ask, over so many open steps
record Asked (t : Terms) (steps : List OpenValue) (n : ℕ) (sends : List Sent) (ask : Ask) : Type 0 where
  few : n < most_sends
  asks : first_question (request_in t steps ask) ≡ Some ask.query
  more : (one : Sent) → one.ask ≡ ask → one.request ≡ request_in t steps ask → AreSends t sends
      → AreSends t (sends ++ one ∷ [])

next_at : (t : Terms) (cached : List EntryValue) (steps : List OpenValue) (closed : List AskedValue) (n : ℕ)
    (sends : List Sent) (ask : Ask)
    → first_question t.request ≡ Some t.query → Open t cached steps closed n sends → n < most_sends → Awaits t steps ask
    → Asked t steps n sends ask
next_at t cached [] closed n sends ask asks beneath few awaits = record {
  few = few;
  asks = asks ∙ ap (λ (a : Ask). Some a.query) (sym awaits);
  more = λ one is request are.
      one_more t sends one are (λ none. record { ask = is ∙ awaits; request = request })
      (λ some. absurd (some (none_sent t cached [] closed n sends beneath refl)));
}
next_at t cached (f ∷ outer) closed n sends ask asks beneath few awaits = record {
  few = few;
  asks = first_asked t.options ask.query ask.judged;
  more = λ one is request are.
      one_more t sends one are (λ none. absurd (some_sent t cached f outer closed n sends beneath none))
      (λ some. request ∙ ap (request_for t.options) (sym is));
}

module _ (t : Terms) (cached : List EntryValue) (ask : Ask) (asks : first_question t.request ≡ Some t.query) where
  next_by : (pending : Option Ask) (seeking : Option SeekingValue) (steps : List OpenValue) (closed : List AskedValue)
      (n : ℕ) (sends : List Sent) (made : List MadeValue) (ended : Option Reply)
      → Stand t cached pending seeking steps closed n sends made ended → pending ≡ Some ask → Asked t steps n sends ask
  next_by _ _ _ _ _ _ _ _ (Waits q steps closed n sends made beneath few awaits each) is =
      let same : q ≡ ask = cc in
      subst (Asked t steps n sends) same (next_at t cached steps closed n sends q asks beneath few awaits)
  next_by _ _ _ _ _ _ _ _ (Seeks k outer below closed n m before after all first made beneath on_top whole each) is =
      cc
  next_by _ _ _ _ _ _ _ _ (Moves f outer closed n sends made beneath each) is = cc
  next_by _ _ _ _ _ _ _ _ (Done closed n sends made reply comes) is = cc

pub run_next : (t : Terms) (cached : List EntryValue) (s : StateValue) (sends : List Sent) (ask : Ask)
    → first_question t.request ≡ Some t.query
    → Run t cached sends s → s.pending ≡ Some ask → IsNext t s sends ask
run_next t cached s sends ask asks run is =
    let stands = run_stands t cached sends s run in
    let next = next_by t cached ask asks s.pending s.seeking s.steps s.closed s.sends sends s.made s.ended stands is in
    record {
      few = next.few;
      asks = next.asks;
      more = λ reply are. next.more (sent_now t s ask reply) refl refl are;
    }

-- ---- the way of a handle

pub made_more : {H : Type 0} (meanings : handle.Ghosts H) (now : ℕ) (a b c : H) (sends : List Sent) (one : Sent)
    → MakesSends meanings now a sends b
    → MakesSend meanings now b one c → MakesSends meanings now a (sends ++ one ∷ []) c
made_more {H} meanings now a b c [] one here made =
    let P : H → Type 0 = λ x. MakesSend meanings now x one c in (c, subst P (sym here) made, refl)
made_more meanings now a b c (s ∷ sends) one way made =
    (way.0, way.1, made_more meanings now way.0 b c sends one way.2 made)

-- sends by the requests of their asks are asks of a lookup
steps_of : {H : Type 0} (meanings : handle.Ghosts H) (options : DnsRequestOptions) (now : ℕ) (a b : H)
    (sends : List Sent)
    → AllByRecursion (λ s. s.request ≡ request_for options s.ask) sends → MakesSends meanings now a sends b
    → Steps (Asking meanings options now) a (map (λ (s : Sent). (s.ask, s.reply)) sends) b
steps_of meanings options now a b [] own here = here
steps_of meanings options now a b (s ∷ sends) own way = (
  way.0,
  subst
      (λ r. Sending meanings r (Some s.ask.query) now a way.0 s.reply) own.0 way.1,
  steps_of meanings options now
      way.0 b sends own.1 way.2,
)

length_map : {X Y : Type 0} (f : X → Y) (xs : List X) → length (map f xs) ≡ length xs
length_map f [] = refl
length_map f (x ∷ xs) = let rest = length_map f xs in omega (arith, rest)

-- where there is one, they are those of the terms
sends_by : {H : Type 0} (meanings : handle.Ghosts H) (t : Terms) (old new : H) (s : Sent) (sends : List Sent)
    → AreSends t (s ∷ sends)
    → MakesSends meanings t.now old (s ∷ sends) new → length (s ∷ sends) ≤ most_sends → SendsOfTerms meanings t old new
sends_by meanings t old new s sends are way few =
    let Made : Ask → Type 0 = λ a. Sending meanings s.request (Some a.query) t.now old way.0 s.reply in
    let first : Requesting meanings t.request t.now old (judged_ask t.query) way.0 s.reply =
    subst (λ r. Sending meanings r (Some t.query) t.now old way.0 s.reply) are.0.request (subst Made are.0.ask way.1) in
    let pair : Sent → Ask × Reply = λ x. (x.ask, x.reply) in
    let same = length_map pair sends in
    record {
      middle = way.0;
      reply = s.reply;
      sends = length (s ∷ sends);
      first = first;
      others = record {
        steps = map (λ (x : Sent). (x.ask, x.reply)) sends;
        walked = steps_of meanings t.options t.now way.0 new sends are.1 way.2;
        counted = omega (arith, same);
      };
      few = few;
    }

-- they are those of the terms, or there is none
pub sends_of : {H : Type 0} (meanings : handle.Ghosts H) (t : Terms) (old new : H) (sends : List Sent)
    → AreSends t sends → MakesSends meanings t.now old sends new
    → length sends ≤ most_sends → SendsOfTerms meanings t old new ⊎ (old ≡ new)
sends_of meanings t old new [] are here few = inr here
sends_of meanings t old new (s ∷ sends) are way few = inl (sends_by meanings t old new s sends are way few)

pub sends_of_some : {H : Type 0} (meanings : handle.Ghosts H) (t : Terms) (old new : H) (sends : List Sent)
    → AreSends t sends → MakesSends meanings t.now old sends new
    → length sends ≤ most_sends → (sends ≡ [] → ⊥) → SendsOfTerms meanings t old new
sends_of_some meanings t old new [] are here few some = absurd (some refl)
sends_of_some meanings t old new (s ∷ sends) are way few some = sends_by meanings t old new s sends are way few

pub or_unsent : {H X : Type 0} (old new : H) (result : Result X NetError) (Sent : Type 0) → Sent
    → OrUnsent old new result Sent
or_unsent old new (Ok x) Sent sent = sent
or_unsent old new (Err e) Sent sent = inl sent

-- the first send is one like the others
pub sends_alike : {H : Type 0} (meanings : handle.Ghosts H) (options : DnsRequestOptions) (now : ℕ) (old new : H)
    (q : Question)
    → SendsBy (Requesting meanings (request_for options (judged_ask q)) now) (Asking meanings options now) old new q
    → SendsFor (Asking meanings options now) old new q
sends_alike meanings options now old new q by =
    record {
      middle =
          by.middle;
      reply = by.reply;
      sends = by.sends;
      first = by.first;
      others = by.others;
      few = by.few;
    }

pub unsent_alike : {H X : Type 0} (meanings : handle.Ghosts H) (options : DnsRequestOptions) (now : ℕ) (old new : H)
    (q : Question) (result : Result X NetError)
    → OrUnsent old new result
    (SendsBy (Requesting meanings (request_for options (judged_ask q)) now) (Asking meanings options now) old new q)
    → OrUnsent old new result (SendsFor (Asking meanings options now) old new q)
unsent_alike meanings options now old new q (Ok x) by = sends_alike meanings options now old new q by
unsent_alike meanings options now old new q (Err e) (inl by) = inl (sends_alike meanings options now old new q by)
unsent_alike meanings options now old new q (Err e) (inr unsent) = inr unsent

-- from what was kept before, unless the cache doesn't tell
pub live_before : Option CacheList → ℕ → List EntryValue
live_before None now = []
live_before (Some list) now = live now list.entries

pub serves_before : (before : Option CacheList) (now : ℕ) → ServeFrom before now (live_before before now)
unfolding live_before
serves_before None now = tt
serves_before (Some list) now = refl

-- nothing serves from a cache that was made for the lookup
pub fresh_serves : (before : Option CacheList) (now : ℕ) (cached : List EntryValue) → before ≡ Some default_entries
    → ServeFrom before now cached → cached ≡ []
fresh_serves before now cached fresh served = subst (λ o. ServeFrom o now cached) fresh served

pub fresh_none : (before : Option CacheList) (now : ℕ) → before ≡ Some default_entries → HasNone before now
fresh_none before now fresh = subst (λ o. HasNone o now) (sym fresh) refl

pub fresh_secure : (before : Option CacheList) (now : ℕ) → before ≡ Some default_entries → HasSecureAlone before now
fresh_secure before now fresh = subst (λ o. HasSecureAlone o now) (sym fresh) refl

-- nothing was sent, the cache is as it was, and memory ran out
pub unsent_front : {H : Type 0} (meanings : handle.Ghosts H) (t : Terms) (before : Option CacheList) (hits : ℕ)
    (still : H)
    → IsFront meanings t (record { before = before; after = before; hits_before = hits; hits_after = hits }) still still
    (Err seen.NoMemory)
unsent_front meanings t before hits still = record {
  cached = live_before before t.now;
  served = serves_before before t.now;
  sends = [];
  state = begin t.query;
  run = Begun (begin t.query) refl;
  middle = still;
  made = refl;
  rest = inl refl;
  came = inl refl;
  added = kept_none t (live_before before t.now) [] before;
}
