-- A lookup's loop: it goes along a run of its validation, until that has its answer or memory runs out.
use Rattle.std.proofs.Common.{ℕ, false, ◌+◌, ◌-◌, ◌≡◌, ◌≤◌, ◌<◌, ◌⊎◌, List, [], ◌∷◌, ◌++◌, length, Option, None, Some, Result, Ok, Err, refl, sym, ap, subst, ◌∙◌, arith, inl, inr}
use Rattle.std.specs.Option.{option_map, IfSome, IsSome}
use Rattle.std.proofs.lemmas.List.{length_push}
use Rattle.dns_model.specs.Counts.{RoseBy}
use Rattle.dns_model.specs.Records.{Question}
use Rattle.dns_model.specs.SoundAnswers.{ResponseValue}
use Rattle.dns_rules.specs.Asking.{most_sends}
use Rattle.dns_rules.specs.CacheEntries.{EntryValue}
use Rattle.dns_handle.specs.Errors as seen
use Rattle.dns_handle.specs.Errors.{Reply, ErrorValue, Dns, Nsec}
use Rattle.dns_handle.specs.ErrorKinds.{is_no_memory}
use Rattle.dns_handle.specs.Handles.{OrUnsent}
use Rattle.dns_handle.specs.Replies.{reply_of, error_of}
use Rattle.dns_handle.specs.Requests.{RequestValue, first_question}
use Rattle.dns_handle.specs.declared.error.NetError.{NetError}
use Rattle.dns_handle.specs.declared.error.NetError.TheVariants.{NoMemory}
use Rattle.dns_handle.specs.declared.handle.DnsHandle as handle
use Rattle.dns_handle.proofs.ErrorLemmas.{told_no_memory}
use Rattle.dns_flow.specs.declared.asks.Ask.{Ask}
use Rattle.dns_validation.specs.Machine.{Terms, SeekingValue, StateValue, begin, none_open, heard as hears}
use Rattle.dns_validation.specs.Runs.{Sent, sent_now, request_in, Run, Begun, Heard, moves, IsOut, HasHeard}
use Rattle.dns_validation.specs.Comes.{Comes}
use Rattle.dns_validation.specs.Validations.{asking_at}
use Rattle.dns_validation.specs.declared.validation.Asking.{Asking}
use Rattle.dns_validation.proofs.RunLemmas.{goes_on}
use Rattle.dns_lookup.specs.Answering.{call_by, AnswersLookup}
use Rattle.dns_lookup.specs.Caching.{ServeFrom, UsesCache, KeepsLast, PutsAll}
use Rattle.dns_lookup.specs.Calls.{Sending}
use Rattle.dns_lookup.specs.Driving.{CacheState, asked_in, reply_asked, served_in, reply_served, TopServed, FirstServed, NotYet, use_between, AreMade, AllComeFrom, IsOn, IsLost, Stops, ServedTo, ServesOn}
use Rattle.dns_lookup.specs.Fronts.{MakesSend, MakesSends, LosesSend, IsFront, SendsOfTerms}
use Rattle.dns_lookup.specs.LookupAnswers.{OfAnswer, UnlessNoMemory}
use Rattle.dns_lookup.proofs.AddLemmas.{kept_none, kept_more}
use Rattle.dns_lookup.proofs.AskedLemmas.{begun_asked, end_asked, few_still, heard_asked}
use Rattle.dns_lookup.proofs.ComesLemmas.{comes_answers, comes_some}
use Rattle.dns_lookup.proofs.FirstLemmas.{heard_first_set, waiting_still}
use Rattle.dns_lookup.proofs.FoundFirstLemmas.{end_first}
use Rattle.dns_lookup.proofs.KeptFirstLemmas.{begun_kept, heard_kept, keeps_last}
use Rattle.dns_lookup.proofs.GivenLemmas.{begun_gave, end_puts, heard_gave, puts_begun}
use Rattle.dns_lookup.proofs.HitLemmas.{rose_none, rose_fewer, begun_served, heard_served, end_served}
use Rattle.dns_lookup.proofs.FrontLemmas.{AreSends, IsNext, run_next, made_more, sends_of, sends_of_some, or_unsent, live_before, serves_before}
use Rattle.dns_lookup.proofs.OriginLemmas.{come_none}
use Rattle.dns_lookup.proofs.TurnLemmas.{known_heard, heard_sends, run_counts}

-- ---- a lookup so far

-- the handle and the cache have gone along a run
pub record OnRun {H : Type 0} (meanings : handle.Ghosts H) (t : Terms) (old : H) (before : CacheState) (s : StateValue)
    (new : H) (now : CacheState) : Type 0 where
  pub sends : List Sent
  pub on : IsOn t before sends s now
  pub made : MakesSends meanings t.now old sends new
  pub are : AreSends t sends
  pub few : length sends ≤ most_sends

-- or memory ran out behind a front of one
pub record RanOut {H : Type 0} (meanings : handle.Ghosts H) (t : Terms) (old : H) (before : CacheState) (s : StateValue)
    (new : H) (now : CacheState) : Type 0 where
  pub cached : List EntryValue
  pub served : ServeFrom before.told t.now cached
  pub sends : List Sent
  pub state : StateValue
  pub run : Run t cached sends state
  pub middle : H
  pub made : MakesSends meanings t.now old sends middle
  pub rest : (middle ≡ new) ⊎ LosesSend meanings t state middle new (Err seen.NoMemory)
  pub by : SendsOfTerms meanings t old new ⊎ (old ≡ new)
  pub lost : IsLost t before cached sends s now

pub record Going {H : Type 0} (meanings : handle.Ghosts H) (t u : Terms) (old : H) (before : CacheState)
    (s : StateValue) (new : H) (now : CacheState) : Type 0 where
  pub terms : u ≡ t
  pub later : meanings.faults old ≤ meanings.faults new
  pub at : OnRun meanings t old before s new now ⊎ RanOut meanings t old before s new now

module _ {H : Type 0} (meanings : handle.Ghosts H) (t : Terms) (old : H) (before : CacheState) where
  pub going_begun : (s : StateValue) → s ≡ begin t.query → Going meanings t t old before s old before
  going_begun s is = record {
    terms = refl;
    later = omega arith;
    at = inl (record {
      sends = [];
      on = record {
        cached = live_before before.told t.now;
        served = serves_before before.told t.now;
        run = Begun s is;
        settled = ap moves is;
        left = kept_none t (live_before before.told t.now) [] before.told;
        come = subst (λ (x : StateValue). AllComeFrom x.made x.kept before.told before.told) (sym is)
            (come_none [] [] before.told);
        made = subst (λ (x : StateValue). AreMade x.made x.kept) (sym is) tt;
        hits = subst (λ n. RoseBy n before.hits before.hits) (sym (ap served_in is ∙ begun_served t.query))
            (rose_none before.hits);
        few = subst (λ n. before.hits ≤ before.hits + n) (sym (ap asked_in is ∙ begun_asked t.query)) (omega arith);
        first = subst (λ x. FirstServed t before.told x before.told) (sym is)
            (NotYet refl refl refl (record { made = refl; kept = refl; told = refl }));
        last = begun_kept t s before.told is;
        out = [];
        gave = begun_gave t s is;
        puts = puts_begun t.now before.told;
      };
      made = refl;
      are = tt;
      few = omega arith;
    });
  }

-- ---- it asks

-- what it asks, behind a run so far
pub record AsksNext {H : Type 0} (meanings : handle.Ghosts H) (t : Terms) (old : H) (before : CacheState)
    (m : StateValue) (middle : H) (now : CacheState) (asking : Asking) : Type 0 where
  pub at : OnRun meanings t old before m middle now
  pub ask : Ask
  pub waits : m.pending ≡ Some ask
  pub request : asking.request ≡ request_in t m.steps ask
  pub next : IsNext t m at.sends ask

some_same : (a b : Asking) → Some a ≡ Some b → a ≡ b
some_same a b h = cc

record Pending (t : Terms) (s : StateValue) (asking : Asking) : Type 0 where
  ask : Ask
  waits : s.pending ≡ Some ask
  request : asking.request ≡ request_in t s.steps ask

pending_by : (t : Terms) (s : StateValue) (asking : Asking) (o : Option Ask) → s.pending ≡ o
    → Some asking ≡ option_map (asking_at t.request t.options (none_open s.steps)) o → Pending t s asking
pending_by t s asking None is asks = cc
pending_by t s asking (Some ask) is asks =
    let same = some_same asking (asking_at t.request t.options (none_open s.steps) ask) asks in
    record { ask = ask; waits = is; request = ap (λ (a : Asking). a.request) same }

pub no_asking : (asking : Asking) → Some asking ≡ None → ⊥
no_asking asking h = cc

module _ {H : Type 0} (meanings : handle.Ghosts H) (t : Terms) (old : H) (before : CacheState) where
  -- it was served from the cache, and asks
  asks_on : (E : Type 0) (s m : StateValue) (middle : H) (now after : CacheState) (asking : Asking)
      → first_question t.request ≡ Some t.query → (run : OnRun meanings t old before s middle now)
      → ServedTo {E = E} t before run.sends (Ok (Some asking)) m after
      → AsksNext meanings t old before m middle after asking
  asks_on E s m middle now after asking asks run (inr lost) = absurd (no_asking asking lost.1)
  asks_on E s m middle now after asking asks run (inl w) =
      let p = pending_by t m asking m.pending refl w.asks in
      record {
        at = record { sends = run.sends; on = w.on; made = run.made; are = run.are; few = run.few };
        ask = p.ask;
        waits = p.waits;
        request = p.request;
        next = run_next t w.on.cached m run.sends p.ask asks w.on.run p.waits;
      }

  pub asks_next : {E : Type 0} (u : Terms) (middle : H) (s m : StateValue) (now after : CacheState) (asking : Asking)
      → first_question t.request ≡ Some t.query → Going meanings t u old before s middle now
      → ServesOn {E = E} u s now (Ok (Some asking)) m after → AsksNext meanings t old before m middle after asking
  asks_next {E = E} u middle s m now after asking asks going serves =
      let here = subst (λ x. ServesOn {E = E} x s now (Ok (Some asking)) m after) going.terms serves in
      elim going.at [
        | inl run ↦ asks_on E s m middle now after asking asks run (here.goes before run.sends run.on)
        | inr ran ↦ absurd (no_asking asking ((here.rests before ran.cached ran.sends ran.lost).1))
      ]

  -- a reply is waited for
  waited : (m : StateValue) (middle : H) (now : CacheState) (asking : Asking)
      → AsksNext meanings t old before m middle now asking → IsSome m.pending
  waited m middle now asking a = subst IsSome (sym a.waits) refl

  -- ---- it goes on

  module _ (m : StateValue) (middle new : H) (now : CacheState) (asking : Asking) (reply : Reply)
      (a : AsksNext meanings t old before m middle now asking) where
    -- the send of what it asks
    send_made : (moment : ℕ) → t.now ≡ moment
        → Sending meanings asking.request (first_question asking.request) moment middle new reply
        → MakesSend meanings t.now middle (sent_now t m a.ask reply) new
    send_made moment at made =
        let Made : RequestValue → Option Question → ℕ → Type 0 =
        λ r o n. Sending meanings r o n middle new reply in
        let here = subst (Made asking.request (first_question asking.request)) (sym at) made in
        let by = subst (λ r. Made r (first_question r) t.now) a.request here in
        subst (λ o. Made (request_in t m.steps a.ask) o t.now) a.next.asks by

    -- the send and those before it
    sent_by : MakesSend meanings t.now middle (sent_now t m a.ask reply) new → SendsOfTerms meanings t old new
        ⊎ (old ≡ new)
    sent_by made =
        let one = sent_now t m a.ask reply in
        let sends = a.at.sends in
        let push = length_push sends one in
        let count = run_counts t a.at.on.cached sends m a.at.on.run in
        sends_of meanings t old new (sends ++ one ∷ []) (a.next.more reply a.at.are)
        (made_more meanings t.now old middle new sends one a.at.made made) (omega (arith, push, count, a.next.few))

    lost_send : (n : StateValue) → MakesSend meanings t.now middle (sent_now t m a.ask reply) new → IsOut n
        → RanOut meanings t old before n new now
    lost_send n made out = record {
      cached = a.at.on.cached;
      served = a.at.on.served;
      sends = a.at.sends;
      state = m;
      run = a.at.on.run;
      middle = middle;
      made = a.at.made;
      rest = inr (record { ask = a.ask; reply = reply; waits = a.waits; made = made; lost = refl });
      by = sent_by made;
      lost = record { out = out; left = a.at.on.left };
    }

    gone_on : (n : StateValue) → MakesSend meanings t.now middle (sent_now t m a.ask reply) new → HasHeard t m reply n
        → OnRun meanings t old before n new now
    gone_on n made heard =
        let one = sent_now t m a.ask reply in
        let on = a.at.on in
        let sends = a.at.sends in
        let push = length_push sends one in
        let count = run_counts t on.cached sends m on.run in
        let still = waiting_still t on.cached sends m a.ask on.run a.waits in
        let heard_run : Run t on.cached (sends ++ one ∷ []) (hears t m reply) =
        Heard sends (sends ++ one ∷ []) m (hears t m reply) a.ask reply on.run a.waits heard.kept refl refl in
        let known =
        known_heard before.told now.told t m n reply heard (record { made = on.made; come = on.come }) in
        record {
          sends = sends ++ one ∷ [];
          on = record {
            cached = on.cached;
            served = on.served;
            run = goes_on t m n reply heard on.cached sends a.ask a.waits on.run;
            settled = heard.settled;
            left = kept_more t on.cached sends (one ∷ []) before.told now.told on.left;
            come = known.come;
            made = known.made;
            hits = rose_fewer (served_in m) (served_in n) before.hits now.hits
                (heard_served t m n reply still.0 still.1 heard) on.hits;
            few = few_still (asked_in m) (asked_in n) before.hits now.hits
                (heard_asked t on.cached sends (sends ++ one ∷ []) m n reply still.0 still.1 on.run heard_run heard)
                on.few;
            first = heard_first_set t on.cached sends before.told now.told m n a.ask reply on.run heard_run a.waits
                heard on.first;
            last = heard_kept t on.cached sends m n now.told a.ask reply on.run heard_run a.waits heard;
            out = on.out;
            gave = heard_gave t on.cached (sends ++ one ∷ []) m n reply on.out still.1 heard_run heard on.gave;
            puts = on.puts;
          };
          made = made_more meanings t.now old middle new sends one a.at.made made;
          are = a.next.more reply a.at.are;
          few = omega (arith, push, count, a.next.few);
        }

    pub going_on : (v w : Terms) (n : StateValue) → meanings.faults old ≤ meanings.faults middle → v ≡ t → w ≡ v
        → (moment : ℕ) → t.now ≡ moment
        → Sending meanings asking.request (first_question asking.request) moment middle new reply
        → (IsSome m.pending → IsOut n ⊎ HasHeard v m reply n) → Going meanings t w old before n new now
    going_on v w n later same answered moment at made heard =
        let one = send_made moment at made in
        record {
          terms = answered ∙ same;
          later = omega (arith, later, made.later);
          at = elim (heard (waited m middle now asking a)) [
            | inl out ↦ inr (lost_send n one out)
            | inr h ↦ inl (gone_on n one (subst (λ x. HasHeard x m reply n) same h))
          ];
        }

-- ---- how many sends are left

left_by : ℕ → Option Ask → Option SeekingValue → ℕ
left_by n None None = 0
left_by n None (Some k) = 1 + (most_sends - n)
left_by n (Some ask) seeking = 1 + (most_sends - n)

-- none where it wants nothing
pub sends_left : StateValue → ℕ
sends_left s = left_by s.sends s.pending s.seeking

left_most : (n : ℕ) (pending : Option Ask) (seeking : Option SeekingValue)
    → left_by n pending seeking ≤ 1 + (most_sends - n)
unfolding left_by
left_most n None None = omega arith
left_most n None (Some k) = omega arith
left_most n (Some ask) seeking = omega arith

left_none : (n : ℕ) (pending : Option Ask) (seeking : Option SeekingValue) → pending ≡ None → seeking ≡ None
    → left_by n pending seeking ≡ 0
unfolding left_by
left_none n None None a b = refl
left_none n None (Some k) a b = cc
left_none n (Some ask) seeking a b = cc

left_wanted : (n : ℕ) (pending : Option Ask) (seeking : Option SeekingValue)
    → (pending ≡ None → seeking ≡ None → ⊥) → left_by n pending seeking ≡ 1 + (most_sends - n)
unfolding left_by
left_wanted n None None never = absurd (never refl refl)
left_wanted n None (Some k) never = refl
left_wanted n (Some ask) seeking never = refl

module _ {H : Type 0} (meanings : handle.Ghosts H) (t : Terms) (old : H) (before : CacheState)
    (asking : Asking) (reply : Reply) (asks : first_question t.request ≡ Some t.query) where
  fewer_by : (E : Type 0) (s m n : StateValue) (middle : H) (now after : CacheState)
      → (run : OnRun meanings t old before s middle now)
      → ServedTo {E = E} t before run.sends (Ok (Some asking)) m after → (s.pending ≡ None → s.seeking ≡ None → ⊥)
      → (IsSome m.pending → IsOut n ⊎ HasHeard t m reply n) → sends_left n < sends_left s
  unfolding sends_left
  fewer_by E s m n middle now after run served wanted heard =
      let a = asks_on meanings t old before E s m middle now after asking asks run served in
      let here = left_wanted s.sends s.pending s.seeking wanted in
      let count = run_counts t run.on.cached run.sends s run.on.run in
      elim (heard (waited meanings t old before m middle after asking a)) [
        | inl out ↦ (let none = left_none n.sends n.pending n.seeking out.asks out.seeks in omega (arith, here, none))
        | inr h ↦ (let most = left_most n.sends n.pending n.seeking in
            let one = heard_sends t m n a.ask reply a.waits h in
            let same = same_sends served in
            omega (arith, here, most, one, same, count, run.few, few served a))
      ]
    where
      same_sends : ServedTo {E = E} t before run.sends (Ok (Some asking)) m after → m.sends ≡ length run.sends
      same_sends (inl w) = run_counts t w.on.cached run.sends m w.on.run
      same_sends (inr lost) = absurd (no_asking asking lost.1)

      few : ServedTo {E = E} t before run.sends (Ok (Some asking)) m after
          → AsksNext meanings t old before m middle after asking → m.sends < most_sends
      few served a = a.next.few

  pub fewer_left : {E : Type 0} (u v : Terms) (s m n : StateValue) (middle : H) (now after : CacheState)
      → Going meanings t u old before s middle now → ServesOn {E = E} u s now (Ok (Some asking)) m after
      → (s.pending ≡ None → s.seeking ≡ None → ⊥) → v ≡ t
      → (IsSome m.pending → IsOut n ⊎ HasHeard v m reply n) → sends_left n < sends_left s
  fewer_left {E = E} u v s m n middle now after going serves wanted same heard =
      let here = subst (λ x. ServesOn {E = E} x s now (Ok (Some asking)) m after) going.terms serves in
      let by = subst (λ x. IsSome m.pending → IsOut n ⊎ HasHeard x m reply n) same heard in
      elim going.at [
        | inl run ↦ fewer_by E s m n middle now after run (here.goes before run.sends run.on) wanted by
        | inr ran ↦ absurd (no_asking asking ((here.rests before ran.cached ran.sends ran.lost).1))
      ]

-- ---- it ends

-- a run that wants nothing more
pub record AtEnd {H : Type 0} (meanings : handle.Ghosts H) (t : Terms) (old : H) (before : CacheState) (s : StateValue)
    (new : H) (now : CacheState) : Type 0 where
  pub at : OnRun meanings t old before s new now
  pub kept : s.kept ≡ []
  pub rests : s.pending ≡ None
  pub sought : s.seeking ≡ None

none_pending : (t : Terms) (s : StateValue) (o : Option Ask) → s.pending ≡ o
    → None ≡ option_map (asking_at t.request t.options (none_open s.steps)) o → s.pending ≡ None
none_pending t s None is asks = is
none_pending t s (Some ask) is asks = cc

module _ {H : Type 0} (meanings : handle.Ghosts H) (t : Terms) (old : H) (before : CacheState) (s m : StateValue)
    (new : H) (now after : CacheState) where
  -- memory ran out between two sends
  stopped : (run : OnRun meanings t old before s new now) → Stops t before run.sends m after
      → RanOut meanings t old before m new after
  stopped run h = record {
    cached = h.behind.cached;
    served = h.behind.served;
    sends = run.sends;
    state = h.behind.state;
    run = h.behind.run;
    middle = new;
    made = run.made;
    rest = inl refl;
    by = sends_of meanings t old new run.sends run.are run.made run.few;
    lost = record { out = h.out; left = h.behind.left };
  }

  still_out : (ran : RanOut meanings t old before s new now) → IsLost t before ran.cached ran.sends m after
      → RanOut meanings t old before m new after
  still_out ran lost = record {
    cached = ran.cached;
    served = ran.served;
    sends = ran.sends;
    state = ran.state;
    run = ran.run;
    middle = ran.middle;
    made = ran.made;
    rest = ran.rest;
    by = ran.by;
    lost = lost;
  }

  ends_on : (E : Type 0) (run : OnRun meanings t old before s new now)
      → ServedTo {E = E} t before run.sends (Ok None) m after
      → AtEnd meanings t old before m new after ⊎ RanOut meanings t old before m new after
  ends_on E run (inr lost) = inr (stopped run lost.0)
  ends_on E run (inl w) =
      inl (record {
        at = record { sends = run.sends; on = w.on; made = run.made; are = run.are; few = run.few };
        kept = w.rests;
        rests = none_pending t m m.pending refl w.asks;
        sought = w.sought;
      })

  pub going_ends : {E : Type 0} (u : Terms) → Going meanings t u old before s new now
      → ServesOn {E = E} u s now (Ok None) m after
      → AtEnd meanings t old before m new after ⊎ RanOut meanings t old before m new after
  going_ends {E = E} u going serves =
      let here = subst (λ x. ServesOn {E = E} x s now (Ok None) m after) going.terms serves in
      elim going.at [
        | inl run ↦ ends_on E run (here.goes before run.sends run.on)
        | inr ran ↦ inr (still_out ran ((here.rests before ran.cached ran.sends ran.lost).0))
      ]

-- ---- the answer

-- what the end of a loop makes of its answer
pub record IsAnswered {H : Type 0} (meanings : handle.Ghosts H) (t : Terms) (old new : H) (before now : CacheState)
    (answer : Result ResponseValue NetError)
    : Type 0 where
  pub front : IsFront meanings t (use_between before now) old new (reply_of answer)
  pub sends : OrUnsent old new answer (SendsOfTerms meanings t old new)
  pub lookup : UnlessNoMemory answer
      (AnswersLookup meanings (call_by t (use_between before now) old new) (reply_of answer))
  pub cached : OfAnswer (reply_of answer) (λ a ending. UsesCache (call_by t (use_between before now) old new) a.trail)

error_same : (a b : ErrorValue) → (let x : Reply = Err a in x) ≡ Err b → a ≡ b
error_same a b h = cc

memory_result : (answer : Result ResponseValue NetError) → reply_of answer ≡ Err seen.NoMemory → answer ≡ Err NoMemory
memory_result (Ok a) is = cc
memory_result (Err e) is =
    ap (λ x. Err x) (told_no_memory e (ap is_no_memory (error_same (error_of e) seen.NoMemory is)))

unless_fact : (answer : Result ResponseValue NetError) (Fact : Type 0) → Fact → UnlessNoMemory answer Fact
unless_fact (Ok a) Fact fact = fact
unless_fact (Err e) Fact fact = inr fact

or_still : {H : Type 0} (meanings : handle.Ghosts H) (t : Terms) (old new : H) → SendsOfTerms meanings t old new
    ⊎ (old ≡ new)
    → OrUnsent old new (let r : Result ResponseValue NetError = Err NoMemory in r) (SendsOfTerms meanings t old new)
or_still meanings t old new (inl by) = inl by
or_still meanings t old new (inr still) = inr (refl, sym still)

-- memory ran out while it was served
module _ {H : Type 0} (meanings : handle.Ghosts H) (t : Terms) (old new : H) (before : CacheState) where
  pub failed_answered : {E : Type 0} (u : Terms) (s m : StateValue) (now after : CacheState) (e : E)
      (answer : Result ResponseValue NetError) → Going meanings t u old before s new now
      → ServesOn {E = E} u s now (Err e) m after → answer ≡ Err NoMemory
      → IsAnswered meanings t old new before after answer
  failed_answered {E = E} u s m now after e answer going serves is =
      let here = subst (λ x. ServesOn {E = E} x s now (Err e) m after) going.terms serves in
      subst (IsAnswered meanings t old new before after) (sym is)
      (elim going.at [
        | inl run ↦ (let behind = here.goes before run.sends run.on in record {
          front = record {
            cached = behind.cached;
            served = behind.served;
            sends = run.sends;
            state = behind.state;
            run = behind.run;
            middle = new;
            made = run.made;
            rest = inl refl;
            came = inl refl;
            added = behind.left;
          };
          sends = or_still meanings t old new (sends_of meanings t old new run.sends run.are run.made run.few);
          lookup = inl refl;
          cached = tt;
        })
        | inr ran ↦ record {
          front = record {
            cached = ran.cached;
            served = ran.served;
            sends = ran.sends;
            state = ran.state;
            run = ran.run;
            middle = ran.middle;
            made = ran.made;
            rest = ran.rest;
            came = inl refl;
            added = here.rests before ran.cached ran.sends ran.lost;
          };
          sends = or_still meanings t old new ran.by;
          lookup = inl refl;
          cached = tt;
        }
      ])

out_answered : {H : Type 0} (meanings : handle.Ghosts H) (t : Terms) (old new : H) (before : CacheState)
    (m : StateValue) (now : CacheState)
    (answer : Result ResponseValue NetError) → RanOut meanings t old before m new now
    → reply_of answer ≡ Err seen.NoMemory
    → IsAnswered meanings t old new before now answer
out_answered meanings t old new before m now answer ran is =
    subst (IsAnswered meanings t old new before now) (sym (memory_result answer is)) (record {
      front = record {
        cached = ran.cached;
        served = ran.served;
        sends = ran.sends;
        state = ran.state;
        run = ran.run;
        middle = ran.middle;
        made = ran.made;
        rest = ran.rest;
        came = inl refl;
        added = ran.lost.left;
      };
      sends = or_still meanings t old new ran.by;
      lookup = inl refl;
      cached = tt;
    })

-- how it used the cache
uses_by : {H : Type 0} (t : Terms) (before now : CacheState) (old new : H) (reply : Reply)
    → RoseBy (reply_served reply) before.hits now.hits → now.hits ≤ before.hits + reply_asked reply
    → OfAnswer reply (λ a ending. TopServed t before.told a.trail)
    → OfAnswer reply (λ a ending. PutsAll (call_by t (use_between before now) old new) a.trail)
    → OfAnswer reply (λ a ending. KeepsLast (call_by t (use_between before now) old new) a.trail)
    → OfAnswer reply (λ a ending. UsesCache (call_by t (use_between before now) old new) a.trail)
unfolding reply_served reply_asked
uses_by t before now old new (Ok a) rose few top puts keeps = record {
  hits = rose;
  few = few;
  serves = λ step told placed last heard first may. top step told last heard placed first may;
  puts = puts;
  keeps = keeps;
}
uses_by t before now old new (Err (Dns (Nsec asked a proof))) rose few top puts keeps = record {
  hits = rose;
  few = few;
  serves = λ step told placed last heard first may. top step told last heard placed first may;
  puts = puts;
  keeps = keeps;
}
uses_by t before now old new (Err error) rose few top puts keeps = tt

end_few : (t : Terms) (before : CacheState) (m : StateValue) (now : CacheState) (reply : Reply) (sends : List Sent)
    → IsOn t before sends m now → m.ended ≡ Some reply → now.hits ≤ before.hits + reply_asked reply
end_few t before m now reply sends on ended =
    subst (λ n. now.hits ≤ before.hits + n) (end_asked m reply ended) on.few

end_uses : {H : Type 0} (t : Terms) (before : CacheState) (m : StateValue) (now : CacheState) (reply : Reply)
    (sends : List Sent) → IsOn t before sends m now → m.kept ≡ [] → (old new : H)
    → m.ended ≡ Some reply → OfAnswer reply (λ a ending. UsesCache (call_by t (use_between before now) old new) a.trail)
end_uses t before m now reply sends on rests old new ended =
    uses_by t before now old new reply
    (rose_fewer (served_in m) (reply_served reply) before.hits now.hits (end_served m reply ended) on.hits)
    (end_few t before m now reply sends on ended)
    (end_first t on.cached sends before.told now.told m reply on.run ended on.first)
    (end_puts t before now old new m reply on.out rests ended on.gave on.puts)
    (keeps_last t before now old new m reply rests ended on.last)

module _ {H : Type 0} (meanings : handle.Ghosts H) (t : Terms) (old new : H) (before : CacheState) (m : StateValue)
    (now : CacheState) where
  end_answered : (answer : Result ResponseValue NetError) → (end : AtEnd meanings t old before m new now)
      → Comes t end.at.on.cached end.at.sends (reply_of answer) → m.ended ≡ Some (reply_of answer)
      → IsAnswered meanings t old new before now answer
  end_answered answer end comes ended =
      let run = end.at in
      record {
        front = record {
          cached = run.on.cached;
          served = run.on.served;
          sends = run.sends;
          state = m;
          run = run.on.run;
          middle = new;
          made = run.made;
          rest = inl refl;
          came = inr ended;
          added = run.on.left;
        };
        sends = or_unsent old new answer (SendsOfTerms meanings t old new)
            (sends_of_some meanings t old new run.sends run.are run.made run.few
            (comes_some t run.on.cached run.sends comes));
        lookup = unless_fact answer
            (AnswersLookup meanings (call_by t (use_between before now) old new) (reply_of answer))
            (comes_answers meanings t old new run.on.cached (use_between before now) run.sends run.on.served comes
            run.made);
        cached = end_uses t before m now (reply_of answer) run.sends run.on end.kept old new ended;
      }

  ended_same : (a b : Reply) (o : Option Reply) → Some a ≡ o → o ≡ Some b → a ≡ b
  ended_same a b o h k = cc

  none_is : {X : Type 0} (o : Option X) → o ≡ None → IsSome o → ⊥
  none_is None none some = cc
  none_is (Some x) none some = cc

  never_none : (reply : Reply) → (let o : Option Reply = None in o) ≡ Some reply → ⊥
  never_none reply h = cc

  -- it has an answer
  pub never_unanswered : (v : Terms) (o : Option (Result ResponseValue NetError))
      → AtEnd meanings t old before m new now ⊎ RanOut meanings t old before m new now → v ≡ t → o ≡ None
      → option_map reply_of o ≡ m.ended
      → ((cached : List EntryValue) (sends : List Sent) → Run v cached sends m → m.pending ≡ None → m.seeking ≡ None
      → moves m ≡ false → IsSome o) → ⊥
  never_unanswered v o ends same none ended has =
      let Has : Terms → Type 0 =
      λ x. (cached : List EntryValue) (sends : List Sent) → Run x cached sends m → m.pending ≡ None
      → m.seeking ≡ None → moves m ≡ false → IsSome o in
      elim ends [
        | inl end ↦ none_is o none
            (subst Has same has end.at.on.cached end.at.sends end.at.on.run end.rests end.sought end.at.on.settled)
        | inr ran ↦ never_none (Err seen.NoMemory)
            (sym (ap (option_map reply_of) none) ∙ ended ∙ ran.lost.out.ended)
      ]

  pub answered_by : (v : Terms) (o : Option (Result ResponseValue NetError)) (answer : Result ResponseValue NetError)
      → AtEnd meanings t old before m new now ⊎ RanOut meanings t old before m new now → v ≡ t → o ≡ Some answer
      → option_map reply_of o ≡ m.ended
      → IfSome o (λ r. (cached : List EntryValue) (sends : List Sent) → Run v cached sends m
      → Comes v cached sends (reply_of r))
      → IsAnswered meanings t old new before now answer
  answered_by v None answer ends same is ended comes = cc
  answered_by v (Some r) answer ends same is ended comes =
      let one : r ≡ answer = cc in
      let Comings : Terms → Type 0 =
      λ x. (cached : List EntryValue) (sends : List Sent) → Run x cached sends m → Comes x cached sends (reply_of r) in
      subst (IsAnswered meanings t old new before now) one
      (elim ends [
        | inl end ↦ end_answered r end
            (subst Comings same comes end.at.on.cached end.at.sends end.at.on.run) (sym ended)
        | inr ran ↦ out_answered meanings t old new before m now r ran
            (ended_same (reply_of r) (Err seen.NoMemory) m.ended ended ran.lost.out.ended)
      ])
