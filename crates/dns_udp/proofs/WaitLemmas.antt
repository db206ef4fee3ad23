-- Turns of a call that sends a request by datagrams.
use Rattle.std.proofs.Common.{◌≡◌, ℕ, ◌+◌, ◌*◌, ◌^◌, ◌<◌, ◌≤◌, ◌⊎◌, inl, inr, Bool, true, false, ◌&&◌, List, [], ◌∷◌, ◌++◌, length, take, Option, None, Some, Result, Ok, Err, refl, sym, ap, ◌∙◌, subst, length-append, arith}
use Rattle.std.specs.Prelude.{nat_lt}
use Rattle.std.specs.List.{list_all}
use Rattle.std.specs.declared.net.socket_addr.SocketAddr.{SocketAddr}
use Rattle.std.proofs.lemmas.Bool.{le-leb}
use Rattle.std.proofs.lemmas.Bool.Decides.{nat_tests}
use Rattle.std.proofs.lemmas.List.{length-take-le}
use Rattle.dns_model.specs.SoundAnswers.{ResponseValue}
use Rattle.dns_handle.specs.Errors.{Reply}
use Rattle.dns_handle.specs.Replies.{error_of}
use Rattle.dns_handle.specs.Requests.{RequestValue}
use Rattle.dns_handle.specs.Conversions.{outside_failed}
use Rattle.dns_handle.specs.declared.io_kind.IoKind.{IoKind}
use Rattle.dns_handle.specs.declared.io_kind.IoKind.TheVariants.{TimedOut}
use Rattle.dns_handle.specs.declared.error.NetError.{NetError}
use Rattle.dns_handle.specs.declared.error.NetError.TheVariants.{Proto, QueryCaseMismatch, NoMemory, Timeout}
use Rattle.dns_handle.specs.declared.error.ProtoError.TheVariants.{Decode}
use Rattle.dns_link.specs.Counts.{CountsValue, no_counts}
use Rattle.dns_link.specs.Moved.{DatagramValue}
use Rattle.dns_udp.specs.declared.acceptance.Accepted.{Accepted}
use Rattle.dns_udp.specs.declared.acceptance.Accepted.TheVariants.{Undecodable, CaseMismatch, Answer}
use Rattle.dns_udp.specs.Bindings.{DrawsPorts, only_faults}
use Rattle.dns_udp.specs.Met.{DialerView, capped, sum_met}
use Rattle.dns_udp.proofs.BindingLemmas.{ports_then}
use Rattle.dns_udp.specs.Conversations.{AllFit, AreIgnored, Ends, EndsByFault, EndsByOne, OneIsJudged, tick}
use Rattle.dns_udp.specs.OpenSockets.{Joins}
use Rattle.dns_udp.specs.Requests.{AskedValue, buffer_size, fits, is_ignored, judged}
use Rattle.dns_udp.specs.Waiting.{FailsBy, IsStopped, IsWaiting, Judges, Opens, TurnEnds, goes_on}
use Rattle.dns_udp.proofs.HoldLemmas.{Turns}

-- ---- lists of which some came later

all_front : {X : Type 0} (p : X → Bool) (xs ys : List X) → list_all p (xs ++ ys) ≡ true → list_all p xs ≡ true
all_front p [] ys h = refl
all_front p (x ∷ xs) ys h = both (p x) (list_all p xs) (list_all p (xs ++ ys)) h (all_front p xs ys)
  where
    both : (a b c : Bool) → (a && c) ≡ true → (c ≡ true → b ≡ true) → (a && b) ≡ true
    both true b c h k = k h
    both false b c h k = h

all_back : {X : Type 0} (p : X → Bool) (xs ys : List X) → list_all p (xs ++ ys) ≡ true → list_all p ys ≡ true
all_back p [] ys h = h
all_back p (x ∷ xs) ys h = second (p x) (list_all p (xs ++ ys)) h (all_back p xs ys)
  where
    second : (a c : Bool) {d : Bool} → (a && c) ≡ true → (c ≡ true → d ≡ true) → d ≡ true
    second true c h k = k h
    second false c h k = absurd (cc)

all_with : {X : Type 0} (p : X → Bool) (xs ys : List X) (x : X) → list_all p (xs ++ ys) ≡ true → p x ≡ true
    → list_all p (xs ++ x ∷ ys) ≡ true
all_with p [] ys x h k = rw k h
all_with p (y ∷ xs) ys x h k = both (p y) (list_all p (xs ++ ys)) (list_all p (xs ++ x ∷ ys)) h
    (λ e. all_with p xs ys x e k)
  where
    both : (a b c : Bool) → (a && b) ≡ true → (b ≡ true → c ≡ true) → (a && c) ≡ true
    both true b c h k = k h
    both false b c h k = h

joins_nothing : (before after : List DatagramValue) → Joins [] before after → after ≡ before
joins_nothing before after h = h.now ∙ sym h.was

joins_one : (before after : List DatagramValue) (datagram : DatagramValue) → Joins (datagram ∷ []) before after
    → length after ≡ length before + 1
joins_one before after datagram h =
    let a : length after ≡ length (h.left ++ datagram ∷ h.right) = ap length h.now in
    let b : length before ≡ length (h.left ++ h.right) = ap length h.was in
    let c : length (h.left ++ datagram ∷ h.right) ≡ length h.left + length
    (datagram ∷ h.right) = length-append h.left (datagram ∷ h.right) in
    let d : length (h.left ++ h.right) ≡ length h.left + length h.right = length-append h.left h.right in
    omega arith

-- what holds of each datagram holds of each with one more
joined_all : (p : DatagramValue → Bool) (before after : List DatagramValue) (datagram : DatagramValue)
    → Joins (datagram ∷ []) before after → list_all p before ≡ true → p datagram ≡ true → list_all p after ≡ true
joined_all p before after datagram h all this =
    let start : list_all p (h.left ++ h.right) ≡ true = subst
    (λ (l : List DatagramValue). list_all p l ≡ true) h.was all in
    subst (λ (l : List DatagramValue). list_all p l ≡ true) (sym h.now)
    (all_with p h.left h.right datagram start this)

-- there is room for what was put into the front of a buffer
pub taken_fits : (request : RequestValue) (buf : List ℕ) (came : ℕ × SocketAddr) → came.0 ≤ length buf
    → length buf ≤ buffer_size request → fits request (take came.0 buf, came.1) ≡ true
taken_fits request buf came inside room =
    let same : length (take came.0 buf) ≡ came.0 = length-take-le came.0 buf inside in
    rw same (le-leb came.0 (buffer_size request) (omega arith))

-- ---- whether a call goes on

pub going_parts : (timeout elapsed ignored : ℕ) → goes_on timeout elapsed ignored ≡ true
    → (elapsed < timeout) × (ignored < 65536)
going_parts timeout elapsed ignored h = by_tests (nat_lt elapsed timeout) (nat_lt ignored 65536) refl refl h
  where
    by_tests : (time few : Bool) → nat_lt elapsed timeout ≡ time → nat_lt ignored 65536 ≡ few
        → (time && few) ≡ true → (elapsed < timeout) × (ignored < 65536)
    by_tests true true t f h = (grind (arith, nat_tests, t), grind (arith, nat_tests, f))
    by_tests true false t f h = absurd (cc)
    by_tests false few t f h = absurd (cc)

pub over_parts : (timeout elapsed ignored : ℕ) → goes_on timeout elapsed ignored ≡ false
    → (timeout ≤ elapsed) ⊎ (65536 ≤ ignored)
over_parts timeout elapsed ignored h = by_tests (nat_lt elapsed timeout) (nat_lt ignored 65536) refl refl h
  where
    by_tests : (time few : Bool) → nat_lt elapsed timeout ≡ time → nat_lt ignored 65536 ≡ few
        → (time && few) ≡ false → (timeout ≤ elapsed) ⊎ (65536 ≤ ignored)
    by_tests true true t f h = absurd (cc)
    by_tests true false t f h = inr (grind (arith, nat_tests, f))
    by_tests false few t f h = inl (grind (arith, nat_tests, t))

-- ---- how a call ends

module _ (asked : AskedValue) where
  one_judged : (before after : List DatagramValue) (datagram : DatagramValue) (verdict : Accepted)
      → Joins (datagram ∷ []) before after
      → AreIgnored asked before → judged asked.request asked.server datagram ≡ verdict → OneIsJudged asked after verdict
  one_judged before after datagram verdict h all this =
      let start : list_all (is_ignored asked) (h.left ++ h.right) ≡ true = subst
      (λ (l : List DatagramValue). list_all (is_ignored asked) l ≡ true) h.was all in
      record {
        before = h.left;
        datagram = datagram;
        after = h.right;
        all = h.now;
        ignored_before = all_front (is_ignored asked) h.left h.right start;
        ignored_after = all_back (is_ignored asked) h.left h.right start;
        judged = this;
      }

  -- the outside failed; what timed out is Timeout
  fault_ends : (came : List DatagramValue) (met : CountsValue) (kind : IoKind) → EndsByFault asked came met
      → 0 < met.faults → met.ends ≡ 0
      → Ends asked came met (Err (error_of (outside_failed kind)))
  fault_ends came met TimedOut h faults whole = inr (h, faults, whole)
  fault_ends came met _ h faults whole = (h, faults, whole)

  pub fails_ends : (came : List DatagramValue) (met more : CountsValue) (error : NetError)
      → EndsByFault asked came (sum_met met more)
      → met.ends ≡ 0 → FailsBy more error → Ends asked came (sum_met met more) (Err (error_of error))
  fails_ends came met more error h whole (inl none) = rw none tt
  fails_ends came met more error h whole (inr (inl short)) = rw short.0 (h, (let x = short.1 in omega arith))
  fails_ends came met more error h whole (inr (inr fault)) =
      rw fault.1 (fault_ends came (sum_met met more) fault.0 h (let x = fault.2 in omega arith)
      (let x = fault.3 in omega arith))

module _ {G R : Type 0} (counts : G → CountsValue) (given : G → Option (List DatagramValue))
    (draw : R → ℕ → R → Type 0) (asked : AskedValue) where
  -- the first socket couldn't be opened
  pub first_failed : (before now : DialerView) (from to : R) (sockets : List G) (error : NetError)
      → DrawsPorts draw from to
      → Opens {X = Unit {0}} counts given before now sockets [] no_counts (Err error)
      → IsStopped counts given draw asked before now from to sockets (Err (error_of error))
  first_failed before now from to sockets error ports h = record {
    came = [];
    met = sum_met no_counts h.more;
    holds = h.holds;
    ports = ports;
    room = refl;
    ends = fails_ends asked [] no_counts h.more error
        (record { ignored = refl; in_time = inl (let x = h.quiet in omega arith); few = omega arith }) refl h.cause;
  }

  pub first_opened : (before now : DialerView) (from to : R) (sockets : List G) → DrawsPorts draw from to
      → Opens {X = Unit {0}} counts given before now sockets [] no_counts (Ok tt)
      → IsWaiting counts given draw asked before now from to sockets 0 0
  first_opened before now from to sockets ports h = record {
    came = [];
    met = sum_met no_counts h.more;
    holds = h.holds;
    ports = ports;
    all = refl;
    room = refl;
    counted = refl;
    passed = let x = h.quiet in omega arith;
    no_longer = let x = h.quiet in omega arith;
    whole = let x = h.cause in omega arith;
  }

  -- ---- a turn, while the time isn't over

  module _ (before now : DialerView) (from to : R) (sockets : List G) (elapsed ignored : ℕ)
      (range : asked.timeout < 2 ^ 64)
      (time : elapsed < asked.timeout) (few : ignored < 65536) where
    in_time : (quiet : ℕ) → elapsed ≡ capped (tick * quiet) → tick * quiet < asked.timeout
    in_time quiet h = omega arith

    -- a socket couldn't be opened
    pub turn_failed : (mid : DialerView) (mid_draws : R) (old : List G) (error : NetError)
        (w : IsWaiting counts given draw asked before mid from mid_draws old elapsed ignored)
        → DrawsPorts draw mid_draws to
        → Opens {X = Unit {0}} counts given before now sockets w.came w.met (Err error)
        → IsStopped counts given draw asked before now from to sockets (Err (error_of error))
    turn_failed mid mid_draws old error w ports h = record {
      came = w.came;
      met = sum_met w.met h.more;
      holds = h.holds;
      ports = ports_then draw from mid_draws to w.ports ports;
      room = w.room;
      ends = fails_ends asked w.came w.met h.more error (record {
        ignored = w.all;
        in_time = inr (let x = in_time w.met.quiet w.passed in let y = h.quiet in omega arith);
        few = let x = w.counted in omega arith;
      }) w.whole h.cause;
    }

    -- sockets were opened, or there were enough
    pub turn_opened : (mid : DialerView) (mid_draws : R) (old : List G)
        (w : IsWaiting counts given draw asked before mid from mid_draws old elapsed ignored)
        → DrawsPorts draw mid_draws to
        → Opens {X = Unit {0}} counts given before now sockets w.came w.met (Ok tt)
        → IsWaiting counts given draw asked before now from to sockets elapsed ignored
    turn_opened mid mid_draws old w ports h = record {
      came = w.came;
      met = sum_met w.met h.more;
      holds = h.holds;
      ports = ports_then draw from mid_draws to w.ports ports;
      all = w.all;
      room = w.room;
      counted = w.counted;
      passed = let x = h.quiet in let y = w.passed in omega arith;
      no_longer = let x = h.quiet in let y = w.no_longer in omega arith;
      whole = let x = h.cause in let y = w.whole in omega arith;
    }

    module _ (old : List G) (w : IsWaiting counts given draw asked before now from to old elapsed ignored) where
      -- a socket failed
      pub turn_fault : (kind : IoKind) → Turns counts given before now sockets [] w.came w.met (only_faults 1)
          → IsStopped counts given draw asked before now from to sockets (Err (error_of (outside_failed kind)))
      turn_fault kind h =
          let same : h.after ≡ w.came = joins_nothing w.came h.after h.joins in
          record {
            came = h.after;
            met = sum_met w.met (only_faults 1);
            holds = h.holds;
            ports = w.ports;
            room = subst (λ (l : List DatagramValue). AllFit asked l) (sym same) w.room;
            ends = fault_ends asked h.after (sum_met w.met (only_faults 1)) kind (record {
              ignored = subst (λ (l : List DatagramValue). AreIgnored asked l) (sym same) w.all;
              in_time = inr (let x = in_time w.met.quiet w.passed in omega arith);
              few = let x = w.counted in let y : length h.after ≡ length w.came = ap length same in omega arith;
            }) (omega arith) (let x = w.whole in omega arith);
          }

      -- no datagram came
      pub turn_quiet : (later : ℕ) → later ≡ capped (elapsed + 100)
          → Turns counts given before now sockets [] w.came w.met (record { faults = 0; ends = 0; gots = 0; quiet = 1 })
          → IsWaiting counts given draw asked before now from to sockets later ignored
      turn_quiet later passed h =
          let same : h.after ≡ w.came = joins_nothing w.came h.after h.joins in
          record {
            came = h.after;
            met = sum_met w.met (record { faults = 0; ends = 0; gots = 0; quiet = 1 });
            holds = h.holds;
            ports = w.ports;
            all = subst (λ (l : List DatagramValue). AreIgnored asked l) (sym same) w.all;
            room = subst (λ (l : List DatagramValue). AllFit asked l) (sym same) w.room;
            counted = let x = w.counted in let y : length h.after ≡ length w.came = ap length same in omega arith;
            passed = let x = w.passed in omega arith;
            no_longer = let x = in_time w.met.quiet w.passed in omega arith;
            whole = let x = w.whole in omega arith;
          }

      module _ (datagram : DatagramValue) (fit : fits asked.request datagram ≡ true)
          (h : Turns counts given before now sockets (datagram ∷ []) w.came w.met
          (record { faults = 0; ends = 0; gots = 1; quiet = 0 })) where
        by_one : (verdict : Accepted) → judged asked.request asked.server datagram ≡ verdict
            → EndsByOne asked h.after (sum_met w.met (record { faults = 0; ends = 0; gots = 1; quiet = 0 })) verdict
        by_one verdict this = record {
          one = one_judged asked w.came h.after datagram verdict h.joins w.all this;
          in_time = let x = in_time w.met.quiet w.passed in omega arith;
          few = let x = w.counted in let y = joins_one w.came h.after datagram h.joins in omega arith;
          whole = let x = w.whole in omega arith;
        }

        stopped_by : (reply : Reply)
            → Ends asked h.after (sum_met w.met (record { faults = 0; ends = 0; gots = 1; quiet = 0 })) reply
            → IsStopped counts given draw asked before now from to sockets reply
        stopped_by reply ends = record {
          came = h.after;
          met = sum_met w.met (record { faults = 0; ends = 0; gots = 1; quiet = 0 });
          holds = h.holds;
          ports = w.ports;
          room = joined_all (fits asked.request) w.came h.after datagram h.joins w.room fit;
          ends = ends;
        }

        -- a datagram came, and was judged
        pub turn_came : (result : Option (Result ResponseValue NetError))
            → Judges asked.request asked.server datagram result
            → TurnEnds (λ e i. IsWaiting counts given draw asked before now from to sockets e i)
            (λ r. IsStopped counts given draw asked before now from to sockets r) elapsed (ignored + 1) result
        turn_came None this = record {
          came = h.after;
          met = sum_met w.met (record { faults = 0; ends = 0; gots = 1; quiet = 0 });
          holds = h.holds;
          ports = w.ports;
          all = joined_all (is_ignored asked) w.came h.after datagram h.joins w.all (rw this refl);
          room = joined_all (fits asked.request) w.came h.after datagram h.joins w.room fit;
          counted = let x = w.counted in let y = joins_one w.came h.after datagram h.joins in omega arith;
          passed = let x = w.passed in omega arith;
          no_longer = let x = w.no_longer in omega arith;
          whole = let x = w.whole in omega arith;
        }
        turn_came (Some (Ok response)) (message, this, same) = stopped_by (Ok response)
            (message, by_one (Answer message) this, same)
        turn_came (Some (Err error)) (inl none) = rw none (stopped_by (Err (error_of NoMemory)) tt)
        turn_came (Some (Err error)) (inr (inl (mismatch, this))) = rw mismatch
            (stopped_by (Err (error_of QueryCaseMismatch)) (by_one CaseMismatch this))
        turn_came (Some (Err error)) (inr (inr (fault, undecodable, this))) =
            rw undecodable (stopped_by (Err (error_of (Proto (Decode fault)))) (by_one (Undecodable fault) this))

  -- the time is over, or too many datagrams were no answer
  pub over_in_vain : (before now : DialerView) (from to : R) (sockets : List G) (elapsed ignored : ℕ)
      → IsWaiting counts given draw asked before now from to sockets elapsed ignored → ignored ≤ 65536
      → (asked.timeout ≤ elapsed) ⊎ (65536 ≤ ignored)
      → IsStopped counts given draw asked before now from to sockets (Err (error_of Timeout))
  over_in_vain before now from to sockets elapsed ignored w most over = record {
    came = w.came;
    met = w.met;
    holds = w.holds;
    ports = w.ports;
    room = w.room;
    ends = inl (record {
      ignored = w.all;
      over = over_by over;
      no_longer = w.no_longer;
      few = let x = w.counted in omega arith;
      whole = w.whole;
    });
  }
    where
      over_by : (asked.timeout ≤ elapsed) ⊎ (65536 ≤ ignored)
          → (asked.timeout ≤ tick * w.met.quiet) ⊎ (65536 ≤ length w.came)
      over_by (inl h) = inl (let x = w.passed in omega arith)
      over_by (inr h) = inr (let x = w.counted in omega arith)
