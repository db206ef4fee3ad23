-- What a holder's calls one behind the other say of the end of a wait.
use Rattle.std.proofs.Common.{◌≡◌, ℕ, ◌+◌, ◌≤◌, ◌<◌, ◌⊎◌, inl, inr, Bool, cond, List, [], ◌∷◌, ◌++◌, sym, ap, ◌∙◌, append_assoc, arith}
use Rattle.std.proofs.lemmas.List.Sums.{sum_by-append}
use Rattle.dns_handle.specs.declared.io_kind.IoKind.{IoKind}
use Rattle.dns_handle.specs.Errors.{Reply}
use Rattle.turns.specs.Turns.{Held}
use Rattle.dns_multiplexer.specs.Events.{Ended, Item}
use Rattle.dns_multiplexer.specs.Machine.{Settings}
use Rattle.dns_journal.specs.Entries.{Entry, Cancel, Close}
use Rattle.dns_journal.specs.Histories.{is_close}
use Rattle.dns_journal.specs.Limits.{arrival_fits, call_fits, close_fits}
use Rattle.dns_shared_upstream.specs.Calls.{HadNoRoom, arrives_in, closes_in}
use Rattle.dns_shared_upstream.specs.Sends.{HolderValue, Made, IsClosedBy, StreamFailed, Stopped, WasGiven, HadEnded, HadFault, NoTake, NoArrival, HadNoMemory, Waited, WasStopped, WasUnanswered, IsOver}
use Rattle.dns_shared_upstream.proofs.CallLemmas.{called_itself, called_on, among_before, among_behind, arrives_both, gave_before, gave_behind, no_room_before, no_room_behind, none_behind}

abbrev Calls : Type 0
Calls = List (ℕ × Entry)

closes_both : (a b : Calls) → closes_in (a ++ b) ≡ closes_in a + closes_in b
closes_both a b = sum_by-append (λ (call : ℕ × Entry). cond (is_close call.1) 1 0) a b

pub made_itself : (now : HolderValue) → Made [] now now
made_itself now = record { called = called_itself now.token; closes = omega arith }

pub made_on : (a b : Calls) (x y z : HolderValue) → Made a x y → Made b y z → Made (a ++ b) x z
made_on a b x y z first second =
    let both = closes_both a b in
    let one = first.closes in
    let other = second.closes in
    record {
      called = called_on a b x.token y.token z.token first.called second.called;
      closes = omega (arith, both, one, other);
    }

made_later : (a : Calls) (x y : HolderValue) → Made a x y → x.failures ≤ y.failures
made_later a x y made = let closes = made.closes in omega (arith, closes)

-- ---- what was met later was met since

module _ (a : Calls) (x y z : HolderValue) (first : Made a x y) where
  since : (fits : Held Settings Entry → Bool) → HadNoRoom fits y.token.known z.token.known
      → HadNoRoom fits x.token.known z.token.known
  since fits none = no_room_before fits x.token y.token z.token a first.called none

  failed_since : (kind : IoKind) (b : Calls) → StreamFailed kind b y z → StreamFailed kind b x z
  failed_since kind b failed = record { rose = rose; closed = closed_since failed.closed }
    where
      rose : x.failures < z.failures
      rose = let before = made_later a x y first in let more = failed.rose in omega (arith, before, more)

      closed_since : IsClosedBy kind b ⊎ HadNoRoom close_fits y.token.known z.token.known
          → IsClosedBy kind b ⊎ HadNoRoom close_fits x.token.known z.token.known
      closed_since (inl closed) = inl closed
      closed_since (inr none) = inr (since close_fits none)

  pub stopped_since : (number : ℕ) (b : Calls) (reply : Reply) → Stopped number b y z reply → Stopped number b x z reply
  stopped_since number b reply (WasGiven gave) = WasGiven gave
  stopped_since number b reply (HadEnded gave is) = HadEnded gave is
  stopped_since number b reply (HadFault kind failed is) = HadFault kind (failed_since kind b failed) is
  stopped_since number b reply (NoTake none is) = NoTake (since call_fits none) is
  stopped_since number b reply (NoArrival bytes fits none is) =
      NoArrival bytes fits (since (arrival_fits bytes) none) is
  stopped_since number b reply (HadNoMemory is) = HadNoMemory is

  pub waited_since : (number : ℕ) (b : Calls) (reply : Reply) → Waited number b y z reply → Waited number b x z reply
  waited_since number b reply (WasStopped stopped) = WasStopped (stopped_since number b reply stopped)
  waited_since number b reply (WasUnanswered all none is) = WasUnanswered all none is

  pub over_since : (number : ℕ) (b : Calls) (reply : Reply) → IsOver number b y z reply → IsOver number b x z reply
  over_since number b reply (inl last) = inl last
  over_since number b reply (inr (inl none)) = inr (inl (since call_fits none))
  over_since number b reply (inr (inr is)) = inr (inr is)

-- ---- calls that came first change nothing of that

module _ (a b : Calls) (x z : HolderValue) where
  failed_more : (kind : IoKind) → StreamFailed kind b x z → StreamFailed kind (a ++ b) x z
  failed_more kind failed = record { rose = failed.rose; closed = closed_more failed.closed }
    where
      closed_more : IsClosedBy kind b ⊎ HadNoRoom close_fits x.token.known z.token.known
          → IsClosedBy kind (a ++ b) ⊎ HadNoRoom close_fits x.token.known z.token.known
      closed_more (inl closed) =
          inl (record { place = closed.place; among = among_before a b (closed.place, Close kind) closed.among })
      closed_more (inr none) = inr none

  pub stopped_more : (number : ℕ) (reply : Reply) → Stopped number b x z reply → Stopped number (a ++ b) x z reply
  stopped_more number reply (WasGiven gave) = WasGiven (gave_before a b z.token.known.journal number (Item reply) gave)
  stopped_more number reply (HadEnded gave is) = HadEnded (gave_before a b z.token.known.journal number Ended gave) is
  stopped_more number reply (HadFault kind failed is) = HadFault kind (failed_more kind failed) is
  stopped_more number reply (NoTake none is) = NoTake none is
  stopped_more number reply (NoArrival bytes fits none is) = NoArrival bytes fits none is
  stopped_more number reply (HadNoMemory is) = HadNoMemory is

  pub over_more : (number : ℕ) (reply : Reply) → IsOver number b x z reply → IsOver number (a ++ b) x z reply
  over_more number reply (inl last) =
      inl (record {
        before = a ++ last.before;
        place = last.place;
        parted = ap (λ (l : Calls). a ++ l) last.parted
            ∙ sym (append_assoc a last.before ((last.place, Cancel number) ∷ []));
      })
  over_more number reply (inr none) = inr none

-- ---- nor do those that come behind

module _ (a b : Calls) (x y z : HolderValue) (second : Made b y z) where
  still : (fits : Held Settings Entry → Bool) → HadNoRoom fits x.token.known y.token.known
      → HadNoRoom fits x.token.known z.token.known
  still fits none = no_room_behind fits x.token y.token z.token b none second.called

  failed_behind : (kind : IoKind) → StreamFailed kind a x y → StreamFailed kind (a ++ b) x z
  failed_behind kind failed = record { rose = rose; closed = closed_behind failed.closed }
    where
      rose : x.failures < z.failures
      rose = let after = made_later b y z second in let more = failed.rose in omega (arith, after, more)

      closed_behind : IsClosedBy kind a ⊎ HadNoRoom close_fits x.token.known y.token.known
          → IsClosedBy kind (a ++ b) ⊎ HadNoRoom close_fits x.token.known z.token.known
      closed_behind (inl closed) =
          inl (record { place = closed.place; among = among_behind a b (closed.place, Close kind) closed.among })
      closed_behind (inr none) = inr (still close_fits none)

  stopped_behind : (number : ℕ) (reply : Reply) → Stopped number a x y reply → Stopped number (a ++ b) x z reply
  stopped_behind number reply (WasGiven gave) =
      WasGiven (gave_behind a b y.token.known.journal z.token.known.journal number (Item reply) second.called.seen gave)
  stopped_behind number reply (HadEnded gave is) =
      HadEnded (gave_behind a b y.token.known.journal z.token.known.journal number Ended second.called.seen gave) is
  stopped_behind number reply (HadFault kind failed is) = HadFault kind (failed_behind kind failed) is
  stopped_behind number reply (NoTake none is) = NoTake (still call_fits none) is
  stopped_behind number reply (NoArrival bytes fits none is) = NoArrival bytes fits (still (arrival_fits bytes) none) is
  stopped_behind number reply (HadNoMemory is) = HadNoMemory is

  pub waited_behind : (number : ℕ) (reply : Reply) → arrives_in b ≡ 0 → Waited number a x y reply
      → Waited number (a ++ b) x z reply
  waited_behind number reply none (WasStopped stopped) = WasStopped (stopped_behind number reply stopped)
  waited_behind number reply none (WasUnanswered all pending is) =
      let both = arrives_both a b in
      WasUnanswered (omega (arith, both, none, all))
      (none_behind a b y.token.known.journal z.token.known.journal number none second.called.seen pending) is
