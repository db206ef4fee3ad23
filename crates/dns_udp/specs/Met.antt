-- What was met in a call that opens sockets, uses them and gives them back to their dialer (form of this library).
use Rattle.std.specs.Prelude.{ℕ, ◌+◌, ◌-◌, ◌^◌, ◌≡◌, ◌⊎◌, min, List, length, Option, None, Some, Result, Ok, Err}
use Rattle.dns_handle.specs.declared.io_kind.IoKind.{IoKind}
use Rattle.dns_link.specs.Counts.{CountsValue}
use Rattle.dns_link.specs.Moved.{DatagramValue, and_then}

-- counts stop at the greatest 64-bit number
abbrev pub capped : ℕ → ℕ
capped count = min count (2 ^ 64 - 1)

-- the count has risen by so many, as far as it goes
abbrev pub RisesBy : ℕ → ℕ → ℕ → Type 0
RisesBy before n now = capped now ≡ capped (before + n)

-- each count has risen by what was met
pub record Meets (before now met : CountsValue) : Type 0 where
  pub faults : RisesBy before.faults met.faults now.faults
  pub ends : RisesBy before.ends met.ends now.ends
  pub gots : RisesBy before.gots met.gots now.gots
  pub quiet : RisesBy before.quiet met.quiet now.quiet

abbrev pub sum_met : CountsValue → CountsValue → CountsValue
sum_met one other = record {
  faults = one.faults + other.faults;
  ends = one.ends + other.ends;
  gots = one.gots + other.gots;
  quiet = one.quiet + other.quiet;
}

-- what a dialer counts, and the datagrams that came to the sockets that it has back
pub record DialerView : Type 0 where
  pub counts : CountsValue
  pub given : Option (List DatagramValue)

abbrev pub dialer_view : {D : Type 0} → (D → CountsValue) → (D → Option (List DatagramValue)) → D → DialerView
dialer_view counts given dialer = record { counts = counts dialer; given = given dialer }

-- datagrams came to sockets that the dialer has back, where these and the dialer tell them
abbrev pub AreGiven : Option (List DatagramValue) → List DatagramValue → Option (List DatagramValue) → Type 0
AreGiven before came now = (now ≡ None) ⊎ (now ≡ and_then before came)

-- what was met between two states of a dialer, whose sockets are all given back: as many datagrams came as are counted
pub record HasMet (before now : DialerView) (came : List DatagramValue) (met : CountsValue) : Type 0 where
  pub counts : Meets before.counts now.counts met
  pub given : AreGiven before.given came now.given
  pub gots : met.gots ≡ length came

-- what is met by a wait for a datagram
abbrev pub one_met : {X : Type 0} → Result (Option X) IoKind → CountsValue
one_met (Ok None) = record { faults = 0; ends = 0; gots = 0; quiet = 1 }
one_met (Ok (Some came)) = record { faults = 0; ends = 0; gots = 1; quiet = 0 }
one_met (Err kind) = record { faults = 1; ends = 0; gots = 0; quiet = 0 }
