-- What was asked of the outside, call by call, and the kind of the last fault, where it tells them: so a layer above says whom it asks
-- for what, and how it was answered.
use Rattle.std.specs.Prelude.{◌≡◌, List, [], ◌∷◌, ◌++◌, ⊤, Option, None, Some, Result, Ok, Err}
use Rattle.dns_handle.specs.declared.io_kind.IoKind.{IoKind}
use Rattle.dns_link.specs.declared.net_call.NetCall.{NetCall}

pub record NetCalls : Type 0 where
  -- the links and sockets that were asked for, and the datagrams that were sent, in order
  pub made : List NetCall
  -- the kind of the last fault
  pub fault : Option IoKind

abbrev pub no_calls : NetCalls
no_calls = record { made = []; fault = None }

-- the kind of the fault that a call is answered
abbrev pub fault_of : {X : Type 0} → Result X IoKind → Option IoKind
fault_of (Ok x) = None
fault_of (Err kind) = Some kind

-- one call, and how it was answered
abbrev pub answered : {X : Type 0} → NetCall → Result X IoKind → NetCalls
answered call result = record { made = call ∷ []; fault = fault_of result }

-- a read, a write or a wait: the kind of its fault alone is told
abbrev pub only_fault : {X : Type 0} → Result X IoKind → NetCalls
only_fault result = record { made = []; fault = fault_of result }

-- the last fault of two
abbrev pub last_fault : Option IoKind → Option IoKind → Option IoKind
last_fault before None = before
last_fault before (Some kind) = Some kind

-- calls, and others behind them
abbrev pub and_calls : NetCalls → NetCalls → NetCalls
and_calls before more = record { made = before.made ++ more.made; fault = last_fault before.fault more.fault }

-- behind the calls that were told before, these are told now; or nothing is told any more
abbrev pub IsToldWith : Option NetCalls → NetCalls → Option NetCalls → Type 0
IsToldWith before more None = ⊤
IsToldWith None more (Some now) = ⊥
IsToldWith (Some before) more (Some now) = now ≡ and_calls before more

-- the same with the calls of an object that is given back, if it tells them
abbrev pub IsToldWithThose : Option NetCalls → Option NetCalls → Option NetCalls → Type 0
IsToldWithThose before those None = ⊤
IsToldWithThose before None (Some now) = ⊥
IsToldWithThose before (Some more) (Some now) = IsToldWith before more (Some now)

-- these calls were made in all, where they are told
abbrev pub Tells : Option NetCalls → NetCalls → Type 0
Tells None made = ⊤
Tells (Some told) made = told ≡ made
