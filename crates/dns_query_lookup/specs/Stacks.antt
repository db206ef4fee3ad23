-- A question over a handle that sends: each query has the CD bit of the call, none is sent after its limit, and each is noted
-- (RFC 4035, 3.2.2; RFC 1035, 7.1).
use Rattle.std.specs.Prelude.{◌≡◌, [], Result}
use Rattle.dns_handle.specs.declared.handle.DnsHandle as handle
use Rattle.dns_query_handle.specs.CheckingHandles as checked
use Rattle.dns_query_handle.specs.DeadlineHandles as timed
use Rattle.dns_query_handle.specs.NotingHandles as noted
use Rattle.dns_query_handle.specs.declared.checking_handle.CheckingHandle.{CheckingHandle}
use Rattle.dns_query_handle.specs.declared.deadline_handle.DeadlineHandle.{DeadlineHandle}
use Rattle.dns_query_handle.specs.declared.noting_handle.NotingHandle.{NotingHandle}
use Rattle.dns_query_lookup.specs.Asks.{AsksOver}
use Rattle.dns_anchor_keys.specs.declared.fault.AnchorsFault.{AnchorsFault}
use Rattle.dns_query_lookup.specs.CallValues.{CallValue}
use Rattle.dns_query_lookup.specs.LookedValues.{LookedValue}

-- the handles that stand over one another, the one that sends below
abbrev pub Stack : Type 0 → Type 0 → Type 0
Stack H T = NotingHandle (DeadlineHandle (CheckingHandle H) T) T

-- a new stack, by a call
pub record IsStackFor {H T : Type 0} (call : CallValue) (below : H) (deadline notes : T) (stack : Stack H T) : Type 0 where
  pub sends : checked.inner_of (timed.inner_of (noted.inner_of stack)) ≡ below
  pub cd : checked.is_disabled_by (timed.inner_of (noted.inner_of stack)) ≡ call.is_disabled
  pub watch : timed.watch_of (noted.inner_of stack) ≡ deadline
  pub limit : timed.limit_of (noted.inner_of stack) ≡ call.limit
  pub stopwatch : noted.watch_of stack ≡ notes
  pub unnoted : noted.notes_of stack ≡ []

-- the question was asked over such a stack
pub record AsksBelow {H T : Type 0} (meanings : handle.Ghosts (Stack H T)) (call : CallValue) (below : H) (deadline notes : T)
    (ended : Result LookedValue AnchorsFault) : Type 0 where
  pub stack : Stack H T
  pub made : IsStackFor call below deadline notes stack
  pub asks : AsksOver meanings call stack ended
