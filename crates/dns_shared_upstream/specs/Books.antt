-- Which failures of a stream are counted under its lock, and with which fault each closes the exchange.
use Rattle.std.specs.Prelude.{ℕ, ◌+◌, ◌-◌, ◌^◌, ◌≤◌, ◌≡◌, ◌⊎◌, min, Bool, true, false, Option, None, Some, Result, Ok, Err}
use Rattle.dns_model.specs.Counts.{one_more}
use Rattle.dns_handle.specs.Conversions.{outside_failed}
use Rattle.dns_handle.specs.declared.error.NetError.{NetError}
use Rattle.dns_handle.specs.declared.error.NetError.TheVariants.{Io, NoMemory, Timeout}
use Rattle.dns_handle.specs.declared.io_kind.IoKind.{IoKind}
use Rattle.dns_handle.specs.declared.io_kind.IoKind.TheVariants.{TimedOut}
use Rattle.dns_tcp.specs.declared.feed.Feed.{Feed}
use Rattle.dns_tcp.specs.declared.feed.Feed.TheVariants.{Closed}

-- no more is counted than failed, as long as failures are counted: their count stops at the greatest 64-bit number
abbrev pub Covers : ℕ → ℕ → Type 0
Covers total failures = min total (2 ^ 64 - 1) ≤ failures

-- the fault of the outside that an error is; any other error is none
abbrev pub fault_of : NetError → Option IoKind
fault_of Timeout = Some TimedOut
fault_of (Io kind) = Some kind
fault_of _ = None

-- whether an error is a failure
abbrev pub is_failure : Option IoKind → Bool
is_failure None = false
is_failure (Some kind) = true

-- whether the answer of a read is one: that the connection has ended is too
abbrev pub has_failed_read : Result Feed NetError → Bool
has_failed_read (Ok Closed) = true
has_failed_read (Ok _) = false
has_failed_read (Err error) = is_failure (fault_of error)

abbrev pub has_failed_write : {X : Type 0} → Result X NetError → Bool
has_failed_write (Ok x) = false
has_failed_write (Err error) = is_failure (fault_of error)

-- the total of a book, and a stream's count of failures, after a failure or none
abbrev pub total_after : Bool → ℕ → ℕ
total_after true total = total + 1
total_after false total = total

abbrev pub failures_after : Bool → ℕ → ℕ
failures_after true failures = one_more failures
failures_after false failures = failures

-- a failure, or none, was counted by the stream and in a share
pub record CountedAlike (old new before now : ℕ) : Type 0 where
  pub failed : Bool
  pub stream : new ≡ failures_after failed old
  pub share : now ≡ total_after failed before

-- a fault of the outside, as an error
pub record IsOutside (error : NetError) : Type 0 where
  pub kind : IoKind
  pub is : error ≡ outside_failed kind

-- a call of a stream fails for want of memory, or by a fault of the outside
abbrev pub IsStreamError : NetError → Type 0
IsStreamError error = (error ≡ NoMemory) ⊎ IsOutside error
