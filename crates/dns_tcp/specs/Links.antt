-- One call of a link: what it moved, and what was counted.
use Rattle.std.specs.Prelude.{ℕ, ◌≡◌, ◌<◌, ◌≤◌, List, [], length, Option, Result, Ok, Err, IfOk}
use Rattle.std.specs.Io.KnownBytes.{IsAtEnd, prepend_known}
use Rattle.dns_handle.specs.declared.io_kind.IoKind.{IoKind}
use Rattle.dns_link.specs.Calls.{IsToldWith, NetCalls, only_fault}
use Rattle.dns_link.specs.Counts.{CountsValue, after_read, after_write}
use Rattle.dns_link.specs.Moved.{and_then, moved_by}

-- what is told of a link
pub record LinkView (L : Type 0) : Type 0 where
  pub counts : L → CountsValue
  pub given : L → Option (List ℕ)
  pub left : L → Option (List ℕ)
  pub taken : L → Option (List ℕ)
  -- the kind of the last fault
  pub calls : L → Option NetCalls

abbrev pub link_view : {L : Type 0} → (L → CountsValue) → (L → Option (List ℕ)) → (L → Option (List ℕ)) → (L → Option (List ℕ))
    → (L → Option NetCalls) → LinkView L
link_view counts given left taken calls = record { counts = counts; given = given; left = left; taken = taken; calls = calls }

-- the bytes that came; none where the read found the end or failed
abbrev pub came_by : Result (List ℕ) IoKind → List ℕ
came_by (Ok bytes) = bytes
came_by (Err kind) = []

abbrev pub counted : Result (List ℕ) IoKind → Result ℕ IoKind
counted (Ok bytes) = Ok (length bytes)
counted (Err kind) = Err kind

-- a link was read once, at least for one byte and at most for so many: the bytes that came, none at its end, or why it failed
pub record ReadsOnce {L : Type 0} (seen : LinkView L) (most : ℕ) (old new : L) (outcome : Result (List ℕ) IoKind) : Type 0 where
  pub room : ℕ
  pub some : 0 < room
  pub within : room ≤ most
  pub fits : length (came_by outcome) ≤ room
  pub counts : seen.counts new ≡ after_read room (counted outcome) (seen.counts old)
  pub given : seen.given new ≡ and_then (seen.given old) (came_by outcome)
  pub left : seen.left old ≡ prepend_known (came_by outcome) (seen.left new)
  pub taken : seen.taken new ≡ seen.taken old
  pub end : outcome ≡ Ok [] → IsAtEnd (seen.left new)
  pub calls : IsToldWith (seen.calls old) (only_fault outcome) (seen.calls new)

-- a link was written once, with these bytes: how many it took, or why it failed
pub record WritesOnce {L : Type 0} (seen : LinkView L) (bytes : List ℕ) (old new : L) (outcome : Result ℕ IoKind) : Type 0 where
  pub fits : IfOk outcome (λ n. n ≤ length bytes)
  pub counts : seen.counts new ≡ after_write (length bytes) outcome (seen.counts old)
  pub taken : seen.taken new ≡ and_then (seen.taken old) (moved_by outcome bytes)
  pub given : seen.given new ≡ seen.given old
  pub left : seen.left new ≡ seen.left old
  pub calls : IsToldWith (seen.calls old) (only_fault outcome) (seen.calls new)
