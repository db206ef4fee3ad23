-- For private functions only: one read of a link behind bytes that are kept.
use Rattle.std.specs.Prelude.{ℕ, ◌≡◌, List, ◌++◌, Result, Ok, Err}
use Rattle.dns_handle.specs.declared.io_kind.IoKind.{IoKind}
use Rattle.dns_tcp.specs.Links.{LinkView, ReadsOnce, came_by, counted}

-- so many bytes came
abbrev pub count_of : Result ℕ IoKind → ℕ
count_of (Ok n) = n
count_of (Err kind) = 0

-- the bytes that came stand in new behind those of old
pub record ReadsOnto {L : Type 0} (seen : LinkView L) (most : ℕ) (old_link new_link : L) (old new : List ℕ)
    (outcome : Result ℕ IoKind) : Type 0 where
  pub read : Result (List ℕ) IoKind
  pub once : ReadsOnce seen most old_link new_link read
  pub told : outcome ≡ counted read
  pub onto : new ≡ old ++ came_by read
