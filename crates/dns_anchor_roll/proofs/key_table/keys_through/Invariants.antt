use Rattle.std.proofs.Common.{◌≡◌, ℕ, List, take}
use Rattle.std.specs.Borrow.{Bor}
use Rattle.std.specs.List.{filter}
use Rattle.dns_anchor_roll.specs.Tables.{entry_at, is_done_at}
use Rattle.dns_anchor_roll.proofs.key_table.keys_through.Given as goal

-- those so far
abbrev pub invariant-loop-key : goal.invariant-loop-key
invariant-loop-key l =
    l.through.items ≡ filter (λ (k : Bor (List ℕ)). is_done_at (entry_at l.shown k.now) l.moment) (take l.key-index l.keys)
