use Rattle.std.proofs.Common.{◌≡◌, ℕ, List, take}
use Rattle.dns_anchor_roll.specs.Tables.{among, entry_at, gone_on}
use Rattle.dns_anchor_roll.proofs.key_table.stretches.Given as goal

-- those of the keys so far
abbrev pub invariant-loop-key : goal.invariant-loop-key
invariant-loop-key l = (q : List ℕ) → entry_at l.shown q ≡ gone_on (among q (take l.key-index l.keys)) (entry_at l.old q) l.moment l.ttl
