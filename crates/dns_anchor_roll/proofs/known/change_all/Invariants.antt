use Rattle.std.proofs.Common.{◌≡◌, ℕ, List, take}
use Rattle.dns_anchor_roll.specs.Tables.{among, changed_if, has_entry, standing_in}
use Rattle.dns_anchor_roll.proofs.known.change_all.Given as goal

-- those so far are changed
abbrev pub invariant-loop-key : goal.invariant-loop-key
invariant-loop-key l = record {
  changed : (q : List ℕ) → standing_in l.known q ≡ changed_if (among q (take l.key-index l.keys)) l.by (standing_in l.initial.known q);
  same : (q : List ℕ) → has_entry l.known q ≡ has_entry l.initial.known q;
}
