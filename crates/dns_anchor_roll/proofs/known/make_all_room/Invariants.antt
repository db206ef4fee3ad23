use Rattle.std.proofs.Common.{◌≡◌, ℕ, List, take, true}
use Rattle.std.specs.List.{All}
use Rattle.dns_anchor_roll.specs.Tables.{has_entry, standing_in}
use Rattle.dns_anchor_roll.proofs.known.make_all_room.Given as goal

-- there is room for the keys so far, and what is known stays
abbrev pub invariant-loop-key : goal.invariant-loop-key
invariant-loop-key l = record {
  same : (q : List ℕ) → standing_in l.known q ≡ standing_in l.initial.known q;
  room : All (λ k. has_entry l.known k.now ≡ true) (take l.key-index l.keys);
  more : (q : List ℕ) → has_entry l.initial.known q ≡ true → has_entry l.known q ≡ true;
}
