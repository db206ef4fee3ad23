use Rattle.std.proofs.Common.{ℕ, ◌+◌, ◌-◌, ◌≤◌, length}
use Rattle.std.specs.Vec.{vec_capacity}
use Rattle.dns_aggressive.specs.Expiring.{expiry_cmp, HasAll, IsOrder}
use Rattle.dns_aggressive.proofs.sorting.sort_in_from.Given as goal

abbrev pub invariant-loop-position : goal.invariant-loop-position
invariant-loop-position l = record {
  order : IsOrder (expiry_cmp l.sorting) l.kept l.position l.order.items;
  room : length l.order.items + (length l.kept - l.position) ≤ vec_capacity l.order;
  above : l.from ≤ l.position;
  all : (gone : ℕ) → gone ≤ l.from → HasAll gone l.from l.initial.order.items
      → HasAll gone l.position l.order.items;
}
