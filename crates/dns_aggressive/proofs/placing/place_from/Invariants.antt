use Rattle.std.proofs.Common.{◌≡◌, ◌+◌, ◌-◌, ◌*◌, ◌≤◌, false, length}
use Rattle.std.specs.Vec.{vec_capacity}
use Rattle.dns_aggressive.specs.Orders.{AreLatest, IsPlaced}
use Rattle.dns_aggressive.specs.Reaching.{AreReaching}
use Rattle.dns_aggressive.proofs.placing.place_from.Given as goal

abbrev pub invariant-loop-position : goal.invariant-loop-position
invariant-loop-position l = record {
  placed : IsPlaced l.kept l.position l.by_place.items;
  room : length l.by_place.items + (length l.kept - l.position) ≤ vec_capacity l.by_place;
  reaching : AreReaching l.kept l.position l.reaching.items;
  space : length l.reaching.items + 2 * (length l.kept - l.position) ≤ vec_capacity l.reaching;
  latest : l.replaced ≡ false → AreLatest l.kept l.gone l.from → AreLatest l.kept l.gone l.position;
}
