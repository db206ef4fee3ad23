use Rattle.std.specs.Prelude.{◌-◌}
use Rattle.dns_denial_index.specs.Places.{IsTurned}
use Rattle.dns_denial_index.proofs.places.Points.place.Given as goal

-- how far the search has come, in so many turns
abbrev pub invariant-turns : goal.invariant-turns
invariant-turns g l = IsTurned l.self l.key l.low l.high l.met l.fn.steps l.steps

abbrev pub decreases-turns : goal.decreases-turns
decreases-turns g l = l.high - l.low
