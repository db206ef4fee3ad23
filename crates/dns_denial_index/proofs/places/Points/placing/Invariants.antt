use Rattle.dns_denial_index.specs.Places.{IsPlacedTo}
use Rattle.dns_denial_index.proofs.places.Points.placing.Given as goal

-- the places of the keys so far
abbrev pub invariant-loop-index : goal.invariant-loop-index
invariant-loop-index l = IsPlacedTo l.fn.keys.items l.numbered.items l.index l.first l.places.items
