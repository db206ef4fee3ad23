use Rattle.std.specs.Prelude.{◌≤◌, length}
use Rattle.dns_denial_index.specs.Stack.{AreChained}
use Rattle.dns_denial_index.proofs.spans.chained.Given as goal

-- the spans from this number on are chained
abbrev pub invariant-spans : goal.invariant-spans
invariant-spans l = (l.number ≤ length l.spans) × AreChained l.spans l.number l.places l.first.items l.following.items

abbrev pub decreases-spans : goal.decreases-spans
decreases-spans l = l.number
