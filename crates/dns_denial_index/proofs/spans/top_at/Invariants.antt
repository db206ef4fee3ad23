use Rattle.std.specs.Prelude.{◌-◌, length, reverse}
use Rattle.std.specs.List.{sum_by}
use Rattle.dns_denial_index.specs.Stack.{StandsOn}
use Rattle.dns_denial_index.proofs.spans.top_at.Given as goal

-- what isn't over at the place is in the stack
abbrev pub invariant-over : goal.invariant-over
invariant-over l = StandsOn l.spans l.place (reverse l.around.items)

-- each turn takes a span from the stack, or puts a later one in its place
abbrev pub decreases-over : goal.decreases-over
decreases-over l = sum_by (λ number. length l.spans - number) l.around.items
