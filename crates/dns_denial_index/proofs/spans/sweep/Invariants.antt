use Rattle.dns_denial_index.specs.Stack.{IsSwept}
use Rattle.dns_denial_index.proofs.spans.sweep.Given as goal

-- the places so far have their spans, and the stack is that of the next place
abbrev pub invariant-loop-place : goal.invariant-loop-place
invariant-loop-place l = IsSwept l.spans l.place l.counting.items l.around.items
