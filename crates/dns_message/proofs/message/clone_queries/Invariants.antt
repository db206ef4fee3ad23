use Rattle.std.proofs.Common.{◌≡◌, take}
use Rattle.dns_message.proofs.message.clone_queries.Given as goal

-- the queries so far are in the copy
abbrev pub invariant-loop-query : goal.invariant-loop-query
invariant-loop-query l = l.all.items ≡ take l.query-index l.queries.items
