use Rattle.std.proofs.Common.{◌≡◌, ◌++◌, drop}
use Rattle.dns_query_lookup.proofs.looking.copied_anchors.Given as goal

-- the keys so far and those that are left are all
abbrev pub invariant-loop-next : goal.invariant-loop-next
invariant-loop-next l = l.copied.items ++ drop l.next-index l.anchors ≡ l.anchors
