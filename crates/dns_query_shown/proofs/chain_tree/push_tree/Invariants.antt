use Rattle.std.proofs.Common.{◌≡◌, ◌++◌, [], length, map}
use Rattle.dns_evidence.specs.Link.{link_value}
use Rattle.dns_query_shown.specs.ChainTrees.{tree_lines}
use Rattle.dns_query_shown.proofs.chain_tree.push_tree.Given as goal

-- what is written so far, and the lines of the links that are left below those so far, are the tree
abbrev pub invariant-links : goal.invariant-links
invariant-links l =
    l.into.items ++ tree_lines l.above.items (map link_value l.left) ≡ l.initial.into.items ++ tree_lines [] (map link_value l.links)

abbrev pub decreases-links : goal.decreases-links
decreases-links l = length l.left
