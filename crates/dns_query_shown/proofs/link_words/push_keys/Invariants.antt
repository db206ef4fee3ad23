use Rattle.std.proofs.Common.{◌≡◌, ◌++◌, drop}
use Rattle.std.specs.List.{flat_map}
use Rattle.dns_query_shown.specs.ChainTrees.{listed_key}
use Rattle.dns_query_shown.proofs.link_words.push_keys.Given as goal

-- what is written so far, and the lines of what is left, are those of all
abbrev pub invariant-loop-key : goal.invariant-loop-key
invariant-loop-key l =
    l.into.items ++ flat_map listed_key (drop l.key-index l.keys) ≡ l.initial.into.items ++ flat_map listed_key l.keys
