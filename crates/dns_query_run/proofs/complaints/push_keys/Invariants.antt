use Rattle.std.proofs.Common.{◌≡◌, ◌++◌, drop}
use Rattle.std.specs.List.{flat_map}
use Rattle.dns_query_run.specs.Complaints.{trusted_key}
use Rattle.dns_query_run.proofs.complaints.push_keys.Given as goal

-- what is written so far, and the lines of the keys that are left, are those of all
abbrev pub invariant-loop-key : goal.invariant-loop-key
invariant-loop-key l =
    l.into.items ++ flat_map (trusted_key l.anchors) (drop l.key-index l.keys)
    ≡ l.initial.into.items ++ flat_map (trusted_key l.anchors) l.keys
