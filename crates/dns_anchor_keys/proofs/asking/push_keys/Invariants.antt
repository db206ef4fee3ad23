use Rattle.std.proofs.Common.{◌≡◌, ◌++◌, length}
use Rattle.dns_anchor_keys.specs.Asking.{keys_in}
use Rattle.dns_anchor_keys.proofs.asking.push_keys.Given as goal

-- the keys so far, and those among the records that are left
abbrev pub invariant-records : goal.invariant-records
invariant-records l =
    l.into.items ++ keys_in l.zone l.rest ≡ l.initial.into.items ++ keys_in l.zone l.initial.rest

abbrev pub decreases-records : goal.decreases-records
decreases-records l = length l.rest
