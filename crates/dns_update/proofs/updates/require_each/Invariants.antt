use Rattle.std.proofs.Common.{◌≡◌, ◌++◌, map, take, drop}
use Rattle.dns_update.specs.Updates.{must_be}
use Rattle.dns_update.proofs.updates.require_each.Given as goal

-- the records so far must be there
abbrev pub invariant-loop-required : goal.invariant-loop-required
invariant-loop-required l =
    l.records ≡ map must_be (take l.required-index l.initial.records) ++ drop l.required-index l.initial.records
