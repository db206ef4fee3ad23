use Rattle.std.proofs.Common.{◌≡◌, ◌++◌, map, take, drop}
use Rattle.dns_update.specs.Updates.{deletion_of}
use Rattle.dns_update.proofs.updates.delete_each.Given as goal

-- the records so far are deletions
abbrev pub invariant-loop-deleted : goal.invariant-loop-deleted
invariant-loop-deleted l =
    l.records ≡ map deletion_of (take l.deleted-index l.initial.records) ++ drop l.deleted-index l.initial.records
