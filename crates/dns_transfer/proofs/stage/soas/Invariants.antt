use Rattle.std.proofs.Common.{◌≡◌, ◌≤◌, take}
use Rattle.dns_transfer.specs.Transfers.{soas}
use Rattle.dns_transfer.proofs.stage.soas.Given as goal

-- the SOAs so far
abbrev pub invariant-loop-record : goal.invariant-loop-record
invariant-loop-record l = record {
  counted : l.count ≡ soas (take l.record-index l.records);
  bounded : l.count ≤ l.record-index;
}
