use Rattle.std.proofs.Common.{◌≡◌, take, false}
use Rattle.std.specs.List.{list_any}
use Rattle.dns_rules.specs.Delegations.{is_readable_ds}
use Rattle.dns_trust.proofs.unsigned.has_readable.Given as goal

-- none of the records so far can be read
abbrev pub invariant-loop-read : goal.invariant-loop-read
invariant-loop-read l = list_any is_readable_ds (take l.read-index l.records) ≡ false
