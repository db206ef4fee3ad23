use Rattle.std.proofs.Common.{◌≡◌, take, false}
use Rattle.std.specs.List.{list_any}
use Rattle.dns_rules.specs.Delegations.{shows_unsigned_cut}
use Rattle.dns_trust.proofs.unsigned.has_unsigned_cut.Given as goal

-- none of the records so far shows one
abbrev pub invariant-loop-next : goal.invariant-loop-next
invariant-loop-next l = list_any shows_unsigned_cut (take l.next-index l.records) ≡ false
