use Rattle.std.proofs.Common.{◌≡◌, true, take}
use Rattle.dns_marks.specs.ZoneVerdicts.{are_secure}
use Rattle.dns_marks.proofs.hashed.are_secure.Given as goal

-- the records so far are Secure
abbrev pub invariant-loop-next : goal.invariant-loop-next
invariant-loop-next l = are_secure (take l.next-index l.records) ≡ true
