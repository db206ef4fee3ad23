use Rattle.std.proofs.Common.{take}
use Rattle.dns_aggressive.specs.Groups.{IsGrouped, lent}
use Rattle.dns_aggressive.proofs.nsec3_groups.Nsec3Groups.new.Given as goal

abbrev pub invariant-loop-nsec3 : goal.invariant-loop-nsec3
invariant-loop-nsec3 l = IsGrouped (lent (take l.nsec3-index l.nsec3s)) l.groups
