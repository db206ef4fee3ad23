use Rattle.std.proofs.Common.{◌≡◌, take}
use Rattle.dns_aggressive.specs.Groups.{lent}
use Rattle.dns_aggressive.proofs.nsec3_groups.copies_of.Given as goal

abbrev pub invariant-loop-nsec3 : goal.invariant-loop-nsec3
invariant-loop-nsec3 l = l.copies.items ≡ lent (take l.nsec3-index l.nsec3s)
