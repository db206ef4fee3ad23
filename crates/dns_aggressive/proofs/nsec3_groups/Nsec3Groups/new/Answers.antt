use Rattle.dns_aggressive.proofs.Groups.{none_grouped}
use Rattle.dns_aggressive.proofs.nsec3_groups.Nsec3Groups.new.Goals as goal

pub loop-nsec3-init : goal.loop-nsec3-init
loop-nsec3-init c = none_grouped c.new.result.items c.new-2.result c.new.ensures.items c.new-2.ensures.empty
