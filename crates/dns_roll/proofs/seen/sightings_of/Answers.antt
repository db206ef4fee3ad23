use Rattle.std.proofs.Common.{arith}
use Rattle.std.proofs.lemmas.Grind.{common_steps}
use Rattle.std.proofs.lemmas.List.Elements.{filter_map-append}
use Rattle.dns_roll.proofs.seen.sightings_of.Goals as goal

pub loop-sight-preserved : goal.loop-sight-preserved
loop-sight-preserved c = grind (arith, common_steps, filter_map-append)
