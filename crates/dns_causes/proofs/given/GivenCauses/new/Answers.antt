use Rattle.dns_causes.proofs.PlaceLemmas.{no_places}
use Rattle.dns_causes.proofs.given.GivenCauses.new.Goals as goal

pub invariant_of-result : goal.invariant_of-result
invariant_of-result c = no_places c.new-2.result c.new.result.items c.new-2.ensures.empty c.new.ensures.items
