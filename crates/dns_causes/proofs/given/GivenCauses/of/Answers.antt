use Rattle.dns_causes.proofs.PlaceLemmas.{cause_found}
use Rattle.dns_causes.proofs.given.GivenCauses.of.Goals as goal

pub returns : goal.returns
returns c =
    rw (c.found_cause.ensures, c.deref.ensures.value, ← c.self.view_is)
    (cause_found c.self.inside.places c.self.inside.all.items c.args.key.now c.self.invariant)
