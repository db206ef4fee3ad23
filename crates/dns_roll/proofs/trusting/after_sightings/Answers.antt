use Rattle.dns_roll.proofs.Rising.{no_fall}
use Rattle.dns_roll.proofs.trusting.after_sightings.Goals as goal

pub unreachable-requires : goal.unreachable-requires
unreachable-requires g c =
    no_fall c.args.zone c.args.sights.now c.args.sightings.now c.in-Err-Earlier.field-0 c.in-Err-Earlier.field-0-0
    c.requires.of c.requires.rises c.in-Err-Earlier.field-0-is c.in-Err-Earlier.ensures.err
