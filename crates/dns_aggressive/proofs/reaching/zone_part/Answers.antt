use Rattle.dns_aggressive.proofs.ExpiryFinds.{front_of_zones}
use Rattle.dns_aggressive.proofs.Reaches.{front_before_zone, zone_part}
use Rattle.dns_aggressive.proofs.reaching.zone_part.Goals as goal

pub passed-low-requires-clause-front : goal.passed-low-requires-clause-front
passed-low-requires-clause-front c =
    front_before_zone c.args.kept.now c.args.order.now c.args.zone.now c.requires.sorted

pub passed-high-requires-clause-front : goal.passed-high-requires-clause-front
passed-high-requires-clause-front c =
    front_of_zones c.args.kept.now c.args.order.now c.args.zone.now c.requires.sorted

pub returns : goal.returns
returns c =
    zone_part c.args.kept.now c.args.order.now c.args.zone.now c.passed-low.result c.passed-high.result
    c.requires.inside c.passed-low.ensures c.passed-high.ensures
