use Rattle.std.proofs.Common.{Some, sym, ap, ◌∙◌}
use Rattle.dns_aggressive.specs.Denials.{has_live}
use Rattle.dns_aggressive.proofs.Deciding.{zone_here}
use Rattle.dns_aggressive.proofs.zone_search.+longest.Goals as goal

pub returns-then-has_live : goal.returns-then-has_live
returns-then-has_live t c =
    ap Some c.copy.ensures.value
    ∙ sym (zone_here (has_live c.args.now c.args.kept.now) c.args.name.now
    (sym c.has_live.ensures ∙ c.if-has_live.true))
