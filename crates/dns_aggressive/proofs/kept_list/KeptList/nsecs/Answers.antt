use Rattle.std.proofs.Common.{ℕ, List, drop, subst, ◌∙◌}
use Rattle.std.specs.List.{Contains}
use Rattle.dns_aggressive.specs.Records.{KeptValue}
use Rattle.dns_aggressive.specs.Reaching.{IsZonePart}
use Rattle.dns_aggressive.proofs.Reaches.{searchable}
use Rattle.dns_aggressive.proofs.kept_list.KeptList.nsecs.Goals as goal

pub new-requires : goal.new-requires
new-requires c =
    searchable (drop c.self.inside.gone c.deref.result.now) c.args.zone.now c.new-run.result
    c.self.inside.records.items c.self.inside.by_place.items c.self.inside.reaching.items c.zone_part.result.now
    c.new-run.ensures.run (c.new-run.ensures.kept ∙ c.deref.ensures.value)
    (λ p t. subst (λ (l : List ℕ). Contains l p) c.deref-2.ensures.value (c.new-run.ensures.among p t))
    c.self.invariant.placed c.self.invariant.reach
    (subst (λ (l : List ℕ). IsZonePart c.self.inside.records.items c.args.zone.now l c.zone_part.result.now)
    c.deref-4.ensures.value
    (subst (λ (k : List KeptValue). IsZonePart k c.args.zone.now c.deref-4.result.now c.zone_part.result.now)
    c.deref-3.ensures.value c.zone_part.ensures))
