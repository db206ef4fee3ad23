use Rattle.std.proofs.Common.{◌≡◌, ◌+◌, ◌++◌, ◌∙◌, ap, arith}
use Rattle.dns_bench_zones.specs.NestedZones.{zones_told}
use Rattle.dns_bench_zones.proofs.ListLemmas.{begun, grown}
use Rattle.dns_bench_zones.proofs.upstream.tell_zones.Goals as goal

pub zones-init : goal.zones-init
zones-init c =
    let root : c.in_ok-zone.zone ≡ 0 = c.in_ok-zone.ensures in
    record {
      within = omega arith;
      told = begun c.args.handle.now c.tell_keys.new.handle c.in_ok-zone.zone root c.in_ok-tell_keys.ensures;
    }

pub zones-preserved : goal.zones-preserved
zones-preserved c =
    let next : c.in_ok-child.child ≡ c.zones.zone + 1 = c.in_ok-child.ensures in
    record {
      within = omega arith;
      told =
          grown c.args.handle.now c.zones.handle c.tell_ds.new.handle c.tell_keys-in-zones.new.handle c.zones.zone
          c.in_ok-child.child next c.zones.invariant.told c.in_ok-tell_ds.ensures c.in_ok-tell_keys-2.ensures;
    }

pub returns : goal.returns
returns c =
    let last : c.zones.zone ≡ c.args.zones = omega arith in
    c.zones.invariant.told
    ∙ ap (λ n. record c.args.handle.now { replies = c.args.handle.now.replies ++ zones_told n }) last
