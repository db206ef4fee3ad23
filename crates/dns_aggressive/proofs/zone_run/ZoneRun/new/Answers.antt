use Rattle.std.proofs.Common.{refl, arith}
use Rattle.dns_aggressive.proofs.ZoneRuns.{front_of_zone, front_up_to_zone, low_high, run_among, run_each, run_inside, run_only, run_rising}
use Rattle.dns_aggressive.proofs.zone_run.ZoneRun.new.Goals as goal

pub passed-low-requires-clause-front : goal.passed-low-requires-clause-front
passed-low-requires-clause-front c =
    front_of_zone c.args.kept.now c.args.by_place.now c.args.zone.now c.requires.placed.rising

pub passed-high-requires-clause-front : goal.passed-high-requires-clause-front
passed-high-requires-clause-front c =
    front_up_to_zone c.args.kept.now c.args.by_place.now c.args.zone.now c.requires.placed.rising

pub slice_bounds-positions-count : goal.slice_bounds-positions-count
slice_bounds-positions-count c =
    let a = low_high c.args.kept.now c.args.by_place.now c.args.gone c.args.zone.now c.passed-low.result
    c.passed-high.result c.requires.placed c.requires.latest c.passed-low.ensures c.passed-high.ensures in
    let b = c.passed-high.ensures.within in
    omega (arith, a, b)

pub slice_bounds-positions-start : goal.slice_bounds-positions-start
slice_bounds-positions-start c =
    let a = low_high c.args.kept.now c.args.by_place.now c.args.gone c.args.zone.now c.passed-low.result
    c.passed-high.result c.requires.placed c.requires.latest c.passed-low.ensures c.passed-high.ensures in
    let b = c.passed-high.ensures.within in
    omega (arith, a, b)

pub returns-clause-run : goal.returns-clause-run
returns-clause-run c = record {
  is = refl;
  latest = c.requires.latest;
  inside = run_inside c.args.kept.now c.args.by_place.now c.args.gone c.args.zone.now c.passed-low.result
      c.passed-high.result c.requires.placed c.requires.latest c.passed-low.ensures c.passed-high.ensures;
  rising = run_rising c.args.kept.now c.args.by_place.now c.args.gone c.args.zone.now c.passed-low.result
      c.passed-high.result c.requires.placed c.requires.latest c.passed-low.ensures c.passed-high.ensures;
  only = run_only c.args.kept.now c.args.by_place.now c.args.gone c.args.zone.now c.passed-low.result
      c.passed-high.result c.requires.placed c.requires.latest c.passed-low.ensures c.passed-high.ensures;
  each = run_each c.args.kept.now c.args.by_place.now c.args.gone c.args.zone.now c.passed-low.result
      c.passed-high.result c.requires.placed c.requires.latest c.passed-low.ensures c.passed-high.ensures;
}

pub returns-clause-among : goal.returns-clause-among
returns-clause-among c = λ position t.
    run_among c.args.kept.now c.args.by_place.now c.args.gone c.args.zone.now c.passed-low.result c.passed-high.result
    c.requires.placed c.requires.latest c.passed-low.ensures c.passed-high.ensures position t
