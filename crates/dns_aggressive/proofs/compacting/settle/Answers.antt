use Rattle.std.proofs.Common.{rules, ◌≡◌, false, drop, arith}
use Rattle.dns_aggressive.proofs.Compaction.{all_latest, latest_kept}
use Rattle.dns_aggressive.proofs.compacting.settle.Goals as goal

pub returns-then-gone-len-clause-list : goal.returns-then-gone-len-clause-list
returns-then-gone-len-clause-list c =
    let no : c.args.replaced ≡ false = search rules in
    all_latest c.args.kept.now.items c.args.gone (c.requires.latest no)

pub returns-clause-stands : goal.returns-clause-stands
returns-clause-stands c = record {
  within = omega arith;
  latest = latest_kept c.compact.new.kept.items (drop c.args.gone c.args.kept.now.items) c.compact.ensures.kept;
  placed = c.compact.ensures.placed;
  expiring = c.compact.ensures.expiring;
  all = c.compact.ensures.all;
  reach = c.compact.ensures.reach;
}
