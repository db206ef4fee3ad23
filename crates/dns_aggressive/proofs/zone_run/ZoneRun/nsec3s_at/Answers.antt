use Rattle.std.proofs.Common.{[], ◌∷◌, ◌++◌, sym, ap, ◌∙◌}
use Rattle.dns_aggressive.specs.Denials.{nsec3s_in}
use Rattle.dns_aggressive.specs.Orders.{nth}
use Rattle.dns_aggressive.specs.ZoneRuns.{standing}
use Rattle.dns_aggressive.proofs.Loops.{run_nsec3s_more}
use Rattle.dns_aggressive.proofs.zone_run.ZoneRun.nsec3s_at.Goals as goal

pub loop-position-preserved : goal.loop-position-preserved
loop-position-preserved c =
    let run = c.args.self.now in
    let now = c.args.now in
    let xs = c.args.positions.now in
    let i = c.loop-position.position-index in
    c.in_ok-push_nsec3.ensures
    ∙ ap (λ l. l ++ nsec3s_in (standing run now (nth xs i ∷ []))) c.loop-position.invariant
    ∙ sym (run_nsec3s_more run now xs i c.loop-position-test.true)
