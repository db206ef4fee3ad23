use Rattle.std.proofs.Common.{ℕ, List, length, sym, subst, ap, ◌∙◌}
use Rattle.std.proofs.lemmas.Result.{IfOk-weaker}
use Rattle.dns_aggressive.specs.Denials.{nsec3s_in}
use Rattle.dns_aggressive.specs.Orders.{AreInside}
use Rattle.dns_aggressive.specs.ZoneRuns.{standing}
use Rattle.dns_aggressive.proofs.Ascending.{inside_again, nsec3s_ascending}
use Rattle.dns_aggressive.proofs.zone_run.ZoneRun.live_nsec3s.Goals as goal

pub nsec3s_at-requires : goal.nsec3s_at-requires
nsec3s_at-requires c =
    subst (λ (l : List ℕ). AreInside (length c.args.self.now.kept.now) l) (sym c.deref.ensures.value)
    (inside_again (length c.args.self.now.kept.now) c.args.self.now.positions.now c.in_ok-positions.positions.items
    c.requires c.in_ok-positions.ensures)

pub returns : goal.returns
returns c = λ list zone h.
    IfOk-weaker c.nsec3s_at.result _ _
    (λ nsec3s is. is ∙ ap (λ (l : List ℕ). nsec3s_in (standing c.args.self.now c.args.now l)) c.deref.ensures.value
    ∙ nsec3s_ascending list zone c.args.self.now c.args.now h c.in_ok-positions.positions.items
    c.in_ok-positions.ensures)
    c.nsec3s_at.ensures
