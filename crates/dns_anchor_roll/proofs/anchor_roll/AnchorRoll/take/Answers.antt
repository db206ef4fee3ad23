use Rattle.std.proofs.Common.{◌∙◌, refl, sym, subst}
use Rattle.dns_anchor_roll.specs.Sightings.{SightingValue}
use Rattle.dns_anchor_roll.specs.Tables.{TakesFound}
use Rattle.dns_anchor_roll.proofs.Lists.{after_error}
use Rattle.dns_anchor_roll.proofs.Rolls.{taken, taken_seen}
use Rattle.dns_anchor_roll.proofs.anchor_roll.AnchorRoll.take.Goals as goal

pub returns-clause-after : goal.returns-clause-after
returns-clause-after g c = λ start list is.
    taken g.V.Verifier.answers start list c.args.self.now (record c.args.self.now { table = c.take.new.self }) c.args.sighting.now
    c.in_ok-found.found is c.in_ok-found.ensures
    (subst (λ (s : SightingValue). TakesFound c.in_ok-found.found s.moment c.args.self.now.table c.take.new.self) c.sighting.view_is
    c.in_ok-take.ensures.ok) refl refl

pub returns-clause-seen : goal.returns-clause-seen
returns-clause-seen g c = λ start list is.
    c.seen_of.ensures
    ∙ taken_seen g.V.Verifier.answers start list c.args.self.now c.args.sighting.now c.in_ok-found.found is c.in_ok-found.ensures

pub returns-in_err-take-clause-err : goal.returns-in_err-take-clause-err
returns-in_err-take-clause-err g c =
    after_error c.from_residual-in_err-take.result (record { verifier = refl; zone = refl; table = c.in_err-take.ensures.err })
