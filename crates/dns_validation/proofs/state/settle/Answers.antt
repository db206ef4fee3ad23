use Rattle.std.proofs.Common.{sym, ◌∙◌, refl}
use Rattle.dns_validation.specs.Runs.{Here}
use Rattle.dns_validation.specs.Terms.{terms_of}
use Rattle.dns_validation.proofs.Settling.{less_turn, turns_on}
use Rattle.dns_validation.proofs.state.settle.Goals as goal

pub turns-init : goal.turns-init
turns-init g c = Here _ _ refl

pub turns-smaller : goal.turns-smaller
turns-smaller g c =
    less_turn (terms_of g.V.Verifier.answers c.args.context.now) c.turns.state c.turn_once.new.state
    (sym c.moves.ensures ∙ c.turns-test.true)
    c.in_ok-turn_once.ensures

pub turns-preserved : goal.turns-preserved
turns-preserved g c =
    turns_on (terms_of g.V.Verifier.answers c.args.context.now) _ c.turns.state c.turn_once.new.state c.turns.invariant
    (sym c.moves.ensures ∙ c.turns-test.true) c.in_ok-turn_once.ensures
