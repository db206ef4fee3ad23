use Rattle.std.proofs.Common.{◌∙◌, ap}
use Rattle.dns_roll.specs.TrustedText.{tells_trust}
use Rattle.dns_roll.proofs.States.{state_tells}
use Rattle.dns_roll.proofs.trusting.is_trusted.Goals as goal

pub returns : goal.returns
returns g c = λ start list is.
    c.tells_trust.ensures ∙ ap tells_trust (c.state.ensures start list is) ∙ state_tells start list c.args.rdata.now 0
