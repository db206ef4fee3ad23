use Rattle.std.proofs.Common.{◌∙◌, refl, sym, ap}
use Rattle.dns_anchor_roll.specs.Tables.{state_in}
use Rattle.dns_anchor_roll.specs.Trust.{facts}
use Rattle.dns_anchor_roll.specs.States.{state_of_key}
use Rattle.dns_anchor_roll.proofs.Trusting.{state_of_table}
use Rattle.dns_anchor_roll.proofs.anchor_roll.AnchorRoll.state.Goals as goal

pub returns-in_default : goal.returns-in_default
returns-in_default g c = λ start list is.
    sym (ap (state_of_key start.given (facts start list) c.args.now) (sym c.key_of.ensures ∙ c.in_default.is))

pub returns : goal.returns
returns g c = λ start list is.
    c.state_in.ensures
    ∙ ap (λ b. state_in c.args.self.now.table b c.args.now) c.bytes.ensures
    ∙ state_of_table start.given (facts start list) c.args.self.now.table is.table _ c.args.now
    ∙ sym (ap (state_of_key start.given (facts start list) c.args.now) (sym c.key_of.ensures ∙ c.in-Some.is))
