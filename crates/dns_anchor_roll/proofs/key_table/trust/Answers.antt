use Rattle.std.proofs.Common.{◌∙◌, sym, ap}
use Rattle.dns_anchor_roll.specs.Tables.{standing_in}
use Rattle.dns_anchor_roll.proofs.Tables.{given_none, given_one}
use Rattle.dns_anchor_roll.proofs.key_table.trust.Goals as goal

pub returns-in_default : goal.returns-in_default
returns-in_default c = λ q.
    given_none c.args.rdata.now (standing_in c.args.known.now q) (sym c.key_of.ensures ∙ c.in_default.is) q

pub returns : goal.returns
returns c =
    given_one c.args.rdata.now c.in-Some.key _ c.args.known.now c.insert.new.self (sym c.key_of.ensures ∙ c.in-Some.is)
    (c.in_ok-own.ensures.items ∙ c.bytes.ensures) c.in_ok-insert.ensures.updates
