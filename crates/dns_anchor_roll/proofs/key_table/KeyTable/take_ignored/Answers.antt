use Rattle.std.proofs.Common.{◌∙◌, Some, false, refl, ap, []}
use Rattle.dns_anchor_roll.specs.Tables.{among, settled, standing_in}
use Rattle.dns_anchor_roll.proofs.Tables.{ignored_takes}
use Rattle.dns_anchor_roll.proofs.key_table.KeyTable.take_ignored.Goals as goal

pub returns-clause-ok : goal.returns-clause-ok
returns-clause-ok c =
    ignored_takes c.args.found.now c.args.moment c.args.self.now
    (record c.args.self.now { known = c.settle.new.known; last = Some c.args.moment }) [] c.requires (λ q. refl) (λ q. refl)
    (λ q. c.in_ok-settle.ensures.ok q
    ∙ ap (λ keys. settled (among q keys) c.args.moment false (standing_in c.args.self.now.known q)) c.as_slice.ensures.value)
    refl refl
