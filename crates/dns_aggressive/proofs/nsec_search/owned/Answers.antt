use Rattle.std.proofs.Common.{◌<◌, length, ◌∙◌, arith}
use Rattle.dns_aggressive.proofs.NsecSearch.{owned_end, owned_is}
use Rattle.dns_aggressive.proofs.nsec_search.owned.Goals as goal

pub returns-then-number-run : goal.returns-then-number-run
returns-then-number-run c =
    owned_end c.args.run.now c.args.reaching.now c.args.now c.requires.searchable c.args.name.now c.args.number
    c.requires.parted (omega (arith, c.if-number-run.true))

pub returns : goal.returns
returns c =
    let within = c.requires.parted.within in
    let lt : c.args.number < length c.args.run.now.positions.now = omega (
      arith,
      c.if-number-run.false,
      within,
    ) in
    c.owned_at.ensures
    ∙ owned_is c.args.run.now c.args.reaching.now c.args.now c.requires.searchable c.args.name.now c.args.number
    c.requires.parted lt
