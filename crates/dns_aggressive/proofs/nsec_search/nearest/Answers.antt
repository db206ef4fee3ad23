use Rattle.std.proofs.Common.{sym}
use Rattle.dns_aggressive.proofs.NsecSearch.{near_far, near_some}
use Rattle.dns_aggressive.proofs.nsec_search.nearest.Goals as goal

pub returns-in-Some : goal.returns-in-Some
returns-in-Some c =
    near_some c.args.run.now c.args.reaching.now c.args.now c.requires.searchable c.args.name.now c.args.number
    c.requires.parted c.in-Some.nsec.now c.in-Some.ensures.some c.in-Some.ensures.none

pub returns-in-None : goal.returns-in-None
returns-in-None c =
    near_far c.args.run.now c.args.reaching.now c.args.now c.requires.searchable c.args.name.now c.args.number
    c.requires.parted _ c.best_of.ensures (λ lt. sym (c.in-None.ensures.some lt))
