use Rattle.dns_aggressive.proofs.NsecSearch.{front_before}
use Rattle.dns_aggressive.proofs.nsec_search.owners_before.Goals as goal

pub passed-requires-clause-front : goal.passed-requires-clause-front
passed-requires-clause-front c =
    front_before c.args.run.now c.args.reaching.now 0 c.requires c.args.name.now

pub passed-requires-clause-inside : goal.passed-requires-clause-inside
passed-requires-clause-inside c = c.requires.is.inside
