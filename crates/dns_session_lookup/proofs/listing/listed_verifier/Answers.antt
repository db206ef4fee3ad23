use Rattle.std.proofs.Common.{rules}
use Rattle.dns_session_lookup.proofs.JudgeLemmas.{listed_made}
use Rattle.dns_session_lookup.proofs.listing.listed_verifier.Goals as goal

pub returns : goal.returns
returns c =
    listed_made c.new-verifier.result c.add_algorithms.new.verifier c.add_accepts.new.verifier c.args.algorithms.now
    c.args.accepts.items
    (search rules) (search rules) (search rules)
