use Rattle.dns_aggressive.proofs.Chains.{chain_added}
use Rattle.dns_aggressive.proofs.chain_index.ChainIndex.add.Goals as goal

pub returns-in_ok-insert : goal.returns-in_ok-insert
returns-in_ok-insert c =
    chain_added c.args.self.now (record { chains = c.insert.new.self })
    (c.in-Some.owner, c.in-Some.record_type) c.args.chain
    c.in-Some.ensures c.in_ok-insert.ensures.updates
