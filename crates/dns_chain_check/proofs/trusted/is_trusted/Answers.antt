use Rattle.std.proofs.Common.{rules, ◌≡◌}
use Rattle.dns_chain_check.specs.Trusted.{is_trusted}
use Rattle.dns_chain_check.proofs.TrustLemmas.{trust_decides}
use Rattle.dns_chain_check.proofs.trusted.is_trusted.Goals as goal

pub returns-clause-decides : goal.returns-clause-decides
returns-clause-decides c =
    let told : c.are_trusted.result ≡ is_trusted c.args.anchors.now c.args.now c.args.chain.now.links = search rules in
    trust_decides c.args.anchors.now c.args.now c.args.chain.now.links c.are_trusted.result told
