use Rattle.std.proofs.Common.{rules, ◌≡◌, IfOk, sym, ◌∙◌}
use Rattle.std.proofs.lemmas.Result.{IfOk-weaker}
use Rattle.dns_model.specs.Chains.{judge_alone, justified}
use Rattle.dns_chain_check.proofs.Laws.{prefixes_hold}
use Rattle.dns_chain_check.proofs.check.accepted_chain.Goals as goal

pub returns-clause-prefixes : goal.returns-clause-prefixes
returns-clause-prefixes g c =
    let j = judge_alone (g.V.Verifier.answers c.args.verifier.now) in
    let told : IfOk c.is_justified.result (λ b. b ≡ justified j c.args.chain.now.links) = search rules in
    IfOk-weaker c.is_justified.result _ _ (λ b is h. prefixes_hold j c.args.chain.now.links (sym is ∙ h)) told
