use Rattle.std.proofs.Common.{rules, ◌≡◌, IfOk, sym, ◌∙◌}
use Rattle.std.proofs.lemmas.Result.{IfOk-weaker}
use Rattle.dns_model.specs.Chains.{judge, justified}
use Rattle.dns_chain_check.proofs.Laws.{holds_alone, holds_for_more, prefixes_hold}
use Rattle.dns_chain_check.proofs.check.check_chain.Goals as goal

pub returns-clause-prefixes : goal.returns-clause-prefixes
returns-clause-prefixes g c =
    let j = judge (g.V.Verifier.answers c.args.verifier.now) c.args.anchors.now c.args.now in
    let told : IfOk c.is_justified.result (λ b. b ≡ justified j c.args.chain.now.links) = search rules in
    IfOk-weaker c.is_justified.result _ _ (λ b is h. prefixes_hold j c.args.chain.now.links (sym is ∙ h)) told

pub returns-clause-more : goal.returns-clause-more
returns-clause-more g c =
    let answers = g.V.Verifier.answers c.args.verifier.now in
    let told : IfOk c.is_justified.result (λ b. b ≡ justified (judge answers c.args.anchors.now c.args.now) c.args.chain.now.links) =
    search rules in
    IfOk-weaker c.is_justified.result _ _
    (λ b is h. holds_for_more answers c.args.anchors.now c.args.now c.args.chain.now.links (sym is ∙ h)) told

pub returns-clause-alone : goal.returns-clause-alone
returns-clause-alone g c =
    let answers = g.V.Verifier.answers c.args.verifier.now in
    let told : IfOk c.is_justified.result (λ b. b ≡ justified (judge answers c.args.anchors.now c.args.now) c.args.chain.now.links) =
    search rules in
    IfOk-weaker c.is_justified.result _ _ (λ b is h. holds_alone answers c.args.anchors.now c.args.now c.args.chain.now.links
    (sym is ∙ h)) told
