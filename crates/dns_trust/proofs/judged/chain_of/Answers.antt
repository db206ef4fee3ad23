use Rattle.std.proofs.Common.{◌≡◌, List, [], ◌∷◌, map, None, Some, ap, ◌∙◌, sym, refl}
use Rattle.dns_model.specs.Chains.{LinkValue}
use Rattle.dns_evidence.specs.Link.{link_value}
use Rattle.dns_trust.specs.declared.verdict.Verdict.{Verdict}
use Rattle.dns_trust.specs.declared.verdict.Verdict.TheVariants as variants
use Rattle.dns_trust.specs.Verdicts.{links_of, verdict_value}
use Rattle.dns_trust.proofs.ChainOf.{chain_else, chain_else-none, chain_else_pop}
use Rattle.dns_trust.proofs.judged.chain_of.Goals as goal

-- a verdict that proves gives its links
proved : (v : Verdict) (chain links : List LinkValue) → Some links ≡ links_of (verdict_value v)
    → chain_else (verdict_value v ∷ []) chain ≡ links
proved (variants.Proved found) chain links h = cc
proved variants.Insecure chain links h = cc
proved variants.Failed chain links h = cc

-- and another one leaves the chain
unproved : (v : Verdict) (chain : List LinkValue) → None ≡ links_of (verdict_value v) → chain_else (verdict_value v ∷ []) chain ≡ chain
unproved (variants.Proved found) chain h = cc
unproved variants.Insecure chain h = refl
unproved variants.Failed chain h = refl

pub loop-verdict-init : goal.loop-verdict-init
loop-verdict-init c =
    ap (λ links. chain_else (map verdict_value c.args.verdicts.items) (map link_value links)) c.new-chain.ensures.items
    ∙ chain_else-none (map verdict_value c.args.verdicts.items)

pub loop-verdict-preserved-in-Some-into_links : goal.loop-verdict-preserved-in-Some-into_links
loop-verdict-preserved-in-Some-into_links c =
    ap (chain_else (map verdict_value c.pop.new.self.items))
    (sym (proved c.in-Some.verdict (map link_value c.loop-verdict.chain.items) (map link_value c.in-Some-into_links.links.items)
    c.in-Some-into_links.ensures))
    ∙ chain_else_pop verdict_value c.loop-verdict.verdicts.items c.pop.new.self.items c.in-Some.verdict
    (map link_value c.loop-verdict.chain.items) c.in-Some.ensures.items
    ∙ c.loop-verdict.invariant

pub loop-verdict-preserved : goal.loop-verdict-preserved
loop-verdict-preserved c =
    ap (chain_else (map verdict_value c.pop.new.self.items))
    (sym (unproved c.in-Some.verdict (map link_value c.loop-verdict.chain.items) c.in_default-into_links.ensures))
    ∙ chain_else_pop verdict_value c.loop-verdict.verdicts.items c.pop.new.self.items c.in-Some.verdict
    (map link_value c.loop-verdict.chain.items) c.in-Some.ensures.items
    ∙ c.loop-verdict.invariant
