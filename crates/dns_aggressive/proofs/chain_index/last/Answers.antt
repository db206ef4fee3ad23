use Rattle.std.proofs.Common.{◌-◌, length, option_copied, slice_get, ap, ◌∙◌}
use Rattle.dns_model.specs.Chains.{last_link}
use Rattle.dns_aggressive.proofs.Chains.{last_value}
use Rattle.dns_aggressive.proofs.chain_index.last.Goals as goal

pub returns : goal.returns
returns c =
    last_value c.chain.inside.links.items (option_copied c.last.result)
    (c.last.ensures.value ∙ ap (λ l. slice_get l (length l - 1)) c.deref.ensures.value)
    ∙ ap (λ x. last_link x.links) c.chain.view_is
