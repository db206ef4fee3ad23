use Rattle.std.proofs.Common.{sym, ◌∙◌}
use Rattle.std.proofs.lemmas.List.Folds.{list_all-map}
use Rattle.dns_evidence.specs.Link.{link_value}
use Rattle.dns_chain_check.specs.Trusted.{is_trusted_link}
use Rattle.dns_chain_check.proofs.trusted.are_trusted.Goals as goal

pub returns : goal.returns
returns c =
    let test = is_trusted_link c.args.anchors.now c.args.now in
    c.each_trusted.ensures ∙ sym (list_all-map test link_value c.args.links.now)
