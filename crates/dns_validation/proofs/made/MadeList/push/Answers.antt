use Rattle.std.proofs.Common.{◌∷◌, reverse, ap, ◌∙◌}
use Rattle.dns_validation.proofs.MadePlaceLemmas.{reverse_last}
use Rattle.dns_validation.proofs.made.MadeList.push.Goals as goal

pub returns : goal.returns
returns c =
    ap reverse c.in_ok-push.ensures.items ∙ reverse_last c.self.inside.all.items c.args.made
    ∙ ap (λ l. c.args.made ∷ l) c.self.view_is
