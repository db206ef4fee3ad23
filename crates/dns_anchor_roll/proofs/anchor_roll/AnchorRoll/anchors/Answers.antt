use Rattle.std.proofs.lemmas.Result.{IfOk-weaker}
use Rattle.dns_anchor_roll.proofs.Rolls.{anchors_after}
use Rattle.dns_anchor_roll.proofs.anchor_roll.AnchorRoll.anchors.Goals as goal

pub returns : goal.returns
returns g c =
    IfOk-weaker c.anchors_of.result _ _
    (λ anchors are start list is. anchors_after g.V.Verifier.answers start list c.args.self.now anchors is are) c.anchors_of.ensures
