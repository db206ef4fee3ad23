use Rattle.std.proofs.Common.{◌∙◌, sym, ap}
use Rattle.dns_rdata.proofs.PartLemmas.{counted_plain}
use Rattle.dns_rdata.proofs.part.part_front.Goals as goal
use Rattle.dns_model.proofs.ShapeSteps.{counted_front}

pub returns-in_ok-text-in-CharacterString : goal.returns-in_ok-text-in-CharacterString
returns-in_ok-text-in-CharacterString c =
    let e = counted_plain c.args.bytes.now _ _ (sym c.in_ok-text-in-CharacterString.ensures) in
    rw c.in-CharacterString.is (c.plain_front-in-CharacterString.ensures ∙ (e ∙ ap counted_front c.in_ok-text-in-CharacterString.ensures))
