use Rattle.dns_model.specs.Keys.{is_anchor}
use Rattle.dns_trust.specs.Anchoring.{anchor_number, number_of_anchor}
use Rattle.dns_evidence.proofs.Found.{found}
use Rattle.dns_trust.proofs.Alike.{anchor_alike}
use Rattle.dns_trust.proofs.anchors.TrustAnchors.contains_with_name.Goals as goal

pub returns : goal.returns
returns c =
    rw (c.is_at.ensures, c.deref.ensures.value, c.places_of-places.ensures, c.anchor_number.ensures, ← c.self.view_is)
    (found number_of_anchor (is_anchor c.args.owner.now c.args.algorithm c.args.key.now)
    (anchor_number c.args.owner.now c.args.algorithm c.args.key.now) c.self.inside.places c.self.inside.anchors.items
    (anchor_alike c.args.owner.now c.args.algorithm c.args.key.now) c.self.invariant)
