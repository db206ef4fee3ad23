use Rattle.std.proofs.Common.{◌≡◌, ◌++◌, length}
use Rattle.std.specs.List.{flat_map, list_all}
use Rattle.dns_saved_session.specs.SavedText.{fitting_anchor, anchor_text}
use Rattle.dns_saved_session.proofs.accepts.push_anchors.Given as goal

abbrev pub invariant-anchors : goal.invariant-anchors
invariant-anchors l =
    (l.into.items ++ flat_map anchor_text l.left ≡ l.initial.into.items ++ flat_map anchor_text l.anchors)
    × (list_all fitting_anchor l.anchors ≡ list_all fitting_anchor l.left)

abbrev pub decreases-anchors : goal.decreases-anchors
decreases-anchors l = length l.left
