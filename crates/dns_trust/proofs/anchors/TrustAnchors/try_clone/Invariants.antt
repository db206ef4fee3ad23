use Rattle.std.proofs.Common.{◌≡◌, take}
use Rattle.dns_trust.proofs.anchors.TrustAnchors.try_clone.Given as goal

-- the keys so far are in the copy
abbrev pub invariant-loop-anchor : goal.invariant-loop-anchor
invariant-loop-anchor l = l.copy ≡ take l.anchor-index l.self
