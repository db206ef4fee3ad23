use Rattle.std.proofs.Common.{◌≡◌, ◌++◌, length}
use Rattle.dns_anchor_keys.specs.Matching.{anchors_of}
use Rattle.dns_anchor_keys.proofs.matching.anchors_of.Given as goal

-- the keys so far, and those of the lines that are left
abbrev pub invariant-lines : goal.invariant-lines
invariant-lines g l =
    l.anchors.items ++ anchors_of (g.V.Verifier.answers l.verifier) l.keys l.rest
    ≡ anchors_of (g.V.Verifier.answers l.verifier) l.keys l.initial.rest

abbrev pub decreases-lines : goal.decreases-lines
decreases-lines g l = length l.rest
