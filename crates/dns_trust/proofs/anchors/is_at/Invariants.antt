use Rattle.std.proofs.Common.{◌≡◌, take, false}
use Rattle.std.specs.List.{list_any}
use Rattle.dns_model.specs.Keys.{is_anchor}
use Rattle.dns_evidence.specs.Finding.{passes_at}
use Rattle.dns_trust.proofs.anchors.is_at.Given as goal

-- at none of the places so far is the key
abbrev pub invariant-loop-place : goal.invariant-loop-place
invariant-loop-place l =
    list_any (passes_at (is_anchor l.owner l.algorithm l.key) l.anchors) (take l.place-index l.places) ≡ false
