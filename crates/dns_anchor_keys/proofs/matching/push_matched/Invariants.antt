use Rattle.std.proofs.Common.{◌≡◌, ◌++◌, length}
use Rattle.dns_anchor_keys.specs.Matching.{matched}
use Rattle.dns_anchor_keys.proofs.matching.push_matched.Given as goal

-- the keys so far, and those that are left
abbrev pub invariant-keys : goal.invariant-keys
invariant-keys g l =
    l.into.items ++ matched (g.V.Verifier.answers l.verifier) l.zone l.ds l.rest
    ≡ l.initial.into.items ++ matched (g.V.Verifier.answers l.verifier) l.zone l.ds l.initial.rest

abbrev pub decreases-keys : goal.decreases-keys
decreases-keys g l = length l.rest
