use Rattle.std.proofs.Common.{◌≡◌, drop}
use Rattle.std.specs.List.{find}
use Rattle.dns_trust.specs.Judge.{judge_of}
use Rattle.dns_trust.specs.Delegating.{shown}
use Rattle.dns_anchor_roll.specs.Facts.{is_good_by_any}
use Rattle.dns_anchor_roll.proofs.examining.accepted_ttl.Given as goal

-- the search goes on among the signatures that are left
abbrev pub invariant-loop-signature : goal.invariant-loop-signature
invariant-loop-signature g l =
    find (is_good_by_any (judge_of g.V.Verifier.answers l.judge) l.set (shown l.keys)) (drop l.signature-index (shown l.signatures))
    ≡ find (is_good_by_any (judge_of g.V.Verifier.answers l.judge) l.set (shown l.keys)) (shown l.signatures)
