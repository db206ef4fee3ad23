use Rattle.std.proofs.Common.{◌≡◌, drop}
use Rattle.std.specs.List.{find}
use Rattle.dns_trust.specs.Judge.{judge_of}
use Rattle.dns_trust.specs.Delegating.{shown}
use Rattle.dns_trust.specs.SetSignatures.{IsBuilt, is_good_of}
use Rattle.dns_trust.proofs.signers.signer_of_read.Given as goal

-- the search goes on among the keys that are left
abbrev pub invariant-loop-key : goal.invariant-loop-key
invariant-loop-key g l =
    (find (is_good_of (judge_of g.V.Verifier.answers l.judge) l.signature) (drop l.key-index (shown l.keys))
    ≡ find (is_good_of (judge_of g.V.Verifier.answers l.judge) l.signature) (shown l.keys)) × IsBuilt l.signature l.built
