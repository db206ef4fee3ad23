use Rattle.std.proofs.Common.{◌≡◌, drop}
use Rattle.dns_rules.proofs.FirstLemmas.{signed_from}
use Rattle.dns_trust.specs.Judge.{judge_of}
use Rattle.dns_trust.specs.Delegating.{shown}
use Rattle.dns_trust.specs.Signers.{signing_key}
use Rattle.dns_trust.proofs.signers.first_signed.Given as goal

-- the search goes on among the signatures that are left
abbrev pub invariant-loop-place : goal.invariant-loop-place
invariant-loop-place g l =
    signed_from (signing_key (judge_of g.V.Verifier.answers l.judge) l.set (shown l.keys)) l.place (drop l.place l.signatures)
    ≡ signed_from (signing_key (judge_of g.V.Verifier.answers l.judge) l.set (shown l.keys)) 0 l.signatures
