use Rattle.std.proofs.Common.{◌≡◌, ◌++◌, ◌+◌, length}
use Rattle.dns_trust.specs.Judge.{judge_of}
use Rattle.dns_audit.specs.AuditText.{chain_answers}
use Rattle.dns_audit.proofs.answers.push_chains.Given as goal

abbrev pub invariant-chains : goal.invariant-chains
invariant-chains g l =
    (l.into.items ++ chain_answers (judge_of g.V.Verifier.answers l.judge) l.number l.left
    ≡ l.initial.into.items ++ chain_answers (judge_of g.V.Verifier.answers l.judge) 0 l.chains)
    × (l.number + length l.left ≡ length l.chains)

abbrev pub decreases-chains : goal.decreases-chains
decreases-chains g l = length l.left
