use Rattle.std.proofs.Common.{◌≡◌, drop, map}
use Rattle.dns_rules.specs.Nsec3Verdict.{parameters_in}
use Rattle.dns_aggressive.specs.Answers.{hashed_answer}
use Rattle.dns_aggressive.specs.Groups.{lent}
use Rattle.dns_aggressive.proofs.synthesizing.first_answer.Given as goal

-- those that are left answer as all do
abbrev pub invariant-loop-first : goal.invariant-loop-first
invariant-loop-first l =
    hashed_answer l.kept l.query l.now l.zone (map parameters_in (lent (drop l.first-index l.firsts)))
    ≡ hashed_answer l.kept l.query l.now l.zone (map parameters_in (lent l.firsts))
