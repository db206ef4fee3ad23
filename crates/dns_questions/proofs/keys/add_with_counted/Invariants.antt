use Rattle.std.proofs.Common.{◌≡◌, drop}
use Rattle.dns_questions.specs.Questions.{with_keys}
use Rattle.dns_trust.specs.Delegating.{shown}
use Rattle.dns_trust.specs.SetSignatures.{IsBuilt}
use Rattle.dns_questions.specs.Gathering.{judge_by, then_once}
use Rattle.dns_questions.proofs.keys.add_with_counted.Given as goal

-- the questions so far, and those with the keys that are left, are those with all keys
abbrev pub invariant-loop-key : goal.invariant-loop-key
invariant-loop-key l =
    (then_once l.into (with_keys (judge_by l.context) l.signature.set.now l.signature.sig.now (drop l.key-index (shown l.keys)))
    ≡ then_once l.initial.into (with_keys (judge_by l.context) l.signature.set.now l.signature.sig.now (shown l.keys)))
    × IsBuilt l.signature l.built
