use Rattle.std.proofs.Common.{◌≡◌, length}
use Rattle.dns_questions.specs.Questions.{with_keys}
use Rattle.dns_trust.specs.SetSignatures.{IsBuilt}
use Rattle.dns_questions.specs.Gathering.{judge_by, then_once}
use Rattle.dns_questions.proofs.keys.add_with_keys.Given as goal

abbrev pub invariant-keys : goal.invariant-keys
invariant-keys l =
    (then_once l.into (with_keys (judge_by l.context) l.signature.set.now l.signature.sig.now l.left)
    ≡ then_once l.initial.into (with_keys (judge_by l.context) l.signature.set.now l.signature.sig.now l.keys))
    × IsBuilt l.signature l.built

abbrev pub decreases-keys : goal.decreases-keys
decreases-keys l = length l.left
