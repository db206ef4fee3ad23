-- By what signatures and sets are judged, as the judge of chains (RFC 4035, 5.3).
use Rattle.dns_model.specs.Keys.{VerifierAnswers}
use Rattle.dns_model.specs.Chains.{Judge, judge}
use Rattle.dns_trust.specs.declared.judge.Judge.{Judge as Given}

-- the verifier's answers, the trusted keys and the moment
abbrev pub judge_of : {V : Type 0} → (V → VerifierAnswers) → Given V → Judge
judge_of answers given = judge (answers given.verifier.now) given.anchors.now given.moment
