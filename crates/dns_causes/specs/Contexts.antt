-- For private functions of this crate only: by what the sets of a step are judged.
use Rattle.std.specs.Prelude.{[]}
use Rattle.dns_model.specs.Keys.{VerifierAnswers}
use Rattle.dns_rules.specs.Derivation.{StepContext}
use Rattle.dns_trust.specs.Judge.{judge_of}
use Rattle.dns_causes.specs.declared.context.Context.{Context}

-- with a verifier's answers, and nothing that was kept
abbrev pub context_by : {V : Type 0} → (V → VerifierAnswers) → Context V → StepContext
context_by answers c = record {
  judge = judge_of answers c.judge.now;
  limits = c.limits;
  cached = [];
  earlier = c.earlier.now;
  query = c.query.now;
  depth = c.depth;
}
