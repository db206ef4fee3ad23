-- For private functions of this crate only: by what a step is judged.
use Rattle.std.specs.Prelude.{◌≡◌}
use Rattle.dns_model.specs.Keys.{VerifierAnswers}
use Rattle.dns_model.specs.Trails.{AskedValue}
use Rattle.dns_rules.specs.CacheEntries.{live}
use Rattle.dns_rules.specs.Derivation as derived
use Rattle.dns_trust.specs.Judge.{judge_of}
use Rattle.dns_trail.specs.declared.step_context.StepContext.{StepContext}

-- by what the sets of a step are judged, with a verifier's answers
abbrev pub step_context_by : {V : Type 0} → (V → VerifierAnswers) → StepContext V → derived.StepContext
step_context_by answers g = record {
  judge = judge_of answers g.judge.now;
  limits = g.limits;
  cached = live g.judge.now.moment g.cached.now;
  earlier = g.earlier;
  query = g.query.now;
  depth = g.depth;
}

-- the question and the depth are those of the step
pub record IsOfStep {V : Type 0} (g : StepContext V) (step : AskedValue) : Type 0 where
  pub query : g.query.now ≡ step.query
  pub depth : g.depth ≡ step.depth
