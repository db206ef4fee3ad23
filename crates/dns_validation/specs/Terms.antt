-- For private functions of this crate only: the terms of a validation.
use Rattle.dns_model.specs.Keys.{VerifierAnswers}
use Rattle.dns_trust.specs.Judge.{judge_of}
use Rattle.dns_validation.specs.Machine.{Terms}
use Rattle.dns_validation.specs.declared.context.Context.{Context}

abbrev pub terms_of : {V : Type 0} → (V → VerifierAnswers) → Context V → Terms
terms_of answers context = record {
  judge = judge_of answers context.judge;
  query = context.query;
  request = context.request;
  options = context.options;
  iterations = context.iterations;
  ranges = context.ranges;
  now = context.judge.moment;
}
