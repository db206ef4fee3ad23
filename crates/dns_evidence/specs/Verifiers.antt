-- Verifiers that answer alike.
use Rattle.std.specs.Prelude.{ℕ, ◌≡◌, List}
use Rattle.dns_model.specs.Keys.{VerifierAnswers}

-- the same algorithms are supported and the same signatures accepted
pub record AnswerAlike (a b : VerifierAnswers) : Type 0 where
  pub supports : (algorithm : ℕ) → a.supports algorithm ≡ b.supports algorithm
  pub accepts : (algorithm : ℕ) (key bytes signature : List ℕ) → a.accepts algorithm key bytes signature ≡ b.accepts algorithm key bytes signature
