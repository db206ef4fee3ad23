-- Walks of a handle: one send after another.
use Rattle.std.specs.Prelude.{ℕ, ◌≡◌, ◌≤◌, ◌+◌, List, [], ◌∷◌, length}

-- each step is a send, with what was asked and what was answered, from where the one before it ended
abbrev pub Steps : {H Q R : Type 0} → (H → Q → H → R → Type 0) → H → List (Q × R) → H → Type 0
Steps sent from [] to = from ≡ to
Steps {H} sent from (step ∷ steps) to = (mid : H) × sent from step.0 mid step.1 × Steps sent mid steps to

-- a walk whose steps a counter of sends covers
pub record Walked {H Q R : Type 0} (sent : H → Q → H → R → Type 0) (from to : H) (before after : ℕ) : Type 0 where
  pub steps : List (Q × R)
  pub walked : Steps sent from steps to
  pub counted : before + length steps ≤ after
