-- For private functions alone: the best element of a list so far, as one more is met.
use Rattle.std.specs.Prelude.{ℕ, Bool, true, ◌&&◌, Option, None, Some, if◌then◌else◌}
use Rattle.dns_model.specs.Owned.{OwnedNsec}
use Rattle.dns_model.specs.Names.{before}

-- by the canonical order of their owners
abbrev pub owned_before : OwnedNsec → OwnedNsec → Bool
owned_before one two = before one.owner two.owner

-- the element comes after the best one so far, or there is none
abbrev pub is_better : {X : Type 0} → (X → X → Bool) → Option (ℕ × X) → X → Bool
is_better less None x = true
is_better less (Some best) x = less best.1 x

-- the best one and its number, after one more that counts where it passes
abbrev pub next_best : {X : Type 0} → (X → Bool) → (X → X → Bool) → Option (ℕ × X) → ℕ → X → Option (ℕ × X)
next_best passes less best number x = if passes x && is_better less best x then Some (number, x) else best

-- the best one so far passes, or there is none
abbrev pub passes_if_there : {X : Type 0} → (X → Bool) → Option (ℕ × X) → Bool
passes_if_there passes None = true
passes_if_there passes (Some best) = passes best.1
