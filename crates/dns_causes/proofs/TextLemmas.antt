-- The lines of sets and of steps, one after another.
use Rattle.std.proofs.Common.{◌≡◌, ℕ, ◌+◌, List, [], ◌∷◌, ◌++◌, length, Option, refl, sym, ap, ◌∙◌, append-nil, append_assoc}
use Rattle.std.proofs.lemmas.List.{nil_from_length}
use Rattle.dns_model.specs.Trails.{AskedValue, JudgedSetValue}
use Rattle.dns_rules.specs.ProofErrors.{ProofErrorKindValue}
use Rattle.dns_causes.specs.CausesText.{causes_text, step_lines, why_line}

causeless : (n : ℕ) (sets : List JudgedSetValue) → step_lines n sets [] ≡ []
unfolding step_lines
causeless n [] = refl
causeless n (s ∷ ss) = refl

textless : (n : ℕ) (steps : List AskedValue) → causes_text n steps [] ≡ []
unfolding causes_text
textless n [] = refl
textless n (s ∷ ss) = refl

-- behind a text
module _ (text whole : List ℕ) (n : ℕ) where
  -- no set is left
  pub no_sets : (sets : List JudgedSetValue) (causes : List (Option ProofErrorKindValue))
      → length sets ≡ 0 → text ++ step_lines n sets causes ≡ whole → text ≡ whole
  unfolding step_lines
  no_sets sets causes none before =
      sym (append-nil text) ∙ sym (ap (λ xs. text ++ step_lines n xs causes) (nil_from_length sets none)) ∙ before

  -- or no cause
  pub no_causes : (sets : List JudgedSetValue) (causes : List (Option ProofErrorKindValue))
      → length causes ≡ 0 → text ++ step_lines n sets causes ≡ whole → text ≡ whole
  no_causes sets causes none before =
      sym (append-nil text) ∙ sym (ap (λ xs. text ++ xs) (causeless n sets))
      ∙ sym (ap (λ xs. text ++ step_lines n sets xs) (nil_from_length causes none)) ∙ before

  -- one line more
  pub line_more : (more : List ℕ) (sets rest : List JudgedSetValue)
      (causes others : List (Option ProofErrorKindValue)) (set : JudgedSetValue) (cause : Option ProofErrorKindValue)
      → sets ≡ set ∷ rest → causes ≡ cause ∷ others → more ≡ text ++ why_line n set cause
      → text ++ step_lines n sets causes ≡ whole → more ++ step_lines n rest others ≡ whole
  unfolding step_lines
  line_more more sets rest causes others set cause cut its pushed before =
      ap (λ xs. xs ++ step_lines n rest others) pushed
      ∙ append_assoc text (why_line n set cause) (step_lines n rest others)
      ∙ sym (ap (λ xs. text ++ step_lines n xs causes) cut ∙ ap (λ xs. text ++ step_lines n (set ∷ rest) xs) its)
      ∙ before

  -- no step is left
  pub no_steps : (steps : List AskedValue)
      (causes : List (List (Option ProofErrorKindValue)))
      → steps ≡ [] → text ++ causes_text n steps causes ≡ whole → text ≡ whole
  unfolding causes_text
  no_steps steps causes none before =
      sym (append-nil text) ∙ sym (ap (λ xs. text ++ causes_text n xs causes) none) ∙ before

  -- or no causes of one
  pub no_lists : (steps : List AskedValue)
      (causes : List (List (Option ProofErrorKindValue)))
      → causes ≡ [] → text ++ causes_text n steps causes ≡ whole → text ≡ whole
  no_lists steps causes none before =
      sym (append-nil text) ∙ sym (ap (λ xs. text ++ xs) (textless n steps))
      ∙ sym (ap (λ xs. text ++ causes_text n steps xs) none) ∙ before

  -- one step more
  pub step_more : (more : List ℕ) (steps rest : List AskedValue)
      (causes others : List (List (Option ProofErrorKindValue))) (step : AskedValue)
      (found : List (Option ProofErrorKindValue))
      → steps ≡ step ∷ rest → causes ≡ found ∷ others → more ≡ text ++ step_lines n step.sets found
      → text ++ causes_text n steps causes ≡ whole → more ++ causes_text (n + 1) rest others ≡ whole
  unfolding causes_text
  step_more more steps rest causes others step found cut its pushed before =
      ap (λ xs. xs ++ causes_text (n + 1) rest others) pushed
      ∙ append_assoc text (step_lines n step.sets found) (causes_text (n + 1) rest others)
      ∙ sym (ap (λ xs. text ++ causes_text n xs causes) cut ∙ ap (λ xs. text ++ causes_text n (step ∷ rest) xs) its)
      ∙ before
