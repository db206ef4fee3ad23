-- The causes of a step's sets and of a trail's steps, one after another, and what each step gives.
use Rattle.std.proofs.Common.{◌≡◌, ℕ, ◌<◌, ◌≤◌, ◌+◌, List, [], ◌∷◌, ◌++◌, drop, get_or, length, take, Option, refl, sym, ap, ◌∙◌, subst, append-nil, append_assoc}
use Rattle.std.proofs.lemmas.List.{drop_all, drop_more, nil_from_length, take_more}
use Rattle.dns_model.specs.Chains.{Judge}
use Rattle.dns_model.specs.SoundAnswers.{Told, PlacedSet}
use Rattle.dns_model.specs.Trails.{AskedValue, JudgedSetValue}
use Rattle.dns_rules.specs.Asking.{Limits}
use Rattle.dns_rules.specs.Derivation.{StepContext, step_context_of}
use Rattle.dns_rules.specs.ProofErrors.{ProofErrorKindValue}
use Rattle.dns_causes.specs.Causes.{Given, causes_from, set_cause, set_causes, sets_give, step_causes, step_gives, with_set}

-- ---- sets

module _ (g : StepContext) (given : List Given) (told : Told) where
  -- causes were found, and something was given, and what is left completes that
  pub record AreFound (placed : List PlacedSet) (entries : List JudgedSetValue) (left : List PlacedSet)
      (right : List JudgedSetValue) (causes : List (Option ProofErrorKindValue)) (found : Given) : Type 0 where
    pub whole : causes ++ set_causes g given told left right ≡ set_causes g given told placed entries
    pub gives : sets_give g given told left right found ≡ sets_give g given told placed entries []

  pub none_found : (placed : List PlacedSet) (entries : List JudgedSetValue)
      → AreFound placed entries placed entries [] []
  none_found placed entries = record { whole = refl; gives = refl }

  setless : (left : List PlacedSet) → set_causes g given told left [] ≡ []
  unfolding set_causes
  setless [] = refl
  setless (p ∷ ps) = refl

  giveless : (left : List PlacedSet) (found : Given) → sets_give g given told left [] found ≡ found
  unfolding sets_give
  giveless [] found = refl
  giveless (p ∷ ps) found = refl

  module _ (placed : List PlacedSet) (entries : List JudgedSetValue) (left : List PlacedSet)
      (right : List JudgedSetValue) (causes : List (Option ProofErrorKindValue)) (found : Given)
      (are : AreFound placed entries left right causes found) where
    -- no set is left
    pub all_causes : length left ≡ 0 → causes ≡ set_causes g given told placed entries
    unfolding set_causes
    all_causes none =
        sym (append-nil causes)
        ∙ sym (ap (λ ps. causes ++ set_causes g given told ps right) (nil_from_length left none)) ∙ are.whole

    pub all_given : length left ≡ 0 → found ≡ sets_give g given told placed entries []
    unfolding sets_give
    all_given none = sym (ap (λ ps. sets_give g given told ps right found) (nil_from_length left none)) ∙ are.gives

    -- or no entry
    pub entered_causes : length right ≡ 0 → causes ≡ set_causes g given told placed entries
    entered_causes none =
        sym (append-nil causes) ∙ sym (ap (λ xs. causes ++ xs) (setless left))
        ∙ sym (ap (λ es. causes ++ set_causes g given told left es) (nil_from_length right none)) ∙ are.whole

    pub entered_given : length right ≡ 0 → found ≡ sets_give g given told placed entries []
    entered_given none =
        sym (giveless left found) ∙ sym (ap (λ es. sets_give g given told left es found) (nil_from_length right none))
        ∙ are.gives

    -- one set more
    pub found_more : (p : PlacedSet) (rest : List PlacedSet) (e : JudgedSetValue) (others : List JudgedSetValue)
        (cause : Option ProofErrorKindValue) (more : List (Option ProofErrorKindValue)) (next : Given)
        → left ≡ p ∷ rest → right ≡ e ∷ others → cause ≡ set_cause g given told p e → more ≡ causes ++ cause ∷ []
        → next ≡ with_set g.query p e cause found → AreFound placed entries rest others more next
    unfolding set_causes sets_give
    found_more p rest e others cause more next sets cut is pushed gave = record {
      whole =
          ap (λ xs. xs ++ set_causes g given told rest others) (pushed ∙ ap (λ c. causes ++ c ∷ []) is)
          ∙ append_assoc causes (set_cause g given told p e ∷ []) (set_causes g given told rest others)
          ∙ sym (ap (λ ps. causes ++ set_causes g given told ps right) sets
          ∙ ap (λ es. causes ++ set_causes g given told (p ∷ rest) es) cut)
          ∙ are.whole;
      gives =
          ap (sets_give g given told rest others) (gave ∙ ap (λ c. with_set g.query p e c found) is)
          ∙ sym (ap (λ ps. sets_give g given told ps right found) sets
          ∙ ap (λ es. sets_give g given told (p ∷ rest) es found) cut)
          ∙ are.gives;
    }

-- ---- steps

-- the causes of the first steps and those of the others are those of all
pub record AreCauses (j : Judge) (limits : Limits) (steps : List AskedValue) (n : ℕ) (given : List Given)
    (causes : List (List (Option ProofErrorKindValue))) : Type 0 where
  pub whole : causes ++ causes_from j limits given (take n steps) (drop n steps) ≡ causes_from j limits [] [] steps

module _ (j : Judge) (limits : Limits) (steps : List AskedValue) where
  pub steps_first : (given : List Given)
      (causes : List (List (Option ProofErrorKindValue))) → given ≡ [] → causes ≡ []
      → AreCauses j limits steps 0 given causes
  steps_first given causes start none = record {
    whole =
        ap (λ xs. xs ++ causes_from j limits given [] steps) none ∙ ap (λ xs. causes_from j limits xs [] steps) start;
  }

  pub steps_next : (n : ℕ) (given : List Given)
      (causes : List (List (Option ProofErrorKindValue))) (step : AskedValue) (g : StepContext)
      (found : List (Option ProofErrorKindValue)) (gives : Given)
      → AreCauses j limits steps n given causes → n < length steps → step ≡ get_or steps n step
      → g ≡ step_context_of j limits [] (take n steps) step
      → found ≡ step_causes g given step → gives ≡ step_gives g given step
      → AreCauses j limits steps (n + 1) (given ++ gives ∷ []) (causes ++ found ∷ [])
  unfolding causes_from
  steps_next n given causes step g found gives so_far lt is own its gave =
      let h = step_context_of j limits [] (take n steps) step in
      let left = drop (n + 1) steps in
      let first : found ≡ step_causes h given step = its ∙ ap (λ x. step_causes x given step) own in
      let next : gives ≡ step_gives h given step = gave ∙ ap (λ x. step_gives x given step) own in
      let front : take (n + 1) steps ≡ take n steps ++ step ∷ [] =
      take_more steps n step lt ∙ ap (λ x. take n steps ++ x ∷ []) (sym is) in
      let cut : drop n steps ≡ step ∷ left = drop_more steps n step lt ∙ ap (λ x. x ∷ left) (sym is) in
      let go = λ (to : List Given) (from : List AskedValue). causes_from j limits to from left in
      record {
        whole =
            append_assoc causes (found ∷ []) (go (given ++ gives ∷ []) (take (n + 1) steps))
            ∙ ap (λ x. causes ++ (x ∷ go (given ++ gives ∷ []) (take (n + 1) steps))) first
            ∙ ap (λ x. causes ++ (step_causes h given step ∷ go (given ++ x ∷ []) (take (n + 1) steps))) next
            ∙ ap (λ xs. causes ++ (step_causes h given step ∷ go (given ++ step_gives h given step ∷ []) xs)) front
            ∙ sym (ap (λ xs. causes ++ causes_from j limits given (take n steps) xs) cut)
            ∙ so_far.whole;
      }

  -- the lists that were pushed to
  module _ (n : ℕ) where
    pub steps_pushed : (given by more : List Given)
        (causes others : List (List (Option ProofErrorKindValue))) (step : AskedValue) (g : StepContext)
        (found : List (Option ProofErrorKindValue)) (gives : Given)
        → AreCauses j limits steps n given causes → n < length steps → step ≡ get_or steps n step
        → g ≡ step_context_of j limits [] (take n steps) step → by ≡ given
        → found ≡ step_causes g by step → gives ≡ step_gives g by step
        → more ≡ given ++ gives ∷ [] → others ≡ causes ++ found ∷ []
        → AreCauses j limits steps (n + 1) more others
    steps_pushed given by more causes others step g found gives so_far lt is own same its gave grown pushed =
        subst (λ xs. AreCauses j limits steps (n + 1) xs others) (sym grown)
        (subst (AreCauses j limits steps (n + 1) (given ++ gives ∷ [])) (sym pushed)
        (steps_next n given causes step g found gives so_far lt is own
        (its ∙ ap (λ xs. step_causes g xs step) same) (gave ∙ ap (λ xs. step_gives g xs step) same)))

  pub steps_all : (n : ℕ) (given : List Given)
      (causes : List (List (Option ProofErrorKindValue)))
      → AreCauses j limits steps n given causes → length steps ≤ n → causes ≡ causes_from j limits [] [] steps
  unfolding causes_from
  steps_all n given causes so_far past =
      sym (append-nil causes)
      ∙ sym (ap (λ xs. causes ++ causes_from j limits given (take n steps) xs) (drop_all n steps past)) ∙ so_far.whole
