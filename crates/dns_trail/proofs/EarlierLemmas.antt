-- What the earlier steps came to, by their numbers.
use Rattle.std.proofs.Common.{◌≡◌, ℕ, Bool, List, [], ◌∷◌, map, Option, None, Some, slice_get, ◌||◌, refl, sym, ap, ◌∙◌}
use Rattle.std.specs.Option.{option_map}
use Rattle.std.specs.List.{list_any}
use Rattle.std.proofs.lemmas.Option.{slice_get-map}
use Rattle.dns_model.specs.declared.trail.AskRef.TheVariants.{Step}
use Rattle.dns_model.specs.Trails.{AskedValue}
use Rattle.dns_rules.specs.ChainedSets.{ChainedSet, bare}
use Rattle.dns_rules.specs.Derivation.{finished_answer, judged_sets}
use Rattle.dns_rules.specs.DerivationParts.{answer_of}
use Rattle.dns_rules.specs.MarkedSets.{MarkedSet}
use Rattle.dns_trail.specs.Ended.{EndedValue, ended_of}

-- the step with a number, by what it came to
pub step_at : (steps : List AskedValue) (ended : List EndedValue) (n : ℕ) → ended ≡ map ended_of steps
    → slice_get ended n ≡ option_map ended_of (slice_get steps n)
step_at steps ended n known = ap (λ xs. slice_get xs n) known ∙ slice_get-map ended_of steps n

answer_by : (o : Option AskedValue) (e : EndedValue) → Some e ≡ option_map ended_of o → e.answer ≡ answer_of o
answer_by None e h = cc
answer_by (Some step) e h = cc

none_by : (o : Option AskedValue) → None ≡ option_map ended_of o → answer_of o ≡ None
none_by None h = refl
none_by (Some step) h = cc

-- the answer that an ask got
pub answered_at : (steps : List AskedValue) (ended : List EndedValue) (n : ℕ) (e : EndedValue)
    → ended ≡ map ended_of steps
    → slice_get ended n ≡ Some e → e.answer ≡ finished_answer steps (Step n)
answered_at steps ended n e known there = answer_by (slice_get steps n) e (sym there ∙ step_at steps ended n known)

pub unanswered_at : (steps : List AskedValue) (ended : List EndedValue) (n : ℕ) → ended ≡ map ended_of steps
    → slice_get ended n ≡ None → finished_answer steps (Step n) ≡ None
unanswered_at steps ended n known there = none_by (slice_get steps n) (sym there ∙ step_at steps ended n known)

sets_by : (o : Option AskedValue) (step : AskedValue) (e : EndedValue) → o ≡ Some step → Some e ≡ option_map ended_of o
    → e.sets ≡ judged_sets step
sets_by None step e there h = cc
sets_by (Some s) step e there h = cc

-- what a step found of a set, by its judged sets
pub repeats_at : (steps : List AskedValue) (ended : List EndedValue) (n : ℕ) (step : AskedValue) (e : EndedValue)
    → ended ≡ map ended_of steps → slice_get steps n ≡ Some step → slice_get ended n ≡ Some e
    → e.sets ≡ judged_sets step
repeats_at steps ended n step e known there came =
    sets_by (slice_get steps n) step e there (sym came ∙ step_at steps ended n known)

no_step : (o : Option AskedValue) → None ≡ option_map ended_of o → o ≡ None
no_step None h = refl
no_step (Some step) h = cc

pub nothing_at : (steps : List AskedValue) (ended : List EndedValue) (n : ℕ) → ended ≡ map ended_of steps
    → slice_get ended n ≡ None → slice_get steps n ≡ None
nothing_at steps ended n known there = no_step (slice_get steps n) (sym there ∙ step_at steps ended n known)

-- a test of judged sets, with their chains or without
pub any_bare : (p : MarkedSet → Bool) (cs : List ChainedSet) → list_any (λ c. p c.judged) cs ≡ list_any p (bare cs)
any_bare p [] = refl
any_bare p (c ∷ cs) = ap (λ b. p c.judged || b) (any_bare p cs)
