-- A part of a run: what asks, one after another, add to the trail, and the sends that they took.
use Rattle.std.proofs.Common.{ℕ, ◌+◌, ◌≡◌, ◌≤◌, ◌<◌, true, List, [], ◌∷◌, ◌++◌, length, Some, sym, subst}
use Rattle.dns_model.specs.declared.trail.AskRef.{AskRef}
use Rattle.dns_model.specs.declared.trail.AskRef.TheVariants.{Step, TooDeep, TooMany}
use Rattle.dns_model.specs.Trails.{AskedValue}
use Rattle.dns_rules.specs.Asking.{most_sends}
use Rattle.dns_rules.specs.CacheEntries.{EntryValue}
use Rattle.dns_rules.specs.Derivation.{step_holds, asks_of}
use Rattle.dns_rules.specs.DerivationParts.{steps_at}
use Rattle.dns_rules.specs.Parts.{TrailPart}
use Rattle.dns_rules.proofs.PartLemmas.{part_none, part_deep, part_many, part_then, part_step}
use Rattle.dns_rules.proofs.SentLemmas.{sent_of_none, sent_of_deep, sent_of_many, sent_of_then, sent_of_step}
use Rattle.dns_validation.specs.Machine.{Terms, limits_of}
use Rattle.dns_validation.specs.Runs.{Sent}
use Rattle.dns_validation.specs.Comes.{IsStepOf, StepsOf}

-- asks lead a trail from `before` to `after`, from n sends on to m, by these sends
pub record Part (t : Terms) (cached : List EntryValue) (before after : List AskedValue) (asks : List AskRef) (n m : ℕ)
    (sends : List Sent) : Type 0 where
  pub part : TrailPart t.judge (limits_of t) cached before after asks n m
  pub along : StepsOf t (steps_at after (Some part.order)) sends

steps_append : (t : Terms) (xs ys : List AskedValue) (first second : List Sent) → StepsOf t xs first
    → StepsOf t ys second
    → StepsOf t (xs ++ ys) (first ++ second)
steps_append t [] ys [] second h k = k
steps_append t [] ys (s ∷ first) second h k = absurd h
steps_append t (x ∷ xs) ys [] second h k = absurd h
steps_append t (x ∷ xs) ys (s ∷ first) second h k = (h.0, steps_append t xs ys first second h.1 k)

pub none_more : (t : Terms) (cached : List EntryValue) (b : List AskedValue) (n : ℕ) → Part t cached b b [] n n []
none_more t cached b n = record {
  part = part_none t.judge (limits_of t) cached b n;
  along = subst (λ steps. StepsOf t steps []) (sym (sent_of_none t.judge (limits_of t) cached b n)) tt;
}

pub too_deep : (t : Terms) (cached : List EntryValue) (b : List AskedValue) (n : ℕ)
    → Part t cached b b (TooDeep ∷ []) n n []
too_deep t cached b n = record {
  part = part_deep t.judge (limits_of t) cached b n;
  along = subst (λ steps. StepsOf t steps []) (sym (sent_of_deep t.judge (limits_of t) cached b n)) tt;
}

pub too_many : (t : Terms) (cached : List EntryValue) (b : List AskedValue) (n : ℕ) → most_sends ≤ n
    → Part t cached b b (TooMany ∷ []) n n []
too_many t cached b n many = record {
  part = part_many t.judge (limits_of t) cached b n many;
  along = subst (λ steps. StepsOf t steps []) (sym (sent_of_many t.judge (limits_of t) cached b n many)) tt;
}

module _ (t : Terms) (cached : List EntryValue) (a b c : List AskedValue) (xs ys : List AskRef) (n k m : ℕ) where
  -- asks, and then others
  pub then_more : (first second : List Sent)
      → Part t cached a b xs n k first → Part t cached b c ys k m second
      → Part t cached a c (xs ++ ys) n m (first ++ second)
  then_more first second p q = record {
    part = part_then t.judge (limits_of t) cached a b c xs ys n k m p.part q.part;
    along = subst (λ steps. StepsOf t steps (first ++ second))
        (sym (sent_of_then t.judge (limits_of t) cached a b c xs ys n k m p.part q.part))
        (steps_append t _ _ first second p.along q.along);
  }

-- a step with what it asks
pub step_more : (t : Terms) (cached : List EntryValue) (a b : List AskedValue) (step : AskedValue) (n m : ℕ)
    (sent : Sent) (sends : List Sent) → IsStepOf t step sent
    → Part t cached a b (asks_of step) (n + 1) m sends → n < most_sends
    → step_holds t.judge (limits_of t) cached b step ≡ true
    → Part t cached a (b ++ step ∷ []) (Step (length b) ∷ []) n m (sent ∷ sends)
step_more t cached a b step n m sent sends of p few holds = record {
  part = part_step t.judge (limits_of t) cached a b step n m p.part few holds;
  along = subst (λ steps. StepsOf t steps (sent ∷ sends))
      (sym (sent_of_step t.judge (limits_of t) cached a b step n m p.part few holds)) (of, p.along);
}
