-- The order of a trail by the walk that counts; and a derivation is a trail in order whose steps follow.
use Rattle.std.proofs.Common.{◌≡◌, ℕ, ◌-◌, ◌≤◌, ◌<◌, Bool, true, false, ◌==◌, ◌&&◌, List, [], length, Option, None, Some, nat_eq, nat_le, refl, sym, ap, ◌∙◌, subst, arith}
use Rattle.std.specs.Option.{option_eq}
use Rattle.std.proofs.lemmas.Bool.{and_from, le-leb, and_right}
use Rattle.std.proofs.lemmas.Bool.Decides.{nat_tests}
use Rattle.dns_model.specs.Chains.{Judge}
use Rattle.dns_model.specs.Trails.{AskedValue}
use Rattle.dns_rules.specs.Asking.{Limits, most_sends, effective}
use Rattle.dns_rules.specs.CacheEntries.{EntryValue}
use Rattle.dns_rules.specs.Derivation.{steps_hold, send_order, end_step, top_step, has_order, derivation}
use Rattle.dns_rules.specs.DerivationParts.{is_top, is_each_once, is_each_met_once}
use Rattle.dns_rules.specs.Parts.{once_between}
use Rattle.dns_rules.proofs.SentLemmas.{times}
use Rattle.dns_rules.proofs.DerivationLemmas.{all_in_range, one_is_one}
use Rattle.dns_trail.specs.Counting.{count_step, none_yet, ends_with}
use Rattle.dns_trail.proofs.CountLemmas.{both, step_counted}
use Rattle.dns_trail.proofs.OnceLemmas.{Once, step_once}

-- ---- each once

within_once : (n k : ℕ) → k < n → once_between 0 n k ≡ 1
within_once n k within = grind (arith, nat_tests)

each_once : (n : ℕ) (order : List ℕ) → Once [] order 0 n → is_each_once n order ≡ true
each_once n order once =
    all_in_range (λ k. times k order == 1) 0 n
    (λ k from upto. one_is_one (times k order) (ap (times k) once.grown ∙ once.once k ∙ within_once n k (omega arith)))

-- ---- by the counts

same_count : (n k : ℕ) (order : List ℕ) (test : Bool) → (k == n) ≡ test → Once [] order 0 k
    → (is_each_once n order && nat_eq k n) ≡ (k == n)
same_count n k order true is once =
    let here : k ≡ n = grind (arith, nat_tests) in
    and_from (is_each_once n order) (nat_eq k n) (each_once n order (subst (Once [] order 0) here once)) is ∙ sym is
same_count n k order false is once =
    ap (λ b. is_each_once n order && b) is ∙ and_right (is_each_once n order) false refl ∙ sym is

by_counts : (n : ℕ) (o : Option (List ℕ)) (p : Option ℕ)
    → ((order : List ℕ) (k : ℕ) → o ≡ Some order → p ≡ Some k → Once [] order 0 k)
    → (is_each_met_once n o && option_eq nat_eq p (Some n)) ≡ ends_with n (both o p)
by_counts n None p once = refl
by_counts n (Some order) None once = and_right (is_each_once n order) false refl
by_counts n (Some order) (Some k) once = same_count n k order (k == n) refl (once order k refl refl)

walk_counted : (trail : List AskedValue)
    → (is_each_met_once (length trail) (send_order trail)
    && option_eq nat_eq (end_step (length trail) trail (length trail - 1) 0) (Some (length trail)))
    ≡ ends_with (length trail) (count_step (length trail) trail (length trail - 1) none_yet)
walk_counted trail =
    let n = length trail in
    by_counts n (send_order trail) (end_step n trail (n - 1) 0)
    (λ order k o p. (step_once trail n).visits (n - 1) [] order 0 k o p)
    ∙ sym (ap (ends_with n) ((step_counted trail n).is (n - 1) [] 0))

-- few steps, a top step, and a walk that ends them all
pub order_counted : (trail : List AskedValue)
    → has_order trail
    ≡ (nat_le (length trail) most_sends
    && (is_top (top_step trail) && ends_with (length trail) (count_step (length trail) trail (length trail - 1) none_yet)))
unfolding has_order
order_counted trail = ap (λ b. nat_le (length trail) most_sends && (is_top (top_step trail) && b)) (walk_counted trail)

pub too_many : (trail : List AskedValue) → most_sends < length trail → false ≡ has_order trail
too_many trail many =
    let not_few : nat_le (length trail) most_sends ≡ false = grind (arith, nat_tests) in
    sym (order_counted trail ∙ ap (λ b. b
    && (is_top (top_step trail) && ends_with (length trail) (count_step (length trail) trail (length trail - 1) none_yet))) not_few)

pub by_turns : (trail : List AskedValue) (top : Bool) (turns : Bool) → length trail ≤ most_sends
    → is_top (top_step trail) ≡ top
    → ends_with (length trail) (count_step (length trail) trail (length trail - 1) none_yet) ≡ turns
    → (top && turns) ≡ has_order trail
by_turns trail top turns few is_one in_turn =
    sym (order_counted trail
    ∙ ap (λ b. b && (is_top (top_step trail) && ends_with (length trail) (count_step (length trail) trail (length trail - 1) none_yet)))
    (le-leb (length trail) most_sends few)
    ∙ ap (λ b. b && ends_with (length trail) (count_step (length trail) trail (length trail - 1) none_yet)) is_one
    ∙ ap (λ b. top && b) in_turn)

-- a walk without a step
pub no_step_ends : (trail : List AskedValue) → length trail ≡ 0
    → false ≡ ends_with (length trail) (count_step (length trail) trail (length trail - 1) none_yet)
unfolding count_step
no_step_ends trail none = sym (ap (λ n. ends_with n (count_step n trail (n - 1) none_yet)) none)

-- ---- a derivation

-- a trail is a derivation exactly where it is in order and each step follows
pub derivation_by_order : (j : Judge) (limits : Limits) (cached : List EntryValue) (trail : List AskedValue)
    → derivation j limits cached trail ≡ (has_order trail && steps_hold j (effective limits) cached [] trail)
unfolding derivation
derivation_by_order j limits cached trail = refl
