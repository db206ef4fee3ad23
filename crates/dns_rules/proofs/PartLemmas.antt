-- Parts of a walk: nothing asked, one part after another, and a step with what it asks.
use Rattle.std.proofs.Common.{◌≡◌, ℕ, zero, suc, ◌+◌, ◌≤◌, ◌<◌, true, ◌==◌, List, [], ◌∷◌, ◌++◌, length, Option, Some, if◌then◌else◌, append_assoc, append-nil, refl, sym, ap, ◌∙◌, subst, arith, count_by}
use Rattle.std.proofs.lemmas.Bool.{and_from, and_parts}
use Rattle.std.proofs.lemmas.Bool.Decides.{nat_tests}
use Rattle.std.proofs.lemmas.List.{length-append, length_push}
use Rattle.std.proofs.lemmas.List.Sums.{sum_by-append, sum_by-cons}
use Rattle.std.specs.Option.{option_and_then}
use Rattle.dns_model.specs.declared.trail.AskRef.{AskRef}
use Rattle.dns_model.specs.declared.trail.AskRef.TheVariants.{Step, TooDeep, TooMany}
use Rattle.dns_model.specs.Chains.{Judge}
use Rattle.dns_model.specs.Trails.{AskedValue}
use Rattle.dns_model.proofs.Lists.{slice_get_appended}
use Rattle.dns_rules.specs.Asking.{Limits, most_sends}
use Rattle.dns_rules.specs.CacheEntries.{EntryValue}
use Rattle.dns_rules.specs.Derivation.{step_holds, steps_hold, asks_of, order_asks, order_step, end_asks, end_step}
use Rattle.dns_rules.specs.DerivationParts.{and_then_some}
use Rattle.dns_rules.specs.Parts.{once_between, TrailPart}
use Rattle.dns_rules.proofs.EndLemmas.{end_asks-append, end_none, end_deep, end_many, end_one, end_step_at}
use Rattle.dns_rules.proofs.OrderLemmas.{order_asks-append, order_none, order_deep, order_many, order_one, order_step_at}

-- ---- nothing is asked

pub between_none : (a i : ℕ) → 0 ≡ once_between a a i
between_none a i = grind (arith, nat_tests)

part_still : (j : Judge) (limits : Limits) (cached : List EntryValue) (b : List AskedValue) (asks : List AskRef) (n : ℕ)
    → ((visit : ℕ → List ℕ → Option (List ℕ)) (k : ℕ) (met : List ℕ) → length met ≡ n → order_asks visit k asks met ≡ Some met)
    → ((visit : ℕ → ℕ → Option ℕ) (ended : ℕ) → end_asks visit asks ended ≡ Some ended)
    → TrailPart j limits cached b b asks n n
unfolding steps_hold
part_still j limits cached b asks n still ends = record {
  more = [];
  grown = sym (append-nil b);
  hold = refl;
  order = [];
  met = λ later above k met long up_to before. still (order_step above (b ++ later)) k met long ∙ ap Some (sym (append-nil met));
  ends = λ later above up_to. ends (end_step above (b ++ later)) (length b);
  once = λ i. between_none (length b) i;
  counted = omega arith;
  alike = refl;
}

pub part_none : (j : Judge) (limits : Limits) (cached : List EntryValue) (b : List AskedValue) (n : ℕ)
    → TrailPart j limits cached b b [] n n
part_none j limits cached b n = part_still j limits cached b [] n (λ visit k met long. order_none visit k met) end_none

-- an ask that would be too deep
pub part_deep : (j : Judge) (limits : Limits) (cached : List EntryValue) (b : List AskedValue) (n : ℕ)
    → TrailPart j limits cached b b (TooDeep ∷ []) n n
part_deep j limits cached b n =
    part_still j limits cached b (TooDeep ∷ []) n (λ visit k met long. order_deep visit k met) end_deep

-- an ask that would be one too many
pub part_many : (j : Judge) (limits : Limits) (cached : List EntryValue) (b : List AskedValue) (n : ℕ)
    → most_sends ≤ n → TrailPart j limits cached b b (TooMany ∷ []) n n
part_many j limits cached b n many =
    part_still j limits cached b (TooMany ∷ []) n (λ visit k met long. order_many visit k met (omega arith)) end_many

-- ---- one part after another

pub steps_hold-append : (j : Judge) (limits : Limits) (cached : List EntryValue) (earlier xs ys : List AskedValue)
    → steps_hold j limits cached earlier xs ≡ true
    → steps_hold j limits cached (earlier ++ xs) ys ≡ true → steps_hold j limits cached earlier (xs ++ ys) ≡ true
unfolding steps_hold
steps_hold-append j limits cached earlier [] ys h k = rw append-nil at k
steps_hold-append j limits cached earlier (x ∷ xs) ys h k =
    let parts = and_parts (step_holds j limits cached earlier x) (steps_hold j limits cached (earlier ++ x ∷ []) xs) h in
    let rest : steps_hold j limits cached ((earlier ++ x ∷ []) ++ xs) ys ≡ true = rw append_assoc k in
    and_from (step_holds j limits cached earlier x) (steps_hold j limits cached (earlier ++ x ∷ []) (xs ++ ys)) parts.0
    (steps_hold-append j limits cached (earlier ++ x ∷ []) xs ys parts.1 rest)

pub between_then : (a b c i : ℕ) → a ≤ b → b ≤ c → once_between a b i + once_between b c i ≡ once_between a c i
between_then a b c i first second = grind (arith, nat_tests)

then_met : (visit : ℕ → List ℕ → Option (List ℕ)) (n : ℕ) (xs ys : List AskRef) (met first second : List ℕ)
    → order_asks visit n xs met ≡ Some (met ++ first) → order_asks visit n ys (met ++ first) ≡ Some ((met ++ first) ++ second)
    → order_asks visit n (xs ++ ys) met ≡ Some (met ++ (first ++ second))
then_met visit n xs ys met first second h k =
    order_asks-append visit n xs ys met ∙ ap (λ o. and_then_some o (order_asks visit n ys)) h ∙ k ∙ ap Some (append_assoc met first second)

-- a part gives no fewer steps than there were
pub part_grows : (j : Judge) (limits : Limits) (cached : List EntryValue) (before after : List AskedValue)
    (asks : List AskRef) (n m : ℕ) (p : TrailPart j limits cached before after asks n m)
    → length after ≡ length before + length p.order
part_grows j limits cached before after asks n m p =
    ap length p.grown ∙ length-append before p.more ∙ ap (λ k. length before + k) (sym p.alike)

pub part_then : (j : Judge) (limits : Limits) (cached : List EntryValue) (a b c : List AskedValue)
    (xs ys : List AskRef) (n k m : ℕ)
    → TrailPart j limits cached a b xs n k → TrailPart j limits cached b c ys k m
    → TrailPart j limits cached a c (xs ++ ys) n m
part_then j limits cached a b c xs ys n k m first second =
    let longer = part_grows j limits cached a b xs n k first in
    let longer_still = part_grows j limits cached b c ys k m second in
    record {
      more = first.more ++ second.more;
      grown = second.grown ∙ ap (λ t. t ++ second.more) first.grown ∙ append_assoc a first.more second.more;
      hold = steps_hold-append j limits cached a first.more second.more first.hold
          (subst (λ t. steps_hold j limits cached t second.more ≡ true) first.grown second.hold);
      order = first.order ++ second.order;
      met = λ later above n' met long up_to before.
          let same : c ++ later ≡ b ++ (second.more ++ later) = ap (λ t. t ++ later) second.grown ∙ append_assoc b second.more later in
          let one : order_asks (order_step above (c ++ later)) n' xs met ≡ Some (met ++ first.order) =
          subst (λ t. order_asks (order_step above t) n' xs met ≡ Some (met ++ first.order)) (sym same)
          (first.met (second.more ++ later) above n' met long (omega arith) (omega arith)) in
          let two = second.met later above n' (met ++ first.order) (length-append met first.order
          ∙ omega (arith, first.counted)) up_to before in
          then_met (order_step above (c ++ later)) n' xs ys met first.order second.order one two;
      ends = λ later above up_to.
          let same : c ++ later ≡ b ++ (second.more ++ later) = ap (λ t. t ++ later) second.grown ∙ append_assoc b second.more later in
          let one : end_asks (end_step above (c ++ later)) xs (length a) ≡ Some (length b) =
          subst (λ t. end_asks (end_step above t) xs (length a) ≡ Some (length b)) (sym same)
          (first.ends (second.more ++ later) above (omega arith)) in
          end_asks-append (end_step above (c ++ later)) xs ys (length a)
          ∙ ap (λ o. option_and_then (end_asks (end_step above (c ++ later)) ys) o) one ∙ second.ends later above up_to;
      once = λ i.
          sum_by-append (λ x. if i == x then 1 else 0) first.order second.order
          ∙ ap (λ t. t + count_by (λ x. i == x) second.order) (first.once i)
          ∙ ap (λ t. once_between (length a) (length b) i + t) (second.once i)
          ∙ between_then (length a) (length b) (length c) i (omega arith) (omega arith);
      counted = omega (arith, first.counted, second.counted, length-append first.order second.order);
      alike = omega (arith, first.alike, second.alike, length-append first.order second.order, length-append first.more second.more);
    }

-- ---- a step with what it asks

pub between_one : (a b i : ℕ) → a ≤ b → (if i == b then 1 else 0) + once_between a b i ≡ once_between a (b + 1) i
between_one a b i first = grind (arith, nat_tests)

pub steps_hold_more : (j : Judge) (limits : Limits) (cached : List EntryValue) (earlier xs : List AskedValue)
    (step : AskedValue) → steps_hold j limits cached earlier xs ≡ true
    → step_holds j limits cached (earlier ++ xs) step ≡ true
    → steps_hold j limits cached earlier (xs ++ step ∷ []) ≡ true
unfolding steps_hold
steps_hold_more j limits cached earlier xs step h k =
    steps_hold-append j limits cached earlier xs (step ∷ []) h (and_from (step_holds j limits cached (earlier ++ xs) step) true k refl)

-- the step at the end of some steps is met, and what it asks after it
pub step_met : (j : Judge) (limits : Limits) (cached : List EntryValue) (a b : List AskedValue) (step : AskedValue)
    (n m : ℕ) (p : TrailPart j limits cached a b (asks_of step) (n + 1) m)
    → (later : List AskedValue) (above : ℕ) (met : List ℕ) → length met ≡ n → length b ≤ above
    → order_step (suc above) (b ++ step ∷ later) (length b) met ≡ Some (met ++ length b ∷ p.order)
step_met j limits cached a b step n m p later above met long up_to =
    order_step_at above (b ++ step ∷ later) (length b) met step (slice_get_appended b step later)
    ∙ p.met (step ∷ later) above (length b) (met ++ length b ∷ []) (length_push met (length b) ∙ ap (λ k. k + 1) long) up_to (omega arith)
    ∙ ap Some (append_assoc met (length b ∷ []) p.order)

step_met_in : (j : Judge) (limits : Limits) (cached : List EntryValue) (a b : List AskedValue) (step : AskedValue)
    (n m : ℕ) (p : TrailPart j limits cached a b (asks_of step) (n + 1) m)
    → (later : List AskedValue) (above k : ℕ) (met : List ℕ) → n < most_sends → length met ≡ n → length b < above → length b < k
    → order_asks (order_step above (b ++ step ∷ later)) k (Step (length b) ∷ []) met ≡ Some (met ++ length b ∷ p.order)
step_met_in j limits cached a b step n m p later zero k met few long up_to before = absurd (omega arith)
step_met_in j limits cached a b step n m p later (suc above) k met few long up_to before =
    order_one (order_step (suc above) (b ++ step ∷ later)) k (length b) met (met ++ length b ∷ p.order) before (omega arith)
    (step_met j limits cached a b step n m p later above met long (omega arith))

step_ends_in : (j : Judge) (limits : Limits) (cached : List EntryValue) (a b : List AskedValue) (step : AskedValue)
    (n m : ℕ) (p : TrailPart j limits cached a b (asks_of step) (n + 1) m)
    → (later : List AskedValue) (above : ℕ) → length b < above
    → end_asks (end_step above (b ++ step ∷ later)) (Step (length b) ∷ []) (length a) ≡ Some (length b + 1)
step_ends_in j limits cached a b step n m p later zero up_to = absurd (omega arith)
step_ends_in j limits cached a b step n m p later (suc above) up_to =
    end_one (end_step (suc above) (b ++ step ∷ later)) (length b) (length a) (length b + 1)
    (end_step_at above b later step (length a) (p.ends (step ∷ later) above (omega arith)))

pub part_step : (j : Judge) (limits : Limits) (cached : List EntryValue) (a b : List AskedValue) (step : AskedValue)
    (n m : ℕ) → TrailPart j limits cached a b (asks_of step) (n + 1) m
    → n < most_sends → step_holds j limits cached b step ≡ true
    → TrailPart j limits cached a (b ++ step ∷ []) (Step (length b) ∷ []) n m
part_step j limits cached a b step n m p few holds =
    let longer = part_grows j limits cached a b (asks_of step) (n + 1) m p in
    record {
      more = p.more ++ step ∷ [];
      grown = ap (λ t. t ++ step ∷ []) p.grown ∙ append_assoc a p.more (step ∷ []);
      hold = steps_hold_more j limits cached a p.more step p.hold (subst (λ t. step_holds j limits cached t step ≡ true) p.grown holds);
      order = length b ∷ p.order;
      met = λ later above k met long up_to before.
          let one : length (b ++ step ∷ []) ≡ length b + 1 = length_push b step in
          subst (λ t. order_asks (order_step above t) k (Step (length b) ∷ []) met ≡ Some (met ++ length b ∷ p.order))
          (sym (append_assoc b (step ∷ []) later))
          (step_met_in j limits cached a b step n m p later above k met few long (omega arith) (omega arith));
      ends = λ later above up_to.
          let one : length (b ++ step ∷ []) ≡ length b + 1 = length_push b step in
          subst (λ t. end_asks (end_step above t) (Step (length b) ∷ []) (length a) ≡ Some (length (b ++ step ∷ [])))
          (sym (append_assoc b (step ∷ []) later))
          (step_ends_in j limits cached a b step n m p later above (omega arith) ∙ ap Some (sym one));
      once = λ i.
          sum_by-cons (λ x. if i == x then 1 else 0) (length b) p.order ∙ ap (λ t. (if i == length b then 1 else 0) + t) (p.once i)
          ∙ between_one (length a) (length b) i (omega arith) ∙ ap (λ t. once_between (length a) t i) (sym (length_push b step));
      counted = omega (arith, p.counted);
      alike = omega (arith, p.alike, length_push p.more step);
    }

-- ---- the orders of these

pub order_of_none : (j : Judge) (limits : Limits) (cached : List EntryValue) (b : List AskedValue) (n : ℕ)
    → (part_none j limits cached b n).order ≡ []
unfolding part_none part_still
order_of_none j limits cached b n = refl

pub order_of_deep : (j : Judge) (limits : Limits) (cached : List EntryValue) (b : List AskedValue) (n : ℕ)
    → (part_deep j limits cached b n).order ≡ []
unfolding part_deep part_still
order_of_deep j limits cached b n = refl

pub order_of_many : (j : Judge) (limits : Limits) (cached : List EntryValue) (b : List AskedValue) (n : ℕ)
    (many : most_sends ≤ n) → (part_many j limits cached b n many).order ≡ []
unfolding part_many part_still
order_of_many j limits cached b n many = refl

pub order_of_then : (j : Judge) (limits : Limits) (cached : List EntryValue) (a b c : List AskedValue)
    (xs ys : List AskRef) (n k m : ℕ)
    (first : TrailPart j limits cached a b xs n k) (second : TrailPart j limits cached b c ys k m)
    → (part_then j limits cached a b c xs ys n k m first second).order ≡ first.order ++ second.order
unfolding part_then
order_of_then j limits cached a b c xs ys n k m first second = refl

pub order_of_step : (j : Judge) (limits : Limits) (cached : List EntryValue) (a b : List AskedValue)
    (step : AskedValue) (n m : ℕ) (p : TrailPart j limits cached a b (asks_of step) (n + 1) m)
    (few : n < most_sends) (holds : step_holds j limits cached b step ≡ true)
    → (part_step j limits cached a b step n m p few holds).order ≡ length b ∷ p.order
unfolding part_step
order_of_step j limits cached a b step n m p few holds = refl
