-- Positions in an order of their records: as it is searched.
use Rattle.std.proofs.Common.{◌≡◌, ℕ, ◌+◌, ◌<◌, ◌≤◌, Bool, true, false, List, length, get_or, refl, ap, ◌∙◌, ⊎_elim, arith}
use Rattle.std.specs.List.{AllPairs}
use Rattle.std.specs.Ordering.{is_eq, is_lt}
use Rattle.std.specs.declared.cmp.Ordering.{Ordering}
use Rattle.std.specs.declared.cmp.Ordering.TheVariants.{Less, Equal, Greater}
use Rattle.std.proofs.lemmas.Bool.{both_ways, cases_lt, false_from_ne_true}
use Rattle.std.proofs.lemmas.List.{get_or_default}
use Rattle.dns_model.proofs.NamesInOrder.{lt_from}
use Rattle.dns_aggressive.specs.Records.{KeptValue}
use Rattle.dns_aggressive.specs.Places.{record_cmp}
use Rattle.dns_aggressive.specs.Orders.{at, nth_of, AreRising, IsFront, IsParted}
use Rattle.dns_aggressive.proofs.Places.{record_total}

pub equal_from : (o : Ordering) → is_eq o ≡ true → o ≡ Equal
equal_from Less h = cc
equal_from Equal h = refl
equal_from Greater h = cc

pub greater_from : (o : Ordering) → is_lt o ≡ false → is_eq o ≡ false → o ≡ Greater
greater_from Less h k = cc
greater_from Equal h k = cc
greater_from Greater h k = refl

-- ---- pairs, as std says it

pub pairs_from : (cmp : KeptValue → KeptValue → Ordering) (kept : List KeptValue) (order : List ℕ)
    → AreRising cmp kept order → AllPairs (λ one two. cmp (at kept one) (at kept two) ≡ Less) order
pairs_from cmp kept order h i j d lt within =
    ap (λ (n : ℕ). cmp (at kept n) (at kept (get_or order j d))) (get_or_default order i d 0 (omega (
      arith,
      lt,
      within,
    )))
    ∙ ap (λ (n : ℕ). cmp (nth_of kept order i) (at kept n)) (get_or_default order j d 0 within)
    ∙ h.each i j lt within

-- ---- what stands in front

-- a test that each record passes which comes before one that does
pub front_if : (passes : KeptValue → Bool) (cmp : KeptValue → KeptValue → Ordering) (kept : List KeptValue)
    (order : List ℕ)
    → ((one two : KeptValue) → cmp one two ≡ Less → passes two ≡ true → passes one ≡ true)
    → AreRising cmp kept order → IsFront passes kept order
front_if passes cmp kept order falls h = record {
  each = λ i j le within pass.
      ⊎_elim (λ (lt : i < j). falls (nth_of kept order i) (nth_of kept order j) (h.each i j lt within) pass)
      (λ (ge : j ≤ i).
      let same : i ≡ j = omega (arith, le, ge) in
      ap (λ (n : ℕ). passes (nth_of kept order n)) same ∙ pass)
      (cases_lt i j);
}

pub front_of_place : (kept : List KeptValue) (order : List ℕ) (x : KeptValue) → AreRising record_cmp kept order
    → IsFront (λ k. is_lt (record_cmp k x)) kept order
front_of_place kept order x h =
    front_if (λ k. is_lt (record_cmp k x)) record_cmp kept order
    (λ one two less pass.
    ap is_lt (record_total.trans one two x less (lt_from (record_cmp two x) pass))) h

-- ---- a search

pub parted_first : (passes : KeptValue → Bool) (kept : List KeptValue) (order : List ℕ)
    → IsParted passes kept order 0 (length order)
parted_first passes kept order = record {
  order_ = omega arith;
  within = omega arith;
  front = λ k lt. absurd (omega (arith, lt));
  back = λ k le lt. absurd (omega (arith, le, lt));
}

pub parted_low : (passes : KeptValue → Bool) (kept : List KeptValue) (order : List ℕ) (low high middle : ℕ)
    → IsFront passes kept order → IsParted passes kept order low high → middle < high
    → passes (nth_of kept order middle) ≡ true → IsParted passes kept order (middle + 1) high
parted_low passes kept order low high middle front is lt pass = record {
  order_ = omega (arith, lt);
  within = is.within;
  front = λ k below. let within = is.within in
      front.each k middle (omega (arith, below)) (omega (arith, lt, within)) pass;
  back = is.back;
}

pub parted_high : (passes : KeptValue → Bool) (kept : List KeptValue) (order : List ℕ) (low high middle : ℕ)
    → IsFront passes kept order → IsParted passes kept order low high → low ≤ middle → middle < high
    → passes (nth_of kept order middle) ≡ false → IsParted passes kept order low middle
parted_high passes kept order low high middle front is le lt fails = record {
  order_ = le;
  within = let within = is.within in omega (arith, lt, within);
  front = is.front;
  back = λ k from within. false_from_ne_true (passes (nth_of kept order k))
      (λ pass. both_ways (passes (nth_of kept order middle)) fails (front.each middle k from within pass));
}

pub parted_end : (passes : KeptValue → Bool) (kept : List KeptValue) (order : List ℕ) (low high : ℕ)
    → IsParted passes kept order low high → high ≤ low → IsParted passes kept order low low
parted_end passes kept order low high is end = record {
  order_ = omega arith;
  within = let a = is.order_ in let b = is.within in omega (arith, a, b);
  front = is.front;
  back = λ k from within. is.back k (omega (arith, end, from)) within;
}
