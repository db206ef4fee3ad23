-- A search halves what is left in each turn, and ends at the place of the key.
use Rattle.std.proofs.Common.{◌≡◌, ℕ, zero, suc, ◌+◌, ◌-◌, ◌*◌, ◌/◌, ◌^◌, ◌<◌, ◌≤◌, Bool, true, false, cond, List, [], ◌∷◌, length, get_or, refl, sym, ap, ◌∙◌, arith, ⊎_elim, Ordering}
use Rattle.std.specs.Cmp.{IsStrictWeakOrder}
use Rattle.std.specs.Cmp.Lexicographic.{slice_cmp}
use Rattle.std.specs.List.{count_by, list_any}
use Rattle.std.specs.List.Sorted.{IsPartitionPoint, IsSorted}
use Rattle.std.specs.Ordering.{nat_cmp, is_lt, is_eq, ordering_reverse}
use Rattle.std.specs.declared.cmp.Ordering.TheVariants.{Less, Equal, Greater}
use Rattle.std.proofs.Math.Nat.{mul_assoc}
use Rattle.std.proofs.lemmas.Bool.{true≢false, false≢true, both_ways, or_from, false_from_ne_true, cases_lt}
use Rattle.std.proofs.lemmas.Cmp.{nat_list_cmp_total}
use Rattle.std.proofs.lemmas.List.{get_or_default}
use Rattle.std.proofs.lemmas.List.Folds.{list_any_at}
use Rattle.std.proofs.lemmas.List.Sorted.{sorted_far, ranks_by}
use Rattle.std.proofs.lemmas.List.Sums.{sum_by-cons}
use Rattle.std.proofs.lemmas.Nat.{pow-add, mul-le}
use Rattle.dns_model.proofs.NamesInOrder.{less_past, lt_from}
use Rattle.dns_denial_index.specs.Places.{key_before, same_key, rank, is_point, place_of, IsSearched, IsHalved, IsTurned}

-- ---- what a sorted list says

key_order : IsStrictWeakOrder key_before
key_order = ranks_by nat_list_cmp_total (λ (k : List ℕ). k)

-- of two points the later doesn't come before the earlier
pub points_in_order : (points : List (List ℕ)) → IsSorted (slice_cmp nat_cmp) points → (i j : ℕ) (d e : List ℕ) → i ≤ j
    → j < length points
    → key_before (get_or points j e) (get_or points i d) ≡ false
points_in_order points sorted i j d e le lt =
    ap (λ p. key_before (get_or points j e) p) (get_or_default points i d e (omega (arith, le, lt)))
    ∙ sorted_far key_before key_order points sorted i j e le lt

-- what is no later than a point before the key comes before it
pub all_before : (points : List (List ℕ)) (key : List ℕ) (middle : ℕ) (d : List ℕ)
    → IsSorted (slice_cmp nat_cmp) points → middle < length points
    → key_before (get_or points middle d) key ≡ true → (k : ℕ) (e : List ℕ) → k ≤ middle
    → key_before (get_or points k e) key ≡ true
all_before points key middle d sorted within before k e le =
    less_past (slice_cmp nat_cmp) nat_list_cmp_total (get_or points middle d) (get_or points k e) key
    (slice_cmp nat_cmp (get_or points middle d) (get_or points k e)) refl
    (points_in_order points sorted k middle e d le within) before

-- what is no earlier than a point that doesn't come before the key doesn't either
pub none_before : (points : List (List ℕ)) (key : List ℕ) (middle : ℕ) (d : List ℕ)
    → IsSorted (slice_cmp nat_cmp) points
    → key_before (get_or points middle d) key ≡ false → (k : ℕ) (e : List ℕ) → middle ≤ k → k < length points
    → key_before (get_or points k e) key ≡ false
none_before points key middle d sorted behind k e le within =
    false_from_ne_true (key_before (get_or points k e) key)
    (λ h. both_ways (key_before (get_or points middle d) key) behind
    (less_past (slice_cmp nat_cmp) nat_list_cmp_total (get_or points k e) (get_or points middle d) key
    (slice_cmp nat_cmp (get_or points k e) (get_or points middle d)) refl
    (points_in_order points sorted middle k d e le within) h))

equal_from : (o : Ordering) → is_eq o ≡ true → o ≡ Equal
equal_from Less h = absurd (false≢true h)
equal_from Equal h = refl
equal_from Greater h = absurd (false≢true h)

-- nor is it the key, where that point comes after it
pub none_met : (points : List (List ℕ)) (key : List ℕ) (middle : ℕ) (d : List ℕ) → IsSorted (slice_cmp nat_cmp) points
    → slice_cmp nat_cmp (get_or points middle d) key ≡ Greater → (k : ℕ) (e : List ℕ) → middle ≤ k → k < length points
    → same_key (get_or points k e) key ≡ false
none_met points key middle d sorted after k e le within =
    let here : List ℕ = get_or points k e in
    let there : List ℕ = get_or points middle d in
    false_from_ne_true (same_key here key) (λ h.
    let same : slice_cmp nat_cmp here key ≡ Equal = equal_from (slice_cmp nat_cmp here key) h in
    let less : slice_cmp nat_cmp key there ≡ Less = nat_list_cmp_total.antisymm key there ∙ ap ordering_reverse after in
    let before : slice_cmp nat_cmp here there ≡ Less = nat_list_cmp_total.congr here key there same ∙ less in
    both_ways (key_before here there) (points_in_order points sorted middle k d e le within) (ap is_lt before))

-- ---- a turn

pub searched_first : (points : List (List ℕ)) (key : List ℕ) → IsSearched points key 0 (length points) false
searched_first points key = record {
  order = omega arith;
  inside = omega arith;
  before = λ k d lt. absurd (omega (arith, lt));
  after = λ k d le lt. absurd (omega (arith, le, lt));
  found = λ h. absurd (false≢true h);
  unmet = λ h k d le lt. absurd (omega (arith, le, lt));
}

pub searched_less : (points : List (List ℕ)) (key : List ℕ) (low high middle : ℕ) (met : Bool) (point : List ℕ)
    → IsSorted (slice_cmp nat_cmp) points
    → IsSearched points key low high met → middle < high → point ≡ get_or points middle point
    → slice_cmp nat_cmp point key ≡ Less
    → IsSearched points key (middle + 1) high met
searched_less points key low high middle met point sorted is lt read before =
    let within : middle < length points = omega (arith, lt, is.inside) in
    let less : key_before (get_or points middle point) key ≡ true = ap (λ p. key_before p key) (sym read)
    ∙ ap is_lt before in
    record {
      order = omega (arith, lt);
      inside = is.inside;
      before = λ k d h. all_before points key middle point sorted within less k d (omega (arith, h));
      after = is.after;
      found = is.found;
      unmet = is.unmet;
    }

pub searched_equal : (points : List (List ℕ)) (key : List ℕ) (low high middle : ℕ) (met : Bool) (point : List ℕ)
    → IsSorted (slice_cmp nat_cmp) points
    → IsSearched points key low high met → low ≤ middle → middle < high → point ≡ get_or points middle point
    → slice_cmp nat_cmp point key ≡ Equal
    → IsSearched points key low middle true
searched_equal points key low high middle met point sorted is le lt read same =
    let within : middle < length points = omega (arith, lt, is.inside) in
    let behind : key_before (get_or points middle point) key ≡ false = ap (λ p. key_before p key) (sym read)
    ∙ ap is_lt same in
    record {
      order = le;
      inside = omega (arith, within);
      before = is.before;
      after = none_before points key middle point sorted behind;
      found = λ h. list_any_at (λ p. same_key p key) points middle point within (ap (λ p. same_key p key) (sym read)
          ∙ ap is_eq same);
      unmet = λ h. absurd (true≢false h);
    }

pub searched_greater : (points : List (List ℕ)) (key : List ℕ) (low high middle : ℕ) (met : Bool) (point : List ℕ)
    → IsSorted (slice_cmp nat_cmp) points
    → IsSearched points key low high met → low ≤ middle → middle < high → point ≡ get_or points middle point
    → slice_cmp nat_cmp point key ≡ Greater
    → IsSearched points key low middle met
searched_greater points key low high middle met point sorted is le lt read after =
    let within : middle < length points = omega (arith, lt, is.inside) in
    let there : slice_cmp nat_cmp (get_or points middle point) key ≡ Greater =
    ap (λ p. slice_cmp nat_cmp p key) (sym read) ∙ after in
    record {
      order = le;
      inside = omega (arith, within);
      before = is.before;
      after = none_before points key middle point sorted (ap is_lt there);
      found = is.found;
      unmet = λ h. none_met points key middle point sorted there;
    }

-- ---- at the end

count_step : {X : Type 0} (test : X → Bool) (x : X) (xs : List X)
    → count_by test (x ∷ xs) ≡ cond (test x) 1 0 + count_by test xs
count_step test x xs = sum_by-cons (λ y. cond (test y) 1 0) x xs

counted : {X : Type 0} (test : X → Bool) (n : ℕ) (xs : List X) → n ≤ length xs
    → ((k : ℕ) (d : X) → k < n → test (get_or xs k d) ≡ true)
    → ((k : ℕ) (d : X) → n ≤ k → k < length xs → test (get_or xs k d) ≡ false) → count_by test xs ≡ n
counted test zero [] le front back = refl
counted test (suc n) [] le front back = absurd (omega (arith, le))
counted test zero (x ∷ xs) le front back =
    let rest : count_by test xs ≡ 0 = counted test zero xs (omega arith) (λ k d lt. absurd (omega (arith, lt)))
    (λ k d low lt. back (suc k) d (omega arith) (omega (arith, lt))) in
    let here : ◌≡◌ {A = ℕ} (cond (test x) 1 0) 0 = ap (λ b. cond b 1 0) (back zero x (omega arith) (omega arith)) in
    omega (arith, count_step test x xs, here, rest)
counted test (suc n) (x ∷ xs) le front back =
    let rest : count_by test xs ≡ n =
    counted test n xs (omega (arith, le)) (λ k d lt. front (suc k) d (omega (arith, lt)))
    (λ k d low lt. back (suc k) d (omega (arith, low)) (omega (arith, lt))) in
    let here : ◌≡◌ {A = ℕ} (cond (test x) 1 0) 1 = ap (λ b. cond b 1 0) (front zero x (omega arith)) in
    omega (arith, count_step test x xs, here, rest)

-- where the points before the key end
pub ranked_at : (points : List (List ℕ)) (key : List ℕ) (low : ℕ) → low ≤ length points
    → IsPartitionPoint (λ p. key_before p key ≡ true) (λ p. key_before p key ≡ false) points low → low ≡ rank points key
unfolding rank
ranked_at points key low le point =
    sym (counted (λ p. key_before p key) low points le (λ k d lt. point.0 k d (omega arith) lt)
    (λ k d from lt. point.1 k d from lt))

none_any : {X : Type 0} (test : X → Bool) (xs : List X)
    → ((k : ℕ) (d : X) → k < length xs → test (get_or xs k d) ≡ false) → list_any test xs ≡ false
none_any test [] none = refl
none_any test (x ∷ xs) none =
    or_from (test x) (list_any test xs) (none zero x (omega arith))
    (none_any test xs (λ k d lt. none (suc k) d (omega (arith, lt))))

behind_is_other : (one two : List ℕ) → key_before one two ≡ true → same_key one two ≡ false
behind_is_other one two h = ap is_eq (lt_from (slice_cmp nat_cmp one two) h)

searched_place : (points : List (List ℕ)) (key : List ℕ) (low high : ℕ) (met : Bool)
    → IsSearched points key low high met → high ≤ low
    → is_point points key ≡ met
searched_place points key low high true is end = is.found refl
searched_place points key low high false is end =
    none_any (λ p. same_key p key) points (λ k d lt.
    ⊎_elim {A = k < low} {B = low ≤ k} {C = same_key (get_or points k d) key ≡ false}
    (λ less. behind_is_other (get_or points k d) key (is.before k d less))
    (λ le. is.unmet refl k d (omega (arith, le, is.order, end)) lt)
    (cases_lt k low))

pub searched : (points : List (List ℕ)) (key : List ℕ) (low high : ℕ) (met : Bool) → IsSearched points key low high met
    → high ≤ low
    → cond met (2 * low + 1) (2 * low) ≡ place_of points key
unfolding rank
searched points key low high met is end =
    let same : low ≡ high = omega (arith, is.order, end) in
    let ranked : count_by (λ p. key_before p key) points ≡ low =
    counted (λ p. key_before p key) low points (omega (arith, same, is.inside)) is.before
    (λ k d le lt. is.after k d (omega (arith, le, same)) lt) in
    ap (λ b. cond b (2 * low + 1) (2 * low)) (sym (searched_place points key low high met is end))
    ∙ ap (λ n. cond (is_point points key) (2 * n + 1) (2 * n)) (sym ranked)

-- ---- how many turns there are

pub halved_first : (points wide taken : ℕ) → taken ≡ 0 → wide ≡ points → IsHalved points wide taken
halved_first points wide taken none all =
    let one : 2 ^ taken ≡ 1 = ap (λ k. 2 ^ k) none in
    record {
      width = let same : 2 ^ taken * wide ≡ 1 * wide = ap (λ k. k * wide) one in omega (arith, same, all);
      turns = omega (arith, one);
      ticks =
          let same : 2 ^ taken * (wide + 2) ≡ 1 * (wide + 2) = ap (λ k. k * (wide + 2)) one in
          omega (arith, same, all);
    }

halved_by : (power wide narrow points : ℕ) → power * wide ≤ points → 2 * narrow ≤ wide → (power * 2) * narrow ≤ points
halved_by power wide narrow points le half =
    let more : power * (2 * narrow) ≤ power * wide = mul-le power (2 * narrow) power wide (omega arith) half in
    let same : (power * 2) * narrow ≡ power * (2 * narrow) = mul_assoc power 2 narrow in
    omega (arith, more, same, le)

ticked_by : (power wide narrow points : ℕ) → points + 1 < power * (wide + 2) → wide ≤ 2 * narrow + 2
    → points + 1 < (power * 2) * (narrow + 2)
ticked_by power wide narrow points lt most =
    let more : power * (wide + 2) ≤ power * (2 * (narrow + 2)) =
    mul-le power (wide + 2) power (2 * (narrow + 2)) (omega arith) (omega (arith, most)) in
    let same : (power * 2) * (narrow + 2) ≡ power * (2 * (narrow + 2)) = mul_assoc power 2 (narrow + 2) in
    omega (arith, more, same, lt)

pub halved_more : (points wide narrow taken next : ℕ) → IsHalved points wide taken → next ≡ taken + 1
    → 2 * narrow ≤ wide → wide ≤ 2 * narrow + 2 → 0 < wide
    → IsHalved points narrow next
halved_more points wide narrow taken next is step half most some =
    let power : 2 ^ next ≡ 2 ^ taken * 2 = ap (λ k. 2 ^ k) step ∙ pow-add 2 taken 1 in
    let low : 2 ^ taken * 1 ≤ 2 ^ taken * wide =
    mul-le (2 ^ taken) 1 (2 ^ taken) wide (omega arith) (omega (arith, some)) in
    record {
      width = let e : 2 ^ next * narrow ≡ (2 ^ taken * 2) * narrow = ap (λ k. k * narrow) power in
          let h : (2 ^ taken * 2) * narrow ≤ points = halved_by (2 ^ taken) wide narrow points is.width half in
          omega (arith, e, h);
      turns = let h : 2 ^ taken * wide ≤ points = is.width in omega (arith, power, low, h);
      ticks =
          let e : 2 ^ next * (narrow + 2) ≡ (2 ^ taken * 2) * (narrow + 2) = ap (λ k. k * (narrow + 2)) power in
          let h : points + 1 < (2 ^ taken * 2) * (narrow + 2) =
          ticked_by (2 ^ taken) wide narrow points is.ticks most in
          omega (arith, e, h);
    }

-- ---- a turn with its count

below_middle : (low high : ℕ) → low < high → low + (high - low) / 2 < high
below_middle low high lt = omega (arith, lt)

half_is_less : (low high : ℕ) → 2 * ((low + (high - low) / 2) - low) ≤ high - low
half_is_less low high = omega arith

rest_is_less : (low high : ℕ) → 2 * (high - (low + (high - low) / 2 + 1)) ≤ high - low
rest_is_less low high = omega arith

half_is_most : (low high : ℕ) → high - low ≤ 2 * ((low + (high - low) / 2) - low) + 2
half_is_most low high = omega arith

rest_is_most : (low high : ℕ) → low < high → high - low ≤ 2 * (high - (low + (high - low) / 2 + 1)) + 2
rest_is_most low high lt = omega (arith, lt)

pub turned_less : (points : List (List ℕ)) (key : List ℕ) (low high : ℕ) (met : Bool) (from to next : ℕ)
    (point : List ℕ)
    → IsSorted (slice_cmp nat_cmp) points → IsTurned points key low high met from to → low < high → next ≡ to + 1
    → point ≡ get_or points (low + (high - low) / 2) point → slice_cmp nat_cmp point key ≡ Less
    → IsTurned points key (low + (high - low) / 2 + 1) high met from next
turned_less points key low high met from to next point sorted is lt step read before =
    let middle : ℕ = low + (high - low) / 2 in
    record {
      searched =
          searched_less points key low high middle met point sorted is.searched (below_middle low high lt) read before;
      rises = omega (arith, is.rises, step);
      halved = halved_more (length points) (high - low) (high - (middle + 1)) (to - from) (next - from) is.halved
          (omega (arith, is.rises, step)) (rest_is_less low high) (rest_is_most low high lt)
          (omega (arith, lt));
    }

pub turned_equal : (points : List (List ℕ)) (key : List ℕ) (low high : ℕ) (met : Bool) (from to next : ℕ)
    (point : List ℕ)
    → IsSorted (slice_cmp nat_cmp) points → IsTurned points key low high met from to → low < high → next ≡ to + 1
    → point ≡ get_or points (low + (high - low) / 2) point → slice_cmp nat_cmp point key ≡ Equal
    → IsTurned points key low (low + (high - low) / 2) true from next
turned_equal points key low high met from to next point sorted is lt step read same =
    let middle : ℕ = low + (high - low) / 2 in
    record {
      searched =
          searched_equal points key low high middle met point sorted is.searched (omega arith)
          (below_middle low high lt) read same;
      rises = omega (arith, is.rises, step);
      halved = halved_more (length points) (high - low) (middle - low) (to - from) (next - from) is.halved
          (omega (arith, is.rises, step)) (half_is_less low high) (half_is_most low high)
          (omega (arith, lt));
    }

pub turned_greater : (points : List (List ℕ)) (key : List ℕ) (low high : ℕ) (met : Bool) (from to next : ℕ)
    (point : List ℕ)
    → IsSorted (slice_cmp nat_cmp) points → IsTurned points key low high met from to → low < high → next ≡ to + 1
    → point ≡ get_or points (low + (high - low) / 2) point → slice_cmp nat_cmp point key ≡ Greater
    → IsTurned points key low (low + (high - low) / 2) met from next
turned_greater points key low high met from to next point sorted is lt step read after =
    let middle : ℕ = low + (high - low) / 2 in
    record {
      searched =
          searched_greater points key low high middle met point sorted is.searched (omega arith)
          (below_middle low high lt) read after;
      rises = omega (arith, is.rises, step);
      halved = halved_more (length points) (high - low) (middle - low) (to - from) (next - from) is.halved
          (omega (arith, is.rises, step)) (half_is_less low high) (half_is_most low high)
          (omega (arith, lt));
    }

pub ends_ticked : (points taken low high : ℕ) → IsHalved points (high - low) taken → high ≤ low
    → points + 1 < 2 * 2 ^ taken
ends_ticked points taken low high is end =
    let none : high - low ≡ 0 = omega (arith, end) in
    let last : 2 ^ taken * (high - low + 2) ≡ 2 ^ taken * 2 = ap (λ k. 2 ^ taken * (k + 2)) none in
    omega (arith, is.ticks, last)

pub ends_met : (points : List (List ℕ)) (key : List ℕ) (low high : ℕ) (met : Bool) → IsSearched points key low high met
    → high ≤ low → met ≡ true
    → 2 * low + 1 ≡ place_of points key
ends_met points key low high met is end here =
    sym (ap (λ b. cond b (2 * low + 1) (2 * low)) here) ∙ searched points key low high met is end

pub ends_between : (points : List (List ℕ)) (key : List ℕ) (low high : ℕ) (met : Bool)
    → IsSearched points key low high met → high ≤ low
    → met ≡ false → 2 * low ≡ place_of points key
ends_between points key low high met is end gap =
    sym (ap (λ b. cond b (2 * low + 1) (2 * low)) gap) ∙ searched points key low high met is end
