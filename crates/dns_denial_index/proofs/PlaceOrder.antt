-- Places stand in the order of keys, where one of the two is a point.
use Rattle.std.proofs.Common.{◌≡◌, ℕ, ◌+◌, ◌*◌, ◌<◌, ◌≤◌, Bool, true, false, cond, List, [], ◌∷◌, length, refl, sym, ap, ◌∙◌, arith, ⊎_elim, Ordering}
use Rattle.std.specs.Prelude.{nat_lt, nat_eq}
use Rattle.std.specs.Cmp.Lexicographic.{slice_cmp}
use Rattle.std.specs.List.{count_by, list_any}
use Rattle.std.specs.Ordering.{nat_cmp, is_lt, is_eq, ordering_reverse}
use Rattle.std.specs.declared.cmp.Ordering.TheVariants.{Less, Equal, Greater}
use Rattle.std.specs.FinMap.{slice_cmp-IsAntisymmetric, nat_cmp-IsAntisymmetric}
use Rattle.std.proofs.lemmas.Bool.{false≢true, or_cases, lt-ltb, le-ltb, eq-eqb, ne_eqb}
use Rattle.std.proofs.lemmas.Cmp.{nat_list_cmp_total, tied_itself}
use Rattle.std.proofs.lemmas.List.Sums.{sum_by-cons}
use Rattle.dns_model.proofs.NamesInOrder.{less_past, lt_from}
use Rattle.dns_denial_index.specs.Places.{key_before, same_key, rank, is_point, place_of}

-- ---- counts of what passes one test or another

count_step : {X : Type 0} (test : X → Bool) (x : X) (xs : List X)
    → count_by test (x ∷ xs) ≡ cond (test x) 1 0 + count_by test xs
count_step test x xs = sum_by-cons (λ y. cond (test y) 1 0) x xs

bit_le : (p q : Bool) → (p ≡ true → q ≡ true) → cond p 1 0 ≤ cond q 1 0
bit_le true true more = omega arith
bit_le true false more = absurd (false≢true (more refl))
bit_le false true more = omega arith
bit_le false false more = omega arith

count_le : {X : Type 0} (test other : X → Bool) → ((x : X) → test x ≡ true → other x ≡ true) → (xs : List X)
    → count_by test xs ≤ count_by other xs
count_le test other more [] = omega arith
count_le test other more (x ∷ xs) =
    omega (
      arith,
      count_step test x xs,
      count_step other x xs,
      bit_le (test x) (other x) (more x),
      count_le test other more xs,
    )

count_lt : {X : Type 0} (test other also : X → Bool) → ((x : X) → test x ≡ true → other x ≡ true)
    → ((x : X) → also x ≡ true → test x ≡ false)
    → ((x : X) → also x ≡ true → other x ≡ true) → (xs : List X) → list_any also xs ≡ true
    → count_by test xs < count_by other xs
count_lt test other also more apart there [] h = absurd (false≢true h)
count_lt test other also more apart there (x ∷ xs) h =
    ⊎_elim {A = also x ≡ true} {B = list_any also xs ≡ true} {C = count_by test (x ∷ xs) < count_by other (x ∷ xs)}
    (λ here.
    let le : count_by test xs ≤ count_by other xs = count_le test other more xs in
    let p : ◌≡◌ {A = ℕ} (cond (test x) 1 0) 0 = ap (λ b. cond b 1 0) (apart x here) in
    let q : ◌≡◌ {A = ℕ} (cond (other x) 1 0) 1 = ap (λ b. cond b 1 0) (there x here) in
    omega (arith, count_step test x xs, count_step other x xs, le, p, q))
    (λ later.
    let lt : count_by test xs < count_by other xs = count_lt test other also more apart there xs later in
    omega (arith, count_step test x xs, count_step other x xs, bit_le (test x) (other x) (more x), lt))
    (or_cases (also x) (list_any also xs) h)

count_all : {X : Type 0} (xs : List X) → count_by (λ (x : X). true) xs ≡ length xs
count_all [] = refl
count_all {X} (x ∷ xs) = omega (arith, count_step (λ (y : X). true) x xs, count_all xs)

-- ---- how many points come before a key

equal_from : (o : Ordering) → is_eq o ≡ true → o ≡ Equal
equal_from Less h = absurd (false≢true h)
equal_from Equal h = refl
equal_from Greater h = absurd (false≢true h)

pub one_key : (one two : List ℕ) → same_key one two ≡ true → one ≡ two
one_key one two h =
    slice_cmp-IsAntisymmetric nat_cmp-IsAntisymmetric one two (equal_from (slice_cmp nat_cmp one two) h)

pub before_then : (x y z : List ℕ) → key_before y x ≡ false → key_before z x ≡ true → key_before z y ≡ true
before_then x y z le lt = by (key_before z y) refl
  where
    by : (b : Bool) → key_before z y ≡ b → b ≡ true
    by true e = refl
    by false e = sym le ∙ less_past (slice_cmp nat_cmp) nat_list_cmp_total z y x (slice_cmp nat_cmp z y) refl e lt

pub not_back : (one two : List ℕ) → key_before one two ≡ true → key_before two one ≡ false
not_back one two h =
    ap is_lt (nat_list_cmp_total.antisymm two one ∙ ap ordering_reverse (lt_from (slice_cmp nat_cmp one two) h))

pub not_itself : (one : List ℕ) → key_before one one ≡ false
not_itself one = ap is_lt (tied_itself nat_list_cmp_total one)

-- a key between
pub rank_le : (points : List (List ℕ)) (one two : List ℕ) → key_before two one ≡ false
    → rank points one ≤ rank points two
unfolding rank
rank_le points one two le =
    count_le (λ p. key_before p one) (λ p. key_before p two) (λ p h. before_then one two p le h) points

pub rank_lt : (points : List (List ℕ)) (one two : List ℕ) → is_point points one ≡ true → key_before one two ≡ true
    → rank points one < rank points two
unfolding rank
rank_lt points one two there lt =
    count_lt (λ p. key_before p one) (λ p. key_before p two) (λ p. same_key p one)
    (λ p h. before_then one two p (not_back one two lt) h)
    (λ p h. ap (λ k. key_before k one) (one_key p one h) ∙ not_itself one)
    (λ p h. ap (λ k. key_before k two) (one_key p one h) ∙ lt) points there

pub rank_within : (points : List (List ℕ)) (key : List ℕ) → rank points key ≤ length points
unfolding rank
rank_within points key =
    omega (arith, count_le (λ p. key_before p key) (λ p. true) (λ p h. refl) points, count_all points)

rank_below : (points : List (List ℕ)) (key : List ℕ) → is_point points key ≡ true → rank points key < length points
unfolding rank
rank_below points key there =
    omega (
      arith,
      count_lt (λ p. key_before p key) (λ p. true) (λ p. same_key p key) (λ p h. refl)
          (λ p h. ap (λ k. key_before k key) (one_key p key h) ∙ not_itself key) (λ p h. refl) points there,
      count_all points,
    )

-- ---- places

pub at_point : (points : List (List ℕ)) (key : List ℕ) → is_point points key ≡ true
    → place_of points key ≡ 2 * rank points key + 1
at_point points key there = ap (λ b. cond b (2 * rank points key + 1) (2 * rank points key)) there

pub in_gap : (points : List (List ℕ)) (key : List ℕ) → is_point points key ≡ false
    → place_of points key ≡ 2 * rank points key
in_gap points key none = ap (λ b. cond b (2 * rank points key + 1) (2 * rank points key)) none

pub place_within : (points : List (List ℕ)) (key : List ℕ) → place_of points key < 2 * length points + 1
place_within points key = by (is_point points key) refl
  where
    by : (b : Bool) → is_point points key ≡ b → place_of points key < 2 * length points + 1
    by true e = omega (arith, at_point points key e, rank_below points key e)
    by false e = omega (arith, in_gap points key e, rank_within points key)

place_up : (points : List (List ℕ)) (point key : List ℕ) → is_point points point ≡ true → key_before point key ≡ true
    → place_of points point < place_of points key
place_up points point key there lt = by (is_point points key) refl
  where
    by : (b : Bool) → is_point points key ≡ b → place_of points point < place_of points key
    by true e = omega (arith, at_point points point there, at_point points key e, rank_lt points point key there lt)
    by false e = omega (arith, at_point points point there, in_gap points key e, rank_lt points point key there lt)

place_down : (points : List (List ℕ)) (point key : List ℕ) → is_point points point ≡ true → key_before key point ≡ true
    → place_of points key < place_of points point
place_down points point key there lt = by (is_point points key) refl
  where
    by : (b : Bool) → is_point points key ≡ b → place_of points key < place_of points point
    by true e = omega (arith, at_point points point there, at_point points key e, rank_lt points key point e lt)
    by false e =
        omega (
          arith,
          at_point points point there,
          in_gap points key e,
          rank_le points key point (not_back key point lt),
        )

-- a key stands to a point as their places do
pub record AreAlike (points : List (List ℕ)) (point key : List ℕ) : Type 0 where
  pub after : nat_lt (place_of points point) (place_of points key) ≡ key_before point key
  pub before : nat_lt (place_of points key) (place_of points point) ≡ key_before key point
  pub same : nat_eq (place_of points point) (place_of points key) ≡ same_key point key

pub places_alike : (points : List (List ℕ)) (point key : List ℕ) → is_point points point ≡ true
    → AreAlike points point key
places_alike points point key there = by (slice_cmp nat_cmp point key) refl
  where
    by : (o : Ordering) → slice_cmp nat_cmp point key ≡ o → AreAlike points point key
    by Less e =
        let lt : place_of points point < place_of points key = place_up points point key there (ap is_lt e) in
        record {
          after = lt-ltb (place_of points point) (place_of points key) lt ∙ sym (ap is_lt e);
          before = le-ltb (place_of points key) (place_of points point) (omega (arith, lt))
              ∙ sym (not_back point key (ap is_lt e));
          same = ne_eqb (place_of points point) (place_of points key) (λ h. omega (arith, h, lt)) ∙ sym (ap is_eq e);
        }
    by Equal e =
        let k : point ≡ key = one_key point key (ap is_eq e) in
        let h : place_of points point ≡ place_of points key = ap (place_of points) k in
        record {
          after = le-ltb (place_of points point) (place_of points key) (omega (arith, h)) ∙ sym (ap is_lt e);
          before = le-ltb (place_of points key) (place_of points point) (omega (arith, h))
              ∙ sym (ap is_lt (nat_list_cmp_total.antisymm key point ∙ ap ordering_reverse e));
          same = eq-eqb (place_of points point) (place_of points key) h ∙ sym (ap is_eq e);
        }
    by Greater e =
        let back : slice_cmp nat_cmp key point ≡ Less = nat_list_cmp_total.antisymm key point ∙ ap ordering_reverse e in
        let lt : place_of points key < place_of points point = place_down points point key there (ap is_lt back) in
        record {
          after = le-ltb (place_of points point) (place_of points key) (omega (arith, lt)) ∙ sym (ap is_lt e);
          before = lt-ltb (place_of points key) (place_of points point) lt ∙ sym (ap is_lt back);
          same = ne_eqb (place_of points point) (place_of points key) (λ h. omega (arith, h, lt)) ∙ sym (ap is_eq e);
        }
