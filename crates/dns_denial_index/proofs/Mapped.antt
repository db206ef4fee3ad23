-- Searches in a list that was made of another one, element by element.
use Rattle.std.proofs.Common.{◌≡◌, ℕ, zero, suc, ◌+◌, ◌-◌, ◌<◌, ◌≤◌, Bool, true, false, not, ◌&&◌, cond, List, [], ◌∷◌, map, length, drop, get_or, Option, None, Some, refl, sym, ap, ◌∙◌, arith, length-drop, ⊎_elim}
use Rattle.std.specs.Prelude.{nat_lt, position}
use Rattle.std.specs.List.{find, list_all, list_any, position_or_len}
use Rattle.std.proofs.lemmas.Bool.{and_from, or_from, lt-ltb, le-ltb, ltb-false, and_left, and_right, cases_lt}
use Rattle.std.proofs.lemmas.List.{drop-map, get_or_default, get_or-drop, length-map}
use Rattle.std.proofs.lemmas.List.Folds.{find_at, list_any_at}
use Rattle.std.proofs.lemmas.List.Quantifiers.{position-Some}
use Rattle.std.proofs.lemmas.List.Sums.{position_or_len_is}
use Rattle.std.proofs.lemmas.Option.{slice_get-get_or, slice_get_past}
use Rattle.dns_denial_index.specs.NsecParts.{IsWalked, left_of, numbered}
use Rattle.dns_denial_index.specs.Spans.{first_in, first_from}
use Rattle.dns_denial_index.proofs.Firsts.{IsFirst, found_first, none_first}

-- one test says of what was made of each element what the other one says of the element
pub record AgreeOn {X Y : Type 0} (make : X → Y) (made : Y → Bool) (test : X → Bool) (xs : List X) : Type 0 where
  pub at : (k : ℕ) (d : X) → k < length xs → made (make (get_or xs k d)) ≡ test (get_or xs k d)

rest_agrees : {X Y : Type 0} (make : X → Y) (made : Y → Bool) (test : X → Bool) (x : X) (xs : List X)
    → AgreeOn make made test (x ∷ xs) → AgreeOn make made test xs
rest_agrees make made test x xs agree = record { at = λ k d lt. agree.at (suc k) d (omega (arith, lt)) }

first_agrees : {X Y : Type 0} (make : X → Y) (made : Y → Bool) (test : X → Bool) (x : X) (xs : List X)
    → AgreeOn make made test (x ∷ xs) → made (make x) ≡ test x
first_agrees make made test x xs agree = agree.at zero x (omega arith)

pub list_all_mapped : {X Y : Type 0} (make : X → Y) (made : Y → Bool) (test : X → Bool) (xs : List X)
    → AgreeOn make made test xs
    → list_all made (map make xs) ≡ list_all test xs
list_all_mapped make made test [] agree = refl
list_all_mapped make made test (x ∷ xs) agree =
    ap (λ b. b && list_all made (map make xs)) (first_agrees make made test x xs agree)
    ∙ ap (λ b. test x && b) (list_all_mapped make made test xs (rest_agrees make made test x xs agree))

place_mapped : {X Y : Type 0} (make : X → Y) (made : Y → Bool) (test : X → Bool) (xs : List X)
    → AgreeOn make made test xs
    → position_or_len made (map make xs) ≡ position_or_len test xs
place_mapped make made test [] agree = refl
place_mapped make made test (x ∷ xs) agree =
    ap (λ b. cond (not b) (1 + position_or_len made (map make xs)) 0) (first_agrees make made test x xs agree)
    ∙ ap (λ n. cond (not (test x)) (1 + n) 0) (place_mapped make made test xs (rest_agrees make made test x xs agree))

pub position_mapped : {X Y : Type 0} (make : X → Y) (made : Y → Bool) (test : X → Bool) (xs : List X)
    → AgreeOn make made test xs
    → position made (map make xs) ≡ position test xs
position_mapped make made test xs agree =
    ap (λ n. cond (nat_lt n (length (map make xs))) (Some n) None) (place_mapped make made test xs agree)
    ∙ ap (λ n. cond (nat_lt (position_or_len test xs) n) (Some (position_or_len test xs)) None) (length-map xs make)

first_in_mapped : {X Y : Type 0} (make : X → Y) (made : Y → Bool) (test : X → Bool) (number : ℕ) (xs : List X)
    → AgreeOn make made test xs
    → first_in made number (map make xs) ≡ first_in test number xs
first_in_mapped make made test number [] agree = refl
first_in_mapped make made test number (x ∷ xs) agree =
    ap (λ b. cond b (Some number) (first_in made (number + 1) (map make xs))) (first_agrees make made test x xs agree)
    ∙ ap (cond (test x) (Some number))
    (first_in_mapped make made test (number + 1) xs (rest_agrees make made test x xs agree))

pub first_mapped : {X Y : Type 0} (make : X → Y) (made : Y → Bool) (test : X → Bool) (number : ℕ) (xs : List X)
    → AgreeOn make made test xs
    → first_from made number (map make xs) ≡ first_from test number xs
unfolding first_from
first_mapped make made test number xs agree =
    let long : length (drop number xs) ≡ length xs - number = length-drop number xs in
    ap (first_in made number) (drop-map make number xs)
    ∙ first_in_mapped make made test number (drop number xs) (record {
      at = λ k d lt.
          let e = get_or-drop number xs k d in
          ap (λ x. made (make x)) e ∙ agree.at (number + k) d (omega (arith, lt, long)) ∙ sym (ap test e);
    })

-- ---- the first of all

ends : {X : Type 0} (test : X → Bool) (xs : List X)
    → ((k : ℕ) (d : X) → 0 ≤ k → k < length xs → test (get_or xs k d) ≡ false)
    → position_or_len test xs ≡ length xs
ends test [] none = refl
ends test (x ∷ xs) none =
    let rest : position_or_len test xs ≡ length xs =
    ends test xs (λ k d le lt. none (suc k) d (omega arith) (omega (arith, lt))) in
    ap (λ b. cond (not b) (1 + position_or_len test xs) 0) (none zero x (omega arith) (omega arith))
    ∙ omega (arith, rest)

named : {X : Type 0} (test : X → Bool) (xs : List X) (found : ℕ) → IsFirst test 0 xs found
    → position test xs ≡ Some found
named test [] found is = let h : found < 0 = is.within in absurd (omega (arith, h))
named test (x ∷ xs) found is =
    let within : found < length (x ∷ xs) = is.within in
    let at : position_or_len test (x ∷ xs) ≡ found =
    position_or_len_is test (x ∷ xs) found x (omega (arith, within)) (λ k lt. is.before k x (omega arith) lt)
    (λ lt. is.passes x) in
    ap (λ n. cond (nat_lt n (length (x ∷ xs))) (Some n) None) at
    ∙ ap (λ b. cond b (Some found) None) (lt-ltb found (length (x ∷ xs)) within)

pub first_is_position : {X : Type 0} (test : X → Bool) (xs : List X) → first_from test 0 xs ≡ position test xs
first_is_position test xs = by (first_from test 0 xs) refl
  where
    by : (o : Option ℕ) → first_from test 0 xs ≡ o → o ≡ position test xs
    by None e =
        let past : position_or_len test xs ≡ length xs = ends test xs (none_first test 0 xs e) in
        sym (ap (λ b. cond b (Some (position_or_len test xs)) None)
        (le-ltb (position_or_len test xs) (length xs) (omega (arith, past))))
    by (Some found) e = sym (named test xs found (found_first test 0 xs found e))

-- the element that is found is the one with its number
pub numbered_position : {X : Type 0} (test : X → Bool) (xs : List X) → numbered xs (position test xs) ≡ find test xs
numbered_position test xs = by (nat_lt (position_or_len test xs) (length xs)) refl
  where
    by : (b : Bool) → nat_lt (position_or_len test xs) (length xs) ≡ b
        → numbered xs (cond b (Some (position_or_len test xs)) None) ≡ find test xs
    by true e = sym (find_at test xs)
    by false e =
        sym (find_at test xs
        ∙ slice_get_past xs (position_or_len test xs) (ltb-false (position_or_len test xs) (length xs) e))

pub find_by_position : {X : Type 0} (test : X → Bool) (xs : List X) (number : ℕ) (d : X)
    → position test xs ≡ Some number
    → find test xs ≡ Some (get_or xs number d)
find_by_position test xs number d is =
    sym (numbered_position test xs) ∙ ap (numbered xs) is
    ∙ slice_get-get_or xs number d (position-Some test xs number d is).0

pub find_no_position : {X : Type 0} (test : X → Bool) (xs : List X) → position test xs ≡ None → find test xs ≡ None
find_no_position test xs none = sym (numbered_position test xs) ∙ ap (numbered xs) none

pub none_any : {X : Type 0} (test : X → Bool) (xs : List X)
    → ((k : ℕ) (d : X) → k < length xs → test (get_or xs k d) ≡ false) → list_any test xs ≡ false
none_any test [] none = refl
none_any test (x ∷ xs) none =
    or_from (test x) (list_any test xs) (none zero x (omega arith))
    (none_any test xs (λ k d lt. none (suc k) d (omega (arith, lt))))

-- ---- a walk over the elements that pass

pub walk_first : {X : Type 0} (test other : X → Bool) (xs : List X) (next : Option ℕ) → next ≡ position test xs
    → IsWalked test other xs next
walk_first test other xs next is =
    record { from = 0; is = is ∙ sym (first_is_position test xs); none = λ k d lt. absurd (omega (arith, lt)) }

-- the next one
pub walk_at : {X : Type 0} (test other : X → Bool) (xs : List X) (next : Option ℕ) (number : ℕ)
    (w : IsWalked test other xs next) → next ≡ Some number
    → IsFirst test w.from xs number
walk_at test other xs next number w is = found_first test w.from xs number (sym w.is ∙ is)

pub walk_more : {X : Type 0} (test other : X → Bool) (xs : List X) (next : Option ℕ) (number : ℕ) (after : Option ℕ)
    (d : X)
    → IsWalked test other xs next → next ≡ Some number → other (get_or xs number d) ≡ false
    → after ≡ first_from test (number + 1) xs
    → IsWalked test other xs after
walk_more {X} test other xs next number after d w is fails later =
    let here : IsFirst test w.from xs number = walk_at test other xs next number w is in
    record {
      from = number + 1;
      is = later;
      none = λ k e lt within.
          ⊎_elim {A = k < w.from} {B = w.from ≤ k} {C = (test (get_or xs k e) && other (get_or xs k e)) ≡ false}
          (λ before. w.none k e before within)
          (λ le. ⊎_elim {A = k < number} {B = number ≤ k} {C = (test (get_or xs k e) && other (get_or xs k e)) ≡ false}
          (λ before. and_left (test (get_or xs k e)) (other (get_or xs k e)) (here.before k e le before))
          (λ le'.
          let same : k ≡ number = omega (arith, lt, le') in
          and_right (test (get_or xs k e)) (other (get_or xs k e))
          (ap (λ n. other (get_or xs n e)) same ∙ ap other (get_or_default xs number e d here.within) ∙ fails))
          (cases_lt k number))
          (cases_lt k w.from);
    }

pub walk_end : {X : Type 0} (test other : X → Bool) (xs : List X) (next : Option ℕ) → IsWalked test other xs next
    → next ≡ None
    → list_any (λ x. test x && other x) xs ≡ false
walk_end {X} test other xs next w is =
    none_any (λ x. test x && other x) xs (λ k d lt.
    ⊎_elim {A = k < w.from} {B = w.from ≤ k} {C = (test (get_or xs k d) && other (get_or xs k d)) ≡ false}
    (λ before. w.none k d before lt)
    (λ le. and_left (test (get_or xs k d)) (other (get_or xs k d))
    (none_first test w.from xs (sym w.is ∙ is) k d le lt))
    (cases_lt k w.from))

-- it is found
pub walk_found : {X : Type 0} (test other : X → Bool) (xs : List X) (next : Option ℕ) (number : ℕ) (d : X)
    → IsWalked test other xs next
    → next ≡ Some number → other (get_or xs number d) ≡ true → list_any (λ x. test x && other x) xs ≡ true
walk_found test other xs next number d w is passes =
    let here : IsFirst test w.from xs number = walk_at test other xs next number w is in
    list_any_at (λ x. test x && other x) xs number d here.within
    (and_from (test (get_or xs number d)) (other (get_or xs number d)) (here.passes d) passes)

left_less : {X : Type 0} (test : X → Bool) (xs : List X) (number : ℕ) (after : Option ℕ) → number < length xs
    → after ≡ first_from test (number + 1) xs → left_of (length xs) after < length xs - number
left_less test xs number None lt later = omega (arith, lt)
left_less test xs number (Some next) lt later =
    let is : IsFirst test (number + 1) xs next = found_first test (number + 1) xs next (sym later) in
    omega (arith, is.later, is.within)

-- each turn leaves fewer
pub walk_less : {X : Type 0} (test other : X → Bool) (xs : List X) (next : Option ℕ) (number : ℕ) (after : Option ℕ)
    → IsWalked test other xs next
    → next ≡ Some number → after ≡ first_from test (number + 1) xs
    → left_of (length xs) after < left_of (length xs) next
walk_less test other xs next number after w is later =
    let here : IsFirst test w.from xs number = walk_at test other xs next number w is in
    let top : left_of (length xs) next ≡ length xs - number = ap (left_of (length xs)) is in
    omega (arith, top, left_less test xs number after here.within later)

pub walk_within : {X : Type 0} (test other : X → Bool) (xs : List X) (next : Option ℕ) (number : ℕ)
    → IsWalked test other xs next
    → next ≡ Some number → number < length xs
walk_within test other xs next number w is = (walk_at test other xs next number w is).within

pub walk_passes : {X : Type 0} (test other : X → Bool) (xs : List X) (next : Option ℕ) (number : ℕ) (d : X)
    → IsWalked test other xs next
    → next ≡ Some number → test (get_or xs number d) ≡ true
walk_passes test other xs next number d w is = (walk_at test other xs next number w is).passes d
