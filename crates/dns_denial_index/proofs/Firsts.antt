-- The first element that passes a test, from a number on.
use Rattle.std.proofs.Common.{◌≡◌, ℕ, zero, suc, ◌+◌, ◌-◌, ◌<◌, ◌≤◌, Bool, true, false, cond, List, [], ◌∷◌, length, drop, get_or, Option, None, Some, refl, sym, ap, ◌∙◌, arith, length-drop}
use Rattle.std.proofs.lemmas.List.{drop_all, drop_more, get_or-drop}
use Rattle.dns_denial_index.specs.Spans.{first_in, first_from}

pub first_past : {X : Type 0} (test : X → Bool) (number : ℕ) (xs : List X) → length xs ≤ number
    → first_from test number xs ≡ None
unfolding first_from
first_past test number xs past = ap (first_in test number) (drop_all number xs past)

pub first_here : {X : Type 0} (test : X → Bool) (number : ℕ) (xs : List X) (d : X) → number < length xs
    → test (get_or xs number d) ≡ true
    → first_from test number xs ≡ Some number
unfolding first_from
first_here test number xs d within passes =
    ap (first_in test number) (drop_more xs number d within)
    ∙ ap (λ b. cond b (Some number) (first_in test (number + 1) (drop (number + 1) xs))) passes

pub first_later : {X : Type 0} (test : X → Bool) (number : ℕ) (xs : List X) (d : X) → number < length xs
    → test (get_or xs number d) ≡ false
    → first_from test number xs ≡ first_from test (number + 1) xs
unfolding first_from
first_later test number xs d within fails =
    ap (first_in test number) (drop_more xs number d within)
    ∙ ap (λ b. cond b (Some number) (first_in test (number + 1) (drop (number + 1) xs))) fails

-- ---- what a found number says

of_some : {X : Type 0} {x y : X} → ◌≡◌ {A = Option X} (Some x) (Some y) → x ≡ y
of_some h = cc

no_some : {P X : Type 0} {x : X} → ◌≡◌ {A = Option X} (Some x) None → P
no_some h = cc

no_none : {P X : Type 0} {x : X} → ◌≡◌ {A = Option X} None (Some x) → P
no_none h = cc

record InFront {X : Type 0} (test : X → Bool) (number : ℕ) (xs : List X) (found : ℕ) : Type 0 where
  at : ℕ
  is : found ≡ number + at
  within : at < length xs
  passes : (d : X) → test (get_or xs at d) ≡ true
  before : (k : ℕ) (d : X) → k < at → test (get_or xs k d) ≡ false

before_more : {X : Type 0} (test : X → Bool) (x : X) (xs : List X) (at : ℕ) → test x ≡ false
    → ((k : ℕ) (d : X) → k < at → test (get_or xs k d) ≡ false)
    → (k : ℕ) (d : X) → k < suc at → test (get_or (x ∷ xs) k d) ≡ false
before_more test x xs at fails rest zero d lt = fails
before_more test x xs at fails rest (suc k) d lt = rest k d (omega (arith, lt))

in_front_by : {X : Type 0} (test : X → Bool) (number : ℕ) (x : X) (xs : List X) (found : ℕ) (b : Bool) → test x ≡ b
    → ◌≡◌ {A = Option ℕ} (cond b (Some number) (first_in test (number + 1) xs)) (Some found)
    → (first_in test (number + 1) xs ≡ Some found → InFront test (number + 1) xs found)
    → InFront test number (x ∷ xs) found
in_front_by test number x xs found true passes e rest =
    let same : number ≡ found = of_some e in
    record {
      at = 0;
      is = omega (arith, same);
      within = omega arith;
      passes = λ d. passes;
      before =
          λ k d lt. absurd (omega (arith, lt));
    }
in_front_by test number x xs found false fails e rest =
    let later : InFront test (number + 1) xs found = rest e in
    record {
      at = suc later.at;
      is = omega (arith, later.is);
      within = omega (arith, later.within);
      passes = λ d. later.passes d;
      before = before_more test x xs later.at fails later.before;
    }

in_front : {X : Type 0} (test : X → Bool) (number : ℕ) (xs : List X) (found : ℕ) → first_in test number xs ≡ Some found
    → InFront test number xs found
in_front test number [] found h = no_none h
in_front test number (x ∷ xs) found h =
    in_front_by test number x xs found (test x) refl h (λ e. in_front test (number + 1) xs found e)

none_in_by : {X : Type 0} (test : X → Bool) (number : ℕ) (x : X) (xs : List X) (b : Bool) → test x ≡ b
    → ◌≡◌ {A = Option ℕ} (cond b (Some number) (first_in test (number + 1) xs)) None
    → (first_in test (number + 1) xs ≡ None → (k : ℕ) (d : X) → k < length xs → test (get_or xs k d) ≡ false)
    → (k : ℕ) (d : X) → k < suc (length xs) → test (get_or (x ∷ xs) k d) ≡ false
none_in_by test number x xs true passes e rest = no_some e
none_in_by test number x xs false fails e rest = before_more test x xs (length xs) fails (rest e)

none_in : {X : Type 0} (test : X → Bool) (number : ℕ) (xs : List X) → first_in test number xs ≡ None
    → (k : ℕ) (d : X) → k < length xs → test (get_or xs k d) ≡ false
none_in test number [] h k d lt = absurd (omega (arith, lt))
none_in test number (x ∷ xs) h k d lt =
    none_in_by test number x xs (test x) refl h (λ e. none_in test (number + 1) xs e) k d (omega (arith, lt))

-- it passes, and none before it does
pub record IsFirst {X : Type 0} (test : X → Bool) (number : ℕ) (xs : List X) (found : ℕ) : Type 0 where
  pub later : number ≤ found
  pub within : found < length xs
  pub passes : (d : X) → test (get_or xs found d) ≡ true
  pub before : (k : ℕ) (d : X) → number ≤ k → k < found → test (get_or xs k d) ≡ false

pub found_first : {X : Type 0} (test : X → Bool) (number : ℕ) (xs : List X) (found : ℕ)
    → first_from test number xs ≡ Some found
    → IsFirst test number xs found
unfolding first_from
found_first test number xs found h =
    let i : InFront test number (drop number xs) found = in_front test number (drop number xs) found h in
    let long : length (drop number xs) ≡ length xs - number = length-drop number xs in
    record {
      later = omega (arith, i.is);
      within = omega (arith, i.is, i.within, long);
      passes = λ d. ap test (ap (λ k. get_or xs k d) i.is ∙ sym (get_or-drop number xs i.at d)) ∙ i.passes d;
      before = λ k d le lt.
          let e : k ≡ number + (k - number) = omega (arith, le) in
          ap test (ap (λ n. get_or xs n d) e ∙ sym (get_or-drop number xs (k - number) d))
          ∙ i.before (k - number) d (omega (arith, le, lt, i.is));
    }

pub none_first : {X : Type 0} (test : X → Bool) (number : ℕ) (xs : List X) → first_from test number xs ≡ None
    → (k : ℕ) (d : X) → number ≤ k → k < length xs → test (get_or xs k d) ≡ false
unfolding first_from
none_first test number xs h k d le lt =
    let e : k ≡ number + (k - number) = omega (arith, le) in
    let long : length (drop number xs) ≡ length xs - number = length-drop number xs in
    ap test (ap (λ n. get_or xs n d) e ∙ sym (get_or-drop number xs (k - number) d))
    ∙ none_in test number (drop number xs) h (k - number) d (omega (arith, le, lt, long))
