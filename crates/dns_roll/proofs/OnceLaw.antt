-- No key is written twice.
use Rattle.std.proofs.Common.{◌≡◌, ℕ, ◌+◌, ◌≤◌, Bool, true, false, cond, not, ◌||◌, List, [], ◌∷◌, ◌++◌, drop, reverse, refl, sym, ap, subst, ◌∙◌, arith}
use Rattle.std.specs.List.{count_by, filter, list_any}
use Rattle.std.proofs.lemmas.List.Folds.{list_any-append}
use Rattle.std.proofs.lemmas.List.Sums.{sum_by-cons}
use Rattle.std.proofs.lemmas.Slice.Eq.{bytes_eq-Decides}
use Rattle.dns_model.specs.Keys.{bytes_eq}
use Rattle.dns_model.proofs.TestLemmas.{or_false}
use Rattle.dns_anchor_roll.specs.Trust.{trusted}
use Rattle.dns_roll.specs.RollLaws.{WrittenOnce}
use Rattle.dns_roll.specs.TrustedText.{first_rdatas, is_new_key, is_same_key, is_trusted_key, named_rdatas}

count_cons : (p : List ℕ → Bool) (x : List ℕ) (xs : List (List ℕ))
    → count_by p (x ∷ xs) ≡ cond (p x) 1 0 + count_by p xs
count_cons p x xs = sum_by-cons (λ y. cond (p y) 1 0) x xs

-- the same key as one that is new isn't there
new_none : (r x : List ℕ) (earlier : List (List ℕ)) → is_same_key r x ≡ true
    → list_any (is_same_key r) earlier ≡ list_any (is_same_key x) earlier
new_none r x earlier is =
    ap (λ k. list_any (λ e. bytes_eq k (drop 3 e)) earlier) ((bytes_eq-Decides (drop 3 r) (drop 3 x)).0 is)

not_false : (b : Bool) → not b ≡ true → b ≡ false
not_false true h = cc
not_false false h = refl

-- none, where one is there already
abbrev most : Bool → ℕ
most there = cond there 0 1

push_any : (r x : List ℕ) (earlier : List (List ℕ))
    → list_any (is_same_key r) (earlier ++ x ∷ []) ≡ (list_any (is_same_key r) earlier || is_same_key r x)
push_any r x earlier =
    list_any-append (is_same_key r) earlier (x ∷ [])
    ∙ ap (λ b. list_any (is_same_key r) earlier || b) (or_false (is_same_key r x))

fewer : (a b : Bool) → most (a || b) ≤ most a
fewer true b = omega arith
fewer false true = omega arith
fewer false false = omega arith

never : (b : Bool) → b ≡ true → b ≡ false → ⊥
never true h e = cc
never false h e = cc

new_step : (same there : Bool) (n : ℕ) → (same ≡ true → there ≡ false) → n ≤ most (there || same)
    → cond same 1 0 + n ≤ most there
new_step true true n h le = absurd (never true refl (h refl))
new_step true false n h le = omega arith
new_step false true n h le = omega arith
new_step false false n h le = omega arith

new_count : (r x : List ℕ) (firsts : List (List ℕ)) (there : Bool) → (is_same_key r x ≡ true → there ≡ false)
    → count_by (is_same_key r) firsts ≤ most (there || is_same_key r x)
    → count_by (is_same_key r) (x ∷ firsts) ≤ most there
new_count r x firsts there fresh few =
    subst (λ n. n ≤ most there) (sym (count_cons (is_same_key r) x firsts))
    (new_step (is_same_key r x) there (count_by (is_same_key r) firsts) fresh few)

old_count : (n : ℕ) (there same : Bool) → n ≤ most (there || same) → n ≤ most there
old_count n there same few = omega (arith, few, fewer there same)

once_step : (r x : List ℕ) (earlier firsts : List (List ℕ)) (b : Bool) → is_new_key earlier x ≡ b
    → count_by (is_same_key r) firsts ≤ most (list_any (is_same_key r) (earlier ++ x ∷ []))
    → count_by (is_same_key r) (cond b (x ∷ firsts) firsts) ≤ most (list_any (is_same_key r) earlier)
once_step r x earlier firsts true new later =
    new_count r x firsts (list_any (is_same_key r) earlier)
    (λ same. new_none r x earlier same ∙ not_false (list_any (is_same_key x) earlier) new)
    (subst (λ c. count_by (is_same_key r) firsts ≤ most c) (push_any r x earlier) later)
once_step r x earlier firsts false new later =
    old_count (count_by (is_same_key r) firsts) (list_any (is_same_key r) earlier) (is_same_key r x)
    (subst (λ c. count_by (is_same_key r) firsts ≤ most c) (push_any r x earlier) later)

none_more : (b : Bool) → 0 ≤ most b
none_more b = omega arith

once_from : (r : List ℕ) (earlier rdatas : List (List ℕ))
    → count_by (is_same_key r) (first_rdatas earlier rdatas) ≤ most (list_any (is_same_key r) earlier)
unfolding first_rdatas
once_from r earlier [] = none_more (list_any (is_same_key r) earlier)
once_from r earlier (x ∷ rest) =
    once_step r x earlier (first_rdatas (earlier ++ x ∷ []) rest) (is_new_key earlier x) refl
    (once_from r (earlier ++ x ∷ []) rest)

pub once_law : WrittenOnce
once_law start sightings rdata =
    once_from rdata [] (filter (is_trusted_key (trusted start (reverse sightings)))
    (named_rdatas start.given sightings))
