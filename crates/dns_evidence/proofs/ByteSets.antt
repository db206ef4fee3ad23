-- Different numbers of a byte each are at most 256.
use Rattle.std.proofs.Common.{◌≡◌, ℕ, ◌<◌, false, List, [], ◌∷◌, ◌++◌, length, sym, subst, ◌∙◌, arith, length-append}
use Rattle.std.specs.Prelude.{◌==◌}
use Rattle.std.specs.List.{list_any, IsDistinct}
use Rattle.std.proofs.Math.Logic.{⊎_elim}
use Rattle.std.proofs.lemmas.Bool.{or_cases, eqb-true}
use Rattle.std.proofs.lemmas.List.Folds.{list_any-append}
use Rattle.std.proofs.lemmas.Map.Steps.{length-le_from_distinct_below}
use Rattle.std.proofs.lemmas.Map.Keys.{IsDistinct-push}
use Rattle.std.proofs.lemmas.Cmp.{nat_eq_equiv}
use Rattle.dns_evidence.specs.ByteSets.{IsByteSet}

pub no_numbers : (xs : List ℕ) → xs ≡ [] → IsByteSet xs
unfolding IsDistinct
no_numbers [] is = (tt, λ n h. cc)
no_numbers (x ∷ xs) is = cc

-- one number more
pub one_number : (xs : List ℕ) (x : ℕ) → IsByteSet xs → x < 256 → list_any (λ a. x == a) xs ≡ false → IsByteSet (xs ++ x ∷ [])
one_number xs x s small absent = (
  IsDistinct-push nat_eq_equiv xs x s.0 absent,
  λ n h. ⊎_elim (s.1 n)
      (λ last. ⊎_elim (λ same. subst (λ k. k < 256) (sym (eqb-true n x same)) small) (λ none. cc) (or_cases (n == x) false last))
      (or_cases (list_any (λ a. n == a) xs) (list_any (λ a. n == a) (x ∷ [])) (sym (list_any-append (λ a. n == a) xs (x ∷ [])) ∙ h)),
)

-- there is room for a number that isn't among them
pub room : (xs : List ℕ) (x : ℕ) → IsByteSet xs → x < 256 → list_any (λ a. x == a) xs ≡ false → length xs < 256
room xs x s small absent =
    let more = one_number xs x s small absent in
    omega (arith, length-append xs (x ∷ []), length-le_from_distinct_below (xs ++ x ∷ []) 256 more.0 more.1)
