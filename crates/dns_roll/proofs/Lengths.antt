-- A word is no longer than the line that it stands in.
use Rattle.std.proofs.Common.{◌≡◌, ℕ, ◌≤◌, List, [], ◌∷◌, length, Option, None, Some, refl, ap, arith}
use Rattle.std.proofs.lemmas.Option.{same_Some}
use Rattle.dns_model.specs.OptionSteps.{◌>>=◌}
use Rattle.dns_session.specs.Lines.{Words, words, after, double}
use Rattle.dns_session.proofs.WordLengths.{total, total_behind}

double_second : (all : Words) (x : List ℕ × List ℕ) → Some x ≡ double all → length x.1 ≤ total all
unfolding total
double_second [] x h = cc
double_second (a ∷ []) x h = cc
double_second (a ∷ b ∷ []) x h = let same : x.1 ≡ b = ap (λ y. y.1) (same_Some _ _ h) in rw same (omega arith)
double_second (a ∷ b ∷ c ∷ all) x h = cc

second_of : (word line : List ℕ) (said : Option Words) (x : List ℕ × List ℕ)
    → said ≡ after word (words line) → Some x ≡ (said >>= double) → length x.1 ≤ length line
second_of word line None x e h = cc
second_of word line (Some rest) x e h =
    let one = double_second rest x h in
    let two = total_behind word line rest e in
    omega (arith, one, two)

-- the second word after the first is no longer than the line
pub second_short : (word line a b : List ℕ)
    → ◌≡◌ {A = Option (List ℕ × List ℕ)} (Some (a, b)) (after word (words line) >>= double)
    → length b ≤ length line
second_short word line a b h = second_of word line (after word (words line)) (a, b) refl h
