-- Label counts counted down (RFC 5155, 8.3).
use Rattle.std.proofs.Common.{◌≡◌, ℕ, zero, suc, ◌-◌, ◌≤◌, ◌<◌, true, false, [], ◌∷◌, refl, arith}
use Rattle.std.specs.Prelude.{nat_le}
use Rattle.std.proofs.lemmas.Bool.Decides.{nat_tests}
use Rattle.dns_denial.specs.Candidates.{label_counts}

pub counts_end : (zone above : ℕ) → above ≤ zone → label_counts zone above ≡ []
unfolding label_counts
counts_end zone zero h = refl
counts_end zone (suc above) h = let f : nat_le zone above ≡ false = grind (arith, nat_tests, h) in rw f refl

pub counts_next : (zone above : ℕ) → zone < above
    → label_counts zone above ≡ (above - 1) ∷ label_counts zone (above - 1)
unfolding label_counts
counts_next zone zero h = absurd (omega (arith, h))
counts_next zone (suc above) h =
    let t : nat_le zone above ≡ true = grind (arith, nat_tests, h) in
    let e : suc above - 1 ≡ above = omega arith in
    rw (t, e) refl
