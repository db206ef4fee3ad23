-- How many steps a search takes, as a number to which 2 is raised and as a count.
use Rattle.std.proofs.Common.{◌≡◌, ℕ, zero, suc, ◌+◌, ◌-◌, ◌*◌, ◌^◌, ◌<◌, ◌≤◌, sym, ap, ◌∙◌, arith, ⊎_elim}
use Rattle.std.specs.Prelude.{nat_le}
use Rattle.std.proofs.lemmas.Bool.{leb-true, leb-false, cases_lt, cond_both}
use Rattle.std.proofs.Math.Nat.{pow-suc, pow-zero, suc-mul, zero-mul}
use Rattle.std.proofs.lemmas.Nat.{pow-add, pow_pos, mul-le}
use Rattle.dns_denial_index.specs.Steps.{greatest_power, most_steps}

-- 2 raised to the greatest such number is within the limit
power_within : (power limit : ℕ) → 0 < limit → 2 ^ greatest_power power limit ≤ limit
unfolding greatest_power
power_within zero limit some = omega (arith, some)
power_within (suc power) limit some =
    cond_both (nat_le (2 ^ suc power) limit) (suc power) (greatest_power power limit) (λ n. 2 ^ n ≤ limit)
    (λ e. leb-true (2 ^ suc power) limit e) (λ e. power_within power limit some)

-- a number within both is at most the greatest
power_is_most : (power limit number : ℕ) → number ≤ power → 2 ^ number ≤ limit → number ≤ greatest_power power limit
unfolding greatest_power
power_is_most zero limit number le within = le
power_is_most (suc power) limit number le within =
    cond_both (nat_le (2 ^ suc power) limit) (suc power) (greatest_power power limit) (λ n. number ≤ n)
    (λ e. le)
    (λ e. ⊎_elim {A = number < suc power} {B = suc power ≤ number} {C = number ≤ greatest_power power limit}
    (λ lt. power_is_most power limit number (omega (arith, lt)) within)
    (λ ge.
    let same : number ≡ suc power = omega (arith, ge, le) in
    let big : 2 ^ suc power ≡ 2 ^ number = ap (λ n. 2 ^ n) (sym same) in
    absurd (omega (arith, leb-false (2 ^ suc power) limit e, big, within)))
    (cases_lt number (suc power)))

power_is_greater : (number : ℕ) → number < 2 ^ number
power_is_greater zero = omega arith
power_is_greater (suc number) = omega (arith, power_is_greater number, pow-suc 2 number)

-- the steps of a search, as the bound that a verdict's searches have
pub steps_within : (count before after : ℕ) → before ≤ after → 2 ^ (after - before) ≤ 4 * count + 1
    → after ≤ before + most_steps count
steps_within count before after rises within =
    let few : after - before < 2 ^ (after - before) = power_is_greater (after - before) in
    let most : after - before ≤ most_steps count =
    power_is_most (4 * count + 1) (4 * count + 1) (after - before) (omega (arith, few, within)) within in
    omega (arith, most, rises)

powers_rise : (one two : ℕ) → one ≤ two → 2 ^ one ≤ 2 ^ two
powers_rise one two le =
    let e : 2 ^ two ≡ 2 ^ one * 2 ^ (two - one) = ap (λ n. 2 ^ n) (omega (arith, le)) ∙ pow-add 2 one (two - one) in
    let more : 2 ^ one * 1 ≤ 2 ^ one * 2 ^ (two - one) =
    mul-le (2 ^ one) 1 (2 ^ one) (2 ^ (two - one)) (omega arith) (pow_pos (two - one)) in
    omega (arith, e, more)

power_of_searches : (searches count : ℕ) → 2 ^ (searches * most_steps count) ≤ (4 * count + 1) ^ searches
power_of_searches zero count =
    let e : 2 ^ (0 * most_steps count) ≡ 1 = ap (λ n. 2 ^ n) (zero-mul (most_steps count)) in
    omega (arith, e, pow-zero (4 * count + 1))
power_of_searches (suc searches) count =
    let e : 2 ^ (suc searches * most_steps count) ≡ 2 ^ (searches * most_steps count) * 2 ^ most_steps count =
    ap (λ n. 2 ^ n) (suc-mul searches (most_steps count))
    ∙ pow-add 2 (searches * most_steps count) (most_steps count) in
    let f : (4 * count + 1) ^ suc searches ≡ (4 * count + 1) ^ searches * (4 * count + 1) =
    pow-suc (4 * count + 1) searches in
    let one : 2 ^ most_steps count ≤ 4 * count + 1 = power_within (4 * count + 1) (4 * count + 1) (omega arith) in
    omega (
      arith,
      e,
      f,
      mul-le (2 ^ (searches * most_steps count)) (2 ^ most_steps count) ((4 * count + 1) ^ searches) (4 * count + 1)
          (power_of_searches searches count) one,
    )

-- the steps of so many searches
pub searches_within : (searches count before after : ℕ) → after ≤ before + searches * most_steps count
    → 2 ^ (after - before) ≤ (4 * count + 1) ^ searches
searches_within searches count before after le =
    let rise : 2 ^ (after - before) ≤ 2 ^ (searches * most_steps count) =
    powers_rise (after - before) (searches * most_steps count) (omega (arith, le)) in
    omega (arith, rise, power_of_searches searches count)
