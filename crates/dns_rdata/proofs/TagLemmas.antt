-- The sum of a key tag, of which 32 bits are kept.
use Rattle.std.proofs.Common.{◌≡◌, ℕ, ◌+◌, ◌-◌, ◌*◌, ◌/◌, ◌%◌, ◌^◌, ◌≤◌, ◌<◌, List, [], ◌∷◌, length, take, drop, get_or, arith, refl}
use Rattle.std.proofs.lemmas.Grind.{common_steps}
use Rattle.dns_model.specs.Signing.{tag_sum}

-- the tag needs no more than 32 bits of the sum
pub tag_from_32_bits : (sum : ℕ) → (sum % 2 ^ 32 + sum % 2 ^ 32 / 65536) % 65536 ≡ (sum + sum / 65536) % 65536
tag_from_32_bits sum = omega arith

-- adding to the sum that is kept, before or after the rest is added
pub kept_more : (sum more rest : ℕ) → ((sum + more) % 2 ^ 32 + rest) % 2 ^ 32 ≡ (sum + (more + rest)) % 2 ^ 32
kept_more sum more rest = omega arith

-- two bytes and the rest
pub sum_two : (bytes : List ℕ) → 2 ≤ length bytes
    → tag_sum bytes ≡ get_or bytes 0 0 * 256 + get_or bytes 1 0 + tag_sum (take (length bytes - 2) (drop 2 bytes))
unfolding tag_sum
sum_two [] h = grind arith
sum_two (x ∷ []) h = grind arith
sum_two (x ∷ y ∷ bytes) h = grind (arith, common_steps)

pub sum_one : (bytes : List ℕ) → length bytes < 2 → 1 ≤ length bytes → tag_sum bytes ≡ get_or bytes 0 0 * 256
unfolding tag_sum
sum_one [] g h = grind arith
sum_one (x ∷ []) g h = refl
sum_one (x ∷ y ∷ bytes) g h = grind arith

pub sum_none : (bytes : List ℕ) → length bytes < 1 → tag_sum bytes ≡ 0
unfolding tag_sum
sum_none [] g = refl
sum_none (x ∷ bytes) g = grind arith
