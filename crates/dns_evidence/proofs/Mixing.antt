-- Four bytes are mixed into a number at once.
use Rattle.std.proofs.Common.{◌≡◌, ℕ, ◌+◌, ◌*◌, ◌%◌, ◌^◌, [], ◌∷◌, ap, ◌∙◌, arith, sym}
use Rattle.std.proofs.Math.Nat.{add-mod, mod-add-mod}
use Rattle.std.proofs.lemmas.Nat.{mul-mod_first, mul-mod_second}
use Rattle.dns_evidence.specs.Finding.{mixed}

-- a remainder goes on as its number does
after_remainder : (s p b m : ℕ) → (s % m * p % m + b) % m ≡ (s * p + b) % m
after_remainder s p b m = ap (λ x. (x + b) % m) (mul-mod_first s p m) ∙ mod-add-mod (s * p) m b

-- four bytes, one after another
in_turn : (s a b c d p m : ℕ)
    → ((((s * p % m + a) % m * p % m + b) % m * p % m + c) % m * p % m + d) % m ≡ ((((s * p + a) * p + b) * p + c) * p + d) % m
in_turn s a b c d p m =
    ap (λ x. (((x * p % m + b) % m * p % m + c) % m * p % m + d) % m) (mod-add-mod (s * p) m a)
    ∙ ap (λ x. ((x * p % m + c) % m * p % m + d) % m) (after_remainder (s * p + a) p b m)
    ∙ ap (λ x. (x * p % m + d) % m) (after_remainder ((s * p + a) * p + b) p c m)
    ∙ after_remainder (((s * p + a) * p + b) * p + c) p d m

-- and at once
at_once : (x y z w d m : ℕ) → (((x % m + y % m) % m + (z % m + w % m) % m) % m + d) % m ≡ (x + y + (z + w) + d) % m
at_once x y z w d m =
    ap (λ n. (n + d) % m) (ap (λ n. (n + (z % m + w % m) % m) % m) (sym (add-mod x y m))
    ∙ ap (λ n. ((x + y) % m + n) % m) (sym (add-mod z w m))
    ∙ sym (add-mod (x + y) (z + w) m))
    ∙ mod-add-mod (x + y + (z + w)) m d

-- the powers of the factor, written out
powers_of_factor : (s a b c d : ℕ)
    → s * 1461501639643759632241992381230392390794884791441 + a * 1329227997362564068125063396651957931
    + (b * 1208925820571204291060521 + c * 1099511628211) + d
    ≡ (((s * 1099511628211 + a) * 1099511628211 + b) * 1099511628211 + c) * 1099511628211 + d
powers_of_factor s a b c d = omega arith

-- what the code computes of four bytes is what the definition does
pub four_at_once : (s a b c d : ℕ)
    → (((s * 11527715348014283921 % 2 ^ 64 + a * 624165263380053675 % 2 ^ 64) % 2 ^ 64
    + (b * 956575116354345 % 2 ^ 64 + c * 1099511628211 % 2 ^ 64) % 2 ^ 64) % 2 ^ 64 + d) % 2 ^ 64
    ≡ mixed s (a ∷ b ∷ c ∷ d ∷ [])
unfolding mixed
four_at_once s a b c d =
    ap (λ x. (((x + a * 624165263380053675 % 2 ^ 64) % 2 ^ 64 + (b * 956575116354345 % 2 ^ 64 + c * 1099511628211 % 2 ^ 64) % 2 ^ 64)
    % 2 ^ 64 + d) % 2 ^ 64)
    (mul-mod_second s 1461501639643759632241992381230392390794884791441 (2 ^ 64))
    ∙ ap (λ x. (((s * 1461501639643759632241992381230392390794884791441 % 2 ^ 64 + x) % 2 ^
    64 + (b * 956575116354345 % 2 ^ 64 + c * 1099511628211 % 2 ^ 64) % 2 ^ 64) % 2 ^ 64 + d) % 2 ^ 64)
    (mul-mod_second a 1329227997362564068125063396651957931 (2 ^ 64))
    ∙ ap (λ x. (((s * 1461501639643759632241992381230392390794884791441 % 2 ^ 64 + a * 1329227997362564068125063396651957931 % 2 ^ 64)
    % 2 ^ 64 + (x + c * 1099511628211 % 2 ^ 64) % 2 ^ 64) % 2 ^ 64 + d) % 2 ^ 64)
    (mul-mod_second b 1208925820571204291060521 (2 ^ 64))
    ∙ at_once (s * 1461501639643759632241992381230392390794884791441) (a * 1329227997362564068125063396651957931)
    (b * 1208925820571204291060521) (c * 1099511628211) d (2 ^ 64)
    ∙ ap (λ n. n % 2 ^ 64)
    (powers_of_factor s a b c d)
    ∙ sym (in_turn s a b c d 1099511628211 (2 ^ 64))
