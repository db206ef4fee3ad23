-- The words of bytes, one by one.
use Rattle.std.proofs.Common.{◌≡◌, ℕ, ◌<◌, ◌≤◌, List, ◌∷◌, length, take, drop, refl, ap, ◌∙◌, sym, arith}
use Rattle.std.specs.Prelude.{bit_xor}
use Rattle.std.specs.Int.{w64, from_le_bytes}
use Rattle.dns_cache.specs.KeyHashing.{mixed, shifted, short_word, words_mixed}

pub words_more : (n state : ℕ) (bytes : List ℕ) → 8 ≤ length bytes
    → words_mixed n state bytes ≡ words_mixed n (mixed state (from_le_bytes w64 (take 8 bytes))) (drop 8 bytes)
unfolding words_mixed
words_more n state (a ∷ b ∷ c ∷ d ∷ e ∷ f ∷ g ∷ h ∷ rest) enough = refl
words_more n state bytes enough = absurd (omega (arith, enough))

pub words_end : (n state : ℕ) (bytes : List ℕ) → length bytes < 8
    → words_mixed n state bytes ≡ mixed state (bit_xor (short_word bytes) (shifted n 56))
unfolding words_mixed
words_end n state (a ∷ b ∷ c ∷ d ∷ e ∷ f ∷ g ∷ h ∷ rest) short = absurd (omega (arith, short))
words_end n state bytes short = refl

-- the state after one word more
pub after_word : (n state next : ℕ) (bytes word rest : List ℕ) → 8 ≤ length bytes → word ≡ take 8 bytes → rest ≡ drop 8 bytes
    → next ≡ mixed state (from_le_bytes w64 word) → words_mixed n next rest ≡ words_mixed n state bytes
after_word n state next bytes word rest enough front back is =
    ap (λ s. words_mixed n s rest) is ∙ ap (λ w. words_mixed n (mixed state (from_le_bytes w64 w)) rest) front
    ∙ ap (λ r. words_mixed n (mixed state (from_le_bytes w64 (take 8 bytes))) r) back ∙ sym (words_more n state bytes enough)
