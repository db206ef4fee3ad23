-- What the hasher of a cache's keys computes.
use Rattle.std.specs.Prelude.{ℕ, ◌*◌, ◌%◌, ◌^◌, List, [], ◌∷◌, length, fold, bit_or, bit_xor}
use Rattle.std.specs.Int.{w64, from_le_bytes}
use Rattle.std.specs.Hash.FoldHasher.{folded_multiply}
use Rattle.dns_cache.specs.declared.key_hasher.KeyHasher.{KeyHasher}

abbrev pub first_state : KeyHasher
first_state = record { state = 0x243f_6a88_85a3_08d3 }

-- the state after a word of 64 bits: the product of their xor and a constant has 128 bits, and its halves are joined by xor
abbrev pub mixed : ℕ → ℕ → ℕ
mixed state word = folded_multiply (bit_xor state word) 0x9e37_79b9_7f4a_7c15

-- `x << by` in 64 bits
abbrev pub shifted : ℕ → ℕ → ℕ
shifted x by = x * 2 ^ by % 2 ^ 64

-- fewer than eight bytes as a number, the first one highest
abbrev pub short_word : List ℕ → ℕ
short_word bytes = fold (λ word byte. bit_or (shifted word 8) byte) 0 bytes

-- the state after the words of some bytes, which are the end of n bytes: each eight bytes are a word, the first one lowest, and fewer
-- than eight, or none, are the last word, in whose highest byte n stands modulo 256
unfoldable pub words_mixed : ℕ → ℕ → List ℕ → ℕ
words_mixed n state (a ∷ b ∷ c ∷ d ∷ e ∷ f ∷ g ∷ h ∷ rest) =
    words_mixed n (mixed state (from_le_bytes w64 (a ∷ b ∷ c ∷ d ∷ e ∷ f ∷ g ∷ h ∷ []))) rest
words_mixed n state rest = mixed state (bit_xor (short_word rest) (shifted n 56))

-- the state after `write(bytes)`
abbrev pub bytes_mixed : ℕ → List ℕ → ℕ
bytes_mixed state bytes = words_mixed (length bytes) state bytes

abbrev pub state_after : KeyHasher → List ℕ → KeyHasher
state_after h bytes = record { state = bytes_mixed h.state bytes }
