-- Reading numbers of eight bits, word by word.
use Rattle.std.proofs.Common.{◌≡◌, ℕ, ◌+◌, List, [], ◌∷◌, ◌++◌, length, Option, None, Some, refl, ap, ◌∙◌, append_assoc, append-nil, Bor}
use Rattle.std.specs.Option.{option_map}
use Rattle.dns_text.specs.Words.{decimal_in}
use Rattle.dns_model.specs.OptionSteps.{◌>>=◌}
use Rattle.dns_session.specs.Lines.{words, words_left, bytes_in}

-- the numbers that were read, before those that follow
abbrev pub with_bytes : List ℕ → Option (List ℕ) → Option (List ℕ)
with_bytes front more = option_map (λ others. front ++ others) more

-- how many bytes are left, with one for the words themselves
abbrev pub bytes_left : Option (Bor (List ℕ)) → ℕ
bytes_left None = 0
bytes_left (Some rest) = length rest.now + 1

with_one : (front : List ℕ) (n : ℕ) (more : Option (List ℕ))
    → with_bytes (front ++ n ∷ []) more ≡ with_bytes front (more >>= λ others. Some (n ∷ others))
with_one front n None = refl
with_one front n (Some others) = ap Some (append_assoc front (n ∷ []) others)

pub next_byte : (front text word : List ℕ) (more all : Option (List ℕ)) (n : ℕ)
    → with_bytes front (bytes_in (words text)) ≡ all → words text ≡ word ∷ words_left more
    → Some n ≡ decimal_in 255 word → with_bytes (front ++ n ∷ []) (bytes_in (words_left more)) ≡ all
unfolding bytes_in
next_byte front text word more all n so_far cut h =
    with_one front n (bytes_in (words_left more)) ∙ rw (cut, ← h) at so_far

pub no_byte : (front text word : List ℕ) (more all : Option (List ℕ)) → with_bytes front (bytes_in (words text)) ≡ all
    → words text ≡ word ∷ words_left more → None ≡ decimal_in 255 word → None ≡ all
unfolding bytes_in
no_byte front text word more all so_far cut h = rw (cut, ← h) at so_far

pub all_bytes : (front : List ℕ) (all : Option (List ℕ)) → with_bytes front (bytes_in []) ≡ all → Some front ≡ all
unfolding bytes_in
all_bytes front all so_far = rw append-nil at so_far
