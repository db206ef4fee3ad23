-- A line in two parts: some words, and the rest.
use Rattle.std.proofs.Common.{◌≡◌, [], ◌∷◌, ◌++◌, refl, sym, ap, ◌∙◌}
use Rattle.std.proofs.lemmas.List.{append_assoc}
use Rattle.dns_text.specs.Lines.{Words, line_rest, spaced}

pub rest_spaced : (words more : Words) → line_rest (words ++ more) ≡ spaced words ++ line_rest more
rest_spaced [] more = refl
rest_spaced (word ∷ words) more =
    ap (λ t. 32 ∷ (word ++ t)) (rest_spaced words more)
    ∙ ap (λ t. 32 ∷ t) (sym (append_assoc word (spaced words) (line_rest more)))
