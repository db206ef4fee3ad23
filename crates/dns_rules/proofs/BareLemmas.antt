-- Judged sets without their chains, as a loop meets one more.
use Rattle.std.proofs.Common.{◌≡◌, ℕ, ◌+◌, ◌<◌, List, [], ◌∷◌, ◌++◌, length, take, get_or, sym, ap, ◌∙◌}
use Rattle.std.proofs.lemmas.List.{map-append, get_or-map, take_more}
use Rattle.dns_rules.specs.ChainedSets.{ChainedSet, bare}

pub bare_more : (sets : List ChainedSet) (i : ℕ) (x : ChainedSet) → i < length sets → x ≡ get_or sets i x
    → bare (take (i + 1) sets) ≡ bare (take i sets) ++ x.judged ∷ []
bare_more sets i x within read =
    ap bare (take_more sets i x within ∙ ap (λ y. take i sets ++ y ∷ []) (sym read)) ∙ map-append (λ c. c.judged) (take i sets) (x ∷ [])

-- the set at a place
pub bare_at : (sets : List ChainedSet) (i : ℕ) (x : ChainedSet) → i < length sets → x ≡ get_or sets i x
    → x.judged ≡ get_or (bare sets) i x.judged
bare_at sets i x within read = ap (λ c. c.judged) read ∙ sym (get_or-map (λ c. c.judged) sets i x x.judged within)
