-- The links of a chain, one at a time.
use Rattle.std.proofs.Common.{◌≡◌, ℕ, ◌+◌, ◌<◌, ◌≤◌, Bool, true, false, ◌&&◌, List, [], ◌∷◌, ◌++◌, length, map, take, drop, sym, ap, ◌∙◌}
use Rattle.std.specs.Prelude.{slice_index_or}
use Rattle.std.proofs.lemmas.List.{drop_all, drop_more, map-append, take_more}
use Rattle.dns_model.specs.Chains.{LinkValue, Judge, link_holds, links_hold}

-- one link more is taken
pub taken_more : {X : Type 0} (value : X → LinkValue) (links : List X) (n : ℕ) (link : X) → n < length links
    → link ≡ slice_index_or links n link
    → map value (take (n + 1) links) ≡ map value (take n links) ++ value link ∷ []
taken_more value links n link h at =
    ap (map value) (take_more links n link h ∙ ap (λ l. take n links ++ l ∷ []) (sym at)) ∙ map-append value (take n links) (link ∷ [])

-- the links that are left decide
abbrev pub LeftDecides : {X : Type 0} → (X → LinkValue) → Judge → List X → ℕ → Type 0
LeftDecides value j links n = links_hold j (map value (take n links)) (map value (drop n links)) ≡ links_hold j [] (map value links)

next_decides : {X : Type 0} (value : X → LinkValue) (j : Judge) (links : List X) (n : ℕ) (link : X) → n < length links
    → link ≡ slice_index_or links n link
    → LeftDecides value j links n
    → (link_holds j (map value (take n links)) (value link)
    && links_hold j (map value (take (n + 1) links)) (map value (drop (n + 1) links)))
    ≡ links_hold j [] (map value links)
unfolding links_hold
next_decides value j links n link h at decides =
    sym (ap (λ ls. links_hold j (map value (take n links)) (map value ls)) (drop_more links n link h
    ∙ ap (λ l. l ∷ drop (n + 1) links) (sym at))
    ∙ ap (λ ls. link_holds j (map value (take n links)) (value link) && links_hold j ls (map value (drop (n + 1) links)))
    (sym (taken_more value links n link h at)))
    ∙ decides

-- a link that holds leaves it to the next
pub goes_on : {X : Type 0} (value : X → LinkValue) (j : Judge) (links : List X) (n : ℕ) (link : X) (holds : Bool) → n < length links
    → link ≡ slice_index_or links n link → holds ≡ link_holds j (map value (take n links)) (value link) → holds ≡ true
    → LeftDecides value j links n → LeftDecides value j links (n + 1)
goes_on value j links n link holds h at is true_is decides =
    ap (λ b. b && links_hold j (map value (take (n + 1) links)) (map value (drop (n + 1) links))) (sym true_is ∙ is)
    ∙ next_decides value j links n link h at decides

-- one that doesn't ends it
pub ends : {X : Type 0} (value : X → LinkValue) (j : Judge) (links : List X) (n : ℕ) (link : X) (holds : Bool) → n < length links
    → link ≡ slice_index_or links n link → holds ≡ link_holds j (map value (take n links)) (value link) → holds ≡ false
    → LeftDecides value j links n → false ≡ links_hold j [] (map value links)
ends value j links n link holds h at is false_is decides =
    ap (λ b. b && links_hold j (map value (take (n + 1) links)) (map value (drop (n + 1) links))) (sym false_is ∙ is)
    ∙ next_decides value j links n link h at decides

-- none is left
pub all_passed : {X : Type 0} (value : X → LinkValue) (j : Judge) (links : List X) (n : ℕ) → length links ≤ n → LeftDecides value j links n
    → true ≡ links_hold j [] (map value links)
unfolding links_hold
all_passed value j links n h decides =
    sym (ap (λ ls. links_hold j (map value (take n links)) (map value ls)) (drop_all n links h)) ∙ decides
