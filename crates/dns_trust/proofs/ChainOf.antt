-- The chain of the first verdict that proves a set, and the numbers of keys.
use Rattle.std.proofs.Common.{◌≡◌, ℕ, ◌+◌, ◌<◌, List, [], ◌∷◌, ◌++◌, length, drop, take, refl, sym, ap, ◌∙◌, arith, append_assoc}
use Rattle.std.proofs.lemmas.List.{drop_more, map-append, map_more}
use Rattle.std.specs.Prelude.{map, slice_index_or}
use Rattle.dns_model.specs.Records.{Rr}
use Rattle.dns_model.specs.Chains.{LinkValue}
use Rattle.dns_rules.specs.ChainedSets.{ChainedVerdict, chain_if_proved, proved_chain, numbers_from}

-- the chain of the first verdict that proves, or another chain
abbrev pub chain_else : List ChainedVerdict → List LinkValue → List LinkValue
chain_else [] chain = chain
chain_else (v ∷ vs) chain = chain_if_proved v.verdict v.chain (chain_else vs chain)

pub chain_else-none : (vs : List ChainedVerdict) → chain_else vs [] ≡ proved_chain vs
chain_else-none [] = refl
chain_else-none (v ∷ vs) = ap (chain_if_proved v.verdict v.chain) (chain_else-none vs)

pub chain_else-append : (vs : List ChainedVerdict) (v : ChainedVerdict) (chain : List LinkValue)
    → chain_else (vs ++ v ∷ []) chain ≡ chain_else vs (chain_else (v ∷ []) chain)
chain_else-append [] v chain = refl
chain_else-append (w ∷ vs) v chain = ap (chain_if_proved w.verdict w.chain) (chain_else-append vs v chain)

-- one link more, behind a front
pub links_more : {L : Type 0} (value : L → LinkValue) (link_of : Rr
    → LinkValue) (front : List LinkValue) (links more : List L) (keys all : List Rr) (i : ℕ) (link : L) (key : Rr)
    → keys ≡ all → i < length keys → key ≡ slice_index_or keys i key → value link ≡ link_of key → more ≡ links ++ link ∷ []
    → map value links ≡ front ++ map link_of (take i all)
    → map value more ≡ front ++ map link_of (take (i + 1) all)
links_more value link_of front links more keys all i link key same h at is pushed before =
    ap (map value) pushed ∙ map-append value links (link ∷ [])
    ∙ ap (λ vs. vs ++ value link ∷ []) (before ∙ ap (λ ks. front ++ map link_of (take i ks)) (sym same))
    ∙ append_assoc front (map link_of (take i keys)) (value link ∷ [])
    ∙ ap (λ v. front ++ (map link_of (take i keys) ++ v ∷ [])) (is ∙ ap link_of at)
    ∙ ap (λ vs. front ++ vs) (sym (map_more link_of keys i key h))
    ∙ ap (λ ks. front ++ map link_of (take (i + 1) ks)) same

-- one number more
pub numbers_more : (done : List ℕ) (keys : List (List ℕ)) (first i : ℕ) → i < length keys
    → (done ++ (first + i) ∷ []) ++ numbers_from (first + (i + 1)) (drop (i + 1) keys) ≡ done ++ numbers_from (first + i) (drop i keys)
numbers_more done keys first i h =
    let next : first + (i + 1) ≡ first + i + 1 = omega arith in
    append_assoc done ((first + i) ∷ []) (numbers_from (first + (i + 1)) (drop (i + 1) keys))
    ∙ ap (λ n. done ++ (first + i) ∷ numbers_from n (drop (i + 1) keys)) next
    ∙ ap (λ ks. done ++ numbers_from (first + i) ks) (sym (drop_more keys i [] h))

-- the last verdict is taken off
pub chain_else_pop : {V : Type 0} (f : V → ChainedVerdict) (old rest : List V) (v : V) (chain : List LinkValue) → old ≡ rest ++ v ∷ []
    → chain_else (map f rest) (chain_else (f v ∷ []) chain) ≡ chain_else (map f old) chain
chain_else_pop f old rest v chain is =
    sym (ap (λ vs. chain_else (map f vs) chain) is
    ∙ ap (λ vs. chain_else vs chain) (map-append f rest (v ∷ []))
    ∙ chain_else-append (map f rest) (f v) chain)
