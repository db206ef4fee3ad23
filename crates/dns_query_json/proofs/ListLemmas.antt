-- Lists of values whose texts are those of what is seen of them.
use Rattle.std.proofs.Common.{◌≡◌, ◌++◌, ◌∷◌, [], ℕ, List, map, refl, ap, sym}
use Rattle.std.proofs.lemmas.List.Folds.{flat_map-map}
use Rattle.dns_query_json.specs.Json.{listed}

-- the list of such values is the list of what is seen of them
pub listed_as_seen : {A B : Type 0} (text : B → List ℕ) (view : A → B) (xs : List A)
    → listed (λ x. text (view x)) xs ≡ listed text (map view xs)
listed_as_seen text view [] = refl
listed_as_seen text view (x ∷ xs) =
    ap (λ rest. 91 ∷ ((text (view x) ++ rest) ++ 93 ∷ [])) (sym (flat_map-map (λ y. 44 ∷ text y) view xs))
