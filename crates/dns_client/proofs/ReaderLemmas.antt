-- Fronts of one list.
use Rattle.std.proofs.Common.{◌≡◌, ℕ, zero, suc, List, [], ◌∷◌, length, take, refl, ap, ◌⊎◌, inl, inr}
use Rattle.dns_client.specs.Readers.{Begins}

-- each front begins the list
pub front_begins : {T : Type 0} (n : ℕ) (items : List T) → Begins (take n items) items
front_begins zero items = refl
front_begins (suc n) [] = refl
front_begins (suc n) (x ∷ items) = ap (λ xs. x ∷ xs) (front_begins n items)

-- of two lists one begins the other
abbrev Agree : {T : Type 0} → List T → List T → Type 0
Agree xs ys = Begins xs ys ⊎ Begins ys xs

-- two fronts of one list do
pub fronts_agree : {T : Type 0} (n m : ℕ) (items : List T) → Agree (take n items) (take m items)
fronts_agree zero m items = inl refl
fronts_agree (suc n) zero items = inr refl
fronts_agree (suc n) (suc m) [] = inl refl
fronts_agree (suc n) (suc m) (x ∷ items) =
    elim (fronts_agree n m items) as (λ _. Agree (x ∷ take n items) (x ∷ take m items)) [
      | inl front ↦ inl (ap (λ xs. x ∷ xs) front)
      | inr front ↦ inr (ap (λ xs. x ∷ xs) front)
    ]
