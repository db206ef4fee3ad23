-- Words are no longer than the line that they stand in.
use Rattle.std.proofs.Common.{◌≡◌, ℕ, ◌+◌, ◌≤◌, ◌==◌, List, [], ◌∷◌, length, Option, None, Some, refl, ap, arith, inl, inr}
use Rattle.std.specs.List.{onto_first}
use Rattle.std.proofs.lemmas.Bool.{cases_Bool}
use Rattle.std.proofs.lemmas.Option.{same_Some}
use Rattle.dns_model.specs.Keys.{bytes_eq}
use Rattle.dns_model.specs.OptionSteps.{◌>>=◌}
use Rattle.dns_session.specs.LinePlaces.{pieces}
use Rattle.dns_session.specs.Lines.{Words, words, after, triple, three_after}

-- the bytes of all words
unfoldable pub total : Words → ℕ
total [] = 0
total (word ∷ rest) = length word + total rest

total_onto : (x : ℕ) (parts : Words) → total (onto_first x parts) ≤ total parts + 1
unfolding total
total_onto x [] = omega arith
total_onto x (part ∷ parts) = omega arith

total_pieces : (byte : ℕ) (text : List ℕ) → total (pieces byte text) ≤ length text
unfolding total
total_pieces byte [] = omega arith
total_pieces byte (x ∷ xs) =
    let ih = total_pieces byte xs in
    elim (cases_Bool (x == byte)) [
      | inl is ↦ rw is (omega (arith, ih))
      | inr isnt ↦ let more = total_onto x (pieces byte xs) in rw isnt (omega (arith, ih, more))
    ]

total_after : (word : List ℕ) (all rest : Words) → Some rest ≡ after word all → total rest ≤ total all
unfolding total
total_after word [] rest h = cc
total_after word (first ∷ others) rest h =
    elim (cases_Bool (bytes_eq first word)) [
      | inl is ↦ let same : rest ≡ others = same_Some _ _ (rw is at h) in rw same (omega arith)
      | inr isnt ↦ let none = rw isnt at h in cc
    ]

-- the words after the first have no more bytes than the line
pub total_behind : (word line : List ℕ) (rest : Words) → Some rest ≡ after word (words line) → total rest ≤ length line
total_behind word line rest h =
    let one = total_after word (words line) rest h in
    let two = total_pieces 32 line in
    omega (arith, one, two)

triple_third : (all : Words) (x : List ℕ × List ℕ × List ℕ) → Some x ≡ triple all → length x.2 ≤ total all
unfolding total
triple_third [] x h = cc
triple_third (a ∷ []) x h = cc
triple_third (a ∷ b ∷ []) x h = cc
triple_third (a ∷ b ∷ c ∷ []) x h = let same : x.2 ≡ c = ap (λ y. y.2) (same_Some _ _ h) in rw same (omega arith)
triple_third (a ∷ b ∷ c ∷ d ∷ all) x h = cc

third_of : (word line : List ℕ) (said : Option Words) (x : List ℕ × List ℕ × List ℕ)
    → said ≡ after word (words line) → Some x ≡ (said >>= triple) → length x.2 ≤ length line
third_of word line None x e h = cc
third_of word line (Some rest) x e h =
    let one = triple_third rest x h in
    let two = total_behind word line rest e in
    omega (arith, one, two)

-- the third word after the first is no longer than the line
pub third_short : (word line a b c : List ℕ)
    → ◌≡◌ {A = Option (List ℕ × List ℕ × List ℕ)} (Some (a, b, c)) (three_after word line) → length c ≤ length line
third_short word line a b c h = third_of word line (after word (words line)) (a, b, c) refl h
