-- Parts of a list, cut again.
use Rattle.std.proofs.Common.{◌≡◌, ℕ, ◌+◌, ◌-◌, ◌≤◌, List, length, take, drop, slice_range, ap, ◌∙◌, arith, sym, length-take-le, length-drop}
use Rattle.std.proofs.lemmas.List.{drop-drop, take-take}
use Rattle.std.proofs.lemmas.Slice.{between_is}

-- how long a part is
pub part_length : (xs : List ℕ) (start end : ℕ) → start ≤ end → end ≤ length xs → length (slice_range xs start end) ≡ end - start
part_length xs start end rises inside = length-take-le (end - start) (drop start xs) (omega (arith, rises, inside, length-drop start xs))

-- a part of a part is a part of the list
pub part_of_part : (xs : List ℕ) (start end a b : ℕ) → start ≤ end → end ≤ length xs → a ≤ b → b ≤ length (slice_range xs start end)
    → slice_range xs (start + a) (start + b) ≡ slice_range (slice_range xs start end) a b
part_of_part xs start end a b rises inside less fits =
    let long = part_length xs start end rises inside in
    let same : b - a ≡ start + b - (start + a) = omega arith in
    sym (ap (take (b - a)) (ap (drop a) (between_is xs start end) ∙ drop-drop a start (take end xs) ∙ sym (between_is xs (start + a) end))
    ∙ take-take (b - a) (end - (start + a)) (drop (start + a) xs) (omega (arith, less, fits, long))
    ∙ ap (λ n. take n (drop (start + a) xs)) same)

-- the front of a part
pub front_of_part : (xs : List ℕ) (start end n : ℕ) → n ≤ end - start → slice_range xs start (start + n) ≡ take n (slice_range xs start end)
front_of_part xs start end n fits =
    let same : start + n - start ≡ n = omega arith in
    ap (λ k. take k (drop start xs)) same ∙ sym (take-take n (end - start) (drop start xs) fits)
