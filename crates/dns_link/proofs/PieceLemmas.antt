-- Pieces in which bytes are read.
use Rattle.std.proofs.Common.{◌≡◌, ℕ, suc, ◌+◌, ◌-◌, ◌<◌, ◌==◌, true, false, List, [], ◌∷◌, ◌++◌, All, length, take, drop, map, refl, sym, ap, ◌∙◌, arith, append-nil}
use Rattle.std.specs.List.{concat, sum}
use Rattle.std.proofs.Math.Seq.{take-add}
use Rattle.std.proofs.lemmas.List.{drop-drop, length-append}
use Rattle.std.proofs.lemmas.List.Folds.{concat-append}
use Rattle.std.proofs.lemmas.List.Sums.{sum_by-cons}
use Rattle.dns_link.specs.Pairs.{first_or_none, read_of_piece}

-- lists in a row, with one more behind them
pub concat-push : (xs : List (List ℕ)) (x : List ℕ) → concat (xs ++ x ∷ []) ≡ concat xs ++ x
concat-push xs x = concat-append xs (x ∷ []) ∙ ap (λ l. concat xs ++ l) (append-nil x)

-- the first and the others are as much as all
pub turned_sum : (later : List ℕ) → first_or_none later + sum (drop 1 later) ≡ sum later
turned_sum [] = refl
turned_sum (n ∷ ns) = sym (sum_by-cons (λ x. x) n ns)

pub turned_last : (later : List ℕ) → All (λ n. 0 < n) later → first_or_none later ≡ 0 → drop 1 later ≡ []
turned_last [] h e = refl
turned_last (n ∷ ns) h e =
    let some : 0 < n = h 0 n (omega arith) in
    absurd (omega arith)

pub turned_some : (later : List ℕ) → All (λ n. 0 < n) later → All (λ n. 0 < n) (drop 1 later)
turned_some [] h = h
turned_some (n ∷ ns) h = λ k d lt. h (suc k) d (omega arith)

-- bytes of a piece were read, and some of it or no piece are left
pub read_more : (at n p : ℕ) (b l : List ℕ) → ((p - n) == 0) ≡ false
    → read_of_piece n (record { given = take at b; left = drop at b; piece = p; later = l })
    ≡ record { given = take (at + n) b; left = drop (at + n) b; piece = p - n; later = l }
read_more at n p b l t =
    let a : take (at + n) b ≡ take at b ++ take n (drop at b) = take-add at n b in
    let d : drop n (drop at b) ≡ drop (at + n) b = grind (arith, drop-drop {A = ℕ}) in
    rw (t, a, d) refl

pub read_whole : (at n p : ℕ) (b l : List ℕ) → ((p - n) == 0) ≡ true
    → read_of_piece n (record { given = take at b; left = drop at b; piece = p; later = l })
    ≡ record { given = take (at + n) b; left = drop (at + n) b; piece = first_or_none l; later = drop 1 l }
read_whole at n p b l t =
    let a : take (at + n) b ≡ take at b ++ take n (drop at b) = take-add at n b in
    let d : drop n (drop at b) ≡ drop (at + n) b = grind (arith, drop-drop {A = ℕ}) in
    rw (t, a, d) refl

-- as many bytes as the lists have are in them all
pub sum_lengths : (xs : List (List ℕ)) → sum (map length xs) ≡ length (concat xs)
sum_lengths [] = refl
sum_lengths (x ∷ xs) =
    sum_by-cons (λ n. n) (length x) (map length xs) ∙ ap (λ n. length x + n) (sum_lengths xs) ∙ sym (length-append x (concat xs))
