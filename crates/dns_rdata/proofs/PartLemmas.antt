-- Parts of an rdata.
use Rattle.std.proofs.Common.{◌≡◌, ℕ, ◌+◌, ◌≤◌, true, nat_le, List, [], ◌∷◌, length, take, drop, Some, arith, subst}
use Rattle.std.proofs.lemmas.Grind.{common_steps}
use Rattle.std.proofs.lemmas.Bool.{leb-true}
use Rattle.std.proofs.lemmas.Bool.Decides.{nat_tests}
use Rattle.dns_rdata.proofs.Through.{let_through, test_through}
use Rattle.dns_model.specs.Shapes.{Plain, counted_in, plain_front}

counted_whole : (size : ℕ) (xs : List ℕ) → size ≤ length xs
    → plain_front (length (take size xs) + 1) (size ∷ xs) ≡ Some (Plain (length (take size xs) ∷ take size xs), drop size xs)
counted_whole size xs h =
    let e : length (take size xs) ≡ size = grind (arith, common_steps) in
    rw e (grind (arith, common_steps, nat_tests))

-- a counted text with its length byte is as many bytes of the front
pub counted_plain : (bytes text rest : List ℕ) → counted_in bytes ≡ Some (text, rest)
    → plain_front (length text + 1) bytes ≡ Some (Plain (length text ∷ text), rest)
unfolding counted_in
counted_plain [] text rest h = cc
counted_plain (size ∷ xs) text rest h =
    let t : nat_le size (length xs) ≡ true = test_through _ _ _ h in
    let l : size ≤ length xs = leb-true _ _ t in
    let p = let_through _ _ _ h in
    let P : List ℕ × List ℕ → Type 0 = λ p. plain_front (length p.0 + 1) (size ∷ xs) ≡ Some (Plain (length p.0 ∷ p.0), p.1) in
    subst P p (counted_whole size xs l)
