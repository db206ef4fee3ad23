-- The rdatas of a link's set, one more at a time.
use Rattle.std.proofs.Common.{◌≡◌, ℕ, ◌+◌, ◌<◌, true, cond, List, [], ◌∷◌, ◌++◌, length, take, sym, ap, ◌∙◌}
use Rattle.std.specs.Prelude.{slice_index_or}
use Rattle.std.specs.Borrow.{Bor}
use Rattle.std.specs.List.{list_any}
use Rattle.std.specs.BTreeSet.{BTreeSet, contains, Updates}
use Rattle.std.proofs.lemmas.List.{take_more}
use Rattle.std.proofs.lemmas.List.Folds.{list_any-append}
use Rattle.std.proofs.lemmas.Map.Text.{is_eq-slice_cmp}
use Rattle.std.proofs.lemmas.Slice.Eq.{bytes_eq-Decides}
use Rattle.dns_model.specs.Keys.{bytes_eq}
use Rattle.dns_model.proofs.TestLemmas.{same_test, last_step}
use Rattle.dns_chain_check.specs.Indexed.{Holds, by_bytes}

turned : (a b : List ℕ) → bytes_eq a b ≡ true → bytes_eq b a ≡ true
turned a b h = (bytes_eq-Decides b a).1 (sym ((bytes_eq-Decides a b).0 h))

either_way : (a b : List ℕ) → bytes_eq a b ≡ bytes_eq b a
either_way a b = same_test (bytes_eq a b) (bytes_eq b a) (turned a b) (turned b a)

-- one rdata more
pub one_held : (rdatas : List (List ℕ)) (n : ℕ) (rdata : List ℕ) (reference : Bor (List ℕ)) (members more : BTreeSet (Bor (List ℕ)))
    → n < length rdatas → rdata ≡ slice_index_or rdatas n rdata → reference.now ≡ rdata → Updates by_bytes members more reference true
    → Holds members (take n rdatas) → Holds more (take (n + 1) rdatas)
one_held rdatas n rdata reference members more h at is updates held q =
    let taken : take (n + 1) rdatas ≡ take n rdatas ++ rdata ∷ [] = take_more rdatas n rdata h
    ∙ ap (λ r. take n rdatas ++ r ∷ []) (sym at) in
    updates.0 q
    ∙ ap (λ b. cond b true (contains by_bytes members q)) (is_eq-slice_cmp reference.now q.now
    ∙ ap (λ bytes. bytes_eq bytes q.now) is ∙ either_way rdata q.now)
    ∙ ap (cond (bytes_eq q.now rdata) true) (held q)
    ∙ sym (ap (list_any (bytes_eq q.now)) taken ∙ list_any-append (bytes_eq q.now) (take n rdatas) (rdata ∷ [])
    ∙ last_step (list_any (bytes_eq q.now) (take n rdatas)) (bytes_eq q.now rdata))
