-- The canonical order of names is total and agrees with their equality; how it is found from the leaf on (RFC 4034, 6.1).
use Rattle.std.proofs.Common.{◌≡◌, ℕ, ◌-◌, ◌<◌, List, [], ◌∷◌, ◌++◌, reverse, length, take, drop, refl, sym, ap, ◌∙◌, arith, Decides, Ordering}
use Rattle.std.specs.Prelude.{nat_eq}
use Rattle.std.specs.Cmp.{IsTotalOrder}
use Rattle.std.specs.Cmp.Lexicographic.{pointwise, slice_cmp, lists_ties}
use Rattle.std.specs.Ordering.{nat_cmp, is_eq, eq_by_cmp, ordering_then}
use Rattle.std.specs.declared.cmp.Ordering.TheVariants.{Less, Equal, Greater}
use Rattle.std.proofs.lemmas.Bool.Decides.{nat_tests, same_from_decides}
use Rattle.std.proofs.lemmas.Cmp.{on_total, lists_total, nat_list_cmp_total}
use Rattle.std.proofs.lemmas.List.{reverse-append, reverse-reverse, length-reverse, length-map, take-append-drop, length-drop, length-take-le, map-append, append-nil}
use Rattle.std.proofs.lemmas.Slice.Eq.{slice_eq-Decides, bytes_eq-Decides}
use Rattle.dns_model.specs.Names.{Label, Labels, lowered, folded, labels_eq, labels_cmp, name_eq, name_cmp}

-- labels, whose case counts, are in a total order
pub labels_total : IsTotalOrder labels_cmp
labels_total = on_total (λ (n : Labels). reverse n) (lists_total nat_list_cmp_total)

pub name_total : IsTotalOrder name_cmp
name_total = on_total folded labels_total

pub nat_ties : (x y : ℕ) → nat_eq x y ≡ eq_by_cmp nat_cmp x y
nat_ties x y = grind (arith, nat_tests)

-- byte strings are equal exactly where their order does not tell them apart
pub bytes_ties : (a b : List ℕ) → pointwise nat_eq a b ≡ eq_by_cmp (slice_cmp nat_cmp) a b
bytes_ties a b = lists_ties nat_cmp nat_ties a b

-- the test of equal labels decides whether they are one
pub labels_Decides : (a b : Labels) → Decides (labels_eq a b) (a ≡ b)
labels_Decides a b = slice_eq-Decides bytes_eq-Decides a b (labels_eq a b) refl

-- lists that are equal read backwards are equal
reversed_Decides : (a b : Labels) → Decides (labels_eq (reverse a) (reverse b)) (a ≡ b)
reversed_Decides a b =
    let d = labels_Decides (reverse a) (reverse b) in
    (λ h. sym (reverse-reverse a) ∙ ap reverse (d.0 h) ∙ reverse-reverse b, λ h. d.1 (ap reverse h))

-- labels are equal exactly where the order does not tell them apart
pub labels_ties : (a b : Labels) → labels_eq a b ≡ is_eq (labels_cmp a b)
labels_ties a b =
    same_from_decides (labels_eq a b) (labels_eq (reverse a) (reverse b)) (labels_Decides a b) (reversed_Decides a b)
    ∙ lists_ties (slice_cmp nat_cmp) (lists_ties nat_cmp nat_ties) (reverse a) (reverse b)

-- and so are names
pub name_ties : (a b : Labels) → name_eq a b ≡ is_eq (name_cmp a b)
name_ties a b = labels_ties (folded a) (folded b)

-- ---- from the leaf on

pub then_assoc : (p q r : Ordering) → ordering_then p (ordering_then q r) ≡ ordering_then (ordering_then p q) r
then_assoc Less q r = refl
then_assoc Equal q r = refl
then_assoc Greater q r = refl

-- lists of one length, each with a list after it
pub cmp-append : {X : Type 0} (R : X → X → Ordering) (xs ys us vs : List X) → length xs ≡ length ys
    → slice_cmp R (xs ++ us) (ys ++ vs) ≡ ordering_then (slice_cmp R xs ys) (slice_cmp R us vs)
cmp-append R [] [] us vs same = refl
cmp-append R [] (y ∷ ys) us vs same = absurd (omega arith)
cmp-append R (x ∷ xs) [] us vs same = absurd (omega arith)
cmp-append R (x ∷ xs) (y ∷ ys) us vs same =
    ap (ordering_then (R x y)) (cmp-append R xs ys us vs (omega arith)) ∙ then_assoc (R x y) (slice_cmp R xs ys) (slice_cmp R us vs)

pub then_Equal : (p : Ordering) → ordering_then p Equal ≡ p
then_Equal Less = refl
then_Equal Equal = refl
then_Equal Greater = refl

-- names with as many labels: those above the first labels decide, and then the first labels
pub name_cmp-cons : (x y : Label) (a b : Labels) → length a ≡ length b
    → name_cmp (x ∷ a) (y ∷ b) ≡ ordering_then (name_cmp a b) (slice_cmp nat_cmp (lowered x) (lowered y))
name_cmp-cons x y a b same =
    let left : reverse (folded (x ∷ a)) ≡ reverse (folded a) ++ lowered x ∷ [] = reverse-append (lowered x ∷ []) (folded a) in
    let right : reverse (folded (y ∷ b)) ≡ reverse (folded b) ++ lowered y ∷ [] = reverse-append (lowered y ∷ []) (folded b) in
    let long : length (reverse (folded a)) ≡ length (reverse (folded b)) =
    rw (length-reverse (folded a), length-reverse (folded b), length-map a lowered, length-map b lowered) same in
    let whole = cmp-append (slice_cmp nat_cmp) (reverse (folded a)) (reverse (folded b)) (lowered x ∷ []) (lowered y ∷ []) long in
    let last : slice_cmp (slice_cmp nat_cmp) (lowered x ∷ []) (lowered y ∷ []) ≡ slice_cmp nat_cmp (lowered x) (lowered y) =
    then_Equal (slice_cmp nat_cmp (lowered x) (lowered y)) in
    ap (λ (n : Labels). slice_cmp (slice_cmp nat_cmp) n (reverse (folded (y ∷ b)))) left
    ∙ ap (λ (n : Labels). slice_cmp (slice_cmp nat_cmp) (reverse (folded a) ++ lowered x ∷ []) n) right
    ∙ whole ∙ ap (ordering_then (name_cmp a b)) last

past_end : (us : List Label) → 0 < length us → slice_cmp (slice_cmp nat_cmp) us [] ≡ Greater
past_end [] some = absurd (omega arith)
past_end (u ∷ us) some = refl

before_end : (us : List Label) → 0 < length us → slice_cmp (slice_cmp nat_cmp) [] us ≡ Less
before_end [] some = absurd (omega arith)
before_end (u ∷ us) some = refl

reversed-append : (front a : Labels) → reverse (folded (front ++ a)) ≡ reverse (folded a) ++ reverse (folded front)
reversed-append front a = ap reverse (map-append lowered front a) ∙ reverse-append (folded front) (folded a)

same_reversed : (a b : Labels) → length a ≡ length b → length (reverse (folded a)) ≡ length (reverse (folded b))
same_reversed a b same = rw (length-reverse (folded a), length-reverse (folded b), length-map a lowered, length-map b lowered) same

some_reversed : (front : Labels) → 0 < length front → 0 < length (reverse (folded front))
some_reversed front some = rw (length-reverse (folded front), length-map front lowered) some

-- more labels on the left come after
cmp-front_left : (front a b : Labels) → length a ≡ length b → 0 < length front
    → name_cmp (front ++ a) b ≡ ordering_then (name_cmp a b) Greater
cmp-front_left front a b same some =
    ap (λ (n : Labels). slice_cmp (slice_cmp nat_cmp) n (reverse (folded b))) (reversed-append front a)
    ∙ ap (λ (n : Labels). slice_cmp (slice_cmp nat_cmp) (reverse (folded a) ++ reverse (folded front)) n)
    (sym (append-nil (reverse (folded b))))
    ∙ cmp-append (slice_cmp nat_cmp) (reverse (folded a)) (reverse (folded b)) (reverse (folded front)) [] (same_reversed a b same)
    ∙ ap (ordering_then (name_cmp a b)) (past_end (reverse (folded front)) (some_reversed front some))

-- more labels on the right come after
cmp-front_right : (front a b : Labels) → length a ≡ length b → 0 < length front
    → name_cmp a (front ++ b) ≡ ordering_then (name_cmp a b) Less
cmp-front_right front a b same some =
    ap (λ (n : Labels). slice_cmp (slice_cmp nat_cmp) (reverse (folded a)) n) (reversed-append front b)
    ∙ ap (λ (n : Labels). slice_cmp (slice_cmp nat_cmp) n (reverse (folded b) ++ reverse (folded front)))
    (sym (append-nil (reverse (folded a))))
    ∙ cmp-append (slice_cmp nat_cmp) (reverse (folded a)) (reverse (folded b)) [] (reverse (folded front)) (same_reversed a b same)
    ∙ ap (ordering_then (name_cmp a b)) (before_end (reverse (folded front)) (some_reversed front some))

pub name_cmp-longer : (a b : Labels) → length b < length a
    → name_cmp a b ≡ ordering_then (name_cmp (drop (length a - length b) a) b) Greater
name_cmp-longer a b more =
    let long : length (drop (length a - length b) a) ≡ length b = omega (arith, length-drop (length a - length b) a) in
    let some : 0 < length (take (length a - length b) a) = omega (arith, length-take-le (length a - length b) a (omega arith)) in
    ap (λ (n : Labels). name_cmp n b) (sym (take-append-drop (length a - length b) a))
    ∙ cmp-front_left (take (length a - length b) a) (drop (length a - length b) a) b long some

pub name_cmp-shorter : (a b : Labels) → length a < length b → name_cmp a b ≡ ordering_then (name_cmp a (drop (length b - length a) b)) Less
name_cmp-shorter a b more =
    let long : length a ≡ length (drop (length b - length a) b) = omega (arith, length-drop (length b - length a) b) in
    let some : 0 < length (take (length b - length a) b) = omega (arith, length-take-le (length b - length a) b (omega arith)) in
    ap (λ (n : Labels). name_cmp a n) (sym (take-append-drop (length b - length a) b))
    ∙ cmp-front_right (take (length b - length a) b) a (drop (length b - length a) b) long some
