-- Folded wire forms, as keys of ordered maps, tell names apart as equality does.
use Rattle.std.proofs.Common.{◌≡◌, ℕ, List, [], ◌∷◌, ◌++◌, length, get_or, take, drop, refl, sym, ap, ◌∙◌, arith, length-append}
use Rattle.std.specs.Prelude.{nat_eq}
use Rattle.std.specs.Bool.{one_answer}
use Rattle.std.specs.Cmp.Lexicographic.{pointwise, bytes_decides, slice_cmp}
use Rattle.std.specs.Ordering.{is_eq, nat_cmp}
use Rattle.dns_model.specs.Names.{Label, Labels, folded, name_eq, wire}
use Rattle.dns_model.proofs.Lists.{take-front, drop-front}
use Rattle.dns_model.proofs.NameLemmas.{name_eq-Decides}
use Rattle.dns_model.proofs.OrderLemmas.{bytes_ties}
use Rattle.dns_model.proofs.WireLemmas.{length-wire}

-- two labels of one length and what follows them
parts_same : (a b : Label) (xs ys : List ℕ) → length a ≡ length b → a ++ xs ≡ b ++ ys → (a ≡ b) × (xs ≡ ys)
parts_same a b xs ys long same = (
  sym (take-front a xs) ∙ ap (take (length a)) same ∙ ap (λ n. take n (b ++ ys)) long ∙ take-front b ys,
  sym (drop-front a xs) ∙ ap (drop (length a)) same ∙ ap (λ n. drop n (b ++ ys)) long ∙ drop-front b ys,
)

-- lists of labels with one wire form are one, whatever their labels
wire_one : (a b : Labels) → wire a ≡ wire b → a ≡ b
wire_one [] [] same = refl
wire_one [] (label ∷ name) same =
    let long : 1 ≡ length (wire (label ∷ name)) = ap length same in
    absurd (omega (arith, length-wire name, length-append label (wire name), long))
wire_one (label ∷ name) [] same =
    let long : length (wire (label ∷ name)) ≡ 1 = ap length same in
    absurd (omega (arith, length-wire name, length-append label (wire name), long))
wire_one (x ∷ a) (y ∷ b) same =
    let sizes : length x ≡ length y = ap (λ w. get_or w 0 0) same in
    let parts = parts_same x y (wire a) (wire b) sizes (ap (drop 1) same) in
    ap (λ l. l ∷ a) parts.0 ∙ ap (λ n. y ∷ n) (wire_one a b parts.1)

-- names are equal exactly where the wire forms are, with A to Z as a to z
name_eq-wires : (a b : Labels) → name_eq a b ≡ pointwise nat_eq (wire (folded a)) (wire (folded b))
name_eq-wires a b =
    let wires = bytes_decides (wire (folded a)) (wire (folded b)) in
    one_answer {P = folded a ≡ folded b} (name_eq a b) _ (name_eq-Decides a b) (
      λ h. wire_one (folded a) (folded b) (wires.0 h),
      λ h. wires.1 (ap wire h),
    )

-- names are equal exactly where the order of their wire forms doesn't tell them apart
pub wire_ties : (a b : Labels) → name_eq a b ≡ is_eq (slice_cmp nat_cmp (wire (folded a)) (wire (folded b)))
wire_ties a b = name_eq-wires a b ∙ bytes_ties (wire (folded a)) (wire (folded b))
