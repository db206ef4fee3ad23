-- Equal records are signed once.
use Rattle.std.proofs.Common.{◌≡◌, ℕ, List, [], ◌∷◌, ◌++◌, map, refl, ap, ◌∙◌, Ordering}
use Rattle.std.specs.List.{concat}
use Rattle.std.specs.Ordering.{nat_cmp}
use Rattle.std.specs.declared.cmp.Ordering.TheVariants.{Less, Equal, Greater}
use Rattle.std.specs.Cmp.Lexicographic.{slice_cmp}
use Rattle.std.proofs.lemmas.Cmp.{tied_itself, nat_list_cmp_total}
use Rattle.dns_model.specs.Names.{Labels}
use Rattle.dns_model.specs.Shapes.{canonical_form}
use Rattle.dns_model.specs.Views.{RrsigValue}
use Rattle.dns_model.specs.Signing.{rising_once, insert_once, placed_by, signed_bytes, signed_head, signed_record}

itself : (x : List ℕ) → slice_cmp nat_cmp x x ≡ Equal
itself x = tied_itself nat_list_cmp_total x

again_at : (x y : List ℕ) (ys : List (List ℕ)) (order : Ordering) → slice_cmp nat_cmp x y ≡ order
    → insert_once x (insert_once x ys) ≡ insert_once x ys
    → insert_once x (placed_by order x y ys (insert_once x ys)) ≡ placed_by order x y ys (insert_once x ys)
unfolding insert_once
again_at x y ys Less e ih = ap (λ o. placed_by o x x (y ∷ ys) (insert_once x (y ∷ ys))) (itself x)
again_at x y ys Equal e ih = ap (λ o. placed_by o x y ys (insert_once x ys)) e
again_at x y ys Greater e ih = ap (λ o. placed_by o x y (insert_once x ys) (insert_once x (insert_once x ys))) e ∙ ap (λ zs. y ∷ zs) ih

insert_again : (x : List ℕ) (ys : List (List ℕ)) → insert_once x (insert_once x ys) ≡ insert_once x ys
unfolding insert_once
insert_again x [] = ap (λ o. placed_by o x x [] (insert_once x [])) (itself x)
insert_again x (y ∷ ys) = again_at x y ys (slice_cmp nat_cmp x y) refl (insert_again x ys)

pub signed_once : (owner : Labels) (rtype class : ℕ) (first second : List ℕ) (rest : List (List ℕ)) (sig : RrsigValue)
    → canonical_form rtype first ≡ canonical_form rtype second
    → signed_bytes owner rtype class (first ∷ second ∷ rest) sig ≡ signed_bytes owner rtype class (second ∷ rest) sig
unfolding signed_bytes rising_once
signed_once owner rtype class first second rest sig e =
    ap (λ rdatas. signed_head sig ++ concat (map (signed_record owner rtype class sig) rdatas))
    (ap (λ x. insert_once x (insert_once (canonical_form rtype second) (rising_once (map (canonical_form rtype) rest)))) e
    ∙ insert_again (canonical_form rtype second) (rising_once (map (canonical_form rtype) rest)))
