-- Searches that go on among the elements that are left.
use Rattle.std.proofs.Common.{◌≡◌, ℕ, ◌+◌, ◌<◌, ◌≤◌, Bool, true, false, cond, List, [], ◌∷◌, length, map, drop, refl, sym, ap, ◌∙◌}
use Rattle.std.proofs.lemmas.List.{drop_more, drop_all, length-map}
use Rattle.std.specs.Prelude.{Option, None, Some, slice_index_or, not}
use Rattle.std.specs.List.{find, position, prefix_len}
use Rattle.dns_model.specs.Records.{Rr, RrSet}
use Rattle.dns_model.specs.Chains.{Judge}
use Rattle.dns_rules.proofs.FirstLemmas.{signed_from, signed_or, signed_none, signed_more}
use Rattle.dns_trust.specs.Signers.{signing_key, first_signed_by}

-- the element at the place is the one
pub find_here : {X : Type 0} (p : X → Bool) (xs : List X) (i : ℕ) (x : X) → i < length xs → x ≡ slice_index_or xs i x → p x ≡ true
    → find p (drop i xs) ≡ Some x
find_here p xs i x h is passed =
    ap (find p) (drop_more xs i x h)
    ∙ ap (λ y. find p (y ∷ drop (i + 1) xs)) (sym is)
    ∙ ap (λ b. cond b (Some x) (find p (drop (i + 1) xs))) passed

-- it isn't
pub find_past : {X : Type 0} (p : X → Bool) (xs : List X) (i : ℕ) (x : X) → i < length xs → x ≡ slice_index_or xs i x → p x ≡ false
    → find p (drop (i + 1) xs) ≡ find p (drop i xs)
find_past p xs i x h is failed =
    sym (ap (find p) (drop_more xs i x h)
    ∙ ap (λ y. find p (y ∷ drop (i + 1) xs)) (sym is)
    ∙ ap (λ b. cond b (Some x) (find p (drop (i + 1) xs))) failed)

prefix_len-map : {X Y : Type 0} (p : Y → Bool) (f : X → Y) (xs : List X) → prefix_len p (map f xs) ≡ prefix_len (λ x. p (f x)) xs
prefix_len-map p f [] = refl
prefix_len-map p f (x ∷ xs) = rw (prefix_len-map p f xs) refl

-- the first place in a list that is made of another
pub position-map : {X Y : Type 0} (p : Y → Bool) (f : X → Y) (xs : List X) → position p (map f xs) ≡ position (λ x. p (f x)) xs
position-map p f xs = rw (prefix_len-map (λ y. not (p y)) f xs, length-map xs f) refl

-- ---- the first signature that is good by one of some keys

pub first_signed_by-from : (j : Judge) (set : RrSet) (keys rs : List Rr)
    → first_signed_by j set keys rs ≡ signed_from (signing_key j set keys) 0 rs
unfolding first_signed_by signed_from
first_signed_by-from j set keys rs = refl

-- the signature at the place has a signer
pub signed_here : (signer : Rr → Option Rr) (rs : List Rr) (i : ℕ) (r key : Rr) → i < length rs → r ≡ slice_index_or rs i r
    → signer r ≡ Some key
    → signed_from signer i (drop i rs) ≡ Some (record { place = i; signature = r; key = key })
signed_here signer rs i r key h is passed =
    ap (signed_from signer i) (drop_more rs i r h)
    ∙ ap (λ y. signed_from signer i (y ∷ drop (i + 1) rs)) (sym is)
    ∙ signed_more signer i r (drop (i + 1) rs)
    ∙ ap (λ o. signed_or i r o (signed_from signer (i + 1) (drop (i + 1) rs))) passed

-- it has none
pub signed_past : (signer : Rr → Option Rr) (rs : List Rr) (i : ℕ) (r : Rr) → i < length rs → r ≡ slice_index_or rs i r
    → signer r ≡ None
    → signed_from signer (i + 1) (drop (i + 1) rs) ≡ signed_from signer i (drop i rs)
signed_past signer rs i r h is failed =
    sym (ap (signed_from signer i) (drop_more rs i r h)
    ∙ ap (λ y. signed_from signer i (y ∷ drop (i + 1) rs)) (sym is)
    ∙ signed_more signer i r (drop (i + 1) rs)
    ∙ ap (λ o. signed_or i r o (signed_from signer (i + 1) (drop (i + 1) rs))) failed)

-- no signature is left
pub signed_end : (signer : Rr → Option Rr) (rs : List Rr) (i : ℕ) → length rs ≤ i → signed_from signer i (drop i rs) ≡ None
signed_end signer rs i h = ap (signed_from signer i) (drop_all i rs h) ∙ signed_none signer i
