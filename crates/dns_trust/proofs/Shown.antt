-- Records that references show, one at a time.
use Rattle.std.proofs.Common.{◌≡◌, ℕ, ◌+◌, ◌<◌, ◌≤◌, Bool, true, false, cond, List, [], ◌∷◌, ◌++◌, length, take, sym, ap, ◌∙◌, arith, append-nil}
use Rattle.std.specs.Prelude.{slice_index_or}
use Rattle.std.specs.Borrow.{Bor}
use Rattle.std.specs.List.{filter}
use Rattle.std.proofs.lemmas.List.{length-map, map-append, take_more}
use Rattle.std.proofs.lemmas.List.Elements.{filter_more}
use Rattle.std.proofs.Math.ListN.{get_or-map}
use Rattle.dns_model.specs.Records.{Rr}
use Rattle.dns_trust.specs.Delegating.{shown}

pub shown_within : (references : List (Bor Rr)) (i : ℕ) → i < length references → i < length (shown references)
shown_within references i h = omega (arith, h, length-map references (λ (r : Bor Rr). r.now))

pub shown_end : (references : List (Bor Rr)) (i : ℕ) → length references ≤ i → length (shown references) ≤ i
shown_end references i h = omega (arith, h, length-map references (λ (r : Bor Rr). r.now))

pub shown_at : (references : List (Bor Rr)) (i : ℕ) (r : Bor Rr) → r ≡ slice_index_or references i r
    → r.now ≡ slice_index_or (shown references) i r.now
shown_at references i r is = ap (λ (x : Bor Rr). x.now) is ∙ sym (get_or-map (λ (x : Bor Rr). x.now) references i r)

pub shown_more : (kept more : List (Bor Rr)) (rs : List Rr) (i : ℕ) (x : Bor Rr) → i < length rs → x.now ≡ slice_index_or rs i x.now
    → more ≡ kept ++ x ∷ [] → shown kept ≡ take i rs → shown more ≡ take (i + 1) rs
shown_more kept more rs i x h at pushed before =
    ap shown pushed ∙ map-append (λ (y : Bor Rr). y.now) kept (x ∷ [])
    ∙ ap (λ ks. ks ++ x.now ∷ []) before
    ∙ ap (λ z. take i rs ++ z ∷ []) at
    ∙ sym (take_more rs i x.now h)

-- ---- those of some records that pass a test

pub passed_more : (p : Rr → Bool) (kept more : List (Bor Rr)) (rs all : List Rr) (i : ℕ) (x : Bor Rr) → rs ≡ all → i < length rs
    → x.now ≡ slice_index_or rs i x.now → p x.now ≡ true → more ≡ kept ++ x ∷ [] → shown kept ≡ filter p (take i all)
    → shown more ≡ filter p (take (i + 1) all)
passed_more p kept more rs all i x same h at passed pushed before =
    ap shown pushed ∙ map-append (λ (y : Bor Rr). y.now) kept (x ∷ [])
    ∙ ap (λ ks. ks ++ x.now ∷ []) (before ∙ ap (λ zs. filter p (take i zs)) (sym same))
    ∙ ap (λ z. filter p (take i rs) ++ z ∷ []) at
    ∙ ap (λ b. filter p (take i rs) ++ cond b (slice_index_or rs i x.now ∷ []) []) (sym (sym (ap p at) ∙ passed))
    ∙ sym (filter_more p rs i x.now h)
    ∙ ap (λ zs. filter p (take (i + 1) zs)) same

pub failed_more : (p : Rr → Bool) (kept : List (Bor Rr)) (rs all : List Rr) (i : ℕ) (r : Rr) → rs ≡ all → i < length rs
    → r ≡ slice_index_or rs i r → p r ≡ false → shown kept ≡ filter p (take i all)
    → shown kept ≡ filter p (take (i + 1) all)
failed_more p kept rs all i r same h at failed before =
    before ∙ ap (λ zs. filter p (take i zs)) (sym same)
    ∙ sym (append-nil (filter p (take i rs)))
    ∙ ap (λ b. filter p (take i rs) ++ cond b (slice_index_or rs i r ∷ []) []) (sym (sym (ap p at) ∙ failed))
    ∙ sym (filter_more p rs i r h)
    ∙ ap (λ zs. filter p (take (i + 1) zs)) same
