-- The queue of places under each key of a map, after a change of one queue.
use Rattle.std.proofs.Common.{◌≡◌, ℕ, Bool, true, false, cond, List, [], ◌∷◌, ◌++◌, drop, None, Some, Result, Ok, Err, refl, sym, ap, ◌∙◌}
use Rattle.std.specs.Prelude.{OnErr}
use Rattle.std.specs.Ordering.{is_eq}
use Rattle.std.specs.declared.cmp.Ordering.TheVariants.{Equal}
use Rattle.std.specs.BTreeMap as tree
use Rattle.std.specs.BTreeMap.{BTreeMap}
use Rattle.std.specs.declared.collections.VecDeque.{VecDeque}
use Rattle.std.proofs.lemmas.List.{append-nil}
use Rattle.dns_model.proofs.TestLemmas.{tied_equal}
use Rattle.dns_model.proofs.Lists.{lookup-same}
use Rattle.dns_handle.specs.declared.query_key.QueryKey.{QueryKey}
use Rattle.dns_handle.specs.QueryKeys.{key_cmp}
use Rattle.dns_recorded.specs.RecordedPlaces.{queue_items, query_places, SamePlaces, NotedPlace, Dropped}
use Rattle.dns_handle.proofs.KeyLemmas.{key_total}

-- equal keys have one queue
get-same : {X : Type 0} (m : BTreeMap QueryKey X) (k q : QueryKey) → key_cmp k q ≡ Equal → tree.get key_cmp m k ≡ tree.get key_cmp m q
get-same m k q same = lookup-same _ _ (λ x. ap is_eq (key_total.congr k q x same)) m.entries

changed-case : {Z : Type 0} (old : BTreeMap QueryKey (VecDeque ℕ Z)) (key k : QueryKey) (w : VecDeque ℕ Z) (change : List ℕ → List ℕ)
    → w.items ≡ change (query_places old key) → (b : Bool) → is_eq (key_cmp key k) ≡ b
    → queue_items (cond b (Some w) (tree.get key_cmp old k)) ≡ cond b (change (query_places old k)) (query_places old k)
changed-case old key k w change new true tied =
    new ∙ ap (λ o. change (queue_items o)) (get-same old key k (tied_equal (key_cmp key k) tied))
changed-case old key k w change new false tied = refl

-- a change of one queue
pub changed_at : {Z : Type 0} (old new : BTreeMap QueryKey (VecDeque ℕ Z)) (key : QueryKey) (w : VecDeque ℕ Z) (change : List ℕ → List ℕ)
    → w.items ≡ change (query_places old key) → tree.Updates key_cmp old new key (Some w)
    → (k : QueryKey) → query_places new k ≡ cond (is_eq (key_cmp key k)) (change (query_places old k)) (query_places old k)
changed_at old new key w change items updates k =
    ap queue_items (updates.0 k) ∙ changed-case old key k w change items (is_eq (key_cmp key k)) refl

pushed-case : (places : List ℕ) (place : ℕ) (b : Bool) → cond b (places ++ place ∷ []) places ≡ places ++ cond b (place ∷ []) []
pushed-case places place true = refl
pushed-case places place false = sym (append-nil places)

-- a place behind the others of a key
pub noted : {Z : Type 0} (old new : BTreeMap QueryKey (VecDeque ℕ Z)) (key : QueryKey) (place : ℕ) (w : VecDeque ℕ Z)
    → w.items ≡ query_places old key ++ place ∷ [] → tree.Updates key_cmp old new key (Some w) → NotedPlace old new key place
noted old new key place w items updates k =
    changed_at old new key w (λ ps. ps ++ place ∷ []) items updates k ∙ pushed-case (query_places old k) place (is_eq (key_cmp key k))

-- the first place of a key less
pub dropped : {Z : Type 0} (old new : BTreeMap QueryKey (VecDeque ℕ Z)) (key : QueryKey) (w : VecDeque ℕ Z)
    → w.items ≡ drop 1 (query_places old key) → tree.Updates key_cmp old new key (Some w) → Dropped old new key
dropped old new key w items updates = changed_at old new key w (drop 1) items updates

same-case : (places : List ℕ) (b : Bool) → cond b places places ≡ places
same-case places true = refl
same-case places false = refl

-- a queue that is written back as it was
pub unchanged : {Z : Type 0} (old new : BTreeMap QueryKey (VecDeque ℕ Z)) (key : QueryKey) (w : VecDeque ℕ Z)
    → w.items ≡ query_places old key → tree.Updates key_cmp old new key (Some w) → SamePlaces old new
unchanged old new key w items updates k =
    changed_at old new key w (λ ps. ps) items updates k ∙ same-case (query_places old k) (is_eq (key_cmp key k))

dropped-case : {Z : Type 0} (old : BTreeMap QueryKey (VecDeque ℕ Z)) (key k : QueryKey) → tree.get key_cmp old key ≡ None
    → (b : Bool) → is_eq (key_cmp key k) ≡ b
    → query_places old k ≡ cond b (drop 1 (query_places old k)) (query_places old k)
dropped-case old key k none true tied =
    let empty : query_places old k ≡ [] = ap queue_items (sym (get-same old key k (tied_equal (key_cmp key k) tied)) ∙ none) in
    rw empty refl
dropped-case old key k none false tied = refl

-- a key without a queue has no place to lose
pub dropped_none : {Z : Type 0} (old : BTreeMap QueryKey (VecDeque ℕ Z)) (key : QueryKey) → tree.get key_cmp old key ≡ None
    → Dropped old old key
dropped_none old key none k = dropped-case old key k none (is_eq (key_cmp key k)) refl

-- what holds anyway holds after an error
pub after_error : {X E P : Type 0} (r : Result X E) → P → OnErr r P
after_error (Ok x) p = tt
after_error (Err e) p = p
