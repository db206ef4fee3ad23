-- The trusted keys of a table as anchors, one entry of its map after another.
use Rattle.std.proofs.Common.{◌≡◌, ℕ, ◌+◌, ◌≤◌, Bool, true, false, cond, ◌&&◌, ◌||◌, List, [], ◌∷◌, ◌++◌, Option, None, Some, unwrap_or, refl, sym, ap, ◌∙◌, arith}
use Rattle.std.specs.Prelude.{Vec, ◌==◌, if◌then◌else◌}
use Rattle.std.specs.BTreeMap.{BTreeMap, get}
use Rattle.std.specs.Cmp.Lexicographic.{slice_cmp}
use Rattle.std.specs.List.{All, AllByRecursion, count_by, list_any}
use Rattle.std.specs.Map.{lookup}
use Rattle.std.specs.Ordering.{is_eq, nat_cmp}
use Rattle.std.proofs.lemmas.Bool.{and_parts}
use Rattle.std.proofs.lemmas.List.Elements.{All-push, recursion_from_All}
use Rattle.std.proofs.lemmas.List.Folds.{list_any-append}
use Rattle.std.proofs.lemmas.List.Sums.{sum_by-append, sum_by-cons}
use Rattle.std.proofs.lemmas.Map.Text.{is_eq-slice_cmp}
use Rattle.std.proofs.lemmas.Slice.Eq.{bytes_eq-Decides}
use Rattle.dns_model.specs.Names.{Labels, name_eq}
use Rattle.dns_model.specs.Keys.{AnchorValue, bytes_eq, holds_anchor, is_anchor}
use Rattle.dns_model.proofs.NameLemmas.{name_equiv}
use Rattle.dns_model.proofs.TestLemmas.{same_test}
use Rattle.dns_trust.specs.Anchoring.{with_anchor}
use Rattle.dns_anchor_roll.specs.After.{AreAnchors, with_key, with_trusted}
use Rattle.dns_anchor_roll.specs.Tables.{entry_at, is_trusted, standing_in}
use Rattle.dns_anchor_roll.specs.declared.standing.Standing.{Standing}
use Rattle.dns_anchor_roll.specs.declared.standing.Standing.TheVariants.{Unknown}
use Rattle.dns_anchor_roll.proofs.Keys.{by_items}

-- an entry is a trusted key of these bytes
abbrev pub trusted_entry : {Z : Type 0} → List ℕ → Vec ℕ Z × Standing → Bool
trusted_entry q e = is_trusted e.1 && bytes_eq q e.0.items

-- ---- one key more

or_false : (b : Bool) → (b || false) ≡ b
or_false true = refl
or_false false = refl

pub none_left : (b : Bool) → (b || false) ≡ b
none_left = or_false

abbrev the_anchor : Labels → ℕ → List ℕ → AnchorValue
the_anchor zone algorithm key = record { owner = zone; algorithm = algorithm; key = key }

own_anchor : (zone : Labels) (a x : ℕ) (k p : List ℕ) → is_anchor zone a k (the_anchor zone x p) ≡ bytes_eq (a ∷ k) (x ∷ p)
own_anchor zone a x k p = ap (λ b. b && ((a == x) && bytes_eq k p)) (name_equiv.refl zone)

held_same : (zone : Labels) (a x : ℕ) (k p : List ℕ) (old : List AnchorValue) → holds_anchor old zone x p ≡ true
    → bytes_eq (a ∷ k) (x ∷ p) ≡ true → holds_anchor old zone a k ≡ true
held_same zone a x k p old h e =
    let same = (bytes_eq-Decides (a ∷ k) (x ∷ p)).0 e in
    let first : a ≡ x = cc in
    let second : k ≡ p = cc in
    ap (λ n. holds_anchor old zone n k) first ∙ ap (holds_anchor old zone x) second ∙ h

or_true : (b : Bool) → (b || true) ≡ true
or_true true = refl
or_true false = refl

held_step : (zone : Labels) (a x : ℕ) (k p : List ℕ) (old : List AnchorValue) (b : Bool) → bytes_eq (a ∷ k) (x ∷ p) ≡ b
    → holds_anchor old zone x p ≡ true → holds_anchor old zone a k ≡ (holds_anchor old zone a k || b)
held_step zone a x k p old true e h = held_same zone a x k p old h e ∙ sym (or_true (holds_anchor old zone a k))
held_step zone a x k p old false e h = sym (or_false (holds_anchor old zone a k))

added_step : (zone : Labels) (a x : ℕ) (k p : List ℕ) (old : List AnchorValue) (c : Bool) → holds_anchor old zone x p ≡ c
    → holds_anchor (cond c old (old ++ the_anchor zone x p ∷ [])) zone a k ≡ (holds_anchor old zone a k || bytes_eq (a ∷ k) (x ∷ p))
added_step zone a x k p old true e = held_step zone a x k p old (bytes_eq (a ∷ k) (x ∷ p)) refl e
added_step zone a x k p old false e =
    list_any-append (is_anchor zone a k) old (the_anchor zone x p ∷ [])
    ∙ ap (λ b. holds_anchor old zone a k || b) (or_false (is_anchor zone a k (the_anchor zone x p)) ∙ own_anchor zone a x k p)

key_step : (zone : Labels) (a : ℕ) (k key : List ℕ) (old : List AnchorValue)
    → holds_anchor (with_key zone key old) zone a k ≡ (holds_anchor old zone a k || bytes_eq (a ∷ k) key)
key_step zone a k [] old = sym (or_false (holds_anchor old zone a k))
key_step zone a k (x ∷ p) old = added_step zone a x k p old (holds_anchor old zone x p) refl

trusted_step : (zone : Labels) (a : ℕ) (k key : List ℕ) (old : List AnchorValue) (t : Bool)
    → holds_anchor (with_trusted t zone key old) zone a k ≡ (holds_anchor old zone a k || (t && bytes_eq (a ∷ k) key))
trusted_step zone a k key old true = key_step zone a k key old
trusted_step zone a k key old false = sym (or_false (holds_anchor old zone a k))

or_again : (a b c : Bool) → ((a || b) || c) ≡ (a || (b || c))
or_again true b c = refl
or_again false b c = refl

-- those that are held, and those that are left, stay the same
pub keys_more : {Z : Type 0} (zone : Labels) (a : ℕ) (k : List ℕ) (e : Vec ℕ Z × Standing) (rest : List (Vec ℕ Z × Standing)) (old : List AnchorValue)
    → (holds_anchor (with_trusted (is_trusted e.1) zone e.0.items old) zone a k || list_any (trusted_entry (a ∷ k)) rest)
    ≡ (holds_anchor old zone a k || list_any (trusted_entry (a ∷ k)) (e ∷ rest))
keys_more zone a k e rest old =
    ap (λ b. b || list_any (trusted_entry (a ∷ k)) rest) (trusted_step zone a k e.0.items old (is_trusted e.1))
    ∙ or_again (holds_anchor old zone a k) (trusted_entry (a ∷ k) e) (list_any (trusted_entry (a ∷ k)) rest)

-- ---- of one zone, and each once

owners_step : (zone : Labels) (x : ℕ) (p : List ℕ) (old : List AnchorValue) (c : Bool) → All (λ anchor. anchor.owner ≡ zone) old
    → All (λ anchor. anchor.owner ≡ zone) (cond c old (old ++ the_anchor zone x p ∷ []))
owners_step zone x p old true h = h
owners_step zone x p old false h = All-push (λ anchor. anchor.owner ≡ zone) old (the_anchor zone x p) h refl

owners_key : (zone : Labels) (key : List ℕ) (old : List AnchorValue) → All (λ anchor. anchor.owner ≡ zone) old
    → All (λ anchor. anchor.owner ≡ zone) (with_key zone key old)
owners_key zone [] old h = h
owners_key zone (x ∷ p) old h = owners_step zone x p old (holds_anchor old zone x p) h

pub owners_more : (zone : Labels) (key : List ℕ) (old : List AnchorValue) (t : Bool) → All (λ anchor. anchor.owner ≡ zone) old
    → All (λ anchor. anchor.owner ≡ zone) (with_trusted t zone key old)
owners_more zone key old true h = owners_key zone key old h
owners_more zone key old false h = h

plus_none : (n : ℕ) → 0 + n ≡ n
plus_none n = omega arith

count_append : (p : AnchorValue → Bool) (xs : List AnchorValue) (x : AnchorValue) → count_by p (xs ++ x ∷ []) ≡ count_by p xs + cond (p x) 1 0
count_append p xs x = sum_by-append (λ y. cond (p y) 1 0) xs (x ∷ []) ∙ ap (λ n. count_by p xs + n) (plus_none (cond (p x) 1 0))

none_step : (p : AnchorValue → Bool) (b : Bool) (xs : List AnchorValue) → (b || list_any p xs) ≡ false
    → (list_any p xs ≡ false → count_by p xs ≡ 0) → cond b 1 0 + count_by p xs ≡ 0
none_step p true xs h later = cc
none_step p false xs h later = let z = later h in omega arith

count_none : (p : AnchorValue → Bool) (xs : List AnchorValue) → list_any p xs ≡ false → count_by p xs ≡ 0
count_none p [] h = refl
count_none p (x ∷ xs) h = sum_by-cons (λ y. cond (p y) 1 0) x xs ∙ none_step p (p x) xs h (count_none p xs)

one_step : (n : ℕ) (b : Bool) → n ≤ 1 → (b ≡ true → n ≡ 0) → n + cond b 1 0 ≤ 1
one_step n true h none = let z = none refl in omega arith
one_step n false h none = omega arith

fresh : (zone : Labels) (a x : ℕ) (k p : List ℕ) (old : List AnchorValue) → holds_anchor old zone x p ≡ false
    → bytes_eq (a ∷ k) (x ∷ p) ≡ true → holds_anchor old zone a k ≡ false
fresh zone a x k p old h e =
    let same = (bytes_eq-Decides (a ∷ k) (x ∷ p)).0 e in
    let first : a ≡ x = cc in
    let second : k ≡ p = cc in
    ap (λ n. holds_anchor old zone n k) first ∙ ap (holds_anchor old zone x) second ∙ h

once_step : (zone : Labels) (a x : ℕ) (k p : List ℕ) (old : List AnchorValue) (c : Bool) → holds_anchor old zone x p ≡ c
    → count_by (is_anchor zone a k) old ≤ 1
    → count_by (is_anchor zone a k) (cond c old (old ++ the_anchor zone x p ∷ [])) ≤ 1
once_step zone a x k p old true e h = h
once_step zone a x k p old false e h =
    let counted = count_append (is_anchor zone a k) old (the_anchor zone x p) in
    let few = one_step (count_by (is_anchor zone a k) old) (is_anchor zone a k (the_anchor zone x p)) h
    (λ is. count_none (is_anchor zone a k) old (fresh zone a x k p old e (sym (own_anchor zone a x k p) ∙ is))) in
    omega arith

once_key : (zone : Labels) (a : ℕ) (k key : List ℕ) (old : List AnchorValue) → count_by (is_anchor zone a k) old ≤ 1
    → count_by (is_anchor zone a k) (with_key zone key old) ≤ 1
once_key zone a k [] old h = h
once_key zone a k (x ∷ p) old h = once_step zone a x k p old (holds_anchor old zone x p) refl h

pub once_more : (zone : Labels) (a : ℕ) (k key : List ℕ) (old : List AnchorValue) (t : Bool) → count_by (is_anchor zone a k) old ≤ 1
    → count_by (is_anchor zone a k) (with_trusted t zone key old) ≤ 1
once_more zone a k key old true h = once_key zone a k key old h
once_more zone a k key old false h = h

-- ---- the entries of a map, and what it has for a key

or_right : (a b : Bool) → b ≡ true → (a || b) ≡ true
or_right true b h = refl
or_right false b h = h

-- each entry is found by its key
abbrev Finds : {Z : Type 0} → BTreeMap (Vec ℕ Z) Standing → Vec ℕ Z × Standing → Type 0
Finds m e = get by_items m e.0 ≡ Some e.1

to_step : {Z : Type 0} (m : BTreeMap (Vec ℕ Z) Standing) (q : List ℕ) (e : Vec ℕ Z × Standing) (es : List (Vec ℕ Z × Standing)) (b : Bool)
    → trusted_entry q e ≡ b → AllByRecursion (Finds m) (e ∷ es) → (b || list_any (trusted_entry q) es) ≡ true
    → (list_any (trusted_entry q) es ≡ true → is_trusted (standing_in m q) ≡ true) → is_trusted (standing_in m q) ≡ true
to_step m q e es true is each h later =
    let both = and_parts (is_trusted e.1) (bytes_eq q e.0.items) is in
    ap (λ k. is_trusted (standing_in m k)) ((bytes_eq-Decides q e.0.items).0 both.1)
    ∙ ap (λ o. is_trusted (unwrap_or o Unknown)) each.0
    ∙ both.0
to_step m q e es false is each h later = later h

any_to : {Z : Type 0} (m : BTreeMap (Vec ℕ Z) Standing) (q : List ℕ) (es : List (Vec ℕ Z × Standing)) → AllByRecursion (Finds m) es
    → list_any (trusted_entry q) es ≡ true → is_trusted (standing_in m q) ≡ true
any_to m q [] each h = cc
any_to m q (e ∷ es) each h = to_step m q e es (trusted_entry q e) refl each h (any_to m q es each.1)

lookup_step : {Z : Type 0} (q : List ℕ) (e : Vec ℕ Z × Standing) (rest : Option Standing) (others b : Bool) → bytes_eq q e.0.items ≡ b
    → is_trusted (unwrap_or (cond b (Some e.1) rest) Unknown) ≡ true → (is_trusted (unwrap_or rest Unknown) ≡ true → others ≡ true)
    → ((is_trusted e.1 && b) || others) ≡ true
lookup_step q e rest others true is h later = ap (λ t. (t && true) || others) h
lookup_step q e rest others false is h later = or_right (is_trusted e.1 && false) others (later h)

any_from : {Z : Type 0} (q : List ℕ) (es : List (Vec ℕ Z × Standing))
    → is_trusted (unwrap_or (lookup (λ k. is_eq (slice_cmp nat_cmp q k.items)) es) Unknown) ≡ true → list_any (trusted_entry q) es ≡ true
any_from q [] h = cc
any_from q (e ∷ es) h =
    lookup_step q e (lookup (λ k. is_eq (slice_cmp nat_cmp q k.items)) es) (list_any (trusted_entry q) es) (bytes_eq q e.0.items) refl
    (sym (ap (λ b. is_trusted (unwrap_or (cond b (Some e.1) (lookup (λ k. is_eq (slice_cmp nat_cmp q k.items)) es)) Unknown))
    (is_eq-slice_cmp q e.0.items)) ∙ h)
    (any_from q es)

pub trusted_found : {Z : Type 0} (m : BTreeMap (Vec ℕ Z) Standing) (q : List ℕ) → All (Finds m) m.entries
    → list_any (trusted_entry q) m.entries ≡ is_trusted (standing_in m q)
trusted_found m q each =
    same_test (list_any (trusted_entry q) m.entries) (is_trusted (standing_in m q))
    (any_to m q m.entries (recursion_from_All (Finds m) m.entries each)) (any_from q m.entries)
