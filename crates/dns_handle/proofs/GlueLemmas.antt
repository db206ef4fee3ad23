-- Addresses by the names of their owners, as records are joined to them.
use Rattle.std.proofs.Common.{◌≡◌, ℕ, ◌+◌, ◌<◌, Bool, true, false, cond, List, [], ◌∷◌, ◌++◌, map, length, take, slice_index_or, Option, None, Some, refl, sym, ap, ◌∙◌, arith}
use Rattle.std.specs.List.{filter}
use Rattle.std.specs.Ordering.{is_eq}
use Rattle.std.specs.Map.{lookup}
use Rattle.std.specs.BTreeMap as tree
use Rattle.std.specs.BTreeMap.{BTreeMap}
use Rattle.std.specs.declared.vec.Vec.{Vec}
use Rattle.std.proofs.lemmas.Cmp.{nat_list_cmp_total}
use Rattle.std.proofs.lemmas.List.{append-nil, map-append, take_more}
use Rattle.std.proofs.lemmas.List.Elements.{filter-append}
use Rattle.dns_model.specs.Names.{Labels, name_eq, folded, wire}
use Rattle.dns_model.specs.Types.{type_ns}
use Rattle.dns_model.specs.Views.{ns_in}
use Rattle.dns_model.specs.Records.{Rr}
use Rattle.dns_model.specs.RecordViews.{read_as}
use Rattle.dns_model.proofs.TestLemmas.{tied_equal}
use Rattle.dns_model.proofs.Lists.{lookup-same}
use Rattle.dns_handle.specs.NoRecords.{ForwardNsValue}
use Rattle.dns_handle.specs.Responses.{is_address_of, forwarded}
use Rattle.dns_handle.specs.Glue.{is_address, bytes_cmp, vec_items, addresses_at, Joined, glue_by, forwarded_by}
use Rattle.dns_evidence.proofs.WireTies.{wire_ties}
use Rattle.std.specs.Option.{option_map_or}

-- keys that the order doesn't tell apart have the same records
items-same : {Z : Type 0} (m : BTreeMap (List ℕ) (Vec Rr Z)) (k q : List ℕ) → is_eq (bytes_cmp k q) ≡ true
    → vec_items (tree.get bytes_cmp m k) ≡ vec_items (tree.get bytes_cmp m q)
items-same m k q tied =
    ap vec_items (lookup-same _ _ (λ x. ap is_eq (nat_list_cmp_total.congr k q x (tied_equal (bytes_cmp k q) tied))) m.entries)

joined_case : {Z : Type 0} (old : BTreeMap (List ℕ) (Vec Rr Z)) (r : Rr) (key q : List ℕ) (w : Vec Rr Z)
    → w.items ≡ vec_items (tree.get bytes_cmp old key) ++ r ∷ [] → (b : Bool) → is_eq (bytes_cmp key q) ≡ b
    → vec_items (cond b (Some w) (tree.get bytes_cmp old q)) ≡ vec_items (tree.get bytes_cmp old q) ++ cond b (r ∷ []) []
joined_case old r key q w items true tied = items ∙ ap (λ rs. rs ++ r ∷ []) (items-same old key q tied)
joined_case old r key q w items false tied = sym (append-nil (vec_items (tree.get bytes_cmp old q)))

-- a record behind those of its owner
pub joined : {Z : Type 0} (old new : BTreeMap (List ℕ) (Vec Rr Z)) (r : Rr) (key : List ℕ) (w : Vec Rr Z) → key ≡ wire (folded r.owner)
    → w.items ≡ vec_items (tree.get bytes_cmp old key) ++ r ∷ [] → tree.Updates bytes_cmp old new key (Some w) → Joined old new r
joined old new r key w is items updates name =
    let q = wire (folded name) in
    let tie : is_eq (bytes_cmp key q) ≡ name_eq r.owner name = ap (λ k. is_eq (bytes_cmp k q)) is ∙ sym (wire_ties r.owner name) in
    ap vec_items (updates.0 q) ∙ joined_case old r key q w items (is_eq (bytes_cmp key q)) refl
    ∙ ap (λ b. vec_items (tree.get bytes_cmp old q) ++ cond b (r ∷ []) []) tie

-- the addresses of a name in a list with one more record
pub address_more : (name : Labels) (rs : List Rr) (r : Rr) → is_address r ≡ true
    → filter (is_address_of name) rs ++ cond (name_eq r.owner name) (r ∷ []) [] ≡ filter (is_address_of name) (rs ++ r ∷ [])
address_more name rs r is =
    let one : filter (is_address_of name) (r ∷ []) ≡ cond (name_eq r.owner name) (r ∷ []) [] = rw is refl in
    sym (filter-append (is_address_of name) rs (r ∷ []) ∙ ap (λ xs. filter (is_address_of name) rs ++ xs) one)

pub other_more : (name : Labels) (rs : List Rr) (r : Rr) → is_address r ≡ false
    → filter (is_address_of name) rs ≡ filter (is_address_of name) (rs ++ r ∷ [])
other_more name rs r is =
    let none : filter (is_address_of name) (r ∷ []) ≡ [] = rw is refl in
    sym (filter-append (is_address_of name) rs (r ∷ []) ∙ ap (λ xs. filter (is_address_of name) rs ++ xs) none
    ∙ append-nil (filter (is_address_of name) rs))

-- a map without a key has no address
pub no_addresses : {Z : Type 0} (m : BTreeMap (List ℕ) (Vec Rr Z)) → m.entries ≡ [] → (name : Labels) → addresses_at m name ≡ []
no_addresses m empty name = ap (λ es. vec_items (lookup (λ k. is_eq (bytes_cmp (wire (folded name)) k)) es)) empty

-- the map has the addresses of each name among records
abbrev pub AreAddresses : {Z : Type 0} → BTreeMap (List ℕ) (Vec Rr Z) → List Rr → Type 0
AreAddresses m rs = (name : Labels) → addresses_at m name ≡ filter (is_address_of name) rs

abbrev glue_at : List Rr → Option Labels → List Rr
glue_at additionals target = option_map_or (λ t. filter (is_address_of t) additionals) target []

glue-same : {Z : Type 0} (m : BTreeMap (List ℕ) (Vec Rr Z)) (rs : List Rr) → AreAddresses m rs → (target : Option Labels)
    → glue_by m target ≡ glue_at rs target
glue-same m rs are None = refl
glue-same m rs are (Some target) = are target

forwarded-same : {Z : Type 0} (m : BTreeMap (List ℕ) (Vec Rr Z)) (rs : List Rr) → AreAddresses m rs → (ns : Rr)
    → forwarded_by m ns ≡ forwarded rs ns
forwarded-same m rs are ns =
    let with_glue : List Rr → ForwardNsValue = λ glue. record { ns = ns; glue = glue } in
    ap with_glue (glue-same m rs are (read_as type_ns ns_in ns))

-- NS records with the addresses that the map has are those with the addresses among the records
pub all_forwarded-same : {Z : Type 0} (m : BTreeMap (List ℕ) (Vec Rr Z)) (rs : List Rr) → AreAddresses m rs → (all : List Rr)
    → map (forwarded_by m) all ≡ map (forwarded rs) all
all_forwarded-same m rs are [] = refl
all_forwarded-same m rs are (ns ∷ all) = rw (forwarded-same m rs are ns, all_forwarded-same m rs are all) refl

-- what is made of the elements that pass a test, with one more that passes
pub made_more : {X Y : Type 0} (p : X → Bool) (f : X → Y) (xs : List X) (i : ℕ) (x : X) (all more : List Y)
    → i < length xs → x ≡ slice_index_or xs i x → p x ≡ true → all ≡ map f (filter p (take i xs))
    → more ≡ all ++ f x ∷ [] → more ≡ map f (filter p (take (i + 1) xs))
made_more p f xs i x all more long item test before grown =
    let one : filter p (x ∷ []) ≡ x ∷ [] = rw test refl in
    grown ∙ ap (λ l. l ++ f x ∷ []) before
    ∙ ap (λ l. map f (filter p (take i xs)) ++ map f l) (sym one)
    ∙ sym (map-append f (filter p (take i xs)) (filter p (x ∷ [])))
    ∙ ap (map f) (sym (filter-append p (take i xs) (x ∷ [])))
    ∙ ap (λ l. map f (filter p l)) (ap (λ z. take i xs ++ z ∷ []) item ∙ sym (take_more xs i x (omega (arith, long))))

-- the same with one more that doesn't pass
pub made_same : {X Y : Type 0} (p : X → Bool) (f : X → Y) (xs : List X) (i : ℕ) (x : X) (all : List Y)
    → i < length xs → x ≡ slice_index_or xs i x → p x ≡ false → all ≡ map f (filter p (take i xs))
    → all ≡ map f (filter p (take (i + 1) xs))
made_same p f xs i x all long item test before =
    let none : filter p (x ∷ []) ≡ [] = rw test refl in
    let same : filter p (take i xs ++ x ∷ []) ≡ filter p (take i xs) =
    filter-append p (take i xs) (x ∷ []) ∙ ap (λ l. filter p (take i xs) ++ l) none
    ∙ append-nil (filter p (take i xs)) in
    before ∙ ap (map f) (sym same)
    ∙ ap (λ l. map f (filter p l)) (ap (λ z. take i xs ++ z ∷ []) item ∙ sym (take_more xs i x (omega (arith, long))))
