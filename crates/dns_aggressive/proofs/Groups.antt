-- NSEC3 records by how they are hashed, as one more is added.
use Rattle.std.proofs.Common.{◌≡◌, ℕ, Bool, true, false, cond, not, ◌&&◌, ◌||◌, ◌==◌, nat_eq, List, [], ◌∷◌, ◌++◌, map, Option, None, Some, Vec, is_some, refl, sym, ap, ◌∙◌}
use Rattle.std.specs.Borrow.{Bor}
use Rattle.std.specs.BTreeMap as tree
use Rattle.std.specs.Cmp.{IsTotalOrder, eq_by_cmp_equiv, nat_cmp_total, on_total, then_total}
use Rattle.std.specs.Cmp.Lexicographic.{nat_list_cmp_total, pointwise, slice_cmp}
use Rattle.std.specs.List.{filter, list_any}
use Rattle.std.specs.Map.{lookup}
use Rattle.std.specs.Ordering.{is_eq, nat_cmp, ordering_then}
use Rattle.std.specs.declared.cmp.Ordering.{Ordering}
use Rattle.std.proofs.lemmas.List.{map-append}
use Rattle.std.proofs.lemmas.List.Elements.{filter-append}
use Rattle.std.proofs.lemmas.List.Folds.{list_any-append}
use Rattle.dns_model.proofs.Lists.{lookup-same}
use Rattle.dns_model.proofs.TestLemmas.{or_false}
use Rattle.dns_model.specs.Owned.{OwnedNsec3}
use Rattle.dns_model.proofs.OrderLemmas.{bytes_ties, nat_ties}
use Rattle.dns_rules.specs.Nsec3Verdict.{Parameters, parameters_in}
use Rattle.dns_aggressive.specs.Denials.{distinct, same_way}
use Rattle.dns_aggressive.specs.Groups.{AreGroups, Map, group_at, items_or_none, lent, of_way, way_cmp}
use Rattle.dns_aggressive.proofs.Places.{both_tie}

-- ---- ways in order

abbrev ways_cmp : Parameters → Parameters → Ordering
ways_cmp a b = ordering_then (nat_cmp a.iterations b.iterations) (slice_cmp nat_cmp a.salt b.salt)

abbrev pub key_cmp : ℕ × Bor (List ℕ) → ℕ × Bor (List ℕ) → Ordering
key_cmp x y = ordering_then (nat_cmp x.0 y.0) (slice_cmp nat_cmp x.1.now y.1.now)

ways_total : IsTotalOrder ways_cmp
ways_total = then_total (on_total (λ w. w.iterations) nat_cmp_total) (on_total (λ w. w.salt) nat_list_cmp_total)

and_turned : (a b : Bool) → (a && b) ≡ (b && a)
and_turned true true = refl
and_turned true false = refl
and_turned false true = refl
and_turned false false = refl

ways_tie : (a b : Parameters) → same_way a b ≡ is_eq (ways_cmp b a)
ways_tie a b =
    let bytes = pointwise nat_eq b.salt a.salt in
    let rounds = b.iterations == a.iterations in
    and_turned bytes rounds
    ∙ both_tie rounds bytes (nat_cmp b.iterations a.iterations) (slice_cmp nat_cmp b.salt a.salt)
    (nat_ties b.iterations a.iterations) (bytes_ties b.salt a.salt)

pub ways_turned : (a b : Parameters) → same_way a b ≡ is_eq (ways_cmp a b)
ways_turned a b = ways_tie a b ∙ (eq_by_cmp_equiv ways_total).symm b a

-- ---- the ways of a list

same_other : (x o p : Parameters) → same_way x o ≡ true → same_way x p ≡ same_way o p
same_other x o p h =
    ways_turned x p ∙ (eq_by_cmp_equiv ways_total).congr x o p (sym (ways_turned x o) ∙ h) ∙ sym (ways_turned o p)

same_turned : (a b : Parameters) → same_way a b ≡ same_way b a
same_turned a b = ways_turned a b ∙ sym (ways_tie b a)

other_step : (p x o : Parameters) (ws : List Parameters) (b c : Bool) → same_way x o ≡ b → same_way x p ≡ false
    → list_any (λ w. same_way w p) ws ≡ c
    → list_any (λ w. same_way w p) (cond (not b) (o ∷ ws) ws) ≡ (same_way o p || c)
other_step p x o ws true c is apart h =
    h ∙ sym (ap (λ d. d || c) (sym (same_other x o p is) ∙ apart))
other_step p x o ws false c is apart h = ap (λ d. same_way o p || d) h

-- a way that isn't the first is among the others where it is among those that aren't the first either
any_other : (p x : Parameters) (ws : List Parameters) → same_way x p ≡ false
    → list_any (λ w. same_way w p) (filter (λ w. not (same_way x w)) ws) ≡ list_any (λ w. same_way w p) ws
any_other p x [] apart = refl
any_other p x (o ∷ ws) apart =
    other_step p x o (filter (λ w. not (same_way x w)) ws) (same_way x o) _ refl apart (any_other p x ws apart)

abbrev unless : Bool → Parameters → List Parameters
unless b p = cond b [] (p ∷ [])

last_step : (p x : Parameters) (b c d : Bool) → same_way x p ≡ b → (b ≡ false → d ≡ c)
    → filter (λ w. not (same_way x w)) (unless c p) ≡ unless (b || d) p
last_step p x true true d is h = refl
last_step p x true false d is h = ap (λ e. cond (not e) (p ∷ []) []) is
last_step p x false true d is h = sym (ap (λ e. unless e p) (h refl))
last_step p x false false d is h = ap (λ e. cond (not e) (p ∷ []) []) is ∙ sym (ap (λ e. unless e p) (h refl))

-- the ways of a list with one more at its end
pub distinct_more : (ws : List Parameters) (p : Parameters)
    → distinct (ws ++ p ∷ []) ≡ distinct ws ++ unless (list_any (λ w. same_way w p) (distinct ws)) p
unfolding distinct
distinct_more [] p = refl
distinct_more (x ∷ ws) p =
    ap (λ vs. x ∷ filter (λ w. not (same_way x w)) vs) (distinct_more ws p)
    ∙ ap (λ vs. x ∷ vs) (filter-append (λ w. not (same_way x w)) (distinct ws)
    (unless (list_any (λ w. same_way w p) (distinct ws)) p))
    ∙ ap (λ vs. x ∷ (filter (λ w. not (same_way x w)) (distinct ws) ++ vs))
    (last_step p x (same_way x p) (list_any (λ w. same_way w p) (distinct ws))
    (list_any (λ w. same_way w p) (filter (λ w. not (same_way x w)) (distinct ws))) refl (any_other p x (distinct ws)))

-- ---- one more record

ways_more : (list : List OwnedNsec3) (x : OwnedNsec3) → distinct (map parameters_in (list ++ x ∷ []))
    ≡ distinct (map parameters_in list) ++ unless
    (list_any (λ w. same_way w (parameters_in x)) (distinct (map parameters_in list))) (parameters_in x)
ways_more list x = ap distinct (map-append parameters_in list (x ∷ []))
    ∙ distinct_more (map parameters_in list) (parameters_in x)

-- equal ways have one group
pub same_group : {Z : Type 0} (groups : Map Z) (p way : Parameters) → same_way p way ≡ true
    → tree.get_by (way_cmp way) groups ≡ tree.get_by (way_cmp p) groups
same_group groups p way same =
    sym (lookup-same (λ k. is_eq (way_cmp p k)) (λ k. is_eq (way_cmp way k))
    (λ k. (eq_by_cmp_equiv ways_total).congr p way (record { iterations = k.0; salt = k.1.now })
    (sym (ways_turned p way) ∙ same))
    groups.entries)

of_way_more : (way : Parameters) (list : List OwnedNsec3) (x : OwnedNsec3) (b : Bool)
    → same_way way (parameters_in x) ≡ b
    → of_way way (list ++ x ∷ []) ≡ of_way way list ++ cond b (x ∷ []) []
of_way_more way list x b is =
    filter-append (λ n. same_way way (parameters_in n)) list (x ∷ [])
    ∙ ap (λ c. of_way way list ++ cond c (x ∷ []) []) is

nothing_more : {X : Type 0} (xs : List X) → xs ++ [] ≡ xs
nothing_more [] = refl
nothing_more (x ∷ xs) = ap (λ ys. x ∷ ys) (nothing_more xs)

-- what the map has for a way, once the group of another is written
written : {Z : Type 0} (old new : Map Z) (key : ℕ × Bor (List ℕ)) (group : Vec (Bor OwnedNsec3) Z) (p : Parameters)
    → record { iterations = key.0; salt = key.1.now } ≡ p
    → tree.Updates key_cmp old new key (Some group) → (way : Parameters)
    → tree.get_by (way_cmp way) new ≡ cond (same_way p way) (Some group) (tree.get_by (way_cmp way) old)
written old new key group p is updates way =
    updates.0 (way.iterations, record { ref_ptr = (0, 0); now = way.salt })
    ∙ ap (λ b. cond b (Some group) (tree.get_by (way_cmp way) old))
    (ap (λ w. is_eq (ways_cmp w way)) is ∙ sym (ways_turned p way))

each_step : {Z : Type 0} (old new : Map Z) (group : Vec (Bor OwnedNsec3) Z) (list : List OwnedNsec3)
    (firsts : List (Bor OwnedNsec3))
    (x : OwnedNsec3) (way : Parameters) (b : Bool) → same_way (parameters_in x) way ≡ b → AreGroups list firsts old
    → lent group.items ≡ group_at old (parameters_in x) ++ x ∷ []
    → tree.get_by (way_cmp way) new ≡ cond b (Some group) (tree.get_by (way_cmp way) old)
    → group_at new way ≡ of_way way (list ++ x ∷ [])
each_step old new group list firsts x way true is h grown w =
    ap items_or_none w ∙ grown
    ∙ ap (λ o. items_or_none o ++ x ∷ []) (sym (same_group old (parameters_in x) way is))
    ∙ ap (λ ns. ns ++ x ∷ []) (h.each way)
    ∙ sym (of_way_more way list x true (same_turned way (parameters_in x) ∙ is))
each_step old new group list firsts x way false is h grown w =
    ap items_or_none w ∙ h.each way ∙ sym (nothing_more (of_way way list))
    ∙ sym (of_way_more way list x false (same_turned way (parameters_in x) ∙ is))

known_step : {X : Type 0} (b c d : Bool) (x : X) (o : Option X) → is_some o ≡ c → (b ≡ true → d ≡ true → c ≡ true)
    → is_some (cond b (Some x) o) ≡ (c || cond d false b)
known_step true true d x o is h = refl
known_step true false true x o is h = sym (h refl refl)
known_step true false false x o is h = refl
known_step false true d x o is h = is
known_step false false true x o is h = is
known_step false false false x o is h = is

unless_any : (d : Bool) (p way : Parameters)
    → list_any (λ w. same_way w way) (unless d p) ≡ cond d false (same_way p way)
unless_any true p way = refl
unless_any false p way = or_false (same_way p way)

firsts_step : (firsts more : List (Bor OwnedNsec3)) (x : Bor OwnedNsec3) (ws : List Parameters) (d : Bool)
    → map parameters_in (lent firsts) ≡ ws → more ≡ cond d firsts (firsts ++ x ∷ [])
    → map parameters_in (lent more) ≡ ws ++ unless d (parameters_in x.now)
firsts_step firsts more x ws true h is = ap (λ ns. map parameters_in (lent ns)) is ∙ h ∙ sym (nothing_more ws)
firsts_step firsts more x ws false h is =
    ap (λ ns. map parameters_in (lent ns)) is ∙ ap (map parameters_in) (map-append (λ n. n.now) firsts (x ∷ []))
    ∙ map-append parameters_in (lent firsts) (x.now ∷ []) ∙ ap (λ vs. vs ++ parameters_in x.now ∷ []) h

-- a record behind the others: it goes into its group, or begins one
pub grouped_more : {Z : Type 0} (old new : Map Z) (firsts : List (Bor OwnedNsec3) × List (Bor OwnedNsec3))
    (key : ℕ × Bor (List ℕ))
    (group : Vec (Bor OwnedNsec3) Z) (list : List OwnedNsec3) (x : Bor OwnedNsec3) (d : Bool)
    → is_some (tree.get_by (way_cmp (parameters_in x.now)) old) ≡ d
    → record { iterations = key.0; salt = key.1.now } ≡ parameters_in x.now
    → lent group.items ≡ group_at old (parameters_in x.now) ++ x.now ∷ []
    → firsts.1 ≡ cond d firsts.0 (firsts.0 ++ x ∷ [])
    → tree.Updates key_cmp old new key (Some group)
    → AreGroups list firsts.0 old → AreGroups (list ++ x.now ∷ []) firsts.1 new
grouped_more old new firsts key group list x d met is grown last updates h =
    let p = parameters_in x.now in
    let ws = distinct (map parameters_in list) in
    let there : list_any (λ w. same_way w p) ws ≡ d = sym (h.known p) ∙ met in
    let ways : distinct (map parameters_in (list ++ x.now ∷ [])) ≡ ws ++ unless d p = ways_more list x.now
    ∙ ap (λ b. ws ++ unless b p) there in
    let put = written old new key group p is updates in
    record {
      heads = firsts_step firsts.0 firsts.1 x ws d h.heads last ∙ sym ways;
      each = λ way. each_step old new group list firsts.0 x.now way (same_way p way) refl h grown (put way);
      known = λ way. ap is_some (put way)
          ∙ known_step (same_way p way) (list_any (λ w. same_way w way) ws) d group (tree.get_by (way_cmp way) old)
          (h.known way)
          (λ same kept. sym (h.known way) ∙ ap is_some (same_group old p way same) ∙ met ∙ kept)
          ∙ ap (λ b. list_any (λ w. same_way w way) ws || b) (sym (unless_any d p way))
          ∙ sym (ap (list_any (λ w. same_way w way)) ways ∙ list_any-append (λ w. same_way w way) ws (unless d p));
    }

-- a record behind the others, whose group there is
pub joined : {Z : Type 0} (old new : Map Z) (firsts : List (Bor OwnedNsec3)) (key : ℕ × Bor (List ℕ))
    (before after : Vec (Bor OwnedNsec3) Z) (list : List OwnedNsec3) (x : Bor OwnedNsec3)
    → record { iterations = key.0; salt = key.1.now } ≡ parameters_in x.now
    → Some before ≡ tree.get_by (key_cmp key) old → after.items ≡ before.items ++ x ∷ []
    → tree.Updates key_cmp old new key (Some after)
    → AreGroups list firsts old → AreGroups (list ++ x.now ∷ []) firsts new
joined old new firsts key before after list x is there grown updates h =
    grouped_more old new (firsts, firsts) key after list x true
    (ap (λ w. is_some (tree.get_by (way_cmp w) old)) (sym is) ∙ sym (ap is_some there)) is
    (ap lent grown ∙ map-append (λ n. n.now) before.items (x ∷ [])
    ∙ ap (λ ns. ns ++ x.now ∷ []) (ap items_or_none there ∙ ap (group_at old) is))
    refl updates h

-- one that begins its group
pub begun : {Z : Type 0} (old new : Map Z) (firsts more : List (Bor OwnedNsec3)) (key : ℕ × Bor (List ℕ))
    (group : Vec (Bor OwnedNsec3) Z) (list : List OwnedNsec3) (x : Bor OwnedNsec3)
    → record { iterations = key.0; salt = key.1.now } ≡ parameters_in x.now
    → None ≡ tree.get_by (key_cmp key) old → group.items ≡ x ∷ [] → more ≡ firsts ++ x ∷ []
    → tree.Updates key_cmp old new key (Some group)
    → AreGroups list firsts old → AreGroups (list ++ x.now ∷ []) more new
begun old new firsts more key group list x is none one last updates h =
    grouped_more old new (firsts, more) key group list x false
    (ap (λ w. is_some (tree.get_by (way_cmp w) old)) (sym is) ∙ sym (ap is_some none)) is
    (ap lent one ∙ ap (λ ns. ns ++ x.now ∷ []) (ap items_or_none none ∙ ap (group_at old) is))
    last updates h

-- no record
pub none_grouped : {Z : Type 0} (firsts : List (Bor OwnedNsec3)) (groups : Map Z) → firsts ≡ [] → groups.entries ≡ []
    → AreGroups [] firsts groups
unfolding distinct
none_grouped firsts groups h e = record {
  heads = ap (λ fs. map parameters_in (lent fs)) h;
  each = λ way. ap (λ es. items_or_none (lookup (λ k. is_eq (way_cmp way k)) es)) e;
  known = λ way. ap (λ es. is_some (lookup (λ k. is_eq (way_cmp way k)) es)) e;
}
