-- Keys in order with their numbers, and the places that they have.
use Rattle.std.proofs.Common.{◌≡◌, ◌≢◌, ℕ, zero, suc, ◌+◌, ◌-◌, ◌*◌, ◌<◌, ◌≤◌, Bool, true, false, not, List, [], ◌∷◌, ◌++◌, map, length, get_or, set, refl, sym, ap, ◌∙◌, arith, subst, ⊎_elim, Ordering}
use Rattle.std.specs.Cmp.{IsStrictWeakOrder}
use Rattle.std.specs.Cmp.Lexicographic.{slice_cmp}
use Rattle.std.specs.List.{All, Contains}
use Rattle.std.specs.List.Sorted.{IsPermutation, IsSorted, IsSortedBy}
use Rattle.std.specs.Ordering.{nat_cmp, is_lt, is_eq, ordering_reverse}
use Rattle.std.specs.Prelude.{nat_eq}
use Rattle.std.specs.Str.{bytes_eq}
use Rattle.std.specs.declared.cmp.Ordering.TheVariants.{Less, Equal, Greater}
use Rattle.std.proofs.lemmas.Bool.{both_ways, cases_lt, not-false, not-true}
use Rattle.std.proofs.lemmas.Bool.Decides.{Decides-eqb, not_from_Decides}
use Rattle.std.proofs.lemmas.Cmp.{nat_list_cmp_total, tied_itself}
use Rattle.std.proofs.lemmas.Grind.{get_or-set_at}
use Rattle.std.proofs.lemmas.List.{get_or_default, get_or-map, get_or-set_other, length-map, length-set}
use Rattle.std.proofs.lemmas.List.Folds.{list_any_at}
use Rattle.std.proofs.lemmas.Slice.Eq.{bytes_eq-Decides}
use Rattle.std.proofs.lemmas.List.Sorted.{All-permutation, Contains-permutation, IsPermutation-map, length_permutation, ranks_by}
use Rattle.dns_denial_index.specs.Places.{key_before, same_key, key_of, number_all, rank, is_point, place_of, IsNumbered, IsFirstOf, IsPlacedTo}
use Rattle.dns_denial_index.proofs.PlaceOrder.{at_point, one_key, not_itself}
use Rattle.dns_denial_index.proofs.Search.{all_before, none_before, ranked_at, points_in_order}

-- ---- numbers

number_count : (from : ℕ) (keys : List (List ℕ)) → length (number_all from keys) ≡ length keys
number_count from [] = refl
number_count from (key ∷ keys) = ap suc (number_count (from + 1) keys)

number_more : (from : ℕ) (keys : List (List ℕ)) (key : List ℕ)
    → number_all from (keys ++ key ∷ []) ≡ number_all from keys ++ (key, from + length keys) ∷ []
number_more from [] key =
    let e : from ≡ from + 0 = omega arith in
    ap (λ (n : ℕ). (key, n) ∷ []) e
number_more from (first ∷ keys) key =
    let e : from + 1 + length keys ≡ from + length (first ∷ keys) = omega arith in
    ap (λ l. (first, from) ∷ l) (number_more (from + 1) keys key
    ∙ ap (λ (n : ℕ). number_all (from + 1) keys ++ (key, n) ∷ []) e)

-- one key more
pub numbered_more : (keys : List (List ℕ)) (key : List ℕ) (all more : List (List ℕ × ℕ)) (number : ℕ)
    → all ≡ number_all 0 keys → number ≡ length all → more ≡ all ++ (key, number) ∷ []
    → more ≡ number_all 0 (keys ++ key ∷ [])
numbered_more keys key all more number before is grown =
    let long : length all ≡ length keys = ap length before ∙ number_count 0 keys in
    let e : number ≡ 0 + length keys = omega (arith, is, long) in
    grown ∙ ap (λ l. l ++ (key, number) ∷ []) before ∙ ap (λ (n : ℕ). number_all 0 keys ++ (key, n) ∷ []) e
    ∙ sym (number_more 0 keys key)

number_at : (from : ℕ) (keys : List (List ℕ)) (k : ℕ) (d : List ℕ × ℕ) (e : List ℕ) → k < length keys
    → get_or (number_all from keys) k d ≡ (get_or keys k e, from + k)
number_at from [] k d e lt = absurd (omega (arith, lt))
number_at from (key ∷ keys) zero d e lt =
    let same : from ≡ from + 0 = omega arith in
    ap (λ (n : ℕ). (key, n)) same
number_at from (key ∷ keys) (suc k) d e lt =
    let same : from + 1 + k ≡ from + suc k = omega arith in
    number_at (from + 1) keys k d e (omega (arith, lt)) ∙ ap (λ (n : ℕ). (get_or keys k e, n)) same

numbered_at : (keys : List (List ℕ)) (k : ℕ) (d : List ℕ × ℕ) (e : List ℕ) → k < length keys
    → get_or (number_all 0 keys) k d ≡ (get_or keys k e, k)
numbered_at keys k d e lt =
    let same : 0 + k ≡ k = omega arith in
    number_at 0 keys k d e lt ∙ ap (λ (n : ℕ). (get_or keys k e, n)) same

keys_again : (from : ℕ) (keys : List (List ℕ)) → map key_of (number_all from keys) ≡ keys
keys_again from [] = refl
keys_again from (key ∷ keys) = ap (λ l. key ∷ l) (keys_again (from + 1) keys)

-- keys with numbers are in the order of their keys
pub numbered_order : IsStrictWeakOrder (λ (x y : List ℕ × ℕ). key_before (key_of x) (key_of y))
numbered_order = ranks_by nat_list_cmp_total key_of

-- what is in the order of its keys has keys in order
pub keys_in_order : (ns : List (List ℕ × ℕ)) → IsSortedBy (λ (x y : List ℕ × ℕ). key_before (key_of x) (key_of y)) ns
    → IsSorted (slice_cmp nat_cmp) (map key_of ns)
keys_in_order ns sorted k d low lt =
    let within : k + 1 < length ns = omega (arith, lt, length-map ns key_of) in
    let later : get_or (map key_of ns) (k + 1) d ≡ key_of (get_or ns (k + 1) (d, 0)) =
    get_or-map key_of ns (k + 1) (d, 0) d within in
    let here : get_or (map key_of ns) k d ≡ key_of (get_or ns k (d, 0)) =
    get_or-map key_of ns k (d, 0) d (omega (arith, within)) in
    ap (λ x. key_before x (get_or (map key_of ns) k d)) later
    ∙ ap (λ y. key_before (key_of (get_or ns (k + 1) (d, 0))) y) here
    ∙ sorted k (d, 0) low within

pub points_of : (keys : List (List ℕ)) (ns : List (List ℕ × ℕ)) → IsNumbered keys ns
    → IsPermutation keys (map key_of ns)
points_of keys ns is =
    subst (λ (l : List (List ℕ)). IsPermutation l (map key_of ns)) (keys_again 0 keys)
    (IsPermutation-map key_of (number_all 0 keys) ns is.all)

pub numbered_count : (keys : List (List ℕ)) (ns : List (List ℕ × ℕ)) → IsNumbered keys ns → length ns ≡ length keys
numbered_count keys ns is = length_permutation (number_all 0 keys) ns is.all ∙ number_count 0 keys

-- a key with its number
pub record IsKeyIn (keys : List (List ℕ)) (n : List ℕ × ℕ) : Type 0 where
  pub within : n.1 < length keys
  pub is : (e : List ℕ) → get_or keys n.1 e ≡ n.0

all_keys : (keys : List (List ℕ)) → All (IsKeyIn keys) (number_all 0 keys)
all_keys keys k d lt =
    let within : k < length keys = omega (arith, lt, number_count 0 keys) in
    let at : get_or (number_all 0 keys) k d ≡ (get_or keys k (d.0), k) = numbered_at keys k d (d.0) within in
    subst (λ (n : List ℕ × ℕ). IsKeyIn keys n) (sym at)
    (record { within = within; is = λ e. get_or_default keys k e (d.0) within })

pub key_in : (keys : List (List ℕ)) (ns : List (List ℕ × ℕ)) (k : ℕ) (d : List ℕ × ℕ) → IsNumbered keys ns
    → k < length ns → IsKeyIn keys (get_or ns k d)
key_in keys ns k d is lt = All-permutation (IsKeyIn keys) (number_all 0 keys) ns is.all (all_keys keys) k d lt

key_met : (keys : List (List ℕ)) (ns : List (List ℕ × ℕ)) (k : ℕ) (e : List ℕ) → IsNumbered keys ns
    → k < length keys → Contains ns (get_or keys k e, k)
key_met keys ns k e is lt =
    Contains-permutation (number_all 0 keys) ns (get_or keys k e, k) is.all
    (k, omega (arith, lt, number_count 0 keys), numbered_at keys k (get_or keys k e, k) e lt)

-- ---- the first of equal points

strictly : (one two : List ℕ) → key_before two one ≡ false → one ≢ two → key_before one two ≡ true
strictly one two le other = by (slice_cmp nat_cmp one two) refl
  where
    by : (o : Ordering) → slice_cmp nat_cmp one two ≡ o → key_before one two ≡ true
    by Less e = ap is_lt e
    by Equal e = absurd (other (one_key one two (ap is_eq e)))
    by Greater e =
        let less : key_before two one ≡ true =
        ap is_lt (nat_list_cmp_total.antisymm two one ∙ ap ordering_reverse e) in
        absurd (both_ways (key_before two one) le less)

-- the next point is the same
first_stays : (points : List (List ℕ)) (count first : ℕ) → IsFirstOf points count first
    → ((d : List ℕ) → get_or points count d ≡ get_or points first d) → IsFirstOf points (count + 1) first
first_stays points count first is same =
    let e : count + 1 - 1 ≡ count = omega arith in
    record {
      order = omega (arith, is.order);
      before = is.before;
      last = λ d some. ap (λ n. get_or points n d) e ∙ same d;
    }

-- all points before another one come before it
begins_after : (points : List (List ℕ)) (count first : ℕ) → IsSorted (slice_cmp nat_cmp) points
    → IsFirstOf points count first → count < length points
    → ((d : List ℕ) → get_or points count d ≢ get_or points first d) → (k : ℕ) (d : List ℕ) → k < count
    → key_before (get_or points k d) (get_or points count d) ≡ true
begins_after points count first sorted is lt other k d low =
    let last : get_or points (count - 1) d ≡ get_or points first d = is.last d (omega (arith, low)) in
    let here : key_before (get_or points (count - 1) d) (get_or points count d) ≡ true =
    strictly (get_or points (count - 1) d) (get_or points count d)
    (points_in_order points sorted (count - 1) count d d (omega arith) lt)
    (λ h. other d (sym h ∙ last)) in
    all_before points (get_or points count d) (count - 1) d sorted (omega (arith, lt)) here k d (omega (arith, low))

first_begins : (points : List (List ℕ)) (count first : ℕ) → IsSorted (slice_cmp nat_cmp) points
    → IsFirstOf points count first → count < length points
    → ((d : List ℕ) → get_or points count d ≢ get_or points first d) → IsFirstOf points (count + 1) count
first_begins points count first sorted is lt other =
    let e : count + 1 - 1 ≡ count = omega arith in
    record {
      order = omega arith;
      before = begins_after points count first sorted is lt other;
      last = λ d some. ap (λ n. get_or points n d) e;
    }

key_at : (ns : List (List ℕ × ℕ)) (k : ℕ) (n : List ℕ × ℕ) (d : List ℕ) → k < length ns → n ≡ get_or ns k n
    → get_or (map key_of ns) k d ≡ n.0
key_at ns k n d lt read = get_or-map key_of ns k n d lt ∙ ap key_of (sym read)

pub turn_stays : (ns : List (List ℕ × ℕ)) (count first : ℕ) (one two : List ℕ × ℕ) → count < length ns
    → one ≡ get_or ns count one → two ≡ get_or ns first two → IsFirstOf (map key_of ns) count first
    → false ≡ not (bytes_eq one.0 two.0) → IsFirstOf (map key_of ns) (count + 1) first
turn_stays ns count first one two lt here there is same =
    first_stays (map key_of ns) count first is (λ d. key_at ns count one d lt here
    ∙ (bytes_eq-Decides one.0 two.0).0 (not-false (bytes_eq one.0 two.0) (sym same))
    ∙ sym (key_at ns first two d (omega (arith, lt, is.order)) there))

pub turn_begins : (ns : List (List ℕ × ℕ)) (count first : ℕ) (one two : List ℕ × ℕ)
    → IsSorted (slice_cmp nat_cmp) (map key_of ns) → count < length ns
    → one ≡ get_or ns count one → two ≡ get_or ns first two → IsFirstOf (map key_of ns) count first
    → true ≡ not (bytes_eq one.0 two.0) → IsFirstOf (map key_of ns) (count + 1) count
turn_begins ns count first one two sorted lt here there is other =
    first_begins (map key_of ns) count first sorted is (omega (arith, lt, length-map ns key_of))
    (λ d h. not_from_Decides (bytes_eq one.0 two.0) (bytes_eq-Decides one.0 two.0)
    (not-true (bytes_eq one.0 two.0) (sym other))
    (sym (key_at ns count one d lt here) ∙ h ∙ key_at ns first two d (omega (arith, lt, is.order)) there))

-- ---- places

same_itself : (key : List ℕ) → same_key key key ≡ true
same_itself key = ap is_eq (tied_itself nat_list_cmp_total key)

first_place : (points : List (List ℕ)) (count first : ℕ) (d : List ℕ) → IsSorted (slice_cmp nat_cmp) points
    → IsFirstOf points (count + 1) first → count < length points
    → 2 * first + 1 ≡ place_of points (get_or points count d)
first_place points count first d sorted is lt =
    let key : List ℕ = get_or points count d in
    let e : count + 1 - 1 ≡ count = omega arith in
    let same : key ≡ get_or points first d = sym (ap (λ n. get_or points n d) e) ∙ is.last d (omega arith) in
    let behind : key_before (get_or points first d) key ≡ false =
    ap (λ k. key_before k key) (sym same) ∙ not_itself key in
    let ranked : first ≡ rank points key =
    ranked_at points key first (omega (arith, is.order, lt)) (
      λ k c low before. ap (key_before (get_or points k c)) (same
          ∙ get_or_default points first d c (omega (arith, is.order, lt)))
          ∙ is.before k c before,
      λ k c from within. none_before points key first d sorted behind k c from within,
    ) in
    let there : is_point points key ≡ true =
    list_any_at (λ p. same_key p key) points count d lt (same_itself key) in
    ap (λ n. 2 * n + 1) ranked ∙ sym (at_point points key there)

-- what is written at one number leaves the others
kept_or_written : (points : List (List ℕ)) (found : List ℕ) (number place : ℕ) (m : List ℕ × ℕ)
    → (m.1 ≡ number → get_or (set found number place) m.1 0 ≡ place_of points m.0)
    → get_or found m.1 0 ≡ place_of points m.0 → (b : Bool) → nat_eq m.1 number ≡ b
    → get_or (set found number place) m.1 0 ≡ place_of points m.0
kept_or_written points found number place m written before true e = written ((Decides-eqb m.1 number).0 e)
kept_or_written points found number place m written before false e =
    get_or-set_other found number m.1 place 0 (not_from_Decides (nat_eq m.1 number) (Decides-eqb m.1 number) e) ∙ before

-- a turn: another key has its place
pub placed_turn : (keys : List (List ℕ)) (ns : List (List ℕ × ℕ)) (count first next : ℕ) (found : List ℕ)
    (n : List ℕ × ℕ) → IsNumbered keys ns → count < length ns → n ≡ get_or ns count n
    → IsPlacedTo keys ns count first found → IsFirstOf (map key_of ns) (count + 1) next
    → IsPlacedTo keys ns (count + 1) next (set found n.1 (2 * next + 1))
placed_turn keys ns count first next found n numbers lt read is start =
    let points : List (List ℕ) = map key_of ns in
    let long : length points ≡ length ns = length-map ns key_of in
    let own : IsKeyIn keys n =
    subst (λ (x : List ℕ × ℕ). IsKeyIn keys x) (sym read) (key_in keys ns count n numbers lt) in
    let place : 2 * next + 1 ≡ place_of points n.0 =
    first_place points count next n.0 numbers.order start (omega (arith, lt, long))
    ∙ ap (place_of points) (key_at ns count n n.0 lt read) in
    let written : (m : List ℕ × ℕ) → IsKeyIn keys m → m.1 ≡ n.1
    → get_or (set found n.1 (2 * next + 1)) m.1 0 ≡ place_of points m.0 =
    λ m its e.
    get_or-set_at found n.1 m.1 (2 * next + 1) 0 e (omega (arith, own.within, is.long)) ∙ place
    ∙ ap (place_of points) (sym (own.is n.0) ∙ ap (λ i. get_or keys i n.0) (sym e) ∙ its.is n.0) in
    let kept : (m : List ℕ × ℕ) → IsKeyIn keys m → get_or found m.1 0 ≡ place_of points m.0
    → (b : Bool) → nat_eq m.1 n.1 ≡ b → get_or (set found n.1 (2 * next + 1)) m.1 0 ≡ place_of points m.0 =
    λ m its before b e. kept_or_written points found n.1 (2 * next + 1) m (written m its) before b e in
    record {
      long = length-set found n.1 (2 * next + 1) ∙ is.long;
      start = start;
      places = λ k d within.
          let m : List ℕ × ℕ = get_or ns k d in
          let its : IsKeyIn keys m = key_in keys ns k d numbers (omega (arith, within, lt)) in
          ⊎_elim {A = k < count} {B = count ≤ k}
          {C = get_or (set found n.1 (2 * next + 1)) m.1 0 ≡ place_of points m.0}
          (λ less. kept m its (is.places k d less) (nat_eq m.1 n.1) refl)
          (λ le.
          let same : k ≡ count = omega (arith, within, le) in
          let e : m ≡ n = ap (λ i. get_or ns i d) same ∙ get_or_default ns count d n lt ∙ sym read in
          written m its (ap (λ (x : List ℕ × ℕ). x.1) e))
          (cases_lt k count);
    }

listed : {X : Type 0} (f : X → ℕ) (xs : List X) (ys : List ℕ) → length ys ≡ length xs
    → ((k : ℕ) (d : X) → k < length xs → get_or ys k 0 ≡ f (get_or xs k d)) → ys ≡ map f xs
listed f [] [] long each = refl
listed f [] (y ∷ ys) long each = absurd (omega (arith, long))
listed f (x ∷ xs) [] long each = absurd (omega (arith, long))
listed f (x ∷ xs) (y ∷ ys) long each =
    ap (λ n. n ∷ ys) (each zero x (omega arith))
    ∙ ap (λ l. f x ∷ l) (listed f xs ys (omega (arith, long)) (λ k d lt. each (suc k) d (omega (arith, lt))))

-- all have their places
pub placed_all : (keys : List (List ℕ)) (ns : List (List ℕ × ℕ)) (count first : ℕ) (found : List ℕ)
    → IsNumbered keys ns → IsPlacedTo keys ns count first found → length ns ≤ count
    → found ≡ map (place_of (map key_of ns)) keys
placed_all keys ns count first found numbers is end =
    listed (place_of (map key_of ns)) keys found is.long (λ k e lt.
    let met = key_met keys ns k e numbers lt in
    let x : List ℕ × ℕ = (get_or keys k e, k) in
    sym (ap (λ (n : List ℕ × ℕ). get_or found n.1 0) met.2)
    ∙ is.places met.0 x (omega (arith, met.1, end))
    ∙ ap (λ (n : List ℕ × ℕ). place_of (map key_of ns) n.0) met.2)
