-- Records that stay, and the positions to which they move.
use Rattle.std.proofs.Common.{◌≡◌, ℕ, zero, suc, ◌+◌, ◌-◌, ◌<◌, ◌≤◌, Bool, true, false, cond, not, ◌&&◌, List, [], ◌∷◌, ◌++◌, map, length, drop, take, get_or, set, refl, sym, ap, ◌∙◌, subst, ⊎_elim, arith}
use Rattle.std.specs.List.{Contains, filter, list_any}
use Rattle.std.specs.declared.cmp.Ordering.TheVariants.{Less}
use Rattle.std.proofs.lemmas.Bool.{both_ways, cases_lt, false_from_ne_true}
use Rattle.std.proofs.lemmas.List.{drop-drop, drop_at, get_or_append_left, get_or_default, get_or-drop, get_or_push, length-drop, length-map, length_push, length-take-le}
use Rattle.std.proofs.lemmas.List.Elements.{filter_passes}
use Rattle.std.proofs.lemmas.List.Filters.{FiltersInPlace, FiltersInPlace-more_no, FiltersInPlace-more_set, length-filter_more}
use Rattle.std.proofs.lemmas.List.Folds.{list_any_at, list_any_none}
use Rattle.std.proofs.lemmas.List.Kept.{AllPairs-filter}
use Rattle.dns_aggressive.specs.Records.{KeptValue}
use Rattle.dns_aggressive.specs.Lists.{last_of, latest, same_place}
use Rattle.dns_aggressive.specs.Flags.{are_apart, flagged}
use Rattle.dns_aggressive.specs.Places.{record_cmp}
use Rattle.dns_aggressive.specs.Orders.{at, nowhere, nth, nth_of, AreInside, AreLatest, IsLatest, IsPlaced}
use Rattle.dns_aggressive.specs.Compaction.{AreCounted, AreMarked, count_set, flag_at}
use Rattle.dns_aggressive.proofs.Orders.{pairs_from}
use Rattle.dns_aggressive.proofs.Learned.{apart_latest}

-- ---- where what stays stands

pub moved_at : {X : Type 0} (flags : List Bool) (xs : List X) (i : ℕ) (d : X) → length flags ≡ length xs
    → get_or flags i false ≡ true → get_or (flagged flags xs) (count_set (take i flags)) d ≡ get_or xs i d
unfolding count_set flagged
moved_at [] xs i d long stays = cc
moved_at (flag ∷ flags) [] i d long stays = absurd (omega (arith, long))
moved_at (true ∷ flags) (x ∷ xs) zero d long stays = refl
moved_at (false ∷ flags) (x ∷ xs) zero d long stays = cc
moved_at (true ∷ flags) (x ∷ xs) (suc i) d long stays = moved_at flags xs i d (omega (arith, long)) stays
moved_at (false ∷ flags) (x ∷ xs) (suc i) d long stays = moved_at flags xs i d (omega (arith, long)) stays

pub moved_within : {X : Type 0} (flags : List Bool) (xs : List X) (i : ℕ) → length flags ≡ length xs
    → get_or flags i false ≡ true → count_set (take i flags) < length (flagged flags xs)
unfolding count_set flagged
moved_within [] xs i long stays = cc
moved_within (flag ∷ flags) [] i long stays = absurd (omega (arith, long))
moved_within (true ∷ flags) (x ∷ xs) zero long stays = omega arith
moved_within (false ∷ flags) (x ∷ xs) zero long stays = cc
moved_within (true ∷ flags) (x ∷ xs) (suc i) long stays =
    let lt = moved_within flags xs i (omega (arith, long)) stays in omega (arith, lt)
moved_within (false ∷ flags) (x ∷ xs) (suc i) long stays = moved_within flags xs i (omega (arith, long)) stays

-- a position to which one is moved
pub record IsMovedTo (flags : List Bool) (to : ℕ) : Type 0 where
  pub from : ℕ
  pub stays : get_or flags from false ≡ true
  pub is : count_set (take from flags) ≡ to

moved_past_set : (flags : List Bool) (to : ℕ) → IsMovedTo flags to → IsMovedTo (true ∷ flags) (suc to)
unfolding count_set
moved_past_set flags to h = record { from = suc h.from; stays = h.stays; is = ap suc h.is }

moved_past_unset : (flags : List Bool) (to : ℕ) → IsMovedTo flags to → IsMovedTo (false ∷ flags) to
unfolding count_set
moved_past_unset flags to h = record { from = suc h.from; stays = h.stays; is = h.is }

moved_first : (flags : List Bool) → IsMovedTo (true ∷ flags) zero
unfolding count_set
moved_first flags = record { from = zero; stays = refl; is = refl }

pub moved_from : {X : Type 0} (flags : List Bool) (xs : List X) (to : ℕ) → to < length (flagged flags xs)
    → IsMovedTo flags to
unfolding flagged
moved_from [] xs to within = absurd (omega (arith, within))
moved_from (flag ∷ flags) [] to within = absurd (omega (arith, within))
moved_from (true ∷ flags) (x ∷ xs) zero within = moved_first flags
moved_from (true ∷ flags) (x ∷ xs) (suc to) within =
    moved_past_set flags to (moved_from flags xs to (omega (arith, within)))
moved_from (false ∷ flags) (x ∷ xs) to within = moved_past_unset flags to (moved_from flags xs to within)

-- ---- what a list contains

pub contains_filter : (test : ℕ → Bool) (xs : List ℕ) (i x : ℕ) → i < length xs → get_or xs i x ≡ x → test x ≡ true
    → Contains (filter test xs) x
contains_filter test [] i x within is pass = absurd (omega (arith, within))
contains_filter test (y ∷ xs) zero x within is pass =
    subst (λ (b : Bool). Contains (cond b (y ∷ filter test xs) (filter test xs)) x) (sym (ap test is ∙ pass))
    (zero, omega arith, is)
contains_filter test (y ∷ xs) (suc i) x within is pass =
    let more = contains_filter test xs i x (omega (arith, within)) is pass in
    elim (test y) as (λ b. Contains (cond b (y ∷ filter test xs) (filter test xs)) x) [
      | true ↦ (suc more.0, (let lt = more.1 in omega (arith, lt)), more.2)
      | false ↦ more
    ]

pub contains_map : (f : ℕ → ℕ) (xs : List ℕ) (i x : ℕ) → i < length xs → get_or xs i x ≡ x → Contains (map f xs) (f x)
contains_map f xs i x within is = (
  i,
  omega (arith, within, length-map xs f),
  get_or_default (map f xs) i (f x) (f x) (omega (arith, within, length-map xs f))
      ∙ mapped xs i within ∙ ap f is,
)
  where
    mapped : (xs : List ℕ) (i : ℕ) → i < length xs → get_or (map f xs) i (f x) ≡ f (get_or xs i x)
    mapped [] i within = absurd (omega (arith, within))
    mapped (y ∷ xs) zero within = refl
    mapped (y ∷ xs) (suc i) within = mapped xs i (omega (arith, within))

pub nth_map : (f : ℕ → ℕ) (xs : List ℕ) (i : ℕ) → i < length xs → nth (map f xs) i ≡ f (nth xs i)
nth_map f [] i within = absurd (omega (arith, within))
nth_map f (y ∷ xs) zero within = refl
nth_map f (y ∷ xs) (suc i) within = nth_map f xs i (omega (arith, within))

-- ---- records apart

not_any : {X : Type 0} (test : X → Bool) (xs : List X) (i : ℕ) (d : X) → list_any test xs ≡ false → i < length xs
    → test (get_or xs i d) ≡ false
not_any test xs i d none within =
    false_from_ne_true (test (get_or xs i d)) (λ pass. both_ways (list_any test xs) none (list_any_at test xs i d
    within pass))

not_false : (a b : Bool) → (not a && b) ≡ true → a ≡ false
not_false true b h = cc
not_false false b h = refl

rest_true : (a b : Bool) → (not a && b) ≡ true → b ≡ true
rest_true true b h = cc
rest_true false b h = h

apart_far : (xs : List KeptValue) (i j : ℕ) (d : KeptValue) → are_apart xs ≡ true → i < j → j < length xs
    → same_place (get_or xs i d) (get_or xs j d) ≡ false
unfolding are_apart
apart_far [] i j d h lt within = absurd (omega (arith, within))
apart_far (x ∷ xs) i zero d h lt within = absurd (omega (arith, lt))
apart_far (x ∷ xs) zero (suc j) d h lt within =
    not_any (same_place x) xs j d (not_false (list_any (same_place x) xs) (are_apart xs) h) (omega (arith, within))
apart_far (x ∷ xs) (suc i) (suc j) d h lt within =
    apart_far xs i j d (rest_true (list_any (same_place x) xs) (are_apart xs) h) (omega (arith, lt)) (omega (
      arith,
      within,
    ))

pub latest_apart : (xs : List KeptValue) → are_apart xs ≡ true → AreLatest xs 0 (length xs)
latest_apart xs h = record {
  each = λ p from within. record { each = λ later lt later_within. apart_far xs p later nowhere h lt later_within };
}

-- no later record has its place
none_later : (kept : List KeptValue) (p : ℕ) → p < length kept → IsLatest kept (length kept) p
    → list_any (same_place (at kept p)) (drop (p + 1) kept) ≡ false
none_later kept p within h =
    list_any_none (same_place (at kept p)) (drop (p + 1) kept)
    (λ k d k_within.
    let long : k < length kept - (p + 1) = omega (arith, k_within, length-drop (p + 1) kept) in
    ap (same_place (at kept p)) (get_or_default (drop (p + 1) kept) k d nowhere k_within
    ∙ get_or-drop (p + 1) kept k nowhere)
    ∙ h.each (p + 1 + k) (omega arith) (omega (arith, long)))

is_latest : (kept : List KeptValue) (p : ℕ) → list_any (same_place (at kept p)) (drop (p + 1) kept) ≡ false
    → IsLatest kept (length kept) p
is_latest kept p none = record {
  each = λ later lt within.
      let e : p + 1 + (later - (p + 1)) ≡ later = omega (arith, lt) in
      ap (λ (n : ℕ). same_place (at kept p) (at kept n)) (sym e)
      ∙ ap (same_place (at kept p)) (sym (get_or-drop (p + 1) kept (later - (p + 1)) nowhere))
      ∙ not_any (same_place (at kept p)) (drop (p + 1) kept) (later - (p + 1)) nowhere none
      (omega (arith, lt, within, length-drop (p + 1) kept));
}

-- ---- what stays are the latest records

one_step : (b : Bool) (x : KeptValue) (xs : List KeptValue) → cond (not b) (x ∷ xs) xs ≡ cond b xs (x ∷ xs)
one_step true x xs = refl
one_step false x xs = refl

flagged_latest : (flags : List Bool) (xs : List KeptValue) → length flags ≡ length xs
    → ((k : ℕ) → k < length xs
    → get_or flags k false ≡ not (list_any (same_place (get_or xs k nowhere)) (drop (suc k) xs)))
    → flagged flags xs ≡ latest xs
unfolding flagged latest
flagged_latest [] [] long h = refl
flagged_latest [] (x ∷ xs) long h = absurd (omega (arith, long))
flagged_latest (flag ∷ flags) [] long h = absurd (omega (arith, long))
flagged_latest (flag ∷ flags) (x ∷ xs) long h =
    ap (λ ys. cond flag (x ∷ ys) ys)
    (flagged_latest flags xs (omega (arith, long)) (λ k within. h (suc k) (omega (arith, within))))
    ∙ ap (λ b. cond b (x ∷ latest xs) (latest xs)) (h zero (omega arith))
    ∙ one_step (list_any (same_place x) xs) x (latest xs)

flagged_nil : {X : Type 0} (flags : List Bool) → flagged {X = X} flags [] ≡ []
unfolding flagged
flagged_nil [] = refl
flagged_nil (flag ∷ flags) = refl

flagged_drop : {X : Type 0} (gone : ℕ) (flags : List Bool) (xs : List X)
    → ((k : ℕ) → get_or flags k false ≡ true → gone ≤ k) → flagged flags xs ≡ flagged (drop gone flags) (drop gone xs)
unfolding flagged
flagged_drop zero flags xs h = refl
flagged_drop (suc gone) [] xs h = refl
flagged_drop (suc gone) (flag ∷ flags) [] h = sym (flagged_nil (drop gone flags))
flagged_drop (suc gone) (true ∷ flags) (x ∷ xs) h = absurd (let no = h zero refl in omega (arith, no))
flagged_drop (suc gone) (false ∷ flags) (x ∷ xs) h =
    flagged_drop gone flags xs (λ k set_. let le = h (suc k) set_ in omega (arith, le))

pub staying_latest : (kept : List KeptValue) (order : List ℕ) (gone : ℕ) (flags : List Bool)
    → IsPlaced kept (length kept) order → AreMarked order gone (length kept) flags
    → flagged flags kept ≡ latest (drop gone kept)
staying_latest kept order gone flags placed marked =
    flagged_drop gone flags kept (λ k set_. (marked.unset k set_).0)
    ∙ flagged_latest (drop gone flags) (drop gone kept)
    (let long = marked.long in omega (arith, long, length-drop gone flags, length-drop gone kept))
    (λ k within.
    let p : ℕ = gone + k in
    let p_within : gone + k < length kept = omega (arith, within, length-drop gone kept) in
    let next : gone + suc k ≡ gone + k + 1 = omega arith in
    get_or-drop gone flags k false
    ∙ set_where k p_within (list_any (same_place (at kept (gone + k))) (drop (gone + k + 1) kept)) refl
    ∙ ap not (sym (ap (λ x. list_any (same_place x) (drop (suc k) (drop gone kept))) (get_or-drop gone kept k nowhere)
    ∙ ap (list_any (same_place (at kept (gone + k)))) (drop-drop (suc k) gone kept)
    ∙ ap (λ (n : ℕ). list_any (same_place (at kept (gone + k))) (drop n kept)) next)))
  where
    set_where : (k : ℕ) → gone + k < length kept → (b : Bool)
        → list_any (same_place (at kept (gone + k))) (drop (gone + k + 1) kept) ≡ b
        → get_or flags (gone + k) false ≡ not (list_any (same_place (at kept (gone + k))) (drop (gone + k + 1) kept))
    set_where k within true is =
        false_from_ne_true (get_or flags (gone + k) false)
        (λ set_.
        let there = (marked.unset (gone + k) set_).1 in
        let last : IsLatest kept (length kept) (gone + k) =
        subst (λ (n : ℕ). IsLatest kept (length kept) n)
        (get_or_default order there.0 0 (gone + k) there.1 ∙ there.2) (placed.last there.0 there.1) in
        both_ways (list_any (same_place (at kept (gone + k))) (drop (gone + k + 1) kept))
        (none_later kept (gone + k) within last) is)
        ∙ ap not (sym is)
    set_where k within false is =
        marked.set_ (gone + k) (omega arith) (placed.there (gone + k) within (is_latest kept (gone + k) is))
        ∙ ap not (sym is)

-- ---- the order of what stays

pub set_within : (flags : List Bool) (i : ℕ) → get_or flags i false ≡ true → i < length flags
set_within [] i set_ = cc
set_within (flag ∷ flags) zero set_ = omega arith
set_within (flag ∷ flags) (suc i) set_ = let lt = set_within flags i set_ in omega (arith, lt)

pub placed_staying : (kept : List KeptValue) (order : List ℕ) (gone : ℕ) (flags : List Bool) (numbers : List ℕ)
    → IsPlaced kept (length kept) order → AreMarked order gone (length kept) flags
    → AreCounted flags (length flags) numbers → are_apart (flagged flags kept) ≡ true
    → IsPlaced (flagged flags kept) (length (flagged flags kept)) (map (nth numbers) (filter (flag_at flags) order))
placed_staying kept order gone flags numbers placed marked counted apart =
    let left : List ℕ = filter (flag_at flags) order in
    let stayed : List KeptValue = flagged flags kept in
    let long : length flags ≡ length kept = marked.long in
    let stays : (i : ℕ) → i < length left → get_or flags (nth left i) false ≡ true =
    λ i within. filter_passes (flag_at flags) order i 0 within in
    let counts : (i : ℕ) → i < length left → nth (map (nth numbers) left) i ≡ count_set (take (nth left i) flags) =
    λ i within. nth_map (nth numbers) left i within
    ∙ counted.each (nth left i) (set_within flags (nth left i) (stays i within)) in
    let same : (i : ℕ) → i < length left → nth_of stayed (map (nth numbers) left) i ≡ nth_of kept left i =
    λ i within. ap (at stayed) (counts i within) ∙ moved_at flags kept (nth left i) nowhere long (stays i within) in
    let latest_ : AreLatest stayed 0 (length stayed) = latest_apart stayed apart in
    let inside_ : (i : ℕ) → i < length (map (nth numbers) left) → nth (map (nth numbers) left) i < length stayed =
    λ i within.
    let i_within : i < length left = omega (arith, within, length-map left (nth numbers)) in
    let e = counts i i_within in
    let lt = moved_within flags kept (nth left i) long (stays i i_within) in
    omega (arith, e, lt) in
    record {
      inside = record { each = inside_ };
      rising = record {
        each = λ i j lt j_within_.
            let j_within : j < length left = omega (arith, j_within_, length-map left (nth numbers)) in
            ap (λ k. record_cmp k (nth_of stayed (map (nth numbers) left) j)) (same i (omega (arith, lt, j_within)))
            ∙ ap (record_cmp (nth_of kept left i)) (same j j_within)
            ∙ AllPairs-filter (λ one two. record_cmp (at kept one) (at kept two) ≡ Less) (flag_at flags) order
            (pairs_from record_cmp kept order placed.rising) i j 0 lt j_within;
      };
      there = λ to within l.
          let moved = moved_from flags kept to within in
          let from_ : ℕ = moved.from in
          let there = (marked.unset moved.from moved.stays).1 in
          let among = contains_filter (flag_at flags) order there.0 moved.from there.1 there.2 moved.stays in
          let e : nth numbers moved.from ≡ to =
          counted.each moved.from (set_within flags moved.from moved.stays) ∙ moved.is in
          subst (λ (n : ℕ). Contains (map (nth numbers) left) n) e
          (contains_map (nth numbers) left among.0 moved.from among.1 among.2);
      last = λ i within. latest_.each (nth (map (nth numbers) left) i) (omega arith) (inside_ i within);
    }

-- ---- records that are all the latest

latest_same : (xs : List KeptValue) → are_apart xs ≡ true → latest xs ≡ xs
unfolding are_apart latest
latest_same [] h = refl
latest_same (x ∷ xs) h =
    ap (λ b. cond b (latest xs) (x ∷ latest xs)) (not_false (list_any (same_place x) xs) (are_apart xs) h)
    ∙ ap (λ ys. x ∷ ys) (latest_same xs (rest_true (list_any (same_place x) xs) (are_apart xs) h))

both_apart : (a b : Bool) → a ≡ false → b ≡ true → (not a && b) ≡ true
both_apart true b h k = cc
both_apart false b h k = k

apart_all : (xs : List KeptValue)
    → ((k : ℕ) → k < length xs → list_any (same_place (get_or xs k nowhere)) (drop (suc k) xs) ≡ false)
    → are_apart xs ≡ true
unfolding are_apart
apart_all [] h = refl
apart_all (x ∷ xs) h = both_apart (list_any (same_place x) xs) (are_apart xs) (h zero (omega arith))
    (apart_all xs (λ k within. h (suc k) (omega (arith, within))))

pub apart_from : (kept : List KeptValue) (gone : ℕ) → AreLatest kept gone (length kept)
    → are_apart (drop gone kept) ≡ true
apart_from kept gone h =
    apart_all (drop gone kept) (λ k within.
    let p_within : gone + k < length kept = omega (arith, within, length-drop gone kept) in
    let next : gone + suc k ≡ gone + k + 1 = omega arith in
    ap (λ x. list_any (same_place x) (drop (suc k) (drop gone kept))) (get_or-drop gone kept k nowhere)
    ∙ ap (list_any (same_place (at kept (gone + k)))) (drop-drop (suc k) gone kept)
    ∙ ap (λ (n : ℕ). list_any (same_place (at kept (gone + k))) (drop n kept)) next
    ∙ none_later kept (gone + k) p_within (h.each (gone + k) (omega arith) p_within))

pub all_latest : (kept : List KeptValue) (gone : ℕ) → AreLatest kept gone (length kept)
    → drop gone kept ≡ latest (drop gone kept)
all_latest kept gone h = sym (latest_same (drop gone kept) (apart_from kept gone h))

pub latest_kept : (xs ys : List KeptValue) → xs ≡ latest ys → AreLatest xs 0 (length xs)
latest_kept xs ys is = latest_apart xs (ap are_apart is ∙ apart_latest ys)

-- ---- the first ones go

pub fewer_latest : (kept : List KeptValue) (gone more : ℕ) → AreLatest kept gone (length kept) → gone ≤ more
    → AreLatest kept more (length kept)
fewer_latest kept gone more h le = record { each = λ p from within. h.each p (omega (arith, le, from)) within }

pub last_ones : (kept xs : List KeptValue) (gone more limit : ℕ) → drop gone kept ≡ xs → gone ≤ length kept
    → more ≡ length kept - gone - limit → drop (gone + more) kept ≡ last_of limit xs
last_ones kept xs gone more limit is within e =
    let long : length xs ≡ length kept - gone = sym (ap length is) ∙ length-drop gone kept in
    let same : length xs - limit ≡ more = omega (arith, long, e) in
    sym (drop-drop more gone kept) ∙ ap (drop more) is ∙ ap (λ (n : ℕ). drop n xs) (sym same)

-- ---- numbers of flags

pub counted_none : (flags : List Bool) (numbers : List ℕ) → numbers ≡ [] → AreCounted flags 0 numbers
counted_none flags numbers is = record {
  long = ap length is;
  each = λ p lt. absurd (omega (arith, lt));
}

pub set_none : (flags : List Bool) → 0 ≡ count_set (take 0 flags)
unfolding count_set
set_none flags = refl

pub counted_more : (flags : List Bool) (i n : ℕ) (numbers more : List ℕ) → AreCounted flags i numbers
    → n ≡ count_set (take i flags) → more ≡ numbers ++ n ∷ [] → AreCounted flags (i + 1) more
counted_more flags i n numbers more h is grown = record {
  long = ap length grown ∙ length_push numbers n ∙ (let l = h.long in omega (arith, l));
  each = λ p lt.
      ⊎_elim (λ (less : p < i).
      ap (λ ns. nth ns p) grown ∙ get_or_append_left numbers (n ∷ []) 0 p (let l = h.long in omega (arith, l, less))
      ∙ h.each p less)
      (λ (le : i ≤ p).
      let same : p ≡ i = omega (arith, le, lt) in
      ap (λ ns. nth ns p) grown ∙ get_or_push numbers n 0 p (let l = h.long in omega (arith, l, same)) ∙ is
      ∙ ap (λ (m : ℕ). count_set (take m flags)) (sym same))
      (cases_lt p i);
}

pub set_more : (flags : List Bool) (i n more : ℕ) → i < length flags → n ≡ count_set (take i flags)
    → more ≡ n + cond (get_or flags i false) 1 0 → more ≡ count_set (take (i + 1) flags)
unfolding count_set
set_more flags i n more within is grown =
    grown ∙ ap (λ (m : ℕ). m + cond (get_or flags i false) 1 0) is
    ∙ sym (length-filter_more (λ f. f) flags i false within)

pub most_more : (flag : Bool) (n more i : ℕ) → more ≡ n + cond flag 1 0 → n ≤ i → more ≤ i + 1
most_more true n more i grown le = omega (arith, grown, le)
most_more false n more i grown le = omega (arith, grown, le)

-- ---- positions that are moved to the front

pub moved_step : (test : ℕ → Bool) (xs ys : List ℕ) (k i : ℕ) (b : Bool) → FiltersInPlace test xs ys k i
    → i < length ys → test (nth ys i) ≡ b
    → FiltersInPlace test xs (cond b (set ys k (nth ys i)) ys) (cond b (k + 1) k) (i + 1)
moved_step test xs ys k i true h within is =
    FiltersInPlace-more_set h within is (get_or_default ys i 0 (nth ys i) within)
moved_step test xs ys k i false h within is =
    FiltersInPlace-more_no h within is (get_or_default ys i 0 (nth ys i) within)

-- what is still to be gone over stands where it did
pub rest_at : (xs ys : List ℕ) (i : ℕ) → drop i ys ≡ drop i xs → nth ys i ≡ nth xs i
rest_at xs ys i rest =
    let none : i ≡ i + 0 = omega arith in
    ap (nth ys) none ∙ sym (get_or-drop i ys 0 0) ∙ ap (λ l. nth l 0) rest ∙ get_or-drop i xs 0 0
    ∙ ap (nth xs) (sym none)

pub map_rest_at : (f : ℕ → ℕ) (xs ys : List ℕ) (i : ℕ) → i ≤ length xs → ys ≡ map f (take i xs) ++ drop i xs
    → nth ys i ≡ nth xs i
map_rest_at f xs ys i within is =
    let long : length (map f (take i xs)) ≡ i = length-map (take i xs) f ∙ length-take-le i xs within in
    rest_at xs ys i (ap (drop i) is ∙ drop_at (map f (take i xs)) (drop i xs) i long)

-- of those that are left each has its flag
pub left_inside : (flags : List Bool) (order : List ℕ) → AreInside (length flags) (filter (flag_at flags) order)
left_inside flags order = record {
  each = λ i within.
      set_within flags (nth (filter (flag_at flags) order) i) (filter_passes (flag_at flags) order i 0 within);
}
