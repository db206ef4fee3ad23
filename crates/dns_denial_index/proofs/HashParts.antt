-- What the places of hashes say of NSEC3 records.
use Rattle.std.proofs.Common.{◌≡◌, ℕ, zero, suc, ◌+◌, ◌*◌, ◌^◌, ◌<◌, ◌≤◌, Bool, true, false, cond, refl, List, [], ◌∷◌, ◌++◌, map, length, take, drop, append_assoc, get_or, subst, Option, None, Some, sym, ap, ◌∙◌, arith}
use Rattle.std.specs.Prelude.{position}
use Rattle.std.specs.List.{count_by, flat_map}
use Rattle.std.specs.List.Sorted.{IsPermutation}
use Rattle.std.specs.Option.{option_or}
use Rattle.std.proofs.lemmas.Bool.{or_left, or_right}
use Rattle.std.proofs.lemmas.List.{append-nil, get_or-append-add, get_or-map, length-append, length-map, map-append, take-append-drop, take_all, take_more, flat_map_more}
use Rattle.std.proofs.lemmas.List.Concat.{flat_map-append}
use Rattle.std.proofs.lemmas.List.Folds.{list_any-append}
use Rattle.std.proofs.lemmas.List.Sums.{sum_by-cons}
use Rattle.std.proofs.lemmas.List.Sorted.{list_any-IsPermutation, length_permutation}
use Rattle.dns_model.specs.Owned.{OwnedNsec3}
use Rattle.dns_rules.specs.Nsec3Covering.{is_considered, owner_hash, nsec3_matches, counts_for, covering_number, nsec3_covering}
use Rattle.dns_denial_index.specs.declared.nsec3_index.HashPair.{HashPair}
use Rattle.dns_denial_index.specs.declared.spans.Span.{Span}
use Rattle.dns_denial_index.specs.HashParts.{both_hashes, keys_of_hashes, hashes_of, hash_keys, lap, span_of_hashes, hash_span, span_between, IsHashPlaced, AreHashPlaced, AreSpannedTo, IsNsec3Index}
use Rattle.dns_denial_index.specs.NsecParts.{IsWalked, numbered}
use Rattle.dns_denial_index.specs.Places.{same_key, is_point, place_of}
use Rattle.dns_denial_index.specs.Spans.{TableValue, counts_at, starts_at, first_from, start_of, AreInside}
use Rattle.dns_denial_index.proofs.HashPlaces.{covering_at, first_matching, next_matching}
use Rattle.dns_denial_index.proofs.Mapped.{walk_within, walk_passes, numbered_position}
use Rattle.dns_denial_index.proofs.NsecParts.{same_itself}
use Rattle.dns_denial_index.proofs.PlaceOrder.{place_within, places_alike}

-- ---- the points

keys_few : (hashes : Option HashPair) → length (keys_of_hashes hashes) ≤ 2
keys_few None = omega arith
keys_few (Some hashes) = omega arith

pub key_count : (nsec3s : List OwnedNsec3) → length (flat_map hash_keys nsec3s) ≤ 2 * length nsec3s
key_count [] = omega arith
key_count (nsec3 ∷ nsec3s) =
    omega (
      arith,
      length-append (hash_keys nsec3) (flat_map hash_keys nsec3s),
      keys_few (hashes_of nsec3),
      key_count nsec3s,
    )

keys_of : (b : Bool) (hashes : HashPair)
    → length (keys_of_hashes (cond b (Some hashes) None)) ≡ 2 * cond b 1 0
keys_of true hashes = omega arith
keys_of false hashes = omega arith

key_number : (nsec3s : List OwnedNsec3) → length (flat_map hash_keys nsec3s) ≡ 2 * count_by is_considered nsec3s
key_number [] = refl
key_number (nsec3 ∷ nsec3s) =
    let here : length (hash_keys nsec3) ≡ 2 * cond (is_considered nsec3) 1 0 =
    keys_of (is_considered nsec3) (both_hashes nsec3) in
    let step : count_by is_considered (nsec3 ∷ nsec3s)
    ≡ cond (is_considered nsec3) 1 0 + count_by is_considered nsec3s =
    sum_by-cons (λ (x : OwnedNsec3). cond (is_considered x) 1 0) nsec3 nsec3s in
    omega (
      arith,
      length-append (hash_keys nsec3) (flat_map hash_keys nsec3s),
      here,
      step,
      key_number nsec3s,
    )

pub point_count : (nsec3s : List OwnedNsec3) (points : List (List ℕ)) → IsPermutation (flat_map hash_keys nsec3s) points
    → length points ≤ 2 * length nsec3s
point_count nsec3s points keys =
    let same : length points ≡ length (flat_map hash_keys nsec3s) =
    length_permutation (flat_map hash_keys nsec3s) points keys in
    omega (arith, same, key_count nsec3s)

-- a key of one record is one of all
key_in : (key : List ℕ) (nsec3s : List OwnedNsec3) (k : ℕ) (d : OwnedNsec3) → k < length nsec3s
    → is_point (hash_keys (get_or nsec3s k d)) key ≡ true → is_point (flat_map hash_keys nsec3s) key ≡ true
key_in key [] k d lt h = absurd (omega (arith, lt))
key_in key (nsec3 ∷ nsec3s) zero d lt h =
    list_any-append (λ p. same_key p key) (hash_keys nsec3) (flat_map hash_keys nsec3s)
    ∙ or_left (is_point (hash_keys nsec3) key) (is_point (flat_map hash_keys nsec3s) key) h
key_in key (nsec3 ∷ nsec3s) (suc k) d lt h =
    list_any-append (λ p. same_key p key) (hash_keys nsec3) (flat_map hash_keys nsec3s)
    ∙ or_right (is_point (hash_keys nsec3) key) (is_point (flat_map hash_keys nsec3s) key)
    (key_in key nsec3s k d (omega (arith, lt)) h)

-- the two keys of a record that isn't ignored
abbrev keys_when : OwnedNsec3 → Bool → List (List ℕ)
keys_when nsec3 considered = keys_of_hashes (cond considered (Some (both_hashes nsec3)) None)

owner_key : (nsec3 : OwnedNsec3) → is_considered nsec3 ≡ true → is_point (hash_keys nsec3) (owner_hash nsec3) ≡ true
owner_key nsec3 h =
    let owner = owner_hash nsec3 in
    ap (λ c. is_point (keys_when nsec3 c) owner) h
    ∙ or_left (same_key owner owner) (is_point (nsec3.fields.next ∷ []) owner) (same_itself owner)

next_key : (nsec3 : OwnedNsec3) → is_considered nsec3 ≡ true → is_point (hash_keys nsec3) nsec3.fields.next ≡ true
next_key nsec3 h =
    let next = nsec3.fields.next in
    ap (λ c. is_point (keys_when nsec3 c) next) h
    ∙ or_right (same_key (owner_hash nsec3) next) (is_point (next ∷ []) next)
    (or_left (same_key next next) (is_point [] next) (same_itself next))

pub placed : (nsec3s : List OwnedNsec3) (points : List (List ℕ)) → IsPermutation (flat_map hash_keys nsec3s) points
    → AreHashPlaced points nsec3s
placed nsec3s points keys = record {
  each = λ k d lt. record {
    hashes = λ h.
        let nsec3 : OwnedNsec3 = get_or nsec3s k d in
        let owner = owner_hash nsec3 in
        let next = nsec3.fields.next in
        record {
          owner =
              sym (list_any-IsPermutation (λ p. same_key p owner) (flat_map hash_keys nsec3s) points keys)
              ∙ key_in owner nsec3s k d lt (owner_key nsec3 h);
          next =
              sym (list_any-IsPermutation (λ p. same_key p next) (flat_map hash_keys nsec3s) points keys)
              ∙ key_in next nsec3s k d lt (next_key nsec3 h);
        };
  };
}

start_within : (points : List (List ℕ)) (hashes : Option HashPair)
    → (span_of_hashes points hashes).start < lap points + lap points
start_within points None = omega arith
start_within points (Some hashes) = omega (arith, place_within points hashes.owner)

starts_inside : (points : List (List ℕ)) (nsec3s : List OwnedNsec3) (k : ℕ) → k < length (map (hash_span points) nsec3s)
    → start_of (map (hash_span points) nsec3s) k < lap points + lap points
starts_inside points [] k lt = absurd (omega (arith, lt))
starts_inside points (nsec3 ∷ nsec3s) zero lt = start_within points (hashes_of nsec3)
starts_inside points (nsec3 ∷ nsec3s) (suc k) lt = starts_inside points nsec3s k (omega (arith, lt))

pub spans_inside : (points : List (List ℕ)) (nsec3s : List OwnedNsec3)
    → AreInside (lap points + lap points) (map (hash_span points) nsec3s)
spans_inside points nsec3s = record { starts = λ k lt. starts_inside points nsec3s k lt }

-- ---- keys and spans, record by record

pub keyed : (nsec3s : List OwnedNsec3) (k : ℕ) (nsec3 : OwnedNsec3) (all more : List (List ℕ)) → k < length nsec3s
    → nsec3 ≡ get_or nsec3s k nsec3 → all ≡ flat_map hash_keys (take k nsec3s) → more ≡ all ++ hash_keys nsec3
    → more ≡ flat_map hash_keys (take (k + 1) nsec3s)
keyed nsec3s k nsec3 all more lt item before grown =
    grown ∙ ap (λ l. l ++ hash_keys nsec3) before
    ∙ ap (λ (x : OwnedNsec3). flat_map hash_keys (take k nsec3s) ++ hash_keys x) item
    ∙ flat_map_more hash_keys [] (take k nsec3s) (get_or nsec3s k nsec3)
    ∙ ap (flat_map hash_keys) (sym (take_more nsec3s k nsec3 lt))

pub keyed_all : (nsec3s seen : List OwnedNsec3) (keys points : List (List ℕ)) → seen ≡ nsec3s
    → keys ≡ flat_map hash_keys seen → IsPermutation keys points → IsPermutation (flat_map hash_keys nsec3s) points
keyed_all nsec3s seen keys points same made sorted =
    subst (λ (l : List (List ℕ)). IsPermutation l points) (made ∙ ap (flat_map hash_keys) same) sorted

more_spans : (points : List (List ℕ)) (nsec3s : List OwnedNsec3) (k : ℕ) (nsec3 : OwnedNsec3) (all more : List Span)
    (span : Span)
    → k < length nsec3s → nsec3 ≡ get_or nsec3s k nsec3 → all ≡ map (hash_span points) (take k nsec3s)
    → span ≡ hash_span points nsec3 → more ≡ all ++ span ∷ [] → more ≡ map (hash_span points) (take (k + 1) nsec3s)
more_spans points nsec3s k nsec3 all more span lt item before is grown =
    let front : List Span = map (hash_span points) (take k nsec3s) in
    grown ∙ ap (λ l. l ++ span ∷ []) before ∙ ap (λ s. front ++ s ∷ []) is
    ∙ ap (λ (x : OwnedNsec3). front ++ hash_span points x ∷ []) item
    ∙ sym (map-append (hash_span points) (take k nsec3s) (get_or nsec3s k nsec3 ∷ []))
    ∙ ap (map (hash_span points)) (sym (take_more nsec3s k nsec3 lt))

-- a record that is ignored has no hashes
keys_none : (nsec3 : OwnedNsec3) → is_considered nsec3 ≡ false → hash_keys nsec3 ≡ []
keys_none nsec3 h = ap (keys_when nsec3) h

keys_two : (nsec3 : OwnedNsec3) → is_considered nsec3 ≡ true
    → hash_keys nsec3 ≡ owner_hash nsec3 ∷ nsec3.fields.next ∷ []
keys_two nsec3 h = ap (keys_when nsec3) h

keys_before : (nsec3s : List OwnedNsec3) (k : ℕ) (nsec3 : OwnedNsec3) → k < length nsec3s
    → nsec3 ≡ get_or nsec3s k nsec3
    → flat_map hash_keys (take k nsec3s) ++ hash_keys nsec3 ≡ flat_map hash_keys (take (k + 1) nsec3s)
keys_before nsec3s k nsec3 lt item =
    ap (λ (x : OwnedNsec3). flat_map hash_keys (take k nsec3s) ++ hash_keys x) item
    ∙ flat_map_more hash_keys [] (take k nsec3s) (get_or nsec3s k nsec3)
    ∙ ap (flat_map hash_keys) (sym (take_more nsec3s k nsec3 lt))

-- another record that is ignored
pub spanned_none : (points : List (List ℕ)) (nsec3s : List OwnedNsec3) (k next : ℕ) (nsec3 : OwnedNsec3)
    (all more : List Span)
    → k < length nsec3s → nsec3 ≡ get_or nsec3s k nsec3 → AreSpannedTo points nsec3s k next all
    → is_considered nsec3 ≡ false → more ≡ all ++ (record { start = lap points; end = 0 }) ∷ []
    → AreSpannedTo points nsec3s (k + 1) next more
spanned_none points nsec3s k next nsec3 all more lt item is none grown =
    let front : List (List ℕ) = flat_map hash_keys (take k nsec3s) in
    let keys : flat_map hash_keys (take (k + 1) nsec3s) ≡ front =
    sym (keys_before nsec3s k nsec3 lt item) ∙ ap (λ l. front ++ l) (keys_none nsec3 none) ∙ append-nil front in
    let span : ◌≡◌ {A = Span} (record { start = lap points; end = 0 }) (hash_span points nsec3) =
    sym (ap (λ c. span_of_hashes points (cond c (Some (both_hashes nsec3)) None)) none) in
    record {
      keys = is.keys ∙ sym (ap length keys);
      spans =
          more_spans points nsec3s k nsec3 all more (record { start = lap points; end = 0 }) lt item is.spans span
          grown;
    }

-- the hashes of a record among those of all
keys_at : (nsec3s : List OwnedNsec3) (k : ℕ) (nsec3 : OwnedNsec3) → k < length nsec3s
    → nsec3 ≡ get_or nsec3s k nsec3 → is_considered nsec3 ≡ true
    → flat_map hash_keys nsec3s
    ≡ flat_map hash_keys (take k nsec3s)
    ++ owner_hash nsec3 ∷ nsec3.fields.next ∷ flat_map hash_keys (drop (k + 1) nsec3s)
keys_at nsec3s k nsec3 lt item considered =
    let front : List (List ℕ) = flat_map hash_keys (take k nsec3s) in
    let rest : List (List ℕ) = flat_map hash_keys (drop (k + 1) nsec3s) in
    ap (flat_map hash_keys) (sym (take-append-drop (k + 1) nsec3s))
    ∙ flat_map-append hash_keys (take (k + 1) nsec3s) (drop (k + 1) nsec3s)
    ∙ ap (λ l. l ++ rest) (sym (keys_before nsec3s k nsec3 lt item)
    ∙ ap (λ l. front ++ l) (keys_two nsec3 considered))
    ∙ append_assoc front (owner_hash nsec3 ∷ nsec3.fields.next ∷ []) rest

-- where the hashes of a record have their places
pub record ArePlacesAt (points : List (List ℕ)) (places : List ℕ) (next : ℕ) (nsec3 : OwnedNsec3) : Type 0 where
  pub within : next + 1 < length places
  pub owner : (d : ℕ) → get_or places next d ≡ place_of points (owner_hash nsec3)
  pub end : (d : ℕ) → get_or places (next + 1) d ≡ place_of points nsec3.fields.next

two_places : (points front rest : List (List ℕ)) (owner end : List ℕ) (places : List ℕ) (next : ℕ)
    → places ≡ map (place_of points) (front ++ owner ∷ end ∷ rest) → next ≡ length front
    → (next + 1 < length places) × ((d : ℕ) → get_or places next d ≡ place_of points owner)
    × ((d : ℕ) → get_or places (next + 1) d ≡ place_of points end)
two_places points front rest owner end places next is at =
    let long : length places ≡ length front + (2 + length rest) =
    ap length is ∙ length-map (front ++ owner ∷ end ∷ rest) (place_of points)
    ∙ length-append front (owner ∷ end ∷ rest) ∙ omega arith in
    let read : (k : ℕ) (d : ℕ) → k < 2
    → get_or places (next + k) d ≡ place_of points (get_or (owner ∷ end ∷ rest) k []) =
    λ k d low.
    ap (λ l. get_or l (next + k) d) is
    ∙ get_or-map (place_of points) (front ++ owner ∷ end ∷ rest) (next + k) [] d
    (omega (arith, at, low, length-append front (owner ∷ end ∷ rest)))
    ∙ ap (λ n. place_of points (get_or (front ++ owner ∷ end ∷ rest) (n + k) [])) at
    ∙ ap (place_of points) (get_or-append-add front (owner ∷ end ∷ rest) k []) in (
      omega (arith, long, at),
      λ d. (let e : next ≡ next + 0 = omega arith in ap (λ n. get_or places n d) e) ∙ read 0 d (omega arith),
      λ d. read 1 d (omega arith),
    )

pub places_at : (points : List (List ℕ)) (nsec3s : List OwnedNsec3) (places : List ℕ) (k next : ℕ) (nsec3 : OwnedNsec3)
    (all : List Span) → k < length nsec3s → nsec3 ≡ get_or nsec3s k nsec3
    → places ≡ map (place_of points) (flat_map hash_keys nsec3s) → AreSpannedTo points nsec3s k next all
    → is_considered nsec3 ≡ true → ArePlacesAt points places next nsec3
places_at points nsec3s places k next nsec3 all lt item placing is considered =
    let two =
    two_places points (flat_map hash_keys (take k nsec3s)) (flat_map hash_keys (drop (k + 1) nsec3s))
    (owner_hash nsec3) nsec3.fields.next places next
    (placing ∙ ap (map (place_of points)) (keys_at nsec3s k nsec3 lt item considered)) is.keys in
    record { within = two.0; owner = two.1; end = two.2 }

abbrev span_from : ℕ → ℕ → Span
span_from start end = record { start = start; end = end }

-- the span between the two is that of the record
span_is : (points : List (List ℕ)) (places : List ℕ) (next : ℕ) (nsec3 : OwnedNsec3) (round : ℕ)
    → IsHashPlaced points nsec3 → ArePlacesAt points places next nsec3 → is_considered nsec3 ≡ true → round ≡ lap points
    → span_between (get_or places next 0) (get_or places (next + 1) 0) round ≡ hash_span points nsec3
span_is points places next nsec3 round placed at considered laps =
    let owner : List ℕ = owner_hash nsec3 in
    let end : List ℕ = nsec3.fields.next in
    let p = placed.hashes considered in
    ap (λ n. span_between n (get_or places (next + 1) 0) round) (at.owner 0)
    ∙ ap (λ n. span_between (place_of points owner) n round) (at.end 0)
    ∙ ap (λ n. span_between (place_of points owner) (place_of points end) n) laps
    ∙ ap (λ (b : Bool). span_from (place_of points owner)
    (cond b (place_of points end) (place_of points end + lap points)))
    (places_alike points owner end p.owner).after
    ∙ sym (ap (λ c. span_of_hashes points (cond c (Some (both_hashes nsec3)) None)) considered)

-- another record, whose hashes have the next two places
pub spanned_two : (points : List (List ℕ)) (nsec3s : List OwnedNsec3) (places : List ℕ) (k next : ℕ)
    (nsec3 : OwnedNsec3)
    (all more : List Span) (round : ℕ)
    → AreHashPlaced points nsec3s → k < length nsec3s → nsec3 ≡ get_or nsec3s k nsec3
    → places ≡ map (place_of points) (flat_map hash_keys nsec3s) → AreSpannedTo points nsec3s k next all
    → is_considered nsec3 ≡ true → round ≡ lap points
    → more ≡ all ++ span_between (get_or places next 0) (get_or places (next + 1) 0) round ∷ []
    → AreSpannedTo points nsec3s (k + 1) (next + 2) more
spanned_two points nsec3s places k next nsec3 all more round placed lt item placing is considered laps grown =
    let front : List (List ℕ) = flat_map hash_keys (take k nsec3s) in
    let keys : front ++ owner_hash nsec3 ∷ nsec3.fields.next ∷ [] ≡ flat_map hash_keys (take (k + 1) nsec3s) =
    sym (ap (λ l. front ++ l) (keys_two nsec3 considered)) ∙ keys_before nsec3s k nsec3 lt item in
    let one : IsHashPlaced points nsec3 =
    subst (λ (x : OwnedNsec3). IsHashPlaced points x) (sym item) (placed.each k nsec3 lt) in
    record {
      keys = omega (arith, is.keys, ap length keys, length-append front (owner_hash nsec3 ∷ nsec3.fields.next ∷ []));
      spans =
          more_spans points nsec3s k nsec3 all more
          (span_between (get_or places next 0) (get_or places (next + 1) 0) round) lt item is.spans
          (span_is points places next nsec3 round one
          (places_at points nsec3s places k next nsec3 all lt item placing is considered) considered laps)
          grown;
    }

pub spanned_all : (points : List (List ℕ)) (nsec3s : List OwnedNsec3) (k : ℕ) (spans : List Span) → length nsec3s ≤ k
    → spans ≡ map (hash_span points) (take k nsec3s) → spans ≡ map (hash_span points) nsec3s
spanned_all points nsec3s k spans end is = is ∙ ap (map (hash_span points)) (take_all k nsec3s end)

-- ---- the parts of an index

pub few_points : (nsec3s : List OwnedNsec3) (points : List (List ℕ)) → length nsec3s < 2 ^ 32
    → IsPermutation (flat_map hash_keys nsec3s) points → length points < 2 ^ 40
few_points nsec3s points few keys = omega (arith, point_count nsec3s points keys, few)

pub few_spans : (nsec3s : List OwnedNsec3) (points : List (List ℕ)) → length nsec3s < 2 ^ 32
    → length (map (hash_span points) nsec3s) < 2 ^ 32
few_spans nsec3s points few = omega (arith, length-map nsec3s (hash_span points), few)

pub place_in_table : (nsec3s : List OwnedNsec3) (points : List (List ℕ)) (table : TableValue) (hash : List ℕ)
    (place : ℕ)
    → IsNsec3Index nsec3s points table → place ≡ place_of points hash → place < table.places
place_in_table nsec3s points table hash place is at = omega (arith, at, is.places, place_within points hash)

pub again_in_table : (nsec3s : List OwnedNsec3) (points : List (List ℕ)) (table : TableValue) (hash : List ℕ)
    (place again : ℕ)
    → IsNsec3Index nsec3s points table → place ≡ place_of points hash → again ≡ place + lap points
    → again < table.places
again_in_table nsec3s points table hash place again is at behind =
    omega (arith, at, behind, is.places, place_within points hash)

pub again_fits : (points : List (List ℕ)) (hash : List ℕ) (place more : ℕ) → length points < 2 ^ 40 → place
    ≡ place_of points hash
    → more ≡ lap points → place + more < 2 ^ 64
again_fits points hash place more few at is = omega (arith, few, at, is, place_within points hash)

pub number_in_table : (nsec3s : List OwnedNsec3) (points : List (List ℕ)) (table : TableValue) (number : ℕ)
    → IsNsec3Index nsec3s points table → number < length nsec3s → number < length table.spans
number_in_table nsec3s points table number is lt =
    omega (arith, ap length is.spans, length-map nsec3s (hash_span points), lt)

pub steps_of_search : (nsec3s : List OwnedNsec3) (points : List (List ℕ)) (table : TableValue) (taken : ℕ)
    → IsNsec3Index nsec3s points table → 2 ^ taken ≤ 2 * length points + 1 → 2 ^ taken ≤ 4 * length nsec3s + 1
steps_of_search nsec3s points table taken is within = omega (arith, point_count nsec3s points is.keys, within)

pub ticks_of_search : (nsec3s : List OwnedNsec3) (points : List (List ℕ)) (table : TableValue) (taken : ℕ)
    → IsNsec3Index nsec3s points table → length points + 1 < 2 * 2 ^ taken → count_by is_considered nsec3s < 2 ^ taken
ticks_of_search nsec3s points table taken is within =
    let same : length points ≡ length (flat_map hash_keys nsec3s) =
    length_permutation (flat_map hash_keys nsec3s) points is.keys in
    omega (arith, same, key_number nsec3s, within)

-- what a search finds
pub found_matching : (nsec3s : List OwnedNsec3) (points : List (List ℕ)) (table : TableValue) (hash : List ℕ)
    (place : ℕ)
    → IsNsec3Index nsec3s points table → place ≡ place_of points hash
    → first_from (starts_at place) 0 table.spans ≡ position (nsec3_matches hash) nsec3s
found_matching nsec3s points table hash place is at =
    ap (λ n. first_from (starts_at n) 0 table.spans) at
    ∙ ap (first_from (starts_at (place_of points hash)) 0) is.spans
    ∙ first_matching points hash nsec3s (placed nsec3s points is.keys)

pub found_covering : (nsec3s : List OwnedNsec3) (points : List (List ℕ)) (table : TableValue) (hash : List ℕ)
    (place again : ℕ)
    → IsNsec3Index nsec3s points table → place ≡ place_of points hash → again ≡ place + lap points
    → option_or (position (counts_at place table.spans) table.spans)
    (position (counts_at again table.spans) table.spans)
    ≡ covering_number hash nsec3s
found_covering nsec3s points table hash place again is at behind =
    ap (λ n. option_or (position (counts_at place table.spans) table.spans)
    (position (counts_at n table.spans) table.spans)) behind
    ∙ ap (λ n. option_or (position (counts_at n table.spans) table.spans)
    (position (counts_at (n + lap points) table.spans) table.spans)) at
    ∙ ap (λ s. option_or (position (counts_at (place_of points hash) s) s)
    (position (counts_at (place_of points hash + lap points) s) s))
    is.spans
    ∙ covering_at points hash nsec3s (placed nsec3s points is.keys)

-- the next record that matches the hash
no_record : OwnedNsec3
no_record = record {
  owner = [];
  fields = record { hash_algorithm = 0; flags = 0; iterations = 0; salt = []; next = []; types = [] };
}

pub found_next : (nsec3s : List OwnedNsec3) (points : List (List ℕ)) (table : TableValue) (hash : List ℕ) (number : ℕ)
    (d : OwnedNsec3)
    → IsNsec3Index nsec3s points table → number < length nsec3s → nsec3_matches hash (get_or nsec3s number d) ≡ true
    → first_from (starts_at (start_of table.spans number)) (number + 1) table.spans
    ≡ first_from (nsec3_matches hash) (number + 1) nsec3s
found_next nsec3s points table hash number d is lt matches =
    ap (λ s. first_from (starts_at (start_of s number)) (number + 1) s) is.spans
    ∙ next_matching points hash nsec3s number (number + 1) d (placed nsec3s points is.keys) lt matches

pub found_after : (nsec3s seen : List OwnedNsec3) (points : List (List ℕ)) (table : TableValue) (hash : List ℕ)
    (other : OwnedNsec3 → Bool)
    (next : Option ℕ) (number : ℕ) (after : Option ℕ) → IsNsec3Index nsec3s points table → nsec3s ≡ seen
    → IsWalked (nsec3_matches hash) other seen next → next ≡ Some number
    → after ≡ first_from (starts_at (start_of table.spans number)) (number + 1) table.spans
    → after ≡ first_from (nsec3_matches hash) (number + 1) seen
found_after nsec3s seen points table hash other next number after is same w here read =
    let within : number < length seen = walk_within (nsec3_matches hash) other seen next number w here in
    let d : OwnedNsec3 = get_or seen number no_record in
    read
    ∙ found_next nsec3s points table hash number d is (omega (arith, within, ap length same))
    (ap (λ (l : List OwnedNsec3). nsec3_matches hash (get_or l number d)) same
    ∙ walk_passes (nsec3_matches hash) other seen next number d w here)
    ∙ ap (first_from (nsec3_matches hash) (number + 1)) same

-- the record that is found is the one with its number
pub numbered_covering : (hash : List ℕ) (nsec3s : List OwnedNsec3)
    → numbered nsec3s (covering_number hash nsec3s) ≡ nsec3_covering hash nsec3s
unfolding nsec3_covering covering_number
numbered_covering hash nsec3s = numbered_position (counts_for hash nsec3s) nsec3s
