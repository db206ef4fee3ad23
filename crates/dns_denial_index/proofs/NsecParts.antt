-- What the places of owners and ends say of NSEC records.
use Rattle.std.proofs.Common.{◌≡◌, ℕ, zero, suc, ◌+◌, ◌*◌, ◌^◌, ◌<◌, ◌≤◌, Bool, true, false, not, ◌&&◌, cond, List, [], ◌∷◌, map, length, get_or, subst, Option, None, Some, refl, sym, ap, ◌∙◌, arith}
use Rattle.std.specs.Prelude.{nat_lt, position}
use Rattle.std.specs.List.{find, flat_map, list_all}
use Rattle.std.specs.List.Sorted.{IsPermutation}
use Rattle.std.specs.Ordering.{is_eq}
use Rattle.std.proofs.lemmas.Bool.{or_left, or_right}
use Rattle.std.proofs.lemmas.Cmp.{nat_list_cmp_total, tied_itself}
use Rattle.std.proofs.lemmas.List.{length-map}
use Rattle.std.proofs.lemmas.List.Sorted.{list_any-IsPermutation, length_permutation}
use Rattle.dns_model.specs.Bytes.{is_bytes}
use Rattle.dns_model.specs.Names.{Labels, folded, labels_eq, name_eq, before}
use Rattle.dns_model.specs.Owned.{OwnedNsec}
use Rattle.dns_model.proofs.NameLemmas.{name_eq-Decides}
use Rattle.dns_model.proofs.OrderLemmas.{name_ties}
use Rattle.dns_rules.specs.Covering.{nsec_spans, is_nearest, counts_for, is_silent_on, unless_silent, nsec_covering, number_if_covered, covering_number}
use Rattle.dns_rules.specs.NsecVerdict.{is_owned_by}
use Rattle.dns_denial_index.specs.declared.spans.Span.{Span}
use Rattle.dns_denial_index.specs.NameKeys.{name_key, end_key}
use Rattle.dns_denial_index.specs.NsecParts.{keys_of, nsec_span, paired, IsPlaced, ArePlaced, IsNsecIndex, IsWalked, numbered}
use Rattle.dns_denial_index.specs.Places.{key_before, same_key, is_point, place_of}
use Rattle.dns_denial_index.specs.Spans.{TableValue, covers, starts_before, counts_at, starts_at, first_from, start_of, AreInside}
use Rattle.dns_denial_index.proofs.Mapped.{walk_within, walk_passes, AgreeOn, list_all_mapped, position_mapped, first_mapped, first_is_position, find_by_position, find_no_position, numbered_position}
use Rattle.dns_denial_index.proofs.NameKeys.{key_cmp, key_before_is, spans_by_keys}
use Rattle.dns_denial_index.proofs.PlaceOrder.{places_alike, place_within}

-- ---- the points

pub key_count : (nsecs : List OwnedNsec) → length (flat_map keys_of nsecs) ≡ 2 * length nsecs
key_count [] = refl
key_count (nsec ∷ nsecs) = omega (arith, key_count nsecs)

pub point_count : (nsecs : List OwnedNsec) (points : List (List ℕ)) → IsPermutation (flat_map keys_of nsecs) points
    → length points ≡ 2 * length nsecs
point_count nsecs points keys = length_permutation (flat_map keys_of nsecs) points keys ∙ key_count nsecs

pub same_itself : (key : List ℕ) → same_key key key ≡ true
same_itself key = ap is_eq (tied_itself nat_list_cmp_total key)

owner_in : (nsecs : List OwnedNsec) (k : ℕ) (d : OwnedNsec) → k < length nsecs
    → is_point (flat_map keys_of nsecs) (name_key (get_or nsecs k d).owner) ≡ true
owner_in [] k d lt = absurd (omega (arith, lt))
owner_in (nsec ∷ nsecs) zero d lt =
    or_left (same_key (name_key nsec.owner) (name_key nsec.owner))
    (is_point (end_key nsec ∷ flat_map keys_of nsecs) (name_key nsec.owner))
    (same_itself (name_key nsec.owner))
owner_in (nsec ∷ nsecs) (suc k) d lt =
    let key = name_key (get_or nsecs k d).owner in
    or_right (same_key (name_key nsec.owner) key) (is_point (end_key nsec ∷ flat_map keys_of nsecs) key)
    (or_right (same_key (end_key nsec) key) (is_point (flat_map keys_of nsecs) key)
    (owner_in nsecs k d (omega (arith, lt))))

end_in : (nsecs : List OwnedNsec) (k : ℕ) (d : OwnedNsec) → k < length nsecs
    → is_point (flat_map keys_of nsecs) (end_key (get_or nsecs k d)) ≡ true
end_in [] k d lt = absurd (omega (arith, lt))
end_in (nsec ∷ nsecs) zero d lt =
    or_right (same_key (name_key nsec.owner) (end_key nsec))
    (is_point (end_key nsec ∷ flat_map keys_of nsecs) (end_key nsec))
    (or_left (same_key (end_key nsec) (end_key nsec)) (is_point (flat_map keys_of nsecs) (end_key nsec))
    (same_itself (end_key nsec)))
end_in (nsec ∷ nsecs) (suc k) d lt =
    let key = end_key (get_or nsecs k d) in
    or_right (same_key (name_key nsec.owner) key) (is_point (end_key nsec ∷ flat_map keys_of nsecs) key)
    (or_right (same_key (end_key nsec) key) (is_point (flat_map keys_of nsecs) key)
    (end_in nsecs k d (omega (arith, lt))))

pub placed : (nsecs : List OwnedNsec) (points : List (List ℕ)) → IsPermutation (flat_map keys_of nsecs) points
    → ArePlaced points nsecs
placed nsecs points keys = record {
  each = λ k d lt. record {
    owner =
        let key = name_key (get_or nsecs k d).owner in
        sym (list_any-IsPermutation (λ p. same_key p key) (flat_map keys_of nsecs) points keys) ∙ owner_in nsecs k d lt;
    end =
        let key = end_key (get_or nsecs k d) in
        sym (list_any-IsPermutation (λ p. same_key p key) (flat_map keys_of nsecs) points keys) ∙ end_in nsecs k d lt;
  };
}

starts_inside : (points : List (List ℕ)) (nsecs : List OwnedNsec) (k : ℕ) → k < length (map (nsec_span points) nsecs)
    → start_of (map (nsec_span points) nsecs) k < 2 * length points + 1
starts_inside points [] k lt = absurd (omega (arith, lt))
starts_inside points (nsec ∷ nsecs) zero lt = place_within points (name_key nsec.owner)
starts_inside points (nsec ∷ nsecs) (suc k) lt = starts_inside points nsecs k (omega (arith, lt))

pub spans_inside : (points : List (List ℕ)) (nsecs : List OwnedNsec)
    → AreInside (2 * length points + 1) (map (nsec_span points) nsecs)
spans_inside points nsecs = record { starts = λ k lt. starts_inside points nsecs k lt }

-- ---- keys and spans, record by record

pub keyed_all : (nsecs seen : List OwnedNsec) (keys points : List (List ℕ)) → seen ≡ nsecs
    → keys ≡ flat_map keys_of seen → IsPermutation keys points → IsPermutation (flat_map keys_of nsecs) points
keyed_all nsecs seen keys points same made sorted =
    subst (λ (l : List (List ℕ)). IsPermutation l points) (made ∙ ap (flat_map keys_of) same) sorted

paired_spans : (points : List (List ℕ)) (nsecs : List OwnedNsec)
    → paired (map (place_of points) (flat_map keys_of nsecs)) ≡ map (nsec_span points) nsecs
paired_spans points [] = refl
paired_spans points (nsec ∷ nsecs) = ap (λ l. nsec_span points nsec ∷ l) (paired_spans points nsecs)

-- the spans between the places of the keys
pub spanned_by : (points : List (List ℕ)) (nsecs seen : List OwnedNsec) (keys : List (List ℕ)) (places read : List ℕ)
    (spans : List Span) → seen ≡ nsecs → keys ≡ flat_map keys_of seen → places ≡ map (place_of points) keys
    → read ≡ places → spans ≡ paired read → spans ≡ map (nsec_span points) nsecs
spanned_by points nsecs seen keys places read spans same made placing from is =
    is ∙ ap paired (from ∙ placing) ∙ ap (λ l. paired (map (place_of points) l)) (made ∙ ap (flat_map keys_of) same)
    ∙ paired_spans points nsecs

-- ---- a name at its place

-- the span of a record lies around the place of a name where the record spans the name
around : (points : List (List ℕ)) (name : Labels) (nsec : OwnedNsec) → list_all is_bytes name ≡ true
    → IsPlaced points nsec
    → covers (place_of points (name_key name)) (nsec_span points nsec) ≡ nsec_spans name nsec
around points name nsec fits is =
    let start = places_alike points (name_key nsec.owner) (name_key name) is.owner in
    let end = places_alike points (end_key nsec) (name_key name) is.end in
    ap (λ b. b && nat_lt (place_of points (name_key name)) (place_of points (end_key nsec))) start.after
    ∙ ap (λ b. key_before (name_key nsec.owner) (name_key name) && b) end.before
    ∙ spans_by_keys name nsec fits

-- spans start in the order of the owners
in_order : (points : List (List ℕ)) (one two : OwnedNsec) → IsPlaced points one
    → starts_before (nsec_span points one) (nsec_span points two) ≡ before one.owner two.owner
in_order points one two is =
    (places_alike points (name_key one.owner) (name_key two.owner) is.owner).after ∙ key_before_is one.owner two.owner

same_name : (one two : Labels) → same_key (name_key one) (name_key two) ≡ name_eq one two
same_name one two = ap is_eq (key_cmp one two) ∙ sym (name_ties one two)

starts_here : (points : List (List ℕ)) (name : Labels) (nsec : OwnedNsec) → IsPlaced points nsec
    → starts_at (place_of points (name_key name)) (nsec_span points nsec) ≡ is_owned_by name nsec
starts_here points name nsec is =
    (places_alike points (name_key nsec.owner) (name_key name) is.owner).same ∙ same_name nsec.owner name

nearest : (points : List (List ℕ)) (name : Labels) (nsecs : List OwnedNsec) (nsec : OwnedNsec)
    → list_all is_bytes name ≡ true
    → ArePlaced points nsecs → IsPlaced points nsec
    → list_all
    (λ other. not (covers (place_of points (name_key name)) other && starts_before (nsec_span points nsec) other))
    (map (nsec_span points) nsecs)
    ≡ is_nearest name nsecs nsec
nearest points name nsecs nsec fits all is =
    list_all_mapped (nsec_span points)
    (λ other. not (covers (place_of points (name_key name)) other && starts_before (nsec_span points nsec) other))
    (λ other. not (nsec_spans name other && before nsec.owner other.owner)) nsecs (record {
      at = λ k d lt.
          let other : OwnedNsec = get_or nsecs k d in
          ap (λ b. not (b && starts_before (nsec_span points nsec) (nsec_span points other)))
          (around points name other fits (all.each k d lt))
          ∙ ap (λ b. not (nsec_spans name other && b)) (in_order points nsec other is);
    })

-- the span that counts at the place of a name is that of the record that counts for it
pub counting_for : (points : List (List ℕ)) (name : Labels) (nsecs : List OwnedNsec) → list_all is_bytes name ≡ true
    → ArePlaced points nsecs
    → position (counts_at (place_of points (name_key name)) (map (nsec_span points) nsecs))
    (map (nsec_span points) nsecs)
    ≡ position (counts_for name nsecs) nsecs
counting_for points name nsecs fits all =
    position_mapped (nsec_span points) (counts_at (place_of points (name_key name)) (map (nsec_span points) nsecs))
    (counts_for name nsecs) nsecs (record {
      at = λ k d lt.
          let nsec : OwnedNsec = get_or nsecs k d in
          ap (λ b. b
          && list_all
          (λ other. not (covers (place_of points (name_key name)) other && starts_before (nsec_span points nsec) other))
          (map (nsec_span points) nsecs)) (around points name nsec fits (all.each k d lt))
          ∙ ap (λ b. nsec_spans name nsec && b) (nearest points name nsecs nsec fits all (all.each k d lt));
    })

here_agrees : (points : List (List ℕ)) (name : Labels) (nsecs : List OwnedNsec) → ArePlaced points nsecs
    → AgreeOn (nsec_span points) (starts_at (place_of points (name_key name))) (is_owned_by name) nsecs
here_agrees points name nsecs all =
    record { at = λ k d lt. starts_here points name (get_or nsecs k d) (all.each k d lt) }

-- the spans that start there are those of the records that the name owns
pub first_owned : (points : List (List ℕ)) (name : Labels) (nsecs : List OwnedNsec) → ArePlaced points nsecs
    → first_from (starts_at (place_of points (name_key name))) 0 (map (nsec_span points) nsecs)
    ≡ position (is_owned_by name) nsecs
first_owned points name nsecs all =
    first_mapped (nsec_span points) (starts_at (place_of points (name_key name))) (is_owned_by name) 0 nsecs
    (here_agrees points name nsecs all)
    ∙ first_is_position (is_owned_by name) nsecs

start_mapped : (points : List (List ℕ)) (nsecs : List OwnedNsec) (k : ℕ) (d : OwnedNsec) → k < length nsecs
    → start_of (map (nsec_span points) nsecs) k ≡ place_of points (name_key (get_or nsecs k d).owner)
start_mapped points [] k d lt = absurd (omega (arith, lt))
start_mapped points (nsec ∷ nsecs) zero d lt = refl
start_mapped points (nsec ∷ nsecs) (suc k) d lt = start_mapped points nsecs k d (omega (arith, lt))

-- equal names own the same records
alike_owned : (name owner : Labels) (nsec : OwnedNsec) → name_eq owner name ≡ true
    → is_owned_by owner nsec ≡ is_owned_by name nsec
alike_owned name owner nsec same = ap (λ n. labels_eq (folded nsec.owner) n) ((name_eq-Decides owner name).0 same)

-- the next of them
pub next_owned : (points : List (List ℕ)) (name : Labels) (nsecs : List OwnedNsec) (number from : ℕ) (d : OwnedNsec)
    → ArePlaced points nsecs
    → number < length nsecs → is_owned_by name (get_or nsecs number d) ≡ true
    → first_from (starts_at (start_of (map (nsec_span points) nsecs) number)) from (map (nsec_span points) nsecs)
    ≡ first_from (is_owned_by name) from nsecs
next_owned points name nsecs number from d all lt owned =
    let owner : Labels = (get_or nsecs number d).owner in
    ap (λ n. first_from (starts_at n) from (map (nsec_span points) nsecs)) (start_mapped points nsecs number d lt)
    ∙ first_mapped (nsec_span points) (starts_at (place_of points (name_key owner))) (is_owned_by name) from nsecs
    (record {
      at = λ k e within. starts_here points owner (get_or nsecs k e) (all.each k e within)
          ∙ alike_owned name owner (get_or nsecs k e) owned;
    })

-- ---- the parts of an index

pub few_points : (nsecs : List OwnedNsec) (points : List (List ℕ)) → length nsecs < 2 ^ 32
    → IsPermutation (flat_map keys_of nsecs) points
    → length points < 2 ^ 40
few_points nsecs points few keys = omega (arith, point_count nsecs points keys, few)

pub few_spans : (nsecs : List OwnedNsec) (points : List (List ℕ)) → length nsecs < 2 ^ 32
    → length (map (nsec_span points) nsecs) < 2 ^ 32
few_spans nsecs points few = omega (arith, length-map nsecs (nsec_span points), few)

pub place_in_table : (nsecs : List OwnedNsec) (points : List (List ℕ)) (table : TableValue) (key : List ℕ) (place : ℕ)
    → IsNsecIndex nsecs points table → place ≡ place_of points key → place < table.places
place_in_table nsecs points table key place is at = omega (arith, at, is.places, place_within points key)

pub number_in_table : (nsecs : List OwnedNsec) (points : List (List ℕ)) (table : TableValue) (number : ℕ)
    → IsNsecIndex nsecs points table → number < length nsecs → number < length table.spans
number_in_table nsecs points table number is lt =
    omega (arith, ap length is.spans, length-map nsecs (nsec_span points), lt)

pub steps_of_search : (nsecs : List OwnedNsec) (points : List (List ℕ)) (table : TableValue) (taken : ℕ)
    → IsNsecIndex nsecs points table
    → 2 ^ taken ≤ 2 * length points + 1 → 2 ^ taken ≤ 4 * length nsecs + 1
steps_of_search nsecs points table taken is within = omega (arith, point_count nsecs points is.keys, within)

pub ticks_of_search : (nsecs : List OwnedNsec) (points : List (List ℕ)) (table : TableValue) (taken : ℕ)
    → IsNsecIndex nsecs points table
    → length points + 1 < 2 * 2 ^ taken → length nsecs < 2 ^ taken
ticks_of_search nsecs points table taken is within = omega (arith, point_count nsecs points is.keys, within)

-- what a search finds
pub found_owned : (nsecs : List OwnedNsec) (points : List (List ℕ)) (table : TableValue) (name : Labels) (place : ℕ)
    → IsNsecIndex nsecs points table → place ≡ place_of points (name_key name)
    → first_from (starts_at place) 0 table.spans ≡ position (is_owned_by name) nsecs
found_owned nsecs points table name place is at =
    ap (λ n. first_from (starts_at n) 0 table.spans) at
    ∙ ap (first_from (starts_at (place_of points (name_key name))) 0) is.spans
    ∙ first_owned points name nsecs (placed nsecs points is.keys)

pub found_counting : (nsecs : List OwnedNsec) (points : List (List ℕ)) (table : TableValue) (name : Labels) (place : ℕ)
    → IsNsecIndex nsecs points table → place ≡ place_of points (name_key name) → list_all is_bytes name ≡ true
    → position (counts_at place table.spans) table.spans ≡ position (counts_for name nsecs) nsecs
found_counting nsecs points table name place is at fits =
    ap (λ n. position (counts_at n table.spans) table.spans) at
    ∙ ap (λ s. position (counts_at (place_of points (name_key name)) s) s) is.spans
    ∙ counting_for points name nsecs fits (placed nsecs points is.keys)

-- the next record that the name owns
pub found_next : (nsecs : List OwnedNsec) (points : List (List ℕ)) (table : TableValue) (name : Labels) (number : ℕ)
    (d : OwnedNsec)
    → IsNsecIndex nsecs points table → number < length nsecs → is_owned_by name (get_or nsecs number d) ≡ true
    → first_from (starts_at (start_of table.spans number)) (number + 1) table.spans
    ≡ first_from (is_owned_by name) (number + 1) nsecs
found_next nsecs points table name number d is lt owned =
    ap (λ s. first_from (starts_at (start_of s number)) (number + 1) s) is.spans
    ∙ next_owned points name nsecs number (number + 1) d (placed nsecs points is.keys) lt owned

pub found_after : (nsecs seen : List OwnedNsec) (points : List (List ℕ)) (table : TableValue) (name : Labels)
    (other : OwnedNsec → Bool)
    (next : Option ℕ) (number : ℕ) (after : Option ℕ) → IsNsecIndex nsecs points table → nsecs ≡ seen
    → IsWalked (is_owned_by name) other seen next
    → next ≡ Some number → after ≡ first_from (starts_at (start_of table.spans number)) (number + 1) table.spans
    → after ≡ first_from (is_owned_by name) (number + 1) seen
found_after nsecs seen points table name other next number after is same w here read =
    let within : number < length seen = walk_within (is_owned_by name) other seen next number w here in
    let d : OwnedNsec = get_or seen number (record { owner = []; fields = record { next = []; types = [] } }) in
    read
    ∙ found_next nsecs points table name number d is (omega (arith, within, ap length same))
    (ap (λ (l : List OwnedNsec). is_owned_by name (get_or l number d)) same
    ∙ walk_passes (is_owned_by name) other seen next number d w here)
    ∙ ap (first_from (is_owned_by name) (number + 1)) same

-- ---- the record that covers a name

pub silent_none : (name : Labels) (nsecs : List OwnedNsec) → position (counts_for name nsecs) nsecs ≡ None
    → covering_number name nsecs ≡ None
unfolding nsec_covering covering_number
silent_none name nsecs none =
    ap (λ o. number_if_covered (position (counts_for name nsecs) nsecs) (unless_silent name o))
    (find_no_position (counts_for name nsecs) nsecs none)

silent_by : (name : Labels) (nsecs : List OwnedNsec) (number : ℕ) (d : OwnedNsec)
    → position (counts_for name nsecs) nsecs ≡ Some number
    → covering_number name nsecs ≡ number_if_covered (Some number) (unless_silent name (Some (get_or nsecs number d)))
unfolding nsec_covering covering_number
silent_by name nsecs number d is =
    ap (λ o. number_if_covered (position (counts_for name nsecs) nsecs) (unless_silent name o))
    (find_by_position (counts_for name nsecs) nsecs number d is)
    ∙ ap (λ o. number_if_covered o (unless_silent name (Some (get_or nsecs number d)))) is

pub silent_some : (name : Labels) (nsecs : List OwnedNsec) (number : ℕ) (d : OwnedNsec)
    → position (counts_for name nsecs) nsecs ≡ Some number
    → is_silent_on name (get_or nsecs number d) ≡ true → covering_number name nsecs ≡ None
silent_some name nsecs number d is silent =
    silent_by name nsecs number d is
    ∙ ap (λ b. number_if_covered (Some number) (cond b None (Some (get_or nsecs number d)))) silent

pub covering_some : (name : Labels) (nsecs : List OwnedNsec) (number : ℕ) (d : OwnedNsec)
    → position (counts_for name nsecs) nsecs ≡ Some number
    → is_silent_on name (get_or nsecs number d) ≡ false → covering_number name nsecs ≡ Some number
covering_some name nsecs number d is speaks =
    silent_by name nsecs number d is
    ∙ ap (λ b. number_if_covered (Some number) (cond b None (Some (get_or nsecs number d)))) speaks

told : (name : Labels) (nsecs : List OwnedNsec) (nsec : OwnedNsec) (silent : Bool)
    → find (counts_for name nsecs) nsecs ≡ Some nsec
    → numbered nsecs (number_if_covered (position (counts_for name nsecs) nsecs) (cond silent None (Some nsec)))
    ≡ cond silent None (Some nsec)
told name nsecs nsec true e = refl
told name nsecs nsec false e = numbered_position (counts_for name nsecs) nsecs ∙ e

-- the record that is found is the one with its number
pub numbered_covering : (name : Labels) (nsecs : List OwnedNsec)
    → numbered nsecs (covering_number name nsecs) ≡ nsec_covering name nsecs
unfolding nsec_covering covering_number
numbered_covering name nsecs = by (find (counts_for name nsecs) nsecs) refl
  where
    by : (o : Option OwnedNsec) → find (counts_for name nsecs) nsecs ≡ o
        → numbered nsecs (number_if_covered (position (counts_for name nsecs) nsecs) (unless_silent name o))
        ≡ unless_silent name o
    by None e = refl
    by (Some nsec) e = told name nsecs nsec (is_silent_on name nsec) e
