-- A hash at its places in the two laps: which spans lie around each, and which of them counts.
use Rattle.std.proofs.Common.{◌≡◌, ℕ, zero, suc, ◌+◌, ◌<◌, ◌≤◌, Bool, true, false, not, ◌&&◌, ◌||◌, cond, List, [], ◌∷◌, map, length, get_or, Option, None, Some, refl, sym, ap, ◌∙◌, arith, subst, ⊎_elim}
use Rattle.std.specs.Prelude.{nat_lt, nat_eq, position}
use Rattle.std.specs.Cmp.Lexicographic.{pointwise}
use Rattle.std.specs.List.{list_all, list_any}
use Rattle.std.specs.Option.{option_or}
use Rattle.std.proofs.lemmas.Bool.{false≢true, and_left, and_right, or_cases, both_ways, false_from_ne_true, lt-ltb, le-ltb, ltb-true, ltb-false, eqb-true, ne_eqb}
use Rattle.std.proofs.lemmas.List.{get_or_default}
use Rattle.std.proofs.lemmas.List.Folds.{list_any_at}
use Rattle.std.proofs.lemmas.Map.Text.{is_eq-slice_cmp}
use Rattle.dns_model.specs.Owned.{OwnedNsec3}
use Rattle.dns_rules.specs.Nsec3Covering.{is_considered, owner_hash, hash_before, nsec3_matches, nsec3_spans, is_farther, is_nearest, counts_for, covering_number}
use Rattle.dns_denial.proofs.Best.{IsRanking, IsBestOf, best_more, best_found}
use Rattle.dns_denial.specs.Best.{next_best}
use Rattle.dns_denial_index.specs.declared.spans.Span.{Span}
use Rattle.dns_denial_index.specs.HashParts.{both_hashes, lap, end_place, span_of_hashes, hash_span, AreHashPoints, IsHashPlaced, AreHashPlaced}
use Rattle.dns_denial_index.specs.Places.{place_of}
use Rattle.dns_denial_index.specs.Spans.{covers, starts_before, counts_at, starts_at, first_from, nowhere, start_of}
use Rattle.dns_denial_index.proofs.HashRound.{reaches, near, far, near_is, far_is, neither, nearer_than_near, nearer_than_far, near_before_far}
use Rattle.dns_denial_index.proofs.Mapped.{AgreeOn, list_all_mapped, position_mapped, first_mapped, first_is_position, none_any}
use Rattle.dns_denial_index.proofs.PlaceOrder.{places_alike, place_within}

-- ---- the span of a record, at a hash's two places

abbrev span_when : List (List ℕ) → OwnedNsec3 → Bool → Span
span_when points nsec3 considered = span_of_hashes points (cond considered (Some (both_hashes nsec3)) None)

end_first : (points : List (List ℕ)) (next hash : List ℕ) (forward : Bool)
    → nat_lt (place_of points hash) (place_of points next) ≡ hash_before hash next
    → nat_lt (place_of points hash) (cond forward (place_of points next) (place_of points next + lap points))
    ≡ cond forward (hash_before hash next) true
end_first points next hash true alike = alike
end_first points next hash false alike =
    lt-ltb (place_of points hash) (place_of points next + lap points) (omega (arith, place_within points hash))

-- around the place in the first lap lie the spans of the records that are near
pub first_lap : (points : List (List ℕ)) (hash : List ℕ) (nsec3 : OwnedNsec3) → IsHashPlaced points nsec3
    → covers (place_of points hash) (hash_span points nsec3) ≡ near hash nsec3
first_lap points hash nsec3 placed = by (is_considered nsec3) refl
  where
    by : (c : Bool) → is_considered nsec3 ≡ c
        → covers (place_of points hash) (span_when points nsec3 c)
        ≡ (c && reaches (hash_before (owner_hash nsec3) nsec3.fields.next) (hash_before (owner_hash nsec3) hash)
        (hash_before hash nsec3.fields.next))
    by false e =
        and_left (nat_lt (lap points) (place_of points hash)) (nat_lt (place_of points hash) 0)
        (le-ltb (lap points) (place_of points hash) (omega (arith, place_within points hash)))
    by true e =
        let p : AreHashPoints points (both_hashes nsec3) = placed.hashes e in
        let forward = hash_before (owner_hash nsec3) nsec3.fields.next in
        ap (λ b. b && nat_lt (place_of points hash) (end_place points (owner_hash nsec3) nsec3.fields.next))
        (places_alike points (owner_hash nsec3) hash p.owner).after
        ∙ ap (λ b. hash_before (owner_hash nsec3) hash && b)
        (end_first points nsec3.fields.next hash forward (places_alike points nsec3.fields.next hash p.next).before)

shifted : (one two more : ℕ) → nat_lt (one + more) (two + more) ≡ nat_lt one two
shifted one two more = by (nat_lt one two) refl
  where
    by : (b : Bool) → nat_lt one two ≡ b → nat_lt (one + more) (two + more) ≡ b
    by true e = lt-ltb (one + more) (two + more) (omega (arith, ltb-true one two e))
    by false e = le-ltb (one + more) (two + more) (omega (arith, ltb-false one two e))

end_second : (points : List (List ℕ)) (next hash : List ℕ) (forward : Bool)
    → nat_lt (place_of points hash) (place_of points next) ≡ hash_before hash next
    → nat_lt (place_of points hash + lap points) (cond forward (place_of points next)
    (place_of points next + lap points))
    ≡ (not forward && hash_before hash next)
end_second points next hash true alike =
    le-ltb (place_of points hash + lap points) (place_of points next) (omega (arith, place_within points next))
end_second points next hash false alike = shifted (place_of points hash) (place_of points next) (lap points) ∙ alike

-- and around the one in the second lap those of the far ones
pub second_lap : (points : List (List ℕ)) (hash : List ℕ) (nsec3 : OwnedNsec3) → IsHashPlaced points nsec3
    → covers (place_of points hash + lap points) (hash_span points nsec3) ≡ far hash nsec3
second_lap points hash nsec3 placed = by (is_considered nsec3) refl
  where
    by : (c : Bool) → is_considered nsec3 ≡ c
        → covers (place_of points hash + lap points) (span_when points nsec3 c)
        ≡ (c && (not (hash_before (owner_hash nsec3) nsec3.fields.next) && hash_before hash nsec3.fields.next))
    by false e =
        and_right (nat_lt (lap points) (place_of points hash + lap points))
        (nat_lt (place_of points hash + lap points) 0)
        (le-ltb (place_of points hash + lap points) 0 (omega arith))
    by true e =
        let p : AreHashPoints points (both_hashes nsec3) = placed.hashes e in
        let forward = hash_before (owner_hash nsec3) nsec3.fields.next in
        ap (λ b. b && nat_lt (place_of points hash + lap points)
        (end_place points (owner_hash nsec3) nsec3.fields.next))
        (lt-ltb (place_of points (owner_hash nsec3)) (place_of points hash + lap points)
        (omega (arith, place_within points (owner_hash nsec3))))
        ∙ end_second points nsec3.fields.next hash forward (places_alike points nsec3.fields.next hash p.next).before

-- spans start in the order of the owners' hashes
in_order : (points : List (List ℕ)) (one two : OwnedNsec3) → IsHashPlaced points one → is_considered one ≡ true
    → is_considered two ≡ true
    → starts_before (hash_span points one) (hash_span points two) ≡ hash_before (owner_hash one) (owner_hash two)
in_order points one two placed h k =
    ap (λ c. starts_before (span_when points one c) (hash_span points two)) h
    ∙ ap (λ c. starts_before (span_when points one true) (span_when points two c)) k
    ∙ (places_alike points (owner_hash one) (owner_hash two) (placed.hashes h).owner).after

-- the span starts at the place of a hash where its record matches it
starts_here : (points : List (List ℕ)) (hash : List ℕ) (nsec3 : OwnedNsec3) → IsHashPlaced points nsec3
    → starts_at (place_of points hash) (hash_span points nsec3) ≡ nsec3_matches hash nsec3
starts_here points hash nsec3 placed = by (is_considered nsec3) refl
  where
    by : (c : Bool) → is_considered nsec3 ≡ c
        → starts_at (place_of points hash) (span_when points nsec3 c) ≡ (c && pointwise nat_eq (owner_hash nsec3) hash)
    by false e =
        ne_eqb (lap points) (place_of points hash) (λ same. omega (arith, same, place_within points hash))
    by true e =
        (places_alike points (owner_hash nsec3) hash (placed.hashes e).owner).same
        ∙ is_eq-slice_cmp (owner_hash nsec3) hash

-- ---- which span counts

same_if : (b y x : Bool) → (b ≡ true → y ≡ x) → (b && y) ≡ (b && x)
same_if true y x same = same refl
same_if false y x same = refl

all_fails : {X : Type 0} (test other : X → Bool) (xs : List X) → list_any test xs ≡ true
    → ((x : X) → test x ≡ true → other x ≡ false) → list_all other xs ≡ false
all_fails test other [] h fails = absurd (false≢true h)
all_fails test other (x ∷ xs) h fails =
    ⊎_elim {A = test x ≡ true} {B = list_any test xs ≡ true} {C = list_all other (x ∷ xs) ≡ false}
    (λ here. and_left (other x) (list_all other xs) (fails x here))
    (λ later. and_right (other x) (list_all other xs) (all_fails test other xs later fails))
    (or_cases (test x) (list_any test xs) h)

none_at : {X : Type 0} (test : X → Bool) (xs : List X) → list_any test xs ≡ false → (k : ℕ) (d : X) → k < length xs
    → test (get_or xs k d) ≡ false
none_at test xs none k d lt =
    false_from_ne_true (test (get_or xs k d)) (λ h. both_ways (list_any test xs) none (list_any_at test xs k d lt h))

-- none of the spans around a place starts later
abbrev is_last : ℕ → List Span → Span → Bool
is_last place spans span = list_all (λ other. not (covers place other && starts_before span other)) spans

near_last : (points : List (List ℕ)) (hash : List ℕ) (nsec3s : List OwnedNsec3) (nsec3 : OwnedNsec3)
    → AreHashPlaced points nsec3s
    → IsHashPlaced points nsec3 → near hash nsec3 ≡ true
    → is_last (place_of points hash) (map (hash_span points) nsec3s) (hash_span points nsec3)
    ≡ is_nearest hash nsec3s nsec3
near_last points hash nsec3s nsec3 all is e =
    list_all_mapped (hash_span points)
    (λ other. not (covers (place_of points hash) other && starts_before (hash_span points nsec3) other))
    (λ other. not (nsec3_spans hash other && is_farther hash nsec3 other)) nsec3s (record {
      at = λ k d lt.
          let other : OwnedNsec3 = get_or nsec3s k d in
          ap not (ap (λ b. b && starts_before (hash_span points nsec3) (hash_span points other))
          (first_lap points hash other (all.each k d lt))
          ∙ same_if (near hash other) (starts_before (hash_span points nsec3) (hash_span points other))
          (hash_before (owner_hash nsec3) (owner_hash other))
          (λ n. in_order points nsec3 other is (near_is hash nsec3 e).considered (near_is hash other n).considered)
          ∙ nearer_than_near hash nsec3 other e);
    })

far_last : (points : List (List ℕ)) (hash : List ℕ) (nsec3s : List OwnedNsec3) (nsec3 : OwnedNsec3)
    → AreHashPlaced points nsec3s
    → IsHashPlaced points nsec3 → far hash nsec3 ≡ true → list_any (near hash) nsec3s ≡ false
    → is_last (place_of points hash + lap points) (map (hash_span points) nsec3s) (hash_span points nsec3)
    ≡ is_nearest hash nsec3s nsec3
far_last points hash nsec3s nsec3 all is e none =
    list_all_mapped (hash_span points)
    (λ other. not (covers (place_of points hash + lap points) other && starts_before (hash_span points nsec3) other))
    (λ other. not (nsec3_spans hash other && is_farther hash nsec3 other)) nsec3s (record {
      at = λ k d lt.
          let other : OwnedNsec3 = get_or nsec3s k d in
          ap not (ap (λ b. b && starts_before (hash_span points nsec3) (hash_span points other))
          (second_lap points hash other (all.each k d lt))
          ∙ same_if (far hash other) (starts_before (hash_span points nsec3) (hash_span points other))
          (hash_before (owner_hash nsec3) (owner_hash other))
          (λ f. in_order points nsec3 other is (far_is hash nsec3 e).considered (far_is hash other f).considered)
          ∙ nearer_than_far hash nsec3 other e (none_at (near hash) nsec3s none k d lt));
    })

-- where some record is near, what counts in the first lap is what counts for the hash
counts_first : (points : List (List ℕ)) (hash : List ℕ) (nsec3s : List OwnedNsec3) (nsec3 : OwnedNsec3)
    → AreHashPlaced points nsec3s
    → IsHashPlaced points nsec3 → list_any (near hash) nsec3s ≡ true
    → counts_at (place_of points hash) (map (hash_span points) nsec3s) (hash_span points nsec3)
    ≡ counts_for hash nsec3s nsec3
counts_first points hash nsec3s nsec3 all is some =
    ap (λ b. b && is_last (place_of points hash) (map (hash_span points) nsec3s) (hash_span points nsec3))
    (first_lap points hash nsec3 is)
    ∙ by (near hash nsec3) (far hash nsec3) refl refl
  where
    by : (b c : Bool) → near hash nsec3 ≡ b → far hash nsec3 ≡ c
        → (b && is_last (place_of points hash) (map (hash_span points) nsec3s) (hash_span points nsec3))
        ≡ counts_for hash nsec3s nsec3
    by true c e f =
        near_last points hash nsec3s nsec3 all is e
        ∙ sym (ap (λ b. b && is_nearest hash nsec3s nsec3) (near_is hash nsec3 e).spans)
    by false true e f =
        sym (and_right (nsec3_spans hash nsec3) (is_nearest hash nsec3s nsec3)
        (all_fails (near hash) (λ other. not (nsec3_spans hash other && is_farther hash nsec3 other)) nsec3s some
        (λ other n. near_before_far hash nsec3 other f n)))
    by false false e f = sym (ap (λ b. b && is_nearest hash nsec3s nsec3) (neither hash nsec3 e f))

-- where none is, it is what counts in the second lap
counts_second : (points : List (List ℕ)) (hash : List ℕ) (nsec3s : List OwnedNsec3) (nsec3 : OwnedNsec3)
    → AreHashPlaced points nsec3s
    → IsHashPlaced points nsec3 → list_any (near hash) nsec3s ≡ false → near hash nsec3 ≡ false
    → counts_at (place_of points hash + lap points) (map (hash_span points) nsec3s) (hash_span points nsec3)
    ≡ counts_for hash nsec3s nsec3
counts_second points hash nsec3s nsec3 all is none far_alone =
    ap (λ b. b && is_last (place_of points hash + lap points) (map (hash_span points) nsec3s) (hash_span points nsec3))
    (second_lap points hash nsec3 is)
    ∙ by (far hash nsec3) refl
  where
    by : (c : Bool) → far hash nsec3 ≡ c
        → (c && is_last (place_of points hash + lap points) (map (hash_span points) nsec3s) (hash_span points nsec3))
        ≡ counts_for hash nsec3s nsec3
    by true f =
        far_last points hash nsec3s nsec3 all is f none
        ∙ sym (ap (λ b. b && is_nearest hash nsec3s nsec3) (far_is hash nsec3 f).spans)
    by false f = sym (ap (λ b. b && is_nearest hash nsec3s nsec3) (neither hash nsec3 far_alone f))

-- ---- some span counts where some lies around

starts_ranked : IsRanking starts_before
starts_ranked = record {
  itself = λ x. le-ltb x.start x.start (omega arith);
  back = λ x y h. le-ltb y.start x.start (omega (arith, ltb-true x.start y.start h));
  past = λ x y z no h. lt-ltb y.start z.start (omega (arith, ltb-false x.start y.start no, ltb-true x.start z.start h));
}

record HasBest (place : ℕ) (spans : List Span) (number : ℕ) : Type 0 where
  best : Option (ℕ × Span)
  is : IsBestOf (covers place) starts_before spans number best

has_best : (place : ℕ) (spans : List Span) (number : ℕ) → number ≤ length spans → HasBest place spans number
has_best place spans zero le = record { best = None; is = λ k d lt. absurd (omega (arith, lt)) }
has_best place spans (suc number) le =
    let before : HasBest place spans number = has_best place spans number (omega (arith, le)) in
    let span : Span = get_or spans number nowhere in
    let within : number < length spans = omega (arith, le) in
    let next : Option (ℕ × Span) = next_best (covers place) starts_before before.best number span in
    record {
      best = next;
      is = subst (λ (n : ℕ). IsBestOf (covers place) starts_before spans n next) (omega arith)
          (best_more (covers place) starts_before starts_ranked spans number span before.best within
          (get_or_default spans number nowhere span within) before.is);
    }

best_is_some : (place : ℕ) (spans : List Span) (best : ℕ × Span)
    → IsBestOf (covers place) starts_before spans (length spans) (Some best) → position (counts_at place spans) spans
    ≡ Some best.0
best_is_some place spans best is = sym (best_found (covers place) starts_before spans (Some best) is).number

none_around_by : (place : ℕ) (spans : List Span) (best : Option (ℕ × Span))
    → IsBestOf (covers place) starts_before spans (length spans) best → position (counts_at place spans) spans ≡ None
    → list_any (covers place) spans ≡ false
none_around_by place spans None is none = none_any (covers place) spans is
none_around_by place spans (Some best) is none =
    let some : position (counts_at place spans) spans ≡ Some best.0 = best_is_some place spans best is in
    cc

none_around : (place : ℕ) (spans : List Span) → position (counts_at place spans) spans ≡ None
    → list_any (covers place) spans ≡ false
none_around place spans none =
    let has : HasBest place spans (length spans) = has_best place spans (length spans) (omega arith) in
    none_around_by place spans has.best has.is none

none_counts : (place : ℕ) (spans : List Span) → list_any (covers place) spans ≡ false
    → position (counts_at place spans) spans ≡ None
none_counts place spans none =
    sym (best_found (covers place) starts_before spans None (λ k d lt. none_at (covers place) spans none k d lt)).number

-- ---- the record that covers a hash

any_mapped : {X Y : Type 0} (make : X → Y) (made : Y → Bool) (test : X → Bool) (xs : List X) → AgreeOn make made test xs
    → list_any made (map make xs) ≡ list_any test xs
any_mapped make made test [] agree = refl
any_mapped make made test (x ∷ xs) agree =
    ap (λ b. b || list_any made (map make xs)) (agree.at zero x (omega arith))
    ∙ ap (λ b. test x || b) (any_mapped make made test xs
    (record { at = λ k d lt. agree.at (suc k) d (omega (arith, lt)) }))

some_near : (points : List (List ℕ)) (hash : List ℕ) (nsec3s : List OwnedNsec3) → AreHashPlaced points nsec3s
    → list_any (covers (place_of points hash)) (map (hash_span points) nsec3s) ≡ list_any (near hash) nsec3s
some_near points hash nsec3s all =
    any_mapped (hash_span points) (covers (place_of points hash)) (near hash) nsec3s
    (record { at = λ k d lt. first_lap points hash (get_or nsec3s k d) (all.each k d lt) })

some_kept : (one two three : Option ℕ) → one ≡ three → (one ≡ None → ⊥) → option_or one two ≡ three
some_kept None two three same some = absurd (some refl)
some_kept (Some number) two three same some = same

-- what counts at the first place, or else at the second one, is the record that covers the hash
pub covering_at : (points : List (List ℕ)) (hash : List ℕ) (nsec3s : List OwnedNsec3) → AreHashPlaced points nsec3s
    → option_or (position (counts_at (place_of points hash) (map (hash_span points) nsec3s))
    (map (hash_span points) nsec3s))
    (position (counts_at (place_of points hash + lap points) (map (hash_span points) nsec3s))
    (map (hash_span points) nsec3s))
    ≡ covering_number hash nsec3s
unfolding covering_number
covering_at points hash nsec3s all = by (list_any (near hash) nsec3s) refl
  where
    by : (b : Bool) → list_any (near hash) nsec3s ≡ b
        → option_or (position (counts_at (place_of points hash) (map (hash_span points) nsec3s))
        (map (hash_span points) nsec3s))
        (position (counts_at (place_of points hash + lap points) (map (hash_span points) nsec3s))
        (map (hash_span points) nsec3s))
        ≡ position (counts_for hash nsec3s) nsec3s
    by true e =
        let spans = map (hash_span points) nsec3s in
        some_kept (position (counts_at (place_of points hash) spans) spans)
        (position (counts_at (place_of points hash + lap points) spans) spans)
        (position (counts_for hash nsec3s) nsec3s)
        (position_mapped (hash_span points) (counts_at (place_of points hash) spans) (counts_for hash nsec3s) nsec3s
        (record { at = λ k d lt. counts_first points hash nsec3s (get_or nsec3s k d) all (all.each k d lt) e }))
        (λ none. both_ways (list_any (covers (place_of points hash)) spans)
        (none_around (place_of points hash) spans none)
        (some_near points hash nsec3s all ∙ e))
    by false e =
        let spans = map (hash_span points) nsec3s in
        ap (λ o. option_or o (position (counts_at (place_of points hash + lap points) spans) spans))
        (none_counts (place_of points hash) spans (some_near points hash nsec3s all ∙ e))
        ∙ position_mapped (hash_span points) (counts_at (place_of points hash + lap points) spans)
        (counts_for hash nsec3s) nsec3s
        (record {
          at = λ k d lt.
              counts_second points hash nsec3s (get_or nsec3s k d) all (all.each k d lt) e
              (none_at (near hash) nsec3s e k d lt);
        })

-- ---- the records that match a hash

-- the spans that start at the place are those of the records that match the hash
pub first_matching : (points : List (List ℕ)) (hash : List ℕ) (nsec3s : List OwnedNsec3) → AreHashPlaced points nsec3s
    → first_from (starts_at (place_of points hash)) 0 (map (hash_span points) nsec3s)
    ≡ position (nsec3_matches hash) nsec3s
first_matching points hash nsec3s all =
    first_mapped (hash_span points) (starts_at (place_of points hash)) (nsec3_matches hash) 0 nsec3s
    (record { at = λ k d lt. starts_here points hash (get_or nsec3s k d) (all.each k d lt) })
    ∙ first_is_position (nsec3_matches hash) nsec3s

start_mapped : (points : List (List ℕ)) (nsec3s : List OwnedNsec3) (k : ℕ) (d : OwnedNsec3) → k < length nsec3s
    → start_of (map (hash_span points) nsec3s) k ≡ (hash_span points (get_or nsec3s k d)).start
start_mapped points [] k d lt = absurd (omega (arith, lt))
start_mapped points (nsec3 ∷ nsec3s) zero d lt = refl
start_mapped points (nsec3 ∷ nsec3s) (suc k) d lt = start_mapped points nsec3s k d (omega (arith, lt))

-- the next of them
pub next_matching : (points : List (List ℕ)) (hash : List ℕ) (nsec3s : List OwnedNsec3) (number from : ℕ)
    (d : OwnedNsec3)
    → AreHashPlaced points nsec3s → number < length nsec3s → nsec3_matches hash (get_or nsec3s number d) ≡ true
    → first_from (starts_at (start_of (map (hash_span points) nsec3s) number)) from (map (hash_span points) nsec3s)
    ≡ first_from (nsec3_matches hash) from nsec3s
next_matching points hash nsec3s number from d all lt matches =
    let span : Span = hash_span points (get_or nsec3s number d) in
    let here : span.start ≡ place_of points hash =
    eqb-true span.start (place_of points hash) (starts_here points hash (get_or nsec3s number d) (all.each number d lt)
    ∙ matches) in
    ap (λ n. first_from (starts_at n) from (map (hash_span points) nsec3s))
    (start_mapped points nsec3s number d lt ∙ here)
    ∙ first_mapped (hash_span points) (starts_at (place_of points hash)) (nsec3_matches hash) from nsec3s
    (record { at = λ k e within. starts_here points hash (get_or nsec3s k e) (all.each k e within) })
