-- The ttl of a judged set is the one that each of its records gets.
use Rattle.std.proofs.Common.{◌≡◌, ℕ, ◌+◌, ◌<◌, ◌≤◌, ◌⊎◌, inl, inr, Bool, true, false, not, ◌&&◌, cond, List, [], ◌∷◌, ◌++◌, length, take, get_or, Option, None, Some, refl, sym, ap, ◌∙◌, subst, arith}
use Rattle.std.specs.Prelude.{min, slice_get}
use Rattle.std.specs.Option.{option_map, option_map_or, unwrap_or}
use Rattle.std.specs.List.{find}
use Rattle.std.proofs.lemmas.List.{length-map, get_or-map, map-append}
use Rattle.std.proofs.lemmas.Option.{slice_get_cases, slice_get_read}
use Rattle.dns_model.specs.declared.section.Section.{Section}
use Rattle.dns_model.specs.Records.{Rr}
use Rattle.dns_model.specs.RecordViews.{rrsig_of}
use Rattle.dns_model.specs.Sections.{is_signature}
use Rattle.dns_model.specs.SoundAnswers.{is_secure, set_rtype, signed_ttl, ttl_of}
use Rattle.dns_rules.specs.ChainedSets.{ChainedSet, bare}
use Rattle.dns_rules.specs.MarkedSets.{MarkedSet, decider}
use Rattle.dns_rules.specs.MarkParts.{first_record, is_place, marked_by}
use Rattle.dns_rules.specs.Marking.{cleared, is_about}
use Rattle.dns_outcome.specs.declared.set_places.SetPlaces.{SetPlaces}
use Rattle.dns_outcome.specs.SetPlaces.{is_placed, ArePlacedIn}
use Rattle.dns_rules.proofs.BareLemmas.{bare_at, bare_more}
use Rattle.dns_outcome.proofs.MarkSteps as by_place
use Rattle.dns_outcome.proofs.PlaceLemmas.{is_absent}
use Rattle.dns_marking.specs.Counting.{place_for, set_at}
use Rattle.dns_marking.specs.Timing.{marked_with, set_ttl, set_ttls}

-- ---- one record

ttl_step : (b : Bool) (f : Rr → ℕ) (o : Option Rr) (t : ℕ) → unwrap_or (cond b (option_map f o) None) t ≡ cond b (option_map_or f o t) t
ttl_step true f None t = refl
ttl_step true f (Some s) t = refl
ttl_step false f o t = refl

marked_in_time : (now place : ℕ) (r : Rr) (s : MarkedSet) → marked_with (set_ttl now s) place r s ≡ marked_by now place r (Some s)
marked_in_time now place r s =
    let left = λ (g : Rr). min (ttl_of (first_record s.set.records)) (signed_ttl (rrsig_of g) now) in
    ap (λ (t : ℕ). cond (is_signature r && not (is_place s.sig place)) (cleared r) (record r { proof = s.mark; ttl = t }))
    (ttl_step (is_secure s.mark) left (decider s) r.ttl)

-- a record that is marked by the set at a number
pub marked_here : (now : ℕ) (sets : List ChainedSet) (ttls : List (Option ℕ)) (r new : Rr) (n count : ℕ) (x : ChainedSet) (d : Option ℕ)
    → ttls ≡ set_ttls now (bare sets) → n < length sets → x ≡ get_or sets n x → new ≡ marked_with (get_or ttls n d) count r x.judged
    → new ≡ marked_by now count r (slice_get (bare sets) n)
marked_here now sets ttls r new n count x d are within read made =
    let long : n < length (bare sets) = subst (λ m. n < m) (sym (length-map sets (λ c. c.judged))) within in
    let at : x.judged ≡ get_or (bare sets) n x.judged = bare_at sets n x within read in
    let there : slice_get (bare sets) n ≡ Some x.judged = slice_get_read (bare sets) (length (bare sets)) n x.judged refl long at in
    let is : get_or ttls n d ≡ set_ttl now x.judged =
    ap (λ l. get_or l n d) are ∙ get_or-map (set_ttl now) (bare sets) n x.judged d long ∙ ap (set_ttl now) (sym at) in
    made ∙ ap (λ t. marked_with t count r x.judged) is ∙ marked_in_time now count r x.judged ∙ ap (marked_by now count r) (sym there)

-- ---- the set of a record is the one at its place

found_by_cases : (p : SetPlaces) (section : Section) (sets : List MarkedSet) (r : Rr) (n : ℕ) → ArePlacedIn p section sets
    → place_for p r ≡ Some n
    → (((y : MarkedSet) × (n < length sets) × (slice_get sets n ≡ Some y) × (get_or sets n y ≡ y)) ⊎
    ((length sets ≤ n) × (slice_get sets n ≡ None)))
    → slice_get sets n ≡ find (is_about section r) sets
found_by_cases p section sets r n are is (inl (y, within, there, at)) =
    there ∙ sym ((by_place.set_at p section sets r.owner (set_rtype r) n are (sym is)).found y (sym at))
found_by_cases p section sets r n are is (inr (past, none)) =
    let within = (by_place.set_at p section sets r.owner (set_rtype r) n are (sym is)).within in
    let never : ⊥ = omega (arith, within, past) in
    absurd never

pub found_at : (p : SetPlaces) (section : Section) (sets : List MarkedSet) (r : Rr) (o : Option ℕ) → ArePlacedIn p section sets
    → place_for p r ≡ o
    → set_at sets o ≡ find (is_about section r) sets
found_at p section sets r None are is =
    sym (is_absent (is_placed section r.owner (set_rtype r)) sets (sym (are.each r.owner (set_rtype r)) ∙ is)).missing
found_at p section sets r (Some n) are is = found_by_cases p section sets r n are is ((slice_get_cases sets n).1)

pub place_within : (p : SetPlaces) (section : Section) (sets : List ChainedSet) (r : Rr) (n : ℕ) → ArePlacedIn p section (bare sets)
    → place_for p r ≡ Some n → n < length sets
place_within p section sets r n are is =
    subst (λ m. n < m) (length-map sets (λ c. c.judged)) (by_place.set_at p section (bare sets) r.owner (set_rtype r) n are (sym is)).within

-- ---- the ttls of sets

pub ttls_more : (now : ℕ) (sets : List ChainedSet) (ttls after : List (Option ℕ)) (i : ℕ) (x : ChainedSet) (ttl : Option ℕ)
    → i < length sets
    → x ≡ get_or sets i x → ttls ≡ set_ttls now (bare (take i sets)) → ttl ≡ set_ttl now x.judged → after ≡ ttls ++ ttl ∷ []
    → after ≡ set_ttls now (bare (take (i + 1) sets))
ttls_more now sets ttls after i x ttl within read before is made =
    made ∙ ap (λ l. l ++ ttl ∷ []) before ∙ ap (λ t. set_ttls now (bare (take i sets)) ++ t ∷ []) is
    ∙ sym (map-append (set_ttl now) (bare (take i sets)) (x.judged ∷ [])) ∙ ap (set_ttls now) (sym (bare_more sets i x within read))
