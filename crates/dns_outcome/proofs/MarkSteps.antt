-- How a record is marked by the place of its set.
use Rattle.std.proofs.Common.{◌≡◌, ℕ, ◌+◌, ◌<◌, cond, List, [], length, take, get_or, None, Some, sym, ap, ◌∙◌, subst, arith}
use Rattle.std.specs.List.{find}
use Rattle.std.proofs.lemmas.List.{length-map, length-take-le}
use Rattle.dns_model.specs.declared.section.Section.{Section}
use Rattle.dns_model.specs.Names.{Labels}
use Rattle.dns_model.specs.Records.{Rr}
use Rattle.dns_model.specs.SoundAnswers.{set_rtype}
use Rattle.dns_rules.specs.MarkedSets.{MarkedSet}
use Rattle.dns_rules.specs.ChainedSets.{ChainedSet, bare}
use Rattle.dns_rules.specs.Marking.{cleared, is_about}
use Rattle.dns_rules.specs.MarkParts.{marked_by}
use Rattle.dns_outcome.specs.declared.set_places.SetPlaces.{SetPlaces}
use Rattle.dns_outcome.specs.SetPlaces.{place_of, or_place, with_judged, place_in, is_placed, ArePlacedIn}
use Rattle.dns_rules.proofs.BareLemmas.{bare_more}
use Rattle.dns_outcome.proofs.PlaceLemmas.{IsPlace, is_place, is_absent, place-push}

pub set_at : (p : SetPlaces) (section : Section) (sets : List MarkedSet) (owner : Labels) (rtype n : ℕ)
    → ArePlacedIn p section sets → Some n ≡ place_of p owner rtype
    → IsPlace (is_placed section owner rtype) sets n
set_at p section sets owner rtype n are is = is_place (is_placed section owner rtype) sets n (sym (are.each owner rtype) ∙ sym is)

pub marked_at : (p : SetPlaces) (now : ℕ) (section : Section) (sets : List MarkedSet) (r s : Rr) (n place : ℕ) (x : MarkedSet)
    → ArePlacedIn p section sets
    → Some n ≡ place_of p r.owner (set_rtype r) → x ≡ get_or sets n x → s ≡ marked_by now place r (Some x)
    → s ≡ marked_by now place r (find (is_about section r) sets)
marked_at p now section sets r s n place x are is read made =
    made ∙ ap (marked_by now place r) (sym ((set_at p section sets r.owner (set_rtype r) n are is).found x read))

pub marked_none : (p : SetPlaces) (now : ℕ) (section : Section) (sets : List MarkedSet) (r s : Rr) (place : ℕ) → ArePlacedIn p section sets
    → None ≡ place_of p r.owner (set_rtype r) → s ≡ cleared r → s ≡ marked_by now place r (find (is_about section r) sets)
marked_none p now section sets r s place are is made =
    made ∙ ap (marked_by now place r)
    (sym (is_absent (is_placed section r.owner (set_rtype r)) sets (sym (are.each r.owner (set_rtype r)) ∙ sym is)).missing)

-- ---- the places of judged sets

pub none_placed : (p : SetPlaces) (section : Section) → ((o : Labels) (k : ℕ) → place_of p o k ≡ None) → ArePlacedIn p section []
unfolding place_in
none_placed p section is = record { each = is }

pub placed_more : (old new : SetPlaces) (section : Section) (sets : List ChainedSet) (i : ℕ) (x : ChainedSet) → i < length sets
    → x ≡ get_or sets i x
    → ArePlacedIn old section (bare (take i sets))
    → ((o : Labels) (k : ℕ) → place_of new o k ≡ with_judged (place_of old) section x.judged i o k)
    → ArePlacedIn new section (bare (take (i + 1) sets))
placed_more old new section sets i x within read are is =
    let met = bare (take i sets) in
    let long : length met ≡ i = length-map (take i sets) (λ c. c.judged) ∙ length-take-le i sets (omega arith) in
    let P = λ (xs : List MarkedSet). ArePlacedIn new section xs in
    subst P (sym (bare_more sets i x within read)) (record {
      each = λ o k.
          is o k ∙ ap (λ p. or_place p (cond (is_placed section o k x.judged) (Some i) None)) (are.each o k)
          ∙ ap (λ m. or_place (place_in (is_placed section o k) met) (cond (is_placed section o k x.judged) (Some m) None)) (sym long)
          ∙ sym (place-push (is_placed section o k) met x.judged);
    })
