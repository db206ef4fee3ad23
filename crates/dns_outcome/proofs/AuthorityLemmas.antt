-- Whether the set of a record is Insecure, by the place of the set.
use Rattle.std.proofs.Common.{◌≡◌, ℕ, ◌<◌, Bool, false, List, length, get_or, Option, None, Some, sym, ap, ◌∙◌, subst}
use Rattle.std.specs.Option.{option_map_or}
use Rattle.std.specs.List.{find}
use Rattle.std.proofs.lemmas.List.{length-map}
use Rattle.dns_model.specs.declared.section.Section.{Section}
use Rattle.dns_model.specs.Names.{Labels}
use Rattle.dns_model.specs.Records.{Rr}
use Rattle.dns_model.specs.SoundAnswers.{set_rtype}
use Rattle.dns_rules.specs.MarkedSets.{MarkedSet}
use Rattle.dns_rules.specs.ChainedSets.{ChainedSet, bare}
use Rattle.dns_rules.specs.Delegations.{is_insecure}
use Rattle.dns_rules.specs.Marking.{is_about}
use Rattle.dns_outcome.specs.declared.set_places.SetPlaces.{SetPlaces}
use Rattle.dns_outcome.specs.SetPlaces.{place_of, is_placed, ArePlacedIn}
use Rattle.dns_outcome.proofs.PlaceLemmas.{is_absent}
use Rattle.dns_rules.proofs.BareLemmas.{bare_at}
use Rattle.dns_outcome.proofs.MarkSteps.{set_at}

pub place_within : (p : SetPlaces) (section : Section) (sets : List ChainedSet) (owner : Labels) (rtype n : ℕ)
    → ArePlacedIn p section (bare sets)
    → Some n ≡ place_of p owner rtype → n < length sets
place_within p section sets owner rtype n are is =
    subst (λ m. n < m) (length-map sets (λ c. c.judged)) (set_at p section (bare sets) owner rtype n are is).within

abbrev is_insecure_found : Option MarkedSet → Bool
is_insecure_found found = option_map_or (λ judged. is_insecure judged.mark) found false

pub insecure_at : (p : SetPlaces) (section : Section) (sets : List ChainedSet) (r : Rr) (n : ℕ) (x : ChainedSet)
    → ArePlacedIn p section (bare sets)
    → Some n ≡ place_of p r.owner (set_rtype r) → x ≡ get_or sets n x
    → is_insecure x.judged.mark ≡ option_map_or (λ judged. is_insecure judged.mark) (find (is_about section r) (bare sets)) false
insecure_at p section sets r n x are is read =
    let within = place_within p section sets r.owner (set_rtype r) n are is in
    let found = (set_at p section (bare sets) r.owner (set_rtype r) n are is).found x.judged (bare_at sets n x within read) in
    ap is_insecure_found (sym found)

pub insecure_none : (p : SetPlaces) (section : Section) (sets : List ChainedSet) (r : Rr) → ArePlacedIn p section (bare sets)
    → None ≡ place_of p r.owner (set_rtype r)
    → false ≡ option_map_or (λ judged. is_insecure judged.mark) (find (is_about section r) (bare sets)) false
insecure_none p section sets r are is =
    ap is_insecure_found (sym (is_absent (is_placed section r.owner (set_rtype r)) (bare sets) (sym (are.each r.owner (set_rtype r))
    ∙ sym is)).missing)
