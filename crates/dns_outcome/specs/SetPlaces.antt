-- Where an owner's set of a type stands among sets (RFC 2181, 5), or the set that a signature covers (RFC 4034, 3.1.1).
use Rattle.std.specs.Prelude.{◌≡◌, ℕ, suc, Bool, ◌==◌, ◌&&◌, List, [], ◌∷◌, Option, None, Some, is_some, if◌then◌else◌}
use Rattle.std.specs.BTreeMap as tree
use Rattle.dns_model.specs.declared.section.Section.{Section}
use Rattle.dns_model.specs.Names.{Labels, name_eq}
use Rattle.dns_model.specs.Views.{RrsigValue, rrsig_in}
use Rattle.dns_model.specs.Records.{Rr, RrSet}
use Rattle.dns_model.specs.Sections.{is_signature}
use Rattle.dns_model.specs.SoundAnswers.{section_eq}
use Rattle.dns_rules.specs.MarkedSets.{MarkedSet}
use Rattle.dns_outcome.specs.declared.set_key.SetKey.{SetKey}
use Rattle.dns_outcome.specs.declared.set_places.SetPlaces.{SetPlaces}
use Rattle.dns_outcome.specs.SetKeys.{set_key, set_key_cmp}
use Rattle.dns_outcome.specs.Joining.{is_at}

-- a signature that can be read
abbrev pub is_readable : Rr → Bool
is_readable r = is_signature r && is_some (rrsig_in r.rdata)

-- the place that a key has
abbrev pub place_at_key : SetPlaces → SetKey → Option ℕ
place_at_key p key = tree.get set_key_cmp p.places key

-- the place that an owner and type have
abbrev pub place_of : SetPlaces → Labels → ℕ → Option ℕ
place_of p owner rtype = place_at_key p (set_key owner rtype)

-- the place of the set of an owner that a signature covers
abbrev pub place_covered : (Labels → ℕ → Option ℕ) → Labels → Option RrsigValue → Option ℕ
place_covered places owner None = None
place_covered places owner (Some sig) = places owner sig.covered

abbrev pub or_place : Option ℕ → Option ℕ → Option ℕ
or_place None place = place
or_place (Some n) place = Some n

-- the places with one more set, where none of its owner and type had a place
abbrev pub with_place : (Labels → ℕ → Option ℕ) → Labels → ℕ → ℕ → Labels → ℕ → Option ℕ
with_place places owner rtype n o k = or_place (places o k) (if name_eq owner o && (rtype == k) then Some n else None)

abbrev pub next_place : Option ℕ → Option ℕ
next_place None = None
next_place (Some n) = Some (suc n)

-- the place of the first that passes
unfoldable pub place_in : {X : Type 0} → (X → Bool) → List X → Option ℕ
place_in p [] = None
place_in p (x ∷ xs) = if p x then Some 0 else next_place (place_in p xs)

-- the place of each owner and type is that of the first such set
pub record ArePlaces (p : SetPlaces) (sets : List RrSet) : Type 0 where
  pub each : (owner : Labels) (rtype : ℕ) → place_of p owner rtype ≡ place_in (is_at owner rtype) sets

-- a set of a section, owner and type
abbrev pub is_placed : Section → Labels → ℕ → MarkedSet → Bool
is_placed section owner rtype judged = section_eq judged.section section && (name_eq judged.set.owner owner && (judged.set.rtype == rtype))

-- the place of each owner and type is that of the first such set of the section
pub record ArePlacedIn (p : SetPlaces) (section : Section) (sets : List MarkedSet) : Type 0 where
  pub each : (owner : Labels) (rtype : ℕ) → place_of p owner rtype ≡ place_in (is_placed section owner rtype) sets

-- the places with one more set, where it stands in the section and none of its owner and type had a place
abbrev pub with_judged : (Labels → ℕ → Option ℕ) → Section → MarkedSet → ℕ → Labels → ℕ → Option ℕ
with_judged places section judged n o k = or_place (places o k) (if is_placed section o k judged then Some n else None)
