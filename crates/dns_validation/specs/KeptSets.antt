-- What a validation gives out to be kept, by its trail: what its steps found of their sets, in the order of the trail (RFC 4035, 4.5 and 4.7).
use Rattle.std.specs.Prelude.{◌≡◌, List, [], ◌∷◌, map}
use Rattle.std.specs.List.{filter, flat_map, zip}
use Rattle.std.specs.Option.{option_map_or}
use Rattle.dns_model.specs.Records.{Question}
use Rattle.dns_model.specs.SoundAnswers.{PlacedSet, Told}
use Rattle.dns_model.specs.Trails.{AskedValue, JudgedSetValue}
use Rattle.dns_rules.specs.Asking.{judged_part}
use Rattle.dns_rules.specs.CacheEntries.{EntryValue}
use Rattle.dns_rules.specs.Derivation.{told_in}
use Rattle.dns_validation.specs.LastKept.{IsOfSet, is_found}
use Rattle.dns_validation.specs.Machine.{Terms}

-- a set in the answer to a question, and what a step says of it
pub record FoundSet : Type 0 where
  pub query : Question
  pub placed : PlacedSet
  pub set : JudgedSetValue

abbrev pub found_set : Question → PlacedSet × JudgedSetValue → FoundSet
found_set q p = record { query = q; placed = p.0; set = p.1 }

-- the sets in the reply to a step's question of which the rules found anything, by the trail
abbrev pub found_of_told : List AskedValue → AskedValue → Told → List FoundSet
found_of_told trail step told =
    map (found_set step.query) (filter (λ (p : PlacedSet × JudgedSetValue). is_found trail p.1) (zip (judged_part step.depth told) step.sets))

abbrev pub found_in_step : List AskedValue → AskedValue → List FoundSet
found_in_step trail step = option_map_or (found_of_told trail step) (told_in step.reply) []

-- those of some steps
abbrev pub found_sets : List AskedValue → List AskedValue → List FoundSet
found_sets trail steps = flat_map (found_in_step trail) steps

-- entries say what was found of these sets, one of each, in order
abbrev pub AreOfSets : Terms → List FoundSet → List EntryValue → Type 0
AreOfSets t [] [] = Unit {0}
AreOfSets t [] (e ∷ entries) = ⊥
AreOfSets t (f ∷ found) [] = ⊥
AreOfSets t (f ∷ found) (e ∷ entries) = IsOfSet t f.query f.placed f.set e × AreOfSets t found entries
