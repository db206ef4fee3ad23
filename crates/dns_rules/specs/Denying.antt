-- The sets by which a response denies existence, and what their records say (RFC 4035, 3.1.3; RFC 5155, 7.2).
use Rattle.std.specs.Prelude.{ℕ, Bool, ◌==◌, ◌&&◌, List, Option}
use Rattle.std.specs.Option.{option_map}
use Rattle.std.specs.List.{filter, filter_map, flat_map}
use Rattle.dns_model.specs.declared.section.Section.TheVariants.{Authority}
use Rattle.dns_model.specs.Types.{type_nsec, type_nsec3}
use Rattle.dns_model.specs.Records.{Rr}
use Rattle.dns_model.specs.RecordViews.{read_as}
use Rattle.dns_model.specs.Views.{nsec_in, nsec3_in}
use Rattle.dns_model.specs.Owned.{OwnedNsec, OwnedNsec3}
use Rattle.dns_model.specs.SoundAnswers.{section_eq, is_secure}
use Rattle.dns_rules.specs.MarkedSets.{MarkedSet}

-- ---- sets of a type

-- a Secure set of the authority section
abbrev pub is_denying_as : ℕ → MarkedSet → Bool
is_denying_as rtype judged = section_eq Authority judged.section && (is_secure judged.mark && (judged.set.rtype == rtype))

abbrev pub denying_as : ℕ → List MarkedSet → List MarkedSet
denying_as rtype sets = filter (is_denying_as rtype) sets

-- what the records of such sets say, each read in this way; those that can't be read say nothing
abbrev pub said_as : {X : Type 0} → ℕ → (Rr → Option X) → List MarkedSet → List X
said_as rtype read sets = flat_map (λ judged. filter_map read judged.set.records) (denying_as rtype sets)

-- ---- NSEC

abbrev pub is_denying : MarkedSet → Bool
is_denying judged = is_denying_as type_nsec judged

abbrev pub denying : List MarkedSet → List MarkedSet
denying sets = denying_as type_nsec sets

-- a record as an NSEC, with its owner
abbrev pub owned_nsec : Rr → Option OwnedNsec
owned_nsec r = option_map (λ text. record { owner = r.owner; fields = text }) (read_as type_nsec nsec_in r)

-- what the Secure NSEC records of the authority section say
abbrev pub denials : List MarkedSet → List OwnedNsec
denials sets = said_as type_nsec owned_nsec sets

-- ---- NSEC3

abbrev pub is_hash_denying : MarkedSet → Bool
is_hash_denying judged = is_denying_as type_nsec3 judged

abbrev pub hash_denying : List MarkedSet → List MarkedSet
hash_denying sets = denying_as type_nsec3 sets

-- a record as an NSEC3, with its owner
abbrev pub owned_nsec3 : Rr → Option OwnedNsec3
owned_nsec3 r = option_map (λ text. record { owner = r.owner; fields = text }) (read_as type_nsec3 nsec3_in r)

-- what the Secure NSEC3 records of the authority section say
abbrev pub hashed_denials : List MarkedSet → List OwnedNsec3
hashed_denials sets = said_as type_nsec3 owned_nsec3 sets
