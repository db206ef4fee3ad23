-- What the kept records deny of a query (RFC 8198, 5.1 to 5.4).
use Rattle.std.specs.Prelude.{ℕ, ◌-◌, ◌^◌, min, Bool, not, ◌==◌, ◌&&◌, nat_eq, true, false, List, [], ◌∷◌, map, take, Option, None, Some, is_some, if◌then◌else◌, option_map}
use Rattle.std.specs.Option.{option_and_then, option_map_or}
use Rattle.std.specs.List.{find, filter, filter_map, list_any}
use Rattle.std.specs.Cmp.Lexicographic.{pointwise}
use Rattle.dns_model.specs.declared.proof.Proof.{Proof}
use Rattle.dns_model.specs.declared.answered.Answered.TheVariants.{No}
use Rattle.dns_model.specs.Names.{Labels, name_eq}
use Rattle.dns_model.specs.Types.{class_in, type_ds, code_no_error, code_nx_domain}
use Rattle.dns_model.specs.Records.{Question}
use Rattle.dns_model.specs.Owned.{OwnedNsec, OwnedNsec3}
use Rattle.dns_model.specs.SoundAnswers.{is_secure}
use Rattle.dns_rules.specs.DenialInZones.{is_data_type}
use Rattle.dns_rules.specs.NsecVerdict.{nsec_verdict}
use Rattle.dns_rules.specs.Nsec3Verdict.{Parameters, nsec3_verdict}
use Rattle.dns_aggressive.specs.Records.{KeptValue, StoreValue, is_live, nsec_of, nsec3_of, way_of}

-- ---- the query

-- queries that may be denied: of class IN, and of a type that zones hold as data
abbrev pub may_deny : Question → Bool
may_deny query = (query.class == class_in) && is_data_type query.rtype

-- a name and the names above it, the longest first
unfoldable pub names_up : Labels → List Labels
names_up [] = [] ∷ []
names_up (label ∷ above) = (label ∷ above) ∷ names_up above

abbrev pub names_above : Labels → List Labels
names_above [] = []
names_above (label ∷ above) = names_up above

-- the apexes of zones that may hold the query, the longest first: DS stands in the zone above the name (RFC 4035, 2.4)
abbrev pub apexes : Question → List Labels
apexes query = if query.rtype == type_ds then names_above query.owner else names_up query.owner

-- ---- the zone

abbrev pub is_live_in : ℕ → Labels → KeptValue → Bool
is_live_in now zone kept = is_live now kept && name_eq kept.zone zone

abbrev pub has_live : ℕ → List KeptValue → Labels → Bool
has_live now kept zone = list_any (is_live_in now zone) kept

-- the longest zone that may hold the query and has a live record
abbrev pub zone_for : List KeptValue → Question → ℕ → Option Labels
zone_for kept query now = find (has_live now kept) (apexes query)

-- ---- groups of records: NSEC, and NSEC3 by salt and iterations

abbrev pub same_way : Parameters → Parameters → Bool
same_way one two = pointwise nat_eq two.salt one.salt && (two.iterations == one.iterations)

abbrev pub is_of_way : Option Parameters → Option Parameters → Bool
is_of_way None None = true
is_of_way (Some one) (Some two) = same_way one two
is_of_way _ _ = false

abbrev pub is_in_group : ℕ → Labels → Option Parameters → KeptValue → Bool
is_in_group now zone way kept = is_live_in now zone kept && is_of_way way (way_of kept.item)

-- the live records of a zone that are hashed in this way, or are NSEC records
abbrev pub group : ℕ → Labels → List KeptValue → Option Parameters → List KeptValue
group now zone kept way = filter (is_in_group now zone way) kept

-- each way once, as the ways first appear
unfoldable pub distinct : List Parameters → List Parameters
distinct [] = []
distinct (way ∷ ways) = way ∷ filter (λ other. not (same_way way other)) (distinct ways)

-- how the live NSEC3 records of a zone are hashed, in order of first appearance
abbrev pub hashed_ways : ℕ → Labels → List KeptValue → List Parameters
hashed_ways now zone kept = distinct (filter_map (λ k. way_of k.item) (filter (is_live_in now zone) kept))

abbrev pub at_most : {X : Type 0} → Option ℕ → List X → List X
at_most most xs = option_map_or (λ n. take n xs) most xs

-- the groups that are tried, in order: NSEC, then NSEC3 by their ways, so many of these at the most
abbrev pub ways_tried : Option ℕ → List KeptValue → ℕ → Labels → List (Option Parameters)
ways_tried most kept now zone = None ∷ map Some (at_most most (hashed_ways now zone kept))

-- ---- what a group denies

abbrev pub nsecs_in : List KeptValue → List OwnedNsec
nsecs_in kept = filter_map (λ k. nsec_of k.item) kept

abbrev pub nsec3s_in : List KeptValue → List OwnedNsec3
nsec3s_in kept = filter_map (λ k. nsec3_of k.item) kept

-- what a group proves of a response with this code and no answer; names are hashed up to 100 iterations (RFC 9276, 3.2)
abbrev pub verdict : Question → Labels → List KeptValue → Option Parameters → ℕ → Proof
verdict query zone records None code = nsec_verdict query zone code No (nsecs_in records)
verdict query zone records (Some way) code = nsec3_verdict query zone code No (nsec3s_in records) 100 500

-- the code that a group shows: a name error, or else no data (RFC 8198, 5.1 and 5.2)
abbrev pub code_by : (ℕ → Proof) → Option ℕ
code_by proved =
    if is_secure (proved code_nx_domain) then Some code_nx_domain
    else if is_secure (proved code_no_error) then Some code_no_error
    else None

abbrev pub shown_code : List KeptValue → Question → ℕ → Labels → Option Parameters → Option ℕ
shown_code kept query now zone way = code_by (verdict query zone (group now zone kept way) way)

-- ---- the denial

-- the zone, the group and the code of a denial
pub record Decision : Type 0 where
  pub zone : Labels
  pub way : Option Parameters
  pub code : ℕ

abbrev pub decided_by : List KeptValue → Question → ℕ → Labels → Option Parameters → Option Decision
decided_by kept query now zone way =
    option_map (λ code. record { zone = zone; way = way; code = code }) (shown_code kept query now zone way)

-- of some groups of a zone the first that shows a code decides
abbrev pub decided_among : List KeptValue → Question → ℕ → Labels → List (Option Parameters) → Option Decision
decided_among kept query now zone ways =
    option_and_then (decided_by kept query now zone) (find (λ way. is_some (shown_code kept query now zone way)) ways)

abbrev pub decided_in : StoreValue → Question → ℕ → Labels → Option Decision
decided_in store query now zone = decided_among store.kept query now zone (ways_tried store.most store.kept now zone)

-- what decides a query: None where no live record's zone may hold it, or no group of the longest such zone denies it
abbrev pub decision : StoreValue → Question → ℕ → Option Decision
decision store query now =
    if may_deny query then option_and_then (decided_in store query now) (zone_for store.kept query now) else None

-- seconds for which all of these records are live, and no more than a ttl can say (RFC 8198, 5.4; RFC 2308, 5)
unfoldable pub seconds_left : ℕ → List KeptValue → ℕ
seconds_left now [] = 2 ^ 32 - 1
seconds_left now (kept ∷ more) = min (kept.expires - now) (seconds_left now more)

-- a denial that is made from kept records
pub record SynthesizedValue : Type 0 where
  pub code : ℕ
  pub zone : Labels
  pub ttl : ℕ

abbrev pub synthesized : List KeptValue → ℕ → Decision → SynthesizedValue
synthesized kept now decision = record {
  code = decision.code;
  zone = decision.zone;
  ttl = seconds_left now (group now decision.zone kept decision.way);
}

abbrev pub made : StoreValue → Question → ℕ → Option SynthesizedValue
made store query now = option_map (synthesized store.kept now) (decision store query now)
