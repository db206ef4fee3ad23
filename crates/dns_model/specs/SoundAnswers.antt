-- What a reply tells, and when an answer is sound (RFC 4035, 4.3 and 5).
use Rattle.std.specs.Prelude.{ℕ, ◌≡◌, ◌≤◌, Bool, true, false, ◌==◌, ◌&&◌, min, List, [], ◌∷◌, ◌++◌, map, count_by, Option, None, Some, if◌then◌else◌, option_and_then}
use Rattle.std.specs.List.{filter, find, AllByRecursion}
use Rattle.dns_model.specs.declared.proof.Proof.{Proof}
use Rattle.dns_model.specs.declared.proof.Proof.TheVariants.{Secure, Indeterminate}
use Rattle.dns_model.specs.declared.section.Section.{Section}
use Rattle.dns_model.specs.declared.section.Section.TheVariants.{Answer, Authority, Additional}
use Rattle.dns_model.specs.declared.denial.Denial.{Denial}
use Rattle.dns_model.specs.Names.{Labels, name_eq}
use Rattle.dns_model.specs.Types.{type_dnskey}
use Rattle.dns_model.specs.Views.{RrsigValue, rrsig_in}
use Rattle.dns_model.specs.Serial.{seconds_left}
use Rattle.dns_model.specs.Records.{Rr, RrSet, MessageValue}
use Rattle.dns_model.specs.Sections.{sets_of, is_signature}
use Rattle.dns_model.specs.Chains.{LinkValue, Judge, KeySet, Signed, justified, ends_at, last_link}
use Rattle.dns_model.specs.Trails.{AskedValue}
use Rattle.dns_model.specs.Paired.{ArePaired}
use Rattle.std.specs.Option.{option_map_or}
pub use Rattle.dns_model.specs.Told.{Told, told_by}

-- a chain, and the section that its set stands in
pub record ChainValue : Type 0 where
  pub section : Section
  pub links : List LinkValue

-- an answer: a message, the chains of its Secure sets, what it denies, and how it came about, step by step
pub record ResponseValue : Type 0 where
  pub message : MessageValue
  pub chains : List ChainValue
  pub denial : Denial
  pub trail : List AskedValue

abbrev pub is_secure : Proof → Bool
is_secure Secure = true
is_secure _ = false

abbrev pub section_eq : Section → Section → Bool
section_eq Answer Answer = true
section_eq Authority Authority = true
section_eq Additional Additional = true
section_eq _ _ = false

-- the records of a section
abbrev pub section_of : Told → Section → List Rr
section_of told Answer = told.answers
section_of told Authority = told.authorities
section_of told Additional = told.additionals

-- a set, and the section that it stands in
pub record PlacedSet : Type 0 where
  pub section : Section
  pub set : RrSet

abbrev pub in_section : Section → RrSet → PlacedSet
in_section section set = record { section = section; set = set }

-- the sets of all sections, in order
abbrev pub placed_sets : Told → List PlacedSet
placed_sets told =
    map (in_section Answer) (sets_of told.answers) ++ map (in_section Authority) (sets_of told.authorities)
    ++ map (in_section Additional) (sets_of told.additionals)

-- the mark of a set is that of its first record
abbrev pub first_mark : List Rr → Proof
first_mark [] = Indeterminate
first_mark (r ∷ rs) = r.proof

abbrev pub is_secure_set : RrSet → Bool
is_secure_set set = is_secure (first_mark set.records)

-- the records of a set have one mark
abbrev pub HasOneMark : RrSet → Type 0
HasOneMark set = AllByRecursion (λ r. r.proof ≡ first_mark set.records) set.records

abbrev pub HaveOneMark : List Rr → Type 0
HaveOneMark section = AllByRecursion HasOneMark (sets_of section)

-- of the signatures of a set at most one is Secure, the one that decided: no copy beside it is (RFC 4035, 5.3.3)
abbrev pub HasOneDecider : RrSet → Type 0
HasOneDecider set = count_by (λ r. is_secure r.proof) set.signatures ≤ 1

abbrev pub HaveOneDecider : List Rr → Type 0
HaveOneDecider section = AllByRecursion HasOneDecider (sets_of section)

abbrev pub secure_sets : Told → List PlacedSet
secure_sets told = filter (λ p. is_secure_set p.set) (placed_sets told)

-- a chain names a set's section, ends at the set, and is justified
pub record IsChainOf (j : Judge) (chain : ChainValue) (placed : PlacedSet) : Type 0 where
  pub named : chain.section ≡ placed.section
  pub ends : ends_at chain.links placed.set ≡ true
  pub holds : justified j chain.links ≡ true

-- the type of the set that a record belongs to, or that it covers as a signature
abbrev pub set_rtype : Rr → ℕ
set_rtype r = if is_signature r then option_map_or (λ sig. sig.covered) (rrsig_in r.rdata) r.rtype else r.rtype

abbrev pub link_is_of : Labels → ℕ → Option LinkValue → Bool
link_is_of owner rtype (Some (KeySet o c keys links)) = name_eq owner o && (rtype == type_dnskey)
link_is_of owner rtype (Some (Signed o c k rdatas sig key_link key)) = name_eq owner o && (rtype == k)
link_is_of owner rtype _ = false

abbrev pub chain_is_of : Section → Labels → ℕ → ChainValue → Bool
chain_is_of section owner rtype chain = section_eq section chain.section && link_is_of owner rtype (last_link chain.links)

-- the last link of the chain that ends at the set of a record, or at the set that the record covers
abbrev pub deciding_link : List ChainValue → Section → Rr → Option LinkValue
deciding_link chains section r = option_and_then (λ chain. last_link chain.links) (find (chain_is_of section r.owner (set_rtype r)) chains)

-- the ttl of a record, where there is one
abbrev pub ttl_of : Option Rr → ℕ
ttl_of record_ = option_map_or (λ r. r.ttl) record_ 0

-- the ttl of the first record of a section with this owner and type
abbrev pub first_ttl : List Rr → Labels → ℕ → ℕ
first_ttl section owner rtype = option_map_or (λ r. r.ttl) (find (λ r. name_eq owner r.owner && (rtype == r.rtype)) section) 0

-- the ttl that a signature leaves to records: no more than the original ttl and the seconds that it is still valid
abbrev pub signed_ttl : Option RrsigValue → ℕ → ℕ
signed_ttl None now = 0
signed_ttl (Some sig) now = min sig.original_ttl (seconds_left sig now)

-- a Secure record's ttl by the last link of its set's chain: as it was told under a key set, else the least of three numbers;
-- a Secure signature is the one that the link names
abbrev pub IsSecureTtl : ℕ → List Rr → Rr → Rr → Option LinkValue → Type 0
IsSecureTtl now section t r (Some (KeySet owner class keys links)) = (is_signature r ≡ false) × (r.ttl ≡ t.ttl)
IsSecureTtl now section t r (Some (Signed owner class rtype rdatas sig key_link key)) =
    (is_signature r ≡ true → r.rdata ≡ sig)
    × (r.ttl ≡ min (first_ttl section r.owner (set_rtype r)) (signed_ttl (rrsig_in sig) now))
IsSecureTtl now section t r _ = ⊥

-- a record of an answer beside the record as it was told
pub record IsRecordKept (now : ℕ) (chains : List ChainValue) (section : Section) (told : List Rr) (t r : Rr) : Type 0 where
  pub owner : r.owner ≡ t.owner
  pub rtype : r.rtype ≡ t.rtype
  pub class : r.class ≡ t.class
  pub rdata : r.rdata ≡ t.rdata
  pub plain : is_secure r.proof ≡ false → r.ttl ≡ t.ttl
  pub secure : is_secure r.proof ≡ true → IsSecureTtl now told t r (deciding_link chains section r)

-- the answer holds exactly the records that were told, in order, each set with one mark and at most one Secure signature, each
-- Secure set with one justified chain
pub record Sound (j : Judge) (now : ℕ) (told : Told) (a : ResponseValue) : Type 0 where
  pub code : a.message.response_code ≡ told.code
  pub answers : ArePaired (IsRecordKept now a.chains Answer told.answers) told.answers a.message.answers
  pub authorities : ArePaired (IsRecordKept now a.chains Authority told.authorities) told.authorities a.message.authorities
  pub additionals : ArePaired (IsRecordKept now a.chains Additional told.additionals) told.additionals a.message.additionals
  pub marks_of_answers : HaveOneMark a.message.answers
  pub marks_of_authorities : HaveOneMark a.message.authorities
  pub marks_of_additionals : HaveOneMark a.message.additionals
  pub deciders_of_answers : HaveOneDecider a.message.answers
  pub deciders_of_authorities : HaveOneDecider a.message.authorities
  pub deciders_of_additionals : HaveOneDecider a.message.additionals
  pub chains : ArePaired (IsChainOf j) a.chains (secure_sets (told_by a.message))
