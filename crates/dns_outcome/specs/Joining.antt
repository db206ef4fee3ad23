-- For private functions of this crate only: the sets of the records met so far, and what one more record changes.
use Rattle.std.specs.Prelude.{ℕ, Bool, ◌==◌, ◌&&◌, List, [], ◌∷◌, ◌++◌, map, Option, None, Some, if◌then◌else◌}
use Rattle.std.specs.List.{filter, list_any}
use Rattle.dns_model.specs.Names.{Labels, name_eq}
use Rattle.dns_model.specs.Views.{RrsigValue}
use Rattle.dns_model.specs.Records.{Rr, RrSet}
use Rattle.dns_model.specs.Sections.{is_signature, same_set, covers, leaders, unsigned_part}
use Rattle.dns_model.specs.RecordViews.{rrsig_of}

-- a set of this owner and type
abbrev pub is_at : Labels → ℕ → RrSet → Bool
is_at owner rtype set = name_eq set.owner owner && (set.rtype == rtype)

-- the first that passes is changed
unfoldable pub touched : {X : Type 0} → (X → Bool) → (X → X) → List X → List X
touched p f [] = []
touched p f (x ∷ xs) = if p x then f x ∷ xs else x ∷ touched p f xs

abbrev pub with_record : Rr → RrSet → RrSet
with_record r set = record set { records = set.records ++ r ∷ [] }

abbrev pub with_signature : Rr → RrSet → RrSet
with_signature r set = record set { signatures = set.signatures ++ r ∷ [] }

-- the set of one record
abbrev pub set_of_one : Rr → RrSet
set_of_one r = record { owner = r.owner; rtype = r.rtype; class = r.class; records = r ∷ []; signatures = [] }

-- the record joins the first set of its owner and type, or stands in a set of its own
abbrev pub joined_by : Rr → List RrSet → List RrSet
joined_by r sets =
    if list_any (is_at r.owner r.rtype) sets then touched (is_at r.owner r.rtype) (with_record r) sets else sets ++ set_of_one r ∷ []

-- a signature joins no set
abbrev pub met_by : Rr → List RrSet → List RrSet
met_by r sets = if is_signature r then sets else joined_by r sets

abbrev pub handed_to_covered : Rr → Option RrsigValue → List RrSet → List RrSet
handed_to_covered r None sets = sets
handed_to_covered r (Some sig) sets = touched (is_at r.owner sig.covered) (with_signature r) sets

-- a signature that can be read is given to the first set that it covers
abbrev pub handed : Rr → List RrSet → List RrSet
handed r sets = handed_to_covered r (rrsig_of r) sets

-- the set of the first record of an owner and type, without signatures
abbrev pub bare_set : List Rr → Rr → RrSet
bare_set records r = record { owner = r.owner; rtype = r.rtype; class = r.class; records = filter (same_set r) records; signatures = [] }

-- the sets of records that are no signatures
abbrev pub bare_sets : List Rr → List RrSet
bare_sets records = map (bare_set records) (leaders records)

-- the set of a record, with those signatures that stand in a front part
abbrev pub part_set : List Rr → List Rr → Rr → RrSet
part_set section front r = record {
  owner = r.owner;
  rtype = r.rtype;
  class = r.class;
  records = filter (same_set r) section;
  signatures = filter (covers r) front;
}

-- the sets of a section, with those signatures that stand in a front part
abbrev pub part_sets : List Rr → List Rr → List RrSet
part_sets section front = map (part_set section front) (leaders (unsigned_part section))
