-- The RRsets of a section and their signatures (RFC 2181, 5; RFC 4035, 5.3.1).
use Rattle.std.specs.Prelude.{Bool, true, false, not, ◌==◌, ◌&&◌, List, [], ◌∷◌, map}
use Rattle.std.specs.List.{filter}
use Rattle.dns_model.specs.Names.{name_eq}
use Rattle.dns_model.specs.Types.{type_rrsig}
use Rattle.dns_model.specs.Views.{rrsig_in}
use Rattle.dns_model.specs.Records.{Rr, RrSet}
use Rattle.dns_model.specs.Keys.{bytes_eq}
use Rattle.std.specs.Option.{option_map_or}

-- nothing stands in a section, or in another list
abbrev pub is_empty : {X : Type 0} → List X → Bool
is_empty [] = true
is_empty (x ∷ xs) = false

-- two records of one owner and type
abbrev pub same_set : Rr → Rr → Bool
same_set a b = name_eq a.owner b.owner && (a.rtype == b.rtype)

-- one record but for ttl and mark
abbrev pub same_record : Rr → Rr → Bool
same_record a b = name_eq a.owner b.owner && ((a.rtype == b.rtype) && ((a.class == b.class) && bytes_eq a.rdata b.rdata))

abbrev pub is_signature : Rr → Bool
is_signature r = r.rtype == type_rrsig

-- a readable RRSIG of the record's owner that covers its type
abbrev pub covers : Rr → Rr → Bool
covers r signature =
    is_signature signature
    && (name_eq r.owner signature.owner && option_map_or (λ sig. sig.covered == r.rtype) (rrsig_in signature.rdata) false)

-- each record that no earlier one shares a set with
unfoldable pub leaders : List Rr → List Rr
leaders [] = []
leaders (r ∷ rs) = r ∷ filter (λ s. not (same_set r s)) (leaders rs)

-- the records of a section that aren't signatures
abbrev pub unsigned_part : List Rr → List Rr
unsigned_part section = filter (λ r. not (is_signature r)) section

-- the set of a record, in section order, and the signatures that cover it
abbrev pub set_of : List Rr → Rr → RrSet
set_of section r = record {
  owner = r.owner;
  rtype = r.rtype;
  class = r.class;
  records = filter (same_set r) section;
  signatures = filter (covers r) section;
}

-- the RRsets of a section, in order of first appearance
unfoldable pub sets_of : List Rr → List RrSet
sets_of section = map (set_of section) (leaders (unsigned_part section))
