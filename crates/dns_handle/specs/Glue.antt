-- For private functions of this crate only: addresses by the names of their owners.
use Rattle.std.specs.Prelude.{ℕ, ◌≡◌, Bool, ◌==◌, ◌||◌, List, [], ◌∷◌, ◌++◌, Option, None, Some, if◌then◌else◌}
use Rattle.std.specs.Ordering.{nat_cmp}
use Rattle.std.specs.declared.cmp.Ordering.{Ordering}
use Rattle.std.specs.Cmp.Lexicographic.{slice_cmp}
use Rattle.std.specs.BTreeMap as tree
use Rattle.std.specs.BTreeMap.{BTreeMap}
use Rattle.std.specs.declared.vec.Vec.{Vec}
use Rattle.dns_model.specs.Names.{Labels, name_eq, folded, wire}
use Rattle.dns_model.specs.Types.{type_a, type_ns}
use Rattle.dns_model.specs.Views.{ns_in}
use Rattle.dns_model.specs.Records.{Rr}
use Rattle.dns_model.specs.RecordViews.{read_as}
use Rattle.dns_handle.specs.NoRecords.{ForwardNsValue}
use Rattle.dns_handle.specs.Responses.{type_aaaa}

-- an A or AAAA record
abbrev pub is_address : Rr → Bool
is_address r = (r.rtype == type_a) || (r.rtype == type_aaaa)

-- wire forms in order
abbrev pub bytes_cmp : List ℕ → List ℕ → Ordering
bytes_cmp = slice_cmp nat_cmp

abbrev pub vec_items : {Z : Type 0} → Option (Vec Rr Z) → List Rr
vec_items None = []
vec_items (Some v) = v.items

-- the records under a name
abbrev pub addresses_at : {Z : Type 0} → BTreeMap (List ℕ) (Vec Rr Z) → Labels → List Rr
addresses_at addresses name = vec_items (tree.get bytes_cmp addresses (wire (folded name)))

-- a record more behind those of its owner
abbrev pub Joined : {Z : Type 0} → BTreeMap (List ℕ) (Vec Rr Z) → BTreeMap (List ℕ) (Vec Rr Z) → Rr → Type 0
Joined old new r =
    (name : Labels) → addresses_at new name ≡ addresses_at old name ++ (if name_eq r.owner name then r ∷ [] else [])

-- the records under the name that an NS record names
abbrev pub glue_by : {Z : Type 0} → BTreeMap (List ℕ) (Vec Rr Z) → Option Labels → List Rr
glue_by addresses None = []
glue_by addresses (Some target) = addresses_at addresses target

abbrev pub forwarded_by : {Z : Type 0} → BTreeMap (List ℕ) (Vec Rr Z) → Rr → ForwardNsValue
forwarded_by addresses ns = record { ns = ns; glue = glue_by addresses (read_as type_ns ns_in ns) }
