-- For private functions of this crate only: an rdata with the names in it lower-cased.
use Rattle.std.specs.Prelude.{ℕ, List, map, Option, None, Some}
use Rattle.std.specs.List.{concat}
use Rattle.dns_model.specs.Shapes.{Part, canonical_part, parts_in, shape_of}

abbrev pub lowered_parts : Option (List Part) → Option (List ℕ)
lowered_parts None = None
lowered_parts (Some parts) = Some (concat (map canonical_part parts))

-- the canonical parts of an rdata that has its type's shape, joined
abbrev pub lowered_form : ℕ → List ℕ → Option (List ℕ)
lowered_form rtype rdata = lowered_parts (parts_in (shape_of rtype) rdata)
