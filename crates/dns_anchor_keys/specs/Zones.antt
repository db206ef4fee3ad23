-- The zones whose key sets are asked for: those of which digests of keys are trust anchors (RFC 4034, 5.1).
use Rattle.std.specs.Prelude.{Bool, true, not, ◌==◌, ◌&&◌, List, [], ◌∷◌, if◌then◌else◌, Option, Some}
use Rattle.std.specs.Option.{option_map_or}
use Rattle.dns_model.specs.Names.{Labels, name_eq}
use Rattle.dns_model.specs.Types.{type_ds}
use Rattle.dns_master_file.specs.Reading.{LineValue}

-- a digest for another zone than the last one before it
abbrev pub is_new_zone : Option Labels → LineValue → Bool
is_new_zone last line = (line.rtype == type_ds) && option_map_or (λ zone. not (name_eq zone line.owner)) last true

-- the zones of digests behind one for this zone, each once for digests that stand one behind another
unfoldable pub zones_from : Option Labels → List LineValue → List Labels
zones_from last [] = []
zones_from last (line ∷ rest) =
    if is_new_zone last line then line.owner ∷ zones_from (Some line.owner) rest else zones_from last rest
