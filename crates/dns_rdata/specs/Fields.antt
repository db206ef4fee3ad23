-- The fields of the code, as those of the definitions; its parts, which only private functions read, too.
use Rattle.dns_model.specs.Shapes as shape
use Rattle.dns_rdata.specs.declared.shape.Field.{Field}
use Rattle.dns_rdata.specs.declared.shape.Field.TheVariants.{Octets, DomainName, CharacterString, TypeBitmap, Remainder}
use Rattle.dns_rdata.specs.declared.part.Part.{Part}
use Rattle.dns_rdata.specs.declared.part.Part.TheVariants.{Plain, Named}

abbrev pub field_value : Field → shape.Field
field_value (Octets n) = shape.Octets n
field_value DomainName = shape.DomainName
field_value CharacterString = shape.CharacterString
field_value TypeBitmap = shape.TypeBitmap
field_value Remainder = shape.Remainder

abbrev pub part_value : Part → shape.Part
part_value (Plain bytes) = shape.Plain bytes.now
part_value (Named name) = shape.Named name
