-- A record is read as it was written (RFC 1035, 5.1; RFC 3597, 5).
use Rattle.std.specs.Prelude.{◌≡◌, Some, Ok}
use Rattle.dns_model.specs.Records.{Rr}
use Rattle.dns_presentation.specs.Presentation.{presentation}
use Rattle.dns_master_file.specs.Reading.{LineValue, line_in}

-- what a line is to say of a record: all but its mark
abbrev pub told : Rr → LineValue
told r = record { owner = r.owner; ttl = Some r.ttl; class = r.class; rtype = r.rtype; rdata = r.rdata }

-- the record's line says the record
abbrev pub IsReadBack : Rr → Type 0
IsReadBack r = line_in (presentation r) ≡ Ok (Some (told r))
