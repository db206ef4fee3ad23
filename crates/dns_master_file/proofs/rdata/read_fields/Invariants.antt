use Rattle.std.proofs.Common.{◌≡◌, length}
use Rattle.dns_master_file.specs.Fields.{fields_in}
use Rattle.dns_master_file.specs.Front.{with_bytes}
use Rattle.dns_master_file.proofs.rdata.read_fields.Given as goal

-- the bytes so far, and those of the fields that are left
abbrev pub invariant-fields : goal.invariant-fields
invariant-fields l = with_bytes l.bytes.items (fields_in l.left l.rest) ≡ fields_in l.fields l.from

abbrev pub decreases-fields : goal.decreases-fields
decreases-fields l = length l.left
