use Rattle.std.proofs.Common.{◌≡◌, length}
use Rattle.dns_master_file.specs.Fields.{type_first}
use Rattle.dns_master_file.specs.Front.{all_in}
use Rattle.dns_master_file.proofs.ItemLemmas.{types_after}
use Rattle.dns_master_file.proofs.rdata.listed_types.Given as goal

-- the types so far, and those that are left
abbrev pub invariant-types : goal.invariant-types
invariant-types l = types_after l.types.items (all_in type_first l.rest) ≡ all_in type_first l.from

abbrev pub decreases-types : goal.decreases-types
decreases-types l = length l.rest
