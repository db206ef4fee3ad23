use Rattle.std.proofs.Common.{◌≡◌, length}
use Rattle.dns_master_file.specs.Fields.{string_in, strings_in}
use Rattle.dns_master_file.specs.Front.{all_in}
use Rattle.dns_master_file.proofs.ItemLemmas.{strings_after}
use Rattle.dns_master_file.proofs.rdata.read_strings.Given as goal

-- the bytes so far, and those of the texts that are left
abbrev pub invariant-strings : goal.invariant-strings
invariant-strings l = strings_after l.bytes.items (all_in string_in l.rest) ≡ strings_in l.from

abbrev pub decreases-strings : goal.decreases-strings
decreases-strings l = length l.rest
