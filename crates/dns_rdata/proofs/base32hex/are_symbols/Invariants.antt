use Rattle.std.proofs.Common.{◌≡◌, length}
use Rattle.std.specs.List.{list_all}
use Rattle.dns_model.specs.Nsec3Hash.{is_symbol}
use Rattle.dns_rdata.proofs.base32hex.are_symbols.Given as goal

-- what is left decides
abbrev pub invariant-symbols : goal.invariant-symbols
invariant-symbols l = list_all is_symbol l.rest ≡ list_all is_symbol l.text

abbrev pub decreases-symbols : goal.decreases-symbols
decreases-symbols l = length l.rest
