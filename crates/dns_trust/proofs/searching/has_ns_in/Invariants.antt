use Rattle.std.proofs.Common.{◌≡◌, take, false}
use Rattle.std.specs.List.{list_any}
use Rattle.dns_rules.specs.Unsigned.{is_ns_of}
use Rattle.dns_trust.proofs.searching.has_ns_in.Given as goal

-- none of the records so far is one
abbrev pub invariant-loop-found : goal.invariant-loop-found
invariant-loop-found l = list_any (is_ns_of l.name) (take l.found-index l.records) ≡ false
