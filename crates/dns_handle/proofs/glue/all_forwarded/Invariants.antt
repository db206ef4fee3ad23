use Rattle.std.proofs.Common.{◌≡◌, take, map}
use Rattle.std.specs.List.{filter}
use Rattle.dns_handle.specs.Responses.{is_ns}
use Rattle.dns_handle.specs.Glue.{forwarded_by}
use Rattle.dns_handle.proofs.glue.all_forwarded.Given as goal

-- the NS records so far, with their addresses
abbrev pub invariant-loop-next : goal.invariant-loop-next
invariant-loop-next l = l.all.items ≡ map (forwarded_by l.addresses) (filter is_ns (take l.next-index l.section))
