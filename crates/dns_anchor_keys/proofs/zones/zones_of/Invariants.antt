use Rattle.std.proofs.Common.{◌≡◌, ◌++◌, None, length}
use Rattle.std.specs.Option.{option_copied}
use Rattle.dns_anchor_keys.specs.Zones.{zones_from}
use Rattle.dns_anchor_keys.proofs.zones.zones_of.Given as goal

-- the zones so far, and those of the lines that are left
abbrev pub invariant-lines : goal.invariant-lines
invariant-lines l = l.zones.items ++ zones_from (option_copied l.last) l.rest ≡ zones_from None l.initial.rest

abbrev pub decreases-lines : goal.decreases-lines
decreases-lines l = length l.rest
