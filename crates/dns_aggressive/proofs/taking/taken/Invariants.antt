use Rattle.std.proofs.Common.{◌≡◌, take}
use Rattle.std.specs.List.{filter_map}
use Rattle.dns_aggressive.specs.Taking.{taken_as}
use Rattle.dns_aggressive.proofs.taking.taken.Given as goal

abbrev pub invariant-loop-met : goal.invariant-loop-met
invariant-loop-met l = l.taken.items
    ≡ filter_map (taken_as l.response.chains l.now) (take l.met-index l.response.message.authorities)
