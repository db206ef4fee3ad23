use Rattle.std.proofs.Common.{take}
use Rattle.std.specs.Option.{option_copied}
use Rattle.dns_aggressive.specs.Reaching.{IsBest}
use Rattle.dns_aggressive.proofs.nsec_search.best_of.Given as goal

-- the best so far
abbrev pub invariant-loop-position : goal.invariant-loop-position
invariant-loop-position l =
    IsBest l.run l.now l.name (take l.position-index l.positions) (option_copied l.best)
