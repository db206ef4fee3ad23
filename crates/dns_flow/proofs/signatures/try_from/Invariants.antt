use Rattle.std.proofs.Common.{◌≡◌, ◌-◌, drop, length, map}
use Rattle.dns_trust.specs.Verdicts.{verdict_value}
use Rattle.dns_flow.specs.Phases.{first_signatures, try_from}
use Rattle.dns_flow.proofs.signatures.try_from.Given as goal

-- the verdicts so far come to the same phase
abbrev pub invariant-signatures : goal.invariant-signatures
invariant-signatures l =
    try_from l.query l.fn.placed (map verdict_value l.verdicts.items) (drop (length l.verdicts.items) (first_signatures l.fn.placed.set))
    ≡ try_from l.query l.fn.placed (map verdict_value l.fn.verdicts.items)
    (drop (length l.fn.verdicts.items) (first_signatures l.fn.placed.set))

abbrev pub decreases-signatures : goal.decreases-signatures
decreases-signatures l = length (first_signatures l.fn.placed.set) - length l.verdicts.items
