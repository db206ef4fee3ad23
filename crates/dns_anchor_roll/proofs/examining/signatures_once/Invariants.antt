use Rattle.std.proofs.Common.{◌≡◌, take}
use Rattle.std.specs.List.{filter}
use Rattle.dns_trust.specs.Delegating.{shown}
use Rattle.dns_anchor_roll.specs.Findings.{stands_at}
use Rattle.dns_anchor_roll.proofs.examining.signatures_once.Given as goal

-- those so far
abbrev pub invariant-loop-signature : goal.invariant-loop-signature
invariant-loop-signature l = shown l.all.items ≡ filter (stands_at l.set) (take l.signature-index l.signatures)
