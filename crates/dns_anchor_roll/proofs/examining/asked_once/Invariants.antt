use Rattle.std.proofs.Common.{◌≡◌, take}
use Rattle.std.specs.List.{filter}
use Rattle.dns_trust.specs.Delegating.{shown}
use Rattle.dns_anchor_roll.specs.Findings.{is_asked}
use Rattle.dns_anchor_roll.specs.Tables.{is_trusted, standing_in}
use Rattle.dns_anchor_roll.proofs.examining.asked_once.Given as goal

-- those so far
abbrev pub invariant-loop-next : goal.invariant-loop-next
invariant-loop-next l = shown l.all.items ≡ filter (is_asked l.zone (λ key. is_trusted (standing_in l.table.known key)) l.asked) (take l.next-index l.records)
