use Rattle.std.proofs.Common.{◌≡◌, ◌==◌, take}
use Rattle.std.specs.List.{list_any}
use Rattle.dns_session.proofs.lines.has_byte.Given as goal

abbrev pub invariant-loop-next : goal.invariant-loop-next
invariant-loop-next l = l.found ≡ list_any (λ b. b == l.byte) (take l.next-index l.block)
