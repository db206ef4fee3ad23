use Rattle.std.proofs.Common.{◌≡◌, ◌++◌, drop}
use Rattle.dns_forward_run.specs.Lines.{lines_from}
use Rattle.dns_forward_run.proofs.lines.lines_text.Given as goal

-- the lines so far, and those of the seats that are left, are those of all
abbrev pub invariant-loop-seat : goal.invariant-loop-seat
invariant-loop-seat l = l.text.items ++ lines_from l.seat (drop l.seat l.lines) ≡ lines_from 0 l.lines
