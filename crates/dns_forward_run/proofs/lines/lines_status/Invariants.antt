use Rattle.std.proofs.Common.{◌≡◌, drop}
use Rattle.std.specs.List.{list_any}
use Rattle.dns_forward_run.specs.Lines.{is_broken}
use Rattle.dns_forward_run.proofs.lines.lines_status.Given as goal

-- what is left decides
abbrev pub invariant-loop-line : goal.invariant-loop-line
invariant-loop-line l =
    list_any (λ line. is_broken line.end) (drop l.line-index l.lines) ≡ list_any (λ line. is_broken line.end) l.lines
