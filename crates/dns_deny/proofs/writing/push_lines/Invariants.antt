use Rattle.std.proofs.Common.{◌≡◌, ◌++◌, drop}
use Rattle.std.specs.List.{flat_map}
use Rattle.dns_deny.specs.DenialLines.{denial_line}
use Rattle.dns_deny.proofs.writing.push_lines.Given as goal

-- the lines so far, and those of the questions that are left, are those of all
abbrev pub invariant-loop-line : goal.invariant-loop-line
invariant-loop-line l =
    l.into.items ++ flat_map (denial_line l.store l.moment) (drop l.line-index l.lines)
    ≡ l.initial.into.items ++ flat_map (denial_line l.store l.moment) l.lines
