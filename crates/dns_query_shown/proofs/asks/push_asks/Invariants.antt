use Rattle.std.proofs.Common.{◌≡◌, ◌++◌, drop}
use Rattle.std.specs.List.{flat_map}
use Rattle.dns_query_shown.specs.Asks.{ask_line}
use Rattle.dns_query_shown.proofs.asks.push_asks.Given as goal

-- what is written so far, and the lines of what is left, are those of all
abbrev pub invariant-loop-note : goal.invariant-loop-note
invariant-loop-note l =
    l.into.items ++ flat_map ask_line (drop l.note-index l.notes) ≡ l.initial.into.items ++ flat_map ask_line l.notes
