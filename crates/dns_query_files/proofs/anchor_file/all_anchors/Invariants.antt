use Rattle.std.proofs.Common.{◌≡◌, ◌+◌, ◌≤◌, ◌^◌}
use Rattle.std.specs.Option.{option_copied}
use Rattle.dns_query_files.specs.AnchorFiles.{anchors_from, with_before}
use Rattle.dns_query_files.specs.TextLines.{lines_left, lines_of}
use Rattle.dns_query_files.proofs.AnchorLemmas.{size_left}
use Rattle.dns_query_files.proofs.anchor_file.all_anchors.Given as goal

-- the records so far, and those of the lines that are left; and each line has a byte or an end
abbrev pub invariant-lines : goal.invariant-lines
invariant-lines l =
    (with_before l.all.items (anchors_from l.number (lines_left (option_copied l.rest)))
    ≡ anchors_from 1 (lines_of l.text)) ×
    (l.number + size_left (option_copied l.rest) ≤ 2 ^ 32 + 1)

abbrev pub decreases-lines : goal.decreases-lines
decreases-lines l = size_left (option_copied l.rest)
