use Rattle.std.proofs.Common.{◌≡◌, drop, map}
use Rattle.dns_record.specs.Words.{own_number}
use Rattle.dns_master_file.proofs.codes.number_of.Given as goal

-- the row that is sought stands among the rows that are left
abbrev pub invariant-loop-row : goal.invariant-loop-row
invariant-loop-row l =
    own_number (map (λ row. (row.0, row.1.now)) (drop l.row-index l.rows)) l.word
    ≡ own_number (map (λ row. (row.0, row.1.now)) l.rows) l.word
