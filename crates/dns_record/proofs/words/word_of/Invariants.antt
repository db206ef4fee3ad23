use Rattle.std.proofs.Common.{◌≡◌, drop, map}
use Rattle.dns_record.specs.Words.{own_word}
use Rattle.dns_record.proofs.words.word_of.Given as goal

-- the row that is sought stands among the rows that are left
abbrev pub invariant-loop-row : goal.invariant-loop-row
invariant-loop-row l =
    own_word (map (λ row. (row.0, row.1.now)) (drop l.row-index l.rows)) l.number
    ≡ own_word (map (λ row. (row.0, row.1.now)) l.rows) l.number
