use Rattle.std.proofs.Common.{◌≡◌, ◌+◌, length, map}
use Rattle.dns_query_words.specs.Reading.{blank, drafted}
use Rattle.dns_query_words.proofs.reading.drafted.Given as goal

-- what is known so far, with the words that are left, is what is known of all of them; and words are counted
abbrev pub invariant-words : goal.invariant-words
invariant-words l =
    (drafted l.draft l.at (map (λ w. w.items) l.rest) ≡ drafted blank 0 (map (λ w. w.items) l.words)) ×
    (l.at + length l.rest ≡ length l.words)

abbrev pub decreases-words : goal.decreases-words
decreases-words l = length l.rest
