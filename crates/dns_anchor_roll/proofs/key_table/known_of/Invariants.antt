use Rattle.std.proofs.Common.{◌≡◌, ℕ, List, take}
use Rattle.dns_anchor_roll.specs.FollowedKeys.{is_given}
use Rattle.dns_anchor_roll.specs.Tables.{standing_in}
use Rattle.dns_anchor_roll.proofs.Tables.{given_standing}
use Rattle.dns_anchor_roll.proofs.key_table.known_of.Given as goal

-- the keys so far are trusted
abbrev pub invariant-loop-rdata : goal.invariant-loop-rdata
invariant-loop-rdata l = (q : List ℕ) → standing_in l.known q ≡ given_standing (is_given (take l.rdata-index l.given) q)
