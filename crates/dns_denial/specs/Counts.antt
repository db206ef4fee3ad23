-- How many names a verdict on NSEC3 records hashes at most (RFC 5155, 8.3; RFC 9276, 3.2).
use Rattle.std.specs.Prelude.{ℕ, ◌+◌, Bool, true, ◌||◌, nat_lt, [], ◌∷◌, length, Option, None, Some}
use Rattle.dns_model.specs.Names.{Labels}
use Rattle.dns_model.specs.declared.answered.Answered.{Answered}
use Rattle.dns_model.specs.declared.answered.Answered.TheVariants.{No, Plain, Expanded}
use Rattle.dns_rules.specs.Nsec3Verdict.{Parameters}

-- no name is hashed: no one way to hash names is known, or its iterations are above a limit
abbrev pub is_unhashed : ℕ → ℕ → Option Parameters → Bool
is_unhashed soft hard None = true
is_unhashed soft hard (Some by) = nat_lt hard by.iterations || nat_lt soft by.iterations

-- the name, each name above it and one wildcard; for an answer from a wildcard the name and the next closer name
abbrev pub most_hashes : Labels → Answered → ℕ
most_hashes name No = length name + 2
most_hashes name Plain = 0
most_hashes name (Expanded labels) = 2

-- For private functions alone: the steps of a search for each name above a name, where one takes this many.
unfoldable pub steps_above : ℕ → Labels → ℕ
steps_above most [] = 0
steps_above most (label ∷ above) = most + steps_above most above
