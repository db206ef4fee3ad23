-- For private functions of this crate only: the labels of the wildcards that sets were expanded from.
use Rattle.std.specs.Prelude.{ℕ, min, Option, None, Some, if◌then◌else◌}
use Rattle.dns_model.specs.Records.{Question}
use Rattle.dns_rules.specs.MarkedSets.{MarkedSet}
use Rattle.dns_rules.specs.Outcome.{is_expanded_for, decider_labels}

-- the fewer of two numbers
abbrev pub fewer : Option ℕ → Option ℕ → Option ℕ
fewer None others = others
fewer (Some labels) None = Some labels
fewer (Some labels) (Some others) = Some (min labels others)

-- the labels of the signature that decided a set, if the set answers and was expanded
abbrev pub expanded_labels : Question → MarkedSet → Option ℕ
expanded_labels q judged = if is_expanded_for q judged then decider_labels judged else None
