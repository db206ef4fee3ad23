use Rattle.std.proofs.Common.{◌≡◌, ◌++◌, map}
use Rattle.dns_model.specs.SoundAnswers.{in_section}
use Rattle.dns_rules.specs.Asking.{judged_at}
use Rattle.dns_outcome.proofs.grouping.place_all.Given as goal

abbrev pub invariant-loop-set : goal.invariant-loop-set
invariant-loop-set l = l.into.items ≡ l.initial.into.items ++ judged_at l.depth (map (in_section l.section) l.yielded)
