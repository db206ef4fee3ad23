use Rattle.std.proofs.Common.{◌≡◌, take}
use Rattle.dns_rules.specs.ChainedSets.{bare}
use Rattle.dns_outcome.proofs.ExpansionLemmas.{fewest}
use Rattle.dns_outcome.proofs.answering.fewest_labels.Given as goal

abbrev pub invariant-loop-set : goal.invariant-loop-set
invariant-loop-set l = l.fewest ≡ fewest l.query (bare (take l.set-index l.sets))
