use Rattle.std.proofs.Common.{◌≡◌}
use Rattle.dns_rules.specs.ChainedSets.{chains_of}
use Rattle.dns_marking.proofs.marking.secure_chains.Given as goal

abbrev pub invariant-loop-judged : goal.invariant-loop-judged
invariant-loop-judged l = l.chains.items ≡ chains_of l.yielded
