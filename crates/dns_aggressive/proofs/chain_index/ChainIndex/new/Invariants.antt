use Rattle.std.proofs.Common.{◌≤◌, length, drop}
use Rattle.dns_aggressive.specs.Chains.{AreIndexed}
use Rattle.dns_aggressive.proofs.chain_index.ChainIndex.new.Given as goal

-- the chains from this place on
abbrev pub invariant-chains : goal.invariant-chains
invariant-chains l = record {
  indexed : AreIndexed l.index (drop l.place l.chains);
  within : l.place ≤ length l.chains;
}

abbrev pub decreases-chains : goal.decreases-chains
decreases-chains l = l.place
