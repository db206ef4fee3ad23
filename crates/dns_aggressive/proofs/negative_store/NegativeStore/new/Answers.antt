use Rattle.std.proofs.Common.{sym, subst}
use Rattle.dns_aggressive.specs.Flags.{IsStored}
use Rattle.dns_aggressive.proofs.Learned.{stored_none}
use Rattle.dns_aggressive.proofs.negative_store.NegativeStore.new.Goals as goal

pub invariant_of-result : goal.invariant_of-result
invariant_of-result c = subst IsStored (sym c.new.ensures) stored_none
