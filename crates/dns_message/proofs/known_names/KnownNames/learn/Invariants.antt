use Rattle.std.proofs.Common.{◌≡◌, ◌++◌}
use Rattle.dns_message.specs.KnownNames.{AreKnown}
use Rattle.dns_message.proofs.known_names.KnownNames.learn.Given as goal

abbrev pub invariant-loop-one : goal.invariant-loop-one
invariant-loop-one l = record {
  known : AreKnown l.bytes l.self;
  grown : l.self.spelled.items ≡ l.fn.self.spelled.items ++ l.name;
}
