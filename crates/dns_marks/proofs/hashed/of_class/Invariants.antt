use Rattle.std.proofs.Common.{◌≡◌, take}
use Rattle.dns_marks.specs.ZoneVerdicts.{of_class}
use Rattle.dns_marks.proofs.hashed.of_class.Given as goal

abbrev pub invariant-loop-found : goal.invariant-loop-found
invariant-loop-found l = l.own.items ≡ of_class l.class.0 (take l.found-index l.records)
