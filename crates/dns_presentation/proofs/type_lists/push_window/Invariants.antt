use Rattle.std.proofs.Common.{◌≡◌, ◌*◌, ◌++◌}
use Rattle.dns_presentation.specs.TypeLists.{types_below}
use Rattle.dns_presentation.proofs.type_lists.push_window.Given as goal

abbrev pub invariant-loop-place : goal.invariant-loop-place
invariant-loop-place l = l.types.items ≡ l.initial.types.items ++ types_below (l.number * 256) l.bits l.place
