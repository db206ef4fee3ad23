use Rattle.std.proofs.Common.{◌≡◌, length, true}
use Rattle.dns_model.specs.Shapes.{windows_in, is_bitmap}
use Rattle.dns_presentation.specs.TypeLists.{types_in}
use Rattle.dns_presentation.proofs.ListLemmas.{types_after}
use Rattle.dns_presentation.proofs.type_lists.types_of.Given as goal

-- the types so far and those of the windows that are left are those of all; what is left is a bitmap
abbrev pub invariant-windows : goal.invariant-windows
invariant-windows l =
    (types_after l.types.items (windows_in l.rest l.rest) ≡ types_in l.bytes) × (is_bitmap l.rest ≡ true)

abbrev pub decreases-windows : goal.decreases-windows
decreases-windows l = length l.rest
