use Rattle.std.proofs.Common.{◌++◌, ◌*◌, sym, ap, ◌∙◌, append-nil}
use Rattle.std.proofs.lemmas.List.{append_assoc}
use Rattle.dns_presentation.specs.TypeLists.{bit_types, types_below}
use Rattle.dns_presentation.proofs.ListLemmas.{below_more, below_none}
use Rattle.dns_presentation.proofs.type_lists.push_window.Goals as goal

pub loop-place-init : goal.loop-place-init
loop-place-init c =
    let none = below_none (c.args.number * 256) c.args.bits.now in
    sym (ap (λ types. c.args.types.now.items ++ types) none ∙ append-nil c.args.types.now.items)

pub loop-place-preserved : goal.loop-place-preserved
loop-place-preserved c =
    let first = c.args.number * 256 in
    let place = c.loop-place.place in
    c.in_ok-push_bit.ensures
    ∙ ap (λ types. types ++ bit_types first c.args.bits.now place) c.loop-place.invariant
    ∙ append_assoc c.args.types.now.items (types_below first c.args.bits.now place)
    (bit_types first c.args.bits.now place)
    ∙ ap (λ types. c.args.types.now.items ++ types) (sym (below_more first c.args.bits.now place))
