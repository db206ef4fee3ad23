use Rattle.std.proofs.Common.{◌≡◌, true, Some, sym, ap, ◌∙◌, arith}
use Rattle.std.proofs.lemmas.Bool.Decides.{nat_tests}
use Rattle.dns_model.specs.Shapes.{Window, window_in, windows_in}
use Rattle.dns_presentation.specs.TypeLists.{is_shortest}
use Rattle.dns_presentation.proofs.ListLemmas.{bitmap_rest, types_after, types_more}
use Rattle.dns_presentation.proofs.type_lists.types_of.Goals as goal

pub windows-preserved : goal.windows-preserved
windows-preserved c =
    let seen = c.windows.types.items in
    let rest = c.windows.rest.now in
    let after = c.in-Some.after.now in
    let window : Window = record { number = c.in-Some.number; bits = c.in-Some.bits.now } in
    let found : window_in rest ≡ Some (window, after) = sym c.in-Some.ensures.window in
    let isnt = c.if-bits-eq0.false in
    let shortest : is_shortest window ≡ true = grind (arith, nat_tests, isnt) in
    let bitmap = c.windows.invariant.1 in
    let more = types_more seen rest window after found bitmap shortest in
    let pushed = ap (λ types. types_after types (windows_in after after)) c.in_ok-push_window.ensures in
    (pushed ∙ sym more ∙ c.windows.invariant.0, bitmap_rest rest window after found bitmap)
