use Rattle.std.proofs.Common.{◌≡◌, ◌<◌, length, ◌||◌, refl, sym, ap, ◌∙◌, arith}
use Rattle.std.proofs.lemmas.Bool.Decides.{nat_tests}
use Rattle.dns_model.specs.Shapes.{windows_in, window_has}
use Rattle.dns_rdata.specs.Windows.{found_or_has}
use Rattle.dns_rdata.proofs.WindowLemmas.{found_start, found_fail, found_more, found_end}
use Rattle.dns_rdata.proofs.type_set.bitmap_has.Goals as goal

pub loop-rest-init : goal.loop-rest-init
loop-rest-init c = found_start c.args.record_type c.args.bytes.now

pub returns-in_default : goal.returns-in_default
returns-in_default c =
    let h : 0 < length c.loop-rest.rest.now = grind (arith, nat_tests) in
    let f = found_fail c.loop-rest.found c.args.record_type c.loop-rest.rest.now h (sym c.in_default.ensures.window) in cc

pub loop-rest-preserved-then-found : goal.loop-rest-preserved-then-found
loop-rest-preserved-then-found c =
    let h : 0 < length c.loop-rest.rest.now = grind (arith, nat_tests) in
    let f = found_more c.loop-rest.found c.args.record_type c.loop-rest.rest.now _ _ h (sym c.in-Some.ensures.window) in
    let g : c.loop-rest.found ≡ (c.loop-rest.found || window_has c.args.record_type c.in-Some.window) = rw c.if-found.true refl in
    ap (λ found. found_or_has found c.args.record_type (windows_in c.in-Some.after.now c.in-Some.after.now)) g
    ∙ (sym f ∙ c.loop-rest.invariant)

pub loop-rest-preserved : goal.loop-rest-preserved
loop-rest-preserved c =
    let h : 0 < length c.loop-rest.rest.now = grind (arith, nat_tests) in
    let f = found_more c.loop-rest.found c.args.record_type c.loop-rest.rest.now _ _ h (sym c.in-Some.ensures.window) in
    let g : c.has-found.result ≡ (c.loop-rest.found || window_has c.args.record_type c.in-Some.window) =
    rw c.if-found.false c.has-found.ensures in
    ap (λ found. found_or_has found c.args.record_type (windows_in c.in-Some.after.now c.in-Some.after.now)) g
    ∙ (sym f ∙ c.loop-rest.invariant)

pub returns : goal.returns
returns c =
    let h : length c.loop-rest.rest.now ≡ 0 = grind (arith, nat_tests) in
    let f = found_end c.loop-rest.found c.args.record_type c.loop-rest.rest.now h in cc
