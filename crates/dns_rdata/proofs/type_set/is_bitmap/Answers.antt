use Rattle.std.proofs.Common.{◌≡◌, ◌<◌, length, sym, ◌∙◌, arith}
use Rattle.std.proofs.lemmas.Bool.Decides.{nat_tests}
use Rattle.dns_rdata.proofs.WindowLemmas.{rises_start, rises_fail, rises_stop, rises_on, rises_end}
use Rattle.dns_rdata.proofs.type_set.is_bitmap.Goals as goal

pub loop-rest-init : goal.loop-rest-init
loop-rest-init c = rises_start c.args.bytes.now

pub returns-in_default : goal.returns-in_default
returns-in_default c =
    let h : 0 < length c.loop-rest.rest.now = grind (arith, nat_tests) in
    let f = rises_fail c.loop-rest.last c.loop-rest.rest.now h (sym c.in_default.ensures.window) in cc

pub returns-then-not-follows : goal.returns-then-not-follows
returns-then-not-follows c =
    let h : 0 < length c.loop-rest.rest.now = grind (arith, nat_tests) in
    sym (sym c.loop-rest.invariant ∙ rises_stop c.loop-rest.last c.loop-rest.rest.now _ _ c.number-number.result h
    (sym c.in-Some.ensures.window) c.number-number.ensures (sym c.if-not-follows.ensures))

pub loop-rest-preserved : goal.loop-rest-preserved
loop-rest-preserved c =
    let h : 0 < length c.loop-rest.rest.now = grind (arith, nat_tests) in
    sym (rises_on c.loop-rest.last c.loop-rest.rest.now _ _ c.number-number.result h (sym c.in-Some.ensures.window)
    c.number-number.ensures (sym c.if-not-follows.ensures)) ∙ c.loop-rest.invariant

pub returns : goal.returns
returns c =
    let h : length c.loop-rest.rest.now ≡ 0 = grind (arith, nat_tests) in
    let f = rises_end c.loop-rest.last c.loop-rest.rest.now h in cc
