use Rattle.std.proofs.Common.{◌≡◌, ◌++◌, ◌∷◌, [], length, rules, sym, ◌∙◌}
use Rattle.std.proofs.lemmas.List.{nil_from_length}
use Rattle.dns_validation.proofs.MadePlaceLemmas.{walked_all, walked_past, walked_to}
use Rattle.dns_validation.proofs.made.walked_origin.Goals as goal

pub all-preserved : goal.all-preserved
all-preserved c =
    let cut : c.all.all.now ≡ c.in-Some.earlier.now ++ c.in-Some.made.now ∷ [] = search rules in
    c.all.invariant ∙ walked_past c.all.all.now c.in-Some.earlier.now c.in-Some.made.now c.args.entry.now cut
    (sym c.has_key.ensures ∙ c.if-has_key.false)

pub returns-then-has_key : goal.returns-then-has_key
returns-then-has_key c =
    let cut : c.all.all.now ≡ c.in-Some.earlier.now ++ c.in-Some.made.now ∷ [] = search rules in
    c.origin_by.ensures
    ∙ sym (c.all.invariant ∙ walked_to c.all.all.now c.in-Some.earlier.now c.in-Some.made.now c.args.entry.now cut
    (sym c.has_key.ensures ∙ c.if-has_key.true))

pub returns : goal.returns
returns c =
    let none : length c.all.all.now ≡ 0 = search rules in
    sym (c.all.invariant ∙ walked_all c.all.all.now c.args.entry.now (nil_from_length c.all.all.now none))
