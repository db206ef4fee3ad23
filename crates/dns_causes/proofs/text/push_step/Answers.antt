use Rattle.std.proofs.Common.{rules, ◌≡◌, length, ◌∷◌, ap, ◌∙◌}
use Rattle.std.specs.Option.{option_map}
use Rattle.std.proofs.lemmas.List.{length-map}
use Rattle.dns_cache.specs.Kinds.{kind_value}
use Rattle.dns_causes.specs.Values.{kinds_of}
use Rattle.dns_causes.proofs.TextLemmas.{line_more, no_causes, no_sets}
use Rattle.dns_causes.proofs.text.push_step.Goals as goal

pub returns-in_default-split_first : goal.returns-in_default-split_first
returns-in_default-split_first c =
    let empty : length c.sets.right.now ≡ 0 = search rules in
    let none = length-map c.sets.right.now (option_map kind_value) ∙ empty in
    no_causes c.sets.into.items _ c.args.step c.sets.left.now (kinds_of c.sets.right.now) none
    c.sets.invariant

pub sets-preserved : goal.sets-preserved
sets-preserved c =
    let cut : c.sets.left.now ≡ c.in-Some.set.now ∷ c.in-Some.more.now = search rules in
    let first : c.sets.right.now ≡ c.in-Some-split_first.cause.now ∷ c.in-Some-split_first.others.now = search rules in
    line_more c.sets.into.items _ c.args.step c.push_why.new.into.items c.sets.left.now c.in-Some.more.now
    (kinds_of c.sets.right.now)
    (kinds_of c.in-Some-split_first.others.now) c.in-Some.set.now
    (option_map kind_value c.in-Some-split_first.cause.now) cut (ap kinds_of first)
    c.in_ok-push_why.ensures c.sets.invariant

pub returns : goal.returns
returns c =
    let none : length c.sets.left.now ≡ 0 = search rules in
    no_sets c.sets.into.items _ c.args.step c.sets.left.now (kinds_of c.sets.right.now) none
    c.sets.invariant
