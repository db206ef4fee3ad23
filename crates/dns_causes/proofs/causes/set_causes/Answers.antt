use Rattle.std.proofs.Common.{rules, ◌≡◌, length, ◌∷◌, [], ap, ◌∙◌}
use Rattle.std.specs.Option.{option_map}
use Rattle.std.proofs.lemmas.List.{map-append}
use Rattle.dns_model.specs.SoundAnswers.{told_by}
use Rattle.dns_cache.specs.Kinds.{kind_value}
use Rattle.dns_causes.specs.Contexts.{context_by}
use Rattle.dns_causes.specs.Values.{kinds_of}
use Rattle.dns_causes.proofs.StepLemmas.{all_causes, all_given, entered_causes, entered_given, found_more}
use Rattle.dns_causes.proofs.causes.set_causes.Goals as goal

pub returns-in_default-split_first-clause-causes : goal.returns-in_default-split_first-clause-causes
returns-in_default-split_first-clause-causes g c =
    let gr = context_by g.V.Verifier.answers c.args.context.now in
    let none : length c.sets.right.now ≡ 0 = search rules in
    entered_causes gr c.args.context.now.given.now (told_by c.args.message.now) c.args.placed.now c.args.entries.now
    c.sets.left.now c.sets.right.now (kinds_of c.sets.causes.items) c.sets.given c.sets.invariant none

pub returns-in_default-split_first-clause-given : goal.returns-in_default-split_first-clause-given
returns-in_default-split_first-clause-given g c =
    let gr = context_by g.V.Verifier.answers c.args.context.now in
    let none : length c.sets.right.now ≡ 0 = search rules in
    entered_given gr c.args.context.now.given.now (told_by c.args.message.now) c.args.placed.now c.args.entries.now
    c.sets.left.now c.sets.right.now (kinds_of c.sets.causes.items) c.sets.given c.sets.invariant none

pub sets-preserved : goal.sets-preserved
sets-preserved g c =
    let gr = context_by g.V.Verifier.answers c.args.context.now in
    let cut : c.sets.left.now ≡ c.in-Some.next.now ∷ c.in-Some.more.now = search rules in
    let first : c.sets.right.now ≡ c.in-Some-split_first.entry.now ∷ c.in-Some-split_first.others.now = search rules in
    let pushed =
    ap kinds_of c.in_ok-push.ensures.items
    ∙ map-append (option_map kind_value) c.sets.causes.items (c.in_ok-cause.cause ∷ []) in
    found_more gr c.args.context.now.given.now (told_by c.args.message.now) c.args.placed.now c.args.entries.now
    c.sets.left.now c.sets.right.now (kinds_of c.sets.causes.items) c.sets.given c.sets.invariant
    c.in-Some.next.now c.in-Some.more.now c.in-Some-split_first.entry.now c.in-Some-split_first.others.now
    (option_map kind_value c.in_ok-cause.cause) _ c.in_ok-with_one.with_one cut first c.in_ok-cause.ensures pushed
    c.in_ok-with_one.ensures

pub returns-clause-causes : goal.returns-clause-causes
returns-clause-causes g c =
    let gr = context_by g.V.Verifier.answers c.args.context.now in
    let none : length c.sets.left.now ≡ 0 = search rules in
    all_causes gr c.args.context.now.given.now (told_by c.args.message.now) c.args.placed.now c.args.entries.now
    c.sets.left.now c.sets.right.now (kinds_of c.sets.causes.items) c.sets.given c.sets.invariant none

pub returns-clause-given : goal.returns-clause-given
returns-clause-given g c =
    let gr = context_by g.V.Verifier.answers c.args.context.now in
    let none : length c.sets.left.now ≡ 0 = search rules in
    all_given gr c.args.context.now.given.now (told_by c.args.message.now) c.args.placed.now c.args.entries.now
    c.sets.left.now c.sets.right.now (kinds_of c.sets.causes.items) c.sets.given c.sets.invariant none
