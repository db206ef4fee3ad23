use Rattle.std.proofs.Common.{rules, ◌≡◌, length, [], ◌∷◌, ap, ◌∙◌}
use Rattle.std.proofs.lemmas.List.{nil_from_length}
use Rattle.dns_questions.specs.Gathering.{judge_by, steps_of}
use Rattle.dns_questions.specs.Questions.{of_set, of_sets}
use Rattle.dns_questions.proofs.AskingLemmas.{entryless}
use Rattle.dns_questions.proofs.OnceLemmas.{step_kept, all_kept}
use Rattle.dns_questions.proofs.questions.add_sets.Goals as goal

pub returns-in_default-split_first : goal.returns-in_default-split_first
returns-in_default-split_first c =
    let empty : length c.sets.right.now ≡ 0 = search rules in
    let none : c.sets.right.now ≡ [] = nil_from_length c.sets.right.now empty in
    all_kept c.sets.into _ (of_sets (judge_by c.args.context.now) (steps_of c.args.context.now) c.args.query.now
    c.sets.left.now c.sets.right.now)
    (ap (of_sets (judge_by c.args.context.now) (steps_of c.args.context.now) c.args.query.now c.sets.left.now) none
    ∙ entryless (judge_by c.args.context.now) (steps_of c.args.context.now) c.args.query.now c.sets.left.now) c.sets.invariant

pub sets-preserved : goal.sets-preserved
sets-preserved c =
    let sets : c.sets.left.now ≡ c.in-Some.next.now ∷ c.in-Some.more.now = search rules in
    let entries : c.sets.right.now ≡ c.in-Some-split_first.entry.now ∷ c.in-Some-split_first.others.now = search rules in
    step_kept c.sets.into c.add_set.new.into _
    (of_set (judge_by c.args.context.now) (steps_of c.args.context.now) c.args.query.now c.in-Some.next.now.set
    c.in-Some-split_first.entry.now.asked)
    (of_sets (judge_by c.args.context.now) (steps_of c.args.context.now) c.args.query.now c.sets.left.now c.sets.right.now)
    (of_sets (judge_by c.args.context.now) (steps_of c.args.context.now) c.args.query.now c.in-Some.more.now
    c.in-Some-split_first.others.now)
    (ap (λ placed. of_sets (judge_by c.args.context.now) (steps_of c.args.context.now) c.args.query.now placed c.sets.right.now) sets
    ∙ ap (of_sets (judge_by c.args.context.now) (steps_of c.args.context.now) c.args.query.now (c.in-Some.next.now ∷ c.in-Some.more.now))
    entries)
    (search rules) c.sets.invariant

pub returns : goal.returns
returns c =
    let empty : length c.sets.left.now ≡ 0 = search rules in
    let none : c.sets.left.now ≡ [] = nil_from_length c.sets.left.now empty in
    all_kept c.sets.into _ (of_sets (judge_by c.args.context.now) (steps_of c.args.context.now) c.args.query.now
    c.sets.left.now c.sets.right.now)
    (ap (λ placed. of_sets (judge_by c.args.context.now) (steps_of c.args.context.now) c.args.query.now placed c.sets.right.now) none)
    c.sets.invariant
