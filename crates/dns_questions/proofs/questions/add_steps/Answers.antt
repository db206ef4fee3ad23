use Rattle.std.proofs.Common.{rules, ◌≡◌, length, [], ◌∷◌, ap}
use Rattle.std.proofs.lemmas.List.{nil_from_length}
use Rattle.std.specs.List.{flat_map}
use Rattle.dns_questions.specs.Gathering.{judge_by, steps_of}
use Rattle.dns_questions.specs.Questions.{of_step}
use Rattle.dns_questions.proofs.OnceLemmas.{step_kept, all_kept}
use Rattle.dns_questions.proofs.questions.add_steps.Goals as goal

pub steps-preserved : goal.steps-preserved
steps-preserved c =
    let f = of_step (judge_by c.args.context.now) (steps_of c.args.context.now) in
    let cut : c.steps.left.now ≡ c.in-Some.step.now ∷ c.in-Some.more.now = search rules in
    step_kept c.steps.into c.add_step.new.into _ (f c.in-Some.step.now) (flat_map f c.steps.left.now)
    (flat_map f c.in-Some.more.now) (ap (flat_map f) cut) c.in_ok-add_step.ensures c.steps.invariant

pub returns : goal.returns
returns c =
    let f = of_step (judge_by c.args.context.now) (steps_of c.args.context.now) in
    let empty : length c.steps.left.now ≡ 0 = search rules in
    let none : c.steps.left.now ≡ [] = nil_from_length c.steps.left.now empty in
    all_kept c.steps.into _ (flat_map f c.steps.left.now) (ap (flat_map f) none) c.steps.invariant
