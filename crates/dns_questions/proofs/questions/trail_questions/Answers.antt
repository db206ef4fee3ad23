use Rattle.std.proofs.Common.{◌≡◌, [], ap, ◌∙◌}
use Rattle.std.specs.List.{flat_map}
use Rattle.dns_evidence.specs.Listing.{answers_of}
use Rattle.dns_model.specs.Chains.{judge}
use Rattle.dns_questions.specs.Gathering.{then_once}
use Rattle.dns_questions.specs.Questions.{of_step, each_once}
use Rattle.dns_questions.proofs.OnceLemmas.{once_all}
use Rattle.dns_questions.proofs.questions.trail_questions.Goals as goal

pub returns : goal.returns
returns c =
    let j = judge (answers_of c.args.verifier.now) [] c.args.now in
    let told = c.deref.result.now in
    let steps : told ≡ c.args.trail.now = c.deref.ensures.value ∙ c.trail.view_is in
    c.into_all.ensures ∙ c.in_ok-add_steps.ensures
    ∙ ap (λ all. then_once all (flat_map (of_step j told) told)) c.new-into.ensures
    ∙ once_all (flat_map (of_step j told) told)
    ∙ ap (λ trail. each_once [] (flat_map (of_step j trail) trail)) steps
