use Rattle.std.proofs.Common.{rules, ◌≡◌, length, [], ap, ◌∙◌}
use Rattle.std.proofs.lemmas.List.{nil_from_length}
use Rattle.dns_questions.specs.Gathering.{judge_by, steps_of}
use Rattle.dns_questions.specs.Questions.{of_signatures}
use Rattle.dns_questions.proofs.AskingLemmas.{signatureless}
use Rattle.dns_questions.proofs.OnceLemmas.{all_kept}
use Rattle.dns_questions.proofs.sets.add_signatures.Goals as goal

pub returns : goal.returns
returns c =
    let empty : length c.signatures.left.now ≡ 0 = search rules in
    let none : c.signatures.left.now ≡ [] = nil_from_length c.signatures.left.now empty in
    all_kept c.signatures.into _ (of_signatures (judge_by c.args.context.now) (steps_of c.args.context.now) c.args.query.now
    c.args.set.now c.signatures.left.now c.signatures.asks.now)
    (ap (λ rs. of_signatures (judge_by c.args.context.now) (steps_of c.args.context.now) c.args.query.now c.args.set.now rs
    c.signatures.asks.now) none ∙ signatureless (judge_by c.args.context.now) (steps_of c.args.context.now)
    c.args.query.now c.args.set.now c.signatures.asks.now)
    c.signatures.invariant
