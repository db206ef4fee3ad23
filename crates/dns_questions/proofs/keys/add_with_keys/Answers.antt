use Rattle.std.proofs.Common.{rules, ◌≡◌, length, [], ◌∷◌, ap, ◌∙◌}
use Rattle.std.proofs.lemmas.List.{nil_from_length}
use Rattle.std.specs.List.{filter_map}
use Rattle.std.specs.Option.{option_to_list}
use Rattle.dns_questions.specs.Gathering.{judge_by}
use Rattle.dns_questions.specs.Questions.{question_of}
use Rattle.dns_questions.proofs.OnceLemmas.{step_kept, all_kept, found_part}
use Rattle.dns_questions.proofs.keys.add_with_keys.Goals as goal

pub keys-preserved : goal.keys-preserved
keys-preserved c =
    let f = (question_of (judge_by c.args.context.now) c.args.signature.now.set.now c.args.signature.now.sig.now) in
    let cut : c.keys.left.now ≡ c.in-Some.key.now ∷ c.in-Some.more.now = search rules in (
      step_kept c.keys.into c.add_with_key.new.into _ (option_to_list (f c.in-Some.key.now)) (filter_map f c.keys.left.now)
          (filter_map f c.in-Some.more.now) (ap (filter_map f) cut ∙ found_part f c.in-Some.key.now c.in-Some.more.now)
          c.in_ok-add_with_key.ensures.added c.keys.invariant.0,
      c.in_ok-add_with_key.ensures.built,
    )

pub returns : goal.returns
returns c =
    let f = (question_of (judge_by c.args.context.now) c.args.signature.now.set.now c.args.signature.now.sig.now) in
    let empty : length c.keys.left.now ≡ 0 = search rules in
    let none : c.keys.left.now ≡ [] = nil_from_length c.keys.left.now empty in
    all_kept c.keys.into _ (filter_map f c.keys.left.now) (ap (filter_map f) none) c.keys.invariant.0
