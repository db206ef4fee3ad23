use Rattle.std.proofs.Common.{◌≡◌, ◌+◌, ◌∷◌, ◌++◌, drop, sym, ap, ◌∙◌}
use Rattle.std.specs.List.{filter_map}
use Rattle.std.specs.Option.{option_to_list}
use Rattle.std.proofs.lemmas.List.{at_drop_more, at_drop_all}
use Rattle.dns_trust.specs.Delegating.{shown}
use Rattle.dns_trust.proofs.Shown.{shown_at, shown_end, shown_within}
use Rattle.dns_questions.specs.Gathering.{judge_by}
use Rattle.dns_questions.specs.Questions.{question_of}
use Rattle.dns_questions.proofs.OnceLemmas.{step_kept, all_kept, found_part}
use Rattle.dns_questions.proofs.keys.add_with_counted.Goals as goal

pub loop-key-preserved : goal.loop-key-preserved
loop-key-preserved c =
    let f = (question_of (judge_by c.args.context.now) c.args.signature.now.set.now c.args.signature.now.sig.now) in
    let xs = shown c.args.keys.now in
    let i = c.loop-key.key-index in
    let x = c.key-item.result.now in
    let at = shown_at c.args.keys.now i c.key-item.result c.key-item.is in
    let cut : filter_map f (drop i xs) ≡ option_to_list (f x) ++ filter_map f (drop (i + 1) xs) =
    at_drop_more (filter_map f) xs i x (shown_within c.args.keys.now i c.loop-key-test.true)
    ∙ ap (λ y. filter_map f (y ∷ drop (i + 1) xs)) (sym at) ∙ found_part f x (drop (i + 1) xs) in (
      step_kept c.loop-key.into c.add_with_key.new.into _ (option_to_list (f x)) (filter_map f (drop i xs))
          (filter_map f (drop (i + 1) xs)) cut c.in_ok-add_with_key.ensures.added c.loop-key.invariant.0,
      c.in_ok-add_with_key.ensures.built,
    )

pub returns : goal.returns
returns c =
    let f = (question_of (judge_by c.args.context.now) c.args.signature.now.set.now c.args.signature.now.sig.now) in
    let xs = shown c.args.keys.now in
    all_kept c.loop-key.into _ (filter_map f (drop c.loop-key.key-index xs))
    (at_drop_all (filter_map f) xs c.loop-key.key-index (shown_end c.args.keys.now c.loop-key.key-index c.loop-key-test.false))
    c.loop-key.invariant.0
