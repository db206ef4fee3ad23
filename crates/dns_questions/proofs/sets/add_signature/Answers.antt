use Rattle.std.proofs.Common.{rules, ◌≡◌, length, true, false, [], ◌∷◌, refl, sym, ap, ◌∙◌}
use Rattle.std.proofs.lemmas.List.{nil_from_length}
use Rattle.dns_rules.specs.Marks.{is_skipped, is_skipped_read}
use Rattle.dns_questions.specs.Gathering.{judge_by, steps_of, then_once}
use Rattle.dns_questions.specs.Questions.{of_asking, of_signatures}
use Rattle.dns_questions.proofs.AskingLemmas.{unasked, skipped_first, asking_first}
use Rattle.dns_questions.proofs.OnceLemmas.{step_kept}
use Rattle.dns_questions.proofs.sets.add_signature.Goals as goal

pub returns-in_default : goal.returns-in_default
returns-in_default c = λ more.
    let skipped : is_skipped c.args.query.now c.args.set.now c.args.sig.now ≡ true =
    ap (is_skipped_read c.args.query.now c.args.set.now) (sym c.of.ensures ∙ c.in_default.is) in
    ap (then_once c.args.into.now)
    (sym (skipped_first (judge_by c.args.context.now) (steps_of c.args.context.now) c.args.query.now c.args.set.now
    c.args.sig.now more c.args.asked.now skipped))

pub returns-then-is_skipped_read : goal.returns-then-is_skipped_read
returns-then-is_skipped_read c = λ more.
    let skipped : is_skipped c.args.query.now c.args.set.now c.args.sig.now ≡ true =
    ap (is_skipped_read c.args.query.now c.args.set.now) (sym c.of.ensures ∙ c.in-Some.is)
    ∙ sym c.is_skipped_read.ensures ∙ c.if-is_skipped_read.true in
    ap (then_once c.args.into.now)
    (sym (skipped_first (judge_by c.args.context.now) (steps_of c.args.context.now) c.args.query.now c.args.set.now
    c.args.sig.now more c.args.asked.now skipped))

pub returns-in_default-split_first : goal.returns-in_default-split_first
returns-in_default-split_first c = λ more.
    let empty : length c.args.asked.now ≡ 0 = search rules in
    let none : c.args.asked.now ≡ [] = nil_from_length c.args.asked.now empty in
    ap (λ asks. then_once c.args.into.now (of_signatures (judge_by c.args.context.now) (steps_of c.args.context.now)
    c.args.query.now c.args.set.now more asks)) none
    ∙ ap (then_once c.args.into.now)
    (unasked (judge_by c.args.context.now) (steps_of c.args.context.now) c.args.query.now c.args.set.now more
    ∙ sym (unasked (judge_by c.args.context.now) (steps_of c.args.context.now) c.args.query.now c.args.set.now (c.args.sig.now ∷ more)))
    ∙ ap (λ asks. then_once c.args.into.now (of_signatures (judge_by c.args.context.now) (steps_of c.args.context.now)
    c.args.query.now c.args.set.now (c.args.sig.now ∷ more) asks)) (sym none)

pub returns : goal.returns
returns c = λ more.
    let own : is_skipped c.args.query.now c.args.set.now c.args.sig.now ≡ false =
    ap (is_skipped_read c.args.query.now c.args.set.now) (sym c.of.ensures ∙ c.in-Some.is)
    ∙ sym c.is_skipped_read.ensures ∙ c.if-is_skipped_read.false in
    let cut : c.args.asked.now ≡ c.in-Some-split_first.ask.now ∷ c.in-Some-split_first.others.now = search rules in
    step_kept c.args.into.now c.add_asked.new.into _
    (of_asking (judge_by c.args.context.now) (steps_of c.args.context.now) c.args.set.now (c.args.sig.now, c.in-Some-split_first.ask.now))
    (of_signatures (judge_by c.args.context.now) (steps_of c.args.context.now) c.args.query.now c.args.set.now
    (c.args.sig.now ∷ more) c.args.asked.now)
    (of_signatures (judge_by c.args.context.now) (steps_of c.args.context.now) c.args.query.now c.args.set.now more
    c.in-Some-split_first.others.now)
    (ap (of_signatures (judge_by c.args.context.now) (steps_of c.args.context.now) c.args.query.now c.args.set.now
    (c.args.sig.now ∷ more)) cut
    ∙ asking_first (judge_by c.args.context.now) (steps_of c.args.context.now) c.args.query.now c.args.set.now c.args.sig.now
    more c.in-Some-split_first.ask.now c.in-Some-split_first.others.now own)
    c.in_ok-add_asked.ensures refl
