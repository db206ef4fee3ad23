use Rattle.std.proofs.Common.{length, ◌+◌, refl, sym, ap, ◌∙◌}
use Rattle.std.specs.Option.{option_or}
use Rattle.std.specs.List.{zip}
use Rattle.dns_model.specs.declared.proof.Proof.TheVariants.{Secure, Insecure}
use Rattle.dns_marks.specs.SetMarks.{proof_at, deciding_proof, answer_proofs, set_calls}
use Rattle.dns_marks.proofs.SetLemmas.{sought_none, sought_here, sought_more, sought_end, spent_here, spent_end, counted_here, counted_end}
use Rattle.dns_marks.proofs.set_mark.deciding.Goals as goal

pub loop-place-init : goal.loop-place-init
loop-place-init g c = sought_none _ _ _ _ _ _ _ refl

pub returns-in_err-found-clause-most : goal.returns-in_err-found-clause-most
returns-in_err-found-clause-most g c =
    spent_here _ _ _ _ _ _ _ _ _ _ c.loop-place.invariant c.loop-place-test.true (c.requires.answered
    ∙ ap length (sym c.first_signatures-signatures.ensures.first))
    c.first_signatures-signatures.ensures.few c.proof_by_answer.ensures.most

pub returns-in-Some-clause-proof : goal.returns-in-Some-clause-proof
returns-in-Some-clause-proof g c =
    sought_here _ _ _ _ _ _ _ _ _ c.index-signatures-place.result c.index-answers-place.result _ c.loop-place.invariant
    c.loop-place-test.true
    (c.requires.answered ∙ ap length (sym c.first_signatures-signatures.ensures.first)) c.index-signatures-place.is c.index-answers-place.is
    (ap (proof_at Secure c.loop-place.place) (sym c.in_ok-found.ensures.proof) ∙ sym c.proof_at.ensures ∙ c.in-Some.is)
    ∙ ap (λ rs. deciding_proof (answer_proofs (g.V.Verifier.answers c.args.set_answers.now.verifier.now)
    c.args.set_answers.now.moment c.args.set_answers.now.set.now rs c.args.set_answers.now.answers.now))
    c.first_signatures-signatures.ensures.first

pub returns-in-Some-clause-most : goal.returns-in-Some-clause-most
returns-in-Some-clause-most g c =
    spent_here _ _ _ _ _ _ _ _ _ _ c.loop-place.invariant c.loop-place-test.true (c.requires.answered
    ∙ ap length (sym c.first_signatures-signatures.ensures.first))
    c.first_signatures-signatures.ensures.few c.proof_by_answer.ensures.most

pub returns-in-Some-clause-calls : goal.returns-in-Some-clause-calls
returns-in-Some-clause-calls g c =
    counted_here _ _ _ _ _ _ _ _ _ _ c.index-signatures-place.result c.index-answers-place.result _ c.loop-place.invariant
    c.loop-place-test.true
    (c.requires.answered ∙ ap length (sym c.first_signatures-signatures.ensures.first)) c.index-signatures-place.is c.index-answers-place.is
    (ap (proof_at Secure c.loop-place.place) (sym c.in_ok-found.ensures.proof) ∙ sym c.proof_at.ensures
    ∙ c.in-Some.is) c.in_ok-found.ensures.calls
    ∙ ap (λ rs. c.args.steps.now + set_calls (g.V.Verifier.answers c.args.set_answers.now.verifier.now)
    c.args.set_answers.now.moment c.args.set_answers.now.set.now (zip rs c.args.set_answers.now.answers.now))
    c.first_signatures-signatures.ensures.first

pub loop-place-preserved : goal.loop-place-preserved
loop-place-preserved g c =
    sought_more _ _ _ _ _ _ _ _ _ _ _ c.index-signatures-place.result c.index-answers-place.result c.loop-place.invariant
    c.loop-place-test.true
    (c.requires.answered ∙ ap length (sym c.first_signatures-signatures.ensures.first)) c.index-signatures-place.is c.index-answers-place.is
    (ap (proof_at Secure c.loop-place.place) (sym c.in_ok-found.ensures.proof) ∙ sym c.proof_at.ensures ∙ c.in_default.is)
    (c.or-excuse.ensures ∙ ap (option_or c.loop-place.excuse)
    (c.proof_at-in-loop-place.ensures ∙ ap (proof_at Insecure c.loop-place.place) c.in_ok-found.ensures.proof))
    c.proof_by_answer.ensures.most c.in_ok-found.ensures.calls

pub returns-clause-proof : goal.returns-clause-proof
returns-clause-proof g c =
    sought_end _ _ _ _ _ _ _ _ _ c.loop-place.invariant c.loop-place-test.false
    ∙ ap (λ rs. deciding_proof (answer_proofs (g.V.Verifier.answers c.args.set_answers.now.verifier.now)
    c.args.set_answers.now.moment c.args.set_answers.now.set.now rs c.args.set_answers.now.answers.now))
    c.first_signatures-signatures.ensures.first

pub returns-clause-most : goal.returns-clause-most
returns-clause-most g c =
    spent_end _ _ _ _ _ _ _ _ _ c.loop-place.invariant c.loop-place.auto.place-end (c.requires.answered
    ∙ ap length (sym c.first_signatures-signatures.ensures.first))
    c.first_signatures-signatures.ensures.few

pub returns-clause-calls : goal.returns-clause-calls
returns-clause-calls g c =
    counted_end _ _ _ _ _ _ _ _ _ c.loop-place.invariant c.loop-place-test.false
    ∙ ap (λ rs. c.args.steps.now + set_calls (g.V.Verifier.answers c.args.set_answers.now.verifier.now)
    c.args.set_answers.now.moment c.args.set_answers.now.set.now (zip rs c.args.set_answers.now.answers.now))
    c.first_signatures-signatures.ensures.first
