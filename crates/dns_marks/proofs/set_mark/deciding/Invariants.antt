use Rattle.dns_marks.proofs.SetLemmas.{Sought}
use Rattle.dns_marks.proofs.set_mark.deciding.Given as goal

-- no signature so far is Secure, the first Insecure one is known, and two steps were taken for each at the most
abbrev pub invariant-loop-place : goal.invariant-loop-place
invariant-loop-place g l =
    Sought (g.V.Verifier.answers l.set_answers.verifier.now) l.set_answers.moment l.set_answers.set.now l.signatures
    l.answers l.place l.excuse l.initial.steps l.steps
