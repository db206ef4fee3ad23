-- For private functions of this crate only: signatures of a set, and by what and when they are tested (RFC 4035, 5.3).
use Rattle.std.specs.Prelude.{ℕ}
use Rattle.dns_model.specs.Keys.{VerifierAnswers}
use Rattle.dns_model.specs.Records.{Rr, RrSet}
use Rattle.dns_marks.specs.declared.tested.Tested.{Tested}
use Rattle.dns_marks.specs.declared.tested.SetAnswers.{SetAnswers}

-- what a definition says of the verifier's answers, the moment, the set and the signature
abbrev pub of_tested : {V X : Type 0} → (V → VerifierAnswers) → Tested V → (VerifierAnswers → ℕ → RrSet → Rr → X) → X
of_tested answers tested says = says (answers tested.verifier.now) tested.moment tested.signature.set.now tested.signature.sig.now

-- what a definition says of the verifier's answers, the moment and the set
abbrev pub of_set_answers : {V X : Type 0} → (V → VerifierAnswers) → SetAnswers V → (VerifierAnswers → ℕ → RrSet → X) → X
of_set_answers answers set_answers says = says (answers set_answers.verifier.now) set_answers.moment set_answers.set.now
