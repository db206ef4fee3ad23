use Rattle.dns_model.specs.declared.proof.Proof.TheVariants.{Insecure}
use Rattle.dns_rules.specs.Derivation.{proof_eq}
use Rattle.dns_marks.proofs.KeyLemmas.{AllFrom}
use Rattle.dns_marks.proofs.signature_keys.are_insecure.Given as goal

-- all keys so far are Insecure
abbrev pub invariant-loop-key : goal.invariant-loop-key
invariant-loop-key l = AllFrom (λ key. proof_eq key.proof Insecure) l.keys l.key-index
