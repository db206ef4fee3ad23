use Rattle.dns_trust.specs.SetSignatures.{IsBuilt}
use Rattle.dns_marks.proofs.KeyLemmas.{InTurn}
use Rattle.dns_marks.proofs.signature_keys.is_proved.Given as goal

-- no key so far proves the set, the calls so far are counted, and the bytes are kept once they are built
abbrev pub invariant-loop-key : goal.invariant-loop-key
invariant-loop-key g l =
    InTurn (g.V.Verifier.answers l.tested.verifier.now) l.tested.moment l.tested.signature.set.now l.tested.signature.sig.now
    l.keys l.key-index l.initial.steps l.steps
    × IsBuilt l.tested.signature l.built
