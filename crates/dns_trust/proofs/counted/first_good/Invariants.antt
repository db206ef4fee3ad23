use Rattle.dns_trust.specs.Judge.{judge_of}
use Rattle.dns_trust.specs.SetSignatures.{IsBuilt, is_good_of}
use Rattle.dns_trust.proofs.Counts.{Tried}
use Rattle.dns_trust.proofs.counted.first_good.Given as goal

-- the keys so far are counted, and the search goes on among those that are left
abbrev pub invariant-loop-key : goal.invariant-loop-key
invariant-loop-key g l =
    Tried (is_good_of (judge_of g.V.Verifier.answers l.judge) l.signature) l.signature.read.now.signer l.keys l.key-index
    l.counts × IsBuilt l.signature l.built
