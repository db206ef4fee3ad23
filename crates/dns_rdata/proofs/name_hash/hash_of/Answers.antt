use Rattle.std.proofs.Common.{ℕ, ◌++◌, List, sym, ap, ◌∙◌}
use Rattle.sha1.specs.Sha1.{sha1}
use Rattle.dns_model.proofs.HashTextLemmas.{hash_first, hash_more}
use Rattle.dns_rdata.proofs.name_hash.hash_of.Goals as goal

pub loop-round-init : goal.loop-round-init
loop-round-init c = c.sha1_of-hash.ensures ∙ sym (hash_first c.args.salt.now c.args.bytes.now)

pub loop-round-preserved : goal.loop-round-preserved
loop-round-preserved c =
    c.sha1_of-hash-in-loop-round.ensures ∙ ap (λ (h : List ℕ). sha1 (h ++ c.args.salt.now)) (c.as_slice.ensures ∙ c.loop-round.invariant)
    ∙ sym (hash_more c.args.salt.now c.args.bytes.now c.loop-round._round)
