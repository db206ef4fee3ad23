use Rattle.std.proofs.Common.{arith}
use Rattle.dns_marks.proofs.CountLemmas.{two_at_most}
use Rattle.dns_marks.proofs.signature_keys.verify_rrsig_with_keys.Goals as goal

pub returns-clause-two : goal.returns-clause-two
returns-clause-two g c =
    let two = two_at_most (g.V.Verifier.answers c.args.verifier.now) c.args.now c.args.keys.now c.args.set.now c.args.sig.now in
    let most = c.proof_by_keys.ensures.most in
    omega (arith, two, most)
