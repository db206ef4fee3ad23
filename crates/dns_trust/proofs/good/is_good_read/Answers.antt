use Rattle.std.proofs.Common.{◌∙◌, sym}
use Rattle.dns_trust.specs.Judge.{judge_of}
use Rattle.dns_trust.proofs.Reading.{good_no_key, good_revoked, good_as_unrevoked}
use Rattle.dns_trust.proofs.good.is_good_read.Goals as goal

pub returns-in_default-clause-good : goal.returns-in_default-clause-good
returns-in_default-clause-good g c =
    good_no_key (judge_of g.V.Verifier.answers c.args.judge.now) c.args.signature.now.set.now c.args.signature.now.sig.now
    c.args.key.now c.args.signature.now.read.now c.requires.read
    (sym c.of.ensures ∙ c.in_default.is)

pub returns-then-is_revoked-clause-good : goal.returns-then-is_revoked-clause-good
returns-then-is_revoked-clause-good g c =
    good_revoked (judge_of g.V.Verifier.answers c.args.judge.now) c.args.signature.now.set.now c.args.signature.now.sig.now
    c.args.key.now c.in-Some.dnskey
    (sym c.of.ensures ∙ c.in-Some.is) (sym c.is_revoked.ensures ∙ c.if-is_revoked.true)

pub returns-clause-good : goal.returns-clause-good
returns-clause-good g c =
    rw (good_as_unrevoked (judge_of g.V.Verifier.answers c.args.judge.now) c.args.signature.now.set.now
    c.args.signature.now.sig.now c.args.key.now c.in-Some.dnskey
    (sym c.of.ensures ∙ c.in-Some.is) (sym c.is_revoked.ensures ∙ c.if-is_revoked.false))
    c.is_good_by_read.ensures.good
