use Rattle.std.proofs.Common.{◌∙◌, sym}
use Rattle.dns_trust.specs.Judge.{judge_of}
use Rattle.dns_trust.proofs.Reading.{good_invalid, good_unusable, good_accepted}
use Rattle.dns_trust.proofs.good.is_good_by_read.Goals as goal

pub returns-then-not-is_valid-clause-good : goal.returns-then-not-is_valid-clause-good
returns-then-not-is_valid-clause-good g c =
    good_invalid (judge_of g.V.Verifier.answers c.args.judge.now) c.args.signature.now.set.now c.args.signature.now.sig.now
    c.args.key.now c.args.signature.now.read.now c.requires.read
    (sym c.is_valid.ensures ∙ c.if-not-is_valid.true)

pub returns-then-not-is_usable_but_for_revoke-clause-good : goal.returns-then-not-is_usable_but_for_revoke-clause-good
returns-then-not-is_usable_but_for_revoke-clause-good g c =
    good_unusable (judge_of g.V.Verifier.answers c.args.judge.now) c.args.signature.now.set.now c.args.signature.now.sig.now
    c.args.key.now c.args.signature.now.read.now c.args.dnskey.now c.requires.read
    c.requires.key (sym c.is_usable_but_for_revoke.ensures ∙ c.if-not-is_usable_but_for_revoke.true)

pub returns-clause-good : goal.returns-clause-good
returns-clause-good g c =
    c.accepts_signature-accepted.ensures
    ∙ good_accepted (judge_of g.V.Verifier.answers c.args.judge.now) c.args.signature.now.set.now c.args.signature.now.sig.now
    c.args.key.now c.args.signature.now.read.now c.args.dnskey.now _ c.requires.read
    (sym c.is_valid.ensures ∙ c.if-not-is_valid.false) c.requires.key (sym c.is_usable_but_for_revoke.ensures
    ∙ c.if-not-is_usable_but_for_revoke.false) c.in_ok-bytes.ensures
