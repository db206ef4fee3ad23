use Rattle.std.proofs.Common.{◌∙◌, sym}
use Rattle.dns_trust.specs.Judge.{judge_of}
use Rattle.dns_trust.proofs.Reading.{good_invalid, good_unusable, good_accepted, no_key_but_for_revoke}
use Rattle.dns_anchor_roll.proofs.examining.is_good_revoked.Goals as goal

pub returns-in_default-clause-good : goal.returns-in_default-clause-good
returns-in_default-clause-good g c =
    sym (no_key_but_for_revoke (judge_of g.V.Verifier.answers c.args.judge.now) c.args.signature.now.set.now
    c.args.signature.now.sig.now c.args.key.now c.args.signature.now.read.now c.requires.read (sym c.of.ensures ∙ c.in_default.is))

pub returns-then-not-is_valid-clause-good : goal.returns-then-not-is_valid-clause-good
returns-then-not-is_valid-clause-good g c =
    good_invalid (judge_of g.V.Verifier.answers c.args.judge.now) c.args.signature.now.set.now c.args.signature.now.sig.now
    c.args.key.now c.args.signature.now.read.now c.requires.read
    (sym c.is_valid.ensures ∙ c.if-not-is_valid.true)

pub returns-then-not-is_usable_but_for_revoke-clause-good : goal.returns-then-not-is_usable_but_for_revoke-clause-good
returns-then-not-is_usable_but_for_revoke-clause-good g c =
    good_unusable (judge_of g.V.Verifier.answers c.args.judge.now) c.args.signature.now.set.now c.args.signature.now.sig.now
    c.args.key.now c.args.signature.now.read.now c.in-Some.dnskey c.requires.read
    (sym c.of.ensures ∙ c.in-Some.is) (sym c.is_usable_but_for_revoke.ensures ∙ c.if-not-is_usable_but_for_revoke.true)

pub returns-clause-good : goal.returns-clause-good
returns-clause-good g c =
    c.accepts_signature-accepted.ensures
    ∙ good_accepted (judge_of g.V.Verifier.answers c.args.judge.now) c.args.signature.now.set.now c.args.signature.now.sig.now
    c.args.key.now c.args.signature.now.read.now c.in-Some.dnskey _ c.requires.read
    (sym c.is_valid.ensures ∙ c.if-not-is_valid.false) (sym c.of.ensures ∙ c.in-Some.is) (sym c.is_usable_but_for_revoke.ensures
    ∙ c.if-not-is_usable_but_for_revoke.false) c.in_ok-bytes.ensures
