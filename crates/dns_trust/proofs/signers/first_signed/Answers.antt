use Rattle.std.proofs.Common.{ap, ◌∙◌, sym}
use Rattle.std.specs.Option.{option_copied}
use Rattle.dns_trust.specs.Judge.{judge_of}
use Rattle.dns_trust.specs.Delegating.{shown}
use Rattle.dns_trust.specs.Signers.{signing_key, first_signed_by}
use Rattle.dns_trust.proofs.Searches.{signed_here, signed_past, signed_end, first_signed_by-from}
use Rattle.dns_trust.proofs.signers.first_signed.Goals as goal

pub returns-in-Some : goal.returns-in-Some
returns-in-Some g c =
    let j = judge_of g.V.Verifier.answers c.args.judge.now in
    let signer = signing_key j c.args.set.now (shown c.args.keys.now) in
    sym (signed_here signer c.first_signatures-signatures.result.now c.loop-place.place c.index-signatures-place.result
    c.in-Some.key.now c.loop-place-test.true c.index-signatures-place.is
    (sym c.in_ok-key.ensures ∙ ap option_copied c.in-Some.is))
    ∙ c.loop-place.invariant
    ∙ sym (first_signed_by-from j c.args.set.now (shown c.args.keys.now) c.first_signatures-signatures.result.now)
    ∙ ap (first_signed_by j c.args.set.now (shown c.args.keys.now)) c.first_signatures-signatures.ensures.first

pub loop-place-preserved : goal.loop-place-preserved
loop-place-preserved g c =
    let signer = signing_key (judge_of g.V.Verifier.answers c.args.judge.now) c.args.set.now (shown c.args.keys.now) in
    signed_past signer c.first_signatures-signatures.result.now c.loop-place.place c.index-signatures-place.result
    c.loop-place-test.true c.index-signatures-place.is
    (sym c.in_ok-key.ensures ∙ ap option_copied c.in_default.is)
    ∙ c.loop-place.invariant

pub returns : goal.returns
returns g c =
    let j = judge_of g.V.Verifier.answers c.args.judge.now in
    let signer = signing_key j c.args.set.now (shown c.args.keys.now) in
    sym (signed_end signer c.first_signatures-signatures.result.now c.loop-place.place c.loop-place-test.false)
    ∙ c.loop-place.invariant
    ∙ sym (first_signed_by-from j c.args.set.now (shown c.args.keys.now) c.first_signatures-signatures.result.now)
    ∙ ap (first_signed_by j c.args.set.now (shown c.args.keys.now)) c.first_signatures-signatures.ensures.first
