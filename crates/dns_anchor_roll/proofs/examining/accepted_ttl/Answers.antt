use Rattle.std.proofs.Common.{◌∙◌, sym, ap, Some}
use Rattle.std.specs.List.{find}
use Rattle.std.specs.Option.{option_map}
use Rattle.std.proofs.lemmas.List.{drop_all}
use Rattle.dns_trust.specs.Judge.{judge_of}
use Rattle.dns_trust.specs.Delegating.{shown}
use Rattle.dns_trust.proofs.Searches.{find_here, find_past}
use Rattle.dns_trust.proofs.Shown.{shown_at, shown_end, shown_within}
use Rattle.dns_anchor_roll.specs.Facts.{is_good_by_any, original_ttl}
use Rattle.dns_anchor_roll.proofs.examining.accepted_ttl.Goals as goal

pub returns-then-branch : goal.returns-then-branch
returns-then-branch g c =
    let test = is_good_by_any (judge_of g.V.Verifier.answers c.args.judge.now) c.args.set.now (shown c.args.keys.now) in
    ap Some c.original_ttl.ensures
    ∙ ap (option_map original_ttl)
    (sym (find_here test (shown c.args.signatures.now) c.loop-signature.signature-index c.signature-item.result.now
    (shown_within c.args.signatures.now c.loop-signature.signature-index c.loop-signature-test.true)
    (shown_at c.args.signatures.now c.loop-signature.signature-index c.signature-item.result c.signature-item.is)
    (sym c.in_ok-is_good_by_any.ensures ∙ c.if-branch.true))
    ∙ c.loop-signature.invariant)

pub loop-signature-preserved : goal.loop-signature-preserved
loop-signature-preserved g c =
    let test = is_good_by_any (judge_of g.V.Verifier.answers c.args.judge.now) c.args.set.now (shown c.args.keys.now) in
    find_past test (shown c.args.signatures.now) c.loop-signature.signature-index c.signature-item.result.now
    (shown_within c.args.signatures.now c.loop-signature.signature-index c.loop-signature-test.true)
    (shown_at c.args.signatures.now c.loop-signature.signature-index c.signature-item.result c.signature-item.is)
    (sym c.in_ok-is_good_by_any.ensures ∙ c.if-branch.false)
    ∙ c.loop-signature.invariant

pub returns : goal.returns
returns g c =
    let test = is_good_by_any (judge_of g.V.Verifier.answers c.args.judge.now) c.args.set.now (shown c.args.keys.now) in
    ap (option_map original_ttl)
    (sym (ap (find test) (drop_all c.loop-signature.signature-index (shown c.args.signatures.now)
    (shown_end c.args.signatures.now c.loop-signature.signature-index c.loop-signature-test.false)))
    ∙ c.loop-signature.invariant)
