use Rattle.std.proofs.Common.{rules, ◌≡◌, true, false, None, Some, IfOk, sym, ap, ◌∙◌, subst}
use Rattle.std.specs.List.{find}
use Rattle.dns_rules.specs.Marks.{is_key_set_of, may_be_signed}
use Rattle.dns_rules.specs.ChainedSets.{ChainedSet, chained_verdict}
use Rattle.dns_trust.specs.Judge.{judge_of}
use Rattle.dns_trust.specs.Verdicts.{verdict_value, listed}
use Rattle.dns_trust.proofs.ByAnswer.{no_answer, unfit, no_key_set, key_set_decides}
use Rattle.dns_trust.proofs.verdict.chained_verdict.Goals as goal

pub returns-in_default : goal.returns-in_default
returns-in_default g c =
    let j = judge_of g.V.Verifier.answers c.args.judge.now in
    no_answer j c.args.signature.now.set.now c.args.signature.now.sig.now
    ∙ ap (λ o. chained_verdict j c.args.signature.now.set.now c.args.signature.now.sig.now (listed o)) (sym c.in_default.is)

pub returns-then-not-may_be_signed : goal.returns-then-not-may_be_signed
returns-then-not-may_be_signed g c =
    let j = judge_of g.V.Verifier.answers c.args.judge.now in
    let fits : may_be_signed c.args.signature.now.set.now c.args.signature.now.read.now ≡ false = search rules in
    sym (unfit j c.args.signature.now.set.now c.args.signature.now.sig.now c.in-Some.sets.items c.args.signature.now.read.now
    c.requires fits)
    ∙ ap (λ o. chained_verdict j c.args.signature.now.set.now c.args.signature.now.sig.now (listed o)) (sym c.in-Some.is)

pub returns-in_default-key_set_of : goal.returns-in_default-key_set_of
returns-in_default-key_set_of g c =
    let j = judge_of g.V.Verifier.answers c.args.judge.now in
    let fits : may_be_signed c.args.signature.now.set.now c.args.signature.now.read.now ≡ true = search rules in
    let none : find (λ (s : ChainedSet). is_key_set_of c.args.signature.now.set.now.class c.args.signature.now.read.now.signer s.judged)
    c.in-Some.sets.items ≡ None = search rules in
    sym (no_key_set j c.args.signature.now.set.now c.args.signature.now.sig.now c.in-Some.sets.items
    c.args.signature.now.read.now c.requires fits none)
    ∙ ap (λ o. chained_verdict j c.args.signature.now.set.now c.args.signature.now.sig.now (listed o)) (sym c.in-Some.is)

pub returns : goal.returns
returns g c =
    let j = judge_of g.V.Verifier.answers c.args.judge.now in
    let fits : may_be_signed c.args.signature.now.set.now c.args.signature.now.read.now ≡ true = search rules in
    let one : find (λ (s : ChainedSet). is_key_set_of c.args.signature.now.set.now.class c.args.signature.now.read.now.signer s.judged)
    c.in-Some.sets.items ≡ Some c.in-Some-key_set_of.keys.now =
    search rules in
    subst (λ w. IfOk c.by_key_set.result (λ v. verdict_value v ≡ w))
    (sym (key_set_decides j c.args.signature.now.set.now c.args.signature.now.sig.now c.in-Some.sets.items
    c.args.signature.now.read.now c.in-Some-key_set_of.keys.now c.requires fits one)
    ∙ ap (λ o. chained_verdict j c.args.signature.now.set.now c.args.signature.now.sig.now (listed o)) (sym c.in-Some.is))
    c.by_key_set.ensures
