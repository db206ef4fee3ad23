use Rattle.std.proofs.Common.{rules, ◌≡◌, length, [], ◌++◌, sym, ap, ◌∙◌}
use Rattle.std.proofs.lemmas.List.{nil_from_length}
use Rattle.dns_trust.specs.Judge.{judge_of}
use Rattle.dns_audit.specs.AuditText.{chain_answers}
use Rattle.dns_audit.proofs.AnswerLemmas.{all_answers}
use Rattle.dns_audit.proofs.answers.push_chains.Goals as goal

pub returns : goal.returns
returns g c =
    let j = judge_of g.V.Verifier.answers c.args.judge.now in
    let empty : length c.chains.left.now ≡ 0 = search rules in
    let none : c.chains.left.now ≡ [] = nil_from_length c.chains.left.now empty in
    all_answers j c.chains.into.items c.chains.number _
    (sym (ap (λ chains. c.chains.into.items ++ chain_answers j c.chains.number chains) none) ∙ c.chains.invariant.0)
