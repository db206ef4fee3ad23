use Rattle.std.proofs.Common.{rules, ◌≡◌, List, Option, None, Some, IfOk, subst, sym, ap, ◌∙◌}
use Rattle.std.specs.List.{find}
use Rattle.std.specs.Option.{option_map}
use Rattle.dns_rules.specs.Delegations.{is_ds_set_of, zone_verdict}
use Rattle.dns_rules.specs.Unsigned.{unsigned_mark}
use Rattle.dns_rules.specs.ChainedSets.{ChainedSet, bare}
use Rattle.dns_trust.specs.Judge.{judge_of}
use Rattle.dns_trust.specs.Verdicts.{listed}
use Rattle.dns_trust.specs.KeysMarks.{marked_by_zone, marked_value}
use Rattle.dns_trust.proofs.ByDs.{unproved, no_answer, by_found, by_none, verdict_of_answer}
use Rattle.dns_trust.proofs.key_sets.marked_by_answer.Goals as goal

pub returns-in_default : goal.returns-in_default
returns-in_default g c =
    let j = judge_of g.V.Verifier.answers c.args.judge.now in
    c.refused.ensures ∙ no_answer j c.args.set.now ∙ ap (λ o. marked_by_zone j c.args.set.now (listed o)) (sym c.in_default.is)

pub returns-in-Some-ds_set_of : goal.returns-in-Some-ds_set_of
returns-in-Some-ds_set_of g c =
    let j = judge_of g.V.Verifier.answers c.args.judge.now in
    let one : find (λ (s : ChainedSet). is_ds_set_of c.args.set.now.class c.args.set.now.owner s.judged) c.in-Some.sets.items
    ≡ Some c.in-Some-ds_set_of.found.now =
    search rules in
    subst (λ w. IfOk c.marked_by_set.result (λ m. marked_value m ≡ w))
    (by_found j c.args.set.now c.in-Some.sets.items c.in-Some-ds_set_of.found.now one
    ∙ ap (λ o. marked_by_zone j c.args.set.now (listed o)) (sym c.in-Some.is))
    c.marked_by_set.ensures

pub returns-in-None : goal.returns-in-None
returns-in-None g c =
    let j = judge_of g.V.Verifier.answers c.args.judge.now in
    let set = c.args.set.now in
    let sets = c.in-Some.sets.items in
    let none : find (λ (s : ChainedSet). is_ds_set_of set.class set.owner s.judged) sets ≡ None = search rules in
    let verdict = λ (o : Option (List ChainedSet)). zone_verdict j.answers set.class set.owner (option_map bare o) in
    c.refused-in-None.ensures
    ∙ ap unproved (c.mark_of_row.ensures (verdict (listed c.args.answer.now)) c.requires
    ∙ ap (λ o. (unsigned_mark (verdict (listed o))).mark) c.in-Some.is
    ∙ ap (λ v. (unsigned_mark v).mark) (verdict_of_answer j.answers set.class set.owner sets None none))
    ∙ by_none j set sets none
    ∙ ap (λ o. marked_by_zone j set (listed o)) (sym c.in-Some.is)
