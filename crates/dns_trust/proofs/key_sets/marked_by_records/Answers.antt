use Rattle.std.proofs.Common.{◌≡◌, true, false, IfOk, map, subst, sym, ap, ◌∙◌}
use Rattle.dns_evidence.specs.Link.{link_value}
use Rattle.dns_trust.specs.Judge.{judge_of}
use Rattle.dns_trust.specs.KeysMarks.{marked_value}
use Rattle.dns_trust.proofs.ByDs.{unproved, none_supported, some_supported}
use Rattle.dns_trust.proofs.key_sets.marked_by_records.Goals as goal

pub returns-then-is_empty : goal.returns-then-is_empty
returns-then-is_empty g c =
    c.refused.ensures ∙ ap unproved c.mark_by_unsupported.ensures
    ∙ none_supported (judge_of g.V.Verifier.answers c.args.judge.now) c.args.set.now (map link_value c.args.front.now.items)
    c.args.records.now
    (sym c.in_ok-ds.ensures.records ∙ c.is_empty.ensures.0 c.if-is_empty.true)

pub returns : goal.returns
returns g c =
    subst (λ w. IfOk c.marked_by_ds.result (λ m. marked_value m ≡ w))
    (some_supported (judge_of g.V.Verifier.answers c.args.judge.now) c.args.set.now (map link_value c.args.front.now.items)
    c.args.records.now
    c.in_ok-ds.ds.records c.in_ok-ds.ensures.records (λ e. let t : true ≡ false = sym (c.is_empty.ensures.1 e) ∙ c.if-is_empty.false in cc))
    c.marked_by_ds.ensures
