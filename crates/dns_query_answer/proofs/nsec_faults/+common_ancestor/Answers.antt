use Rattle.std.proofs.Common.{rules, ◌≡◌, true, false, [], ◌∷◌, sym, ◌∙◌}
use Rattle.dns_model.specs.Names.{at_or_above}
use Rattle.dns_query_answer.proofs.AncestorLemmas.{ancestor_here, ancestor_above, ancestor_of_root}
use Rattle.dns_query_answer.proofs.nsec_faults.+common_ancestor.Goals as goal

pub returns-then-zone_of : goal.returns-then-zone_of
returns-then-zone_of t c =
    let split : c.args.name.now ≡ c.in-Some.field-0-0.now ∷ c.in-Some.above = search rules in
    let over : at_or_above c.args.name.now c.args.other.now ≡ true = search rules in
    c.copy.ensures.value
    ∙ sym (ancestor_here c.args.name.now c.in-Some.field-0-0.now c.in-Some.above c.args.other.now split over)

pub returns-else-zone_of : goal.returns-else-zone_of
returns-else-zone_of t c =
    let split : c.args.name.now ≡ c.in-Some.field-0-0.now ∷ c.in-Some.above = search rules in
    let aside : at_or_above c.args.name.now c.args.other.now ≡ false = search rules in
    c.common_ancestor.ensures
    ∙ sym (ancestor_above c.args.name.now c.in-Some.field-0-0.now c.in-Some.above c.args.other.now split aside)

pub returns-in-None : goal.returns-in-None
returns-in-None t c =
    let root : c.args.name.now ≡ [] = search rules in
    c.copy-in-None.ensures.value ∙ sym (ancestor_of_root c.args.name.now c.args.other.now root)
