use Rattle.std.proofs.Common.{◌≡◌, map, sym, ap, ◌∙◌}
use Rattle.std.proofs.lemmas.List.{map-id}
use Rattle.std.proofs.lemmas.Iterator.Consumers.{YieldsList-end}
use Rattle.std.proofs.lemmas.Iterator.Adapters.{YieldsList-from_vec}
use Rattle.dns_model.specs.declared.section.Section.TheVariants.{Authority}
use Rattle.dns_marks.specs.ZoneVerdicts.{marked_set}
use Rattle.dns_marks.proofs.hashed.secure_sets.Goals as goal

pub returns : goal.returns
returns c =
    let all =
    YieldsList-end
    (YieldsList-from_vec c.in_ok-set-items.set-items.items (cc) (cc)) c.loop-set.yielded c.loop-set.set-iterator
    c.loop-set.yielded_by c.next.result c.next.new.self c.in-None.is c.next.ensures.steps in
    let e : c.loop-set.yielded ≡ c.in_ok-set-items.set-items.items = sym (map-id c.loop-set.yielded) ∙ all.0 in
    c.loop-set.invariant ∙ ap (map (marked_set Authority)) (e ∙ c.in_ok-set-items.ensures)
