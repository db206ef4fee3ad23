use Rattle.std.proofs.Common.{◌≡◌, ◌∙◌, Some, false, true, is_some, rules, subst, sym, ap}
use Rattle.std.specs.BTreeMap.{UpdatesBy}
use Rattle.std.specs.Cmp.Lexicographic.{slice_cmp}
use Rattle.std.specs.Ordering.{nat_cmp}
use Rattle.dns_anchor_roll.proofs.Keys.{by_items, one_changed, one_kept}
use Rattle.dns_anchor_roll.proofs.known.change.Goals as goal

pub returns : goal.returns
returns c =
    let now = c.after.result in
    let updates = subst (λ s. UpdatesBy by_items (λ k. slice_cmp nat_cmp c.args.key.now k.items) c.args.known.now
    (c.get_mut.follows.lender now) (Some s)) c.after.ensures ((c.get_mut.follows.holds now).3 (search rules)) in
    record {
      changed = one_changed c.args.key.now c.args.known.now (c.get_mut.follows.lender now) c.args.by c.in-Some.standing.now
          (sym c.in-Some.ensures.value) updates;
      same = one_kept c.args.key.now c.args.known.now (c.get_mut.follows.lender now) c.args.by c.in-Some.standing.now
          (sym c.in-Some.ensures.value) updates;
    }

pub returns-in_default : goal.returns-in_default
returns-in_default c =
    let h : false ≡ true = ap is_some c.in_default.ensures.value ∙ c.requires.room in
    cc
