use Rattle.std.proofs.Common.{◌≡◌, ◌++◌, ◌∷◌, [], cond, IfOk, List, ℕ, ap, rules, subst, sym, ◌∙◌}
use Rattle.std.specs.Cmp.Lexicographic.{slice_cmp}
use Rattle.std.specs.Ordering.{is_le, nat_cmp}
use Rattle.dns_rules.specs.Covering.{leads_back}
use Rattle.dns_denial_index.specs.NameKeys.{behind, end_key, name_key}
use Rattle.dns_denial_index.proofs.NameKeys.{back_by_keys}
use Rattle.dns_denial_index.proofs.keyed_nsec.end_key.Goals as goal
use Rattle.dns_denial_index.proofs.keyed_nsec.end_key.Goals.{then-is_le, else-is_le}

pub returns : goal.returns
returns c =
    let nsec = c.args.nsec.now in
    let next : c.name_key-key.result.items ≡ name_key nsec.fields.next = search rules in
    let back : c.is_le.result ≡ leads_back nsec =
    c.is_le.ensures ∙ ap is_le (c.cmp.ensures ∙ ap (λ k. slice_cmp nat_cmp k c.args.owner.now) c.as_slice.ensures.value)
    ∙ back_by_keys nsec c.args.owner.now c.name_key-key.result.items c.requires next in
    let key : c.if-is_le.key.items ≡ end_key nsec = elim c.if-is_le.branch [
      | then-is_le w ↦ rw w.key-is
          (w.push.ensures.items ∙ ap (λ l. l ++ 255 ∷ []) next
          ∙ ap (λ b. cond b (behind nsec.fields.next) (name_key nsec.fields.next)) (sym w.if-is_le.true ∙ back))
      | else-is_le w ↦ rw w.key-is
          (next ∙ ap (λ b. cond b (behind nsec.fields.next) (name_key nsec.fields.next)) (sym w.if-is_le.false ∙ back))
    ] in
    subst (λ (l : List ℕ). IfOk c.from_slice.result (λ o. o ≡ l)) (c.as_slice-2.ensures.value ∙ key) c.from_slice.ensures
