use Rattle.std.proofs.Common.{◌≡◌, ◌≤◌, ◌∙◌, ◌∷◌, ◌||◌, [], ℕ, refl, sym, ap, subst, arith}
use Rattle.std.specs.List.{All, count_by, list_any}
use Rattle.std.specs.Map.Iter.{deref_pair}
use Rattle.std.proofs.lemmas.List.Elements.{All-nil, All-same}
use Rattle.std.proofs.lemmas.Map.Iter.{rest_all, rest_more}
use Rattle.dns_model.specs.Keys.{AnchorValue, holds_anchor, is_anchor}
use Rattle.dns_anchor_roll.specs.After.{with_trusted}
use Rattle.dns_anchor_roll.specs.Tables.{is_trusted}
use Rattle.dns_anchor_roll.proofs.Anchors.{keys_more, none_left, once_more, owners_more, trusted_entry, trusted_found}
use Rattle.dns_anchor_roll.proofs.anchor_roll.anchors_of.Goals as goal

pub loop-key-init : goal.loop-key-init
loop-key-init c = record {
  owners = All-same (λ (anchor : AnchorValue). anchor.owner ≡ c.args.zone.now) _ [] c.empty-anchors.ensures (All-nil _);
  keys = λ a k.
      ap (λ xs. holds_anchor xs c.args.zone.now a k || list_any (trusted_entry (a ∷ k)) c.into_iter-key-iterator.result) c.empty-anchors.ensures
      ∙ ap (list_any (trusted_entry (a ∷ k))) c.into_iter-key-iterator.ensures.into_iter_gives.0;
  once = λ a k. rw c.empty-anchors.ensures (omega arith);
}

pub loop-key-preserved : goal.loop-key-preserved
loop-key-preserved c =
    let zone = c.args.zone.now in
    let old = c.loop-key.anchors in
    let e = deref_pair (c.in-Some.key, c.in-Some.standing) in
    let rest = rest_more deref_pair c.loop-key.key-iterator c.next.new.self c.next.result (c.in-Some.key, c.in-Some.standing) c.in-Some.is
    c.next.ensures.steps in
    let added = c.in_ok-add_trusted.ensures ∙ ap (λ k. with_trusted (is_trusted e.1) zone k old) c.as_slice.ensures.value in
    record {
      owners = rw added (owners_more zone e.0.items old (is_trusted e.1) c.loop-key.invariant.owners);
      keys = λ a k.
          ap (λ xs. holds_anchor xs zone a k || list_any (trusted_entry (a ∷ k)) c.next.new.self) added
          ∙ keys_more zone a k e c.next.new.self old
          ∙ ap (λ es. holds_anchor old zone a k || list_any (trusted_entry (a ∷ k)) es) (sym rest)
          ∙ c.loop-key.invariant.keys a k;
      once = λ a k. rw added (once_more zone a k e.0.items old (is_trusted e.1) (c.loop-key.invariant.once a k));
    }

pub returns : goal.returns
returns c =
    let rest = rest_all deref_pair c.loop-key.key-iterator c.next.new.self c.next.result c.in-None.is c.next.ensures.steps in
    record {
      owners = c.loop-key.invariant.owners;
      keys = λ a k.
          sym (none_left (holds_anchor c.loop-key.anchors c.args.zone.now a k))
          ∙ ap (λ es. holds_anchor c.loop-key.anchors c.args.zone.now a k || list_any (trusted_entry (a ∷ k)) es) (sym rest)
          ∙ c.loop-key.invariant.keys a k
          ∙ trusted_found c.args.table.now.known (a ∷ k) c.into_iter-key-iterator.ensures.into_iter_gives.6;
      once = c.loop-key.invariant.once;
    }
