use Rattle.std.proofs.Common.{◌≡◌, ℕ, List, ap, arith, rules, subst, sym, ◌∙◌}
use Rattle.std.specs.List.Sorted.{IsPermutation}
use Rattle.std.specs.Ordering.{is_lt}
use Rattle.std.proofs.lemmas.Fn.{always_returns_same}
use Rattle.std.proofs.lemmas.List.{map-id}
use Rattle.std.proofs.lemmas.Iterator.Consumers.{YieldsList-end}
use Rattle.std.proofs.lemmas.Iterator.Adapters.{YieldsList-from_vec}
use Rattle.dns_denial_index.specs.Places.{key_before, key_of, number_all}
use Rattle.dns_denial_index.proofs.Placing.{keys_in_order, numbered_more, numbered_order}
use Rattle.dns_denial_index.proofs.places.in_order.Goals as goal

pub loop-key-preserved : goal.loop-key-preserved
loop-key-preserved c =
    numbered_more c.loop-key.yielded c.in-Some.key c.loop-key.numbered.items c.push.new.self.items c.len-number.result
    c.loop-key.invariant (omega (arith, c.len-number.ensures, c.loop-key.numbered.ok.0)) c.in_ok-push.ensures.items

pub returns : goal.returns
returns c =
    let all =
    YieldsList-end
    (YieldsList-from_vec c.args.keys.items (cc) (cc)) c.loop-key.yielded c.loop-key.key-iterator
    c.loop-key.yielded_by c.next.result c.next.new.self c.in-None.is c.next.ensures.steps in
    let e : c.loop-key.yielded ≡ c.args.keys.items = sym (map-id c.loop-key.yielded) ∙ all.0 in
    record {
      all = subst (λ (l : List (List ℕ × ℕ)). IsPermutation l c.sort_unstable_by.new.self.items)
          (c.loop-key.invariant ∙ ap (number_all 0) e) c.sort_unstable_by.ensures.permutation;
      order =
          keys_in_order c.sort_unstable_by.new.self.items
          (c.sort_unstable_by.ensures.sorted (λ x y. key_before (key_of x) (key_of y)) numbered_order
          (always_returns_same _ (λ a r. is_lt r ≡ key_before (key_of a.0.now) (key_of a.1.0.now)) _
          (λ a r f' k. search rules)));
    }
