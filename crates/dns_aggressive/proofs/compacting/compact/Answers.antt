use Rattle.std.proofs.Common.{rules, ◌≡◌, ℕ, ◌≤◌, Bool, true, false, List, drop, get_or, length, map, sym, subst, ap, ◌∙◌}
use Rattle.std.specs.List.{filter}
use Rattle.dns_aggressive.specs.Records.{KeptValue}
use Rattle.dns_aggressive.specs.declared.sorting.Sorting.TheVariants.{ByZone, ByGroup}
use Rattle.dns_aggressive.specs.Expiring.{expiry_cmp}
use Rattle.dns_aggressive.specs.Flags.{are_apart, flagged}
use Rattle.dns_aggressive.specs.Compaction.{AreCounted, AreMarked, flag_at}
use Rattle.dns_aggressive.specs.Orders.{IsPlaced, nth}
use Rattle.dns_aggressive.proofs.Compaction.{placed_staying, staying_latest}
use Rattle.dns_aggressive.proofs.Expiring.{all_compacted, expiry_total, order_compacted}
use Rattle.dns_aggressive.proofs.Learned.{apart_latest}
use Rattle.dns_aggressive.proofs.Reaches.{reaching_compacted}
use Rattle.dns_aggressive.proofs.compacting.compact.Goals as goal

pub returns-clause-kept : goal.returns-clause-kept
returns-clause-kept c =
    let kept = c.args.kept.now.items in
    let order = c.args.by_place.now.items in
    let flags = c.mark.new.stays.items in
    let long : c.len.result ≡ length c.args.kept.now.items = search rules in
    let marked : AreMarked c.args.by_place.now.items c.args.gone (length c.args.kept.now.items) c.mark.new.stays.items =
    subst (λ (n : ℕ). AreMarked order c.args.gone n flags) long
    (subst (λ (l : List ℕ). AreMarked l c.args.gone c.len.result flags) c.deref.ensures.value c.mark.ensures) in
    c.keep_flagged.ensures ∙ ap (λ fs. flagged fs kept) c.deref-11.ensures.value
    ∙ staying_latest kept order c.args.gone flags c.requires.placed marked

pub returns-clause-placed : goal.returns-clause-placed
returns-clause-placed c =
    let kept = c.args.kept.now.items in
    let order = c.args.by_place.now.items in
    let flags = c.mark.new.stays.items in
    let numbers = c.count.new.moved.items in
    let long : c.len.result ≡ length c.args.kept.now.items = search rules in
    let marked : AreMarked c.args.by_place.now.items c.args.gone (length c.args.kept.now.items) c.mark.new.stays.items =
    subst (λ (n : ℕ). AreMarked order c.args.gone n flags) long
    (subst (λ (l : List ℕ). AreMarked l c.args.gone c.len.result flags) c.deref.ensures.value c.mark.ensures) in
    let counted : AreCounted c.mark.new.stays.items (length c.mark.new.stays.items) c.count.new.moved.items =
    subst (λ (fs : List Bool). AreCounted fs (length fs) numbers) c.deref-2.ensures.value c.count.ensures in
    let stayed = c.keep_flagged.ensures ∙ ap (λ fs. flagged fs kept) c.deref-11.ensures.value in
    let moved = c.renumber.ensures
    ∙ ap (λ ns. map (nth ns) (filter (flag_at c.deref-3.result.now) order)) c.deref-4.ensures.value
    ∙ ap (λ fs. map (nth numbers) (filter (flag_at fs) order)) c.deref-3.ensures.value in
    let apart = ap are_apart (staying_latest kept order c.args.gone flags c.requires.placed marked)
    ∙ apart_latest (drop c.args.gone kept) in
    subst (λ (l : List KeptValue). IsPlaced l (length l) c.renumber.new.order.items) (sym stayed)
    (subst (λ (os : List ℕ). IsPlaced (flagged flags kept) (length (flagged flags kept)) os) (sym moved)
    (placed_staying kept order c.args.gone flags numbers c.requires.placed marked counted apart))

pub returns-clause-expiring : goal.returns-clause-expiring
returns-clause-expiring c =
    let kept = c.args.kept.now.items in
    let order = c.args.by_place.now.items in
    let flags = c.mark.new.stays.items in
    let numbers = c.count.new.moved.items in
    let long : c.len.result ≡ length c.args.kept.now.items = search rules in
    let marked : AreMarked c.args.by_place.now.items c.args.gone (length c.args.kept.now.items) c.mark.new.stays.items =
    subst (λ (n : ℕ). AreMarked order c.args.gone n flags) long
    (subst (λ (l : List ℕ). AreMarked l c.args.gone c.len.result flags) c.deref.ensures.value c.mark.ensures) in
    let counted : AreCounted c.mark.new.stays.items (length c.mark.new.stays.items) c.count.new.moved.items =
    subst (λ (fs : List Bool). AreCounted fs (length fs) numbers) c.deref-2.ensures.value c.count.ensures in
    let stayed = c.keep_flagged.ensures ∙ ap (λ fs. flagged fs kept) c.deref-11.ensures.value in
    let zones = c.args.expiries.now.by_zone.items in
    let groups = c.args.expiries.now.by_group.items in
    let zones_moved = c.renumber-2.ensures
    ∙ ap (λ ns. map (nth ns) (filter (flag_at c.deref-5.result.now) zones)) c.deref-6.ensures.value
    ∙ ap (λ fs. map (nth numbers) (filter (flag_at fs) zones)) c.deref-5.ensures.value in
    let groups_moved = c.renumber-3.ensures
    ∙ ap (λ ns. map (nth ns) (filter (flag_at c.deref-7.result.now) groups)) c.deref-8.ensures.value
    ∙ ap (λ fs. map (nth numbers) (filter (flag_at fs) groups)) c.deref-7.ensures.value in
    record {
      by_zone = order_compacted (expiry_cmp ByZone) (expiry_total ByZone) kept zones flags numbers _ _
          c.requires.expiring.by_zone marked.long counted stayed zones_moved;
      by_group = order_compacted (expiry_cmp ByGroup) (expiry_total ByGroup) kept groups flags numbers _ _
          c.requires.expiring.by_group marked.long counted stayed groups_moved;
    }

pub returns-clause-all : goal.returns-clause-all
returns-clause-all c =
    let kept = c.args.kept.now.items in
    let order = c.args.by_place.now.items in
    let flags = c.mark.new.stays.items in
    let numbers = c.count.new.moved.items in
    let long : c.len.result ≡ length c.args.kept.now.items = search rules in
    let marked : AreMarked c.args.by_place.now.items c.args.gone (length c.args.kept.now.items) c.mark.new.stays.items =
    subst (λ (n : ℕ). AreMarked order c.args.gone n flags) long
    (subst (λ (l : List ℕ). AreMarked l c.args.gone c.len.result flags) c.deref.ensures.value c.mark.ensures) in
    let counted : AreCounted c.mark.new.stays.items (length c.mark.new.stays.items) c.count.new.moved.items =
    subst (λ (fs : List Bool). AreCounted fs (length fs) numbers) c.deref-2.ensures.value c.count.ensures in
    let stayed = c.keep_flagged.ensures ∙ ap (λ fs. flagged fs kept) c.deref-11.ensures.value in
    let zones = c.args.expiries.now.by_zone.items in
    let groups = c.args.expiries.now.by_group.items in
    let zones_moved = c.renumber-2.ensures
    ∙ ap (λ ns. map (nth ns) (filter (flag_at c.deref-5.result.now) zones)) c.deref-6.ensures.value
    ∙ ap (λ fs. map (nth numbers) (filter (flag_at fs) zones)) c.deref-5.ensures.value in
    let groups_moved = c.renumber-3.ensures
    ∙ ap (λ ns. map (nth ns) (filter (flag_at c.deref-7.result.now) groups)) c.deref-8.ensures.value
    ∙ ap (λ fs. map (nth numbers) (filter (flag_at fs) groups)) c.deref-7.ensures.value in
    let stay : (position : ℕ) → get_or c.mark.new.stays.items position false ≡ true → c.args.gone ≤ position =
    λ position set_. (marked.unset position set_).0 in
    record {
      by_zone = all_compacted kept zones c.args.gone flags numbers _ _ c.requires.all.by_zone marked.long stay counted
          stayed zones_moved;
      by_group = all_compacted kept groups c.args.gone flags numbers _ _ c.requires.all.by_group marked.long stay counted
          stayed groups_moved;
    }

pub returns-clause-reach : goal.returns-clause-reach
returns-clause-reach c =
    let kept = c.args.kept.now.items in
    let order = c.args.by_place.now.items in
    let flags = c.mark.new.stays.items in
    let numbers = c.count.new.moved.items in
    let long : c.len.result ≡ length c.args.kept.now.items = search rules in
    let marked : AreMarked c.args.by_place.now.items c.args.gone (length c.args.kept.now.items) c.mark.new.stays.items =
    subst (λ (n : ℕ). AreMarked order c.args.gone n flags) long
    (subst (λ (l : List ℕ). AreMarked l c.args.gone c.len.result flags) c.deref.ensures.value c.mark.ensures) in
    let counted : AreCounted c.mark.new.stays.items (length c.mark.new.stays.items) c.count.new.moved.items =
    subst (λ (fs : List Bool). AreCounted fs (length fs) numbers) c.deref-2.ensures.value c.count.ensures in
    let stayed = c.keep_flagged.ensures ∙ ap (λ fs. flagged fs kept) c.deref-11.ensures.value in
    let reaching = c.args.reaching.now.items in
    let reaching_moved = c.renumber-4.ensures
    ∙ ap (λ ns. map (nth ns) (filter (flag_at c.deref-9.result.now) reaching)) c.deref-10.ensures.value
    ∙ ap (λ fs. map (nth numbers) (filter (flag_at fs) reaching)) c.deref-9.ensures.value in
    reaching_compacted kept order reaching c.args.gone flags numbers _ _ c.requires.reach c.requires.placed marked counted
    stayed reaching_moved
