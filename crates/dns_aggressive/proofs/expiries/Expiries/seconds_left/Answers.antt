use Rattle.std.proofs.Common.{ℕ, ◌-◌, ◌<◌, ◌&&◌, List, length, option_copied, sym, subst, ap, ◌∙◌, arith}
use Rattle.std.specs.Ordering.{is_le}
use Rattle.std.proofs.lemmas.List.{get_or_default}
use Rattle.dns_model.specs.Names.{name_eq}
use Rattle.dns_aggressive.specs.Denials.{is_of_way}
use Rattle.dns_aggressive.specs.Expiring.{left_if, moment_cmp}
use Rattle.dns_aggressive.specs.Orders.{IsFront, IsParted, at}
use Rattle.dns_aggressive.specs.Records.{way_of}
use Rattle.dns_aggressive.proofs.ExpiryFinds.{front_of_moment, left_here, left_none}
use Rattle.dns_aggressive.proofs.expiries.Expiries.seconds_left.Goals as goal

pub passed-number-requires-clause-front : goal.passed-number-requires-clause-front
passed-number-requires-clause-front c =
    subst (λ (l : List ℕ). IsFront (λ k. is_le (moment_cmp k c.group_key.result)) c.args.kept.now l)
    (sym c.deref.ensures.value)
    (front_of_moment c.args.kept.now c.args.self.now.by_group.items c.group_key.result c.requires.by_group.sorted)

pub returns-then-number-len : goal.returns-then-number-len
returns-then-number-len c = λ gone all.
    left_none c.args.kept.now c.args.self.now.by_group.items gone c.args.now c.passed-number.result c.args.zone.now
    (option_copied c.args.way) c.group_key.result all.by_group c.requires.by_group
    (subst (λ (l : List ℕ). IsParted (λ k. is_le (moment_cmp k c.group_key.result)) c.args.kept.now l
    c.passed-number.result c.passed-number.result) c.deref.ensures.value c.passed-number.ensures)
    c.group_key.ensures.group c.group_key.ensures.moment
    (omega (arith, c.if-number-len.true, c.len.ensures))

pub returns : goal.returns
returns c = λ gone all.
    let kept = c.args.kept.now in
    let order = c.args.self.now.by_group.items in
    let zone = c.args.zone.now in
    let way = option_copied c.args.way in
    let parted : IsParted (λ k. is_le (moment_cmp k c.group_key.result)) c.args.kept.now c.args.self.now.by_group.items
    c.passed-number.result c.passed-number.result =
    subst (λ (l : List ℕ). IsParted (λ k. is_le (moment_cmp k c.group_key.result)) c.args.kept.now l
    c.passed-number.result c.passed-number.result) c.deref.ensures.value c.passed-number.ensures in
    let end = parted.within in
    let lt : c.passed-number.result < length c.args.self.now.by_group.items = omega (
      arith,
      c.if-number-len.false,
      c.len.ensures,
      end,
    ) in
    c.left_of.ensures
    ∙ ap (λ k. left_if (name_eq k.zone c.args.zone.now && is_of_way (option_copied c.args.way) (way_of k.item))
    (k.expires - c.args.now))
    (c.record_at.ensures ∙ ap (at kept) (c.index-position.ensures ∙ get_or_default order c.passed-number.result _ 0 lt))
    ∙ left_here kept order gone c.args.now c.passed-number.result zone way c.group_key.result all.by_group
    c.requires.by_group parted c.group_key.ensures.group c.group_key.ensures.moment lt
