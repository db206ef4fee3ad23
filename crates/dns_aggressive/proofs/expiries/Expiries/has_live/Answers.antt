use Rattle.std.proofs.Common.{◌≡◌, ℕ, ◌+◌, ◌-◌, ◌<◌, List, length, sym, subst, ap, ◌∙◌, arith}
use Rattle.std.specs.Ordering.{is_le}
use Rattle.std.proofs.lemmas.List.{get_or_default}
use Rattle.dns_model.specs.Names.{name_cmp}
use Rattle.dns_aggressive.specs.Orders.{IsFront, IsParted, at}
use Rattle.dns_aggressive.proofs.ExpiryFinds.{front_of_zones, live_last, live_none}
use Rattle.dns_aggressive.proofs.expiries.Expiries.has_live.Goals as goal

pub passed-number-requires-clause-front : goal.passed-number-requires-clause-front
passed-number-requires-clause-front c =
    subst (λ (l : List ℕ). IsFront (λ k. is_le (name_cmp k.zone c.args.zone.now)) c.args.kept.now l)
    (sym c.deref.ensures.value)
    (front_of_zones c.args.kept.now c.args.self.now.by_zone.items c.args.zone.now c.requires.by_zone.sorted)

pub returns-then-number-eq0 : goal.returns-then-number-eq0
returns-then-number-eq0 c = λ gone all.
    let kept = c.args.kept.now in
    let order = c.args.self.now.by_zone.items in
    let zone = c.args.zone.now in
    live_none kept order gone c.args.now zone all.by_zone
    (subst (λ (n : ℕ). IsParted (λ k. is_le (name_cmp k.zone c.args.zone.now)) c.args.kept.now
    c.args.self.now.by_zone.items n n) (omega (arith, c.if-number-eq0.true))
    (subst (λ (l : List ℕ). IsParted (λ k. is_le (name_cmp k.zone c.args.zone.now)) c.args.kept.now l
    c.passed-number.result c.passed-number.result) c.deref.ensures.value c.passed-number.ensures))

pub returns : goal.returns
returns c = λ gone all.
    let kept = c.args.kept.now in
    let order = c.args.self.now.by_zone.items in
    let zone = c.args.zone.now in
    let parted : IsParted (λ k. is_le (name_cmp k.zone c.args.zone.now)) c.args.kept.now c.args.self.now.by_zone.items
    c.passed-number.result c.passed-number.result =
    subst (λ (l : List ℕ). IsParted (λ k. is_le (name_cmp k.zone c.args.zone.now)) c.args.kept.now l
    c.passed-number.result c.passed-number.result) c.deref.ensures.value c.passed-number.ensures in
    let within = parted.within in
    let next : c.passed-number.result ≡ c.passed-number.result - 1 + 1 = omega (arith, c.if-number-eq0.false) in
    let lt : c.passed-number.result - 1 < length c.args.self.now.by_zone.items = omega (
      arith,
      c.if-number-eq0.false,
      within,
    ) in
    c.is_live_in.ensures
    ∙ live_last kept order gone c.args.now (c.passed-number.result - 1) zone c.record_at.result.now all.by_zone
    c.requires.by_zone
    (subst (λ (n : ℕ). IsParted (λ k. is_le (name_cmp k.zone c.args.zone.now)) c.args.kept.now
    c.args.self.now.by_zone.items n n) next parted)
    (sym (c.record_at.ensures
    ∙ ap (at kept) (c.index-position.ensures ∙ get_or_default order (c.passed-number.result - 1) _ 0 lt)))
