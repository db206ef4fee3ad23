use Rattle.std.proofs.Common.{rules, ◌≡◌, ℕ, List, ◌++◌, length, sym, subst, arith}
use Rattle.std.proofs.lemmas.List.{length-append}
use Rattle.dns_aggressive.specs.Records.{KeptValue}
use Rattle.dns_aggressive.specs.Orders.{AreLatest, IsPlaced}
use Rattle.dns_aggressive.specs.Reaching.{AreReaching}
use Rattle.dns_aggressive.proofs.Expiring.{expiries_before}
use Rattle.dns_aggressive.proofs.Reaches.{reaching_before}
use Rattle.dns_aggressive.proofs.Latest.{latest_before, placed_before}
use Rattle.dns_aggressive.proofs.kept_list.KeptList.learn.Goals as goal

pub place_from-replaced-requires-clause-placed : goal.place_from-replaced-requires-clause-placed
place_from-replaced-requires-clause-placed c =
    let records = c.self.inside.records.items in
    let all : c.deref.result.now ≡ c.self.inside.records.items ++ c.args.taken.items = search rules in
    let long : length c.self.inside.records.items ≡ c.len-count.result = search rules in
    let same : c.self.inside.by_place.items ≡ c.try_reserve-2.new.self.items = search rules in
    subst (λ (l : List KeptValue). IsPlaced l c.len-count.result c.try_reserve-2.new.self.items) (sym all)
    (subst (λ (n : ℕ). IsPlaced (records ++ c.args.taken.items) n c.try_reserve-2.new.self.items) long
    (subst (λ (o : List ℕ). IsPlaced (records ++ c.args.taken.items) (length records) o) same
    (placed_before records c.args.taken.items c.self.inside.by_place.items c.self.invariant.placed)))

pub settle-self-inside-requires-clause-latest : goal.settle-self-inside-requires-clause-latest
settle-self-inside-requires-clause-latest c =
    let records = c.self.inside.records.items in
    let all : c.deref.result.now ≡ c.self.inside.records.items ++ c.args.taken.items = search rules in
    let long : length c.self.inside.records.items ≡ c.len-count.result = search rules in
    λ no.
    subst (λ (l : List KeptValue). AreLatest l c.self.inside.gone (length l)) c.deref.ensures.value
    (c.place_from-replaced.ensures.latest no
    (subst (λ (l : List KeptValue). AreLatest l c.self.inside.gone c.len-count.result) (sym all)
    (subst (λ (n : ℕ). AreLatest (records ++ c.args.taken.items) c.self.inside.gone n) long
    (latest_before records c.args.taken.items c.self.inside.gone c.self.invariant.latest))))

pub place_from-replaced-requires-clause-reaching : goal.place_from-replaced-requires-clause-reaching
place_from-replaced-requires-clause-reaching c =
    let records = c.self.inside.records.items in
    let taken = c.args.taken.items in
    let all : c.deref.result.now ≡ c.self.inside.records.items ++ c.args.taken.items = search rules in
    let long : length c.self.inside.records.items ≡ c.len-count.result = search rules in
    let same : c.self.inside.reaching.items ≡ c.try_reserve-3.new.self.items = search rules in
    subst (λ (l : List KeptValue). AreReaching l c.len-count.result c.try_reserve-3.new.self.items) (sym all)
    (subst (λ (n : ℕ). AreReaching (records ++ taken) n c.try_reserve-3.new.self.items) long
    (subst (λ (o : List ℕ). AreReaching (records ++ taken) (length records) o) same
    (reaching_before records taken c.self.inside.reaching.items c.self.invariant.reach
    (omega (arith, length-append records taken)))))

pub add_from-requires-clause-sorted : goal.add_from-requires-clause-sorted
add_from-requires-clause-sorted c =
    let long : length c.self.inside.records.items ≡ c.len-count.result = search rules in
    let all : c.deref-2.result.now ≡ c.self.inside.records.items ++ c.args.taken.items = search rules in
    expiries_before c.self.inside.records.items c.args.taken.items c.deref-2.result.now c.len-count.result
    c.self.inside.expiries c.reserve.new.self all long (search rules) (search rules) c.self.invariant.expiring
