use Rattle.std.proofs.Common.{◌≡◌, ℕ, List, eqb, sym, subst}
use Rattle.std.specs.List.{Contains, dedup}
use Rattle.std.specs.List.Sorted.{IsPermutation, IsStrictlyIncreasing}
use Rattle.std.proofs.lemmas.List.Filters.{dedup_is}
use Rattle.std.proofs.lemmas.List.Kept.{Contains-dedup_nat, Contains-from_dedup}
use Rattle.std.proofs.lemmas.List.Sorted.{Contains-permutation, IsPermutation-sym}
use Rattle.std.proofs.lemmas.Map.Keys.{IsStrictlyIncreasing-dedup}
use Rattle.dns_aggressive.proofs.zone_run.ascending.Goals as goal

pub returns : goal.returns
returns c =
    let sorted = c.sort_unstable.new.self.items in
    let left : c.dedup.new.self.items
    ≡ dedup eqb c.sort_unstable.new.self.items = dedup_is eqb _ _ c.dedup.ensures.filtered in
    let same : IsPermutation c.args.positions.now c.sort_unstable.new.self.items =
    subst (λ (l : List ℕ). IsPermutation l sorted) c.in_ok-all.ensures.items c.sort_unstable.ensures.permutation in
    record {
      rising = subst (λ (l : List ℕ). IsStrictlyIncreasing l) (sym left)
          (IsStrictlyIncreasing-dedup sorted c.sort_unstable.ensures.sorted);
      there = λ p t.
          subst (λ (l : List ℕ). Contains l p) (sym left)
          (Contains-dedup_nat sorted p (Contains-permutation c.args.positions.now sorted p same t));
      only = λ p t.
          Contains-permutation sorted c.args.positions.now p (IsPermutation-sym c.args.positions.now sorted same)
          (Contains-from_dedup eqb sorted p (subst (λ (l : List ℕ). Contains l p) left t));
    }
