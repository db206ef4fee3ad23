-- NSEC3 records are ranked by how near their owner hashes come before a hash, going round (RFC 5155, 1.3).
use Rattle.std.proofs.Common.{◌≡◌, ℕ, Bool, true, false, ◌&&◌, ◌||◌, cond, List, refl, sym, ap, ◌∙◌, true≢false}
use Rattle.std.specs.Cmp.Lexicographic.{slice_cmp}
use Rattle.std.specs.Ordering.{nat_cmp, is_lt}
use Rattle.std.proofs.lemmas.Cmp.{nat_list_cmp_total, tied_itself}
use Rattle.dns_model.proofs.NamesInOrder.{less_back, less_past}
use Rattle.dns_rules.specs.Nsec3Covering.{hash_before, is_farther, owner_hash}
use Rattle.dns_denial.proofs.Best.{IsRanking}

-- ---- the order of hashes

hashes_ranked : IsRanking hash_before
hashes_ranked = record {
  itself = λ x. ap is_lt (tied_itself nat_list_cmp_total x);
  back = λ x y h. ap is_lt (nat_list_cmp_total.antisymm y x) ∙ less_back (slice_cmp nat_cmp x y) h;
  past = λ x y z differs holds. less_past (slice_cmp nat_cmp) nat_list_cmp_total x y z (slice_cmp nat_cmp x y)
      refl differs holds;
}

-- ---- going round

-- from one hash on to h another comes strictly between: by whether each is before h, and the one before the other
abbrev round_by : Bool → Bool → Bool → Bool
round_by before_h other_before_h less = cond before_h (less && other_before_h) (less || other_before_h)

itself_by : (ah aa : Bool) → aa ≡ false → round_by ah ah aa ≡ false
itself_by true aa none = ap (λ b. b && true) none
itself_by false aa none = ap (λ b. b || false) none

back_by : (ah bh ab ba : Bool) → (ab ≡ true → ba ≡ false) → round_by ah bh ab ≡ true → round_by bh ah ba ≡ false
back_by true true true ba back h = ap (λ b. b && true) (back refl)
back_by true true false ba back h = absurd (true≢false (sym h))
back_by true false true ba back h = absurd (true≢false (sym h))
back_by true false false ba back h = absurd (true≢false (sym h))
back_by false true ab true back h = refl
back_by false true ab false back h = refl
back_by false false true ba back h = ap (λ b. b || false) (back refl)
back_by false false false ba back h = absurd (true≢false (sym h))

past_by : (ah bh ch ab ac bc : Bool) → (ab ≡ false → ac ≡ true → bc ≡ true) → round_by ah bh ab ≡ false
    → round_by ah ch ac ≡ true → round_by bh ch bc ≡ true
past_by true true true false true bc p g h = ap (λ b. b && true) (p refl refl)
past_by true true true true ac bc p g h = absurd (true≢false g)
past_by true true true false false bc p g h = absurd (true≢false (sym h))
past_by true true false ab true bc p g h = absurd (true≢false (sym h))
past_by true true false ab false bc p g h = absurd (true≢false (sym h))
past_by true false true ab ac true p g h = refl
past_by true false true ab ac false p g h = refl
past_by true false false ab true bc p g h = absurd (true≢false (sym h))
past_by true false false ab false bc p g h = absurd (true≢false (sym h))
past_by false true ch true ac bc p g h = absurd (true≢false g)
past_by false true ch false ac bc p g h = absurd (true≢false g)
past_by false false true ab ac true p g h = refl
past_by false false true ab ac false p g h = refl
past_by false false false true ac bc p g h = absurd (true≢false g)
past_by false false false false true bc p g h = ap (λ b. b || false) (p refl refl)
past_by false false false false false bc p g h = absurd (true≢false (sym h))

pub farther_ranked : (hash : List ℕ) → IsRanking (is_farther hash)
farther_ranked hash = record {
  itself = λ x. itself_by (hash_before (owner_hash x) hash) (hash_before (owner_hash x) (owner_hash x))
      (hashes_ranked.itself (owner_hash x));
  back = λ x y. back_by (hash_before (owner_hash x) hash) (hash_before (owner_hash y) hash)
      (hash_before (owner_hash x) (owner_hash y)) (hash_before (owner_hash y) (owner_hash x))
      (hashes_ranked.back (owner_hash x) (owner_hash y));
  past = λ x y z. past_by (hash_before (owner_hash x) hash) (hash_before (owner_hash y) hash)
      (hash_before (owner_hash z) hash)
      (hash_before (owner_hash x) (owner_hash y)) (hash_before (owner_hash x) (owner_hash z))
      (hash_before (owner_hash y) (owner_hash z))
      (hashes_ranked.past (owner_hash x) (owner_hash y) (owner_hash z));
}
