-- What is kept once more records were taken.
use Rattle.std.proofs.Common.{◌≡◌, ℕ, ◌-◌, ◌<◌, zero, suc, Bool, true, false, cond, not, ◌&&◌, ◌||◌, ◌==◌, List, [], ◌∷◌, ◌++◌, length, drop, slice_index_or, Option, None, Some, refl, ap, ◌∙◌, arith}
use Rattle.std.specs.List.{cons_option, filter_map, list_any, Contains}
use Rattle.std.specs.Option.{option_map, option_map_or, option_or}
use Rattle.dns_model.specs.Names.{Labels}
use Rattle.dns_model.specs.Types.{class_in}
use Rattle.dns_model.specs.Records.{Rr}
use Rattle.dns_model.specs.Owned.{OwnedNsec, OwnedNsec3}
use Rattle.dns_model.specs.SoundAnswers.{ChainValue, ResponseValue, is_secure}
use Rattle.dns_rules.specs.Denying.{owned_nsec, owned_nsec3}
use Rattle.dns_aggressive.specs.declared.kept.KeptRecord.{KeptRecord}
use Rattle.dns_aggressive.specs.declared.kept.KeptRecord.TheVariants.{Nsec, Nsec3}
use Rattle.dns_aggressive.specs.Records.{KeptValue}
use Rattle.dns_aggressive.specs.Taking.{if_plain, is_plain_hash, item_of, kept_as, taken, taken_as, zone_in}
use Rattle.dns_aggressive.specs.Lists.{AreAmong, kept_after, last_of, latest, same_place}
use Rattle.dns_aggressive.specs.Flags.{IsStored, are_apart, are_plain, is_plain}

-- ---- each record has a place of its own

none_left : (p : KeptValue → Bool) (b : Bool) (x : KeptValue) (xs : List KeptValue) → (p x || list_any p xs) ≡ false
    → (list_any p xs ≡ false → list_any p (latest xs) ≡ false) → list_any p (cond b (latest xs) (x ∷ latest xs)) ≡ false
none_left p true x xs h more = more (second (p x) (list_any p xs) h)
  where
    second : (a c : Bool) → (a || c) ≡ false → c ≡ false
    second true c h = cc
    second false c h = h
none_left p false x xs h more = both (p x) (list_any p (latest xs)) (first (p x) (list_any p xs) h)
    (more (second (p x) (list_any p xs) h))
  where
    first : (a c : Bool) → (a || c) ≡ false → a ≡ false
    first true c h = cc
    first false c h = refl

    second : (a c : Bool) → (a || c) ≡ false → c ≡ false
    second true c h = cc
    second false c h = h

    both : (a c : Bool) → a ≡ false → c ≡ false → (a || c) ≡ false
    both true c h k = cc
    both false c h k = k

none_latest : (p : KeptValue → Bool) (xs : List KeptValue) → list_any p xs ≡ false → list_any p (latest xs) ≡ false
unfolding latest
none_latest p [] h = refl
none_latest p (x ∷ xs) h = none_left p (list_any (same_place x) xs) x xs h (none_latest p xs)

apart_step : (b : Bool) (x : KeptValue) (xs : List KeptValue) → list_any (same_place x) xs ≡ b
    → are_apart (latest xs) ≡ true
    → are_apart (cond b (latest xs) (x ∷ latest xs)) ≡ true
unfolding are_apart
apart_step true x xs is h = h
apart_step false x xs is h =
    ap (λ b. not b && are_apart (latest xs)) (none_latest (same_place x) xs is) ∙ h

pub apart_latest : (xs : List KeptValue) → are_apart (latest xs) ≡ true
unfolding are_apart latest
apart_latest [] = refl
apart_latest (x ∷ xs) = apart_step (list_any (same_place x) xs) x xs refl (apart_latest xs)

rest_true : (a b : Bool) → (not a && b) ≡ true → b ≡ true
rest_true true b h = cc
rest_true false b h = h

apart_drop : (n : ℕ) (xs : List KeptValue) → are_apart xs ≡ true → are_apart (drop n xs) ≡ true
unfolding are_apart
apart_drop zero xs h = h
apart_drop (suc n) [] h = refl
apart_drop (suc n) (x ∷ xs) h = apart_drop n xs (rest_true (list_any (same_place x) xs) (are_apart xs) h)

pub apart_after : (limit : ℕ) (xs : List KeptValue) → are_apart (last_of limit (latest xs)) ≡ true
apart_after limit xs = apart_drop (length (latest xs) - limit) (latest xs) (apart_latest xs)

-- ---- nothing else is kept

more_among : (xs : List KeptValue) (x : KeptValue) → AreAmong xs (x ∷ xs)
more_among xs x k there = let within = there.1 in (suc there.0, omega (arith, within), there.2)

head_step : (xs ys : List KeptValue) (x k : KeptValue) → AreAmong xs ys → (i : ℕ) → i < length (x ∷ xs)
    → slice_index_or (x ∷ xs) i k ≡ k
    → Contains (x ∷ ys) k
head_step xs ys x k h zero within is = (0, omega arith, is)
head_step xs ys x k h (suc i) within is = more_among ys x k (h k (i, omega (arith, within), is))

same_head : (xs ys : List KeptValue) (x : KeptValue) → AreAmong xs ys → AreAmong (x ∷ xs) (x ∷ ys)
same_head xs ys x h k there = head_step xs ys x k h there.0 there.1 there.2

latest_step : (b : Bool) (x : KeptValue) (xs : List KeptValue) → AreAmong (latest xs) xs
    → AreAmong (cond b (latest xs) (x ∷ latest xs)) (x ∷ xs)
latest_step true x xs h = λ k there. more_among xs x k (h k there)
latest_step false x xs h = same_head (latest xs) xs x h

latest_among : (xs : List KeptValue) → AreAmong (latest xs) xs
unfolding latest
latest_among [] = λ k there. there
latest_among (x ∷ xs) = latest_step (list_any (same_place x) xs) x xs (latest_among xs)

drop_among : (n : ℕ) (xs : List KeptValue) → AreAmong (drop n xs) xs
drop_among zero xs k there = there
drop_among (suc n) [] k there = there
drop_among (suc n) (x ∷ xs) k there = more_among xs x k (drop_among n xs k there)

pub after_among : (limit : ℕ) (xs : List KeptValue) → AreAmong (last_of limit (latest xs)) xs
after_among limit xs k there = latest_among xs k (drop_among (length (latest xs) - limit) (latest xs) k there)

-- ---- each record may be kept

plain_left : (a b : Bool) → (a && b) ≡ true → a ≡ true
plain_left true b h = refl
plain_left false b h = cc

plain_right : (a b : Bool) → (a && b) ≡ true → b ≡ true
plain_right true b h = h
plain_right false b h = cc

plain_both : (a b : Bool) → a ≡ true → b ≡ true → (a && b) ≡ true
plain_both true b h k = k
plain_both false b h k = cc

keeps_plain : (b : Bool) (x : KeptValue) (xs : List KeptValue) → is_plain x.item ≡ true → are_plain xs ≡ true
    → are_plain (cond b xs (x ∷ xs)) ≡ true
keeps_plain true x xs h k = k
keeps_plain false x xs h k = plain_both _ _ h k

plain_latest : (xs : List KeptValue) → are_plain xs ≡ true → are_plain (latest xs) ≡ true
unfolding latest
plain_latest [] h = refl
plain_latest (x ∷ xs) h = keeps_plain (list_any (same_place x) xs) x (latest xs) (plain_left _ _ h)
    (plain_latest xs (plain_right _ _ h))

plain_drop : (n : ℕ) (xs : List KeptValue) → are_plain xs ≡ true → are_plain (drop n xs) ≡ true
plain_drop zero xs h = h
plain_drop (suc n) [] h = refl
plain_drop (suc n) (x ∷ xs) h = plain_drop n xs (plain_right _ _ h)

plain_append : (xs ys : List KeptValue) → are_plain xs ≡ true → are_plain ys ≡ true → are_plain (xs ++ ys) ≡ true
plain_append [] ys h k = k
plain_append (x ∷ xs) ys h k = plain_both _ _ (plain_left _ _ h) (plain_append xs ys (plain_right _ _ h) k)

if_plain_is : (b : Bool) (nsec3 : OwnedNsec3) → is_plain_hash nsec3 ≡ b
    → option_map_or is_plain (cond b (Some (Nsec3 nsec3)) None) true ≡ true
if_plain_is true nsec3 h = h
if_plain_is false nsec3 h = refl

plain_item : (n : Option OwnedNsec) (m : Option OwnedNsec3)
    → option_map_or is_plain (option_or (option_map Nsec n) (if_plain m)) true ≡ true
plain_item (Some nsec) m = refl
plain_item None None = refl
plain_item None (Some nsec3) = if_plain_is (is_plain_hash nsec3) nsec3 refl

plain_as : (now : ℕ) (r : Rr) (zone : Option Labels) (item : Option KeptRecord)
    → option_map_or is_plain item true ≡ true
    → option_map_or (λ k. is_plain k.item) (kept_as now r zone item) true ≡ true
plain_as now r None item h = refl
plain_as now r (Some zone) None h = refl
plain_as now r (Some zone) (Some item) h = h

plain_if : (b : Bool) (o : Option KeptValue) → option_map_or (λ k. is_plain k.item) o true ≡ true
    → option_map_or (λ k. is_plain k.item) (cond b o None) true ≡ true
plain_if true o h = h
plain_if false o h = refl

plain_one : (chains : List ChainValue) (now : ℕ) (r : Rr)
    → option_map_or (λ k. is_plain k.item) (taken_as chains now r) true ≡ true
plain_one chains now r =
    plain_if (is_secure r.proof && (r.class == class_in)) (kept_as now r (zone_in chains r) (item_of r))
    (plain_as now r (zone_in chains r) (item_of r) (plain_item (owned_nsec r) (owned_nsec3 r)))

put_plain : (o : Option KeptValue) (xs : List KeptValue) → option_map_or (λ k. is_plain k.item) o true ≡ true
    → are_plain xs ≡ true
    → are_plain (cons_option o xs) ≡ true
put_plain None xs h k = k
put_plain (Some x) xs h k = plain_both _ _ h k

taken_plain : (chains : List ChainValue) (now : ℕ) (rs : List Rr)
    → are_plain (filter_map (taken_as chains now) rs) ≡ true
taken_plain chains now [] = refl
taken_plain chains now (r ∷ rs) = put_plain (taken_as chains now r) (filter_map (taken_as chains now) rs)
    (plain_one chains now r) (taken_plain chains now rs)

-- what is kept after more records were taken may be kept, each with a place of its own
pub stored_after : (limit : ℕ) (before : List KeptValue) (response : ResponseValue) (now : ℕ) → IsStored before
    → IsStored (kept_after limit before (taken response now))
stored_after limit before response now h =
    let all = before ++ taken response now in
    record {
      apart = apart_after limit all;
      plain = plain_drop (length (latest all) - limit) (latest all)
          (plain_latest all (plain_append before (taken response now) h.plain
          (taken_plain response.chains now response.message.authorities)));
    }

pub stored_none : IsStored []
unfolding are_apart
stored_none = record { apart = refl; plain = refl }
