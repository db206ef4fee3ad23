-- DS records that are found by algorithm and tag are those that count for a key.
use Rattle.std.proofs.Common.{◌≡◌, ℕ, zero, suc, ◌+◌, ◌-◌, ◌<◌, ◌≤◌, Bool, true, false, ◌&&◌, cond, List, [], ◌∷◌, ◌++◌, length, take, drop, Option, None, Some, refl, sym, ap, ◌∙◌, arith, append-nil}
use Rattle.std.specs.Prelude.{◌==◌, ◌||◌, is_some, nat_lt, slice_index_or, if◌then◌else◌}
use Rattle.std.specs.Option.{option_map_or}
use Rattle.std.specs.List.{filter, find}
use Rattle.std.specs.Borrow.{Bor}
use Rattle.std.specs.Prelude.{Vec}
use Rattle.std.specs.BTreeMap.{BTreeMap, Updates, get, is_at}
use Rattle.std.specs.declared.cmp.Ordering.{Ordering}
use Rattle.std.specs.declared.cmp.Ordering.TheVariants.{Less, Equal, Greater}
use Rattle.std.specs.Ordering.{is_eq, nat_cmp, ordering_then}
use Rattle.std.proofs.lemmas.Bool.Decides.{nat_tests}
use Rattle.std.proofs.lemmas.Bool.{and_parts, eqb-true}
use Rattle.std.proofs.lemmas.List.{drop_more, length-map, map-append, take_all}
use Rattle.std.proofs.lemmas.List.Elements.{filter_more}
use Rattle.dns_model.specs.Names.{Labels, name_eq}
use Rattle.dns_model.specs.Records.{Rr}
use Rattle.dns_model.specs.RecordViews.{dnskey_of}
use Rattle.dns_model.specs.Views.{DnskeyValue}
use Rattle.dns_model.specs.Signing.{key_tag_of}
use Rattle.dns_model.specs.Keys.{VerifierAnswers, ds_covers_key}
use Rattle.dns_rules.specs.Delegations.{ds_of, is_digest_type, counted_ds, matching_ds}
use Rattle.dns_rdata.specs.Covers.{digest_type_of}
use Rattle.dns_trust.specs.Delegating.{KeepsFirstTwo, counted_after, counted_at, is_delegation_at, kept_two, algorithm_and_tag, algorithm_tag_cmp, shown, shown_or_none}

-- of a list that is longer by one the first two
two_more : (ys : List Rr) (r : Rr) → kept_two (take 2 ys) r ≡ take 2 (ys ++ r ∷ [])
two_more [] r = refl
two_more (a ∷ []) r = refl
two_more (a ∷ b ∷ ys) r = refl

counted_step : (ys kept : List Rr) (b : Bool) (r : Rr) → kept ≡ take 2 ys
    → (if b then kept_two kept r else kept) ≡ take 2 (ys ++ cond b (r ∷ []) [])
counted_step ys kept true r is = ap (λ k. kept_two k r) is ∙ two_more ys r
counted_step ys kept false r is = is ∙ ap (take 2) (sym (append-nil ys))

-- ---- a map of them

then_eq : (o p : Ordering) → is_eq (ordering_then o p) ≡ (is_eq o && is_eq p)
then_eq Less p = refl
then_eq Equal p = refl
then_eq Greater p = refl

eq_back : (n a : ℕ) → is_eq (nat_cmp n a) ≡ (a == n)
eq_back n a = grind (arith, nat_tests)

-- another algorithm or tag is another key of the map
pub tag_at : (n m a t : ℕ) → is_at (algorithm_tag_cmp (n, m)) (a, t) ≡ ((a == n) && (t == m))
tag_at n m a t = then_eq (nat_cmp n a) (nat_cmp m t) ∙ ap (λ b. b && is_eq (nat_cmp m t)) (eq_back n a)
    ∙ ap (λ b. (a == n) && b) (eq_back m t)

few_true : (n : ℕ) → n < 2 → nat_lt n 2 ≡ true
few_true n h = grind (arith, nat_tests)

few_false : (n : ℕ) → 2 ≤ n → nat_lt n 2 ≡ false
few_false n h = grind (arith, nat_tests)

kept_few : (rs : List Rr) (r : Rr) → length rs < 2 → kept_two rs r ≡ rs ++ r ∷ []
kept_few rs r h = ap (λ b. if b then rs ++ r ∷ [] else rs) (few_true (length rs) h)

kept_full : (rs : List Rr) (r : Rr) → 2 ≤ length rs → kept_two rs r ≡ rs
kept_full rs r h = ap (λ b. if b then rs ++ r ∷ [] else rs) (few_false (length rs) h)

both_equal : (n m a t : ℕ) → ((a == n) && (t == m)) ≡ true → (a ≡ n) × (t ≡ m)
both_equal n m a t h = let parts = and_parts (a == n) (t == m) h in (eqb-true a n parts.0, eqb-true t m parts.1)

module _ {Z : Type 0} where
  tag_step : (m : BTreeMap (ℕ × ℕ) (Vec (Bor Rr) Z)) (v : Vec (Bor Rr) Z) (r : Rr) (algorithm tag a t : ℕ) (b : Bool)
      → (b ≡ true → (a ≡ algorithm) × (t ≡ tag)) → shown v.items ≡ kept_two (counted_at m algorithm tag) r
      → shown_or_none (cond b (Some v) (get algorithm_tag_cmp m (a, t))) ≡ cond b (kept_two (counted_at m a t) r) (counted_at m a t)
  unfolding counted_at
  tag_step m v r algorithm tag a t true same is =
      is ∙ ap (λ x. kept_two (counted_at m x tag) r) (sym (same refl).0) ∙ ap (λ x. kept_two (counted_at m a x) r) (sym (same refl).1)
  tag_step m v r algorithm tag a t false same is = refl

  -- one record more of its algorithm and tag
  pub tag_updated : (m n : BTreeMap (ℕ × ℕ) (Vec (Bor Rr) Z)) (v : Vec (Bor Rr) Z) (r : Rr) (algorithm tag : ℕ)
      → Updates algorithm_tag_cmp m n (algorithm, tag) (Some v) → shown v.items ≡ kept_two (counted_at m algorithm tag) r
      → (a t : ℕ) → counted_at n a t ≡ counted_after m ((a == algorithm) && (t == tag)) r a t
  unfolding counted_at
  tag_updated m n v r algorithm tag updates is a t =
      ap shown_or_none (updates.0 (a, t) ∙ ap (λ b. cond b (Some v) (get algorithm_tag_cmp m (a, t))) (tag_at algorithm tag a t))
      ∙ tag_step m v r algorithm tag a t ((a == algorithm) && (t == tag)) (both_equal algorithm tag a t) is

  -- there were fewer than two
  pub tag_pushed : (m : BTreeMap (ℕ × ℕ) (Vec (Bor Rr) Z)) (there v : Vec (Bor Rr) Z) (r : Bor Rr) (algorithm tag : ℕ)
      → Some there ≡ get algorithm_tag_cmp m (algorithm, tag) → length there.items < 2 → v.items ≡ there.items ++ r ∷ []
      → shown v.items ≡ kept_two (counted_at m algorithm tag) r.now
  unfolding counted_at
  tag_pushed m there v r algorithm tag is few more =
      ap shown more ∙ map-append (λ x. x.now) there.items (r ∷ [])
      ∙ sym (ap (λ o. kept_two (shown_or_none o) r.now) (sym is)
      ∙ kept_few (shown there.items) r.now (omega (arith, few, length-map there.items (λ (x : Bor Rr). x.now))))

  -- there were two
  pub tag_full : (m : BTreeMap (ℕ × ℕ) (Vec (Bor Rr) Z)) (there : Vec (Bor Rr) Z) (r : Rr) (algorithm tag : ℕ)
      → Some there ≡ get algorithm_tag_cmp m (algorithm, tag) → 2 ≤ length there.items
      → shown there.items ≡ kept_two (counted_at m algorithm tag) r
  unfolding counted_at
  tag_full m there r algorithm tag is full =
      sym (ap (λ o. kept_two (shown_or_none o) r) (sym is)
      ∙ kept_full (shown there.items) r (omega (arith, full, length-map there.items (λ (x : Bor Rr). x.now))))

  -- there was none
  pub tag_new : (m : BTreeMap (ℕ × ℕ) (Vec (Bor Rr) Z)) (v : Vec (Bor Rr) Z) (r : Bor Rr) (algorithm tag : ℕ)
      → None ≡ get algorithm_tag_cmp m (algorithm, tag) → v.items ≡ r ∷ [] → shown v.items ≡ kept_two (counted_at m algorithm tag) r.now
  unfolding counted_at
  tag_new m v r algorithm tag is one = ap shown one ∙ ap (λ o. kept_two (shown_or_none o) r.now) is

  pub none_counted : (owner : Labels) (records : List Rr) (m : BTreeMap (ℕ × ℕ) (Vec (Bor Rr) Z)) → m.entries ≡ []
      → KeepsFirstTwo owner (take 0 records) m
  unfolding counted_at
  none_counted owner records m empty a t = rw empty refl

  pub counted_all : (owner : Labels) (records : List Rr) (i : ℕ) (m : BTreeMap (ℕ × ℕ) (Vec (Bor Rr) Z)) → length records ≤ i
      → KeepsFirstTwo owner (take i records) m
      → KeepsFirstTwo owner records m
  counted_all owner records i m h counted a t = counted a t
      ∙ ap (λ rs. take 2 (filter (is_delegation_at owner a t) rs)) (take_all i records h)

  -- one record more
  pub counted_more : (owner : Labels) (records : List Rr) (i : ℕ) (m n : BTreeMap (ℕ × ℕ) (Vec (Bor Rr) Z)) (r : Rr)
      → i < length records → r ≡ slice_index_or records i r
      → KeepsFirstTwo owner (take i records) m
      → ((a t : ℕ) → counted_at n a t ≡ counted_after m (is_delegation_at owner a t r) r a t)
      → KeepsFirstTwo owner (take (i + 1) records) n
  counted_more owner records i m n r h is before after a t =
      let test = is_delegation_at owner a t in
      after a t
      ∙ counted_step (filter test (take i records)) (counted_at m a t) (test r) r (before a t)
      ∙ ap (take 2) (sym (filter_more test records i r h ∙ ap (λ k. filter test (take i records) ++ cond (test k) (k ∷ []) []) (sym is)))

-- ---- by a key

-- the records that count for a key
pub counted_for : (owner : Labels) (key : Rr) (records : List Rr) (text : DnskeyValue) → dnskey_of key ≡ Some text
    → counted_ds owner key records ≡ take 2 (filter (is_delegation_at owner text.algorithm (key_tag_of key.rdata)) records)
counted_for owner key records text is =
    ap (λ o. take 2 (filter (λ r. name_eq owner r.owner
    && option_map_or (λ k. option_map_or (λ ds. (k.algorithm == ds.algorithm) && (key_tag_of key.rdata == ds.key_tag)) (ds_of r) false)
    o false) records)) is

skipped : (b : Bool) (r : Rr) (rest : List Rr) → rest ≡ [] → cond (b && false) (r ∷ rest) rest ≡ []
skipped true r rest h = h
skipped false r rest h = h

no_ds : (owner : Labels) (records : List Rr) → filter (λ r. name_eq owner r.owner && false) records ≡ []
no_ds owner [] = refl
no_ds owner (r ∷ records) = skipped (name_eq owner r.owner) r (filter (λ r. name_eq owner r.owner && false) records) (no_ds owner records)

-- a record that is no key is matched by none
pub no_key_matched : (answers : VerifierAnswers) (owner : Labels) (key : Rr) (records : List Rr) → dnskey_of key ≡ None
    → matching_ds answers owner key records ≡ None
no_key_matched answers owner key records is =
    let test = λ (r : Rr). ds_covers_key answers owner key.rdata r.rdata in
    ap (λ o. find test (take 2 (filter (λ r. name_eq owner r.owner
    && option_map_or (λ k. option_map_or (λ ds. (k.algorithm == ds.algorithm) && (key_tag_of key.rdata == ds.key_tag)) (ds_of r) false)
    o false) records))) is
    ∙ ap (λ rs. find test (take 2 rs)) (no_ds owner records)

-- ---- one after the other, where there is no map

left_from : (q : Rr → Bool) (rs : List Rr) (i : ℕ) (r : Rr) → i < length rs → r ≡ slice_index_or rs i r
    → filter q (drop i rs) ≡ cond (q r) (r ∷ filter q (drop (i + 1) rs)) (filter q (drop (i + 1) rs))
left_from q rs i r h is = ap (filter q) (drop_more rs i r h) ∙ ap (λ x. filter q (x ∷ drop (i + 1) rs)) (sym is)

take_next : (k : ℕ) (r : Rr) (rest : List Rr) → k < 2 → take (2 - k) (r ∷ rest) ≡ r ∷ take (2 - (k + 1)) rest
take_next zero r rest h = refl
take_next (suc zero) r rest h = refl
take_next (suc (suc k)) r rest h = absurd (omega arith)

-- the record at this number counts and is the one
pub met_here : (test q : Rr → Bool) (rs : List Rr) (i k : ℕ) (r : Rr) → k < 2 → i < length rs → r ≡ slice_index_or rs i r
    → q r ≡ true → test r ≡ true
    → find test (take (2 - k) (filter q (drop i rs))) ≡ Some r
met_here test q rs i k r few h is met passed =
    let rest = filter q (drop (i + 1) rs) in
    ap (λ xs. find test (take (2 - k) xs)) (left_from q rs i r h is ∙ ap (λ b. cond b (r ∷ rest) rest) met)
    ∙ ap (find test) (take_next k r rest few)
    ∙ ap (λ b. cond b (Some r) (find test (take (2 - (k + 1)) rest))) passed

-- it counts and isn't
pub met_past : (test q : Rr → Bool) (rs : List Rr) (i k : ℕ) (r : Rr) → k < 2 → i < length rs → r ≡ slice_index_or rs i r
    → q r ≡ true → test r ≡ false
    → find test (take (2 - (k + 1)) (filter q (drop (i + 1) rs))) ≡ find test (take (2 - k) (filter q (drop i rs)))
met_past test q rs i k r few h is met failed =
    let rest = filter q (drop (i + 1) rs) in
    sym (ap (λ xs. find test (take (2 - k) xs)) (left_from q rs i r h is ∙ ap (λ b. cond b (r ∷ rest) rest) met)
    ∙ ap (find test) (take_next k r rest few)
    ∙ ap (λ b. cond b (Some r) (find test (take (2 - (k + 1)) rest))) failed)

-- it doesn't count
pub unmet_past : (test q : Rr → Bool) (rs : List Rr) (i k : ℕ) (r : Rr) → i < length rs → r ≡ slice_index_or rs i r → q r ≡ false
    → find test (take (2 - k) (filter q (drop (i + 1) rs))) ≡ find test (take (2 - k) (filter q (drop i rs)))
unmet_past test q rs i k r h is unmet =
    let rest = filter q (drop (i + 1) rs) in
    sym (ap (λ xs. find test (take (2 - k) xs)) (left_from q rs i r h is ∙ ap (λ b. cond b (r ∷ rest) rest) unmet))

-- ---- the DS that matches a key, by the map

unread_key : (rdata : List ℕ) (o : Option DnskeyValue) → algorithm_and_tag rdata o ≡ None → o ≡ None
unread_key rdata None h = refl
unread_key rdata (Some text) h = cc

pub match_unread : (answers : VerifierAnswers) (owner : Labels) (key : Rr) (records : List Rr)
    → algorithm_and_tag key.rdata (dnskey_of key) ≡ None
    → matching_ds answers owner key records ≡ None
match_unread answers owner key records none = no_key_matched answers owner key records (unread_key key.rdata (dnskey_of key) none)

module _ {Z : Type 0} (answers : VerifierAnswers) (owner : Labels) (key : Rr) (records : List Rr)
    (m : BTreeMap (ℕ × ℕ) (Vec (Bor Rr) Z)) where
  match_step : (pair : ℕ × ℕ) (o : Option DnskeyValue) → dnskey_of key ≡ o → algorithm_and_tag key.rdata o ≡ Some pair
      → KeepsFirstTwo owner records m
      → matching_ds answers owner key records ≡ find (λ r. ds_covers_key answers owner key.rdata r.rdata) (counted_at m pair.0 pair.1)
  match_step pair None is at counted = cc
  match_step pair (Some text) is at counted =
      let test = λ (r : Rr). ds_covers_key answers owner key.rdata r.rdata in
      let same : (text.algorithm, key_tag_of key.rdata) ≡ pair = cc in
      ap (find test) (counted_for owner key records text is ∙ sym (counted text.algorithm (key_tag_of key.rdata)))
      ∙ ap (λ (p : ℕ × ℕ). find test (counted_at m p.0 p.1)) same

  -- some records are kept for its algorithm and tag
  pub match_there : (pair : ℕ × ℕ) (there : Vec (Bor Rr) Z) → algorithm_and_tag key.rdata (dnskey_of key) ≡ Some pair
      → KeepsFirstTwo owner records m
      → Some there ≡ get algorithm_tag_cmp m pair
      → find (λ r. ds_covers_key answers owner key.rdata r.rdata) (shown there.items) ≡ matching_ds answers owner key records
  unfolding counted_at
  match_there pair there at counted is =
      ap (λ o. find (λ r. ds_covers_key answers owner key.rdata r.rdata) (shown_or_none o)) is
      ∙ sym (match_step pair (dnskey_of key) refl at counted)

  -- none are
  pub match_none : (pair : ℕ × ℕ) → algorithm_and_tag key.rdata (dnskey_of key) ≡ Some pair → KeepsFirstTwo owner records m
      → None ≡ get algorithm_tag_cmp m pair → matching_ds answers owner key records ≡ None
  unfolding counted_at
  match_none pair at counted is =
      match_step pair (dnskey_of key) refl at counted
      ∙ sym (ap (λ o. find (λ r. ds_covers_key answers owner key.rdata r.rdata) (shown_or_none o)) is)

-- ---- the digest types that are supported

some_if : {X : Type 0} (a b c : Bool) (x y z : X)
    → is_some (if a then Some x else if b then Some y else if c then Some z else None) ≡ (a || (b || c))
some_if true b c x y z = refl
some_if false true c x y z = refl
some_if false false true x y z = refl
some_if false false false x y z = refl

pub supported_type : (n : ℕ) → is_some (digest_type_of n) ≡ is_digest_type n
supported_type n = some_if (n == 1) (n == 2) (n == 4) _ _ _
