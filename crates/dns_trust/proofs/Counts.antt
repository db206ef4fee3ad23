-- Which keys of a zone are tried, as the tags are counted.
use Rattle.std.proofs.Common.{◌≡◌, ℕ, ◌+◌, ◌<◌, ◌≤◌, Bool, true, false, ◌&&◌, ◌||◌, cond, List, [], ◌∷◌, ◌++◌, length, take, drop, refl, sym, ap, ◌∙◌, arith, zero-add, append_assoc}
use Rattle.std.specs.Prelude.{nat_lt, ◌==◌, min, None, Some, slice_index_or}
use Rattle.std.specs.List.{filter, find, count_by, list_any}
use Rattle.std.specs.Ordering.{nat_cmp}
use Rattle.std.specs.BTreeMap.{BTreeMap, is_at, Updates}
use Rattle.std.proofs.lemmas.Bool.Decides.{nat_tests}
use Rattle.std.proofs.lemmas.List.{drop_more, drop_all, append-nil}
use Rattle.std.proofs.lemmas.List.Elements.{filter_more}
use Rattle.std.proofs.lemmas.List.Sums.{sum_by-append}
use Rattle.std.proofs.lemmas.Grind.{common_steps}
use Rattle.dns_model.specs.Names.{Labels}
use Rattle.dns_model.specs.Records.{Rr}
use Rattle.dns_model.specs.Signing.{key_tag_of}
use Rattle.dns_model.proofs.SetLemmas.{number_same}
use Rattle.dns_rules.specs.Marks.{is_key_of_zone, same_tag, counted_keys, Insecure, Failed}
use Rattle.dns_rules.specs.MarkParts.{by_insecure_key}
use Rattle.dns_rules.proofs.FirstLemmas.{early_after, first_two-after}
use Rattle.dns_trust.specs.Counting.{count_in, tag_count_after, count_after, is_tried}

nat_at : (k q : ℕ) → is_at (nat_cmp k) q ≡ (k == q)
nat_at k q = grind (arith, nat_tests)

-- a tag that was met less than twice is counted
pub count_once : (m n : BTreeMap ℕ ℕ) (tag v : ℕ) → Updates nat_cmp m n tag (Some v) → v ≡ count_in m tag + 1
    → nat_lt (count_in m tag) 2 ≡ true
    → (t : ℕ) → count_in n t ≡ tag_count_after m tag t
unfolding count_in
count_once m n tag v h is small t = let at = nat_at tag t in grind (arith, nat_tests, common_steps, h.0 t, at)

-- the keys of a zone in a list
abbrev zone_keys : Labels → List Rr → List Rr
zone_keys zone keys = filter (is_key_of_zone zone) keys

-- the keys that are left, after those before
abbrev left_after : Labels → List Rr → ℕ → List Rr
left_after zone keys i = early_after (zone_keys zone (take i keys)) (zone_keys zone (drop i keys))

-- the tags of the keys so far are counted
abbrev pub AreCounted : Labels → List Rr → ℕ → BTreeMap ℕ ℕ → Type 0
AreCounted zone keys i m = (r : Rr) → count_in m (key_tag_of r.rdata) ≡ min 2 (count_by (same_tag r) (zone_keys zone (take i keys)))

-- the tags of the keys so far are counted, and a search goes on among the keys that are left
pub record Tried (p : Rr → Bool) (zone : Labels) (keys : List Rr) (i : ℕ) (m : BTreeMap ℕ ℕ) : Type 0 where
  pub counted : (r : Rr) → count_in m (key_tag_of r.rdata) ≡ min 2 (count_by (same_tag r) (zone_keys zone (take i keys)))
  pub searched : find p (left_after zone keys i) ≡ find p (counted_keys zone keys)

-- no key was met
pub none_tried : (p : Rr → Bool) (zone : Labels) (keys : List Rr) (m : BTreeMap ℕ ℕ) → m.entries ≡ [] → Tried p zone keys 0 m
unfolding count_in
none_tried p zone keys m empty =
    record { counted = λ r. rw empty refl; searched = ap (find p) (sym (first_two-after (zone_keys zone keys))) }

least_below : (n : ℕ) → nat_lt (min 2 n) 2 ≡ nat_lt n 2
least_below n = grind (arith, nat_tests)

-- what is left once one key more was met
pub next_of : (earlier : List Rr) (key : Rr) (rest : List Rr) → early_after earlier (key ∷ rest)
    ≡ cond (nat_lt (count_by (same_tag key) earlier) 2) (key ∷ early_after (earlier ++ key ∷ []) rest)
    (early_after (earlier ++ key ∷ []) rest)
unfolding early_after
next_of earlier key rest = refl

-- the zone's keys, once one record more was met
readable_more : (zone : Labels) (keys : List Rr) (i : ℕ) (key : Rr) → i < length keys → key ≡ slice_index_or keys i key
    → zone_keys zone (take (i + 1) keys) ≡ zone_keys zone (take i keys) ++ cond (is_key_of_zone zone key) (key ∷ []) []
readable_more zone keys i key h is =
    filter_more (is_key_of_zone zone) keys i key h
    ∙ ap (λ k. zone_keys zone (take i keys) ++ cond (is_key_of_zone zone k) (k ∷ []) []) (sym is)

-- the zone's keys from a place on
readable_from : (zone : Labels) (keys : List Rr) (i : ℕ) (key : Rr) → i < length keys → key ≡ slice_index_or keys i key
    → zone_keys zone (drop i keys) ≡ cond (is_key_of_zone zone key) (key ∷ zone_keys zone (drop (i + 1) keys))
    (zone_keys zone (drop (i + 1) keys))
readable_from zone keys i key h is =
    ap (zone_keys zone) (drop_more keys i key h) ∙ ap (λ k. zone_keys zone (k ∷ drop (i + 1) keys)) (sym is)

-- the key at a place comes first where it is one of the first two of its tag
left_step : (zone : Labels) (keys : List Rr) (i : ℕ) (key : Rr) (can few : Bool) → i < length keys → key ≡ slice_index_or keys i key
    → can ≡ is_key_of_zone zone key → few ≡ nat_lt (count_by (same_tag key) (zone_keys zone (take i keys))) 2
    → left_after zone keys i ≡ cond (can && few) (key ∷ left_after zone keys (i + 1)) (left_after zone keys (i + 1))
left_step zone keys i key true few h is can tried =
    let here : zone_keys zone (drop i keys) ≡ key ∷ zone_keys zone (drop (i + 1) keys) = readable_from zone keys i key h is
    ∙ ap (λ b. cond b (key ∷ zone_keys zone (drop (i + 1) keys)) (zone_keys zone (drop (i + 1) keys))) (sym can) in
    let more : zone_keys zone (take (i + 1) keys) ≡ zone_keys zone (take i keys) ++ key ∷ [] = readable_more zone keys i key h is
    ∙ ap (λ b. zone_keys zone (take i keys) ++ cond b (key ∷ []) []) (sym can) in
    ap (early_after (zone_keys zone (take i keys))) here
    ∙ next_of (zone_keys zone (take i keys)) key (zone_keys zone (drop (i + 1) keys))
    ∙ ap (λ b. cond b (key ∷ early_after (zone_keys zone (take i keys) ++ key ∷ []) (zone_keys zone (drop (i + 1) keys)))
    (early_after (zone_keys zone (take i keys) ++ key ∷ []) (zone_keys zone (drop (i + 1) keys)))) (sym tried)
    ∙ ap (λ earlier. cond few (key ∷ early_after earlier (zone_keys zone (drop (i + 1) keys)))
    (early_after earlier (zone_keys zone (drop (i + 1) keys)))) (sym more)
left_step zone keys i key false few h is can tried =
    let here : zone_keys zone (drop i keys) ≡ zone_keys zone (drop (i + 1) keys) = readable_from zone keys i key h is
    ∙ ap (λ b. cond b (key ∷ zone_keys zone (drop (i + 1) keys)) (zone_keys zone (drop (i + 1) keys))) (sym can) in
    let more : zone_keys zone (take (i + 1) keys) ≡ zone_keys zone (take i keys) = readable_more zone keys i key h is
    ∙ ap (λ b. zone_keys zone (take i keys) ++ cond b (key ∷ []) []) (sym can) ∙ append-nil (zone_keys zone (take i keys)) in
    ap (early_after (zone_keys zone (take i keys))) here
    ∙ ap (λ earlier. early_after earlier (zone_keys zone (drop (i + 1) keys))) (sym more)

-- the same by the counts
left_by : (zone : Labels) (keys : List Rr) (i : ℕ) (m : BTreeMap ℕ ℕ) (key : Rr) → i < length keys
    → key ≡ slice_index_or keys i key → AreCounted zone keys i m
    → left_after zone keys i ≡ cond (is_tried zone m key) (key ∷ left_after zone keys (i + 1)) (left_after zone keys (i + 1))
left_by zone keys i m key h is counted =
    let few : nat_lt (count_in m (key_tag_of key.rdata)) 2 ≡ nat_lt (count_by (same_tag key) (zone_keys zone (take i keys))) 2 =
    ap (λ n. nat_lt n 2) (counted key) ∙ least_below (count_by (same_tag key) (zone_keys zone (take i keys))) in
    left_step zone keys i key (is_key_of_zone zone key) (nat_lt (count_in m (key_tag_of key.rdata)) 2) h is refl few

-- the key at a place is tried, and is the one
pub tried_here : (p : Rr → Bool) (zone : Labels) (keys : List Rr) (i : ℕ) (m : BTreeMap ℕ ℕ) (key : Rr) → i < length keys
    → key ≡ slice_index_or keys i key → Tried p zone keys i m
    → is_tried zone m key ≡ true → p key ≡ true → find p (counted_keys zone keys) ≡ Some key
tried_here p zone keys i m key h is t can good =
    sym t.searched ∙ ap (find p) (left_by zone keys i m key h is t.counted)
    ∙ ap (λ b. find p (cond b (key ∷ left_after zone keys (i + 1)) (left_after zone keys (i + 1)))) can
    ∙ ap (λ b. cond b (Some key) (find p (left_after zone keys (i + 1)))) good

none_left : (p : Rr → Bool) (earlier : List Rr) → find p (early_after earlier []) ≡ None
unfolding early_after
none_left p earlier = refl

-- no key is left
pub tried_end : (p : Rr → Bool) (zone : Labels) (keys : List Rr) (i : ℕ) (m : BTreeMap ℕ ℕ) → length keys ≤ i
    → Tried p zone keys i m → find p (counted_keys zone keys) ≡ None
tried_end p zone keys i m h t = sym t.searched
    ∙ ap (λ rest. find p (early_after (zone_keys zone (take i keys)) (zone_keys zone rest))) (drop_all i keys h)
    ∙ none_left p (zone_keys zone (take i keys))

-- a count, once there is one more
pub count_push : (p : Rr → Bool) (rs : List Rr) (key : Rr) → count_by p (rs ++ key ∷ []) ≡ count_by p rs + cond (p key) 1 0
count_push p rs key = sum_by-append (λ r. cond (p r) 1 0) rs (key ∷ []) ∙ ap (λ n. count_by p rs + n) (zero-add (cond (p key) 1 0))

-- one of a tag more, to two at the most
tag_case : (same : Bool) (own other all : ℕ) → other ≡ min 2 all → (same ≡ true → own ≡ other)
    → cond (same && nat_lt own 2) (own + 1) other ≡ min 2 (all + cond same 1 0)
tag_case false own other all is alike = omega (arith, is)
tag_case true own other all is alike = let e : own ≡ other = alike refl in grind (arith, nat_tests, e, is)

count_step : (zone : Labels) (keys : List Rr) (i : ℕ) (m : BTreeMap ℕ ℕ) (key r : Rr) (can : Bool) → i < length keys
    → key ≡ slice_index_or keys i key
    → can ≡ is_key_of_zone zone key
    → count_in m (key_tag_of r.rdata) ≡ min 2 (count_by (same_tag r) (zone_keys zone (take i keys)))
    → cond can (tag_count_after m (key_tag_of key.rdata) (key_tag_of r.rdata)) (count_in m (key_tag_of r.rdata))
    ≡ min 2 (count_by (same_tag r) (zone_keys zone (take (i + 1) keys)))
count_step zone keys i m key r false h is can t =
    let more : zone_keys zone (take (i + 1) keys) ≡ zone_keys zone (take i keys) = readable_more zone keys i key h is
    ∙ ap (λ b. zone_keys zone (take i keys) ++ cond b (key ∷ []) []) (sym can) ∙ append-nil (zone_keys zone (take i keys)) in
    t ∙ ap (λ rs. min 2 (count_by (same_tag r) rs)) (sym more)
count_step zone keys i m key r true h is can t =
    let more : zone_keys zone (take (i + 1) keys) ≡ zone_keys zone (take i keys) ++ key ∷ [] = readable_more zone keys i key h is
    ∙ ap (λ b. zone_keys zone (take i keys) ++ cond b (key ∷ []) []) (sym can) in
    tag_case (same_tag r key) (count_in m (key_tag_of key.rdata)) (count_in m (key_tag_of r.rdata))
    (count_by (same_tag r) (zone_keys zone (take i keys))) t
    (λ same. ap (count_in m) (sym (number_same (key_tag_of r.rdata) (key_tag_of key.rdata) same)))
    ∙ ap (min 2) (sym (count_push (same_tag r) (zone_keys zone (take i keys)) key))
    ∙ ap (λ rs. min 2 (count_by (same_tag r) rs)) (sym more)

-- the counts, once one key more was met
count_more : (zone : Labels) (keys : List Rr) (i : ℕ) (m n : BTreeMap ℕ ℕ) (key : Rr) → i < length keys
    → key ≡ slice_index_or keys i key → AreCounted zone keys i m
    → ((t : ℕ) → count_in n t ≡ count_after zone m key t) → AreCounted zone keys (i + 1) n
count_more zone keys i m n key h is counted after r = after (key_tag_of r.rdata)
    ∙ count_step zone keys i m key r (is_key_of_zone zone key) h is refl (counted r)

-- a key that isn't tried is passed over
pub tried_skip : (p : Rr → Bool) (zone : Labels) (keys : List Rr) (i : ℕ) (m n : BTreeMap ℕ ℕ) (key : Rr) → i < length keys
    → key ≡ slice_index_or keys i key → Tried p zone keys i m
    → ((t : ℕ) → count_in n t ≡ count_after zone m key t) → is_tried zone m key ≡ false → Tried p zone keys (i + 1) n
tried_skip p zone keys i m n key h is t after cannot = record {
  counted = count_more zone keys i m n key h is t.counted after;
  searched = sym (ap (find p) (left_by zone keys i m key h is t.counted)
      ∙ ap (λ b. find p (cond b (key ∷ left_after zone keys (i + 1)) (left_after zone keys (i + 1)))) cannot) ∙ t.searched;
}

-- a key that is tried in vain is passed over
pub tried_fail : (p : Rr → Bool) (zone : Labels) (keys : List Rr) (i : ℕ) (m n : BTreeMap ℕ ℕ) (key : Rr) → i < length keys
    → key ≡ slice_index_or keys i key → Tried p zone keys i m
    → ((t : ℕ) → count_in n t ≡ count_after zone m key t) → is_tried zone m key ≡ true → p key ≡ false → Tried p zone keys (i + 1) n
tried_fail p zone keys i m n key h is t after can bad = record {
  counted = count_more zone keys i m n key h is t.counted after;
  searched = sym (ap (find p) (left_by zone keys i m key h is t.counted)
      ∙ ap (λ b. find p (cond b (key ∷ left_after zone keys (i + 1)) (left_after zone keys (i + 1)))) can
      ∙ ap (λ b. cond b (Some key) (find p (left_after zone keys (i + 1)))) bad) ∙ t.searched;
}

-- the tags of the keys so far are counted, and those of them that count are taken
pub record Taken (zone : Labels) (keys : List Rr) (i : ℕ) (m : BTreeMap ℕ ℕ) (taken : List Rr) : Type 0 where
  pub counted : (r : Rr) → count_in m (key_tag_of r.rdata) ≡ min 2 (count_by (same_tag r) (zone_keys zone (take i keys)))
  pub joined : taken ++ left_after zone keys i ≡ counted_keys zone keys

-- no key was met
pub none_taken : (zone : Labels) (keys : List Rr) (m : BTreeMap ℕ ℕ) (taken : List Rr) → m.entries ≡ [] → taken ≡ []
    → Taken zone keys 0 m taken
unfolding count_in
none_taken zone keys m taken empty none = record {
  counted = λ r. rw empty refl;
  joined = ap (λ rs. rs ++ left_after zone keys 0) none ∙ sym (first_two-after (zone_keys zone keys));
}

-- a key that counts is taken
pub taken_more : (zone : Labels) (keys : List Rr) (i : ℕ) (m n : BTreeMap ℕ ℕ) (key : Rr) (taken more : List Rr)
    → i < length keys → key ≡ slice_index_or keys i key
    → Taken zone keys i m taken → ((t : ℕ) → count_in n t ≡ count_after zone m key t) → is_tried zone m key ≡ true
    → more ≡ taken ++ key ∷ []
    → Taken zone keys (i + 1) n more
taken_more zone keys i m n key taken more h is t after can grown = record {
  counted = count_more zone keys i m n key h is t.counted after;
  joined = ap (λ rs. rs ++ left_after zone keys (i + 1)) grown ∙ append_assoc taken (key ∷ []) (left_after zone keys (i + 1))
      ∙ sym (ap (λ rs. taken ++ rs) (left_by zone keys i m key h is t.counted
      ∙ ap (λ b. cond b (key ∷ left_after zone keys (i + 1)) (left_after zone keys (i + 1))) can)) ∙ t.joined;
}

-- another is passed over
pub taken_same : (zone : Labels) (keys : List Rr) (i : ℕ) (m n : BTreeMap ℕ ℕ) (key : Rr) (taken : List Rr) → i < length keys
    → key ≡ slice_index_or keys i key
    → Taken zone keys i m taken → ((t : ℕ) → count_in n t ≡ count_after zone m key t) → is_tried zone m key ≡ false
    → Taken zone keys (i + 1) n taken
taken_same zone keys i m n key taken h is t after cannot = record {
  counted = count_more zone keys i m n key h is t.counted after;
  joined = sym (ap (λ rs. taken ++ rs) (left_by zone keys i m key h is t.counted
      ∙ ap (λ b. cond b (key ∷ left_after zone keys (i + 1)) (left_after zone keys (i + 1))) cannot)) ∙ t.joined;
}

-- no key is left
pub taken_end : (zone : Labels) (keys : List Rr) (i : ℕ) (m : BTreeMap ℕ ℕ) (taken : List Rr) → length keys ≤ i
    → Taken zone keys i m taken → taken ≡ counted_keys zone keys
unfolding early_after
taken_end zone keys i m taken h t =
    sym (append-nil taken) ∙ sym (ap (λ rest. taken ++ early_after (zone_keys zone (take i keys)) (zone_keys zone rest))
    (drop_all i keys h)) ∙ t.joined

any_case : (zone : Labels) (can : Bool) (key : Rr) (keys : List Rr)
    → by_insecure_key (early_after [] (zone_keys zone keys)) ≡ cond (list_any (is_key_of_zone zone) keys) Insecure Failed
    → by_insecure_key (early_after [] (cond can (key ∷ zone_keys zone keys) (zone_keys zone keys)))
    ≡ cond (can || list_any (is_key_of_zone zone) keys) Insecure Failed
unfolding early_after
any_case zone true key keys rest = refl
any_case zone false key keys rest = rest

any_early : (zone : Labels) (keys : List Rr)
    → by_insecure_key (early_after [] (zone_keys zone keys)) ≡ cond (list_any (is_key_of_zone zone) keys) Insecure Failed
unfolding early_after
any_early zone [] = refl
any_early zone (key ∷ keys) = any_case zone (is_key_of_zone zone key) key keys (any_early zone keys)

-- a key set that is Insecure excuses where it has a key of the zone
pub any_counted : (zone : Labels) (keys : List Rr)
    → by_insecure_key (counted_keys zone keys) ≡ cond (list_any (is_key_of_zone zone) keys) Insecure Failed
any_counted zone keys = ap by_insecure_key (first_two-after (zone_keys zone keys)) ∙ any_early zone keys
