-- Keys of which those that have one rdata are kept once.
use Rattle.std.proofs.Common.{◌≡◌, ℕ, ◌+◌, ◌<◌, ◌≤◌, Bool, true, false, cond, ◌||◌, List, [], ◌∷◌, ◌++◌, length, take}
use Rattle.std.proofs.Common.{Option, None, Some, refl, sym, subst, ap, ◌∙◌}
use Rattle.std.specs.Prelude.{not, slice_index_or}
use Rattle.std.specs.Borrow.{Bor}
use Rattle.std.specs.List.{find, list_all, list_any, AllByRecursion, IsDistinct}
use Rattle.std.specs.declared.cmp.Ordering.{Ordering}
use Rattle.std.specs.Ordering.{nat_cmp}
use Rattle.std.specs.Cmp.Lexicographic.{slice_cmp}
use Rattle.std.specs.BTreeSet.{BTreeSet, contains, Updates}
use Rattle.std.proofs.lemmas.List.{take_all, take_more}
use Rattle.std.proofs.lemmas.List.Folds.{list_any-append}
use Rattle.std.proofs.lemmas.List.Sums.{AllPass-from_list_all}
use Rattle.std.proofs.lemmas.Map.Text.{is_eq-slice_cmp}
use Rattle.std.proofs.lemmas.Slice.Eq.{bytes_eq-Decides}
use Rattle.dns_model.specs.Keys.{bytes_eq}
use Rattle.dns_model.specs.Records.{Rr}
use Rattle.dns_model.proofs.EachLemmas.{each_append}
use Rattle.dns_model.proofs.TestLemmas.{last_step}
use Rattle.dns_rules.proofs.FindLemmas.{each_all, each_taken, each_fails, find-copy, find-more}
use Rattle.dns_trust.specs.Signers.{TellsRdata, AreOnce, have_one_rdata}

-- by the bytes that references show
abbrev pub by_bytes : Bor (List ℕ) → Bor (List ℕ) → Ordering
by_bytes a b = slice_cmp nat_cmp a.now b.now

-- a key has the rdata of another
abbrev is_copy : Rr → Rr → Bool
is_copy key other = bytes_eq other.rdata key.rdata

-- the first i keys are kept once, and their rdatas are those that were seen
pub record Kept (keys : List Rr) (i : ℕ) (once : List Rr) (seen : BTreeSet (Bor (List ℕ))) : Type 0 where
  pub searched : (may test : Rr → Bool) → list_all may keys ≡ true → TellsRdata may test → find test once ≡ find test (take i keys)
  pub copies : (q : Bor (List ℕ)) → contains by_bytes seen q ≡ list_any (λ k. bytes_eq k.rdata q.now) (take i keys)
  pub distinct : IsDistinct have_one_rdata once

pub none_kept : (keys once : List Rr) (seen : BTreeSet (Bor (List ℕ))) → seen.keys ≡ [] → once ≡ [] → Kept keys 0 once seen
unfolding IsDistinct
none_kept keys once seen empty none = record {
  searched = λ may test all tells. ap (find test) none;
  copies = λ q. rw empty refl;
  distinct = subst (IsDistinct have_one_rdata) (sym none) tt;
}

-- the keys so far, once there is one more
more_keys : (keys : List Rr) (i : ℕ) (key : Rr) → i < length keys → key ≡ slice_index_or keys i key
    → take (i + 1) keys ≡ take i keys ++ key ∷ []
more_keys keys i key h at = take_more keys i key h ∙ ap (λ k. take i keys ++ k ∷ []) (sym at)

-- ---- distinct elements

-- an element that differs from each goes behind distinct ones
distinct_more : {X : Type 0} (same : X → X → Bool) (xs : List X) (x : X) → IsDistinct same xs
    → AllByRecursion (λ y. same y x ≡ false) xs → IsDistinct same (xs ++ x ∷ [])
unfolding IsDistinct
distinct_more same [] x distinct apart = (tt, tt)
distinct_more same (y ∷ ys) x distinct apart = (
  each_append (λ z. same y z ≡ false) ys (x ∷ []) distinct.0 (apart.0, tt),
  distinct_more same ys x distinct.1 apart.1,
)

none_step : {X : Type 0} (b rest : Bool) (x : X) (found : Option X) → (rest ≡ false → found ≡ None)
    → (b || rest) ≡ false → cond b (Some x) found ≡ None
none_step true rest x found then h = cc
none_step false rest x found then h = then h

none_found : {X : Type 0} (p : X → Bool) (xs : List X) → list_any p xs ≡ false → find p xs ≡ None
none_found p [] h = refl
none_found p (x ∷ xs) h = none_step (p x) (list_any p xs) x (find p xs) (none_found p xs) h

all_may : {X : Type 0} (xs : List X) → list_all (λ _. true) xs ≡ true
all_may [] = refl
all_may (x ∷ xs) = all_may xs

-- a key whose rdata wasn't seen differs from each that is kept
apart : (keys : List Rr) (i : ℕ) (once : List Rr) (seen : BTreeSet (Bor (List ℕ))) (key : Rr) (rdata : Bor (List ℕ))
    → rdata.now ≡ key.rdata → Kept keys i once seen → contains by_bytes seen rdata ≡ false
    → AllByRecursion (λ y. have_one_rdata y key ≡ false) once
apart keys i once seen key rdata is kept new =
    let test = λ (k : Rr). have_one_rdata k key in
    each_fails test once
    (kept.searched (λ _. true) test (all_may keys) (λ a b _ _ same. ap (λ bytes. bytes_eq bytes key.rdata) same)
    ∙ none_found test (take i keys)
    (ap (λ bytes. list_any (λ k. bytes_eq k.rdata bytes) (take i keys)) (sym is) ∙ sym (kept.copies rdata) ∙ new))

-- ---- one key more

last_any : (p : Rr → Bool) (met : List Rr) (key : Rr) → list_any p (met ++ key ∷ []) ≡ cond (p key) true (list_any p met)
last_any p met key = list_any-append p met (key ∷ []) ∙ last_step (list_any p met) (p key)

copies_more : (keys : List Rr) (i : ℕ) (once : List Rr) (seen next : BTreeSet (Bor (List ℕ))) (key : Rr) (rdata : Bor (List ℕ))
    → i < length keys → key ≡ slice_index_or keys i key → rdata.now ≡ key.rdata → Kept keys i once seen
    → Updates by_bytes seen next rdata true
    → (q : Bor (List ℕ)) → contains by_bytes next q ≡ list_any (λ k. bytes_eq k.rdata q.now) (take (i + 1) keys)
copies_more keys i once seen next key rdata h at is kept updates q =
    updates.0 q
    ∙ ap (λ b. cond b true (contains by_bytes seen q)) (is_eq-slice_cmp rdata.now q.now ∙ ap (λ bytes. bytes_eq bytes q.now) is)
    ∙ ap (cond (bytes_eq key.rdata q.now) true) (kept.copies q)
    ∙ sym (ap (list_any (λ k. bytes_eq k.rdata q.now)) (more_keys keys i key h at)
    ∙ last_any (λ k. bytes_eq k.rdata q.now) (take i keys) key)

was_seen : (added seen : Bool) → added ≡ not seen → added ≡ false → seen ≡ true
was_seen added true is h = refl
was_seen added false is h = sym h ∙ is

was_new : (added seen : Bool) → added ≡ not seen → added ≡ true → seen ≡ false
was_new added true is h = sym h ∙ is
was_new added false is h = refl

-- a key whose rdata wasn't seen is kept
pub kept_new : (keys : List Rr) (i : ℕ) (once more : List Rr) (seen next : BTreeSet (Bor (List ℕ))) (key : Rr)
    (rdata : Bor (List ℕ)) (added : Bool)
    → i < length keys → key ≡ slice_index_or keys i key → rdata.now ≡ key.rdata → Kept keys i once seen
    → Updates by_bytes seen next rdata true
    → added ≡ not (contains by_bytes seen rdata) → added ≡ true
    → more ≡ once ++ key ∷ [] → Kept keys (i + 1) more next
kept_new keys i once more seen next key rdata added h at is kept updates insert new grown = record {
  searched = λ may test all tells.
      ap (find test) grown
      ∙ find-more test once (take i keys) key (kept.searched may test all tells)
      ∙ ap (find test) (sym (more_keys keys i key h at));
  copies = copies_more keys i once seen next key rdata h at is kept updates;
  distinct = subst (IsDistinct have_one_rdata) (sym grown) (distinct_more have_one_rdata once key kept.distinct
      (apart keys i once seen key rdata is kept (was_new added (contains by_bytes seen rdata) insert new)));
}

alike : (may test : Rr → Bool) (keys : List Rr) (i : ℕ) (key : Rr) → list_all may keys ≡ true → TellsRdata may test → may key ≡ true
    → AllByRecursion (λ y. is_copy key y ≡ true → test key ≡ test y) (take i keys)
alike may test keys i key all tells allowed =
    let Alike = λ (y : Rr). is_copy key y ≡ true → test key ≡ test y in
    each_taken Alike i keys
    (each_all may Alike (λ y h e. tells key y allowed h (sym ((bytes_eq-Decides y.rdata key.rdata).0 e))) keys all)

-- one whose rdata was seen is passed over
pub kept_copy : (keys : List Rr) (i : ℕ) (once : List Rr) (seen next : BTreeSet (Bor (List ℕ))) (key : Rr)
    (rdata : Bor (List ℕ)) (added : Bool)
    → i < length keys → key ≡ slice_index_or keys i key → rdata.now ≡ key.rdata → Kept keys i once seen
    → Updates by_bytes seen next rdata true
    → added ≡ not (contains by_bytes seen rdata) → added ≡ false → Kept keys (i + 1) once next
kept_copy keys i once seen next key rdata added h at is kept updates insert refused =
    let met : contains by_bytes seen rdata ≡ true = was_seen added (contains by_bytes seen rdata) insert refused in
    record {
      searched = λ may test all tells.
          kept.searched may test all tells
          ∙ sym (find-copy is_copy test (take i keys) key
          (alike may test keys i key all tells (ap may at ∙ AllPass-from_list_all may keys all i key h))
          (sym (kept.copies rdata ∙ ap (λ bytes. list_any (λ k. bytes_eq k.rdata bytes) (take i keys)) is) ∙ met))
          ∙ ap (find test) (sym (more_keys keys i key h at));
      copies = copies_more keys i once seen next key rdata h at is kept updates;
      distinct = kept.distinct;
    }

-- no key is left
pub kept_all : (keys : List Rr) (i : ℕ) (once : List Rr) (seen : BTreeSet (Bor (List ℕ))) → length keys ≤ i
    → Kept keys i once seen → AreOnce once keys
kept_all keys i once seen h kept may test all tells = kept.searched may test all tells ∙ ap (find test) (take_all i keys h)
