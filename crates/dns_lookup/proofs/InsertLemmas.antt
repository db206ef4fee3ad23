-- What a validation gives out is kept, one entry after another, until memory runs out.
use Rattle.std.proofs.Common.{ℕ, ◌≡◌, ◌<◌, List, [], ◌∷◌, ◌++◌, drop, length, Option, None, Some, append_assoc, append-nil, refl, sym, ap, ◌∙◌, arith}
use Rattle.std.specs.Option.{option_map}
use Rattle.dns_rules.specs.CacheEntries.{EntryValue}
use Rattle.dns_cache.specs.CacheLists.{CacheList, after_insert}
use Rattle.dns_validation.specs.Machine.{Terms, StateValue, first_kept, given_out}
use Rattle.dns_lookup.specs.Driving.{LeftByFront, after_inserts, kept_all}
use Rattle.dns_lookup.proofs.ListedLemmas.{told_more, none_inserted}

-- some were kept so far
pub record Inserting (t u : Terms) (first s : StateValue) (old now : Option CacheList) (hits count : ℕ) : Type 0 where
  pub terms : u ≡ t
  pub done : List EntryValue
  pub whole : done ++ s.kept ≡ first.kept
  pub left : now ≡ option_map (after_inserts done) old
  pub still : count ≡ hits
  pub same : kept_all s ≡ kept_all first

pub inserting_begun : (t : Terms) (s : StateValue) (old : Option CacheList) (hits : ℕ)
    → Inserting t t s s old old hits hits
inserting_begun t s old hits =
    record { terms = refl; done = []; whole = refl; left = none_inserted old; still = refl; same = refl }

first_is : (kept : List EntryValue) (e : EntryValue) → Some e ≡ first_kept kept → kept ≡ e ∷ drop 1 kept
first_is [] e h = cc
first_is (x ∷ kept) e h = let same : x ≡ e = cc in ap (λ y. y ∷ kept) same

none_is : (kept : List EntryValue) → None ≡ first_kept kept → kept ≡ []
none_is [] h = refl
none_is (x ∷ kept) h = cc

module _ (t u v : Terms) (first s m : StateValue) where
  pub inserting_on : (old now new : Option CacheList) (hits count next : ℕ) (e : EntryValue)
      → Inserting t u first s old now hits count → v ≡ u → Some e ≡ first_kept s.kept → m ≡ given_out s
      → new ≡ option_map (after_insert e) now → next ≡ count
      → Inserting t v first m old new hits next
  inserting_on old now new hits count next e at same gives leaves inserted still =
      let is = first_is s.kept e gives in
      record {
        terms = same ∙ at.terms;
        done = at.done ++ e ∷ [];
        whole = ap (λ (x : StateValue). (at.done ++ e ∷ []) ++ x.kept) leaves
            ∙ append_assoc at.done (e ∷ []) (drop 1 s.kept) ∙ ap (λ xs. at.done ++ xs) (sym is) ∙ at.whole;
        left = told_more at.done e old now new at.left inserted;
        still = still ∙ at.still;
        same = ap kept_all leaves ∙ at.same;
      }

pub inserting_shorter : (s m : StateValue) (e : EntryValue) → Some e ≡ first_kept s.kept → m ≡ given_out s
    → length m.kept < length s.kept
inserting_shorter s m e gives leaves =
    let is = ap length (first_is s.kept e gives) in
    let here = ap (λ (x : StateValue). length x.kept) leaves in
    omega (arith, is, here)

-- memory ran out
pub inserting_failed : (t u : Terms) (first s : StateValue) (old now new : Option CacheList) (hits count : ℕ)
    → Inserting t u first s old now hits count → new ≡ now
    → LeftByFront first.kept old new
inserting_failed t u first s old now new hits count at same =
    record { some = at.done; rest = s.kept; whole = at.whole; left = same ∙ at.left }

-- nothing is left
pub record AllInserted (t u : Terms) (first m : StateValue) (old now : Option CacheList) : Type 0 where
  pub terms : u ≡ t
  pub left : now ≡ option_map (after_inserts first.kept) old
  pub state : m ≡ kept_all first

module _ (t u v : Terms) (first s m : StateValue) where
  pub inserting_ends : (old now : Option CacheList) (hits count : ℕ) → Inserting t u first s old now hits count → v ≡ u
      → None ≡ first_kept s.kept → m ≡ given_out s → AllInserted t v first m old now
  inserting_ends old now hits count at same gives leaves =
      let none = none_is s.kept gives in
      let all : at.done ≡ first.kept = sym (append-nil at.done) ∙ ap (λ xs. at.done ++ xs) (sym none) ∙ at.whole in
      record {
        terms = same ∙ at.terms;
        left = at.left ∙ ap (λ xs. option_map (after_inserts xs) old) all;
        state = leaves ∙ ap (λ k. (let x : StateValue = record s { kept = drop 1 k } in x)) none ∙ at.same;
      }
