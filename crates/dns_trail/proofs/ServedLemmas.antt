-- Kept entries by their keys: those that serve are among those with the key of the set, and those whose time is up are
-- passed over.
use Rattle.std.proofs.Common.{◌≡◌, ℕ, ◌+◌, ◌<◌, Bool, true, false, ◌&&◌, ◌||◌, List, [], ◌∷◌, ◌++◌, length, take, get_or, refl, sym, ap, ◌∙◌, subst, arith}
use Rattle.std.specs.Prelude.{Vec, if◌then◌else◌}
use Rattle.std.specs.List.{list_any}
use Rattle.std.specs.BTreeMap.{BTreeMap}
use Rattle.std.proofs.lemmas.Bool.{and_parts}
use Rattle.std.proofs.lemmas.List.{length-take-le, take_more}
use Rattle.dns_model.specs.Chains.{Judge}
use Rattle.dns_model.specs.Records.{Question}
use Rattle.dns_model.specs.SoundAnswers.{PlacedSet}
use Rattle.dns_model.specs.Trails.{JudgedSetValue}
use Rattle.dns_rules.specs.CacheKeys.{CacheKeyValue, key_of, key_eq}
use Rattle.dns_rules.specs.CacheEntries.{EntryValue, is_live, live}
use Rattle.dns_rules.specs.Derivation.{has_mark_of, is_served_by}
use Rattle.dns_rules.specs.Serving.{judged_as, may_serve, still_holds}
use Rattle.dns_evidence.specs.Finding.{passes_at}
use Rattle.dns_cache.specs.KeyLaws.{key_eq-Decides, key_total}
use Rattle.dns_cache.specs.KeyOrder.{key_cmp}
use Rattle.dns_trail.specs.Entries.{serves_at}
use Rattle.dns_trail.specs.Indexed.{AreKeyed, HaveKey}
use Rattle.dns_trail.specs.Places.{AddedPlace}
use Rattle.dns_trail.proofs.PlaceLemmas.{found_there, keeps_added}

-- ---- the tests of one entry

pub is_up : (live key holds mark : Bool) → live ≡ false → false ≡ (live && ((key && holds) && mark))
is_up live key holds mark h = sym (ap (λ b. b && ((key && holds) && mark)) h)

pub of_another_key : (live key holds mark : Bool) → key ≡ false → false ≡ (live && ((key && holds) && mark))
of_another_key true key holds mark h = sym (ap (λ b. (b && holds) && mark) h)
of_another_key false key holds mark h = refl

pub of_another_mark : (live key holds mark : Bool) → mark ≡ false → false ≡ (live && ((key && holds) && mark))
of_another_mark true true true mark h = sym h
of_another_mark true true false mark h = refl
of_another_mark true false holds mark h = refl
of_another_mark false key holds mark h = refl

pub holding_decides : (live key holds mark b : Bool) → live ≡ true → key ≡ true → mark ≡ true → b ≡ holds
    → b ≡ (live && ((key && holds) && mark))
holding_decides live key true mark b one two three is =
    is ∙ sym (ap (λ x. x && ((key && true) && mark)) one ∙ ap (λ x. (x && true) && mark) two ∙ three)
holding_decides live key false mark b one two three is =
    is ∙ sym (ap (λ x. x && ((key && false) && mark)) one ∙ ap (λ x. (x && false) && mark) two)

-- ---- those that serve are among those with the key

next_live : (test : EntryValue → Bool) (now : ℕ) (kept : EntryValue) (more : List EntryValue) (b : Bool)
    → is_live now kept ≡ b → ((b && test kept) || list_any test (live now more)) ≡ list_any test
    (live now (kept ∷ more))
next_live test now kept more true is =
    ap (λ b. list_any test (if b then kept ∷ live now more else live now more)) (sym is)
next_live test now kept more false is =
    ap (λ b. list_any test (if b then kept ∷ live now more else live now more)) (sym is)

-- what serves isn't up
any_live : (test : EntryValue → Bool) (now : ℕ) (kept : List EntryValue)
    → list_any (λ e. is_live now e && test e) kept ≡ list_any test (live now kept)
any_live test now [] = refl
any_live test now (e ∷ kept) =
    ap (λ b. (is_live now e && test e) || b) (any_live test now kept) ∙ next_live test now e kept (is_live now e) refl

has_key : (now : ℕ) (j : Judge) (q : Question) (placed : PlacedSet) (entry : JudgedSetValue) (kept : EntryValue)
    → serves_at now j q placed entry kept ≡ true → kept.key ≡ key_of q placed.set
has_key now j q placed entry kept h =
    let serves = (and_parts (is_live now kept) (is_served_by j q placed entry kept) h).1 in
    let may = (and_parts (may_serve j q placed kept) (has_mark_of (judged_as placed kept.found) entry) serves).0 in
    let same = (and_parts (key_eq (key_of q placed.set) kept.key) (still_holds j placed kept) may).0 in
    sym ((key_eq-Decides (key_of q placed.set) kept.key).0 same)

pub served_there : (now : ℕ) (j : Judge) (q : Question) (placed : PlacedSet) (entry : JudgedSetValue) (places : List ℕ)
    (kept : List EntryValue)
    → HaveKey (key_of q placed.set) places kept
    → list_any (passes_at (serves_at now j q placed entry) kept) places ≡ list_any (is_served_by j q placed entry)
    (live now kept)
served_there now j q placed entry places kept all =
    found_there (λ e. e.key) (serves_at now j q placed entry) (key_of q placed.set) places kept (has_key now j q placed entry) all
    ∙ any_live (is_served_by j q placed entry) now kept

-- ---- the places of entries

-- one entry more has its place
pub keyed_more : {Z : Type 0} (old new : BTreeMap CacheKeyValue (Vec ℕ Z)) (entries : List EntryValue) (i : ℕ)
    (e : EntryValue)
    (key : CacheKeyValue) → i < length entries
    → e ≡ get_or entries i e → key ≡ e.key → AreKeyed old (take i entries) → AddedPlace key_cmp old new key i
    → AreKeyed new (take (i + 1) entries)
keyed_more old new entries i e key lt is own keyed more =
    let long : length (take i entries) ≡ i = grind (arith, length-take-le) in
    let place : AddedPlace key_cmp old new e.key (length (take i entries)) =
    subst (λ k. AddedPlace key_cmp old new k (length (take i entries))) own
    (subst (λ n. AddedPlace key_cmp old new key n) (sym long) more) in
    subst (λ es. AreKeyed new es) (sym (take_more entries i e lt ∙ ap (λ x. take i entries ++ x ∷ []) (sym is)))
    (keeps_added key_total (λ e. e.key) old new (take i entries) e keyed place)
