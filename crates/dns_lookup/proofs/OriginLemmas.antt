-- Where the entries of a told cache come from: from before the lookup, or from its validation.
use Rattle.std.proofs.Common.{◌≡◌, ◌⊎◌, ℕ, ◌&&◌, Bool, true, false, List, [], ◌∷◌, ◌++◌, map, reverse, Option, None, Some, nat_eq, if◌then◌else◌, append_assoc, true≢false, refl, sym, ap, ◌∙◌, inl, inr}
use Rattle.std.specs.List.{AllByRecursion}
use Rattle.std.specs.Option.{option_eq}
use Rattle.std.proofs.lemmas.List.{reverse-append}
use Rattle.dns_model.specs.declared.trail.MarkOrigin.TheVariants.{Repeat, Cache}
use Rattle.dns_model.proofs.EachLemmas.{each_more}
use Rattle.dns_rules.specs.CacheKeys.{CacheKeyValue, key_eq}
use Rattle.dns_rules.specs.CacheEntries.{EntryValue, mark_of, sig_of}
use Rattle.dns_rules.specs.Derivation.{proof_eq}
use Rattle.dns_rules.proofs.ExtendLemmas.{proof_refl, place_refl}
use Rattle.dns_cache.specs.CacheLists.{CacheList, has_key, after_insert}
use Rattle.dns_cache.specs.KeyLaws.{key_eq-Decides, key_equiv}
use Rattle.dns_validation.specs.Machine.{MadeValue, made_by, origin_of}
use Rattle.dns_validation.specs.Runs.{IsIn}
use Rattle.dns_lookup.specs.Driving.{HasKeyIn, is_repeat, IsMade, AreMade, ComesFrom, AllComeFrom, after_inserts}
use Rattle.dns_lookup.proofs.ListedLemmas.{each_inserted}

-- ---- keys

-- one of the entries before or of those after has the key
pub key_front : (key : CacheKeyValue) (xs ys : List EntryValue) → HasKeyIn key xs → HasKeyIn key (xs ++ ys)
key_front key [] ys h = absurd h
key_front key (x ∷ xs) ys (inl is) = inl is
key_front key (x ∷ xs) ys (inr h) = inr (key_front key xs ys h)

pub key_back : (key : CacheKeyValue) (xs ys : List EntryValue) → HasKeyIn key ys → HasKeyIn key (xs ++ ys)
key_back key [] ys h = h
key_back key (x ∷ xs) ys h = inr (key_back key xs ys h)

key_turned : (a b : CacheKeyValue) → key_eq a b ≡ true → key_eq b a ≡ true
key_turned a b is = (key_eq-Decides b a).1 (sym ((key_eq-Decides a b).0 is))

-- ---- what was given out

-- of another key
made_apart : (n : ℕ) (x : EntryValue) (made : List MadeValue) (e : EntryValue) → key_eq x.key e.key ≡ false
    → IsMade made e → IsMade (made_by n x ∷ made) e
unfolding origin_of
made_apart n x made e differs is =
    ap (λ b. is_repeat (if b
    then (if proof_eq (mark_of x.found) (mark_of e.found) && option_eq nat_eq (sig_of x.found)
    (sig_of e.found) then Repeat n else Cache)
    else origin_of made e)) differs
    ∙ is

-- itself
made_here : (n : ℕ) (x : EntryValue) (made : List MadeValue) → IsMade (made_by n x ∷ made) x
unfolding origin_of
made_here n x made =
    ap (λ b. is_repeat (if b
    then (if proof_eq (mark_of x.found) (mark_of x.found) && option_eq nat_eq (sig_of x.found)
    (sig_of x.found) then Repeat n else Cache)
    else origin_of made x)) (key_equiv.refl x.key)
    ∙ ap (λ b. is_repeat (if b && option_eq nat_eq (sig_of x.found) (sig_of x.found) then Repeat n else Cache))
    (proof_refl (mark_of x.found))
    ∙ ap (λ b. is_repeat (if b then Repeat n else Cache)) (place_refl (sig_of x.found))

-- those that a step leaves, the last first
pub added : ℕ → List EntryValue → List MadeValue → List MadeValue
added n [] made = made
added n (e ∷ es) made = added n es (made_by n e ∷ made)

pub added_is : (n : ℕ) (es : List EntryValue) (made : List MadeValue)
    → added n es made ≡ reverse (map (made_by n) es) ++ made
unfolding added
added_is n [] made = refl
added_is n (e ∷ es) made =
    added_is n es (made_by n e ∷ made)
    ∙ sym (append_assoc (reverse (map (made_by n) es)) (made_by n e ∷ []) made)
    ∙ ap (λ xs. xs ++ made) (sym (reverse-append (made_by n e ∷ []) (map (made_by n) es)))

-- what was given out before is still, unless another of its key follows
later_key : (made : List MadeValue) (x : EntryValue) (es : List EntryValue) (e : EntryValue) → IsMade made e
    ⊎ HasKeyIn e.key es → IsMade made e ⊎ HasKeyIn e.key (x ∷ es)
later_key made x es e (inl h) = inl h
later_key made x es e (inr h) = inr (inr h)

later_step : (made : List MadeValue) (x : EntryValue) (es : List EntryValue) (e : EntryValue) (b : Bool)
    → key_eq x.key e.key ≡ b
    → (key_eq x.key e.key ≡ false → IsMade made e ⊎ HasKeyIn e.key es) → IsMade made e ⊎ HasKeyIn e.key (x ∷ es)
later_step made x es e true same rest = inr (inl (key_turned x.key e.key same))
later_step made x es e false differs rest = later_key made x es e (rest differs)

made_later : (n : ℕ) (es : List EntryValue) (made : List MadeValue) (e : EntryValue) → IsMade made e
    → IsMade (added n es made) e ⊎ HasKeyIn e.key es
unfolding added
made_later n [] made e is = inl is
made_later n (x ∷ es) made e is =
    later_step (added n es (made_by n x ∷ made)) x es e (key_eq x.key e.key) refl
    (λ differs. made_later n es (made_by n x ∷ made) e (made_apart n x made e differs is))

-- those that a step leaves are given out
made_new : (n : ℕ) (es : List EntryValue) (made : List MadeValue) → AreMade (added n es made) es
unfolding added
made_new n [] made = tt
made_new n (x ∷ es) made =
    (made_later n es (made_by n x ∷ made) x (made_here n x made), made_new n es (made_by n x ∷ made))

-- ---- a step ends

-- it leaves entries to be kept behind those that are still to be kept
one_later : (n : ℕ) (es : List EntryValue) (made : List MadeValue) (kept : List EntryValue) (e : EntryValue)
    → IsMade made e ⊎ HasKeyIn e.key kept
    → IsMade (added n es made) e ⊎ HasKeyIn e.key (kept ++ es)
one_later n es made kept e (inr key) = inr (key_front e.key kept es key)
one_later n es made kept e (inl is) = at (made_later n es made e is)
  where
    at : IsMade (added n es made) e ⊎ HasKeyIn e.key es → IsMade (added n es made) e ⊎ HasKeyIn e.key (kept ++ es)
    at (inl h) = inl h
    at (inr h) = inr (key_back e.key kept es h)

pub made_grown : (n : ℕ) (es : List EntryValue) (made : List MadeValue) (kept : List EntryValue) → AreMade made kept
    → AreMade (added n es made) (kept ++ es)
made_grown n es made [] h = made_new n es made
made_grown n es made (x ∷ kept) h = (one_later n es made kept x h.0, made_grown n es made kept h.1)

comes_later : (n : ℕ) (es : List EntryValue) (made : List MadeValue) (kept before : List EntryValue) (e : EntryValue)
    → ComesFrom made kept before e
    → ComesFrom (added n es made) (kept ++ es) before e
comes_later n es made kept before e (inl here) = inl here
comes_later n es made kept before e (inr h) = inr (one_later n es made kept e h)

pub come_grown : (n : ℕ) (es : List EntryValue) (made : List MadeValue) (kept : List EntryValue)
    (before now : Option CacheList) → AllComeFrom made kept before now
    → AllComeFrom (added n es made) (kept ++ es) before now
come_grown n es made kept None now h = tt
come_grown n es made kept (Some before) None h = tt
come_grown n es made kept (Some before) (Some now) h =
    each_more (ComesFrom made kept before.entries) (ComesFrom (added n es made) (kept ++ es) before.entries)
    (comes_later n es made kept before.entries) now.entries h

-- ---- an entry is kept

-- one of another key
comes_apart : (made : List MadeValue) (x : EntryValue) (kept before : List EntryValue) (e : EntryValue)
    → has_key x.key e ≡ false → ComesFrom made (x ∷ kept) before e
    → ComesFrom made kept before e
comes_apart made x kept before e differs (inl here) = inl here
comes_apart made x kept before e differs (inr (inl is)) = inr (inl is)
comes_apart made x kept before e differs (inr (inr (inr key))) = inr (inr key)
comes_apart made x kept before e differs (inr (inr (inl key))) =
    absurd (true≢false (sym (key_turned e.key x.key key) ∙ differs))

-- all that are to be kept
pub come_inserted : (made : List MadeValue) (kept before : List EntryValue) (list : CacheList) → AreMade made kept
    → AllByRecursion (ComesFrom made kept before) list.entries
    → AllByRecursion (ComesFrom made [] before) ((after_inserts kept list).entries)
come_inserted made [] before list h all = all
come_inserted made (x ∷ kept) before list h all =
    come_inserted made kept before (after_insert x list) h.1
    (each_inserted (ComesFrom made (x ∷ kept) before) (ComesFrom made kept before) x list
    (comes_apart made x kept before) (inr h.0) all)

-- nothing was kept so far
each_start : (made : List MadeValue) (kept more all : List EntryValue) → ((e : EntryValue) → IsIn e more → IsIn e all)
    → AllByRecursion (ComesFrom made kept all) more
each_start made kept [] all f = tt
each_start made kept (e ∷ more) all f = (inl (f e (inl refl)), each_start made kept more all (λ x is. f x (inr is)))

pub come_none : (made : List MadeValue) (kept : List EntryValue) (before : Option CacheList)
    → AllComeFrom made kept before before
come_none made kept None = tt
come_none made kept (Some list) = each_start made kept list.entries list.entries (λ e is. is)
