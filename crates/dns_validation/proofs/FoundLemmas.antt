-- Elements of a list, and what a step leaves to be kept.
use Rattle.std.proofs.Common.{◌≡◌, ◌||◌, Bool, true, false, List, [], ◌∷◌, ◌++◌, Option, None, Some, if◌then◌else◌, map, reverse, refl, sym, ap, subst, inl, inr}
use Rattle.std.specs.List.{AllByRecursion, cons_option, filter_map, list_any, zip}
use Rattle.std.proofs.lemmas.Bool.{or_right}
use Rattle.std.proofs.lemmas.List.{reverse-append}
use Rattle.dns_model.specs.Records.{Question}
use Rattle.dns_model.proofs.EachLemmas.{each_append, each_more}
use Rattle.dns_rules.specs.CacheEntries.{EntryValue}
use Rattle.dns_rules.specs.ChainedSets.{ChainedSet}
use Rattle.dns_rules.specs.ProofErrors.{ProofErrorKindValue}
use Rattle.dns_flow.specs.Causes.{found_of}
use Rattle.dns_validation.specs.Machine.{Terms, is_kept, entry_by, entry_if}
use Rattle.dns_validation.specs.Runs.{IsIn}

-- ---- elements of a list

pub any_in : {X : Type 0} (p : X → Bool) (x : X) (xs : List X) → IsIn x xs → p x ≡ true → list_any p xs ≡ true
any_in p x [] is h = absurd is
any_in p x (y ∷ ys) (inl same) h = ap (λ b. b || list_any p ys) (subst (λ z. p z ≡ true) same h)
any_in p x (y ∷ ys) (inr is) h = or_right (p y) (list_any p ys) (any_in p x ys is h)

pub each_in : {X : Type 0} (P : X → Type 0) (x : X) (xs : List X) → AllByRecursion P xs → IsIn x xs → P x
each_in P x [] each is = absurd is
each_in P x (y ∷ ys) each (inl same) = subst P (sym same) each.0
each_in P x (y ∷ ys) each (inr is) = each_in P x ys each.1 is

pub map_in : {X Y : Type 0} (f : X → Y) (x : X) (xs : List X) → IsIn x xs → IsIn (f x) (map f xs)
map_in f x [] is = absurd is
map_in f x (y ∷ ys) (inl same) = inl (ap f same)
map_in f x (y ∷ ys) (inr is) = inr (map_in f x ys is)

pub front_in : {X : Type 0} (x : X) (xs ys : List X) → IsIn x xs → IsIn x (xs ++ ys)
front_in x [] ys is = absurd is
front_in x (z ∷ xs) ys (inl same) = inl same
front_in x (z ∷ xs) ys (inr is) = inr (front_in x xs ys is)

pub middle_in : {X : Type 0} (xs : List X) (x : X) (ys : List X) → IsIn x (xs ++ x ∷ ys)
middle_in [] x ys = inl refl
middle_in (z ∷ xs) x ys = inr (middle_in xs x ys)

pub each_reverse : {X : Type 0} (P : X → Type 0) (xs : List X) → AllByRecursion P xs → AllByRecursion P (reverse xs)
each_reverse P [] h = tt
each_reverse P (x ∷ xs) h =
    subst (AllByRecursion P) (sym (reverse-append (x ∷ []) xs))
    (each_append P (reverse xs) (x ∷ []) (each_reverse P xs h.1) (h.0, tt))

pub head_same : {X : Type 0} {x y : X} {xs ys : List X} → x ∷ xs ≡ y ∷ ys → x ≡ y
head_same h = cc

pub tail_same : {X : Type 0} {x y : X} {xs ys : List X} → x ∷ xs ≡ y ∷ ys → xs ≡ ys
tail_same h = cc

pub no_head : {X : Type 0} {x : X} {xs : List X} → x ∷ xs ≡ [] → ⊥
no_head h = cc

pub no_tail : {X : Type 0} {x : X} {xs : List X} → [] ≡ x ∷ xs → ⊥
no_tail h = cc

pub some_same : {X : Type 0} {x y : X} → Some x ≡ Some y → x ≡ y
some_same h = cc

pub no_some : {X : Type 0} {x : X} → None ≡ Some x → ⊥
no_some h = cc

pub no_truth : false ≡ true → ⊥
no_truth h = cc

-- ---- what is left to be kept

-- an entry of one of these sets, beside which a cause stands
pub record IsLeftOf (t : Terms) (q : Question) (cs : List ChainedSet) (os : List (Option ProofErrorKindValue)) (e : EntryValue)
    : Type 0 where
  pub set : ChainedSet
  pub among : IsIn set cs
  pub cause : ProofErrorKindValue
  pub beside : IsIn (set, Some cause) (zip cs os)
  pub kept : is_kept (found_of t.now set.judged cause) ≡ true
  pub is : e ≡ entry_by t q set (found_of t.now set.judged cause)

left_later : (t : Terms) (q : Question) (c : ChainedSet) (cs : List ChainedSet) (o : Option ProofErrorKindValue)
    (os : List (Option ProofErrorKindValue)) (e : EntryValue)
    → IsLeftOf t q cs os e → IsLeftOf t q (c ∷ cs) (o ∷ os) e
left_later t q c cs o os e h =
    record { set = h.set; among = inr h.among; cause = h.cause; beside = inr h.beside; kept = h.kept; is = h.is }

left_if : (t : Terms) (q : Question) (c : ChainedSet) (cs : List ChainedSet) (cause : ProofErrorKindValue)
    (os : List (Option ProofErrorKindValue)) (b : Bool) (es : List EntryValue)
    → is_kept (found_of t.now c.judged cause) ≡ b → AllByRecursion (IsLeftOf t q (c ∷ cs) (Some cause ∷ os)) es
    → AllByRecursion (IsLeftOf t q (c ∷ cs) (Some cause ∷ os))
    (cons_option (if b then Some (entry_by t q c (found_of t.now c.judged cause)) else None) es)
left_if t q c cs cause os false es keeps rest = rest
left_if t q c cs cause os true es keeps rest =
    (record { set = c; among = inl refl; cause = cause; beside = inl refl; kept = keeps; is = refl }, rest)

pub left_each : (t : Terms) (q : Question) (cs : List ChainedSet) (os : List (Option ProofErrorKindValue))
    → AllByRecursion (IsLeftOf t q cs os) (filter_map (entry_if t q) (zip cs os))
left_each t q [] os = tt
left_each t q (c ∷ cs) [] = tt
left_each t q (c ∷ cs) (None ∷ os) =
    each_more (IsLeftOf t q cs os) (IsLeftOf t q (c ∷ cs) (None ∷ os)) (left_later t q c cs None os)
    (filter_map (entry_if t q) (zip cs os))
    (left_each t q cs os)
left_each t q (c ∷ cs) (Some cause ∷ os) =
    left_if t q c cs cause os (is_kept (found_of t.now c.judged cause)) (filter_map (entry_if t q) (zip cs os)) refl
    (each_more (IsLeftOf t q cs os) (IsLeftOf t q (c ∷ cs) (Some cause ∷ os)) (left_later t q c cs (Some cause) os)
    (filter_map (entry_if t q) (zip cs os))
    (left_each t q cs os))
