-- Facts on each element of a list, on filters, and on the first element that passes a test.
use Rattle.std.proofs.Common.{◌≡◌, Bool, true, false, cond, List, [], ◌∷◌, ◌++◌, map, Option, Some, refl, sym, ap, ◌∙◌, ◌||◌, None}
use Rattle.std.specs.List.{filter, find, AllByRecursion, list_any}
use Rattle.std.specs.Option.{option_map}
use Rattle.std.proofs.lemmas.Bool.{or_parts}

-- ---- each element

pub each_more : {X : Type 0} (P Q : X → Type 0) → ((x : X) → P x → Q x) → (xs : List X) → AllByRecursion P xs → AllByRecursion Q xs
each_more P Q f [] h = tt
each_more P Q f (x ∷ xs) h = (f x h.0, each_more P Q f xs h.1)

pub each_of : {X : Type 0} (P : X → Type 0) → ((x : X) → P x) → (xs : List X) → AllByRecursion P xs
each_of P f [] = tt
each_of P f (x ∷ xs) = (f x, each_of P f xs)

pub each_both : {X : Type 0} (P Q : X → Type 0) (xs : List X) → AllByRecursion P xs → AllByRecursion Q xs
    → AllByRecursion (λ x. P x × Q x) xs
each_both P Q [] h k = tt
each_both P Q (x ∷ xs) h k = ((h.0, k.0), each_both P Q xs h.1 k.1)

pub each_append : {X : Type 0} (P : X → Type 0) (xs ys : List X) → AllByRecursion P xs → AllByRecursion P ys → AllByRecursion P (xs ++ ys)
each_append P [] ys h k = k
each_append P (x ∷ xs) ys h k = (h.0, each_append P xs ys h.1 k)

pub each_front : {X : Type 0} (P : X → Type 0) (xs ys : List X) → AllByRecursion P (xs ++ ys) → AllByRecursion P xs
each_front P [] ys h = tt
each_front P (x ∷ xs) ys h = (h.0, each_front P xs ys h.1)

pub each_back : {X : Type 0} (P : X → Type 0) (xs ys : List X) → AllByRecursion P (xs ++ ys) → AllByRecursion P ys
each_back P [] ys h = h
each_back P (x ∷ xs) ys h = each_back P xs ys h.1

pub each_map : {X Y : Type 0} (P : Y → Type 0) (f : X → Y) (xs : List X) → AllByRecursion (λ x. P (f x)) xs → AllByRecursion P (map f xs)
each_map P f [] h = tt
each_map P f (x ∷ xs) h = (h.0, each_map P f xs h.1)

pub each_unmap : {X Y : Type 0} (P : Y → Type 0) (f : X → Y) (xs : List X) → AllByRecursion P (map f xs) → AllByRecursion (λ x. P (f x)) xs
each_unmap P f [] h = tt
each_unmap P f (x ∷ xs) h = (h.0, each_unmap P f xs h.1)

each_kept : {X : Type 0} (P : X → Type 0) (b : Bool) (x : X) (xs : List X) → (b ≡ true → P x) → AllByRecursion P xs
    → AllByRecursion P (cond b (x ∷ xs) xs)
each_kept P true x xs h k = (h refl, k)
each_kept P false x xs h k = k

pub each_filter : {X : Type 0} (P : X → Type 0) (p : X → Bool) (xs : List X) → AllByRecursion P xs → AllByRecursion P (filter p xs)
each_filter P p [] h = tt
each_filter P p (x ∷ xs) h = each_kept P (p x) x (filter p xs) (λ e. h.0) (each_filter P p xs h.1)

pub each_passes : {X : Type 0} (p : X → Bool) (xs : List X) → AllByRecursion (λ x. p x ≡ true) (filter p xs)
each_passes p [] = tt
each_passes p (x ∷ xs) = each_kept (λ y. p y ≡ true) (p x) x (filter p xs) (λ e. e) (each_passes p xs)

-- ---- filters

filter_step : {X Y : Type 0} (f : X → Y) (b : Bool) (x : X) (ys : List Y) (xs : List X) → ys ≡ map f xs
    → cond b (f x ∷ ys) ys ≡ map f (cond b (x ∷ xs) xs)
filter_step f true x ys xs e = ap (λ zs. f x ∷ zs) e
filter_step f false x ys xs e = e

pub filter-map : {X Y : Type 0} (p : Y → Bool) (f : X → Y) (xs : List X) → filter p (map f xs) ≡ map f (filter (λ x. p (f x)) xs)
filter-map p f [] = refl
filter-map p f (x ∷ xs) = filter_step f (p (f x)) x (filter p (map f xs)) (filter (λ y. p (f y)) xs) (filter-map p f xs)

pub map_agree : {X Y : Type 0} (f g : X → Y) (xs : List X) → AllByRecursion (λ x. f x ≡ g x) xs → map f xs ≡ map g xs
map_agree f g [] h = refl
map_agree f g (x ∷ xs) h = ap (λ y. y ∷ map f xs) h.0 ∙ ap (λ ys. g x ∷ ys) (map_agree f g xs h.1)

pub map-map : {X Y Z : Type 0} (f : Y → Z) (g : X → Y) (xs : List X) → map f (map g xs) ≡ map (λ x. f (g x)) xs
map-map f g [] = refl
map-map f g (x ∷ xs) = ap (λ zs. f (g x) ∷ zs) (map-map f g xs)

pub filter_none : {X : Type 0} (p : X → Bool) (xs : List X) → AllByRecursion (λ x. p x ≡ false) xs → filter p xs ≡ []
filter_none p [] h = refl
filter_none p (x ∷ xs) h = ap (λ b. cond b (x ∷ filter p xs) (filter p xs)) h.0 ∙ filter_none p xs h.1

-- ---- whether an element passes a test

pub any_agree : {X : Type 0} (p q : X → Bool) → ((x : X) → p x ≡ q x) → (xs : List X) → list_any p xs ≡ list_any q xs
any_agree p q same [] = refl
any_agree p q same (x ∷ xs) = ap (λ b. b || list_any p xs) (same x) ∙ ap (λ b. q x || b) (any_agree p q same xs)

pub none_passes : {X : Type 0} (p : X → Bool) (xs : List X) → list_any p xs ≡ false → AllByRecursion (λ x. p x ≡ false) xs
none_passes p [] h = tt
none_passes p (x ∷ xs) h = let parts = or_parts (p x) (list_any p xs) h in (parts.0, none_passes p xs parts.1)

-- ---- the first element that passes a test

pub find_none : {X : Type 0} (p : X → Bool) (xs : List X) → list_any p xs ≡ false → find p xs ≡ None
find_none p [] h = refl
find_none p (x ∷ xs) h =
    let parts = or_parts (p x) (list_any p xs) h in
    ap (λ b. cond b (Some x) (find p xs)) parts.0 ∙ find_none p xs parts.1

pub find_agree : {X : Type 0} (p q : X → Bool) → ((x : X) → p x ≡ q x) → (xs : List X) → find p xs ≡ find q xs
find_agree p q same [] = refl
find_agree p q same (x ∷ xs) = ap (λ b. cond b (Some x) (find p xs)) (same x) ∙ ap (cond (q x) (Some x)) (find_agree p q same xs)

-- tests that agree on the elements find the same
pub find_agree_each : {X : Type 0} (p q : X → Bool) (xs : List X) → AllByRecursion (λ x. p x ≡ q x) xs → find p xs ≡ find q xs
find_agree_each p q [] h = refl
find_agree_each p q (x ∷ xs) h = ap (λ b. cond b (Some x) (find p xs)) h.0 ∙ ap (cond (q x) (Some x)) (find_agree_each p q xs h.1)

-- an element that passes, and what is known of each
pub record IsFound {X : Type 0} (p : X → Bool) (P : X → Type 0) (x : X) : Type 0 where
  pub passes : p x ≡ true
  pub known : P x

found_step : {X : Type 0} (p : X → Bool) (P : X → Type 0) (b : Bool) (x y : X) (rest : Option X) → p x ≡ b → P x
    → (rest ≡ Some y → IsFound p P y)
    → cond b (Some x) rest ≡ Some y → IsFound p P y
found_step p P true x y rest e h later is =
    let same : x ≡ y = cc in
    record { passes = ap p (sym same) ∙ e; known = rw same at h }
found_step p P false x y rest e h later is = later is

pub find_known : {X : Type 0} (p : X → Bool) (P : X → Type 0) (xs : List X) (y : X) → AllByRecursion P xs → find p xs ≡ Some y
    → IsFound p P y
find_known p P [] y h is = cc
find_known p P (x ∷ xs) y h is = found_step p P (p x) x y (find p xs) refl h.0 (find_known p P xs y h.1) is

find_step : {X Y : Type 0} (f : X → Y) (b : Bool) (x : X) (r : Option Y) (s : Option X) → r ≡ option_map f s
    → cond b (Some (f x)) r ≡ option_map f (cond b (Some x) s)
find_step f true x r s e = refl
find_step f false x r s e = e

pub find-map : {X Y : Type 0} (p : Y → Bool) (f : X → Y) (xs : List X) → find p (map f xs) ≡ option_map f (find (λ x. p (f x)) xs)
find-map p f [] = refl
find-map p f (x ∷ xs) = find_step f (p (f x)) x (find p (map f xs)) (find (λ y. p (f y)) xs) (find-map p f xs)

kept_step : {X : Type 0} (p q : X → Bool) (b c : Bool) (x y : X) (xs ys : List X) → p x ≡ b → q x ≡ c
    → cond b (Some x) (find p xs) ≡ Some y → q y ≡ true → (find p xs ≡ Some y → find p ys ≡ Some y)
    → find p (cond c (x ∷ ys) ys) ≡ Some y
kept_step p q true true x y xs ys e d is passes later = ap (λ b. cond b (Some x) (find p ys)) e ∙ is
kept_step p q true false x y xs ys e d is passes later = cc
kept_step p q false true x y xs ys e d is passes later = ap (λ b. cond b (Some x) (find p ys)) e ∙ later is
kept_step p q false false x y xs ys e d is passes later = later is

-- what is found stays the first where others that fail a second test are left out
pub find-filter : {X : Type 0} (p q : X → Bool) (xs : List X) (y : X) → find p xs ≡ Some y → q y ≡ true → find p (filter q xs) ≡ Some y
find-filter p q [] y is passes = is
find-filter p q (x ∷ xs) y is passes =
    kept_step p q (p x) (q x) x y xs (filter q xs) refl refl is passes (λ e. find-filter p q xs y e passes)

-- ---- elements of which no two are alike

abbrev pub Apart : {X : Type 0} → (X → X → Bool) → List X → Type 0
Apart same [] = Unit {0}
Apart same (x ∷ xs) = AllByRecursion (λ y. same x y ≡ false) xs × Apart same xs

apart_kept : {X : Type 0} (same : X → X → Bool) (b : Bool) (x : X) (xs : List X) → AllByRecursion (λ y. same x y ≡ false) xs → Apart same xs
    → Apart same (cond b (x ∷ xs) xs)
apart_kept same true x xs h k = (h, k)
apart_kept same false x xs h k = k

pub apart_filter : {X : Type 0} (same : X → X → Bool) (p : X → Bool) (xs : List X) → Apart same xs → Apart same (filter p xs)
apart_filter same p [] h = tt
apart_filter same p (x ∷ xs) h =
    apart_kept same (p x) x (filter p xs) (each_filter (λ y. same x y ≡ false) p xs h.0) (apart_filter same p xs h.1)

pub apart_map : {X Y : Type 0} (same : Y → Y → Bool) (f : X → Y) (xs : List X) → Apart (λ x y. same (f x) (f y)) xs → Apart same (map f xs)
apart_map same f [] h = tt
apart_map same f (x ∷ xs) h = (each_map (λ y. same (f x) y ≡ false) f xs h.0, apart_map same f xs h.1)

pub apart_unmap : {X Y : Type 0} (same : Y → Y → Bool) (f : X → Y) (xs : List X) → Apart same (map f xs)
    → Apart (λ x y. same (f x) (f y)) xs
apart_unmap same f [] h = tt
apart_unmap same f (x ∷ xs) h = (each_unmap (λ y. same (f x) y ≡ false) f xs h.0, apart_unmap same f xs h.1)

pub apart_agree : {X : Type 0} (same alike : X → X → Bool) (xs : List X) → ((x y : X) → alike x y ≡ same x y) → Apart same xs
    → Apart alike xs
apart_agree same alike [] agree h = tt
apart_agree same alike (x ∷ xs) agree h =
    (each_more (λ y. same x y ≡ false) (λ y. alike x y ≡ false) (λ y e. agree x y ∙ e) xs h.0, apart_agree same alike xs agree h.1)

pub apart_append : {X : Type 0} (same : X → X → Bool) (xs ys : List X) → AllByRecursion (λ x. AllByRecursion (λ y. same x y ≡ false) ys) xs
    → Apart same xs → Apart same ys → Apart same (xs ++ ys)
apart_append same [] ys across h k = k
apart_append same (x ∷ xs) ys across h k = (each_append (λ y. same x y ≡ false) xs ys h.0 across.0, apart_append same xs ys across.1 h.1 k)
