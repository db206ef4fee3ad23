-- The sets of a section grow as its records are met one by one.
use Rattle.std.proofs.Common.{◌≡◌, ℕ, ◌+◌, ◌<◌, Bool, true, false, not, ◌||◌, ◌==◌, cond, List, [], ◌∷◌, ◌++◌, map, length, take, get_or, refl, sym, ap, ◌∙◌}
use Rattle.std.specs.List.{filter, list_any, AllByRecursion}
use Rattle.std.proofs.lemmas.Bool.{and_parts, and_from}
use Rattle.std.proofs.lemmas.List.{map-append, append-nil}
use Rattle.std.proofs.lemmas.List.Elements.{filter-append, filter_more}
use Rattle.dns_model.specs.Names.{Labels, name_eq}
use Rattle.dns_model.specs.Records.{Rr, RrSet}
use Rattle.dns_model.specs.Sections.{same_set, is_signature, leaders, unsigned_part}
use Rattle.dns_model.proofs.EachLemmas.{Apart, each_more, each_of, map_agree, map-map, apart_map, none_passes}
use Rattle.dns_model.proofs.SetLemmas.{same_set_left, same_set_refl, leaders_apart, same_key, name_back, name_trans, number_same, number_refl, same_set_back}
use Rattle.dns_outcome.specs.Joining.{is_at, touched, with_record, set_of_one, joined_by, met_by, bare_set, bare_sets}

-- ---- changes of the first that passes

-- where none passes, nothing changes
pub kept : {X : Type 0} (p : X → Bool) (f : X → X) (xs : List X) → AllByRecursion (λ x. p x ≡ false) xs
    → map (λ x. cond (p x) (f x) x) xs ≡ xs
kept p f [] h = refl
kept p f (x ∷ xs) h = ap (λ b. cond b (f x) x ∷ map (λ y. cond (p y) (f y) y) xs) h.0 ∙ ap (λ ys. x ∷ ys) (kept p f xs h.1)

-- of elements of which no two are alike at most one passes
abbrev pub Single : {X : Type 0} → (X → X → Bool) → (X → Bool) → Type 0
Single {X} same p = (x y : X) → p x ≡ true → p y ≡ true → same x y ≡ true

others_fail : {X : Type 0} (same : X → X → Bool) (p : X → Bool) → Single same p → (x y : X) (b : Bool) → p y ≡ b → p x ≡ true
    → same x y ≡ false → p y ≡ false
others_fail same p one x y true e h apart = cc (one x y h e)
others_fail same p one x y false e h apart = e

touched_step : {X : Type 0} (same : X → X → Bool) (p : X → Bool) (f : X → X) (b : Bool) (x : X) (xs : List X) → Single same p → p x ≡ b
    → AllByRecursion (λ y. same x y ≡ false) xs → touched p f xs ≡ map (λ y. cond (p y) (f y) y) xs
    → cond b (f x ∷ xs) (x ∷ touched p f xs) ≡ cond b (f x) x ∷ map (λ y. cond (p y) (f y) y) xs
touched_step same p f true x xs one e apart later =
    ap (λ ys. f x ∷ ys) (sym (kept p f xs
    (each_more (λ y. same x y ≡ false) (λ y. p y ≡ false) (λ y d. others_fail same p one x y (p y) refl e d) xs apart)))
touched_step same p f false x xs one e apart later = ap (λ ys. x ∷ ys) later

-- the first that passes is the only one
pub touched_map : {X : Type 0} (same : X → X → Bool) (p : X → Bool) (f : X → X) → Single same p → (xs : List X) → Apart same xs
    → touched p f xs ≡ map (λ x. cond (p x) (f x) x) xs
unfolding touched
touched_map same p f one [] h = refl
touched_map same p f one (x ∷ xs) h = touched_step same p f (p x) x xs one refl h.0 (touched_map same p f one xs h.1)

-- two sets of one owner and type are alike
pub at_single : (owner : Labels) (rtype : ℕ) → Single same_key (is_at owner rtype)
at_single owner rtype x y h k =
    let a = and_parts (name_eq x.owner owner) (x.rtype == rtype) h in
    let b = and_parts (name_eq y.owner owner) (y.rtype == rtype) k in
    let same : x.rtype ≡ y.rtype = number_same x.rtype rtype a.1 ∙ sym (number_same y.rtype rtype b.1) in
    and_from (name_eq x.owner y.owner) (x.rtype == y.rtype) (name_trans x.owner owner y.owner a.0 (name_back y.owner owner b.0))
    (ap (λ k. x.rtype == k) (sym same) ∙ number_refl x.rtype)

-- ---- leaders of a section with one more record

-- a record of that set stands among these
abbrev pub is_led : Rr → List Rr → Bool
is_led r rs = list_any (λ l. same_set l r) rs

filter_one : (x r : Rr) (b c : Bool) → same_set x r ≡ b → filter (λ s. not (same_set x s)) (cond c [] (r ∷ [])) ≡ cond (b || c) [] (r ∷ [])
filter_one x r true true e = refl
filter_one x r true false e = ap (λ t. cond (not t) (r ∷ []) []) e
filter_one x r false true e = refl
filter_one x r false false e = ap (λ t. cond (not t) (r ∷ []) []) e

leaders-push : (u : List Rr) (r : Rr) → leaders (u ++ r ∷ []) ≡ leaders u ++ cond (is_led r u) [] (r ∷ [])
unfolding leaders
leaders-push [] r = refl
leaders-push (x ∷ u) r =
    ap (λ rest. x ∷ filter (λ s. not (same_set x s)) rest) (leaders-push u r)
    ∙ ap (λ rest. x ∷ rest) (filter-append (λ s. not (same_set x s)) (leaders u) (cond (is_led r u) [] (r ∷ [])))
    ∙ ap (λ rest. x ∷ (filter (λ s. not (same_set x s)) (leaders u) ++ rest)) (filter_one x r (same_set x r) (is_led r u) refl)

led_step : (x r y : Rr) (c d : Bool) (rest : List Rr) → same_set x r ≡ false → same_set x y ≡ c → same_set y r ≡ d
    → is_led r (cond (not c) (y ∷ rest) rest) ≡ (d || is_led r rest)
led_step x r y true true rest e h k = cc (same_set_left x y r h)
led_step x r y true false rest e h k = refl
led_step x r y false d rest e h k = ap (λ b. b || is_led r rest) k

-- what is left out has the set of x
led-filter : (x r : Rr) (rs : List Rr) → same_set x r ≡ false → is_led r (filter (λ s. not (same_set x s)) rs) ≡ is_led r rs
led-filter x r [] e = refl
led-filter x r (y ∷ rs) e =
    led_step x r y (same_set x y) (same_set y r) (filter (λ s. not (same_set x s)) rs) e refl refl
    ∙ ap (λ b. same_set y r || b) (led-filter x r rs e)

led_more : (x r : Rr) (b : Bool) (u : List Rr) → same_set x r ≡ b → is_led r (leaders u) ≡ is_led r u
    → (b || is_led r (filter (λ s. not (same_set x s)) (leaders u))) ≡ (b || is_led r u)
led_more x r true u e h = refl
led_more x r false u e h = led-filter x r (leaders u) e ∙ h

-- a set that a record has is one that a leader has
led-leaders : (u : List Rr) (r : Rr) → is_led r (leaders u) ≡ is_led r u
unfolding leaders
led-leaders [] r = refl
led-leaders (x ∷ u) r = led_more x r (same_set x r) u refl (led-leaders u r)

-- ---- sets of records with one more

grown_step : (l r : Rr) (u rs : List Rr) (b : Bool) → rs ≡ filter (same_set l) u ++ cond b (r ∷ []) []
    → record (bare_set u l) { records = rs } ≡ cond b (with_record r (bare_set u l)) (bare_set u l)
grown_step l r u rs true e = ap (λ xs. record (bare_set u l) { records = xs }) e
grown_step l r u rs false e = ap (λ xs. record (bare_set u l) { records = xs }) (e ∙ append-nil (filter (same_set l) u))

-- a set grows where the record is its own
bare_grown : (r : Rr) (u ls : List Rr)
    → map (bare_set (u ++ r ∷ [])) ls ≡ map (λ s. cond (is_at r.owner r.rtype s) (with_record r s) s) (map (bare_set u) ls)
bare_grown r u ls =
    let F = λ (s : RrSet). cond (is_at r.owner r.rtype s) (with_record r s) s in
    map_agree (bare_set (u ++ r ∷ [])) (λ l. F (bare_set u l)) ls
    (each_of (λ l. bare_set (u ++ r ∷ []) l ≡ F (bare_set u l))
    (λ l. grown_step l r u (filter (same_set l) (u ++ r ∷ [])) (same_set l r) (filter-append (same_set l) u (r ∷ []))) ls)
    ∙ sym (map-map F (bare_set u) ls)

none_step : (r x : Rr) (u : List Rr) (b c : Bool) → (b || c) ≡ false → (c ≡ false → filter (same_set r) u ≡ [])
    → cond b (x ∷ filter (same_set r) u) (filter (same_set r) u) ≡ []
none_step r x u true c e later = cc
none_step r x u false c e later = later e

-- a record that none stands beside has none of its set
none_same : (r : Rr) (u : List Rr) → is_led r u ≡ false → filter (same_set r) u ≡ []
none_same r [] e = refl
none_same r (x ∷ u) e = none_step r x u (same_set r x) (is_led r u) (ap (λ b. b || is_led r u) (same_set_back r x) ∙ e) (none_same r u)

pub any_map : {X Y : Type 0} (p : Y → Bool) (f : X → Y) (xs : List X) → list_any p (map f xs) ≡ list_any (λ x. p (f x)) xs
any_map p f [] = refl
any_map p f (x ∷ xs) = ap (λ b. p (f x) || b) (any_map p f xs)

any_bare : (r : Rr) (u : List Rr) → list_any (is_at r.owner r.rtype) (bare_sets u) ≡ is_led r u
any_bare r u = any_map (is_at r.owner r.rtype) (bare_set u) (leaders u) ∙ led-leaders u r

bare_apart : (u : List Rr) → Apart same_key (bare_sets u)
bare_apart u = apart_map same_key (bare_set u) (leaders u) (leaders_apart u)

bare_step : (r : Rr) (u : List Rr) (b : Bool) → is_led r u ≡ b
    → bare_sets (u ++ r ∷ []) ≡ cond b (touched (is_at r.owner r.rtype) (with_record r) (bare_sets u)) (bare_sets u ++ set_of_one r ∷ [])
bare_step r u true e =
    ap (map (bare_set (u ++ r ∷ []))) (leaders-push u r ∙ ap (λ b. leaders u ++ cond b [] (r ∷ [])) e ∙ append-nil (leaders u))
    ∙ bare_grown r u (leaders u)
    ∙ sym (touched_map same_key (is_at r.owner r.rtype) (with_record r) (at_single r.owner r.rtype) (bare_sets u) (bare_apart u))
bare_step r u false e =
    let whole = u ++ r ∷ [] in
    let own : bare_set whole r ≡ set_of_one r =
    ap (λ rs. record (set_of_one r) { records = rs }) (filter-append (same_set r) u (r ∷ [])
    ∙ ap (λ rs. rs ++ filter (same_set r) (r ∷ [])) (none_same r u e)
    ∙ ap (λ b. cond b (r ∷ []) []) (same_set_refl r)) in
    ap (map (bare_set whole)) (leaders-push u r ∙ ap (λ b. leaders u ++ cond b [] (r ∷ [])) e)
    ∙ map-append (bare_set whole) (leaders u) (r ∷ [])
    ∙ ap (λ sets. sets ++ bare_set whole r ∷ [])
    (bare_grown r u (leaders u) ∙ kept (is_at r.owner r.rtype) (with_record r) (bare_sets u)
    (none_passes (is_at r.owner r.rtype) (bare_sets u) (any_bare r u ∙ e)))
    ∙ ap (λ s. bare_sets u ++ s ∷ []) own

-- the sets of records with one more
pub bare-push : (r : Rr) (u : List Rr) → bare_sets (u ++ r ∷ []) ≡ joined_by r (bare_sets u)
bare-push r u = bare_step r u (list_any (is_at r.owner r.rtype) (bare_sets u)) (sym (any_bare r u))

met_step : (r : Rr) (u : List Rr) (b : Bool) → bare_sets (u ++ cond (not b) (r ∷ []) []) ≡ cond b (bare_sets u) (joined_by r (bare_sets u))
met_step r u true = ap bare_sets (append-nil u)
met_step r u false = bare-push r u

-- the records that were met, with one more
pub bare_more : (section : List Rr) (i : ℕ) (r : Rr) → i < length section → r ≡ get_or section i r
    → bare_sets (unsigned_part (take (i + 1) section)) ≡ met_by r (bare_sets (unsigned_part (take i section)))
bare_more section i r within read =
    let plain = λ (s : Rr). not (is_signature s) in
    ap bare_sets (filter_more plain section i r within ∙ ap (λ x. filter plain (take i section) ++ cond (plain x) (x ∷ []) []) (sym read))
    ∙ met_step r (unsigned_part (take i section)) (is_signature r)
