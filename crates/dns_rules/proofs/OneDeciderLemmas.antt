-- At most one of the signatures of a set is marked Secure.
use Rattle.std.proofs.Common.{◌≡◌, ℕ, ◌+◌, ◌<◌, ◌≤◌, Bool, true, false, ◌==◌, ◌&&◌, cond, List, [], ◌∷◌, ◌++◌, length, Option, None, Some, refl, sym, ap, ◌∙◌, subst, arith}
use Rattle.std.specs.List.{filter, find}
use Rattle.std.proofs.lemmas.Bool.{and_parts}
use Rattle.std.proofs.lemmas.List.{length-append}
use Rattle.std.proofs.lemmas.List.Elements.{filter-append, filter_agree}
use Rattle.std.proofs.lemmas.List.Sums.{length-filter}
use Rattle.dns_model.specs.declared.section.Section.{Section}
use Rattle.dns_model.specs.Names.{name_eq}
use Rattle.dns_model.specs.Views.{rrsig_in}
use Rattle.dns_model.specs.Records.{Rr}
use Rattle.dns_model.specs.Sections.{is_signature, covers, leaders, unsigned_part, set_of, sets_of}
use Rattle.dns_model.specs.SoundAnswers.{section_eq, is_secure, set_rtype, HasOneDecider, HaveOneDecider}
use Rattle.dns_model.proofs.EachLemmas.{each_of, each_map, find_agree}
use Rattle.dns_model.proofs.NameLemmas.{name_equiv}
use Rattle.dns_model.proofs.SetLemmas.{name_left, covered-kept}
use Rattle.dns_rules.specs.MarkedSets.{MarkedSet}
use Rattle.dns_rules.specs.Marking.{is_about, map_after, marked, marked_section}
use Rattle.dns_rules.specs.MarkParts.{covered}
use Rattle.dns_rules.proofs.MarkedLemmas.{marked-keeps, made_secure}
use Rattle.dns_rules.proofs.DeciderLemmas.{IsCovered, covered_parts, marked_place}
use Rattle.dns_model.proofs.ViewSteps.{covers_rtype}

-- ---- a list in which what is marked stands at one place

-- of those that pass, only the one behind this many of them is chosen
record IsAtOnePlace {X Y : Type 0} (p : X → Bool) (pass chosen : Y → Bool) (f : List X → X → Y) (place : Option ℕ) : Type 0 where
  same : (before : List X) (x : X) → pass (f before x) ≡ p x
  there : (before : List X) (x : X) → p x ≡ true → chosen (f before x) ≡ true → place ≡ Some (length (filter p before))

-- its place is behind
abbrev IsPast : {X : Type 0} → (X → Bool) → Option ℕ → List X → Type 0
IsPast p place before = (n : ℕ) → place ≡ Some n → n < length (filter p before)

count_more : {X : Type 0} (p : X → Bool) (before : List X) (x : X)
    → length (filter p (before ++ x ∷ [])) ≡ length (filter p before) + length (cond (p x) (x ∷ []) [])
count_more p before x = ap length (filter-append p before (x ∷ [])) ∙ length-append (filter p before) (cond (p x) (x ∷ []) [])

past_more : {X : Type 0} (p : X → Bool) (place : Option ℕ) (before : List X) (x : X) → IsPast p place before
    → IsPast p place (before ++ x ∷ [])
past_more p place before x past n is = omega (arith, past n is, count_more p before x)

-- one that passes and is at its place leaves it behind
past_here : {X : Type 0} (p : X → Bool) (place : Option ℕ) (before : List X) (x : X) → p x ≡ true → place ≡ Some (length (filter p before))
    → IsPast p place (before ++ x ∷ [])
past_here p place before x passes at n is =
    let same : length (filter p before) ≡ n = cc in
    let one : length (cond (p x) (x ∷ []) []) ≡ 1 = ap (λ b. length (cond b (x ∷ []) [])) passes in
    omega (arith, same, one, count_more p before x)

choose_step : {Y : Type 0} (chosen : Y → Bool) (b : Bool) (y : Y) (ys : List Y)
    → filter chosen (cond b (y ∷ ys) ys) ≡ cond (b && chosen y) (y ∷ filter chosen ys) (filter chosen ys)
choose_step chosen true y ys = refl
choose_step chosen false y ys = refl

-- those that pass and are chosen
abbrev chosen_in : {X Y : Type 0} → (Y → Bool) → (Y → Bool) → (List X → X → Y) → List X → List X → List Y
chosen_in pass chosen f before xs = filter chosen (filter pass (map_after f before xs))

chosen_more : {X Y : Type 0} (p : X → Bool) (pass chosen : Y → Bool) (f : List X → X → Y) (place : Option ℕ)
    → IsAtOnePlace p pass chosen f place
    → (before : List X) (x : X) (xs : List X) → chosen_in pass chosen f before (x ∷ xs)
    ≡ cond (p x && chosen (f before x)) (f before x ∷ chosen_in pass chosen f (before ++ x ∷ []) xs)
    (chosen_in pass chosen f (before ++ x ∷ []) xs)
unfolding map_after
chosen_more p pass chosen f place is before x xs =
    choose_step chosen (pass (f before x)) (f before x) (filter pass (map_after f (before ++ x ∷ []) xs))
    ∙ ap (λ b. cond (b && chosen (f before x)) (f before x ∷ chosen_in pass chosen f (before ++ x ∷ []) xs)
    (chosen_in pass chosen f (before ++ x ∷ []) xs))
    (is.same before x)

none_step : {Y : Type 0} (b : Bool) (y : Y) (ys : List Y) → (b ≡ true → ⊥) → ys ≡ [] → cond b (y ∷ ys) ys ≡ []
none_step true y ys never e = absurd (never refl)
none_step false y ys never e = e

-- behind its place none is chosen
none_past : {X Y : Type 0} (p : X → Bool) (pass chosen : Y → Bool) (f : List X → X → Y) (place : Option ℕ)
    → IsAtOnePlace p pass chosen f place
    → (before xs : List X) → IsPast p place before → chosen_in pass chosen f before xs ≡ []
unfolding map_after
none_past p pass chosen f place is before [] past = refl
none_past p pass chosen f place is before (x ∷ xs) past =
    let never : (p x && chosen (f before x)) ≡ true → ⊥ =
    λ h.
    let parts = and_parts (p x) (chosen (f before x)) h in
    let n = length (filter p before) in
    let less : n < n = past n (is.there before x parts.0 parts.1) in
    omega (arith, less) in
    chosen_more p pass chosen f place is before x xs
    ∙ none_step (p x && chosen (f before x)) (f before x) (chosen_in pass chosen f (before ++ x ∷ []) xs) never
    (none_past p pass chosen f place is (before ++ x ∷ []) xs (past_more p place before x past))

one_step : {Y : Type 0} (b : Bool) (y : Y) (ys : List Y) → (b ≡ true → ys ≡ []) → length ys ≤ 1 → length (cond b (y ∷ ys) ys) ≤ 1
one_step true y ys none le =
    let empty : length ys ≡ 0 = ap length (none refl) in
    omega (arith, empty)
one_step false y ys none le = le

one_chosen : {X Y : Type 0} (p : X → Bool) (pass chosen : Y → Bool) (f : List X → X → Y) (place : Option ℕ)
    → IsAtOnePlace p pass chosen f place
    → (before xs : List X) → length (chosen_in pass chosen f before xs) ≤ 1
unfolding map_after
one_chosen p pass chosen f place is before [] = omega arith
one_chosen p pass chosen f place is before (x ∷ xs) =
    let none : (p x && chosen (f before x)) ≡ true → chosen_in pass chosen f (before ++ x ∷ []) xs ≡ [] =
    λ h.
    let parts = and_parts (p x) (chosen (f before x)) h in
    none_past p pass chosen f place is (before ++ x ∷ []) xs (past_here p place before x parts.0 (is.there before x parts.0 parts.1)) in
    let rest = chosen_in pass chosen f (before ++ x ∷ []) xs in
    subst (λ ys. length ys ≤ 1) (sym (chosen_more p pass chosen f place is before x xs))
    (one_step (p x && chosen (f before x)) (f before x) rest none (one_chosen p pass chosen f place is (before ++ x ∷ []) xs))

-- ---- the signatures that cover one set

-- a judged set of a section, of this record's owner and type
abbrev is_set_of : Section → Rr → MarkedSet → Bool
is_set_of section l s = section_eq s.section section && (name_eq s.set.owner l.owner && (s.set.rtype == l.rtype))

abbrev place_decided : Option MarkedSet → Option ℕ
place_decided None = None
place_decided (Some s) = s.sig

about_same : (section : Section) (l r : Rr) → IsCovered l r → (s : MarkedSet) → is_set_of section l s ≡ is_about section r s
about_same section l r c s =
    let owners : name_eq s.set.owner l.owner ≡ name_eq s.set.owner r.owner =
    name_equiv.symm s.set.owner l.owner ∙ name_left l.owner r.owner s.set.owner c.owner ∙ name_equiv.symm r.owner s.set.owner in
    ap (λ b. section_eq s.section section && (b && (s.set.rtype == l.rtype))) owners
    ∙ ap (λ k. section_eq s.section section && (name_eq s.set.owner r.owner && (s.set.rtype == k))) (sym c.rtype)

covers_same : (l r : Rr) → IsCovered l r → (b : Rr) → covers (covered r) b ≡ covers l b
covers_same l r c b =
    ap (λ x. is_signature b && (x && covers_rtype (set_rtype r) (rrsig_in b.rdata))) (sym (name_left l.owner r.owner b.owner c.owner))
    ∙ ap (λ k. is_signature b && (name_eq l.owner b.owner && covers_rtype k (rrsig_in b.rdata))) c.rtype

there : (now : ℕ) (ss : List MarkedSet) (section : Section) (l : Rr) (before : List Rr) (r : Rr) → covers l r ≡ true
    → is_secure ((marked now ss section before r).proof) ≡ true
    → place_decided (find (is_set_of section l) ss) ≡ Some (length (filter (covers l) before))
there now ss section l before r h secure =
    let c = covered_parts l r h in
    let made = made_secure now ss section before r secure in
    ap place_decided (find_agree (is_set_of section l) (is_about section r) (about_same section l r c) ss ∙ made.found)
    ∙ marked_place before r made.set.sig made.decides c.signs
    ∙ ap Some (sym (length-filter (covers (covered r)) before)
    ∙ ap length (filter_agree (covers (covered r)) (covers l) (covers_same l r c) before))

one_secure : (now : ℕ) (ss : List MarkedSet) (section : Section) (records : List Rr) (l : Rr)
    → HasOneDecider (set_of (marked_section now ss section records) l)
one_secure now ss section records l =
    let f = marked now ss section in
    let secures = λ (r : Rr). is_secure r.proof in
    let place = place_decided (find (is_set_of section l) ss) in
    let is : IsAtOnePlace (covers l) (covers l) secures f place =
    record { same = λ before r. covered-kept (f before) (marked-keeps now ss section before) l r; there = there now ss section l } in
    subst (λ n. n ≤ 1) (length-filter secures (filter (covers l) (marked_section now ss section records)))
    (one_chosen (covers l) (covers l) secures f place is [] records)

pub one_decider : (now : ℕ) (ss : List MarkedSet) (section : Section) (records : List Rr)
    → HaveOneDecider (marked_section now ss section records)
unfolding sets_of
one_decider now ss section records =
    let ys = marked_section now ss section records in
    each_map HasOneDecider (set_of ys) (leaders (unsigned_part ys))
    (each_of (λ l. HasOneDecider (set_of ys l)) (one_secure now ss section records) (leaders (unsigned_part ys)))
