-- The signature that decided a judged set stands in the section of that set, and is marked as the set is.
use Rattle.std.proofs.Common.{◌≡◌, ℕ, zero, suc, Bool, true, false, not, ◌==◌, ◌&&◌, ◌||◌, cond, List, [], ◌∷◌, ◌++◌, length, Option, None, Some, refl, sym, ap, ◌∙◌, subst}
use Rattle.std.specs.Prelude.{slice_get, if◌then◌else◌}
use Rattle.std.specs.List.{filter, list_any}
use Rattle.std.proofs.lemmas.Bool.{and_from, and_right, or_right}
use Rattle.std.proofs.lemmas.List.{append-nil, append_assoc}
use Rattle.std.proofs.lemmas.List.Sums.{length-filter}
use Rattle.std.proofs.lemmas.List.Elements.{filter_agree}
use Rattle.std.proofs.lemmas.Option.{same_Some}
use Rattle.dns_model.specs.Names.{name_eq}
use Rattle.dns_model.specs.Records.{Rr}
use Rattle.dns_model.specs.Sections.{is_signature, covers}
use Rattle.dns_model.specs.SoundAnswers.{Told, section_of, section_eq, set_rtype}
use Rattle.dns_model.proofs.SetLemmas.{number_refl, section_refl, covers_set}
use Rattle.dns_rules.specs.MarkedSets.{MarkedSet, decider}
use Rattle.dns_rules.specs.Marking.{cleared, is_about, signature_place, adjusted_ttl, map_after, marked, marked_section}
use Rattle.dns_rules.specs.MarkParts.{signature_at, covered, is_place, marked_by}
use Rattle.dns_rules.proofs.MarkedLemmas.{IsKnown, IsAbout, about_parts}
use Rattle.dns_rules.proofs.DeciderLemmas.{covered_parts, about_agrees, decider_signs}

-- ---- lists

-- where one of those that pass stands in the whole list
record IsSplit {X : Type 0} (p : X → Bool) (xs : List X) (n : ℕ) (x : X) : Type 0 where
  before : List X
  rest : List X
  split : before ++ x ∷ rest ≡ xs
  place : length (filter p before) ≡ n
  passes : p x ≡ true

behind_passing : {X : Type 0} (p : X → Bool) (y : X) (xs : List X) (n : ℕ) (x : X) → p y ≡ true → IsSplit p xs n x
    → IsSplit p (y ∷ xs) (suc n) x
behind_passing p y xs n x is s = record {
  before = y ∷ s.before;
  rest = s.rest;
  split = ap (λ zs. y ∷ zs) s.split;
  place = ap (λ c. length (cond c (y ∷ filter p s.before) (filter p s.before))) is ∙ ap suc s.place;
  passes = s.passes;
}

behind_failing : {X : Type 0} (p : X → Bool) (y : X) (xs : List X) (n : ℕ) (x : X) → p y ≡ false → IsSplit p xs n x → IsSplit p (y ∷ xs) n x
behind_failing p y xs n x is s = record {
  before = y ∷ s.before;
  rest = s.rest;
  split = ap (λ zs. y ∷ zs) s.split;
  place = ap (λ c. length (cond c (y ∷ filter p s.before) (filter p s.before))) is ∙ s.place;
  passes = s.passes;
}

split_step : {X : Type 0} (p : X → Bool) (b : Bool) (y : X) (xs : List X) (n : ℕ) (x : X) → p y ≡ b
    → ((m : ℕ) → slice_get (filter p xs) m ≡ Some x → IsSplit p xs m x)
    → slice_get (cond b (y ∷ filter p xs) (filter p xs)) n ≡ Some x → IsSplit p (y ∷ xs) n x
split_step p true y xs zero x is more h =
    let same : y ≡ x = same_Some y x h in
    subst (IsSplit p (y ∷ xs) zero) same (record { before = []; rest = xs; split = refl; place = refl; passes = is })
split_step p true y xs (suc n) x is more h = behind_passing p y xs n x is (more n h)
split_step p false y xs n x is more h = behind_failing p y xs n x is (more n h)

split_at : {X : Type 0} (p : X → Bool) (xs : List X) (n : ℕ) (x : X) → slice_get (filter p xs) n ≡ Some x → IsSplit p xs n x
split_at p [] n x h = cc
split_at p (y ∷ xs) n x h = split_step p (p y) y xs n x refl (λ m k. split_at p xs m x k) h

-- what passes behind those before it
any_behind : {X Y : Type 0} (p : Y → Bool) (f : List X → X → Y) (start before rest : List X) (x : X) → p (f (start ++ before) x) ≡ true
    → list_any p (map_after f start (before ++ x ∷ rest)) ≡ true
unfolding map_after
any_behind p f start [] rest x h =
    ap (λ b. b || list_any p (map_after f (start ++ x ∷ []) rest)) (ap (λ s. p (f s x)) (sym (append-nil start)) ∙ h)
any_behind p f start (y ∷ before) rest x h =
    or_right (p (f start y)) (list_any p (map_after f (start ++ y ∷ []) (before ++ x ∷ rest)))
    (any_behind p f (start ++ y ∷ []) before rest x (ap (λ s. p (f s x)) (append_assoc start (y ∷ []) before) ∙ h))

-- ---- the place of the signature that decided

record IsPlaced (s : MarkedSet) (r : Rr) : Type 0 where
  place : ℕ
  is : s.sig ≡ Some place
  there : slice_get s.set.signatures place ≡ Some r

placed_step : (s : MarkedSet) (r : Rr) (o : Option ℕ) → s.sig ≡ o → signature_at s.set.signatures o ≡ Some r → IsPlaced s r
placed_step s r None is h = cc
placed_step s r (Some n) is h = record { place = n; is = is; there = h }

-- ---- its mark

-- a record that covers a judged set is about it
covering_about : (s : MarkedSet) (r : Rr) → covers_set s.set r ≡ true → is_about s.section r s ≡ true
covering_about s r h =
    let parts = covered_parts (record r { owner = s.set.owner; rtype = s.set.rtype }) r h in
    and_from (section_eq s.section s.section) (name_eq s.set.owner r.owner && (s.set.rtype == set_rtype r)) (section_refl s.section)
    (and_from (name_eq s.set.owner r.owner) (s.set.rtype == set_rtype r) parts.owner
    (ap (λ t. s.set.rtype == t) parts.rtype ∙ number_refl s.set.rtype))

-- such a record, at the place of the signature that decided, as it is marked
decider_marked : (now : ℕ) (told : Told) (sets : List MarkedSet) (s : MarkedSet) (n : ℕ) (before : List Rr) (r : Rr) → IsKnown told sets s
    → s.sig ≡ Some n → length (filter (covers_set s.set) before) ≡ n → is_about s.section r s ≡ true
    → marked now sets s.section before r ≡ record r { proof = s.mark; ttl = adjusted_ttl now s r }
unfolding marked
decider_marked now told sets s n before r known is place about =
    let count : signature_place before r ≡ n =
    sym (length-filter (covers (covered r)) before)
    ∙ ap length (filter_agree (covers (covered r)) (covers_set s.set) (about_agrees s.section r s (about_parts s.section r s about))
    before) ∙ place in
    let decides : is_place s.sig (signature_place before r) ≡ true = ap (λ o. is_place o (signature_place before r)) is
    ∙ ap (λ m. n == m) count ∙ number_refl n in
    ap (marked_by now (signature_place before r) r) (known.found.found s.section r about)
    ∙ ap (λ b. if b then cleared r else record r { proof = s.mark; ttl = adjusted_ttl now s r })
    (ap (λ b. is_signature r && not b) decides ∙ and_right (is_signature r) false refl)

-- some record of the marked section is the signature that decided a judged set, marked as the set is
pub some_decider : (p : Rr → Bool) (now : ℕ) (told : Told) (sets : List MarkedSet) (s : MarkedSet) (r : Rr)
    → IsKnown told sets s → decider s ≡ Some r
    → (IsAbout s.section r s → is_signature r ≡ true → p (record r { proof = s.mark; ttl = adjusted_ttl now s r }) ≡ true)
    → list_any p (marked_section now sets s.section (section_of told s.section)) ≡ true
some_decider p now told sets s r known decides passes =
    let f = marked now sets s.section in
    let placed = placed_step s r s.sig refl decides in
    let at = split_at (covers_set s.set) (section_of told s.section) placed.place r
    (ap (λ xs. slice_get xs placed.place) (sym known.signed.signed) ∙ placed.there) in
    let about = covering_about s r at.passes in
    ap (λ xs. list_any p (map_after f [] xs)) (sym at.split)
    ∙ any_behind p f [] at.before at.rest r
    (ap p (decider_marked now told sets s placed.place at.before r known placed.is at.place about)
    ∙ passes (about_parts s.section r s about) (decider_signs (section_of told s.section) s known.signed r decides))
