-- That an NSEC3 record is true of a zone, or false, shown by computing: all names that exist are last parts of
-- owners, and bitmaps
-- of one window tell of few types.
use Rattle.std.proofs.Common.{◌≡◌, ℕ, ◌^◌, ◌-◌, ◌/◌, ◌%◌, ◌≤◌, ◌<◌, Bool, true, false, not, ◌==◌, ◌&&◌, ◌||◌, List, [], ◌∷◌, length, refl, sym, ap, ◌∙◌, ◌⊎◌, inl, inr, arith}
use Rattle.std.specs.Prelude.{nat_eq, nat_lt, slice_index}
use Rattle.std.specs.List.{list_all}
use Rattle.std.proofs.lemmas.Bool.{and_parts, and_from, false_from_ne_true, agree_below, agree_below_at, cases_lt}
use Rattle.std.proofs.lemmas.Bool.Decides.{nat_tests}
use Rattle.std.proofs.lemmas.List.{get_or_past}
use Rattle.std.proofs.Math.Nat.{zero-div}
use Rattle.dns_model.specs.Names.{Labels, name_eq, at_or_above}
use Rattle.dns_model.specs.Shapes.{window_in, windows_in, has_bit, window_has, bitmap_has}
use Rattle.dns_model.specs.Types.{type_rrsig}
use Rattle.dns_model.specs.Owned.{OwnedNsec3}
use Rattle.dns_model.proofs.SetLemmas.{name_back}
use Rattle.dns_model.proofs.AboveLemmas.{above_alike, above_itself, below_alike, above_tail, above_is_shorter}
use Rattle.dns_rules.specs.Nsec3Covering.{is_opt_out, owner_hash, lies_between}
use Rattle.dns_rules.specs.Zones.{Zone, has_set, exists_in}
use Rattle.dns_rules.proofs.Members.{after_not, picked}
use Rattle.dns_hashed_denial.specs.HashedZones.{Hashing, is_light}
use Rattle.dns_hashed_denial.proofs.ExistingNames.{owner_below, exists_inside, light_below}

-- ---- bitmaps

-- a window of six bytes has no type from 48 on
past_window : (bits : List ℕ) (rtype : ℕ) → length bits ≤ 6 → 48 ≤ rtype
    → window_has rtype (record { number = 0; bits = bits }) ≡ false
past_window bits rtype short late = by (nat_eq 0 (rtype / 256)) refl
  where
    by : (b : Bool) → nat_eq 0 (rtype / 256) ≡ b → (b && has_bit bits (rtype % 256)) ≡ false
    by false e = refl
    by true e =
        let first : 0 ≡ rtype / 256 = grind (arith, nat_tests, e) in
        let none : slice_index bits (rtype % 256 / 8) ≡ 0 = get_or_past bits (rtype % 256 / 8) 0 (omega arith) in
        ap (λ n. n / 2 ^ (7 - rtype % 256 % 8) % 2 == 1) none
        ∙ ap (λ n. n % 2 == 1) (zero-div (2 ^ (7 - rtype % 256 % 8)))

-- the bits of one window of six bytes
abbrev pub six : List ℕ → List ℕ
six bits = 0 ∷ 6 ∷ bits

pub six_past : (a b c d e f rtype : ℕ) → 48 ≤ rtype → bitmap_has (six (a ∷ b ∷ c ∷ d ∷ e ∷ f ∷ [])) rtype ≡ false
unfolding bitmap_has windows_in window_in
six_past a b c d e f rtype late =
    ap (λ t. t || false) (past_window (a ∷ b ∷ c ∷ d ∷ e ∷ f ∷ []) rtype (omega arith) late)

-- no types at all
pub none_past : (rtype : ℕ) → 48 ≤ rtype → bitmap_has [] rtype ≡ false
unfolding bitmap_has windows_in
none_past rtype late = refl

-- ---- types of a zone

-- each type of the zone is below 48
abbrev pub has_few_types : Zone → Bool
has_few_types zone = list_all (λ set. nat_lt set.rtype 48) zone.sets

set_past : (zone : Zone) (name : Labels) (rtype : ℕ) → has_few_types zone ≡ true → 48 ≤ rtype
    → has_set zone name rtype ≡ false
unfolding has_set
set_past zone name rtype few late =
    false_from_ne_true _ (λ h.
    let k = picked (λ set. name_eq set.owner name && (set.rtype == rtype)) zone.sets h in
    let same : k.it.rtype ≡ rtype =
    grind (arith, nat_tests, (and_parts (name_eq k.it.owner name) (k.it.rtype == rtype) k.passes).1) in
    let small : k.it.rtype < 48 = grind (arith, nat_tests, k.member.all (λ set. nat_lt set.rtype 48) few) in
    omega (arith, same, small, late))

-- what a bitmap tells
abbrev pub told : List ℕ → ℕ → Bool
told types rtype = bitmap_has types rtype && not (rtype == type_rrsig)

-- the types below 48 are compared, and there are no others
pub types_compared : (zone : Zone) (name : Labels) (types : List ℕ) → has_few_types zone ≡ true
    → ((rtype : ℕ) → 48 ≤ rtype → bitmap_has types rtype ≡ false)
    → agree_below (has_set zone name) (told types) 48 ≡ true
    → (rtype : ℕ) → has_set zone name rtype ≡ told types rtype
types_compared zone name types few past same rtype = by (cases_lt rtype 48)
  where
    by : (rtype < 48) ⊎ (48 ≤ rtype) → has_set zone name rtype ≡ told types rtype
    by (inl small) = agree_below_at (has_set zone name) (told types) 48 rtype same small
    by (inr late) = set_past zone name rtype few late ∙ sym (ap (λ b. b && not (rtype == type_rrsig)) (past rtype late))

-- ---- names that exist

-- a test of a name and of all above it
abbrev pub each_last : (Labels → Bool) → Labels → Bool
each_last test [] = test []
each_last test (label ∷ name) = test (label ∷ name) && each_last test name

record IsLast (test : Labels → Bool) (name : Labels) : Type 0 where
  pub last : Labels
  pub same : name_eq last name ≡ true
  pub passes : test last ≡ true

last_of : (test : Labels → Bool) (name owner : Labels) → at_or_above name owner ≡ true → each_last test owner ≡ true
    → IsLast test name
last_of test [] [] above h = record { last = []; same = refl; passes = h }
last_of test (label ∷ name) [] above h = absurd (omega (arith, above_is_shorter (label ∷ name) [] above))
last_of test name (label ∷ owner) above h =
    by (above_tail name label owner above) (last_of test name owner)
  where
    parts : (test (label ∷ owner) ≡ true) × (each_last test owner ≡ true)
    parts = and_parts (test (label ∷ owner)) (each_last test owner) h

    by : (name_eq name (label ∷ owner) ≡ true) ⊎ (at_or_above name owner ≡ true)
        → (at_or_above name owner ≡ true → each_last test owner ≡ true → IsLast test name) → IsLast test name
    by (inl same) later = record { last = label ∷ owner; same = name_back name (label ∷ owner) same; passes = parts.0 }
    by (inr up) later = later up parts.1

-- a record covers no name of the zone, but light ones where its flag Opt-Out is set
abbrev pub spares : Hashing → Zone → OwnedNsec3 → Labels → Bool
spares hash zone nsec3 name =
    not (at_or_above zone.apex name)
    || (not (lies_between (owner_hash nsec3) nsec3.fields.next (hash name)) || (is_opt_out nsec3 && is_light zone name))

abbrev pub spares_all : Hashing → Zone → OwnedNsec3 → Bool
spares_all hash zone nsec3 = list_all (λ set. each_last (spares hash zone nsec3) set.owner) zone.sets

pub covers_few : (hash : Hashing) (zone : Zone) (nsec3 : OwnedNsec3)
    → ((one two : Labels) → name_eq one two ≡ true → hash one ≡ hash two)
    → spares_all hash zone nsec3 ≡ true → (name : Labels) → exists_in zone name ≡ true
    → lies_between (owner_hash nsec3) nsec3.fields.next (hash name) ≡ true
    → (is_opt_out nsec3 && is_light zone name) ≡ true
covers_few hash zone nsec3 alike all name there between =
    let k = owner_below zone name there in
    let l = last_of (spares hash zone nsec3) name k.it.owner k.passes
    (k.member.all (λ set. each_last (spares hash zone nsec3) set.owner) all) in
    let inside = below_alike zone.apex name l.last (name_back l.last name l.same) (exists_inside zone name there) in
    let hidden = after_not (at_or_above zone.apex l.last) _ inside l.passes in
    let over = ap (lies_between (owner_hash nsec3) nsec3.fields.next) (alike l.last name l.same) ∙ between in
    let parts = and_parts (is_opt_out nsec3) (is_light zone l.last)
    (after_not (lies_between (owner_hash nsec3) nsec3.fields.next (hash l.last)) _ over hidden) in
    and_from (is_opt_out nsec3) (is_light zone name) parts.0
    (light_below zone l.last name parts.1
    (above_alike name l.last name (name_back l.last name l.same) (above_itself name)) there)
