-- True NSEC records of the example zone, and a denial that they prove of it.
use Rattle.std.proofs.Common.{◌≡◌, ℕ, zero, suc, ◌^◌, ◌-◌, ◌/◌, ◌%◌, ◌≤◌, ◌<◌, Bool, true, false, not, ◌==◌, ◌&&◌, ◌||◌, List, [], ◌∷◌, length, Some, refl, sym, ap, ◌∙◌, arith, true≢false}
use Rattle.std.specs.Prelude.{nat_eq, nat_lt, slice_index}
use Rattle.std.proofs.lemmas.Bool.{and_parts}
use Rattle.std.proofs.lemmas.Bool.Decides.{nat_tests}
use Rattle.std.proofs.lemmas.List.{get_or_past}
use Rattle.std.proofs.Math.Nat.{zero-div}
use Rattle.dns_model.specs.Names.{star, common_ancestor}
use Rattle.dns_model.specs.Types.{type_nsec, type_rrsig, type_a}
use Rattle.dns_model.specs.Shapes.{window_in, windows_in, has_bit, window_has, bitmap_has}
use Rattle.dns_model.specs.Records.{Question}
use Rattle.dns_model.specs.Owned.{OwnedNsec}
use Rattle.dns_model.specs.declared.proof.Proof.TheVariants.{Secure, Bogus}
use Rattle.dns_model.specs.declared.answered.Answered.TheVariants.{No, Expanded}
use Rattle.dns_rules.specs.Covering.{nsec_covering}
use Rattle.dns_rules.specs.NsecVerdict.{closest_encloser, nsec_verdict}
use Rattle.dns_rules.specs.Zones.{has_set, is_owner, is_delegation, exists_in, encloser, from_wildcard, lookup, Data, is_last, none_between, is_next, IsTrueNsec}
use Rattle.dns_rules.specs.DenialInZones.{IsShownBy, HasNone}
use Rattle.dns_rules.proofs.Promises.{denial_holds}
use Rattle.dns_rules.proofs.ExampleZones.{letter, apex, below, zone, well_formed}

-- ---- bits of all types

alike : Bool → Bool → Bool
alike a b = (a && b) || (not a && not b)

alike_is : (a b : Bool) → alike a b ≡ true → a ≡ b
unfolding alike
alike_is true true h = refl
alike_is true false h = absurd (true≢false (sym h))
alike_is false true h = absurd (true≢false (sym h))
alike_is false false h = refl

-- a test of the numbers below a bound
below_all : ℕ → (ℕ → Bool) → Bool
below_all zero test = true
below_all (suc n) test = test n && below_all n test

below_each : (n : ℕ) (test : ℕ → Bool) → below_all n test ≡ true → (k : ℕ) → k < n → test k ≡ true
unfolding below_all
below_each zero test h k lt = absurd (omega arith)
below_each (suc n) test h k lt =
    let parts = and_parts (test n) (below_all n test) h in
    by (nat_eq k n) refl parts.0 (below_each n test parts.1 k)
  where
    by : (b : Bool) → nat_eq k n ≡ b → test n ≡ true → (k < n → test k ≡ true) → test k ≡ true
    by true e last rest = let same : k ≡ n = grind (arith, nat_tests, e) in ap test same ∙ last
    by false e last rest = let less : k < n = grind (arith, nat_tests, e) in rest less

-- a window of six bytes has no type from 48 on
past_window : (bits : List ℕ) (rtype : ℕ) → length bits ≤ 6 → 48 ≤ rtype → window_has rtype (record { number = 0; bits = bits }) ≡ false
past_window bits rtype short late = by (nat_eq 0 (rtype / 256)) refl
  where
    by : (b : Bool) → nat_eq 0 (rtype / 256) ≡ b → (b && has_bit bits (rtype % 256)) ≡ false
    by false e = refl
    by true e =
        let first : 0 ≡ rtype / 256 = grind (arith, nat_tests, e) in
        let none : slice_index bits (rtype % 256 / 8) ≡ 0 = get_or_past bits (rtype % 256 / 8) 0 (omega arith) in
        ap (λ n. n / 2 ^ (7 - rtype % 256 % 8) % 2 == 1) none ∙ ap (λ n. n % 2 == 1) (zero-div (2 ^ (7 - rtype % 256 % 8)))

-- ---- two records

-- the apex has NS and SOA
abbrev pub first_record : OwnedNsec
first_record = record { owner = apex; fields = record { next = below 97; types = 0 ∷ 6 ∷ 34 ∷ 0 ∷ 0 ∷ 0 ∷ 0 ∷ 3 ∷ [] } }

-- `u` has NS, and the next owner is the last one
abbrev pub later_record : OwnedNsec
later_record = record { owner = below 117; fields = record { next = star (below 119); types = 0 ∷ 6 ∷ 32 ∷ 0 ∷ 0 ∷ 0 ∷ 0 ∷ 3 ∷ [] } }

-- the types that a record's bitmap tells
abbrev told : OwnedNsec → ℕ → Bool
told nsec rtype = bitmap_has nsec.fields.types rtype && not ((rtype == type_nsec) || (rtype == type_rrsig))

few : (nsec : OwnedNsec) → below_all 48 (λ rtype. alike (has_set zone nsec.owner rtype) (told nsec rtype)) ≡ true → (rtype : ℕ) → rtype < 48
    → has_set zone nsec.owner rtype ≡ told nsec rtype
few nsec h rtype lt = alike_is (has_set zone nsec.owner rtype) (told nsec rtype)
    (below_each 48 (λ t. alike (has_set zone nsec.owner t) (told nsec t)) h rtype lt)

first_few : below_all 48 (λ rtype. alike (has_set zone first_record.owner rtype) (told first_record rtype)) ≡ true
unfolding below_all alike has_set bitmap_has windows_in window_in
first_few = refl

later_few : below_all 48 (λ rtype. alike (has_set zone later_record.owner rtype) (told later_record rtype)) ≡ true
unfolding below_all alike has_set bitmap_has windows_in window_in
later_few = refl

first_past : (rtype : ℕ) → 48 ≤ rtype → has_set zone first_record.owner rtype ≡ told first_record rtype
unfolding has_set bitmap_has windows_in window_in
first_past rtype late =
    let soa : (6 == rtype) ≡ false = grind (arith, nat_tests, late) in
    let ns : (2 == rtype) ≡ false = grind (arith, nat_tests, late) in
    ap (λ b. b || ((2 == rtype) || false)) soa ∙ ap (λ b. b || false) ns
    ∙ sym (ap (λ b. (b || false) && not ((rtype == type_nsec) || (rtype == type_rrsig)))
    (past_window (34 ∷ 0 ∷ 0 ∷ 0 ∷ 0 ∷ 3 ∷ []) rtype (omega arith) late))

later_past : (rtype : ℕ) → 48 ≤ rtype → has_set zone later_record.owner rtype ≡ told later_record rtype
unfolding has_set bitmap_has windows_in window_in
later_past rtype late =
    let ns : (2 == rtype) ≡ false = grind (arith, nat_tests, late) in
    ap (λ b. b || false) ns
    ∙ sym (ap (λ b. (b || false) && not ((rtype == type_nsec) || (rtype == type_rrsig)))
    (past_window (32 ∷ 0 ∷ 0 ∷ 0 ∷ 0 ∷ 3 ∷ []) rtype (omega arith) late))

all_types : (nsec : OwnedNsec) → below_all 48 (λ rtype. alike (has_set zone nsec.owner rtype) (told nsec rtype)) ≡ true
    → ((rtype : ℕ) → 48 ≤ rtype → has_set zone nsec.owner rtype ≡ told nsec rtype) → (rtype : ℕ)
    → has_set zone nsec.owner rtype ≡ told nsec rtype
all_types nsec low high rtype = by (nat_lt rtype 48) refl
  where
    by : (b : Bool) → nat_lt rtype 48 ≡ b → has_set zone nsec.owner rtype ≡ told nsec rtype
    by true e = few nsec low rtype (grind (arith, nat_tests, e))
    by false e = high rtype (grind (arith, nat_tests, e))

pub first_is_true : IsTrueNsec zone first_record
unfolding is_next is_last none_between is_owner
first_is_true = record { owner = refl; types = all_types first_record first_few first_past; next = refl }

pub later_is_true : IsTrueNsec zone later_record
unfolding is_next is_last none_between is_owner
later_is_true = record { owner = refl; types = all_types later_record later_few later_past; next = refl }

-- ---- what they prove

pub shown : IsShownBy (first_record ∷ later_record ∷ []) apex zone
shown = record { formed = well_formed; apex_is = refl; each_true = (first_is_true, (later_is_true, tt)) }

-- an address of `v`
abbrev pub query : Question
query = record { owner = below 118; rtype = type_a; class = 1 }

pub name_error : nsec_verdict query apex 3 No (first_record ∷ later_record ∷ []) ≡ Secure
unfolding nsec_verdict nsec_covering closest_encloser common_ancestor bitmap_has windows_in window_in
name_error = refl

-- so the zone has no such name
pub no_such_name : HasNone query 3 zone
no_such_name = denial_holds query apex 3 (first_record ∷ later_record ∷ []) name_error refl zone shown

-- one record that covers the name says nothing of the wildcard
pub wildcard_uncovered : nsec_verdict query apex 3 No (later_record ∷ []) ≡ Bogus
unfolding nsec_verdict nsec_covering closest_encloser common_ancestor bitmap_has windows_in window_in
wildcard_uncovered = refl

-- answered from `*.example.`, it has nothing closer
pub expanded : nsec_verdict query apex 0 (Expanded 1) (later_record ∷ []) ≡ Secure
unfolding nsec_verdict nsec_covering closest_encloser common_ancestor bitmap_has windows_in window_in
expanded = refl

-- the last owner is the wildcard below `w`, and it has an address
abbrev pub last_record : OwnedNsec
last_record = record { owner = star (below 119); fields = record { next = apex; types = 0 ∷ 6 ∷ 64 ∷ 0 ∷ 0 ∷ 0 ∷ 0 ∷ 3 ∷ [] } }

-- it covers a name to which that wildcard answers, so it denies nothing of it
pub covered : nsec_covering (letter 98 ∷ below 119) (last_record ∷ []) ≡ Some last_record
unfolding nsec_covering bitmap_has windows_in window_in
covered = refl

pub answered : lookup zone (letter 98 ∷ below 119) type_a ≡ Data
unfolding lookup from_wildcard encloser has_set is_delegation exists_in
answered = refl

pub no_name_error : nsec_verdict (record { owner = letter 98 ∷ below 119; rtype = type_a; class = 1 }) apex 3 No (last_record ∷ []) ≡ Bogus
unfolding nsec_verdict nsec_covering closest_encloser common_ancestor bitmap_has windows_in window_in
no_name_error = refl

pub no_denial : nsec_verdict (record { owner = letter 98 ∷ below 119; rtype = type_a; class = 1 }) apex 0 No (last_record ∷ []) ≡ Bogus
unfolding nsec_verdict nsec_covering closest_encloser common_ancestor bitmap_has windows_in window_in
no_denial = refl
