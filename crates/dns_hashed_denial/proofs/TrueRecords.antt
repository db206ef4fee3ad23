-- What a true NSEC3 record says of its zone: of its original owner name, and of the names that it covers (RFC 5155,
-- 1.3 and 7.1).
use Rattle.std.proofs.Common.{◌≡◌, ℕ, Bool, true, false, cond, not, ◌==◌, ◌&&◌, ◌||◌, List, refl, sym, ap, ◌∙◌, true≢false, ◌⊎◌, inl, inr, arith}
use Rattle.std.proofs.lemmas.Bool.{and_parts, and_right, false_from_ne_true, or_left, or_right, or_cases, or_parts, not-true}
use Rattle.std.proofs.lemmas.Bool.Decides.{nat_tests}
use Rattle.dns_model.specs.Names.{Labels, name_eq, at_or_above, strictly_above}
use Rattle.dns_model.specs.Shapes.{bitmap_has}
use Rattle.dns_model.specs.Types.{type_ns, type_soa, type_cname, type_ds, type_dname, type_nsec, type_rrsig}
use Rattle.dns_model.specs.Owned.{OwnedNsec3}
use Rattle.dns_model.proofs.NameLemmas.{name_equiv}
use Rattle.dns_model.proofs.AboveLemmas.{strictly_parts}
use Rattle.dns_rules.specs.ListedTypes.{has_type, is_cut, ends_zone, is_unsigned_cut, lacks_data, is_right_side}
use Rattle.dns_rules.specs.Nsec3Covering.{is_considered, is_opt_out, owner_hash, lies_between, nsec3_spans}
use Rattle.dns_rules.specs.Zones.{Zone, has_set, is_delegation, exists_in, zone_ends_at, fits_in, is_zone, is_signing_type, has_data}
use Rattle.dns_rules.proofs.Members.{picked}
use Rattle.dns_rules.proofs.ZoneLemmas.{has_set_alike, is_delegation_alike, soa_at_apex}
use Rattle.dns_rules.proofs.ReachLemmas.{IsReached}
use Rattle.dns_hashed_denial.specs.HashedZones.{Hashing, is_unsigned_delegation, is_light, IsTrueNsec3, is_concerned, IsCollisionFree}
use Rattle.dns_hashed_denial.proofs.ExistingNames.{exists_alike, none_exists_below}

-- ---- the names that a record covers

-- a true record covers the hash of no name that exists, but of light names where its flag Opt-Out is set
pub covers_light_alone : (hash : Hashing) (zone : Zone) (nsec3 : OwnedNsec3) (name : Labels)
    → IsTrueNsec3 hash zone nsec3
    → exists_in zone name ≡ true → nsec3_spans (hash name) nsec3 ≡ true
    → (is_opt_out nsec3 ≡ true) × (is_light zone name ≡ true)
covers_light_alone hash zone nsec3 name t there spanned =
    and_parts (is_opt_out nsec3) (is_light zone name)
    (t.between name there
    (and_parts (is_considered nsec3) (lies_between (owner_hash nsec3) nsec3.fields.next (hash name)) spanned).1)

-- ---- the name that a record matches

-- a name exists, and has the types that a record lists
pub record IsListed (zone : Zone) (name : Labels) (types : List ℕ) : Type 0 where
  pub there : exists_in zone name ≡ true
  pub listed : (rtype : ℕ) → has_set zone name rtype ≡ has_type rtype types

-- no zone holds the types that its signing adds
none_signing : (zone : Zone) (name : Labels) (rtype : ℕ) → is_zone zone ≡ true → is_signing_type rtype ≡ true
    → has_set zone name rtype ≡ false
unfolding is_zone has_set
none_signing zone name rtype formed signing =
    false_from_ne_true _ (λ h.
    let k = picked (λ set. name_eq set.owner name && (set.rtype == rtype)) zone.sets h in
    let same : k.it.rtype ≡ rtype =
    grind (arith, nat_tests, (and_parts (name_eq k.it.owner name) (k.it.rtype == rtype) k.passes).1) in
    let each = (and_parts (has_set zone zone.apex type_ns) _
    ((and_parts (has_set zone zone.apex type_soa) _ formed).1)).1 in
    let fit = (and_parts (at_or_above zone.apex k.it.owner) _ (k.member.all (fits_in zone) each)).1 in
    let plain = (and_parts (not (is_signing_type k.it.rtype)) _ fit).0 in
    true≢false (sym signing ∙ ap is_signing_type (sym same) ∙ not-true (is_signing_type k.it.rtype) plain))

types_told : (zone : Zone) (name : Labels) (types : List ℕ) → is_zone zone ≡ true
    → ((rtype : ℕ) → has_set zone name rtype ≡ (bitmap_has types rtype && not (rtype == type_rrsig)))
    → (rtype : ℕ) → has_set zone name rtype ≡ has_type rtype types
types_told zone name types formed told rtype = by (rtype == type_nsec) refl
  where
    by : (b : Bool) → (rtype == type_nsec) ≡ b
        → has_set zone name rtype ≡ (bitmap_has types rtype && not (b || (rtype == type_rrsig)))
    by false e = told rtype
    by true e =
        let is : rtype ≡ type_nsec = grind (arith, nat_tests, e) in
        ap (has_set zone name) is ∙ none_signing zone name type_nsec formed refl
        ∙ sym (and_right (bitmap_has types rtype) false refl)

-- a true record that matches a name lists the name's types, since no other name has its hash
pub listed_by : (hash : Hashing) (zone : Zone) (about name : Labels) (nsec3 : OwnedNsec3) → is_zone zone ≡ true
    → IsCollisionFree hash zone about
    → IsTrueNsec3 hash zone nsec3 → is_concerned zone about name ≡ true → owner_hash nsec3 ≡ hash name
    → IsListed zone name nsec3.fields.types
unfolding is_concerned
listed_by hash zone about name nsec3 formed free t concerned same =
    let first : is_concerned zone about t.original ≡ true = or_left (exists_in zone t.original) _ t.there in
    let alike = free.apart t.original name first concerned (t.hashed ∙ same) in
    record {
      there = exists_alike zone t.original name alike t.there;
      listed = λ rtype. sym (has_set_alike zone t.original name rtype alike)
          ∙ types_told zone t.original nsec3.fields.types formed t.types rtype;
    }

-- ---- what the types say of the zone

-- a delegation's record is a cut record
pub cut_listed : (zone : Zone) (name : Labels) (types : List ℕ) → is_zone zone ≡ true → IsListed zone name types
    → is_delegation zone name ≡ true
    → is_cut types ≡ true
unfolding is_delegation
cut_listed zone name types formed l h =
    let parts = and_parts (has_set zone name type_ns) (not (name_eq name zone.apex)) h in
    let ns : has_type type_ns types ≡ true = sym (l.listed type_ns) ∙ parts.0 in
    let soa : has_type type_soa types ≡ false =
    false_from_ne_true (has_type type_soa types) (λ is.
    let top = soa_at_apex zone name formed (l.listed type_soa ∙ is) in
    true≢false (sym parts.1 ∙ ap not top)) in
    rw (ns, soa) refl

-- the zone goes on below a name whose record doesn't end it
pub open_listed : (zone : Zone) (name : Labels) (types : List ℕ) → is_zone zone ≡ true → IsListed zone name types
    → ends_zone types ≡ false
    → zone_ends_at zone name ≡ false
open_listed zone name types formed l on =
    false_from_ne_true (zone_ends_at zone name)
    (λ h. by (or_cases (is_delegation zone name) (has_set zone name type_dname) h))
  where
    by : (is_delegation zone name ≡ true) ⊎ (has_set zone name type_dname ≡ true) → ⊥
    by (inl cut) = true≢false
        (sym (or_left (is_cut types) (has_type type_dname types) (cut_listed zone name types formed l cut)) ∙ on)
    by (inr dname) = true≢false
        (sym (or_right (is_cut types) (has_type type_dname types) (sym (l.listed type_dname) ∙ dname)) ∙ on)

pub lacking_listed : (zone : Zone) (name : Labels) (types : List ℕ) (rtype : ℕ) → IsListed zone name types
    → lacks_data rtype types ≡ true
    → has_data zone name rtype ≡ false
lacking_listed zone name types rtype l h =
    let parts = or_parts (has_type rtype types) (has_type type_cname types)
    (not-true (has_type rtype types || has_type type_cname types) h) in
    let one : has_set zone name rtype ≡ false = l.listed rtype ∙ parts.0 in
    let two : has_set zone name type_cname ≡ false = l.listed type_cname ∙ parts.1 in
    rw (one, two) refl

-- the zone answers for a name that is there, where its record is on the right side of a cut
pub listed_reach : (zone : Zone) (name : Labels) (rtype : ℕ) (types : List ℕ) → is_zone zone ≡ true
    → IsListed zone name types
    → is_right_side rtype types ≡ true → IsReached zone name rtype
listed_reach zone name rtype types formed l right = record {
  none_above = λ set m ends above. none_exists_below zone set name formed m ends l.there above;
  none_at = λ set m cut same other.
      wrong_side (rtype == type_ds) right
      (cut_listed zone name types formed l (sym (is_delegation_alike zone set.owner name same) ∙ cut)) other;
}
  where
    wrong_side : (b : Bool) → cond b (not (has_type type_soa types)) (not (is_cut types)) ≡ true
        → is_cut types ≡ true → not b ≡ true → ⊥
    wrong_side true right cut other = true≢false (sym other)
    wrong_side false right cut other = true≢false (sym right ∙ ap not cut)

-- ---- an unsigned delegation by its record

pub unsigned_listed : (zone : Zone) (name : Labels) (types : List ℕ) → IsListed zone name types
    → strictly_above zone.apex name ≡ true
    → is_unsigned_cut types ≡ true → is_unsigned_delegation zone name ≡ true
unfolding is_delegation
unsigned_listed zone name types l strict h =
    let one = and_parts (bitmap_has types type_ns) _ h in
    let two = and_parts (not (bitmap_has types type_ds)) (not (bitmap_has types type_soa)) one.1 in
    let ns : has_set zone name type_ns ≡ true = l.listed type_ns ∙ rw one.0 refl in
    let ds : has_set zone name type_ds ≡ false = l.listed type_ds
    ∙ ap (λ b. b && true) (not-true (bitmap_has types type_ds) two.0) in
    let apart : name_eq name zone.apex ≡ false = name_equiv.symm name zone.apex
    ∙ (strictly_parts zone.apex name strict).1 in
    rw (ns, ds, apart) refl
