-- How a zone answers for a name of which a true NSEC record speaks: past its cuts and DNAMEs, without data (RFC 1034, 4.3.2).
use Rattle.std.proofs.Common.{◌≡◌, ℕ, Bool, true, false, cond, not, ◌==◌, ◌&&◌, ◌||◌, List, Option, None, Some, refl, sym, ap, ◌∙◌, subst, arith, true≢false, ◌⊎◌, inl, inr}
use Rattle.std.specs.List.{list_any, find, AllByRecursion}
use Rattle.std.proofs.lemmas.Bool.{and_parts, or_parts, not-true, false_from_ne_true, or_right, or_cases}
use Rattle.std.proofs.lemmas.Bool.Decides.{nat_tests}
use Rattle.dns_model.specs.Names.{Labels, name_eq, strictly_above, star}
use Rattle.dns_model.specs.Types.{type_ns, type_soa, type_cname, type_ds, type_dname}
use Rattle.dns_model.specs.Records.{Question}
use Rattle.dns_model.specs.Owned.{OwnedNsec}
use Rattle.dns_model.proofs.EachLemmas.{find_known, find_none}
use Rattle.dns_model.proofs.NameLemmas.{name_equiv}
use Rattle.dns_model.proofs.AboveLemmas.{strictly_parts}
use Rattle.dns_rules.specs.ListedTypes.{has_type, is_cut, lacks_data, is_right_side}
use Rattle.dns_rules.specs.Covering.{nsec_spans, is_nearest, counts_for, is_silent_on, unless_silent, nsec_covering}
use Rattle.dns_rules.specs.Zones.{SetKey, Zone, has_set, is_owner, is_delegation, exists_in, zone_ends_at, is_zone, encloser, is_cut_over, is_dname_over, has_data, from_wildcard, below_cut, lookup, Data, NoData, IsTrueNsec}
use Rattle.dns_rules.proofs.Members.{IsMember, picked}
use Rattle.dns_rules.proofs.ZoneLemmas.{has_set_alike, is_owner_alike, is_delegation_alike, has_owner, spans_no_owner}
use Rattle.dns_rules.proofs.EncloserLemmas.{delegation_is_cut, end_is_owner, no_end_above}

-- ---- the record that covers a name

pub record IsCovering (zone : Zone) (name : Labels) (nsec : OwnedNsec) : Type 0 where
  pub spanned : nsec_spans name nsec ≡ true
  pub speaks : is_silent_on name nsec ≡ false
  pub is_true : IsTrueNsec zone nsec

covering_speaks : (name : Labels) (found : OwnedNsec) (nsec : OwnedNsec) (b : Bool) → is_silent_on name found ≡ b
    → ◌≡◌ {A = Option OwnedNsec} (cond b None (Some found)) (Some nsec) → (found ≡ nsec) × (b ≡ false)
covering_speaks name found nsec true e h = cc
covering_speaks name found nsec false e h = let same : found ≡ nsec = cc in (same, refl)

covered_by : (zone : Zone) (name : Labels) (nsecs : List OwnedNsec) (nsec : OwnedNsec) (found : Option OwnedNsec)
    → AllByRecursion (IsTrueNsec zone) nsecs
    → find (counts_for name nsecs) nsecs ≡ found → unless_silent name found ≡ Some nsec → IsCovering zone name nsec
covered_by zone name nsecs nsec None each e h = cc
covered_by zone name nsecs nsec (Some one) each e h =
    let s = covering_speaks name one nsec (is_silent_on name one) refl h in
    let f = find_known (counts_for name nsecs) (IsTrueNsec zone) nsecs one each e in
    record {
      spanned = ap (nsec_spans name) (sym s.0) ∙ (and_parts (nsec_spans name one) (is_nearest name nsecs one) f.passes).0;
      speaks = ap (is_silent_on name) (sym s.0) ∙ s.1;
      is_true = subst (IsTrueNsec zone) s.0 f.known;
    }

pub covered : (zone : Zone) (name : Labels) (nsecs : List OwnedNsec) (nsec : OwnedNsec) → AllByRecursion (IsTrueNsec zone) nsecs
    → nsec_covering name nsecs ≡ Some nsec → IsCovering zone name nsec
unfolding nsec_covering
covered zone name nsecs nsec each h = covered_by zone name nsecs nsec (find (counts_for name nsecs) nsecs) each refl h

-- ---- the zone's own way to the name

lookup_past : (zone : Zone) (name : Labels) (rtype : ℕ) → list_any (is_cut_over zone name rtype) zone.sets ≡ false
    → list_any (is_dname_over name) zone.sets ≡ false
    → lookup zone name rtype
    ≡ cond (exists_in zone name) (cond (has_data zone name rtype) Data NoData) (from_wildcard zone (star (encloser zone name)) rtype)
unfolding lookup
lookup_past zone name rtype cut dname =
    let rest = cond (exists_in zone name) (cond (has_data zone name rtype) Data NoData)
    (from_wildcard zone (star (encloser zone name)) rtype) in
    ap (λ (o : Option SetKey). below_cut o (cond (list_any (is_dname_over name) zone.sets) Data rest))
    (find_none (is_cut_over zone name rtype) zone.sets cut)
    ∙ ap (λ b. cond b Data rest) dname

owns : (zone : Zone) (set : SetKey) (name : Labels) → IsMember set zone.sets → name_eq set.owner name ≡ true → is_owner zone name ≡ true
unfolding is_owner
owns zone set name m same = m.any (λ other. name_eq other.owner name) same

has_own : (zone : Zone) (set : SetKey) → IsMember set zone.sets → has_set zone set.owner set.rtype ≡ true
unfolding has_set
has_own zone set m = m.any (λ other. name_eq other.owner set.owner && (other.rtype == set.rtype))
    (rw (name_equiv.refl set.owner) (grind (arith, nat_tests)))

dname_ends : (zone : Zone) (set : SetKey) → IsMember set zone.sets → (set.rtype == type_dname) ≡ true → zone_ends_at zone set.owner ≡ true
dname_ends zone set m is =
    let same : set.rtype ≡ type_dname = grind (arith, nat_tests, is) in
    or_right (is_delegation zone set.owner) (has_set zone set.owner type_dname) (ap (has_set zone set.owner) (sym same)
    ∙ has_own zone set m)

cut_ends : (zone : Zone) (set : SetKey) → is_delegation zone set.owner ≡ true → zone_ends_at zone set.owner ≡ true
cut_ends zone set h = ap (λ b. b || has_set zone set.owner type_dname) h

-- no cut and no DNAME is above the name, and no cut is at it for this type
pub record IsReached (zone : Zone) (name : Labels) (rtype : ℕ) : Type 0 where
  pub none_above : (set : SetKey) → IsMember set zone.sets → zone_ends_at zone set.owner ≡ true → strictly_above set.owner name ≡ true → ⊥
  pub none_at : (set : SetKey) → IsMember set zone.sets → is_delegation zone set.owner ≡ true → name_eq set.owner name ≡ true
      → not (rtype == type_ds) ≡ true → ⊥

pub reached : (zone : Zone) (name : Labels) (rtype : ℕ) → IsReached zone name rtype
    → lookup zone name rtype
    ≡ cond (exists_in zone name) (cond (has_data zone name rtype) Data NoData) (from_wildcard zone (star (encloser zone name)) rtype)
reached zone name rtype r = lookup_past zone name rtype (false_from_ne_true _ no_cut) (false_from_ne_true _ no_dname)
  where
    no_cut : list_any (is_cut_over zone name rtype) zone.sets ≡ true → ⊥
    no_cut h =
        let k = picked (is_cut_over zone name rtype) zone.sets h in
        let parts = and_parts (is_delegation zone k.it.owner) (strictly_above k.it.owner name
        || (name_eq k.it.owner name && not (rtype == type_ds))) k.passes in
        by k.it k.member parts.0 (or_cases (strictly_above k.it.owner name) (name_eq k.it.owner name && not (rtype == type_ds)) parts.1)
      where
        by : (set : SetKey) → IsMember set zone.sets → is_delegation zone set.owner ≡ true
            → (strictly_above set.owner name ≡ true) ⊎ ((name_eq set.owner name && not (rtype == type_ds)) ≡ true) → ⊥
        by set m cut (inl above) = r.none_above set m (cut_ends zone set cut) above
        by set m cut (inr at) =
            let parts = and_parts (name_eq set.owner name) (not (rtype == type_ds)) at in
            r.none_at set m cut parts.0 parts.1

    no_dname : list_any (is_dname_over name) zone.sets ≡ true → ⊥
    no_dname h =
        let k = picked (is_dname_over name) zone.sets h in
        let parts = and_parts (k.it.rtype == type_dname) (strictly_above k.it.owner name) k.passes in
        r.none_above k.it k.member (dname_ends zone k.it k.member parts.0) parts.1

-- a name without an RRset has no data
pub no_data : (zone : Zone) (name : Labels) (rtype : ℕ) → is_owner zone name ≡ false → has_data zone name rtype ≡ false
no_data zone name rtype none =
    false_from_ne_true (has_data zone name rtype) (λ h. by (or_cases (has_set zone name rtype) (has_set zone name type_cname) h))
  where
    by : (has_set zone name rtype ≡ true) ⊎ (has_set zone name type_cname ≡ true) → ⊥
    by (inl here) = true≢false (sym (has_owner zone name rtype here) ∙ none)
    by (inr here) = true≢false (sym (has_owner zone name type_cname here) ∙ none)

pub no_set : (zone : Zone) (name : Labels) (rtype : ℕ) → is_owner zone name ≡ false → has_set zone name rtype ≡ false
no_set zone name rtype none = false_from_ne_true (has_set zone name rtype) (λ h. true≢false (sym (has_owner zone name rtype h) ∙ none))

pub no_delegation : (zone : Zone) (name : Labels) → has_set zone name type_ns ≡ false → is_delegation zone name ≡ false
unfolding is_delegation
no_delegation zone name none = ap (λ b. b && not (name_eq name zone.apex)) none

-- ---- a record at the name

pub covered_reach : (zone : Zone) (name : Labels) (rtype : ℕ) (nsec : OwnedNsec) → is_zone zone ≡ true
    → IsCovering zone name nsec → IsReached zone name rtype
covered_reach zone name rtype nsec formed c = record {
  none_above = λ set m ends above. no_end_above zone nsec name set formed c.is_true c.spanned c.speaks m ends above;
  none_at = λ set m cut same other. true≢false (sym (owns zone set name m same) ∙ spans_no_owner zone nsec name c.is_true c.spanned);
}

pub owner_reach : (zone : Zone) (query : Question) (nsec : OwnedNsec) → is_zone zone ≡ true → IsTrueNsec zone nsec
    → name_eq nsec.owner query.owner ≡ true
    → is_right_side query.rtype nsec.fields.types ≡ true → IsReached zone query.owner query.rtype
owner_reach zone query nsec formed t same right = record {
  none_above = λ set m ends above.
      let parts = strictly_parts set.owner query.owner above in
      true≢false (sym (end_is_owner zone set query.owner formed m ends (sym (is_owner_alike zone nsec.owner query.owner same)
      ∙ t.owner) parts.0) ∙ parts.1);
  none_at = λ set m cut at other.
      let there : is_delegation zone nsec.owner ≡ true =
      is_delegation_alike zone nsec.owner set.owner (name_equiv.congr nsec.owner query.owner set.owner same
      ∙ name_equiv.symm query.owner set.owner ∙ at) ∙ cut in
      wrong_side query.rtype nsec right (delegation_is_cut zone nsec formed t there) other;
}
  where
    wrong_side_by : (b : Bool) (nsec : OwnedNsec)
        → cond b (not (has_type type_soa nsec.fields.types)) (not (is_cut nsec.fields.types)) ≡ true
        → is_cut nsec.fields.types ≡ true → not b ≡ true → ⊥
    wrong_side_by true nsec right cut other = true≢false (sym other)
    wrong_side_by false nsec right cut other = true≢false (sym right ∙ ap not cut)

    wrong_side : (rtype : ℕ) (nsec : OwnedNsec) → is_right_side rtype nsec.fields.types ≡ true → is_cut nsec.fields.types ≡ true
        → not (rtype == type_ds) ≡ true → ⊥
    wrong_side rtype nsec right cut other = wrong_side_by (rtype == type_ds) nsec right cut other

pub lacking : (zone : Zone) (nsec : OwnedNsec) (name : Labels) (rtype : ℕ) → IsTrueNsec zone nsec → name_eq nsec.owner name ≡ true
    → lacks_data rtype nsec.fields.types ≡ true → has_data zone name rtype ≡ false
lacking zone nsec name rtype t same h =
    let parts = or_parts (has_type rtype nsec.fields.types) (has_type type_cname nsec.fields.types)
    (not-true (has_type rtype nsec.fields.types || has_type type_cname nsec.fields.types) h) in
    let one : has_set zone name rtype ≡ false = sym (has_set_alike zone nsec.owner name rtype same) ∙ t.types rtype ∙ parts.0 in
    let two : has_set zone name type_cname ≡ false = sym (has_set_alike zone nsec.owner name type_cname same)
    ∙ t.types type_cname ∙ parts.1 in
    rw (one, two) refl
