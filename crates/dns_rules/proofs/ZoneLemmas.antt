-- What a true NSEC record says of its zone: no owner lies between its owner and its next name (RFC 4034, 4.1.1).
use Rattle.std.proofs.Common.{◌≡◌, ℕ, Bool, true, false, cond, not, ◌==◌, ◌&&◌, ◌||◌, refl, sym, ap, ◌∙◌, ◌⊎◌, inl, inr}
use Rattle.std.specs.List.{list_all}
use Rattle.std.specs.Ordering.{is_lt, is_le}
use Rattle.std.specs.declared.cmp.Ordering.TheVariants.{Less}
use Rattle.std.proofs.lemmas.Bool.{and_parts, not-true, false_from_ne_true, or_cases}
use Rattle.dns_model.specs.Names.{Labels, name_eq, name_cmp, at_or_above, strictly_above, before}
use Rattle.dns_model.specs.Types.{type_ns, type_soa, type_ds}
use Rattle.dns_model.specs.Owned.{OwnedNsec}
use Rattle.dns_model.proofs.NameLemmas.{name_equiv}
use Rattle.dns_model.proofs.NamesInOrder.{lt_from, le_from_not_lt, le_trans, le_if_alike, not_both}
use Rattle.dns_model.proofs.EachLemmas.{any_agree}
use Rattle.dns_rules.specs.Covering.{leads_back, nsec_spans}
use Rattle.dns_rules.specs.Zones.{SetKey, Zone, has_set, is_owner, is_delegation, zone_ends_at, fits_in, is_zone, is_signing_type, is_last, none_between, is_next, IsTrueNsec}
use Rattle.dns_rules.proofs.Members.{after_not, not_and, IsMember, picked}

-- ---- equal names

alike_at : (one two name : Labels) → name_eq one two ≡ true → name_eq name one ≡ name_eq name two
alike_at one two name same = name_equiv.symm name one ∙ name_equiv.congr one two name same ∙ name_equiv.symm two name

pub has_set_alike : (zone : Zone) (one two : Labels) (rtype : ℕ) → name_eq one two ≡ true → has_set zone one rtype ≡ has_set zone two rtype
unfolding has_set
has_set_alike zone one two rtype same =
    any_agree _ _ (λ set. ap (λ b. b && (set.rtype == rtype)) (alike_at one two set.owner same)) zone.sets

pub is_owner_alike : (zone : Zone) (one two : Labels) → name_eq one two ≡ true → is_owner zone one ≡ is_owner zone two
unfolding is_owner
is_owner_alike zone one two same = any_agree _ _ (λ set. alike_at one two set.owner same) zone.sets

pub is_delegation_alike : (zone : Zone) (one two : Labels) → name_eq one two ≡ true → is_delegation zone one ≡ is_delegation zone two
unfolding is_delegation
is_delegation_alike zone one two same =
    ap (λ b. b && not (name_eq one zone.apex)) (has_set_alike zone one two type_ns same)
    ∙ ap (λ b. has_set zone two type_ns && not b) (name_equiv.congr one two zone.apex same)

-- ---- the owners of a zone

pub has_owner : (zone : Zone) (name : Labels) (rtype : ℕ) → has_set zone name rtype ≡ true → is_owner zone name ≡ true
unfolding has_set is_owner
has_owner zone name rtype h =
    let k = picked (λ set. name_eq set.owner name && (set.rtype == rtype)) zone.sets h in
    k.member.any (λ set. name_eq set.owner name) ((and_parts (name_eq k.it.owner name) (k.it.rtype == rtype) k.passes).0)

apex_is_owner : (zone : Zone) → is_zone zone ≡ true → is_owner zone zone.apex ≡ true
unfolding is_zone
apex_is_owner zone h = has_owner zone zone.apex type_soa (and_parts (has_set zone zone.apex type_soa) _ h).0

-- each RRset fits
pub record Fits (zone : Zone) (set : SetKey) : Type 0 where
  pub inside : at_or_above zone.apex set.owner ≡ true
  pub soa : (not (set.rtype == type_soa) || name_eq set.owner zone.apex) ≡ true
  pub bare : (not (is_delegation zone set.owner) || (set.rtype == type_ns) || (set.rtype == type_ds)) ≡ true
  pub below : (not (zone_ends_at zone set.owner) || list_all (λ other. not (strictly_above set.owner other.owner)) zone.sets) ≡ true

pub fits : (zone : Zone) (set : SetKey) → is_zone zone ≡ true → IsMember set zone.sets → Fits zone set
unfolding is_zone
fits zone set h m =
    let each = (and_parts (has_set zone zone.apex type_ns) _ ((and_parts (has_set zone zone.apex type_soa) _ h).1)).1 in
    let one = and_parts (at_or_above zone.apex set.owner) _ (m.all (fits_in zone) each) in
    let two = and_parts (not (is_signing_type set.rtype)) _ one.1 in
    let three = and_parts (not (set.rtype == type_soa) || name_eq set.owner zone.apex) _ two.1 in
    let four = and_parts (not (is_delegation zone set.owner) || (set.rtype == type_ns) || (set.rtype == type_ds)) _ three.1 in
    record { inside = one.0; soa = three.0; bare = four.0; below = four.1 }

-- no owner is strictly below the end of the zone
pub none_below : (zone : Zone) (set other : SetKey) → is_zone zone ≡ true → IsMember set zone.sets → IsMember other zone.sets
    → zone_ends_at zone set.owner ≡ true → strictly_above set.owner other.owner ≡ false
none_below zone set other h m k ends =
    let f = fits zone set h m in
    not-true (strictly_above set.owner other.owner)
    (k.all (λ o. not (strictly_above set.owner o.owner)) (after_not (zone_ends_at zone set.owner) _ ends f.below))

-- SOA is at the apex alone
pub soa_at_apex : (zone : Zone) (name : Labels) → is_zone zone ≡ true → has_set zone name type_soa ≡ true → name_eq name zone.apex ≡ true
unfolding has_set
soa_at_apex zone name h soa =
    let k = picked (λ set. name_eq set.owner name && (set.rtype == type_soa)) zone.sets soa in
    let parts = and_parts (name_eq k.it.owner name) (k.it.rtype == type_soa) k.passes in
    let f = fits zone k.it h k.member in
    sym (name_equiv.congr k.it.owner name zone.apex parts.0)
    ∙ after_not (k.it.rtype == type_soa) (name_eq k.it.owner zone.apex) parts.1 f.soa

-- ---- the owners on either side of a name that a true record spans

pub data Side (nsec : OwnedNsec) (name owner : Labels) : Type 0 where
  AtOrBefore : is_le (name_cmp owner nsec.owner) ≡ true → Side nsec name owner
  After : name_cmp name nsec.fields.next ≡ Less → is_le (name_cmp nsec.fields.next owner) ≡ true → Side nsec name owner

pub spans_after : (name : Labels) (nsec : OwnedNsec) → nsec_spans name nsec ≡ true → name_cmp nsec.owner name ≡ Less
spans_after name nsec h = lt_from (name_cmp nsec.owner name) ((and_parts (before nsec.owner name) _ h).0)

-- where the next name comes after the owner, the name spanned comes before it
spans_before : (name : Labels) (nsec : OwnedNsec) → nsec_spans name nsec ≡ true → name_cmp nsec.owner nsec.fields.next ≡ Less
    → name_cmp name nsec.fields.next ≡ Less
spans_before name nsec h lt = by (or_cases (before name nsec.fields.next) (leads_back nsec
    && at_or_above nsec.fields.next name) ((and_parts (before nsec.owner name) _ h).1))
  where
    by : (before name nsec.fields.next ≡ true) ⊎ ((leads_back nsec && at_or_above nsec.fields.next name) ≡ true)
        → name_cmp name nsec.fields.next ≡ Less
    by (inl first) = lt_from (name_cmp name nsec.fields.next) first
    by (inr back) = absurd (not_both nsec.owner nsec.fields.next lt
        (and_parts (leads_back nsec) (at_or_above nsec.fields.next name) back).0)

sided_in_row : (zone : Zone) (nsec : OwnedNsec) (name : Labels) (set : SetKey) (b : Bool) → is_lt (name_cmp nsec.owner set.owner) ≡ b
    → name_cmp name nsec.fields.next ≡ Less → none_between zone nsec.owner nsec.fields.next ≡ true → IsMember set zone.sets
    → Side nsec name set.owner
unfolding none_between
sided_in_row zone nsec name set false e lt none m = AtOrBefore (le_from_not_lt nsec.owner set.owner e)
sided_in_row zone nsec name set true e lt none m =
    let apart = m.all (λ s. not (is_lt (name_cmp nsec.owner s.owner) && is_lt (name_cmp s.owner nsec.fields.next))) none in
    After lt (le_from_not_lt set.owner nsec.fields.next
    (not_and (is_lt (name_cmp nsec.owner set.owner)) (is_lt (name_cmp set.owner nsec.fields.next)) apart e))

sided_by : (zone : Zone) (nsec : OwnedNsec) (name : Labels) (set : SetKey) (b : Bool) → is_last zone nsec.owner ≡ b
    → cond b (name_eq nsec.fields.next zone.apex) (is_owner zone nsec.fields.next
    && (is_lt (name_cmp nsec.owner nsec.fields.next) && none_between zone nsec.owner nsec.fields.next)) ≡ true
    → nsec_spans name nsec ≡ true → IsMember set zone.sets → Side nsec name set.owner
unfolding is_last
sided_by zone nsec name set true e next spanned m =
    AtOrBefore (le_from_not_lt nsec.owner set.owner
    (not-true (is_lt (name_cmp nsec.owner set.owner)) (m.all (λ s. not (is_lt (name_cmp nsec.owner s.owner))) e)))
sided_by zone nsec name set false e next spanned m =
    let one = and_parts (is_owner zone nsec.fields.next) _ next in
    let two = and_parts (is_lt (name_cmp nsec.owner nsec.fields.next)) (none_between zone nsec.owner nsec.fields.next) one.1 in
    let lt = spans_before name nsec spanned (lt_from (name_cmp nsec.owner nsec.fields.next) two.0) in
    sided_in_row zone nsec name set (is_lt (name_cmp nsec.owner set.owner)) refl lt two.1 m

-- an owner is at or before the record's owner, or at or after its next name, and that comes after the name spanned
pub sided : (zone : Zone) (nsec : OwnedNsec) (name : Labels) (set : SetKey) → IsTrueNsec zone nsec → nsec_spans name nsec ≡ true
    → IsMember set zone.sets
    → Side nsec name set.owner
unfolding is_next
sided zone nsec name set t spanned m = sided_by zone nsec name set (is_last zone nsec.owner) refl t.next spanned m

-- a name that a true record spans is no owner
pub spans_no_owner : (zone : Zone) (nsec : OwnedNsec) (name : Labels) → IsTrueNsec zone nsec → nsec_spans name nsec ≡ true
    → is_owner zone name ≡ false
unfolding is_owner
spans_no_owner zone nsec name t spanned = false_from_ne_true _ (λ h.
    let k = picked (λ set. name_eq set.owner name) zone.sets h in
    apart k.it.owner k.passes (sided zone nsec name k.it t spanned k.member))
  where
    apart : (owner : Labels) → name_eq owner name ≡ true → Side nsec name owner → ⊥
    apart owner same (AtOrBefore le) =
        not_both nsec.owner name (spans_after name nsec spanned)
        (le_trans name owner nsec.owner (le_if_alike name owner (name_equiv.symm name owner ∙ same)) le)
    apart owner same (After lt le) =
        not_both name nsec.fields.next lt (le_trans nsec.fields.next owner name le (le_if_alike owner name same))

-- the next name is an owner
pub next_is_owner : (zone : Zone) (nsec : OwnedNsec) → is_zone zone ≡ true → IsTrueNsec zone nsec → is_owner zone nsec.fields.next ≡ true
unfolding is_next
next_is_owner zone nsec h t = by (is_last zone nsec.owner) t.next
  where
    by : (b : Bool) → cond b (name_eq nsec.fields.next zone.apex) (is_owner zone nsec.fields.next
        && (is_lt (name_cmp nsec.owner nsec.fields.next) && none_between zone nsec.owner nsec.fields.next)) ≡ true
        → is_owner zone nsec.fields.next ≡ true
    by true same = is_owner_alike zone nsec.fields.next zone.apex same ∙ apex_is_owner zone h
    by false next = (and_parts (is_owner zone nsec.fields.next) _ next).0
