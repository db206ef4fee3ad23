-- What exists near a name that a true NSEC record spans: the closest encloser, and no name below it toward the name (RFC 4592, 3.3.1).
use Rattle.std.proofs.Common.{◌≡◌, ◌≤◌, Bool, true, false, cond, not, ◌&&◌, ◌||◌, [], ◌∷◌, ◌++◌, length, refl, sym, ap, ◌∙◌, arith, true≢false, ◌⊎◌, inl, inr, length-append}
use Rattle.std.specs.Prelude.{nat_lt}
use Rattle.std.specs.List.{list_any}
use Rattle.std.specs.Ordering.{is_eq}
use Rattle.std.specs.declared.cmp.Ordering.TheVariants.{Less}
use Rattle.std.proofs.lemmas.Bool.{and_parts, and_from, false_from_ne_true, or_right, or_cases}
use Rattle.dns_model.specs.Names.{Label, Labels, name_eq, name_cmp, at_or_above, strictly_above, asterisk, star, common_ancestor}
use Rattle.dns_model.specs.Types.{type_ns, type_soa, type_dname}
use Rattle.dns_model.specs.Owned.{OwnedNsec}
use Rattle.dns_model.proofs.NameLemmas.{name_equiv}
use Rattle.dns_model.proofs.NamesInOrder.{le_from_Less, le_trans, above_comes_first, between_is_below, order_if_alike, not_both}
use Rattle.dns_model.proofs.AboveLemmas.{above_alike, below_alike, above_itself, above_trans, above_is_shorter, above_one_more, strictly_made, strictly_parts, alike_if_not_strictly, Ends}
use Rattle.dns_model.proofs.CommonAncestors.{common_ends, common_above, common_below, ends_above, longer_below}
use Rattle.dns_rules.specs.ListedTypes.{has_type, is_cut, ends_zone}
use Rattle.dns_rules.specs.Covering.{nsec_spans, is_silent_on}
use Rattle.dns_rules.specs.NsecVerdict.{closest_encloser}
use Rattle.dns_rules.specs.Zones.{SetKey, Zone, has_set, is_owner, is_delegation, exists_in, zone_ends_at, is_zone, encloser, IsTrueNsec}
use Rattle.dns_rules.proofs.Members.{IsMember, IsPicked, picked}
use Rattle.dns_rules.proofs.ZoneLemmas.{has_set_alike, is_delegation_alike, fits, none_below, soa_at_apex, Side, AtOrBefore, After, spans_after, sided, next_is_owner}

-- ---- the closest encloser by the record

encloser_ends : (name : Labels) (nsec : OwnedNsec) → Ends (closest_encloser name nsec) name
unfolding closest_encloser
encloser_ends name nsec = by (nat_lt (length (common_ancestor name nsec.owner)) (length (common_ancestor name nsec.fields.next)))
  where
    by : (b : Bool) → Ends (cond b (common_ancestor name nsec.fields.next) (common_ancestor name nsec.owner)) name
    by true = common_ends name nsec.fields.next
    by false = common_ends name nsec.owner

-- it is above the owner or the next name
encloser_above : (name : Labels) (nsec : OwnedNsec)
    → (at_or_above (closest_encloser name nsec) nsec.owner ≡ true) ⊎ (at_or_above (closest_encloser name nsec) nsec.fields.next ≡ true)
unfolding closest_encloser
encloser_above name nsec = by (nat_lt (length (common_ancestor name nsec.owner)) (length (common_ancestor name nsec.fields.next)))
  where
    by : (b : Bool) → (at_or_above (cond b (common_ancestor name nsec.fields.next) (common_ancestor name nsec.owner)) nsec.owner ≡ true)
        ⊎ (at_or_above (cond b (common_ancestor name nsec.fields.next) (common_ancestor name nsec.owner)) nsec.fields.next ≡ true)
    by true = inr (common_above name nsec.fields.next)
    by false = inl (common_above name nsec.owner)

-- what is above the name, and above the owner or the next name, is above the closest encloser
encloser_below : (above name : Labels) (nsec : OwnedNsec) → at_or_above above name ≡ true
    → (at_or_above above nsec.owner ≡ true) ⊎ (at_or_above above nsec.fields.next ≡ true)
    → at_or_above above (closest_encloser name nsec) ≡ true
unfolding closest_encloser
encloser_below above name nsec h either =
    longer_below above (common_ancestor name nsec.owner) (common_ancestor name nsec.fields.next) name
    (ends_above (common_ancestor name nsec.owner) name (common_ends name nsec.owner))
    (ends_above (common_ancestor name nsec.fields.next) name (common_ends name nsec.fields.next)) (by either)
  where
    by : (at_or_above above nsec.owner ≡ true) ⊎ (at_or_above above nsec.fields.next ≡ true)
        → (at_or_above above (common_ancestor name nsec.owner) ≡ true) ⊎ (at_or_above above (common_ancestor name nsec.fields.next) ≡ true)
    by (inl first) = inl (common_below above name nsec.owner h first)
    by (inr second) = inr (common_below above name nsec.fields.next h second)

-- ---- what exists

-- a name of the zone at or above an owner exists
pub exists_above : (zone : Zone) (name owner : Labels) → at_or_above zone.apex name ≡ true → is_owner zone owner ≡ true
    → at_or_above name owner ≡ true
    → exists_in zone name ≡ true
unfolding exists_in is_owner
exists_above zone name owner h own above =
    let k = picked (λ set. name_eq set.owner owner) zone.sets own in
    let there : list_any (λ set. at_or_above name set.owner) zone.sets ≡ true =
    k.member.any (λ set. at_or_above name set.owner) (below_alike name owner k.it.owner (name_equiv.symm owner k.it.owner
    ∙ k.passes) above) in
    rw (h, there) refl

-- every owner is in the zone
owner_inside : (zone : Zone) (owner : Labels) → is_zone zone ≡ true → is_owner zone owner ≡ true → at_or_above zone.apex owner ≡ true
unfolding is_owner
owner_inside zone owner h own =
    let k = picked (λ set. name_eq set.owner owner) zone.sets own in
    below_alike zone.apex k.it.owner owner k.passes ((fits zone k.it h k.member).inside)

existing : (zone : Zone) (name : Labels) → exists_in zone name ≡ true → IsPicked (λ set. at_or_above name set.owner) zone.sets
unfolding exists_in
existing zone name h = picked (λ set. at_or_above name set.owner) zone.sets (and_parts (at_or_above zone.apex name) _ h).1

-- a name that is spanned and isn't above the next one doesn't exist
pub spanned_is_missing : (zone : Zone) (nsec : OwnedNsec) (name : Labels) → IsTrueNsec zone nsec → nsec_spans name nsec ≡ true
    → strictly_above name nsec.fields.next ≡ false → exists_in zone name ≡ false
spanned_is_missing zone nsec name t spanned leaf = false_from_ne_true (exists_in zone name) (λ h.
    let k = existing zone name h in
    by k.it.owner k.passes (sided zone nsec name k.it t spanned k.member))
  where
    by : (owner : Labels) → at_or_above name owner ≡ true → Side nsec name owner → ⊥
    by owner above (AtOrBefore le) =
        not_both nsec.owner name (spans_after name nsec spanned) (le_trans name owner nsec.owner (above_comes_first name owner above) le)
    by owner above (After lt le) =
        let between = between_is_below name nsec.fields.next owner above (le_from_Less (name_cmp name nsec.fields.next) lt) le in
        let same = alike_if_not_strictly name nsec.fields.next between leaf in
        true≢false (ap is_eq (sym (order_if_alike name nsec.fields.next same) ∙ lt))

-- no wildcard exists below a missing name at or below the apex
pub no_wildcard : (zone : Zone) (name : Labels) → at_or_above zone.apex name ≡ true → exists_in zone name ≡ false
    → exists_in zone (star name) ≡ false
unfolding exists_in
no_wildcard zone name inside gone = false_from_ne_true (exists_in zone (star name)) (λ h.
    let k = existing zone (star name) h in
    let below = above_trans name (star name) k.it.owner (above_one_more name asterisk name (above_itself name)) k.passes in
    let there = k.member.any (λ set. at_or_above name set.owner) below in
    true≢false (sym (and_from (at_or_above zone.apex name) (list_any (λ set. at_or_above name set.owner) zone.sets) inside there) ∙ gone))

-- what exists at or above a spanned name is above the closest encloser
pub existing_encloses : (zone : Zone) (nsec : OwnedNsec) (name above : Labels) → IsTrueNsec zone nsec → nsec_spans name nsec ≡ true
    → at_or_above above name ≡ true → exists_in zone above ≡ true → at_or_above above (closest_encloser name nsec) ≡ true
existing_encloses zone nsec name above t spanned h there =
    let k = existing zone above there in
    encloser_below above name nsec h (by k.it.owner k.passes (sided zone nsec name k.it t spanned k.member))
  where
    by : (owner : Labels) → at_or_above above owner ≡ true → Side nsec name owner
        → (at_or_above above nsec.owner ≡ true) ⊎ (at_or_above above nsec.fields.next ≡ true)
    by owner higher (AtOrBefore le) =
        inl (between_is_below above nsec.owner name h (le_trans above owner nsec.owner (above_comes_first above owner higher) le)
        (le_from_Less (name_cmp nsec.owner name) (spans_after name nsec spanned)))
    by owner higher (After lt le) =
        inr (between_is_below above nsec.fields.next owner higher
        (le_trans above name nsec.fields.next (above_comes_first above name h) (le_from_Less (name_cmp name nsec.fields.next) lt)) le)

-- the closest encloser is in the zone
pub encloser_inside : (zone : Zone) (nsec : OwnedNsec) (name : Labels) → is_zone zone ≡ true → IsTrueNsec zone nsec
    → at_or_above zone.apex name ≡ true
    → at_or_above zone.apex (closest_encloser name nsec) ≡ true
encloser_inside zone nsec name formed t h = encloser_below zone.apex name nsec h (inl (owner_inside zone nsec.owner formed t.owner))

-- the closest encloser exists
encloser_exists : (zone : Zone) (nsec : OwnedNsec) (name : Labels) → is_zone zone ≡ true → IsTrueNsec zone nsec
    → at_or_above zone.apex name ≡ true
    → exists_in zone (closest_encloser name nsec) ≡ true
encloser_exists zone nsec name formed t h = by (encloser_above name nsec)
  where
    inside : at_or_above zone.apex (closest_encloser name nsec) ≡ true
    inside = encloser_inside zone nsec name formed t h

    by : (at_or_above (closest_encloser name nsec) nsec.owner ≡ true) ⊎ (at_or_above (closest_encloser name nsec) nsec.fields.next ≡ true)
        → exists_in zone (closest_encloser name nsec) ≡ true
    by (inl first) = exists_above zone (closest_encloser name nsec) nsec.owner inside t.owner first
    by (inr second) = exists_above zone (closest_encloser name nsec) nsec.fields.next inside (next_is_owner zone nsec formed t) second

-- ---- the zone's own encloser

encloser_of : (zone : Zone) (front last : Labels) → exists_in zone last ≡ true
    → ((above : Labels) → at_or_above above (front ++ last) ≡ true → exists_in zone above ≡ true → at_or_above above last ≡ true)
    → encloser zone (front ++ last) ≡ last
unfolding encloser
encloser_of zone [] [] there only = refl
encloser_of zone [] (label ∷ last) there only = ap (λ b. cond b (label ∷ last) (encloser zone last)) there
encloser_of zone (label ∷ front) last there only =
    let missing : exists_in zone (label ∷ (front ++ last)) ≡ false =
    false_from_ne_true (exists_in zone (label ∷ (front ++ last))) (λ h.
    let up = only (label ∷ (front ++ last)) (above_itself (label ∷ (front ++ last))) h in
    too_long front last label (above_is_shorter (label ∷ (front ++ last)) last up)) in
    ap (λ b. cond b (label ∷ (front ++ last)) (encloser zone (front ++ last))) missing
    ∙ encloser_of zone front last there (λ above h. only above (above_one_more above label (front ++ last) h))
  where
    too_long : (front last : Labels) (label : Label) → length (label ∷ (front ++ last)) ≤ length last → ⊥
    too_long front last label h = omega (arith, length-append front last)

-- the zone's closest encloser of a spanned name is the one that the record tells
pub same_encloser : (zone : Zone) (nsec : OwnedNsec) (name : Labels) → is_zone zone ≡ true → IsTrueNsec zone nsec
    → at_or_above zone.apex name ≡ true
    → nsec_spans name nsec ≡ true → encloser zone name ≡ closest_encloser name nsec
same_encloser zone nsec name formed t h spanned =
    let e = encloser_ends name nsec in
    ap (encloser zone) e.whole
    ∙ encloser_of zone e.front (closest_encloser name nsec) (encloser_exists zone nsec name formed t h)
    (λ above up. existing_encloses zone nsec name above t spanned (rw e.whole up))

-- ---- nothing ends the zone above a name that a record speaks of

-- a delegation's record is a cut record
pub delegation_is_cut : (zone : Zone) (nsec : OwnedNsec) → is_zone zone ≡ true → IsTrueNsec zone nsec
    → is_delegation zone nsec.owner ≡ true → is_cut nsec.fields.types ≡ true
unfolding is_delegation
delegation_is_cut zone nsec formed t h =
    let parts = and_parts (has_set zone nsec.owner type_ns) (not (name_eq nsec.owner zone.apex)) h in
    let ns : has_type type_ns nsec.fields.types ≡ true = sym (t.types type_ns) ∙ parts.0 in
    let soa : has_type type_soa nsec.fields.types ≡ false =
    false_from_ne_true (has_type type_soa nsec.fields.types) (λ is.
    let top = soa_at_apex zone nsec.owner formed (t.types type_soa ∙ is) in
    true≢false (sym parts.1 ∙ ap not top)) in
    rw (ns, soa) refl

ends_told : (zone : Zone) (nsec : OwnedNsec) → is_zone zone ≡ true → IsTrueNsec zone nsec → zone_ends_at zone nsec.owner ≡ true
    → ends_zone nsec.fields.types ≡ true
ends_told zone nsec formed t h = by (or_cases (is_delegation zone nsec.owner) (has_set zone nsec.owner type_dname) h)
  where
    by : (is_delegation zone nsec.owner ≡ true) ⊎ (has_set zone nsec.owner type_dname ≡ true) → ends_zone nsec.fields.types ≡ true
    by (inl cut) = ap (λ b. b || has_type type_dname nsec.fields.types) (delegation_is_cut zone nsec formed t cut)
    by (inr dname) = or_right (is_cut nsec.fields.types) (has_type type_dname nsec.fields.types) (sym (t.types type_dname) ∙ dname)

ends_alike : (zone : Zone) (one two : Labels) → name_eq one two ≡ true → zone_ends_at zone one ≡ zone_ends_at zone two
ends_alike zone one two same =
    ap (λ b. b || has_set zone one type_dname) (is_delegation_alike zone one two same)
    ∙ ap (λ b. is_delegation zone two || b) (has_set_alike zone one two type_dname same)

-- the end of the zone above an owner is that owner
pub end_is_owner : (zone : Zone) (set : SetKey) (owner : Labels) → is_zone zone ≡ true → IsMember set zone.sets
    → zone_ends_at zone set.owner ≡ true
    → is_owner zone owner ≡ true → at_or_above set.owner owner ≡ true → name_eq set.owner owner ≡ true
unfolding is_owner
end_is_owner zone set owner formed m ends own above =
    let k = picked (λ other. name_eq other.owner owner) zone.sets own in
    let there = below_alike set.owner owner k.it.owner (name_equiv.symm owner k.it.owner ∙ k.passes) above in
    let same = alike_if_not_strictly set.owner k.it.owner there (none_below zone set k.it formed m k.member ends) in
    name_equiv.congr set.owner k.it.owner owner same ∙ k.passes

-- where a true record spans a name and isn't silent on it, the zone goes on above the name
pub no_end_above : (zone : Zone) (nsec : OwnedNsec) (name : Labels) (set : SetKey) → is_zone zone ≡ true → IsTrueNsec zone nsec
    → nsec_spans name nsec ≡ true
    → is_silent_on name nsec ≡ false → IsMember set zone.sets → zone_ends_at zone set.owner ≡ true
    → strictly_above set.owner name ≡ true → ⊥
no_end_above zone nsec name set formed t spanned speaks m ends above = by (sided zone nsec name set t spanned m)
  where
    higher : at_or_above set.owner name ≡ true
    higher = (strictly_parts set.owner name above).0

    lt : name_cmp nsec.owner name ≡ Less
    lt = spans_after name nsec spanned

    by : Side nsec name set.owner → ⊥
    by (After before le) =
        not_both name nsec.fields.next before (le_trans nsec.fields.next set.owner name le (above_comes_first set.owner name higher))
    by (AtOrBefore le) =
        let over = between_is_below set.owner nsec.owner name higher le (le_from_Less (name_cmp nsec.owner name) lt) in
        let same = end_is_owner zone set nsec.owner formed m ends t.owner over in
        let told = ends_told zone nsec formed t (sym (ends_alike zone set.owner nsec.owner same) ∙ ends) in
        let apart : name_eq nsec.owner name ≡ false =
        false_from_ne_true (name_eq nsec.owner name) (λ e. true≢false (ap is_eq (sym (order_if_alike nsec.owner name e) ∙ lt))) in
        let strict = strictly_made nsec.owner name (above_alike set.owner nsec.owner name same higher) apart in
        let silent : is_silent_on name nsec ≡ true = ap (λ b. b && ends_zone nsec.fields.types) strict ∙ told in
        true≢false (sym silent ∙ speaks)
