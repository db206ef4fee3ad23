-- How a zone answers for a name below its closest encloser, where the next closer name is missing or light (RFC
-- 1034, 4.3.2;
-- RFC 4592, 3.3.1; RFC 5155, 8.3).
use Rattle.std.proofs.Common.{◌≡◌, ℕ, ◌≤◌, ◌<◌, Bool, true, false, cond, not, ◌==◌, ◌&&◌, ◌||◌, [], ◌∷◌, ◌++◌, length, Option, None, Some, refl, sym, ap, ◌∙◌, true≢false, ◌⊎◌, inl, inr, arith}
use Rattle.std.specs.List.{list_any, find}
use Rattle.std.proofs.lemmas.Bool.{and_parts, and_from, or_left, or_right, or_cases, cases_lt, false_from_ne_true}
use Rattle.dns_model.specs.Names.{Label, Labels, name_eq, at_or_above, strictly_above, asterisk, star}
use Rattle.dns_model.specs.Types.{type_ns, type_ds, type_dname}
use Rattle.dns_model.proofs.SetLemmas.{name_back}
use Rattle.dns_model.proofs.AboveLemmas.{Ends, above_alike, above_itself, above_trans, above_nested, above_one_more, strictly_parts, strictly_made}
use Rattle.dns_model.proofs.CommonAncestors.{ends_above}
use Rattle.dns_rules.specs.Zones.{SetKey, Zone, has_set, is_owner, is_delegation, exists_in, zone_ends_at, is_zone, encloser, ZoneAnswer, is_cut_over, is_dname_over, has_data, from_wildcard, below_cut, lookup, Referral, Data, NoData, NxDomain}
use Rattle.dns_rules.proofs.Members.{IsMember}
use Rattle.dns_rules.proofs.ZoneLemmas.{is_delegation_alike}
use Rattle.dns_rules.proofs.ReachLemmas.{IsReached, reached, no_data, no_set, no_delegation}
use Rattle.dns_hashed_denial.specs.HashedZones.{is_unsigned_delegation, is_light}
use Rattle.dns_hashed_denial.proofs.FoundMembers.{found, none_found}
use Rattle.dns_hashed_denial.proofs.ExistingNames.{member_exists, missing_below, owned, cut_owner, ownerless, cut_ends, ends_alike, none_exists_below, light_exists, light_set, light_owner, unsigned_parts}

-- ---- a closest encloser and the next closer name below it

-- the name ends with a label more than the encloser has; the encloser exists, and the zone goes on below it
pub record IsEnclosed (zone : Zone) (name encloser : Labels) (label : Label) : Type 0 where
  pub ends : Ends (label ∷ encloser) name
  pub inside : at_or_above zone.apex encloser ≡ true
  pub there : exists_in zone encloser ≡ true
  pub goes_on : zone_ends_at zone encloser ≡ false

pub closer_above : (zone : Zone) (name encloser : Labels) (label : Label) → IsEnclosed zone name encloser label
    → at_or_above (label ∷ encloser) name ≡ true
closer_above zone name encloser label e = ends_above (label ∷ encloser) name e.ends

pub closer_inside : (zone : Zone) (name encloser : Labels) (label : Label) → IsEnclosed zone name encloser label
    → at_or_above zone.apex (label ∷ encloser) ≡ true
closer_inside zone name encloser label e = above_one_more zone.apex label encloser e.inside

pub name_inside : (zone : Zone) (name encloser : Labels) (label : Label) → IsEnclosed zone name encloser label
    → at_or_above zone.apex name ≡ true
name_inside zone name encloser label e =
    above_trans zone.apex (label ∷ encloser) name (closer_inside zone name encloser label e)
    (closer_above zone name encloser label e)

-- what ends the zone at or above the name is at or below the next closer name
pub end_is_closer : (zone : Zone) (name encloser : Labels) (label : Label) (set : SetKey) → is_zone zone ≡ true
    → IsEnclosed zone name encloser label → IsMember set zone.sets → zone_ends_at zone set.owner ≡ true
    → at_or_above set.owner name ≡ true
    → at_or_above (label ∷ encloser) set.owner ≡ true
end_is_closer zone name encloser label set formed e m ends above = by (cases_lt (length encloser) (length set.owner))
  where
    closer : at_or_above (label ∷ encloser) name ≡ true
    closer = closer_above zone name encloser label e

    higher : at_or_above encloser name ≡ true
    higher = above_trans encloser (label ∷ encloser) name
        (above_one_more encloser label encloser (above_itself encloser)) closer

    at_encloser : at_or_above set.owner encloser ≡ true → (b : Bool) → name_eq set.owner encloser ≡ b → ⊥
    at_encloser up true same = true≢false (sym (sym (ends_alike zone set.owner encloser same) ∙ ends) ∙ e.goes_on)
    at_encloser up false apart =
        none_exists_below zone set encloser formed m ends e.there (strictly_made set.owner encloser up apart)

    by : (length encloser < length set.owner) ⊎ (length set.owner ≤ length encloser)
        → at_or_above (label ∷ encloser) set.owner ≡ true
    by (inl longer) = above_nested (label ∷ encloser) set.owner name closer above (omega (arith, longer))
    by (inr short) =
        absurd (at_encloser (above_nested set.owner encloser name above higher short) (name_eq set.owner encloser) refl)

-- ---- the zone's own encloser

encloser_itself : (zone : Zone) (name : Labels) → exists_in zone name ≡ true → encloser zone name ≡ name
unfolding encloser
encloser_itself zone [] h = refl
encloser_itself zone (label ∷ name) h = ap (λ b. cond b (label ∷ name) (encloser zone name)) h

encloser_next : (zone : Zone) (label : Label) (name : Labels) → exists_in zone (label ∷ name) ≡ false
    → encloser zone (label ∷ name) ≡ encloser zone name
unfolding encloser
encloser_next zone label name h = ap (λ b. cond b (label ∷ name) (encloser zone name)) h

-- it is the one whose next closer name is missing
encloser_over : (zone : Zone) (front : Labels) (label : Label) (last : Labels) → at_or_above zone.apex last ≡ true
    → exists_in zone last ≡ true
    → exists_in zone (label ∷ last) ≡ false → encloser zone (front ++ (label ∷ last)) ≡ last
encloser_over zone [] label last inside there gone = encloser_next zone label last gone
    ∙ encloser_itself zone last there
encloser_over zone (first ∷ front) label last inside there gone =
    let closer = ends_above (label ∷ last) (first ∷ (front ++ (label ∷ last)))
    (record { front = first ∷ front; whole = refl }) in
    let missing = missing_below zone (label ∷ last) (first ∷ (front ++ (label ∷ last)))
    (above_one_more zone.apex label last inside) closer gone in
    encloser_next zone first (front ++ (label ∷ last)) missing ∙ encloser_over zone front label last inside there gone

-- it is at or below each last part of the name that exists
encloser_under : (zone : Zone) (front last : Labels) → exists_in zone last ≡ true
    → at_or_above last (encloser zone (front ++ last)) ≡ true
encloser_under zone [] last there = ap (at_or_above last) (encloser_itself zone last there) ∙ above_itself last
encloser_under zone (first ∷ front) last there =
    by (exists_in zone (first ∷ (front ++ last))) refl (encloser_under zone front last there)
  where
    by : (b : Bool) → exists_in zone (first ∷ (front ++ last)) ≡ b
        → at_or_above last (encloser zone (front ++ last)) ≡ true
        → at_or_above last (encloser zone (first ∷ (front ++ last))) ≡ true
    by true here later =
        ap (at_or_above last) (encloser_itself zone (first ∷ (front ++ last)) here)
        ∙ ends_above last (first ∷ (front ++ last)) (record { front = first ∷ front; whole = refl })
    by false gone later = ap (at_or_above last) (encloser_next zone first (front ++ last) gone) ∙ later

-- ---- what the zone answers

-- a name that is reached, and is there
pub there_without : (zone : Zone) (name : Labels) (rtype : ℕ) → IsReached zone name rtype
    → exists_in zone name ≡ true → has_data zone name rtype ≡ false
    → lookup zone name rtype ≡ NoData
there_without zone name rtype r there none =
    reached zone name rtype r
    ∙ ap (λ b. cond b (cond (has_data zone name rtype) Data NoData)
    (from_wildcard zone (star (encloser zone name)) rtype)) there
    ∙ ap (λ b. cond b Data NoData) none

-- a name that is reached, and is missing
missing_without : (zone : Zone) (name : Labels) (rtype : ℕ) → IsReached zone name rtype → exists_in zone name ≡ false
    → lookup zone name rtype ≡ from_wildcard zone (star (encloser zone name)) rtype
missing_without zone name rtype r gone =
    reached zone name rtype r
    ∙ ap (λ b. cond b (cond (has_data zone name rtype) Data NoData)
    (from_wildcard zone (star (encloser zone name)) rtype)) gone

-- a wildcard that is no delegation, has no data and no DNAME
pub mute_answer : (zone : Zone) (wildcard : Labels) (rtype : ℕ) → is_delegation zone wildcard ≡ false
    → has_data zone wildcard rtype ≡ false
    → has_set zone wildcard type_dname ≡ false
    → from_wildcard zone wildcard rtype ≡ cond (exists_in zone wildcard) NoData NxDomain
unfolding from_wildcard
mute_answer zone wildcard rtype cut none dname =
    let rest = cond (exists_in zone wildcard) NoData NxDomain in
    ap (λ b. cond b (Referral wildcard)
    (cond (has_data zone wildcard rtype || has_set zone wildcard type_dname) Data rest)) cut
    ∙ ap (λ b. cond (b || has_set zone wildcard type_dname) Data rest) none
    ∙ ap (λ b. cond b Data rest) dname

-- one that isn't there
pub absent_answer : (zone : Zone) (wildcard : Labels) (rtype : ℕ) → at_or_above zone.apex wildcard ≡ true
    → exists_in zone wildcard ≡ false
    → from_wildcard zone wildcard rtype ≡ NxDomain
absent_answer zone wildcard rtype inside gone =
    let none = ownerless zone wildcard inside gone in
    mute_answer zone wildcard rtype (no_delegation zone wildcard (no_set zone wildcard type_ns none))
    (no_data zone wildcard rtype none)
    (no_set zone wildcard type_dname none)
    ∙ ap (λ b. cond b NoData NxDomain) gone

-- ---- the next closer name is missing

closer_reach : (zone : Zone) (name encloser : Labels) (label : Label) (rtype : ℕ) → is_zone zone ≡ true
    → IsEnclosed zone name encloser label
    → exists_in zone (label ∷ encloser) ≡ false → IsReached zone name rtype
closer_reach zone name encloser label rtype formed e gone = record {
  none_above = λ set m ends above. met set m ends (strictly_parts set.owner name above).0;
  none_at = λ set m cut same other.
      met set m (cut_ends zone set.owner cut)
      (above_alike name set.owner name (name_back set.owner name same) (above_itself name));
}
  where
    met : (set : SetKey) → IsMember set zone.sets → zone_ends_at zone set.owner ≡ true
        → at_or_above set.owner name ≡ true → ⊥
    met set m ends above =
        let closer = end_is_closer zone name encloser label set formed e m ends above in
        true≢false (sym (member_exists zone set (label ∷ encloser) m
        (closer_inside zone name encloser label e) closer) ∙ gone)

pub name_missing : (zone : Zone) (name encloser : Labels) (label : Label) → IsEnclosed zone name encloser label
    → exists_in zone (label ∷ encloser) ≡ false → exists_in zone name ≡ false
name_missing zone name encloser label e gone =
    missing_below zone (label ∷ encloser) name (closer_inside zone name encloser label e)
    (closer_above zone name encloser label e) gone

-- then the wildcard below the encloser answers
pub wildcard_answers : (zone : Zone) (name encloser_is : Labels) (label : Label) (rtype : ℕ) → is_zone zone ≡ true
    → IsEnclosed zone name encloser_is label
    → exists_in zone (label ∷ encloser_is) ≡ false
    → lookup zone name rtype ≡ from_wildcard zone (star encloser_is) rtype
wildcard_answers zone name encloser_is label rtype formed e gone =
    missing_without zone name rtype (closer_reach zone name encloser_is label rtype formed e gone)
    (name_missing zone name encloser_is label e gone)
    ∙ ap (λ (n : Labels). from_wildcard zone (star (encloser zone n)) rtype) e.ends.whole
    ∙ ap (λ (n : Labels). from_wildcard zone (star n) rtype)
    (encloser_over zone e.ends.front label encloser_is e.inside e.there gone)

-- ---- the next closer name is light

-- the zone has nothing at the name, or leads on to an unsigned delegation below the next closer name
pub data IsLightAnswer (zone : Zone) (name closer : Labels) (rtype : ℕ) : Type 0 where
  NoType : lookup zone name rtype ≡ NoData → IsLightAnswer zone name closer rtype
  NoName : lookup zone name rtype ≡ NxDomain → IsLightAnswer zone name closer rtype
  Leads : (cut : Labels) → lookup zone name rtype ≡ Referral cut → is_unsigned_delegation zone cut ≡ true
      → at_or_above closer cut ≡ true
      → IsLightAnswer zone name closer rtype

lookup_cut : (zone : Zone) (name : Labels) (rtype : ℕ) (set : SetKey)
    → find (is_cut_over zone name rtype) zone.sets ≡ Some set
    → lookup zone name rtype ≡ Referral set.owner
unfolding lookup
lookup_cut zone name rtype set h =
    let rest = cond (list_any (is_dname_over name) zone.sets) Data
    (cond (exists_in zone name) (cond (has_data zone name rtype) Data NoData)
    (from_wildcard zone (star (encloser zone name)) rtype)) in
    ap (λ (o : Option SetKey). below_cut o rest) h

-- a cut over the name is at or above it
cut_over_parts : (zone : Zone) (name : Labels) (rtype : ℕ) (set : SetKey) → is_cut_over zone name rtype set ≡ true
    → (is_delegation zone set.owner ≡ true) × (at_or_above set.owner name ≡ true)
cut_over_parts zone name rtype set h =
    let parts = and_parts (is_delegation zone set.owner)
    (strictly_above set.owner name || (name_eq set.owner name && not (rtype == type_ds))) h in
    (parts.0, by (or_cases (strictly_above set.owner name) (name_eq set.owner name && not (rtype == type_ds)) parts.1))
  where
    by : (strictly_above set.owner name ≡ true) ⊎ ((name_eq set.owner name && not (rtype == type_ds)) ≡ true)
        → at_or_above set.owner name ≡ true
    by (inl above) = (strictly_parts set.owner name above).0
    by (inr at) =
        let same = (and_parts (name_eq set.owner name) (not (rtype == type_ds)) at).0 in
        above_alike name set.owner name (name_back set.owner name same) (above_itself name)

-- where no cut is over the name, it is reached: what ends the zone there would be a cut
light_reach : (zone : Zone) (name encloser : Labels) (label : Label) (rtype : ℕ) → is_zone zone ≡ true
    → IsEnclosed zone name encloser label
    → is_light zone (label ∷ encloser) ≡ true → list_any (is_cut_over zone name rtype) zone.sets ≡ false
    → IsReached zone name rtype
light_reach zone name encloser label rtype formed e light none = record {
  none_above = λ set m ends above.
      let closer = end_is_closer zone name encloser label set formed e m ends (strictly_parts set.owner name above).0 in
      let cut = (unsigned_parts zone set.owner (light_set zone (label ∷ encloser) set light m closer)).0 in
      uncut set m (and_from (is_delegation zone set.owner)
      (strictly_above set.owner name || (name_eq set.owner name && not (rtype == type_ds))) cut
      (or_left (strictly_above set.owner name) (name_eq set.owner name && not (rtype == type_ds)) above));
  none_at = λ set m cut same other.
      uncut set m (and_from (is_delegation zone set.owner)
      (strictly_above set.owner name || (name_eq set.owner name && not (rtype == type_ds))) cut
      (or_right (strictly_above set.owner name) (name_eq set.owner name && not (rtype == type_ds))
      (and_from (name_eq set.owner name) (not (rtype == type_ds)) same other)));
}
  where
    uncut : (set : SetKey) → IsMember set zone.sets → is_cut_over zone name rtype set ≡ true → ⊥
    uncut set m h = true≢false (sym (m.any (is_cut_over zone name rtype) h) ∙ none)

-- the wildcard below a name that is at or below a light one
light_wildcard : (zone : Zone) (light wildcard : Labels) (rtype : ℕ) (name : Labels) → is_light zone light ≡ true
    → at_or_above light wildcard ≡ true
    → lookup zone name rtype ≡ from_wildcard zone wildcard rtype → IsLightAnswer zone name light rtype
unfolding from_wildcard
light_wildcard zone light wildcard rtype name is_so below is = by (is_delegation zone wildcard) refl
  where
    rest : ZoneAnswer
    rest = cond (has_data zone wildcard rtype || has_set zone wildcard type_dname) Data
        (cond (exists_in zone wildcard) NoData NxDomain)

    mute : is_owner zone wildcard ≡ false → (b : Bool) → exists_in zone wildcard ≡ b
        → IsLightAnswer zone name light rtype
    mute none b e =
        let answer = is ∙ mute_answer zone wildcard rtype
        (no_delegation zone wildcard (no_set zone wildcard type_ns none))
        (no_data zone wildcard rtype none) (no_set zone wildcard type_dname none)
        ∙ ap (λ c. cond c NoData NxDomain) e in
        either b answer
      where
        either : (b : Bool) → lookup zone name rtype ≡ cond b NoData NxDomain → IsLightAnswer zone name light rtype
        either true answer = NoType answer
        either false answer = NoName answer

    by : (b : Bool) → is_delegation zone wildcard ≡ b → IsLightAnswer zone name light rtype
    by true cut =
        Leads wildcard (is ∙ ap (λ b. cond b (Referral wildcard) rest) cut)
        (light_owner zone light wildcard is_so below (cut_owner zone wildcard cut)) below
    by false uncut =
        mute (false_from_ne_true (is_owner zone wildcard) (λ own.
        true≢false (sym (unsigned_parts zone wildcard (light_owner zone light wildcard is_so below own)).0 ∙ uncut)))
        (exists_in zone wildcard) refl

pub light_answers : (zone : Zone) (name encloser_is : Labels) (label : Label) (rtype : ℕ) → is_zone zone ≡ true
    → IsEnclosed zone name encloser_is label
    → is_light zone (label ∷ encloser_is) ≡ true → not (rtype == type_ds) ≡ true
    → IsLightAnswer zone name (label ∷ encloser_is) rtype
light_answers zone name encloser_is label rtype formed e light other =
    by (find (is_cut_over zone name rtype) zone.sets) refl
  where
    closer : Labels
    closer = label ∷ encloser_is

    owned_not : IsReached zone name rtype → is_owner zone name ≡ false
    owned_not r = false_from_ne_true (is_owner zone name) (λ own.
        let cut = (unsigned_parts zone name
        (light_owner zone closer name light (closer_above zone name encloser_is label e) own)).0 in
        let o = owned zone name own in
        r.none_at o.set o.member (is_delegation_alike zone o.set.owner name o.same ∙ cut) o.same other)

    past : IsReached zone name rtype → (b : Bool) → exists_in zone name ≡ b → IsLightAnswer zone name closer rtype
    past r true there = NoType (there_without zone name rtype r there (no_data zone name rtype (owned_not r)))
    past r false gone =
        let lower : at_or_above closer (encloser zone name) ≡ true =
        ap (λ (n : Labels). at_or_above closer (encloser zone n)) e.ends.whole
        ∙ encloser_under zone e.ends.front closer (light_exists zone closer light) in
        light_wildcard zone closer (star (encloser zone name)) rtype name light
        (above_one_more closer asterisk (encloser zone name) lower)
        (missing_without zone name rtype r gone)

    by : (o : Option SetKey) → find (is_cut_over zone name rtype) zone.sets ≡ o → IsLightAnswer zone name closer rtype
    by None none =
        past (light_reach zone name encloser_is label rtype formed e light
        (none_found (is_cut_over zone name rtype) zone.sets none))
        (exists_in zone name) refl
    by (Some set) is =
        let f = found (is_cut_over zone name rtype) zone.sets set is in
        let parts = cut_over_parts zone name rtype set f.passes in
        let lower = end_is_closer zone name encloser_is label set formed e f.known
        (cut_ends zone set.owner parts.0) parts.1 in
        Leads set.owner (lookup_cut zone name rtype set is) (light_set zone closer set light f.known lower) lower
