-- Which names exist in a zone, which of these are light, and where the zone ends above them (RFC 4592, 2.2; RFC
-- 5155, 7.1).
use Rattle.std.proofs.Common.{◌≡◌, Bool, true, false, not, ◌&&◌, ◌||◌, refl, sym, ap, ◌∙◌, true≢false, arith}
use Rattle.std.specs.List.{list_any, list_all}
use Rattle.std.proofs.lemmas.Bool.{and_parts, and_from, false_from_ne_true, or_left, not-true}
use Rattle.dns_model.specs.Names.{Labels, name_eq, at_or_above, strictly_above}
use Rattle.dns_model.specs.Types.{type_ns, type_ds, type_dname}
use Rattle.dns_model.proofs.SetLemmas.{name_back}
use Rattle.dns_model.proofs.AboveLemmas.{above_alike, below_alike, above_itself, above_trans, strictly_parts, above_is_shorter, strictly_made}
use Rattle.dns_model.proofs.CommonAncestors.{above_aligned}
use Rattle.dns_rules.specs.Zones.{SetKey, Zone, has_set, is_owner, is_delegation, exists_in, zone_ends_at, is_zone}
use Rattle.dns_rules.proofs.Members.{after_not, IsMember, IsPicked, picked}
use Rattle.dns_rules.proofs.ZoneLemmas.{has_set_alike, is_delegation_alike, has_owner, none_below}
use Rattle.dns_hashed_denial.specs.HashedZones.{is_unsigned_delegation, is_unsigned_below, is_light}
use Rattle.dns_hashed_denial.proofs.FoundMembers.{all_follow}

-- ---- names that exist

-- a name at or below the apex and at or above an owner
pub member_exists : (zone : Zone) (set : SetKey) (name : Labels) → IsMember set zone.sets
    → at_or_above zone.apex name ≡ true
    → at_or_above name set.owner ≡ true → exists_in zone name ≡ true
unfolding exists_in
member_exists zone set name m inside above =
    and_from (at_or_above zone.apex name) (list_any (λ s. at_or_above name s.owner) zone.sets) inside
    (m.any (λ s. at_or_above name s.owner) above)

-- an owner at or below a name that exists
pub owner_below : (zone : Zone) (name : Labels) → exists_in zone name ≡ true
    → IsPicked (λ set. at_or_above name set.owner) zone.sets
unfolding exists_in
owner_below zone name h =
    picked (λ set. at_or_above name set.owner) zone.sets (and_parts (at_or_above zone.apex name) _ h).1

pub exists_inside : (zone : Zone) (name : Labels) → exists_in zone name ≡ true → at_or_above zone.apex name ≡ true
unfolding exists_in
exists_inside zone name h =
    (and_parts (at_or_above zone.apex name) (list_any (λ set. at_or_above name set.owner) zone.sets) h).0

-- what is above a name that exists
pub exists_over : (zone : Zone) (above name : Labels) → at_or_above zone.apex above ≡ true
    → at_or_above above name ≡ true
    → exists_in zone name ≡ true → exists_in zone above ≡ true
exists_over zone above name inside over h =
    let k = owner_below zone name h in
    member_exists zone k.it above k.member inside (above_trans above name k.it.owner over k.passes)

pub exists_alike : (zone : Zone) (one two : Labels) → name_eq one two ≡ true → exists_in zone one ≡ true
    → exists_in zone two ≡ true
exists_alike zone one two same h =
    exists_over zone two one (below_alike zone.apex one two same (exists_inside zone one h))
    (above_alike one two one same (above_itself one)) h

-- what is below a name that is missing
pub missing_below : (zone : Zone) (above name : Labels) → at_or_above zone.apex above ≡ true
    → at_or_above above name ≡ true
    → exists_in zone above ≡ false → exists_in zone name ≡ false
missing_below zone above name inside over gone =
    false_from_ne_true (exists_in zone name) (λ h. true≢false (sym (exists_over zone above name inside over h) ∙ gone))

-- an owner by its RRset
pub record IsOwned (zone : Zone) (name : Labels) : Type 0 where
  pub set : SetKey
  pub member : IsMember set zone.sets
  pub same : name_eq set.owner name ≡ true

pub owned : (zone : Zone) (name : Labels) → is_owner zone name ≡ true → IsOwned zone name
unfolding is_owner
owned zone name h =
    let k = picked (λ set. name_eq set.owner name) zone.sets h in
    record { set = k.it; member = k.member; same = k.passes }

pub cut_owner : (zone : Zone) (name : Labels) → is_delegation zone name ≡ true → is_owner zone name ≡ true
unfolding is_delegation
cut_owner zone name h =
    has_owner zone name type_ns (and_parts (has_set zone name type_ns) (not (name_eq name zone.apex)) h).0

-- an owner exists
pub ownerless : (zone : Zone) (name : Labels) → at_or_above zone.apex name ≡ true → exists_in zone name ≡ false
    → is_owner zone name ≡ false
ownerless zone name inside gone =
    false_from_ne_true (is_owner zone name) (λ h.
    let o = owned zone name h in
    true≢false (sym (member_exists zone o.set name o.member inside
    (above_alike o.set.owner name o.set.owner o.same (above_itself o.set.owner))) ∙ gone))

-- ---- where the zone ends

pub cut_ends : (zone : Zone) (name : Labels) → is_delegation zone name ≡ true → zone_ends_at zone name ≡ true
cut_ends zone name h = or_left (is_delegation zone name) (has_set zone name type_dname) h

pub ends_alike : (zone : Zone) (one two : Labels) → name_eq one two ≡ true
    → zone_ends_at zone one ≡ zone_ends_at zone two
ends_alike zone one two same =
    ap (λ b. b || has_set zone one type_dname) (is_delegation_alike zone one two same)
    ∙ ap (λ b. is_delegation zone two || b) (has_set_alike zone one two type_dname same)

above_both : (one two : Labels) → at_or_above one two ≡ true → at_or_above two one ≡ true → name_eq one two ≡ true
above_both one two down up =
    let short = above_is_shorter one two down in
    let long = above_is_shorter two one up in
    sym (above_aligned one two (omega (arith, short, long))) ∙ down

-- a name strictly above another is strictly above what is below that
pub strictly_over : (one two three : Labels) → strictly_above one two ≡ true → at_or_above two three ≡ true
    → strictly_above one three ≡ true
strictly_over one two three h k =
    let parts = strictly_parts one two h in
    strictly_made one three (above_trans one two three parts.0 k) (false_from_ne_true (name_eq one three) (λ same.
    let back = below_alike two three one (name_back one three same) k in
    true≢false (sym (above_both one two parts.0 back) ∙ parts.1)))

-- nothing that exists is below the end of the zone
pub none_exists_below : (zone : Zone) (set : SetKey) (name : Labels) → is_zone zone ≡ true → IsMember set zone.sets
    → zone_ends_at zone set.owner ≡ true → exists_in zone name ≡ true → strictly_above set.owner name ≡ true → ⊥
none_exists_below zone set name formed m ends there above =
    let k = owner_below zone name there in
    true≢false (sym (strictly_over set.owner name k.it.owner above k.passes)
    ∙ none_below zone set k.it formed m k.member ends)

-- ---- light names

pub light_exists : (zone : Zone) (name : Labels) → is_light zone name ≡ true → exists_in zone name ≡ true
unfolding is_light
light_exists zone name h =
    (and_parts (exists_in zone name) (list_all (is_unsigned_below zone name) zone.sets) h).0

pub light_set : (zone : Zone) (name : Labels) (set : SetKey) → is_light zone name ≡ true → IsMember set zone.sets
    → at_or_above name set.owner ≡ true
    → is_unsigned_delegation zone set.owner ≡ true
unfolding is_light
light_set zone name set h m above =
    let parts = and_parts (exists_in zone name) (list_all (is_unsigned_below zone name) zone.sets) h in
    after_not (at_or_above name set.owner) (is_unsigned_delegation zone set.owner) above
    (m.all (is_unsigned_below zone name) parts.1)

unsigned_alike : (zone : Zone) (one two : Labels) → name_eq one two ≡ true
    → is_unsigned_delegation zone one ≡ is_unsigned_delegation zone two
unsigned_alike zone one two same =
    ap (λ b. b && not (has_set zone one type_ds)) (is_delegation_alike zone one two same)
    ∙ ap (λ b. is_delegation zone two && not b) (has_set_alike zone one two type_ds same)

-- an owner at or below a light name is an unsigned delegation
pub light_owner : (zone : Zone) (light name : Labels) → is_light zone light ≡ true → at_or_above light name ≡ true
    → is_owner zone name ≡ true
    → is_unsigned_delegation zone name ≡ true
light_owner zone light name h above own =
    let o = owned zone name own in
    sym (unsigned_alike zone o.set.owner name o.same)
    ∙ light_set zone light o.set h o.member
    (below_alike light name o.set.owner (name_back o.set.owner name o.same) above)

-- what exists at or below a light name is light
pub light_below : (zone : Zone) (light name : Labels) → is_light zone light ≡ true → at_or_above light name ≡ true
    → exists_in zone name ≡ true
    → is_light zone name ≡ true
unfolding is_light
light_below zone light name h above there =
    let parts = and_parts (exists_in zone light) (list_all (is_unsigned_below zone light) zone.sets) h in
    and_from (exists_in zone name) (list_all (is_unsigned_below zone name) zone.sets) there
    (all_follow (is_unsigned_below zone light)
    (is_unsigned_below zone name) zone.sets
    (λ set k. follow (at_or_above name set.owner) (at_or_above light set.owner) (is_unsigned_delegation zone set.owner)
    (λ e. above_trans light name set.owner above e) k) parts.1)
  where
    follow : (a b c : Bool) → (a ≡ true → b ≡ true) → (not b || c) ≡ true → (not a || c) ≡ true
    follow false b c up h = refl
    follow true b c up h = after_not b c (up refl) h

-- an unsigned delegation has no DS
pub unsigned_parts : (zone : Zone) (name : Labels) → is_unsigned_delegation zone name ≡ true
    → (is_delegation zone name ≡ true) × (has_set zone name type_ds ≡ false)
unsigned_parts zone name h =
    let parts = and_parts (is_delegation zone name) (not (has_set zone name type_ds)) h in
    (parts.0, not-true (has_set zone name type_ds) parts.1)

-- a name that is light or missing has no DS
pub light_has_no_ds : (zone : Zone) (light name : Labels) → is_light zone light ≡ true → at_or_above light name ≡ true
    → has_set zone name type_ds ≡ false
light_has_no_ds zone light name h above =
    false_from_ne_true (has_set zone name type_ds) (λ ds.
    true≢false (sym ds ∙
    (unsigned_parts zone name (light_owner zone light name h above (has_owner zone name type_ds ds))).1))
