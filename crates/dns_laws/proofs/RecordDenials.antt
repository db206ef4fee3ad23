-- What an answer denies by its own records: those of its last step's sets, with their marks.
use Rattle.std.proofs.Common.{◌≡◌, ℕ, Bool, true, false, ◌==◌, ◌&&◌, cond, List, [], ◌∷◌, ◌++◌, map, Option, None, Some, IfSome, refl, sym, ap, ◌∙◌, subst, true≢false}
use Rattle.std.specs.List.{filter, filter_map, flat_map, cons_option, list_any, AllByRecursion}
use Rattle.std.proofs.lemmas.Bool.{and_parts, and_from, true_from_ne_false}
use Rattle.dns_model.specs.declared.section.Section.{Section}
use Rattle.dns_model.specs.declared.section.Section.TheVariants.{Answer, Authority, Additional}
use Rattle.dns_model.specs.Types.{type_nsec}
use Rattle.dns_model.specs.Owned.{OwnedNsec}
use Rattle.dns_model.specs.Records.{Rr, RrSet}
use Rattle.dns_model.specs.Sections.{same_set, set_of, sets_of, leaders, unsigned_part}
use Rattle.dns_model.specs.Chains.{is_nonempty, rdatas_of}
use Rattle.dns_model.specs.SoundAnswers.{Told, PlacedSet, placed_sets, in_section, section_eq, is_secure}
use Rattle.dns_model.proofs.EachLemmas.{each_more, each_of, each_both, each_append, each_map, each_unmap, each_filter, each_passes, filter_none, none_passes}
use Rattle.dns_model.proofs.SetLemmas.{KeepsKey, is_of, section_same}
use Rattle.dns_rules.specs.MarkedSets.{MarkedSet, placed_of}
use Rattle.dns_rules.specs.Marking.{marked, map_after, marked_section}
use Rattle.dns_rules.specs.Denying.{is_denying_as, is_denying, denying, owned_nsec, denials}
use Rattle.dns_rules.proofs.Members.{picked_known}
use Rattle.dns_rules.proofs.MarkedLemmas.{marked-keeps, IsKnown, each_known, own_from, own_marked}
use Rattle.dns_laws.specs.OwnDenials.{is_secure_as, secure_nsecs}

-- ---- one record

-- what a record says as an NSEC stays, whatever its mark and ttl
owned_kept : (f : Rr → Rr) → KeepsKey f → (r : Rr) → owned_nsec (f r) ≡ owned_nsec r
owned_kept f k r = rw (k.owner r, k.rtype r, k.rdata r) refl

-- ---- what is said by each record of a section

pub kept_parts : {X : Type 0} (P : X → Type 0) (b : Bool) (x : X) (xs : List X)
    → AllByRecursion P (cond b (x ∷ xs) xs) → (b ≡ true → P x) × AllByRecursion P xs
kept_parts P true x xs h = (λ is. h.0, h.1)
kept_parts P false x xs h = (λ is. cc, h)

-- what is known of each Secure record of a type in a marked section is known of each record that is marked so
of_marked : (rtype : ℕ) (P Q : Rr → Type 0) (f : List Rr → Rr → Rr)
    → ((before : List Rr) (r : Rr) → P (f before r) → Q r) → (before rs : List Rr)
    → AllByRecursion P (filter (is_secure_as rtype) (map_after f before rs))
    → AllByRecursion (λ r. ((b : List Rr) → is_secure_as rtype (f b r) ≡ true) → Q r) rs
unfolding map_after
of_marked rtype P Q f keeps before [] h = tt
of_marked rtype P Q f keeps before (r ∷ rs) h =
    let parts = kept_parts P (is_secure_as rtype (f before r)) (f before r)
    (filter (is_secure_as rtype) (map_after f (before ++ r ∷ []) rs)) h in
    (λ secure. keeps before r (parts.0 (secure before)), of_marked rtype P Q f keeps (before ++ r ∷ []) rs parts.1)

-- ---- the sets of the authority section

each_member : (P : Rr → Type 0) (section : List Rr) → AllByRecursion P section
    → AllByRecursion (λ set. AllByRecursion P set.records) (sets_of section)
unfolding sets_of
each_member P section h =
    each_map (λ set. AllByRecursion P set.records) (set_of section) (leaders (unsigned_part section))
    (each_of (λ r. AllByRecursion P (set_of section r).records) (λ r. each_filter P (same_set r) section h)
    (leaders (unsigned_part section)))

abbrev IfAuthority : (Rr → Type 0) → PlacedSet → Type 0
IfAuthority P p = section_eq Authority p.section ≡ true → AllByRecursion P p.set.records

each_authority : (P : Rr → Type 0) (told : Told) → AllByRecursion P told.authorities
    → AllByRecursion (IfAuthority P) (placed_sets told)
each_authority P told h =
    let one = map (in_section Answer) (sets_of told.answers) in
    let two = map (in_section Authority) (sets_of told.authorities) in
    let three = map (in_section Additional) (sets_of told.additionals) in
    let other = λ (section : Section) (sets : List RrSet) (is : section_eq Authority section ≡ false).
    each_map (IfAuthority P) (in_section section) sets
    (each_of (λ set. IfAuthority P (in_section section set)) (λ set here. absurd (true≢false (sym here ∙ is))) sets) in
    each_append (IfAuthority P) (one ++ two) three
    (each_append (IfAuthority P) one two (other Answer (sets_of told.answers) refl)
    (each_map (IfAuthority P) (in_section Authority) (sets_of told.authorities)
    (each_more (λ set. AllByRecursion P set.records) (λ set. IfAuthority P (in_section Authority set)) (λ set each here. each)
    (sets_of told.authorities)
    (each_member P told.authorities h))))
    (other Additional (sets_of told.additionals) refl)

each_in : (P : Rr → Type 0) (told : Told) (sets : List MarkedSet) → map placed_of sets ≡ placed_sets told
    → AllByRecursion P told.authorities
    → AllByRecursion (λ s. IfAuthority P (placed_of s)) sets
each_in P told sets grouped h =
    each_unmap (IfAuthority P) placed_of sets (subst (λ ps. AllByRecursion (IfAuthority P) ps) (sym grouped) (each_authority P told h))

-- ---- the records of a denying set

pub record IsDenyingSet (type : ℕ) (s : MarkedSet) : Type 0 where
  pub section : section_eq Authority s.section ≡ true
  pub secure : is_secure s.mark ≡ true
  pub rtype : (s.set.rtype == type) ≡ true

pub denying_parts : (rtype : ℕ) (s : MarkedSet) → is_denying_as rtype s ≡ true → IsDenyingSet rtype s
denying_parts rtype s h =
    let one = and_parts (section_eq Authority s.section) (is_secure s.mark && (s.set.rtype == rtype)) h in
    let two = and_parts (is_secure s.mark) (s.set.rtype == rtype) one.1 in
    record { section = one.0; secure = two.0; rtype = two.1 }

-- wherever the record stands, it is marked Secure
abbrev StaysSecure : ℕ → ℕ → List MarkedSet → Rr → Type 0
StaysSecure rtype now sets r = (before : List Rr) → is_secure_as rtype (marked now sets Authority before r) ≡ true

stays_secure : (rtype now : ℕ) (told : Told) (sets : List MarkedSet) (s : MarkedSet) → IsKnown told sets s
    → is_denying_as rtype s ≡ true
    → AllByRecursion (StaysSecure rtype now sets) s.set.records
stays_secure rtype now told sets s known h =
    let d = denying_parts rtype s h in
    each_more (λ r. is_of s.set r ≡ true) (StaysSecure rtype now sets)
    (λ r of before.
    let own = own_from s.set r known.proper of in
    ap (λ section. is_secure_as rtype (marked now sets section before r)) (section_same Authority s.section d.section)
    ∙ ap (is_secure_as rtype) (own_marked now sets s before r known.found own)
    ∙ and_from (is_secure s.mark) (r.rtype == rtype) d.secure (ap (λ t. t == rtype) (sym own.rtype) ∙ d.rtype))
    s.set.records known.proper.own

-- what is known of the Secure records of a type in the authority section is known of each record of its Secure sets
of_denying : (rtype : ℕ) (P Q : Rr → Type 0) (now : ℕ) (told : Told) (sets : List MarkedSet)
    → map placed_of sets ≡ placed_sets told
    → ((before : List Rr) (r : Rr) → P (marked now sets Authority before r) → Q r)
    → AllByRecursion P (filter (is_secure_as rtype) (marked_section now sets Authority told.authorities))
    → AllByRecursion (λ s. IsKnown told sets s × (is_denying_as rtype s ≡ true → AllByRecursion Q s.set.records)) sets
of_denying rtype P Q now told sets grouped keeps h =
    let Stays = StaysSecure rtype now sets in
    let If = λ (r : Rr). Stays r → Q r in
    let Known = IsKnown told sets in
    let drawn = each_in If told sets grouped (of_marked rtype P Q (marked now sets Authority) keeps [] told.authorities h) in
    each_more (λ s. Known s × IfAuthority If (placed_of s)) (λ s. Known s × (is_denying_as rtype s ≡ true → AllByRecursion Q s.set.records))
    (λ s k. (
      k.0,
      λ denies.
          each_more (λ r. If r × Stays r) Q (λ r p. p.0 p.1) s.set.records
          (each_both If Stays s.set.records (k.1 (denying_parts rtype s denies).section) (stays_secure rtype now told sets s k.0 denies)),
    )) sets
    (each_both Known (λ s. IfAuthority If (placed_of s)) sets (each_known told sets grouped) drawn)

-- ---- what is said

abbrev Says : (OwnedNsec → Type 0) → Rr → Type 0
Says P r = IfSome (owned_nsec r) P

given_parts : {Y : Type 0} (P : Y → Type 0) (o : Option Y) (ys : List Y) → AllByRecursion P (cons_option o ys)
    → IfSome o P × AllByRecursion P ys
given_parts P None ys h = (tt, h)
given_parts P (Some y) ys h = (h.0, h.1)

-- what is known of all that elements give is known of what each gives
pub each_given : {X Y : Type 0} (P : Y → Type 0) (g : X → Option Y) (xs : List X) → AllByRecursion P (filter_map g xs)
    → AllByRecursion (λ x. IfSome (g x) P) xs
each_given P g [] h = tt
each_given P g (x ∷ xs) h = let parts = given_parts P (g x) (filter_map g xs) h in (parts.0, each_given P g xs parts.1)

said_from : (P : OwnedNsec → Type 0) (o : Option OwnedNsec) (rest : List OwnedNsec) → IfSome o P
    → AllByRecursion P rest → AllByRecursion P (cons_option o rest)
said_from P None rest h k = k
said_from P (Some x) rest h k = (h, k)

says_each : (P : OwnedNsec → Type 0) (rs : List Rr) → AllByRecursion (Says P) rs
    → AllByRecursion P (filter_map owned_nsec rs)
says_each P [] h = tt
says_each P (r ∷ rs) h = said_from P (owned_nsec r) (filter_map owned_nsec rs) h.0 (says_each P rs h.1)

each_flat : (P : OwnedNsec → Type 0) (f : MarkedSet → List OwnedNsec) (ss : List MarkedSet)
    → AllByRecursion (λ s. AllByRecursion P (f s)) ss
    → AllByRecursion P (flat_map f ss)
each_flat P f [] h = tt
each_flat P f (s ∷ ss) h = each_append P (f s) (flat_map f ss) h.0 (each_flat P f ss h.1)

-- what is so of the Secure NSEC records of the marked authority section is so of what the denying sets say
pub each_denial : (P : OwnedNsec → Type 0) (now : ℕ) (told : Told) (sets : List MarkedSet)
    → map placed_of sets ≡ placed_sets told
    → AllByRecursion P (secure_nsecs (marked_section now sets Authority told.authorities))
    → AllByRecursion P (denials sets)
each_denial P now told sets grouped h =
    let says = λ (s : MarkedSet). filter_map owned_nsec s.set.records in
    let Denies = λ (s : MarkedSet). is_denying s ≡ true in
    let If = λ (s : MarkedSet). IsKnown told sets s × (Denies s → AllByRecursion (Says P) s.set.records) in
    let known =
    of_denying type_nsec (Says P) (Says P) now told sets grouped
    (λ before r said. subst (λ o. IfSome o P) (owned_kept (marked now sets Authority before) (marked-keeps now sets Authority before) r)
    said)
    (each_given P owned_nsec (filter (is_secure_as type_nsec) (marked_section now sets Authority told.authorities)) h) in
    each_flat P says (denying sets)
    (each_more (λ s. Denies s × If s) (λ s. AllByRecursion P (says s)) (λ s k. says_each P s.set.records (k.1.1 k.0)) (denying sets)
    (each_both Denies If (denying sets) (each_passes is_denying sets) (each_filter If is_denying sets known)))

-- ---- there are such records

kept_none : {X : Type 0} (p : X → Bool) (xs : List X) → list_any p xs ≡ false → AllByRecursion (λ x. ⊥) (filter p xs)
kept_none p xs h = subst (AllByRecursion (λ x. ⊥)) (sym (filter_none p xs (none_passes p xs h))) tt

no_record : (rs : List Rr) → is_nonempty (rdatas_of rs) ≡ true → AllByRecursion (λ r. ⊥) rs → ⊥
no_record [] some none = cc
no_record (r ∷ rs) some none = none.0

pub some_denial : (rtype now : ℕ) (told : Told) (sets : List MarkedSet) → map placed_of sets ≡ placed_sets told
    → list_any (is_denying_as rtype) sets ≡ true
    → list_any (is_secure_as rtype) (marked_section now sets Authority told.authorities) ≡ true
some_denial rtype now told sets grouped some =
    let records = marked_section now sets Authority told.authorities in
    let Never = λ (r : Rr). ⊥ in
    true_from_ne_false (list_any (is_secure_as rtype) records) (λ none.
    let known = of_denying rtype Never Never now told sets grouped (λ before r never. never)
    (kept_none (is_secure_as rtype) records none) in
    let one = picked_known (is_denying_as rtype) (λ s. IsKnown told sets s × (is_denying_as rtype s ≡ true
    → AllByRecursion Never s.set.records)) sets known some in
    no_record one.it.set.records one.known.0.proper.listed (one.known.1 one.passes))
