-- What the Secure NSEC3 sets of an answer say is what they say as the answer's own records have them.
use Rattle.std.proofs.Common.{◌≡◌, ℕ, Bool, true, false, ◌==◌, ◌&&◌, cond, List, [], ◌∷◌, ◌++◌, map, refl, sym, ap, ◌∙◌, append-nil}
use Rattle.std.specs.List.{filter, filter_map, flat_map, cons_option, AllByRecursion}
use Rattle.std.proofs.lemmas.List.Concat.{flat_map-append}
use Rattle.dns_model.specs.declared.section.Section.{Section}
use Rattle.dns_model.specs.declared.section.Section.TheVariants.{Answer, Authority, Additional}
use Rattle.dns_model.specs.Types.{type_nsec3}
use Rattle.dns_model.specs.Owned.{OwnedNsec3}
use Rattle.dns_model.specs.Records.{Rr, RrSet}
use Rattle.dns_model.specs.Sections.{sets_of}
use Rattle.dns_model.specs.SoundAnswers.{Told, PlacedSet, placed_sets, in_section, section_eq, is_secure, is_secure_set}
use Rattle.dns_model.proofs.EachLemmas.{each_more}
use Rattle.dns_model.proofs.SetLemmas.{KeepsKey, on_set}
use Rattle.dns_rules.specs.MarkedSets.{MarkedSet, placed_of}
use Rattle.dns_rules.specs.Marking.{adjusted_ttl, marked_section}
use Rattle.dns_rules.specs.Denying.{is_hash_denying, owned_nsec3, hashed_denials}
use Rattle.dns_rules.proofs.AfterLemmas.{unsigned}
use Rattle.dns_rules.proofs.MarkedLemmas.{marked-keeps, IsKnown, each_known}
use Rattle.dns_rules.proofs.SoundLemmas.{marked_first, own_marks, sets_of-marked, first_marked}
use Rattle.dns_laws.specs.OwnDenials.{is_secure_nsec3_set, secure_nsec3s}

-- ---- lists

kept_step : {X Y : Type 0} (b : Bool) (f : X → List Y) (x : X) (kept : List X)
    → flat_map f (cond b (x ∷ kept) kept) ≡ cond b (f x) [] ++ flat_map f kept
kept_step true f x kept = refl
kept_step false f x kept = refl

-- those that are kept give what they give, and the others nothing
flat_map-kept : {X Y : Type 0} (p : X → Bool) (f : X → List Y) (xs : List X)
    → flat_map f (filter p xs) ≡ flat_map (λ x. cond (p x) (f x) []) xs
flat_map-kept p f [] = refl
flat_map-kept p f (x ∷ xs) = kept_step (p x) f x (filter p xs) ∙ ap (λ rest. cond (p x) (f x) [] ++ rest) (flat_map-kept p f xs)

flat_map-mapped : {X Y Z : Type 0} (f : Y → List Z) (g : X → Y) (xs : List X)
    → flat_map f (map g xs) ≡ flat_map (λ x. f (g x)) xs
flat_map-mapped f g [] = refl
flat_map-mapped f g (x ∷ xs) = ap (λ rest. f (g x) ++ rest) (flat_map-mapped f g xs)

flat_map-alike : {X Y : Type 0} (f g : X → List Y) (xs : List X) → AllByRecursion (λ x. f x ≡ g x) xs
    → flat_map f xs ≡ flat_map g xs
flat_map-alike f g [] h = refl
flat_map-alike f g (x ∷ xs) h = ap (λ one. one ++ flat_map f xs) h.0 ∙ ap (λ rest. g x ++ rest) (flat_map-alike f g xs h.1)

abbrev nothing : {X Y : Type 0} → X → List Y
nothing x = []

flat_map-none : {X Y : Type 0} (xs : List X) → flat_map (nothing {X = X} {Y = Y}) xs ≡ []
flat_map-none [] = refl
flat_map-none (x ∷ xs) = flat_map-none xs

-- ---- one set

abbrev said : RrSet → List OwnedNsec3
said set = filter_map owned_nsec3 set.records

-- what a set of a section says
abbrev said_in : Section → RrSet → List OwnedNsec3
said_in section set = cond (section_eq Authority section && is_secure_nsec3_set set) (said set) []

owned_kept : (f : Rr → Rr) → KeepsKey f → (r : Rr) → owned_nsec3 (f r) ≡ owned_nsec3 r
owned_kept f k r = rw (k.owner r, k.rtype r, k.rdata r) refl

said_kept : (f : Rr → Rr) → KeepsKey f → (records : List Rr)
    → filter_map owned_nsec3 (map f records) ≡ filter_map owned_nsec3 records
said_kept f k [] = refl
said_kept f k (r ∷ rs) =
    ap (λ o. cons_option o (filter_map owned_nsec3 (map f rs))) (owned_kept f k r) ∙ ap (cons_option (owned_nsec3 r)) (said_kept f k rs)

abbrev said_by : MarkedSet → List OwnedNsec3
said_by s = cond (is_hash_denying s) (said s.set) []

-- with its records as they are marked
abbrev said_marked : ℕ → List MarkedSet → PlacedSet → List OwnedNsec3
said_marked now sets p = said_in p.section (on_set (marked_first now sets p.section) p.set)

same_said : (now : ℕ) (told : Told) (sets : List MarkedSet) (s : MarkedSet) → IsKnown told sets s
    → said_by s ≡ said_marked now sets (placed_of s)
same_said now told sets s known =
    let f = marked_first now sets s.section in
    let marks : AllByRecursion (λ r. (f r).proof ≡ s.mark) s.set.records =
    each_more (λ r. f r ≡ record r { proof = s.mark; ttl = adjusted_ttl now s r }) (λ r. (f r).proof ≡ s.mark)
    (λ r e. ap (λ x. x.proof) e) s.set.records
    (own_marks now told sets s known) in
    let mark : is_secure_set (on_set f s.set) ≡ is_secure s.mark =
    ap is_secure (first_marked f s.mark s.set.records known.proper.listed marks) in
    ap (λ b. cond (section_eq Authority s.section && (b && (s.set.rtype == type_nsec3))) (said s.set) []) (sym mark)
    ∙ ap (λ said. cond (section_eq Authority s.section && is_secure_nsec3_set (on_set f s.set)) said [])
    (sym (said_kept f (marked-keeps now sets s.section []) s.set.records))

-- ---- all sets

by_placed : (now : ℕ) (told : Told) (sets : List MarkedSet) → map placed_of sets ≡ placed_sets told
    → hashed_denials sets ≡ flat_map (said_marked now sets) (placed_sets told)
by_placed now told sets grouped =
    let g = said_marked now sets in
    flat_map-kept is_hash_denying (λ s. said s.set) sets
    ∙ flat_map-alike said_by (λ s. g (placed_of s)) sets
    (each_more (IsKnown told sets) (λ s. said_by s ≡ g (placed_of s)) (same_said now told sets) sets (each_known told sets grouped))
    ∙ sym (flat_map-mapped g placed_of sets) ∙ ap (flat_map g) grouped

-- only those of the authority section say something
by_authority : (now : ℕ) (told : Told) (sets : List MarkedSet)
    → flat_map (said_marked now sets) (placed_sets told) ≡ flat_map (λ set. said_marked now sets (in_section Authority set))
    (sets_of told.authorities)
by_authority now told sets =
    let g = said_marked now sets in
    let one = map (in_section Answer) (sets_of told.answers) in
    let two = map (in_section Authority) (sets_of told.authorities) in
    let three = map (in_section Additional) (sets_of told.additionals) in
    let first : flat_map (λ set. g (in_section Answer set)) (sets_of told.answers) ≡ [] = flat_map-none (sets_of told.answers) in
    let last : flat_map (λ set. g (in_section Additional set)) (sets_of told.additionals) ≡ [] =
    flat_map-none (sets_of told.additionals) in
    flat_map-append g (one ++ two) three
    ∙ ap (λ xs. flat_map g (one ++ two) ++ xs) (flat_map-mapped g (in_section Additional) (sets_of told.additionals) ∙ last)
    ∙ append-nil (flat_map g (one ++ two)) ∙ flat_map-append g one two
    ∙ ap (λ xs. xs ++ flat_map g two) (flat_map-mapped g (in_section Answer) (sets_of told.answers) ∙ first)
    ∙ flat_map-mapped g (in_section Authority) (sets_of told.authorities)

-- signatures aside, they are the sets of the marked section
by_marked : (now : ℕ) (told : Told) (sets : List MarkedSet)
    → flat_map (λ set. said_marked now sets (in_section Authority set)) (sets_of told.authorities)
    ≡ flat_map (said_in Authority) (sets_of (marked_section now sets Authority told.authorities))
by_marked now told sets =
    let f = on_set (marked_first now sets Authority) in
    let g = said_in Authority in
    let marked = sets_of (marked_section now sets Authority told.authorities) in
    sym (flat_map-mapped g f (sets_of told.authorities)) ∙ sym (flat_map-mapped g unsigned (map f (sets_of told.authorities)))
    ∙ ap (flat_map g) (sym (sets_of-marked now sets Authority told.authorities)) ∙ flat_map-mapped g unsigned marked

pub same_denials : (now : ℕ) (told : Told) (sets : List MarkedSet) → map placed_of sets ≡ placed_sets told
    → hashed_denials sets ≡ secure_nsec3s (marked_section now sets Authority told.authorities)
same_denials now told sets grouped =
    by_placed now told sets grouped ∙ by_authority now told sets ∙ by_marked now told sets
    ∙ sym (flat_map-kept is_secure_nsec3_set said (sets_of (marked_section now sets Authority told.authorities)))
