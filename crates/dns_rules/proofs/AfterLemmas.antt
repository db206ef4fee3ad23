-- Lists whose elements change by themselves and what stands before them.
use Rattle.std.proofs.Common.{◌≡◌, suc, Bool, true, false, not, ◌&&◌, ◌==◌, cond, List, [], ◌∷◌, ◌++◌, map, length, refl, sym, ap, ◌∙◌}
use Rattle.std.specs.List.{filter, AllByRecursion}
use Rattle.std.proofs.lemmas.Bool.{not-true, and_parts}
use Rattle.std.proofs.lemmas.List.{append-nil, append_assoc}
use Rattle.dns_model.specs.Names.{name_eq}
use Rattle.dns_model.specs.Records.{Rr, RrSet}
use Rattle.dns_model.specs.Types.{type_rrsig}
use Rattle.dns_model.specs.Sections.{is_signature, same_set, leaders, unsigned_part, set_of, sets_of}
use Rattle.dns_model.proofs.EachLemmas.{each_more, each_passes, map_agree, map-map}
use Rattle.dns_model.proofs.SetLemmas.{KeepsKey, number_same, each_leader}
use Rattle.dns_rules.specs.Marking.{map_after}
use Rattle.dns_model.specs.Paired.{ArePaired}

-- ---- elements by what stands before them

-- one more element at the end
pub after-push : {X Y : Type 0} (f : List X → X → Y) (before xs : List X) (x : X)
    → map_after f before (xs ++ x ∷ []) ≡ map_after f before xs ++ f (before ++ xs) x ∷ []
unfolding map_after
after-push f before [] x = ap (λ b. f b x ∷ []) (sym (append-nil before))
after-push f before (y ∷ xs) x =
    ap (λ zs. f before y ∷ zs)
    (after-push f (before ++ y ∷ []) xs x ∙ ap (λ b. map_after f (before ++ y ∷ []) xs ++ f b x ∷ []) (append_assoc before (y ∷ []) xs))

pub length-after : {X Y : Type 0} (f : List X → X → Y) (before xs : List X) → length (map_after f before xs) ≡ length xs
unfolding map_after
length-after f before [] = refl
length-after f before (x ∷ xs) = ap suc (length-after f (before ++ x ∷ []) xs)

-- ---- what passes a test that the place doesn't matter to

pass_step : {Y : Type 0} (b c : Bool) (y z : Y) (ys zs : List Y) → b ≡ c → (c ≡ true → y ≡ z) → ys ≡ zs
    → cond b (y ∷ ys) ys ≡ cond c (z ∷ zs) zs
pass_step true true y z ys zs same e rest = ap (λ v. v ∷ ys) (e refl) ∙ ap (λ vs. z ∷ vs) rest
pass_step true false y z ys zs same e rest = cc
pass_step false true y z ys zs same e rest = cc
pass_step false false y z ys zs same e rest = rest

pub filter-after : {X Y : Type 0} (p : Y → Bool) (f : List X → X → Y) (g : X → Y) → ((b : List X) (x : X) → p (f b x) ≡ p (g x))
    → ((b : List X) (x : X) → p (g x) ≡ true → f b x ≡ g x) → (before xs : List X) → filter p (map_after f before xs) ≡ filter p (map g xs)
unfolding map_after
filter-after p f g tests same before [] = refl
filter-after p f g tests same before (x ∷ xs) =
    pass_step (p (f before x)) (p (g x)) (f before x) (g x) (filter p (map_after f (before ++ x ∷ []) xs)) (filter p (map g xs))
    (tests before x) (same before x) (filter-after p f g tests same (before ++ x ∷ []) xs)

-- ---- the sets of a section

-- a set without its signatures
abbrev pub unsigned : RrSet → RrSet
unsigned set = record set { signatures = [] }

-- a change of records that keeps what they are, and that looks at what stands before signatures alone
pub record IsPlainChange (f : List Rr → Rr → Rr) : Type 0 where
  pub keeps : (before : List Rr) → KeepsKey (f before)
  pub plain : (before : List Rr) (r : Rr) → is_signature r ≡ false → f before r ≡ f [] r

-- a test on the key of records that no signature passes
pub record IsPlainTest (p : Rr → Bool) : Type 0 where
  pub same : (f : Rr → Rr) → KeepsKey f → (r : Rr) → p (f r) ≡ p r
  pub plain : (r : Rr) → p r ≡ true → is_signature r ≡ false

pub plain-after : (p : Rr → Bool) (f : List Rr → Rr → Rr) → IsPlainTest p → IsPlainChange f → (records : List Rr)
    → filter p (map_after f [] records) ≡ filter p (map (f []) records)
plain-after p f test change records =
    filter-after p f (f []) (λ b r. test.same (f b) (change.keeps b) r ∙ sym (test.same (f []) (change.keeps []) r))
    (λ b r h. change.plain b r (test.plain r (sym (test.same (f []) (change.keeps []) r) ∙ h))) [] records

unsigned_test : IsPlainTest (λ r. not (is_signature r))
unsigned_test = record {
  same = λ f keeps r. ap (λ k. not (k == type_rrsig)) (keeps.rtype r);
  plain = λ r h. not-true (is_signature r) h;
}

set_test : (l : Rr) → is_signature l ≡ false → IsPlainTest (same_set l)
set_test l plain = record {
  same = λ f keeps r. ap (λ o. name_eq l.owner o && (l.rtype == (f r).rtype)) (keeps.owner r)
      ∙ ap (λ k. name_eq l.owner r.owner && (l.rtype == k)) (keeps.rtype r);
  plain = λ r h. ap (λ k. k == type_rrsig)
      (sym (number_same l.rtype r.rtype (and_parts (name_eq l.owner r.owner) (l.rtype == r.rtype) h).1)) ∙ plain;
}

unsigned_set_of : (f : List Rr → Rr → Rr) → IsPlainChange f → (records : List Rr) (l : Rr) → is_signature l ≡ false
    → unsigned (set_of (map_after f [] records) l) ≡ unsigned (set_of (map (f []) records) l)
unsigned_set_of f change records l plain =
    ap (λ rs. record (unsigned (set_of [] l)) { records = rs }) (plain-after (same_set l) f (set_test l plain) change records)

-- the sets, signatures aside, are those of the records changed one by one
pub unsigned_sets : (f : List Rr → Rr → Rr) → IsPlainChange f → (records : List Rr)
    → map unsigned (sets_of (map_after f [] records)) ≡ map unsigned (sets_of (map (f []) records))
unfolding sets_of
unsigned_sets f change records =
    let ys = map_after f [] records in
    let zs = map (f []) records in
    let plain = λ (r : Rr). not (is_signature r) in
    let ls = leaders (unsigned_part zs) in
    let P = λ (l : Rr). unsigned (set_of ys l) ≡ unsigned (set_of zs l) in
    map-map unsigned (set_of ys) (leaders (unsigned_part ys))
    ∙ ap (λ rs. map (λ l. unsigned (set_of ys l)) (leaders rs)) (plain-after plain f unsigned_test change records)
    ∙ map_agree (λ l. unsigned (set_of ys l)) (λ l. unsigned (set_of zs l)) ls
    (each_more (λ l. plain l ≡ true) P (λ l h. unsigned_set_of f change records l (not-true (is_signature l) h)) ls
    (each_leader (λ l. plain l ≡ true) (unsigned_part zs) (each_passes plain zs)))
    ∙ sym (map-map unsigned (set_of zs) ls)

-- ---- what holds of each element

-- each told record is kept, where each one is behind those before it
pub kept_after : (Kept : Rr → Rr → Type 0) (f : List Rr → Rr → Rr) (g : Rr → Rr) (whole before ts : List Rr) → before ++ map g ts ≡ whole
    → ((b rest : List Rr) (t : Rr) → b ++ g t ∷ rest ≡ whole → Kept t (f b (g t))) → ArePaired Kept ts (map_after f before (map g ts))
unfolding map_after
kept_after Kept f g whole before [] split h = tt
kept_after Kept f g whole before (t ∷ ts) split h = (
  h before (map g ts) t split,
  kept_after Kept f g whole (before ++ g t ∷ []) ts (append_assoc before (g t ∷ []) (map g ts) ∙ split) h,
)

pub each_after : (P : Rr → Type 0) (f : List Rr → Rr → Rr) (whole before rs : List Rr) → before ++ rs ≡ whole
    → ((b rest : List Rr) (r : Rr) → b ++ r ∷ rest ≡ whole → P (f b r)) → AllByRecursion P (map_after f before rs)
unfolding map_after
each_after P f whole before [] split h = tt
each_after P f whole before (r ∷ rs) split h =
    (h before rs r split, each_after P f whole (before ++ r ∷ []) rs (append_assoc before (r ∷ []) rs ∙ split) h)
