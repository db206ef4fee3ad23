-- What is authentic is proved: each set of the answer section has a chain, or the denial holds in every zone.
use Rattle.std.proofs.Common.{◌≡◌, ℕ, Bool, true, false, ◌&&◌, ◌||◌, List, [], ◌∷◌, ◌++◌, map, refl, sym, ap, ◌∙◌, subst, inl, inr}
use Rattle.std.specs.Prelude.{not, ◌==◌, ◌⊎◌}
use Rattle.std.specs.List.{filter, list_any, list_all, AllByRecursion}
use Rattle.std.proofs.lemmas.Bool.{and_parts}
use Rattle.std.proofs.lemmas.List.{append_assoc}
use Rattle.dns_model.specs.declared.denial.Denial.{Denial}
use Rattle.dns_model.specs.declared.denial.Denial.TheVariants as denial
use Rattle.dns_model.specs.declared.proof.Proof.TheVariants as proof
use Rattle.dns_model.specs.declared.section.Section.TheVariants.{Answer, Authority, Additional}
use Rattle.dns_model.specs.Chains.{Judge}
use Rattle.dns_model.specs.Paired.{ArePaired}
use Rattle.dns_model.specs.Records.{Rr, RrSet, Question}
use Rattle.dns_model.specs.Sections.{is_empty, is_signature, same_set, leaders, unsigned_part, set_of, sets_of}
use Rattle.dns_model.specs.SoundAnswers.{ResponseValue, Told, PlacedSet, Sound, IsChainOf, first_mark, in_section, is_secure, is_secure_set}
use Rattle.dns_model.specs.Types.{type_rrsig}
use Rattle.dns_model.proofs.EachLemmas.{each_more, each_of, each_both, each_filter, each_map, each_unmap}
use Rattle.dns_model.proofs.SetLemmas.{IsProper, is_of, number_same, proper_sets}
use Rattle.dns_forwarded.specs.Replies.{is_authentic, is_secure_answer, is_secure_absence, is_secure_denial}
use Rattle.dns_lookup.specs.LookupAnswers.{ShowsItsDenial}
use Rattle.dns_respond.specs.Authentic.{HasChain, HaveChains, IsProved, ByChains, ByDenial}

-- ---- each set is Secure

-- a record that is Secure, or a signature
abbrev IsCovered : Rr → Type 0
IsCovered r = (is_signature r || is_secure r.proof) ≡ true

each_covered : (section : List Rr) → list_all (λ r. is_signature r || is_secure r.proof) section ≡ true
    → AllByRecursion IsCovered section
each_covered [] h = tt
each_covered (r ∷ rs) h =
    let parts = and_parts (is_signature r || is_secure r.proof)
    (list_all (λ s. is_signature s || is_secure s.proof) rs) h in
    (parts.0, each_covered rs parts.1)

covered_sets : (section : List Rr) → AllByRecursion IsCovered section
    → AllByRecursion (λ set. AllByRecursion IsCovered set.records) (sets_of section)
unfolding sets_of
covered_sets section h =
    each_map (λ set. AllByRecursion IsCovered set.records) (set_of section) (leaders (unsigned_part section))
    (each_of (λ r. AllByRecursion IsCovered (filter (same_set r) section))
    (λ r. each_filter IsCovered (same_set r) section h)
    (leaders (unsigned_part section)))

head_secure : (set : RrSet) (r : Rr) → (set.rtype == type_rrsig) ≡ false → is_of set r ≡ true → IsCovered r
    → is_secure r.proof ≡ true
head_secure set r plain own covered =
    let same : set.rtype ≡ r.rtype = number_same set.rtype r.rtype (and_parts _ (set.rtype == r.rtype) own).1 in
    let no : is_signature r ≡ false = ap (λ (n : ℕ). n == type_rrsig) (sym same) ∙ plain in
    ap (λ (b : Bool). b || is_secure r.proof) (sym no) ∙ covered

secure_first : (set : RrSet) (records : List Rr) → set.records ≡ records → IsProper set
    → AllByRecursion IsCovered records
    → AllByRecursion (λ r. is_of set r ≡ true) records → is_secure (first_mark records) ≡ true
secure_first set [] is proper covered own = let listed = proper.listed in absurd cc
secure_first set (r ∷ rs) is proper covered own = head_secure set r proper.plain own.0 covered.0

secure_set : (set : RrSet) → IsProper set × AllByRecursion IsCovered set.records → is_secure_set set ≡ true
secure_set set h = secure_first set set.records refl h.0 h.1 h.0.own

each_secure : (section : List Rr) → list_all (λ r. is_signature r || is_secure r.proof) section ≡ true
    → AllByRecursion (λ set. is_secure_set set ≡ true) (sets_of section)
each_secure section h =
    each_more (λ set. IsProper set × AllByRecursion IsCovered set.records)
    (λ set. is_secure_set set ≡ true) secure_set (sets_of section)
    (each_both IsProper (λ set. AllByRecursion IsCovered set.records) (sets_of section) (proper_sets section)
    (covered_sets section (each_covered section h)))

-- ---- each has a chain

-- what is kept of the front, where all of it is, has a partner each
paired_front : {X Y : Type 0} (Related : X → Y → Type 0) (Found : Y → Type 0) (p : Y → Bool)
    → ((x : X) (y : Y) → Related x y → Found y)
    → (xs : List X) (ys zs : List Y) → AllByRecursion (λ y. p y ≡ true) ys → ArePaired Related xs (filter p (ys ++ zs))
    → AllByRecursion Found ys
paired_front Related Found p found xs [] zs all paired = tt
paired_front Related Found p found [] (y ∷ ys) zs all paired =
    let kept : filter p (y ∷ ys ++ zs) ≡ y ∷ filter p (ys ++ zs) = rw all.0 refl in
    absurd (subst (ArePaired Related []) kept paired)
paired_front Related Found p found (x ∷ xs) (y ∷ ys) zs all paired =
    let kept : filter p (y ∷ ys ++ zs) ≡ y ∷ filter p (ys ++ zs) = rw all.0 refl in
    let both : Related x y × ArePaired Related xs (filter p (ys ++ zs)) = subst
    (ArePaired Related (x ∷ xs)) kept paired in
    (found x y both.0, paired_front Related Found p found xs ys zs all.1 both.1)

chains_found : (j : Judge) (now : ℕ) (told : Told) (a : ResponseValue) → Sound j now told a
    → list_all (λ r. is_signature r || is_secure r.proof) a.message.answers ≡ true → HaveChains j a.message.answers
chains_found j now told a sound all =
    let one : List PlacedSet = map (in_section Answer) (sets_of a.message.answers) in
    let two : List PlacedSet = map (in_section Authority) (sets_of a.message.authorities) in
    let three : List PlacedSet = map (in_section Additional) (sets_of a.message.additionals) in
    let secure = λ (p : PlacedSet). is_secure_set p.set in
    let split : filter secure (one ++ two ++ three) ≡ filter secure (one ++ (two ++ three)) = ap (filter secure)
    (append_assoc one two three) in
    each_unmap (HasChain j) (in_section Answer) (sets_of a.message.answers)
    (paired_front (IsChainOf j) (HasChain j) secure
    (λ chain placed is. record { chain = chain; is = is }) a.chains one (two ++ three)
    (each_map (λ p. secure p ≡ true) (in_section Answer) (sets_of a.message.answers)
    (each_secure a.message.answers all))
    (subst (ArePaired (IsChainOf j) a.chains) split sound.chains))

-- ---- what is authentic

or_true : (a b : Bool) → (a || b) ≡ true → (a ≡ true) ⊎ (b ≡ true)
or_true true b h = inl refl
or_true false b h = inr h

nothing : (answers : List Rr) → is_empty answers ≡ true → answers ≡ []
nothing [] h = refl
nothing (r ∷ rs) h = absurd cc

absent : (d : Denial) → is_secure_absence d ≡ true → d ≡ denial.Absent proof.Secure
absent denial.None h = absurd cc
absent (denial.Expanded mark) h = absurd cc
absent (denial.Absent proof.Secure) h = refl
absent (denial.Absent proof.Insecure) h = absurd cc
absent (denial.Absent proof.Bogus) h = absurd cc
absent (denial.Absent proof.Indeterminate) h = absurd cc

by_cases : (j : Judge) (now : ℕ) (told : Told) (q : Question) (a : ResponseValue) → Sound j now told a
    → ShowsItsDenial now q a
    → (is_secure_answer q.rtype a.message ≡ true) ⊎ (is_secure_denial a.message.answers a.denial ≡ true)
    → IsProved j q a
by_cases j now told q a sound denies (inl h) =
    let code = and_parts _ _ h in
    let parts = and_parts (list_any (λ r. (r.rtype == q.rtype) && not (is_signature r)) a.message.answers) _ code.1 in
    ByChains parts.0 (chains_found j now told a sound parts.1)
by_cases j now told q a sound denies (inr h) =
    let parts = and_parts (is_empty a.message.answers) (is_secure_absence a.denial) h in
    ByDenial (nothing a.message.answers parts.0) (denies.own.absent (absent a.denial parts.1))

-- what is authentic is proved
pub authentic_proved : (j : Judge) (now : ℕ) (told : Told) (q : Question) (a : ResponseValue) → Sound j now told a
    → ShowsItsDenial now q a → is_authentic q a ≡ true → IsProved j q a
authentic_proved j now told q a sound denies h =
    by_cases j now told q a sound denies
    (or_true (is_secure_answer q.rtype a.message) (is_secure_denial a.message.answers a.denial) h)
