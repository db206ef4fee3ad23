-- The records that were queried are Secure where their set is.
use Rattle.std.proofs.Common.{◌≡◌, inl, inr, ℕ, Bool, true, false, not, ◌==◌, cond, List, [], ◌∷◌, ◌++◌, Option, None, Some, refl, sym, ap, ◌∙◌, if◌then◌else◌}
use Rattle.std.specs.Prelude.{◌&&◌, ◌||◌}
use Rattle.std.specs.Option.{option_map_or}
use Rattle.std.specs.List.{find, list_any, list_all, AllByRecursion}
use Rattle.std.proofs.lemmas.Bool.{and_from, and_left, and_right, or_left, or_right}
use Rattle.dns_model.specs.declared.section.Section.TheVariants.{Answer}
use Rattle.dns_model.specs.Names.{name_eq}
use Rattle.dns_model.specs.Types.{type_rrsig}
use Rattle.dns_model.specs.Views.{rrsig_in}
use Rattle.dns_model.specs.Records.{Rr, RrSet, Question}
use Rattle.dns_model.specs.Sections.{is_signature}
use Rattle.dns_model.specs.Chains.{Judge}
use Rattle.dns_model.specs.SoundAnswers.{Told, section_eq, is_secure, set_rtype}
use Rattle.dns_model.proofs.SetLemmas.{name_back, name_trans, number_same, number_refl, number_back}
use Rattle.dns_rules.specs.MarkedSets.{MarkedSet}
use Rattle.dns_rules.specs.Marking.{cleared, is_about, signature_place, adjusted_ttl, marked, map_after, marked_section}
use Rattle.dns_laws.specs.Straight.{is_queried}
use Rattle.dns_laws.specs.Complete.{shows_secure}
use Rattle.dns_laws.proofs.StraightLemmas.{is_other, IsQueried, IsPlain, OfReply, IsOneSet}
use Rattle.dns_laws.proofs.SignedEntryLemmas.{IsSecureSet}
use Rattle.dns_model.proofs.ViewSteps.{covered_rtype}

-- ---- lists

-- a test that the changes keep
pub any_after : (test : Rr → Bool) (f : List Rr → Rr → Rr) → ((b : List Rr) (r : Rr) → test (f b r) ≡ test r) → (before rs : List Rr)
    → list_any test (map_after f before rs) ≡ list_any test rs
unfolding map_after
any_after test f same before [] = refl
any_after test f same before (r ∷ rs) =
    ap (λ b. b || list_any test (map_after f (before ++ r ∷ []) rs)) (same before r)
    ∙ ap (λ b. test r || b) (any_after test f same (before ++ r ∷ []) rs)

all_after : (P : Rr → Type 0) (test : Rr → Bool) (f : List Rr → Rr → Rr) → ((b : List Rr) (r : Rr) → P r → test (f b r) ≡ true)
    → (before rs : List Rr) → AllByRecursion P rs → list_all test (map_after f before rs) ≡ true
unfolding map_after
all_after P test f passes before [] each = refl
all_after P test f passes before (r ∷ rs) each =
    and_from (test (f before r)) (list_all test (map_after f (before ++ r ∷ []) rs)) (passes before r each.0)
    (all_after P test f passes (before ++ r ∷ []) rs each.1)

-- ---- one record

if_same : (q : Question) (b : Bool) (r s t : Rr) → is_queried q s ≡ is_queried q r → is_queried q t ≡ is_queried q r
    → is_queried q (if b then s else t) ≡ is_queried q r
if_same q true r s t one two = one
if_same q false r s t one two = two

or_same : (q : Question) (f : MarkedSet → Rr) (o : Option MarkedSet) (r s : Rr)
    → ((judged : MarkedSet) → is_queried q (f judged) ≡ is_queried q r)
    → is_queried q s ≡ is_queried q r → is_queried q (option_map_or f o s) ≡ is_queried q r
or_same q f None r s some none = none
or_same q f (Some judged) r s some none = some judged

-- a mark changes nothing of what was queried
marked_queried : (q : Question) (now : ℕ) (sets : List MarkedSet) (before : List Rr) (r : Rr)
    → is_queried q (marked now sets Answer before r) ≡ is_queried q r
unfolding marked
marked_queried q now sets before r =
    or_same q
    (λ judged.
    if is_signature r && not (option_map_or (λ n. n == signature_place before r) judged.sig false)
    then cleared r
    else record r { proof = judged.mark; ttl = adjusted_ttl now judged r })
    (find (is_about Answer r) sets) r (cleared r)
    (λ judged. if_same q (is_signature r && not (option_map_or (λ n. n == signature_place before r) judged.sig false)) r (cleared r)
    (record r { proof = judged.mark; ttl = adjusted_ttl now judged r }) refl refl)
    refl

about_queried : (j : Judge) (q : Question) (told : Told) (set : RrSet) (judged : MarkedSet) (r : Rr) → IsOneSet j q told set
    → IsSecureSet set judged → IsQueried q r
    → is_about Answer r judged ≡ true
about_queried j q told set judged r one secure of =
    let kind : set_rtype r ≡ r.rtype = ap (λ b. if b then covered_rtype (rrsig_in r.rdata) r.rtype else r.rtype) of.plain in
    and_from (section_eq judged.section Answer) (name_eq judged.set.owner r.owner && (judged.set.rtype == set_rtype r))
    (ap (λ s. section_eq s Answer) secure.section)
    (and_from (name_eq judged.set.owner r.owner) (judged.set.rtype == set_rtype r)
    (ap (λ s. name_eq s.owner r.owner) secure.is ∙ name_trans set.owner q.owner r.owner (name_back q.owner set.owner one.owner) of.owner)
    (ap (λ s. s.rtype == set_rtype r) secure.is ∙ ap (λ k. set.rtype == k) (kind ∙ of.rtype ∙ sym one.rtype) ∙ number_refl set.rtype))

queried_secure : (j : Judge) (q : Question) (told : Told) (set : RrSet) (judged : MarkedSet) (now : ℕ) (before : List Rr) (r : Rr)
    → IsOneSet j q told set
    → IsSecureSet set judged → IsQueried q r → is_secure (marked now (judged ∷ []) Answer before r).proof ≡ true
unfolding marked
queried_secure j q told set judged now before r one secure of =
    let other = λ (s : MarkedSet). is_signature r && not (option_map_or (λ n. n == signature_place before r) s.sig false) in
    let by = λ (s : MarkedSet). if other s then cleared r else record r { proof = s.mark; ttl = adjusted_ttl now s r } in
    let found : find (is_about Answer r) (judged ∷ []) ≡ Some judged =
    ap (λ b. cond b (Some judged) None) (about_queried j q told set judged r one secure of) in
    let plain : other judged ≡ false =
    and_left (is_signature r) (not (option_map_or (λ n. n == signature_place before r) judged.sig false)) of.plain in
    ap (λ o. is_secure (option_map_or by o (cleared r)).proof) found
    ∙ ap (λ b. is_secure (if b then cleared r else record r { proof = judged.mark; ttl = adjusted_ttl now judged r }).proof) plain
    ∙ ap is_secure secure.mark

signature_unqueried : (q : Question) (r : Rr) → is_other q ≡ false → IsPlain q r → is_queried q r ≡ false
signature_unqueried q r other plain =
    and_right (name_eq q.owner r.owner) ((r.rtype == q.rtype) && (r.class == q.class))
    (and_left (r.rtype == q.rtype) (r.class == q.class)
    (ap (λ t. t == q.rtype) (number_same r.rtype type_rrsig plain.signature) ∙ number_back type_rrsig q.rtype ∙ other))

record_secure : (j : Judge) (q : Question) (told : Told) (set : RrSet) (judged : MarkedSet) (now : ℕ) (before : List Rr) (r : Rr)
    → is_other q ≡ false
    → IsOneSet j q told set → IsSecureSet set judged → OfReply q r
    → (not (is_queried q (marked now (judged ∷ []) Answer before r)) || is_secure (marked now (judged ∷ []) Answer before r).proof) ≡ true
record_secure j q told set judged now before r other one secure (inl of) =
    or_right (not (is_queried q (marked now (judged ∷ []) Answer before r))) (is_secure (marked now (judged ∷ []) Answer before r).proof)
    (queried_secure j q told set judged now before r one secure of)
record_secure j q told set judged now before r other one secure (inr plain) =
    or_left (not (is_queried q (marked now (judged ∷ []) Answer before r))) (is_secure (marked now (judged ∷ []) Answer before r).proof)
    (ap not (marked_queried q now (judged ∷ []) before r ∙ signature_unqueried q r other plain))

-- ---- the section

pub secure_records : (j : Judge) (q : Question) (told : Told) (set : RrSet) (judged : MarkedSet) (now : ℕ) → is_other q ≡ false
    → IsOneSet j q told set
    → IsSecureSet set judged → shows_secure q (marked_section now (judged ∷ []) Answer told.answers) ≡ true
secure_records j q told set judged now other one secure =
    let mark = marked now (judged ∷ []) Answer in
    let answers = marked_section now (judged ∷ []) Answer told.answers in
    let test = λ (r : Rr). not (is_queried q r) || is_secure r.proof in
    and_from (list_any (is_queried q) answers) (list_all test answers)
    (any_after (is_queried q) mark (marked_queried q now (judged ∷ [])) [] told.answers ∙ one.any)
    (all_after (OfReply q) test mark (λ before r of. record_secure j q told set judged now before r other one secure of) []
    told.answers one.each)
