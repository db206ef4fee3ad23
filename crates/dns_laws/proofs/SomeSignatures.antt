-- Where an answer denies something there is a Secure signature over NSEC or NSEC3 records by the zone that made it; where it was expanded, there is one
-- with the labels of the wildcard.
use Rattle.std.proofs.Common.{◌≡◌, ℕ, Bool, true, false, ◌==◌, ◌&&◌, ◌||◌, cond, min, arith, List, [], ◌∷◌, map, Option, None, Some, refl, sym, ap, ◌∙◌, true≢false}
use Rattle.std.specs.Option.{option_map, option_map_or, option_and_then}
use Rattle.std.specs.List.{filter, filter_map, cons_option, list_any, list_all, AllByRecursion}
use Rattle.std.proofs.Math.Logic.{⊎_elim}
use Rattle.std.proofs.lemmas.Bool.{and_parts, and_from, or_cases, or_right}
use Rattle.std.proofs.lemmas.Bool.Decides.{nat_tests}
use Rattle.dns_model.specs.declared.answered.Answered.TheVariants.{No, Expanded}
use Rattle.dns_model.specs.declared.section.Section.TheVariants.{Answer, Authority}
use Rattle.dns_model.specs.Names.{Labels, name_eq}
use Rattle.dns_model.specs.Types.{type_cname}
use Rattle.dns_model.specs.Views.{RrsigValue}
use Rattle.dns_model.specs.Records.{Rr, Question}
use Rattle.dns_model.specs.RecordViews.{rrsig_of}
use Rattle.dns_model.specs.Sections.{is_signature}
use Rattle.dns_model.specs.SoundAnswers.{Told, placed_sets, section_of, section_eq, is_secure, set_rtype}
use Rattle.dns_model.proofs.EachLemmas.{each_both}
use Rattle.dns_model.proofs.SetLemmas.{name_trans, number_refl, number_same, section_same}
use Rattle.dns_rules.specs.MarkedSets.{MarkedSet, placed_of, decider}
use Rattle.dns_rules.specs.Marking.{marked_section}
use Rattle.dns_rules.specs.Denying.{is_denying_as, denying_as}
use Rattle.dns_rules.specs.Outcome.{has_answer, is_wildcard_signature, is_expanded_answer, is_expanded_for, decider_labels, least, answered_from, answered, is_made_by}
use Rattle.dns_rules.proofs.FindLemmas.{each_all}
use Rattle.dns_rules.proofs.Members.{picked_known}
use Rattle.dns_rules.proofs.MarkedLemmas.{IsKnown, each_known}
use Rattle.dns_laws.specs.OwnDenials.{signs_as, has_signer, is_expansion, has_labels}
use Rattle.dns_laws.proofs.RecordDenials.{kept_parts, denying_parts}
use Rattle.dns_laws.proofs.DecidingRecords.{some_decider}

-- ---- lists

-- what is known of each element that is kept
pub each_kept : {X : Type 0} (Q : X → Type 0) (p : X → Bool) (xs : List X) → AllByRecursion Q (filter p xs)
    → AllByRecursion (λ x. p x ≡ true → Q x) xs
each_kept Q p [] h = tt
each_kept Q p (x ∷ xs) h = let parts = kept_parts Q (p x) x (filter p xs) h in (parts.0, each_kept Q p xs parts.1)

-- ---- the zone that made the denials

signer_same : (apex : Labels) (o : Option RrsigValue)
    → option_map_or (name_eq apex) (option_map (λ sig. sig.signer) o) false ≡ option_map_or (λ sig. name_eq apex sig.signer) o false
signer_same apex None = refl
signer_same apex (Some sig) = refl

pub signed_by : (apex : Labels) (s : MarkedSet) (r : Rr) → decider s ≡ Some r → is_made_by apex s ≡ has_signer apex r
signed_by apex s r decides =
    ap (λ o. option_map_or (name_eq apex) (option_map (λ sig. sig.signer) (option_and_then rrsig_of o)) false) decides
    ∙ signer_same apex (rrsig_of r)

-- the signature that decided a set that a zone made
record IsSigned (apex : Labels) (s : MarkedSet) : Type 0 where
  by : Rr
  decides : decider s ≡ Some by
  signer : has_signer apex by ≡ true

signed_step : (apex : Labels) (s : MarkedSet) (o : Option Rr) → decider s ≡ o → is_made_by apex s ≡ true
    → IsSigned apex s
signed_step apex s None is h =
    absurd (true≢false (sym h
    ∙ ap (λ o. option_map_or (name_eq apex) (option_map (λ sig. sig.signer) (option_and_then rrsig_of o)) false) is))
signed_step apex s (Some r) is h = record { by = r; decides = is; signer = sym (signed_by apex s r is) ∙ h }

-- it is marked Secure, where the set denies
signed_set : (rtype now : ℕ) (told : Told) (sets : List MarkedSet) (apex : Labels) (s : MarkedSet)
    → IsKnown told sets s → is_denying_as rtype s ≡ true → is_made_by apex s ≡ true
    → list_any (λ r. signs_as rtype r && has_signer apex r) (marked_section now sets Authority told.authorities) ≡ true
signed_set rtype now told sets apex s known denies made =
    let p = λ (r : Rr). signs_as rtype r && has_signer apex r in
    let d = denying_parts rtype s denies in
    let signed = signed_step apex s (decider s) refl made in
    ap (λ section. list_any p (marked_section now sets section (section_of told section))) (section_same Authority s.section d.section)
    ∙ some_decider p now told sets s signed.by known signed.decides (λ about signs.
    and_from (is_secure s.mark && (is_signature signed.by && (set_rtype signed.by == rtype))) (has_signer apex signed.by)
    (and_from (is_secure s.mark) (is_signature signed.by && (set_rtype signed.by == rtype)) d.secure
    (and_from (is_signature signed.by) (set_rtype signed.by == rtype) signs (ap (λ t. t == rtype) (sym about.rtype) ∙ d.rtype)))
    signed.signer)

pub signed_by_zone : (rtype now : ℕ) (told : Told) (sets : List MarkedSet) (apex : Labels)
    → map placed_of sets ≡ placed_sets told
    → list_any (is_denying_as rtype) sets ≡ true → list_all (is_made_by apex) (denying_as rtype sets) ≡ true
    → list_any (λ r. signs_as rtype r && has_signer apex r) (marked_section now sets Authority told.authorities) ≡ true
signed_by_zone rtype now told sets apex grouped some made =
    let Known = IsKnown told sets in
    let Made = λ (s : MarkedSet). is_denying_as rtype s ≡ true → is_made_by apex s ≡ true in
    let each = each_kept (λ s. is_made_by apex s ≡ true) (is_denying_as rtype) sets
    (each_all (is_made_by apex) (λ s. is_made_by apex s ≡ true) (λ s is. is) (denying_as rtype sets) made) in
    let one = picked_known (is_denying_as rtype) (λ s. Known s × Made s) sets
    (each_both Known Made sets (each_known told sets grouped) each) some in
    signed_set rtype now told sets apex one.it one.known.0 one.passes (one.known.1 one.passes)

-- ---- the labels of an expansion

pub labels_are : (answer : Bool) (o : Option ℕ) (labels : ℕ) → cond answer (answered_from o) No ≡ Expanded labels
    → o ≡ Some labels
labels_are true None labels h = cc
labels_are true (Some n) labels h = let same : n ≡ labels = cc in ap Some same
labels_are false o labels h = cc

min_one : (n k : ℕ) → ((min n k == n) || (min n k == k)) ≡ true
min_one n k = grind (arith, nat_tests)

least_case : (n : ℕ) (ns : List ℕ) (labels : ℕ) (o : Option ℕ) → Some (option_map_or (min n) o n) ≡ Some labels
    → ((k : ℕ) → o ≡ Some k → list_any (λ m. k == m) ns ≡ true)
    → ((labels == n) || list_any (λ m. labels == m) ns) ≡ true
least_case n ns labels None h later =
    let same : n ≡ labels = cc in
    ap (λ l. (l == n) || list_any (λ m. l == m) ns) (sym same) ∙ ap (λ b. b || list_any (λ m. n == m) ns) (number_refl n)
least_case n ns labels (Some k) h later =
    let same : min n k ≡ labels = cc in
    ap (λ l. (l == n) || list_any (λ m. l == m) ns) (sym same)
    ∙ ⊎_elim (λ (e : (min n k == n) ≡ true). ap (λ b. b || list_any (λ m. min n k == m) ns) e)
    (λ (e : (min n k == k) ≡ true).
    or_right (min n k == n) (list_any (λ m. min n k == m) ns)
    (ap (λ l. list_any (λ m. l == m) ns) (number_same (min n k) k e) ∙ later k refl))
    (or_cases (min n k == n) (min n k == k) (min_one n k))

-- the least of numbers is one of them
least_there : (ns : List ℕ) (labels : ℕ) → least ns ≡ Some labels → list_any (λ m. labels == m) ns ≡ true
unfolding least
least_there [] labels h = cc
least_there (n ∷ ns) labels h = least_case n ns labels (least ns) h (λ k is. least_there ns k is)

or_more : (a b c : Bool) → (a || b) ≡ true → (b ≡ true → c ≡ true) → (a || c) ≡ true
or_more true b c h more = refl
or_more false b c h more = more h

given_step : (t : ℕ → Bool) (o : Option ℕ) (ns : List ℕ) (rest : Bool) → list_any t (cons_option o ns) ≡ true
    → (list_any t ns ≡ true → rest ≡ true)
    → (option_map_or t o false || rest) ≡ true
given_step t None ns rest h more = more h
given_step t (Some n) ns rest h more = or_more (t n) (list_any t ns) rest h more

keep_step : {X : Type 0} (g : X → Option ℕ) (t : ℕ → Bool) (b : Bool) (x : X) (ys : List X) (rest : Bool)
    → list_any t (filter_map g (cond b (x ∷ ys) ys)) ≡ true → (list_any t (filter_map g ys) ≡ true → rest ≡ true)
    → ((b && option_map_or t (g x) false) || rest) ≡ true
keep_step g t true x ys rest h more = given_step t (g x) (filter_map g ys) rest h more
keep_step g t false x ys rest h more = more h

-- what one of the kept elements gives passes
any_given : {X : Type 0} (p : X → Bool) (g : X → Option ℕ) (t : ℕ → Bool) (xs : List X)
    → list_any t (filter_map g (filter p xs)) ≡ true
    → list_any (λ x. p x && option_map_or t (g x) false) xs ≡ true
any_given p g t [] h = h
any_given p g t (x ∷ xs) h =
    keep_step g t (p x) x (filter p xs) (list_any (λ y. p y && option_map_or t (g y) false) xs) h (any_given p g t xs)

-- the signature that decided a set, expanded, with so many labels
record IsLabelled (labels : ℕ) (s : MarkedSet) : Type 0 where
  by : Rr
  decides : decider s ≡ Some by
  wild : is_wildcard_signature by ≡ true
  has : has_labels labels by ≡ true

given_labels : (labels : ℕ) (o : Option RrsigValue)
    → option_map_or (λ m. labels == m) (option_map (λ sig. sig.labels) o) false ≡ true
    → option_map_or (λ sig. labels == sig.labels) o false ≡ true
given_labels labels None h = h
given_labels labels (Some sig) h = h

labelled_step : (labels : ℕ) (s : MarkedSet) (o : Option Rr) → decider s ≡ o
    → option_map_or is_wildcard_signature o false ≡ true
    → option_map_or (λ m. labels == m) (option_map (λ sig. sig.labels) (option_and_then rrsig_of o)) false ≡ true
    → IsLabelled labels s
labelled_step labels s None is wild has = cc
labelled_step labels s (Some r) is wild has = record { by = r; decides = is; wild = wild; has = given_labels labels (rrsig_of r) has }

-- it is marked Secure
labelled_set : (now : ℕ) (q : Question) (told : Told) (sets : List MarkedSet) (labels : ℕ) (s : MarkedSet)
    → IsKnown told sets s
    → is_expanded_for q s ≡ true → option_map_or (λ m. labels == m) (decider_labels s) false ≡ true
    → list_any (λ r. is_expansion q r && has_labels labels r) (marked_section now sets Answer told.answers) ≡ true
labelled_set now q told sets labels s known expanded has =
    let p = λ (r : Rr). is_expansion q r && has_labels labels r in
    let wild = option_map_or is_wildcard_signature (decider s) false in
    let kind = (s.set.rtype == q.rtype) || (s.set.rtype == type_cname) in
    let one = and_parts (is_expanded_answer s) (name_eq q.owner s.set.owner && kind) expanded in
    let two = and_parts (section_eq Answer s.section) (is_secure s.mark && wild) one.0 in
    let three = and_parts (is_secure s.mark) wild two.1 in
    let four = and_parts (name_eq q.owner s.set.owner) kind one.1 in
    let l = labelled_step labels s (decider s) refl three.1 has in
    let r = l.by in
    let same = (set_rtype r == q.rtype) || (set_rtype r == type_cname) in
    ap (λ section. list_any p (marked_section now sets section (section_of told section))) (section_same Answer s.section two.0)
    ∙ some_decider p now told sets s r known l.decides (λ about signs.
    and_from (is_secure s.mark && (is_signature r && (name_eq q.owner r.owner && (same && is_wildcard_signature r)))) (has_labels labels r)
    (and_from (is_secure s.mark) (is_signature r && (name_eq q.owner r.owner && (same && is_wildcard_signature r))) three.0
    (and_from (is_signature r) (name_eq q.owner r.owner && (same && is_wildcard_signature r)) signs
    (and_from (name_eq q.owner r.owner) (same && is_wildcard_signature r) (name_trans q.owner s.set.owner r.owner four.0 about.owner)
    (and_from same (is_wildcard_signature r) (ap (λ t. (t == q.rtype) || (t == type_cname)) (sym about.rtype) ∙ four.1) l.wild))))
    l.has)

pub some_labels : (now : ℕ) (q : Question) (told : Told) (sets : List MarkedSet) (labels : ℕ)
    → map placed_of sets ≡ placed_sets told
    → answered q told sets ≡ Expanded labels
    → list_any (λ r. is_expansion q r && has_labels labels r) (marked_section now sets Answer told.answers) ≡ true
unfolding answered
some_labels now q told sets labels grouped is =
    let has = λ (s : MarkedSet). option_map_or (λ m. labels == m) (decider_labels s) false in
    let numbers = filter_map decider_labels (filter (is_expanded_for q) sets) in
    let some =
    any_given (is_expanded_for q) decider_labels (λ m. labels == m) sets
    (least_there numbers labels (labels_are (has_answer q told) (least numbers) labels is)) in
    let one = picked_known (λ s. is_expanded_for q s && has s) (IsKnown told sets) sets (each_known told sets grouped) some in
    let parts = and_parts (is_expanded_for q one.it) (has one.it) one.passes in
    labelled_set now q told sets labels one.it one.known parts.0 parts.1
