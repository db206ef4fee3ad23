-- The Secure signatures of an answer are those that decided its Secure sets; what it denies by its own records.
use Rattle.std.proofs.Common.{◌≡◌, ℕ, Bool, true, false, not, ◌==◌, ◌&&◌, ◌||◌, min, nat_le, arith, List, [], ◌∷◌, ◌++◌, map, Option, None, Some, IfSome, refl, sym, ap, ◌∙◌, subst}
use Rattle.std.specs.Option.{option_map, option_map_or, option_and_then}
use Rattle.std.specs.List.{filter, filter_map, find, list_any, list_all, AllByRecursion}
use Rattle.std.proofs.lemmas.Bool.{and_parts, and_from}
use Rattle.std.proofs.lemmas.Bool.Decides.{nat_tests}
use Rattle.dns_model.specs.declared.denial.Denial.{Denial}
use Rattle.dns_model.specs.declared.section.Section.{Section}
use Rattle.dns_model.specs.declared.section.Section.TheVariants.{Answer, Authority}
use Rattle.dns_model.specs.Names.{Labels, name_eq}
use Rattle.dns_model.specs.Types.{type_cname, type_nsec, type_nsec3}
use Rattle.dns_model.specs.Views.{RrsigValue}
use Rattle.dns_model.specs.Records.{Rr, Question}
use Rattle.dns_model.specs.RecordViews.{rrsig_of}
use Rattle.dns_model.specs.Sections.{is_signature}
use Rattle.dns_model.specs.SoundAnswers.{Told, placed_sets, section_of, section_eq, is_secure, set_rtype}
use Rattle.dns_model.proofs.EachLemmas.{each_more, find_known}
use Rattle.dns_model.proofs.SetLemmas.{KeepsKey, IsSignedIn, name_back, name_trans, signature-kept}
use Rattle.dns_model.specs.declared.answered.Answered.TheVariants.{Expanded}
use Rattle.dns_rules.specs.DenialInZones.{IsShownBy}
use Rattle.dns_rules.specs.Zones.{Zone, IsTrueNsec}
use Rattle.dns_rules.specs.MarkedSets.{MarkedSet, placed_of, decider}
use Rattle.dns_rules.specs.Marking.{is_about, marked, marked_section, marked_told}
use Rattle.dns_rules.specs.Denying.{is_denying_as, denying_as, denials}
use Rattle.dns_hashed_denial.specs.HashedDenial.{IsDeniedByHashes, IsExpandedByHashes}
use Rattle.dns_rules.specs.Outcome.{answers_query, has_answer, is_wildcard_signature, is_expanded_answer, is_expanded_for, decider_labels, least, answered, is_made_by}
use Rattle.dns_rules.proofs.DeciderLemmas.{decider_is}
use Rattle.dns_rules.proofs.FindLemmas.{each_all}
use Rattle.dns_rules.proofs.Members.{picked_known}
use Rattle.dns_rules.proofs.MarkedLemmas.{marked-keeps, IsAbout, about_parts, IsKnown, each_known, made_secure}
use Rattle.dns_rules.proofs.AfterLemmas.{each_after}
use Rattle.dns_laws.specs.Denials.{IsDenierAs, IsDeniedFor, IsExpandedFor, ShowsDenial}
use Rattle.dns_laws.specs.Denials as shown
use Rattle.dns_laws.proofs.GroundParts.{found_any}
use Rattle.dns_laws.specs.OwnDenials.{secure_nsecs, IsDenyingZone, IsDeniedByRecords, IsExpandedByRecords, signs_as, has_signer, is_expansion, has_labels_from, DeniesByRecords}
use Rattle.dns_laws.specs.OwnDenials as own
use Rattle.dns_laws.proofs.RecordDenials.{each_given, each_denial, some_denial}
use Rattle.dns_laws.proofs.HashedRecords.{same_denials}
use Rattle.dns_laws.proofs.SomeSignatures.{each_kept, signed_by, signed_by_zone, labels_are, some_labels}
use Rattle.dns_laws.proofs.SecureRecordLemmas.{any_after}

-- ---- lists

all_from : {X : Type 0} (p : X → Bool) (xs : List X) → AllByRecursion (λ x. p x ≡ true) xs → list_all p xs ≡ true
all_from p [] h = refl
all_from p (x ∷ xs) h = and_from (p x) (list_all p xs) h.0 (all_from p xs h.1)

if_then : (a b : Bool) → (a ≡ true → b ≡ true) → (not a || b) ≡ true
if_then true b h = h refl
if_then false b h = refl

-- ---- what marks leave of a record

read_kept : (f : Rr → Rr) → KeepsKey f → (r : Rr) → rrsig_of (f r) ≡ rrsig_of r
read_kept f k r = rw (k.rtype r, k.rdata r) refl

rtype_kept : (f : Rr → Rr) → KeepsKey f → (r : Rr) → set_rtype (f r) ≡ set_rtype r
rtype_kept f k r = rw (k.rtype r, k.rdata r) refl

wildcard_kept : (f : Rr → Rr) → KeepsKey f → (r : Rr) → is_wildcard_signature (f r) ≡ is_wildcard_signature r
wildcard_kept f k r = rw (k.owner r, k.rtype r, k.rdata r) refl

answers_kept : (f : Rr → Rr) → KeepsKey f → (q : Question) (r : Rr) → answers_query q (f r) ≡ answers_query q r
answers_kept f k q r = rw (k.owner r, k.rtype r) refl

same_answer : (now : ℕ) (q : Question) (told : Told) (sets : List MarkedSet)
    → has_answer q (marked_told now sets told) ≡ has_answer q told
same_answer now q told sets =
    any_after (answers_query q) (marked now sets Answer)
    (λ before r. answers_kept (marked now sets Answer before) (marked-keeps now sets Answer before) q r)
    [] told.answers

-- ---- the set that a Secure signature decided

record IsDecider (sets : List MarkedSet) (section : Section) (r : Rr) : Type 0 where
  set : MarkedSet
  found : find (is_about section r) sets ≡ Some set
  about : IsAbout section r set
  secure : is_secure set.mark ≡ true
  decides : decider set ≡ Some r

decided : (now : ℕ) (told : Told) (sets : List MarkedSet) (section : Section) (before rest : List Rr) (r : Rr)
    → map placed_of sets ≡ placed_sets told
    → before ++ r ∷ rest ≡ section_of told section → is_secure ((marked now sets section before r).proof) ≡ true
    → is_signature (marked now sets section before r) ≡ true → IsDecider sets section r
decided now told sets section before rest r grouped split secure signs =
    let made = made_secure now sets section before r secure in
    let known = find_known (is_about section r) (IsKnown told sets) sets made.set (each_known told sets grouped) made.found in
    let about = about_parts section r made.set known.passes in
    let signed = subst (λ x. IsSignedIn (section_of told x) made.set.set) about.section_is known.known.signed in
    let is = sym (signature-kept (marked now sets section before) (marked-keeps now sets section before) r) ∙ signs in
    record {
      set = made.set;
      found = made.found;
      about = about;
      secure = made.secure;
      decides = decider_is section (section_of told section) before rest r made.set known.known.proper signed about split made.decides is;
    }

-- ---- the zone that made the denials

made_step : (rtype now : ℕ) (told : Told) (sets : List MarkedSet) (apex : Labels) (before rest : List Rr) (r : Rr)
    → map placed_of sets ≡ placed_sets told
    → AllByRecursion (λ s. is_denying_as rtype s ≡ true → is_made_by apex s ≡ true) sets
    → before ++ r ∷ rest ≡ told.authorities
    → signs_as rtype (marked now sets Authority before r) ≡ true
    → has_signer apex (marked now sets Authority before r) ≡ true
made_step rtype now told sets apex before rest r grouped made split signs =
    let f = marked now sets Authority before in
    let k = marked-keeps now sets Authority before in
    let one = and_parts (is_secure (f r).proof) (is_signature (f r) && (set_rtype (f r) == rtype)) signs in
    let two = and_parts (is_signature (f r)) (set_rtype (f r) == rtype) one.1 in
    let d = decided now told sets Authority before rest r grouped split one.0 two.0 in
    let same : (d.set.set.rtype == rtype) ≡ true = ap (λ t. t == rtype) (d.about.rtype ∙ sym (rtype_kept f k r)) ∙ two.1 in
    let denies : is_denying_as rtype d.set ≡ true =
    and_from (section_eq Authority d.set.section) (is_secure d.set.mark && (d.set.set.rtype == rtype))
    (ap (section_eq Authority) d.about.section_is)
    (and_from (is_secure d.set.mark) (d.set.set.rtype == rtype) d.secure same) in
    let known = find_known (is_about Authority r) (λ s. is_denying_as rtype s ≡ true → is_made_by apex s ≡ true) sets d.set made d.found in
    ap (λ o. option_map_or (λ sig. name_eq apex sig.signer) o false) (read_kept f k r)
    ∙ sym (signed_by apex d.set r d.decides) ∙ known.known denies

made_by_zone : (rtype now : ℕ) (told : Told) (sets : List MarkedSet) (apex : Labels)
    → map placed_of sets ≡ placed_sets told
    → list_all (is_made_by apex) (denying_as rtype sets) ≡ true
    → list_all (λ r. not (signs_as rtype r) || has_signer apex r) (marked_section now sets Authority told.authorities) ≡ true
made_by_zone rtype now told sets apex grouped made =
    let test = λ (r : Rr). not (signs_as rtype r) || has_signer apex r in
    let each = each_kept (λ s. is_made_by apex s ≡ true) (is_denying_as rtype) sets
    (each_all (is_made_by apex) (λ s. is_made_by apex s ≡ true) (λ s is. is) (denying_as rtype sets) made) in
    all_from test (marked_section now sets Authority told.authorities)
    (each_after (λ r. test r ≡ true) (marked now sets Authority) told.authorities [] told.authorities refl
    (λ before rest r split.
    if_then (signs_as rtype (marked now sets Authority before r)) (has_signer apex (marked now sets Authority before r))
    (made_step rtype now told sets apex before rest r grouped each split)))

-- ---- an answer from a wildcard

-- the set that a Secure signature decided, and which was expanded by it
record IsExpandedBy (q : Question) (sets : List MarkedSet) (r : Rr) : Type 0 where
  set : MarkedSet
  found : find (is_about Answer r) sets ≡ Some set
  expanded : is_expanded_for q set ≡ true
  decides : decider set ≡ Some r
  wild : is_wildcard_signature r ≡ true

expanded_by : (now : ℕ) (q : Question) (told : Told) (sets : List MarkedSet) (before rest : List Rr) (r : Rr)
    → map placed_of sets ≡ placed_sets told
    → before ++ r ∷ rest ≡ told.answers → is_expansion q (marked now sets Answer before r) ≡ true
    → IsExpandedBy q sets r
expanded_by now q told sets before rest r grouped split h =
    let f = marked now sets Answer before in
    let k = marked-keeps now sets Answer before in
    let kind = (set_rtype (f r) == q.rtype) || (set_rtype (f r) == type_cname) in
    let wild = is_wildcard_signature (f r) in
    let one = and_parts (is_secure (f r).proof) (is_signature (f r) && (name_eq q.owner (f r).owner && (kind && wild))) h in
    let two = and_parts (is_signature (f r)) (name_eq q.owner (f r).owner && (kind && wild)) one.1 in
    let three = and_parts (name_eq q.owner (f r).owner) (kind && wild) two.1 in
    let four = and_parts kind wild three.1 in
    let d = decided now told sets Answer before rest r grouped split one.0 two.0 in
    let is_wild : is_wildcard_signature r ≡ true = sym (wildcard_kept f k r) ∙ four.1 in
    let owner : name_eq q.owner r.owner ≡ true = ap (name_eq q.owner) (sym (k.owner r)) ∙ three.0 in
    let same : ((d.set.set.rtype == q.rtype) || (d.set.set.rtype == type_cname)) ≡ true =
    ap (λ t. (t == q.rtype) || (t == type_cname)) (d.about.rtype ∙ sym (rtype_kept f k r)) ∙ four.0 in
    let by : option_map_or is_wildcard_signature (decider d.set) false ≡ true =
    ap (λ o. option_map_or is_wildcard_signature o false) d.decides ∙ is_wild in
    let answer : is_expanded_answer d.set ≡ true =
    and_from (section_eq Answer d.set.section) (is_secure d.set.mark && option_map_or is_wildcard_signature (decider d.set) false)
    (ap (section_eq Answer) d.about.section_is)
    (and_from (is_secure d.set.mark) (option_map_or is_wildcard_signature (decider d.set) false) d.secure by) in
    record {
      set = d.set;
      found = d.found;
      expanded = and_from (is_expanded_answer d.set) (name_eq q.owner d.set.set.owner
          && ((d.set.set.rtype == q.rtype) || (d.set.set.rtype == type_cname)))
          answer (and_from (name_eq q.owner d.set.set.owner) ((d.set.set.rtype == q.rtype) || (d.set.set.rtype == type_cname))
          (name_trans q.owner r.owner d.set.set.owner owner (name_back d.set.set.owner r.owner d.about.owner)) same);
      decides = d.decides;
      wild = is_wild;
    }

-- such a signature stands only where a set was expanded so
any_expansion : (now : ℕ) (q : Question) (told : Told) (sets : List MarkedSet) → map placed_of sets ≡ placed_sets told
    → list_any (is_expansion q) (marked_section now sets Answer told.answers) ≡ true
    → list_any (is_expanded_for q) sets ≡ true
any_expansion now q told sets grouped h =
    let Shows = λ (m : Rr). is_expansion q m ≡ true → list_any (is_expanded_for q) sets ≡ true in
    let each = each_after Shows (marked now sets Answer) told.answers [] told.answers refl
    (λ before rest r split is.
    let e = expanded_by now q told sets before rest r grouped split is in
    found_any (is_about Answer r) (is_expanded_for q) sets e.set e.found e.expanded) in
    let one = picked_known (is_expansion q) Shows (marked_section now sets Answer told.answers) each h in
    one.known one.passes

-- ---- its labels

least_none : (ns : List ℕ) → least ns ≡ None → ns ≡ []
unfolding least
least_none [] h = refl
least_none (n ∷ ns) h = cc

from_least : (n k : ℕ) → nat_le (min n k) n ≡ true
from_least n k = grind (arith, nat_tests)

from_both : (n k m : ℕ) → nat_le k m ≡ true → nat_le (min n k) m ≡ true
from_both n k m h = grind (arith, nat_tests)

from_itself : (n : ℕ) → nat_le n n ≡ true
from_itself n = grind (arith, nat_tests)

least_step : (n : ℕ) (ns : List ℕ) (labels : ℕ) (o : Option ℕ) → least ns ≡ o
    → Some (option_map_or (min n) o n) ≡ Some labels
    → ((k : ℕ) → o ≡ Some k → AllByRecursion (λ m. nat_le k m ≡ true) ns)
    → AllByRecursion (λ m. nat_le labels m ≡ true) (n ∷ ns)
least_step n ns labels None is h later =
    let same : n ≡ labels = cc in
    subst (λ l. AllByRecursion (λ m. nat_le l m ≡ true) (n ∷ ns)) same
    (subst (λ ms. AllByRecursion (λ m. nat_le n m ≡ true) (n ∷ ms)) (sym (least_none ns is)) (from_itself n, tt))
least_step n ns labels (Some k) is h later =
    let same : min n k ≡ labels = cc in
    subst (λ l. AllByRecursion (λ m. nat_le l m ≡ true) (n ∷ ns)) same
    (from_least n k, each_more (λ m. nat_le k m ≡ true) (λ m. nat_le (min n k) m ≡ true) (from_both n k) ns (later k refl))

-- the least of numbers is at most each
least_each : (ns : List ℕ) (labels : ℕ) → least ns ≡ Some labels → AllByRecursion (λ m. nat_le labels m ≡ true) ns
unfolding least
least_each [] labels h = cc
least_each (n ∷ ns) labels h = least_step n ns labels (least ns) refl h (λ k is. least_each ns k is)

-- each expanded set's decider has at least so many labels
each_labels : (q : Question) (told : Told) (sets : List MarkedSet) (labels : ℕ) → answered q told sets ≡ Expanded labels
    → AllByRecursion (λ s. is_expanded_for q s ≡ true → IfSome (decider_labels s) (λ m. nat_le labels m ≡ true)) sets
unfolding answered
each_labels q told sets labels h =
    let kept = filter (is_expanded_for q) sets in
    let numbers = filter_map decider_labels kept in
    each_kept (λ s. IfSome (decider_labels s) (λ m. nat_le labels m ≡ true)) (is_expanded_for q) sets
    (each_given (λ m. nat_le labels m ≡ true) decider_labels kept
    (least_each numbers labels (labels_are (has_answer q told) (least numbers) labels h)))

labels_step : (labels : ℕ) (wild : RrsigValue → Bool) (o : Option RrsigValue) → option_map_or wild o false ≡ true
    → IfSome (option_map (λ sig. sig.labels) o) (λ m. nat_le labels m ≡ true)
    → option_map_or (λ sig. nat_le labels sig.labels) o false ≡ true
labels_step labels wild None h from = cc
labels_step labels wild (Some sig) h from = from

fewest_step : (now : ℕ) (q : Question) (told : Told) (sets : List MarkedSet) (labels : ℕ) (before rest : List Rr)
    (r : Rr)
    → map placed_of sets ≡ placed_sets told
    → AllByRecursion (λ s. is_expanded_for q s ≡ true → IfSome (decider_labels s) (λ m. nat_le labels m ≡ true)) sets
    → before ++ r ∷ rest ≡ told.answers → is_expansion q (marked now sets Answer before r) ≡ true
    → has_labels_from labels (marked now sets Answer before r) ≡ true
fewest_step now q told sets labels before rest r grouped each split h =
    let f = marked now sets Answer before in
    let k = marked-keeps now sets Answer before in
    let e = expanded_by now q told sets before rest r grouped split h in
    let Has = λ (s : MarkedSet). is_expanded_for q s ≡ true → IfSome (decider_labels s) (λ m. nat_le labels m ≡ true) in
    let known = find_known (is_about Answer r) Has sets e.set each e.found in
    let from = subst (λ o. IfSome (option_map (λ sig. sig.labels) (option_and_then rrsig_of o)) (λ m. nat_le labels m ≡ true))
    e.decides (known.known e.expanded) in
    ap (λ o. option_map_or (λ sig. nat_le labels sig.labels) o false) (read_kept f k r) ∙ labels_step labels _ (rrsig_of r) e.wild from

fewest_labels : (now : ℕ) (q : Question) (told : Told) (sets : List MarkedSet) (labels : ℕ)
    → map placed_of sets ≡ placed_sets told
    → answered q told sets ≡ Expanded labels
    → list_all (λ r. not (is_expansion q r) || has_labels_from labels r) (marked_section now sets Answer told.answers) ≡ true
fewest_labels now q told sets labels grouped is =
    let test = λ (r : Rr). not (is_expansion q r) || has_labels_from labels r in
    all_from test (marked_section now sets Answer told.answers)
    (each_after (λ r. test r ≡ true) (marked now sets Answer) told.answers [] told.answers refl
    (λ before rest r split.
    if_then (is_expansion q (marked now sets Answer before r)) (has_labels_from labels (marked now sets Answer before r))
    (fewest_step now q told sets labels before rest r grouped (each_labels q told sets labels is) split)))

-- ---- what is denied

zone_denies : (rtype now : ℕ) (q : Question) (told : Told) (sets : List MarkedSet) (apex : Labels)
    → map placed_of sets ≡ placed_sets told
    → IsDenierAs rtype q sets apex → IsDenyingZone rtype q (marked_section now sets Authority told.authorities) apex
zone_denies rtype now q told sets apex grouped denier = record {
  holds = denier.holds;
  some = some_denial rtype now told sets grouped denier.some;
  signed = signed_by_zone rtype now told sets apex grouped denier.some denier.made;
  made = made_by_zone rtype now told sets apex grouped denier.made;
}

shown_too : (now : ℕ) (told : Told) (sets : List MarkedSet) (apex : Labels) (zone : Zone)
    → map placed_of sets ≡ placed_sets told
    → IsShownBy (secure_nsecs (marked_section now sets Authority told.authorities)) apex zone
    → IsShownBy (denials sets) apex zone
shown_too now told sets apex zone grouped is_shown = record {
  formed = is_shown.formed;
  apex_is = is_shown.apex_is;
  each_true = each_denial (IsTrueNsec zone) now told sets grouped is_shown.each_true;
}

denied_by_records : (now : ℕ) (q : Question) (told : Told) (sets : List MarkedSet) (apex : Labels)
    → map placed_of sets ≡ placed_sets told
    → IsDeniedFor q told.code sets apex → IsDeniedByRecords q (marked_told now sets told) apex
denied_by_records now q told sets apex grouped (shown.AbsentByNsec denier holds) =
    own.AbsentByNsec (zone_denies type_nsec now q told sets apex grouped denier)
    (λ data_type zone is_shown. holds data_type zone (shown_too now told sets apex zone grouped is_shown))
denied_by_records now q told sets apex grouped (shown.AbsentByNsec3 denier holds) =
    own.AbsentByNsec3 (zone_denies type_nsec3 now q told sets apex grouped denier)
    (subst (IsDeniedByHashes q apex told.code) (same_denials now told sets grouped) holds)

expanded_by_records : (now : ℕ) (q : Question) (labels : ℕ) (told : Told) (sets : List MarkedSet) (apex : Labels)
    → map placed_of sets ≡ placed_sets told
    → IsExpandedFor q labels sets apex → IsExpandedByRecords q labels (marked_told now sets told) apex
expanded_by_records now q labels told sets apex grouped (shown.ExpandedByNsec denier holds) =
    own.ExpandedByNsec (zone_denies type_nsec now q told sets apex grouped denier)
    (λ data_type zone is_shown. holds data_type zone (shown_too now told sets apex zone grouped is_shown))
expanded_by_records now q labels told sets apex grouped (shown.ExpandedByNsec3 denier holds) =
    own.ExpandedByNsec3 (zone_denies type_nsec3 now q told sets apex grouped denier)
    (subst (IsExpandedByHashes q labels) (same_denials now told sets grouped) holds)

-- what the sets of a message show is shown by its records, as the sets leave them
pub denies_by_records : (now : ℕ) (q : Question) (told : Told) (sets : List MarkedSet) (d : Denial)
    → map placed_of sets ≡ placed_sets told
    → ShowsDenial q told sets d → DeniesByRecords q (marked_told now sets told) d
denies_by_records now q told sets d grouped shows = record {
  unanswered = λ mark e. same_answer now q told sets ∙ shows.unanswered mark e;
  absent = λ e.
      let s = shows.absent e in
      record {
        unanswered = same_answer now q told sets ∙ s.unanswered;
        apex = s.apex;
        denied = denied_by_records now q told sets s.apex grouped s.denied;
      };
  expanded = λ e.
      let s = shows.expanded e in
      record {
        labels = s.labels;
        some = some_labels now q told sets s.labels grouped s.expanded;
        fewest = fewest_labels now q told sets s.labels grouped s.expanded;
        apex = s.apex;
        denied = expanded_by_records now q s.labels told sets s.apex grouped s.denied;
      };
  denied = λ any. shows.denied (any_expansion now q told sets grouped any);
}
