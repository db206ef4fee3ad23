-- What a verdict on NSEC3 records rests on: their parameters, the names that they match and cover, and the closest
-- encloser.
use Rattle.std.proofs.Common.{◌≡◌, ℕ, ◌+◌, ◌-◌, Bool, true, false, cond, not, ◌==◌, ◌&&◌, ◌||◌, List, [], ◌∷◌, ◌++◌, length, Option, None, Some, refl, sym, ap, ◌∙◌, subst, arith, length-append}
use Rattle.std.specs.Prelude.{nat_eq, nat_lt}
use Rattle.std.specs.Cmp.Lexicographic.{pointwise}
use Rattle.std.specs.List.{find, list_all, AllByRecursion}
use Rattle.std.proofs.lemmas.Bool.{and_parts, and_from, or_left, or_right}
use Rattle.std.proofs.lemmas.Bool.Decides.{nat_tests}
use Rattle.std.proofs.lemmas.List.{drop_at}
use Rattle.std.proofs.lemmas.Slice.Eq.{bytes_eq-Decides}
use Rattle.dns_model.specs.Names.{Label, Labels, name_eq, at_or_above, strictly_above, parent, star}
use Rattle.dns_model.specs.Types.{type_ds, code_nx_domain, can_deny}
use Rattle.dns_model.specs.Records.{Question}
use Rattle.dns_model.specs.Owned.{OwnedNsec3}
use Rattle.dns_model.specs.declared.proof.Proof.{Proof}
use Rattle.dns_model.specs.declared.proof.Proof.TheVariants.{Secure, Insecure, Bogus}
use Rattle.dns_model.specs.declared.answered.Answered.{Answered}
use Rattle.dns_model.proofs.EachLemmas.{find_known}
use Rattle.dns_model.proofs.NameLemmas.{name_equiv}
use Rattle.dns_model.proofs.AboveLemmas.{Ends, above_alike, above_itself, above_trans, above_one_more, strictly_parts, strictly_made}
use Rattle.dns_model.proofs.CommonAncestors.{ends_above}
use Rattle.dns_model.proofs.TestLemmas.{if_some}
use Rattle.dns_rules.specs.ListedTypes.{is_unanswered, ends_zone}
use Rattle.dns_rules.specs.NsecVerdict.{holds_query, is_plain}
use Rattle.dns_rules.specs.Nsec3Covering.{is_considered, is_opt_out, owner_hash, nsec3_matches, nsec3_spans, is_nearest, counts_for, nsec3_covering}
use Rattle.dns_rules.specs.Nsec3Verdict.{Parameters, parameters_in, has_parameters, is_shared, if_shared, parameters_of, is_of_zone, hashed, or_further, nearest_match, unless_ended, provable_encloser, next_closer, covering_name, verdict_at_name, verdict_by, nsec3_verdict}
use Rattle.dns_rules.specs.Zones.{Zone, exists_in, is_zone}
use Rattle.dns_rules.proofs.Members.{after_not}
use Rattle.dns_hashed_denial.specs.HashedZones.{is_light, is_concerned, is_toward}
use Rattle.dns_hashed_denial.specs.HashedDenial.{IsTrueFor, IfCounting, IsShownByHashes, is_opted_out}
use Rattle.dns_hashed_denial.proofs.FoundMembers.{found}
use Rattle.dns_hashed_denial.proofs.TrueRecords.{covers_light_alone, IsListed, listed_by, open_listed}
use Rattle.dns_hashed_denial.proofs.BelowEnclosers.{IsEnclosed}

abbrev from_some : {X : Type 0} → X → Option X → X
from_some x None = x
from_some x (Some y) = y

-- ---- parameters

record HaveParameters (nsec3s : List OwnedNsec3) (by : Parameters) : Type 0 where
  pub first : OwnedNsec3
  pub is_first : find is_considered nsec3s ≡ Some first
  pub shared : is_shared nsec3s by ≡ true

shared_by : (nsec3s : List OwnedNsec3) (by : Parameters) (first : Option OwnedNsec3) → find is_considered nsec3s ≡ first
    → if_shared nsec3s first ≡ Some by → HaveParameters nsec3s by
shared_by nsec3s by None e h = cc
shared_by nsec3s by (Some first) e h =
    let parts = if_some (is_shared nsec3s (parameters_in first)) (Some (parameters_in first)) by h in
    let same = ap (from_some (parameters_in first)) parts.1 in
    record { first = first; is_first = e; shared = ap (is_shared nsec3s) (sym same) ∙ parts.0 }

have_parameters : (nsec3s : List OwnedNsec3) (by : Parameters) → parameters_of nsec3s ≡ Some by
    → HaveParameters nsec3s by
have_parameters nsec3s by h = shared_by nsec3s by (find is_considered nsec3s) refl h

parameters_are : (by : Parameters) (nsec3 : OwnedNsec3) → has_parameters by nsec3 ≡ true → parameters_in nsec3 ≡ by
parameters_are by nsec3 h =
    let parts = and_parts (pointwise nat_eq nsec3.fields.salt by.salt) (nsec3.fields.iterations == by.iterations) h in
    let salts = bytes_eq-Decides nsec3.fields.salt by.salt in
    let salt : nsec3.fields.salt ≡ by.salt = salts.0 parts.0 in
    let iterations : nsec3.fields.iterations ≡ by.iterations = grind (arith, nat_tests, parts.1) in
    let with_salt : List ℕ → Parameters = λ s. record { salt = s; iterations = nsec3.fields.iterations } in
    let with_both : ℕ → Parameters = λ n. record { salt = by.salt; iterations = n } in
    ap with_salt salt ∙ ap with_both iterations

-- each record that counts is true by the parameters that all of them have
true_by : (zone : Zone) (name : Labels) (by : Parameters) (nsec3s : List OwnedNsec3) → is_shared nsec3s by ≡ true
    → AllByRecursion (IfCounting zone name) nsec3s
    → AllByRecursion (λ r. is_considered r ≡ true → IsTrueFor zone name by r) nsec3s
true_by zone name by [] shared each = tt
true_by zone name by (nsec3 ∷ nsec3s) shared each =
    let parts = and_parts (not (is_considered nsec3) || has_parameters by nsec3) (is_shared nsec3s by) shared in (
      λ counts. subst (λ p. IsTrueFor zone name p nsec3)
          (parameters_are by nsec3 (after_not (is_considered nsec3) (has_parameters by nsec3) counts parts.0))
          (each.0 counts),
      true_by zone name by nsec3s parts.1 each.1,
    )

-- ---- the records of a zone that are hashed in one way

-- records of this apex, with these parameters; those that count are true of the zone
pub record IsHashedBy (nsec3s : List OwnedNsec3) (about : Labels) (zone : Zone) (by : Parameters) : Type 0 where
  pub formed : is_zone zone ≡ true
  pub shared : is_shared nsec3s by ≡ true
  pub each : AllByRecursion (λ r. is_considered r ≡ true → IsTrueFor zone about by r) nsec3s

pub hashed_by : (nsec3s : List OwnedNsec3) (about : Labels) (zone : Zone) (by : Parameters)
    → IsShownByHashes nsec3s about zone
    → parameters_of nsec3s ≡ Some by → IsHashedBy nsec3s about zone by
hashed_by nsec3s about zone by shown h =
    let have = have_parameters nsec3s by h in
    record { formed = shown.formed; shared = have.shared; each = true_by zone about by nsec3s have.shared shown.each }

-- the apex is that of the zone, since a true record stands right below that
pub apex_is : (nsec3s : List OwnedNsec3) (about apex : Labels) (zone : Zone) (by : Parameters)
    → IsShownByHashes nsec3s about zone
    → parameters_of nsec3s ≡ Some by → list_all (is_of_zone apex) nsec3s ≡ true → name_eq zone.apex apex ≡ true
apex_is nsec3s about apex zone by shown h all =
    let have = have_parameters nsec3s by h in
    let t = find_known is_considered (IfCounting zone about) nsec3s have.first shown.each have.is_first in
    let place = (t.known t.passes).is_true.place in
    let of_zone = (found is_considered nsec3s have.first have.is_first).known.all (is_of_zone apex) all in
    sym (name_equiv.congr (parent have.first.owner) zone.apex apex place) ∙ of_zone

-- ---- a record that matches

pub matched : (nsec3s : List OwnedNsec3) (about name : Labels) (zone : Zone) (by : Parameters) (nsec3 : OwnedNsec3)
    → IsHashedBy nsec3s about zone by
    → is_concerned zone about name ≡ true → IsTrueFor zone about by nsec3 → nsec3_matches (hashed by name) nsec3 ≡ true
    → IsListed zone name nsec3.fields.types
matched nsec3s about name zone by nsec3 s concerned t matching =
    let parts = and_parts (is_considered nsec3) (pointwise nat_eq (owner_hash nsec3) (hashed by name)) matching in
    let decides = bytes_eq-Decides (owner_hash nsec3) (hashed by name) in
    listed_by (hashed by) zone about name nsec3 s.formed t.apart t.is_true concerned (decides.0 parts.1)

-- the first one of those
pub first_matched : (nsec3s : List OwnedNsec3) (about name : Labels) (zone : Zone) (by : Parameters)
    (nsec3 : OwnedNsec3)
    → IsHashedBy nsec3s about zone by → is_concerned zone about name ≡ true
    → find (nsec3_matches (hashed by name)) nsec3s ≡ Some nsec3
    → IsListed zone name nsec3.fields.types
first_matched nsec3s about name zone by nsec3 s concerned h =
    let f = find_known (nsec3_matches (hashed by name)) (λ r. is_considered r ≡ true
    → IsTrueFor zone about by r) nsec3s nsec3 s.each h in
    let counts = (and_parts (is_considered nsec3) (pointwise nat_eq (owner_hash nsec3) (hashed by name)) f.passes).0 in
    matched nsec3s about name zone by nsec3 s concerned (f.known counts) f.passes

-- ---- a record that covers

-- the name is missing, or light and opted out
pub record IsCoveredIn (nsec3s : List OwnedNsec3) (zone : Zone) (name : Labels) (nsec3 : OwnedNsec3) : Type 0 where
  pub light : exists_in zone name ≡ true → (is_opt_out nsec3 ≡ true) × (is_light zone name ≡ true)
  pub opted_out : is_opt_out nsec3 ≡ true → is_opted_out nsec3s name ≡ true

pub covered : (nsec3s : List OwnedNsec3) (about name : Labels) (zone : Zone) (by : Parameters) (nsec3 : OwnedNsec3)
    → IsHashedBy nsec3s about zone by
    → covering_name by nsec3s name ≡ Some nsec3 → IsCoveredIn nsec3s zone name nsec3
unfolding nsec3_covering
covered nsec3s about name zone by nsec3 s h =
    let hash = hashed by name in
    let f = find_known (counts_for hash nsec3s) (λ r. is_considered r ≡ true
    → IsTrueFor zone about by r) nsec3s nsec3 s.each h in
    let member = (found (counts_for hash nsec3s) nsec3s nsec3 h).known in
    let spanned = (and_parts (nsec3_spans hash nsec3) (is_nearest hash nsec3s nsec3) f.passes).0 in
    let counts = (and_parts (is_considered nsec3) _ spanned).0 in
    let own = parameters_are by nsec3 (after_not (is_considered nsec3) (has_parameters by nsec3) counts
    (member.all (λ r. not (is_considered r) || has_parameters by r) s.shared)) in
    record {
      light = λ there. covers_light_alone (hashed by) zone nsec3 name (f.known counts).is_true there spanned;
      opted_out = λ flag. member.any (λ r. is_opt_out r && nsec3_spans (hashed (parameters_in r) name) r)
          (and_from (is_opt_out nsec3) (nsec3_spans (hashed (parameters_in nsec3) name) nsec3) flag
          (ap (λ p. nsec3_spans (hashed p name) nsec3) own ∙ spanned));
    }

-- ---- the closest encloser

record IsNearest (by : Parameters) (apex : Labels) (nsec3s : List OwnedNsec3) (name above : Labels)
    (nsec3 : OwnedNsec3) : Type 0 where
  pub label : Label
  pub ends : Ends (label ∷ above) name
  pub inside : at_or_above apex above ≡ true
  pub is_first : find (nsec3_matches (hashed by above)) nsec3s ≡ Some nsec3

nearest_step : (by : Parameters) (apex : Labels) (nsec3s : List OwnedNsec3) (label : Label) (rest above : Labels)
    (nsec3 : OwnedNsec3) (b : Bool)
    (o : Option OwnedNsec3) → at_or_above apex rest ≡ b → find (nsec3_matches (hashed by rest)) nsec3s ≡ o
    → (nearest_match by apex nsec3s rest ≡ Some (above, nsec3) → IsNearest by apex nsec3s rest above nsec3)
    → cond (not b) None (or_further rest o (nearest_match by apex nsec3s rest)) ≡ Some (above, nsec3)
    → IsNearest by apex nsec3s (label ∷ rest) above nsec3
nearest_step by apex nsec3s label rest above nsec3 false o inside e later h = cc
nearest_step by apex nsec3s label rest above nsec3 true None inside e later h =
    let n = later h in
    record {
      label = n.label;
      ends = record { front = label ∷ n.ends.front; whole = ap (λ (l : Labels). label ∷ l) n.ends.whole };
      inside = n.inside;
      is_first = n.is_first;
    }
nearest_step by apex nsec3s label rest above nsec3 true (Some first) inside e later h =
    let both : ◌≡◌ {A = Labels × OwnedNsec3} (rest, first) (above, nsec3) = ap (from_some (rest, first)) h in
    let same : rest ≡ above = ap (λ p. p.0) both in
    let own : first ≡ nsec3 = ap (λ p. p.1) both in
    record {
      label = label;
      ends = record { front = []; whole = ap (λ (l : Labels). label ∷ l) same };
      inside = ap (at_or_above apex) (sym same) ∙ inside;
      is_first = ap (λ (l : Labels). find (nsec3_matches (hashed by l)) nsec3s) (sym same) ∙ e ∙ ap Some own;
    }

nearest : (by : Parameters) (apex : Labels) (nsec3s : List OwnedNsec3) (name above : Labels) (nsec3 : OwnedNsec3)
    → nearest_match by apex nsec3s name ≡ Some (above, nsec3) → IsNearest by apex nsec3s name above nsec3
unfolding nearest_match
nearest by apex nsec3s [] above nsec3 h = cc
nearest by apex nsec3s (label ∷ rest) above nsec3 h =
    nearest_step by apex nsec3s label rest above nsec3 (at_or_above apex rest)
    (find (nsec3_matches (hashed by rest)) nsec3s) refl refl
    (nearest by apex nsec3s rest above nsec3) h

record IsProvable (by : Parameters) (apex : Labels) (nsec3s : List OwnedNsec3) (name encloser : Labels) : Type 0 where
  pub nsec3 : OwnedNsec3
  pub near : IsNearest by apex nsec3s name encloser nsec3
  pub goes_on : ends_zone nsec3.fields.types ≡ false

provable_step : (by : Parameters) (apex : Labels) (nsec3s : List OwnedNsec3) (name above encloser : Labels)
    (nsec3 : OwnedNsec3) (b : Bool)
    → ends_zone nsec3.fields.types ≡ b → IsNearest by apex nsec3s name above nsec3
    → ◌≡◌ {A = Option Labels} (cond b None (Some above)) (Some encloser) → IsProvable by apex nsec3s name encloser
provable_step by apex nsec3s name above encloser nsec3 true e n h = cc
provable_step by apex nsec3s name above encloser nsec3 false e n h =
    let same : above ≡ encloser = ap (from_some above) h in
    record { nsec3 = nsec3; near = subst (λ (l : Labels). IsNearest by apex nsec3s name l nsec3) same n; goes_on = e }

provable_by : (by : Parameters) (apex : Labels) (nsec3s : List OwnedNsec3) (name encloser : Labels)
    (o : Option (Labels × OwnedNsec3))
    → nearest_match by apex nsec3s name ≡ o → unless_ended o ≡ Some encloser → IsProvable by apex nsec3s name encloser
provable_by by apex nsec3s name encloser None e h = cc
provable_by by apex nsec3s name encloser (Some (above, nsec3)) e h =
    provable_step by apex nsec3s name above encloser nsec3 (ends_zone nsec3.fields.types) refl
    (nearest by apex nsec3s name above nsec3 e) h

-- the closest encloser that the records prove is one of the name in the zone
pub record IsProvedEncloser (by : Parameters) (zone : Zone) (nsec3s : List OwnedNsec3)
    (name encloser : Labels) : Type 0 where
  pub label : Label
  pub enclosed : IsEnclosed zone name encloser label
  pub closer : next_closer encloser name ≡ label ∷ encloser

next_closer_is : (front : Labels) (label : Label) (encloser : Labels)
    → next_closer encloser (front ++ (label ∷ encloser)) ≡ label ∷ encloser
next_closer_is front label encloser =
    drop_at front (label ∷ encloser) (length (front ++ (label ∷ encloser)) - (length encloser + 1))
    (omega (arith, length-append front (label ∷ encloser)))

-- an ancestor of the name, up to the apex
pub toward_concerned : (zone : Zone) (about name : Labels) → at_or_above zone.apex name ≡ true
    → at_or_above name about ≡ true
    → is_concerned zone about name ≡ true
unfolding is_concerned
toward_concerned zone about name inside above =
    or_right (exists_in zone name) _
    (or_left (is_toward zone about name) _
    (and_from (at_or_above zone.apex name) (at_or_above name about) inside above))

-- the wildcard right below one
pub star_concerned : (zone : Zone) (about name : Labels) → at_or_above zone.apex name ≡ true
    → at_or_above name about ≡ true
    → is_concerned zone about (star name) ≡ true
unfolding is_concerned
star_concerned zone about name inside above =
    or_right (exists_in zone (star name)) _ (or_right (is_toward zone about (star name)) _
    (and_from (at_or_above zone.apex name) (at_or_above name about) inside above))

pub proved_encloser : (by : Parameters) (apex : Labels) (zone : Zone) (nsec3s : List OwnedNsec3)
    (name encloser : Labels) → IsHashedBy nsec3s name zone by
    → name_eq zone.apex apex ≡ true → provable_encloser by apex nsec3s name ≡ Some encloser
    → IsProvedEncloser by zone nsec3s name encloser
proved_encloser by apex zone nsec3s name encloser s same h =
    let p = provable_by by apex nsec3s name encloser (nearest_match by apex nsec3s name) refl h in
    let inside = above_alike apex zone.apex encloser (name_equiv.symm apex zone.apex ∙ same) p.near.inside in
    let above = above_trans encloser (p.near.label ∷ encloser) name
    (above_one_more encloser p.near.label encloser (above_itself encloser))
    (ends_above (p.near.label ∷ encloser) name p.near.ends) in
    let listed = first_matched nsec3s name encloser zone by p.nsec3 s
    (toward_concerned zone name encloser inside above) p.near.is_first in
    record {
      label = p.near.label;
      enclosed = record {
        ends = p.near.ends;
        inside = inside;
        there = listed.there;
        goes_on = open_listed zone encloser p.nsec3.fields.types s.formed listed p.goes_on;
      };
      closer = ap (next_closer encloser) p.near.ends.whole ∙ next_closer_is p.near.ends.front p.near.label encloser;
    }

-- ---- the zone holds the query

holds_by : (b : Bool) (one two name : Labels) → name_eq one two ≡ true
    → cond b (strictly_above two name) (at_or_above two name) ≡ true
    → cond b (strictly_above one name) (at_or_above one name) ≡ true
holds_by false one two name same h = above_alike two one name (name_equiv.symm two one ∙ same) h
holds_by true one two name same h =
    let parts = strictly_parts two name h in
    strictly_made one name (above_alike two one name (name_equiv.symm two one ∙ same) parts.0)
    (name_equiv.congr one two name same ∙ parts.1)

pub holds_in : (zone : Zone) (apex : Labels) (query : Question) → name_eq zone.apex apex ≡ true
    → holds_query apex query ≡ true
    → holds_query zone.apex query ≡ true
holds_in zone apex query same h = holds_by (query.rtype == type_ds) zone.apex apex query.owner same h

inside_by : (b : Bool) (apex name : Labels) → cond b (strictly_above apex name) (at_or_above apex name) ≡ true
    → at_or_above apex name ≡ true
inside_by false apex name h = h
inside_by true apex name h = (strictly_parts apex name h).0

pub held_inside : (apex : Labels) (query : Question) → holds_query apex query ≡ true
    → at_or_above apex query.owner ≡ true
held_inside apex query h = inside_by (query.rtype == type_ds) apex query.owner h

-- ---- a Secure verdict

unless_bogus : (b : Bool) (rest : Proof) → cond (not b) Bogus rest ≡ Secure → (b ≡ true) × (rest ≡ Secure)
unless_bogus true rest h = (refl, h)
unless_bogus false rest h = cc

if_bogus : (b : Bool) (rest : Proof) → cond b Bogus rest ≡ Secure → (b ≡ false) × (rest ≡ Secure)
if_bogus true rest h = cc
if_bogus false rest h = (refl, h)

if_insecure : (b : Bool) (rest : Proof) → cond b Insecure rest ≡ Secure → rest ≡ Secure
if_insecure true rest h = cc
if_insecure false rest h = h

-- what came before its last rows
pub record IsJudged (query : Question) (apex : Labels) (code : ℕ) (answered : Answered)
    (nsec3s : List OwnedNsec3) : Type 0 where
  pub by : Parameters
  pub parameters : parameters_of nsec3s ≡ Some by
  pub holds : holds_query apex query ≡ true
  pub of_zone : list_all (is_of_zone apex) nsec3s ≡ true
  pub deny : can_deny code ≡ true
  pub secure : verdict_at_name by query apex code answered nsec3s (find (nsec3_matches (hashed by query.owner)) nsec3s)
      ≡ Secure

judged_by : (query : Question) (apex : Labels) (code : ℕ) (answered : Answered) (nsec3s : List OwnedNsec3)
    (soft hard : ℕ) (o : Option Parameters)
    → parameters_of nsec3s ≡ o → holds_query apex query ≡ true → list_all (is_of_zone apex) nsec3s ≡ true
    → verdict_by query apex code answered nsec3s soft hard o ≡ Secure → IsJudged query apex code answered nsec3s
judged_by query apex code answered nsec3s soft hard None e holds all h = cc
judged_by query apex code answered nsec3s soft hard (Some by) e holds all h =
    let last = verdict_at_name by query apex code answered nsec3s (find (nsec3_matches (hashed by query.owner)) nsec3s) in
    let named = cond ((code == code_nx_domain) && not (is_unanswered answered)) Bogus last in
    let plain = cond (is_plain answered) Bogus named in
    let coded = cond (not (can_deny code)) Bogus plain in
    let softly = cond (nat_lt soft by.iterations) Insecure coded in
    let one = if_bogus (nat_lt hard by.iterations) softly h in
    let two = if_insecure (nat_lt soft by.iterations) coded one.1 in
    let three = unless_bogus (can_deny code) plain two in
    let four = if_bogus (is_plain answered) named three.1 in
    let five = if_bogus ((code == code_nx_domain) && not (is_unanswered answered)) last four.1 in
    record { by = by; parameters = e; holds = holds; of_zone = all; deny = three.0; secure = five.1 }

pub judged : (query : Question) (apex : Labels) (code : ℕ) (answered : Answered) (nsec3s : List OwnedNsec3)
    (soft hard : ℕ)
    → nsec3_verdict query apex code answered nsec3s soft hard ≡ Secure → IsJudged query apex code answered nsec3s
unfolding nsec3_verdict
judged query apex code answered nsec3s soft hard h =
    let last = verdict_by query apex code answered nsec3s soft hard (parameters_of nsec3s) in
    let one = unless_bogus (holds_query apex query) (cond (not (list_all (is_of_zone apex) nsec3s)) Bogus last) h in
    let two = unless_bogus (list_all (is_of_zone apex) nsec3s) last one.1 in
    judged_by query apex code answered nsec3s soft hard (parameters_of nsec3s) refl one.0 two.0 two.1
