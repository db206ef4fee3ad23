-- A reply with one record and its signature, in the section of answers: how a step begins with it, and how it ends.
use Rattle.std.proofs.Common.{◌≡◌, ℕ, ◌+◌, true, false, ◌==◌, List, [], ◌∷◌, ◌++◌, map, length, None, Some, refl, ap, ◌∙◌, arith, if◌then◌else◌, nat_lt}
use Rattle.std.specs.Prelude.{◌&&◌}
use Rattle.std.specs.List.{find}
use Rattle.std.proofs.lemmas.Bool.{and_left, and_right}
use Rattle.std.proofs.lemmas.Bool.Decides.{nat_tests}
use Rattle.std.proofs.lemmas.List.{length_push}
use Rattle.dns_model.specs.declared.denial.Denial.TheVariants as denial
use Rattle.dns_model.specs.declared.proof.Proof.TheVariants.{Secure}
use Rattle.dns_model.specs.declared.section.Section.TheVariants.{Answer, Authority, Additional}
use Rattle.dns_model.specs.Names.{Labels, name_eq, num_labels}
use Rattle.dns_model.specs.Types.{class_in, type_rrsig, type_nsec, type_dnskey, type_nsec3}
use Rattle.dns_model.specs.Views.{RrsigValue, rrsig_in}
use Rattle.dns_model.specs.Records.{Rr, RrSet, Question, question_eq}
use Rattle.dns_model.specs.Sections.{leaders, sets_of}
use Rattle.dns_model.specs.Chains.{Judge, signer_fits}
use Rattle.dns_model.specs.SoundAnswers.{Told, PlacedSet, in_section}
use Rattle.dns_model.proofs.SetLemmas.{name_refl, number_refl}
use Rattle.dns_rules.specs.Asking.{Limits, is_judged_at, judged_at, judged_part}
use Rattle.dns_rules.specs.ChainedSets.{ChainedSet, chained_verdict, signed_chain}
use Rattle.dns_rules.specs.Marks.{Proved, key_question, counted_keys, is_key_set_of, verdict_of, judged_by}
use Rattle.dns_rules.specs.MarkedSets.{MarkedSet}
use Rattle.dns_rules.specs.Outcome.{outcome_of, foreign_record}
use Rattle.dns_rules.specs.Outcome as outcome
use Rattle.dns_rules.specs.Validity.{is_good_by}
use Rattle.dns_flow.specs.Phases.{Answer as Got, Marked, Trying, Asks, judged_ask, start_set, try_from, turn, after}
use Rattle.dns_bench_zones.specs.NestedZones.{record_of}

-- a reply with these records, all in the section of answers
abbrev pub answered : List Rr → Told
answered answers = record { code = 0; answers = answers; authorities = []; additionals = [] }

-- ---- the pair

pub record Pair : Type 0 where
  pub owner : Labels
  pub rtype : ℕ
  pub rdata : List ℕ
  pub text : List ℕ
  pub sig : RrsigValue

abbrev pub first_of : Pair → Rr
first_of p = record_of p.owner p.rtype p.rdata

abbrev pub signature_of : Pair → Rr
signature_of p = record_of p.owner type_rrsig p.text

abbrev pub told_of : Pair → Told
told_of p = answered (first_of p ∷ signature_of p ∷ [])

abbrev pub question_for : Pair → Question
question_for p = record { owner = p.owner; rtype = p.rtype; class = class_in }

abbrev pub pair_set : Pair → RrSet
pair_set p = record {
  owner = p.owner;
  rtype = p.rtype;
  class = class_in;
  records = first_of p ∷ [];
  signatures = signature_of p ∷ [];
}

abbrev pub placed_pair : Pair → PlacedSet
placed_pair p = in_section Answer (pair_set p)

-- the signature is of the record and shows no wildcard, and the record is none of those by which others are judged, but
-- DS
pub record IsPlainPair (p : Pair) : Type 0 where
  pub read : rrsig_in p.text ≡ Some p.sig
  pub covered : p.sig.covered ≡ p.rtype
  pub labels : p.sig.labels ≡ num_labels p.owner
  pub other : (p.rtype == type_rrsig) ≡ false
  pub keys : (p.rtype == type_dnskey) ≡ false
  pub own_keys : (type_dnskey == p.rtype) ≡ false
  pub nsec : (p.rtype == type_nsec) ≡ false
  pub nsec3 : (p.rtype == type_nsec3) ≡ false
  pub fits : signer_fits p.rtype p.sig.signer p.owner ≡ true

-- ---- what is heard

pub pair_sets : (p : Pair) → IsPlainPair p → sets_of (told_of p).answers ≡ pair_set p ∷ []
unfolding sets_of leaders
pair_sets p is =
    rw (is.other, name_refl p.owner, number_refl p.rtype, is.other, is.read, is.covered, number_refl p.rtype) refl

pub pair_judged : (p : Pair) (depth : ℕ) → IsPlainPair p → is_judged_at depth p.rtype ≡ true
    → judged_part depth (told_of p) ≡ placed_pair p ∷ []
unfolding sets_of leaders
pair_judged p depth is kept =
    ap (λ sets. judged_at depth
    (map (in_section Answer) sets ++ map (in_section Authority) (sets_of []) ++ map (in_section Additional)
    (sets_of []))) (pair_sets p is)
    ∙ ap (λ b. if b then placed_pair p ∷ [] else []) kept

pub pair_own : (p : Pair) → foreign_record (question_for p) (told_of p) ≡ None
pair_own p = refl

-- ---- how the set begins

-- its signature asks for the signer's keys
pub pair_starts : (j : Judge) (p : Pair) → IsPlainPair p
    → start_set j (question_for p) (told_of p) (placed_pair p) ≡ Trying (placed_pair p) []
unfolding start_set try_from
pair_starts j p is =
    let apart : question_eq (key_question class_in p.sig.signer) (question_for p) ≡ false =
    and_right (name_eq p.sig.signer p.owner) ((type_dnskey == p.rtype) && (class_in == class_in))
    (and_left (type_dnskey == p.rtype) (class_in == class_in) is.own_keys) in
    rw (is.keys, is.read, is.fits, apart) refl

pub pair_asks : (p : Pair) → IsPlainPair p
    → turn (Trying (placed_pair p) []) ≡ Asks (judged_ask (key_question class_in p.sig.signer))
unfolding turn
pair_asks p is = rw is.read refl

-- ---- how it is judged

-- by Secure keys of the signer, with their chain
abbrev pub judged_pair : Pair → MarkedSet
judged_pair p = record { section = Answer; set = pair_set p; mark = Secure; sig = Some 0 }

abbrev pub chained_pair : Pair → ChainedSet → Rr → ChainedSet
chained_pair p keys key =
    record { judged = judged_pair p; chain = signed_chain (pair_set p) (signature_of p) keys.chain key }

-- the keys that were asked for are Secure, and by the first one that counts the signature is good
pub record AreItsKeys (j : Judge) (p : Pair) (keys : ChainedSet) (key : Rr) : Type 0 where
  pub secure : keys.judged.mark ≡ Secure
  pub of_signer : is_key_set_of class_in p.sig.signer keys.judged ≡ true
  pub good : find (is_good_by j (pair_set p) (signature_of p))
      (counted_keys p.sig.signer keys.judged.set.records) ≡ Some key

pair_verdict : (j : Judge) (p : Pair) (keys : ChainedSet) (key : Rr) → IsPlainPair p → AreItsKeys j p keys key
    → chained_verdict j (pair_set p) (signature_of p) (Some (keys ∷ []))
    ≡ record { verdict = Proved; chain = signed_chain (pair_set p) (signature_of p) keys.chain key }
unfolding chained_verdict verdict_of
pair_verdict j p keys key is by = rw (is.read, is.nsec, is.nsec3, by.of_signer, by.secure, by.good) refl

pub pair_after : (j : Judge) (p : Pair) (keys : ChainedSet) (key : Rr) → IsPlainPair p → AreItsKeys j p keys key
    → after j (question_for p) (told_of p) (Trying (placed_pair p) []) (Got (Some (keys ∷ []))) ≡ Marked
    (chained_pair p keys key)
unfolding after judged_by
pair_after j p keys key is by = rw (pair_verdict j p keys key is by) refl

pub pair_links : (p : Pair) (keys : ChainedSet) (key : Rr)
    → length (chained_pair p keys key).chain ≡ length keys.chain + 1
pair_links p keys key = length_push keys.chain _

-- ---- how the step ends

not_less : (n : ℕ) → nat_lt n n ≡ false
not_less n = grind (arith, nat_tests)

pub pair_given : (limits : Limits) (p : Pair) → IsPlainPair p
    → outcome_of limits (question_for p) (told_of p) (judged_pair p ∷ []) ≡ outcome.Given denial.None
unfolding outcome_of
pair_given limits p is =
    rw (is.other, is.read, is.labels, not_less (num_labels p.owner), name_refl p.owner, number_refl p.rtype) refl
