-- What a judged step answers (RFC 4035, 5.3.4 and 5.4; RFC 5155, 8).
use Rattle.std.specs.Prelude.{ℕ, Bool, false, not, ◌==◌, ◌&&◌, ◌||◌, min, nat_lt, List, [], ◌∷◌, ◌++◌, Option, None, Some, if◌then◌else◌}
use Rattle.std.specs.Option.{option_map, option_map_or, option_and_then}
use Rattle.std.specs.List.{filter, filter_map, list_any, list_all, find}
use Rattle.dns_model.specs.declared.proof.Proof.{Proof}
use Rattle.dns_model.specs.declared.proof.Proof.TheVariants.{Secure, Insecure, Bogus}
use Rattle.dns_model.specs.declared.section.Section.TheVariants.{Answer, Authority}
use Rattle.dns_model.specs.declared.denial.Denial as denial
use Rattle.dns_model.specs.declared.denial.Denial.TheVariants as denied
use Rattle.dns_model.specs.Names.{Labels, name_eq, at_or_above, num_labels}
use Rattle.dns_model.specs.Types.{type_cname}
use Rattle.dns_model.specs.Records.{Rr, Question}
use Rattle.dns_model.specs.RecordViews.{rrsig_of}
use Rattle.dns_model.specs.Owned.{OwnedNsec, OwnedNsec3}
use Rattle.dns_model.specs.Sections.{is_signature}
use Rattle.dns_model.specs.SoundAnswers.{Told, section_eq, is_secure}
use Rattle.dns_model.specs.declared.answered.Answered.{Answered}
use Rattle.dns_model.specs.declared.answered.Answered.TheVariants.{No, Plain, Expanded}
use Rattle.dns_rules.specs.Asking.{Limits}
use Rattle.dns_rules.specs.NsecVerdict.{nsec_verdict}
use Rattle.dns_rules.specs.Nsec3Verdict.{nsec3_verdict}
pub use Rattle.dns_rules.specs.Denying.{is_denying, denying, owned_nsec, denials, is_hash_denying, hash_denying, owned_nsec3, hashed_denials}
use Rattle.dns_rules.specs.MarkedSets.{MarkedSet, decider}
use Rattle.dns_rules.specs.Marking.{is_about}
use Rattle.dns_rules.specs.Delegations as delegation
use Rattle.dns_rules.specs.Delegations.{ZoneVerdict, Signed, is_insecure}

-- how a judged step ends; where neither its sets nor their signatures decide, the zone of its query is searched
pub data Outcome : Type 0 where
  Given : denial.Denial → Outcome
  NeedsZone : Outcome
  Denied : Proof → Outcome

-- ---- how the answer section answers

-- the record answers: it stands at the name that is asked, and is of the type or a CNAME
abbrev pub answers_query : Question → Rr → Bool
answers_query q r = name_eq q.owner r.owner && ((r.rtype == q.rtype) || (r.rtype == type_cname))

abbrev pub has_answer : Question → Told → Bool
has_answer q told = list_any (answers_query q) told.answers

-- a readable RRSIG whose Labels is below its owner's count
abbrev pub is_wildcard_signature : Rr → Bool
is_wildcard_signature r = option_map_or (λ sig. nat_lt sig.labels (num_labels r.owner)) (rrsig_of r) false

abbrev pub has_wildcard_signature : Told → Bool
has_wildcard_signature told = list_any is_wildcard_signature told.answers

-- the set is of the answer section, and Secure by such a signature: it was expanded from a wildcard (RFC 4035, 5.3.4)
abbrev pub is_expanded_answer : MarkedSet → Bool
is_expanded_answer judged =
    section_eq Answer judged.section && (is_secure judged.mark && option_map_or is_wildcard_signature (decider judged) false)

-- such a set whose records answer
abbrev pub is_expanded_for : Question → MarkedSet → Bool
is_expanded_for q judged =
    is_expanded_answer judged
    && (name_eq q.owner judged.set.owner && ((judged.set.rtype == q.rtype) || (judged.set.rtype == type_cname)))

-- Labels of the signature that decided
abbrev pub decider_labels : MarkedSet → Option ℕ
decider_labels judged = option_map (λ sig. sig.labels) (option_and_then rrsig_of (decider judged))

unfoldable pub least : List ℕ → Option ℕ
least [] = None
least (n ∷ ns) = Some (option_map_or (min n) (least ns) n)

-- an answer is an expansion where a Secure set says so, and of several the one from the wildcard with the fewest labels
abbrev pub answered_from : Option ℕ → Answered
answered_from None = Plain
answered_from (Some labels) = Expanded labels

unfoldable pub answered : Question → Told → List MarkedSet → Answered
answered q told sets =
    if has_answer q told then answered_from (least (filter_map decider_labels (filter (is_expanded_for q) sets))) else No

-- ---- who denies existence

-- the zone that made the signature that decided
abbrev pub signer_of : MarkedSet → Option Labels
signer_of judged = option_map (λ sig. sig.signer) (option_and_then rrsig_of (decider judged))

abbrev pub is_made_by : Labels → MarkedSet → Bool
is_made_by zone judged = option_map_or (name_eq zone) (signer_of judged) false

-- the zone that made them all: records of two zones prove nothing together (RFC 4035, 5.4)
abbrev pub one_signer : List MarkedSet → Option Labels
one_signer [] = None
one_signer (judged ∷ rest) =
    option_and_then (λ zone. if list_all (is_made_by zone) rest then Some zone else None) (signer_of judged)

-- ---- what the denials make of the answer

-- the denial of a Secure verdict; the verdict on a plain answer never is Secure
abbrev pub secure_denial : Answered → denial.Denial
secure_denial No = denied.Absent Secure
secure_denial Plain = denied.None
secure_denial (Expanded labels) = denied.Expanded Secure

abbrev pub outcome_by_nsec_verdict : Answered → Proof → Outcome
outcome_by_nsec_verdict how proof = if is_secure proof then Given (secure_denial how) else Denied proof

-- by the zone that made the denials; the verdict asks whether the query lies in it
abbrev pub outcome_by_denials : Question → ℕ → Answered → List OwnedNsec → Option Labels → Outcome
outcome_by_denials q code how nsecs None = Denied Bogus
outcome_by_denials q code how nsecs (Some zone) = outcome_by_nsec_verdict how (nsec_verdict q zone code how nsecs)

-- the same of NSEC3 records; more iterations than the limits allow prove less (RFC 9276, 3.2)
abbrev pub outcome_by_hashed_denials : Limits → Question → ℕ → Answered → List OwnedNsec3 → Option Labels → Outcome
outcome_by_hashed_denials limits q code how nsec3s None = Denied Bogus
outcome_by_hashed_denials limits q code how nsec3s (Some zone) =
    outcome_by_nsec_verdict how (nsec3_verdict q zone code how nsec3s limits.soft limits.hard)

-- ---- where no more than Insecure can be expected

-- a record of the authority section is Insecure, with an owner at or above the name that is asked
abbrev pub is_insecure_record : Question → List MarkedSet → Rr → Bool
is_insecure_record q sets r =
    at_or_above r.owner q.owner && option_map_or (λ judged. is_insecure judged.mark) (find (is_about Authority r) sets) false

-- the authority section has records beside signatures, and each of them is so: no more than Insecure can be expected
abbrev pub is_insecure_authority : Question → Told → List MarkedSet → Bool
is_insecure_authority q told sets =
    list_any (λ r. not (is_signature r)) told.authorities
    && list_all (λ r. is_signature r || is_insecure_record q sets r) told.authorities

-- an answer for which no more than Insecure can be expected: it stands, or nothing is there
abbrev pub insecure_answer : Question → Told → Outcome
insecure_answer q told = Given (if has_answer q told then denied.None else denied.Absent Insecure)

-- ---- the outcome

-- the first case that holds decides
unfoldable pub outcome_of : Limits → Question → Told → List MarkedSet → Outcome
outcome_of limits q told sets =
    -- the zone above the name is Insecure, and nothing is said to come from a wildcard (RFC 4035, 4.3)
    if is_insecure_authority q told sets && not (has_wildcard_signature told) then insecure_answer q told
    -- a zone has NSEC records or NSEC3 records, never both (RFC 5155, 7.1 and 10.4)
    else if list_any is_denying sets && list_any is_hash_denying sets then Denied Bogus
    -- what is denied by hashes has to follow from the denials of one zone (RFC 5155, 8)
    else if list_any is_hash_denying sets
    then outcome_by_hashed_denials limits q told.code (answered q told sets) (hashed_denials sets) (one_signer (hash_denying sets))
    -- what is denied has to follow from the denials of one zone (RFC 4035, 5.4)
    else if list_any is_denying sets
    then outcome_by_denials q told.code (answered q told sets) (denials sets) (one_signer (denying sets))
    -- an expansion without a denial of closer names (RFC 4035, 5.3.4)
    else if list_any is_expanded_answer sets then Denied Bogus
    else if has_answer q told && not (has_wildcard_signature told) then Given denied.None
    -- a signed zone would have denied (RFC 4035, 3.1.3)
    else NeedsZone

-- the outcome where the zone of the query is searched
abbrev pub outcome_by_zone : Question → Told → ZoneVerdict → Outcome
outcome_by_zone q told (Signed ds) = Denied Bogus
outcome_by_zone q told (delegation.Insecure kind) = insecure_answer q told
outcome_by_zone q told (delegation.Bogus kind) = Denied Bogus

-- the first record of another class, in section order (RFC 1035, 3.2.4)
abbrev pub foreign_record : Question → Told → Option Rr
foreign_record q told = find (λ r. not (r.class == q.class)) (told.answers ++ told.authorities ++ told.additionals)
