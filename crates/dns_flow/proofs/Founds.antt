-- What is found of a judged set has its mark and the signature that decided, and its cause is that of the row that
-- holds.
use Rattle.std.proofs.Common.{◌≡◌, ℕ, Bool, true, false, ◌||◌, List, Option, None, Some, Ok, Err, is_some, if◌then◌else◌, refl}
use Rattle.std.specs.Option.{option_map, option_map_or}
use Rattle.std.specs.List.{filter, find, list_any}
use Rattle.dns_model.specs.declared.proof.Proof.{Proof}
use Rattle.dns_model.specs.declared.proof.Proof.TheVariants as proof
use Rattle.dns_model.specs.Names.{Labels}
use Rattle.dns_model.specs.Records.{Rr}
use Rattle.dns_model.specs.Keys.{VerifierAnswers}
use Rattle.dns_model.specs.Chains.{Judge}
use Rattle.dns_model.specs.SoundAnswers.{ChainValue, is_secure}
use Rattle.dns_rules.specs.ChainedSets.{bare}
use Rattle.dns_rules.specs.CacheEntries.{Found, mark_of, sig_of, is_backed}
use Rattle.dns_rules.specs.Delegations.{Signed, Insecure, Bogus, is_ds_set_of, is_supported_ds, is_readable_ds, verdict_by_ds, shows_no_ds, shows_no_ds_by_hash, is_insecure_above, verdict_without_ds, zone_verdict}
use Rattle.dns_rules.specs.MarkedSets.{MarkedSet, decider}
use Rattle.dns_rules.specs.ProofErrors.{ProofErrorKindValue, RrsigsNotPresent, DsRecordShouldExist, DsResponseInsecure, UnknownKeyAlgorithm}
use Rattle.dns_cache.specs.Kinds.{because}
use Rattle.dns_cache.specs.Proofs.{ttl_by, proved_whole, excused}
use Rattle.dns_trust.specs.ZoneRows.{row_of}
use Rattle.dns_flow.specs.declared.phases.Seeker.{Seeker}
use Rattle.dns_flow.specs.declared.phases.Seeker.TheVariants.{Set, Ending}
use Rattle.dns_flow.specs.Phases.{GotValue, AtZone, answer_in}
use Rattle.dns_flow.specs.Causes.{zone_cause, cause_after, row_cause, sought_cause, found_of}

-- ---- what is found

abbrev found_by : Option ℕ → Proof → Option ℕ → ProofErrorKindValue → Found
found_by ttl mark sig cause =
    if is_secure mark then Ok (record proved_whole { adjusted_ttl = ttl; rrsig_index = sig })
    else if is_some sig then Ok (record excused { proof = mark; rrsig_index = sig })
    else Err (because mark cause)

mark_by : (ttl : Option ℕ) (mark : Proof) (sig : Option ℕ) (cause : ProofErrorKindValue)
    → mark_of (found_by ttl mark sig cause) ≡ mark
mark_by ttl proof.Secure sig cause = refl
mark_by ttl proof.Insecure None cause = refl
mark_by ttl proof.Insecure (Some n) cause = refl
mark_by ttl proof.Bogus None cause = refl
mark_by ttl proof.Bogus (Some n) cause = refl
mark_by ttl proof.Indeterminate None cause = refl
mark_by ttl proof.Indeterminate (Some n) cause = refl

sig_by : (ttl : Option ℕ) (mark : Proof) (sig : Option ℕ) (cause : ProofErrorKindValue)
    → sig_of (found_by ttl mark sig cause) ≡ sig
sig_by ttl proof.Secure sig cause = refl
sig_by ttl proof.Insecure None cause = refl
sig_by ttl proof.Insecure (Some n) cause = refl
sig_by ttl proof.Bogus None cause = refl
sig_by ttl proof.Bogus (Some n) cause = refl
sig_by ttl proof.Indeterminate None cause = refl
sig_by ttl proof.Indeterminate (Some n) cause = refl

backed_by : (ttl : Option ℕ) (mark : Proof) (sig : Option ℕ) (cause : ProofErrorKindValue) (chain : ChainValue)
    → is_backed (found_by ttl mark sig cause) (if is_secure mark then Some chain else None) ≡ true
backed_by ttl proof.Secure sig cause chain = refl
backed_by ttl proof.Insecure None cause chain = refl
backed_by ttl proof.Insecure (Some n) cause chain = refl
backed_by ttl proof.Bogus None cause chain = refl
backed_by ttl proof.Bogus (Some n) cause chain = refl
backed_by ttl proof.Indeterminate None cause chain = refl
backed_by ttl proof.Indeterminate (Some n) cause chain = refl

-- it has the mark of the set
pub found_mark : (now : ℕ) (judged : MarkedSet) (cause : ProofErrorKindValue)
    → mark_of (found_of now judged cause) ≡ judged.mark
unfolding found_of
found_mark now judged cause = mark_by (option_map (ttl_by now judged.set) (decider judged)) judged.mark judged.sig cause

-- and the place of the signature that decided
pub found_sig : (now : ℕ) (judged : MarkedSet) (cause : ProofErrorKindValue)
    → sig_of (found_of now judged cause) ≡ judged.sig
unfolding found_of
found_sig now judged cause = sig_by (option_map (ttl_by now judged.set) (decider judged)) judged.mark judged.sig cause

-- where it says Secure it is no error, so that it may be kept with the chain of the set
pub found_backed : (now : ℕ) (judged : MarkedSet) (cause : ProofErrorKindValue) (chain : ChainValue)
    → is_backed (found_of now judged cause) (if is_secure judged.mark then Some chain else None) ≡ true
unfolding found_of
found_backed now judged cause chain =
    backed_by (option_map (ttl_by now judged.set) (decider judged)) judged.mark judged.sig cause chain

-- ---- the cause of a row

ds_cause_if : (signed : ProofErrorKindValue) (class : ℕ) (zone : Labels) (supported : List Rr) (is_any readable : Bool)
    → row_cause signed class zone
    (row_of (if is_any then Signed supported else if readable then Insecure UnknownKeyAlgorithm else Bogus
    (DsRecordShouldExist zone)))
    ≡ zone_cause signed
    (if is_any then Signed supported else if readable then Insecure UnknownKeyAlgorithm else Bogus
    (DsRecordShouldExist zone))
ds_cause_if signed class zone supported true readable = refl
ds_cause_if signed class zone supported false true = refl
ds_cause_if signed class zone supported false false = refl

ds_cause : (signed : ProofErrorKindValue) (verifier : VerifierAnswers) (class : ℕ) (zone : Labels) (mark : Proof)
    (records : List Rr)
    → row_cause signed class zone (row_of (verdict_by_ds verifier zone mark records)) ≡ zone_cause signed
    (verdict_by_ds verifier zone mark records)
ds_cause signed verifier class zone proof.Secure records =
    ds_cause_if signed class zone (filter (is_supported_ds verifier) records)
    (list_any (is_supported_ds verifier) records) (list_any is_readable_ds records)
ds_cause signed verifier class zone proof.Insecure records = refl
ds_cause signed verifier class zone proof.Bogus records = refl
ds_cause signed verifier class zone proof.Indeterminate records = refl

absence_cause_if : (signed : ProofErrorKindValue) (class : ℕ) (zone : Labels) (shown : Bool)
    → row_cause signed class zone
    (row_of (if shown then Insecure (DsResponseInsecure zone) else Bogus (DsRecordShouldExist zone)))
    ≡ zone_cause signed (if shown then Insecure (DsResponseInsecure zone) else Bogus (DsRecordShouldExist zone))
absence_cause_if signed class zone true = refl
absence_cause_if signed class zone false = refl

set_cause : (signed : ProofErrorKindValue) (verifier : VerifierAnswers) (class : ℕ) (zone : Labels)
    (answer : List MarkedSet) (found : Option MarkedSet)
    → row_cause signed class zone
    (row_of (option_map_or (λ f. verdict_by_ds verifier zone f.mark f.set.records) found
    (verdict_without_ds zone answer)))
    ≡ zone_cause signed
    (option_map_or (λ f. verdict_by_ds verifier zone f.mark f.set.records) found (verdict_without_ds zone answer))
set_cause signed verifier class zone answer None =
    absence_cause_if signed class zone
    (list_any (shows_no_ds zone) answer ||
    (shows_no_ds_by_hash zone answer || list_any (is_insecure_above zone) answer))
set_cause signed verifier class zone answer (Some found) =
    ds_cause signed verifier class zone found.mark found.set.records

-- the row of a DS verdict tells its cause
pub cause_of_row : (signed : ProofErrorKindValue) (verifier : VerifierAnswers) (class : ℕ) (zone : Labels)
    (answer : Option (List MarkedSet))
    → row_cause signed class zone (row_of (zone_verdict verifier class zone answer)) ≡ zone_cause signed
    (zone_verdict verifier class zone answer)
unfolding zone_verdict
cause_of_row signed verifier class zone None = refl
cause_of_row signed verifier class zone (Some answer) =
    set_cause signed verifier class zone answer (find (is_ds_set_of class zone) answer)

-- and of a zone that was searched
pub sought : (j : Judge) (seeker : Seeker) (class : ℕ) (zone : Labels) (got : GotValue) (cause : ProofErrorKindValue)
    → sought_cause seeker class zone (row_of (zone_verdict j.answers class zone (option_map bare (answer_in got)))) cause
    ≡ cause_after j (AtZone seeker class zone) got cause
unfolding cause_after
sought j (Set placed) class zone got cause =
    cause_of_row (RrsigsNotPresent placed.set.owner placed.set.rtype) j.answers class zone (option_map bare (answer_in got))
sought j Ending class zone got cause = refl
