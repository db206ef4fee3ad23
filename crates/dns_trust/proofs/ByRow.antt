-- Which row of the DS verdict of a zone holds, by the answer to the ask for its DS set.
use Rattle.std.proofs.Common.{◌≡◌, ℕ, Bool, true, false, ◌||◌, List, None, Some, refl, sym, ap, ◌∙◌}
use Rattle.std.specs.Prelude.{if◌then◌else◌}
use Rattle.std.specs.List.{find, list_any}
use Rattle.dns_model.specs.Names.{Labels}
use Rattle.dns_model.specs.Keys.{VerifierAnswers}
use Rattle.dns_rules.specs.MarkedSets.{MarkedSet}
use Rattle.dns_model.specs.declared.proof.Proof.{Proof}
use Rattle.dns_model.specs.declared.proof.Proof.TheVariants as proof
use Rattle.dns_rules.specs.ProofErrors.{ProofErrorKindValue, Net, UnknownKeyAlgorithm, DsRecordShouldExist, DsResponseInsecure}
use Rattle.dns_rules.specs.Delegations as zone
use Rattle.dns_rules.specs.Delegations.{ZoneVerdict, Insecure, Bogus, is_ds_set_of, verdict_by_ds, shows_no_ds, shows_no_ds_by_hash, is_insecure_above, verdict_without_ds, zone_verdict}
use Rattle.dns_rules.specs.Unsigned.{unsigned_mark}
use Rattle.dns_rules.specs.ChainedSets.{ChainedSet, bare}
use Rattle.dns_trust.specs.declared.zone_rows.ZoneRow.{ZoneRow}
use Rattle.dns_trust.specs.declared.zone_rows.ZoneRow.TheVariants.{Unanswered, Unsupported, ShownAbsent}
use Rattle.dns_trust.specs.ZoneRows.{absence_row, bogus_row, insecure_row, row_of}
use Rattle.dns_trust.proofs.ByDs.{verdict_of_answer}

-- an ask that failed or was refused
pub failed_row : (verifier : VerifierAnswers) (class : ℕ) (zone : Labels) → Unanswered ≡ row_of (zone_verdict verifier class zone None)
unfolding zone_verdict
failed_row verifier class zone = refl

-- an answer with a DS set of the zone
pub found_row : (verifier : VerifierAnswers) (class : ℕ) (zone : Labels) (answer : List ChainedSet) (found : ChainedSet)
    → find (λ c. is_ds_set_of class zone c.judged) answer ≡ Some found
    → row_of (verdict_by_ds verifier zone found.judged.mark found.judged.set.records)
    ≡ row_of (zone_verdict verifier class zone (Some (bare answer)))
found_row verifier class zone answer found is = ap row_of (sym (verdict_of_answer verifier class zone answer (Some found) is))

-- and one without
pub without_row : (verifier : VerifierAnswers) (class : ℕ) (zone : Labels) (answer : List ChainedSet)
    → find (λ c. is_ds_set_of class zone c.judged) answer ≡ None
    → row_of (verdict_without_ds zone (bare answer)) ≡ row_of (zone_verdict verifier class zone (Some (bare answer)))
without_row verifier class zone answer none = ap row_of (sym (verdict_of_answer verifier class zone answer None none))

absence_if : (zone : Labels) (b : Bool)
    → absence_row (unsigned_mark (if b then Insecure (DsResponseInsecure zone) else Bogus (DsRecordShouldExist zone))).mark
    ≡ row_of (if b then Insecure (DsResponseInsecure zone) else Bogus (DsRecordShouldExist zone))
absence_if zone true = refl
absence_if zone false = refl

-- without a DS set the mark that is left tells the row
pub absence_rows : (zone : Labels) (answer : List MarkedSet)
    → absence_row (unsigned_mark (verdict_without_ds zone answer)).mark ≡ row_of (verdict_without_ds zone answer)
absence_rows zone answer =
    absence_if zone (list_any (shows_no_ds zone) answer || (shows_no_ds_by_hash zone answer || list_any (is_insecure_above zone) answer))

-- ---- what the row leaves to unsigned sets

abbrev pub mark_of_row : ZoneRow → Proof
mark_of_row Unsupported = proof.Insecure
mark_of_row ShownAbsent = proof.Insecure
mark_of_row _ = proof.Bogus

insecure_mark : (kind : ProofErrorKindValue) → mark_of_row (insecure_row kind) ≡ proof.Insecure
insecure_mark UnknownKeyAlgorithm = refl
insecure_mark _ = refl

bogus_mark : (kind : ProofErrorKindValue) → mark_of_row (bogus_row kind) ≡ proof.Bogus
bogus_mark (Net query) = refl
bogus_mark _ = refl

pub row_mark : (row : ZoneRow) (verdict : ZoneVerdict) → row ≡ row_of verdict
    → mark_of_row row ≡ (unsigned_mark verdict).mark
row_mark row (zone.Signed ds) is = ap mark_of_row is
row_mark row (zone.Insecure kind) is = ap mark_of_row is ∙ insecure_mark kind
row_mark row (zone.Bogus kind) is = ap mark_of_row is ∙ bogus_mark kind
