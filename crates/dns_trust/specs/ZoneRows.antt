-- Which row of the DS verdict of a zone holds, without the names and records in it (RFC 4035, 5.2).
use Rattle.std.specs.Prelude.{List, if◌then◌else◌}
use Rattle.std.specs.List.{list_any}
use Rattle.dns_model.specs.declared.proof.Proof.{Proof}
use Rattle.dns_model.specs.declared.proof.Proof.TheVariants as proof
use Rattle.dns_model.specs.Records.{Rr}
use Rattle.dns_rules.specs.ProofErrors.{ProofErrorKindValue, Net, UnknownKeyAlgorithm}
use Rattle.dns_rules.specs.Delegations as zone
use Rattle.dns_rules.specs.Delegations.{ZoneVerdict, is_readable_ds}
use Rattle.dns_trust.specs.declared.zone_rows.ZoneRow.{ZoneRow}
use Rattle.dns_trust.specs.declared.zone_rows.ZoneRow.TheVariants.{Unanswered, Signed, Unsupported, ShownAbsent, NotShown}

abbrev pub insecure_row : ProofErrorKindValue → ZoneRow
insecure_row UnknownKeyAlgorithm = Unsupported
insecure_row _ = ShownAbsent

abbrev pub bogus_row : ProofErrorKindValue → ZoneRow
bogus_row (Net query) = Unanswered
bogus_row _ = NotShown

abbrev pub row_of : ZoneVerdict → ZoneRow
row_of (zone.Signed ds) = Signed
row_of (zone.Insecure kind) = insecure_row kind
row_of (zone.Bogus kind) = bogus_row kind

-- ---- for private functions of this crate only

-- by a Secure DS set without a supported record
abbrev pub unsupported_row : List Rr → ZoneRow
unsupported_row records = if list_any is_readable_ds records then Unsupported else NotShown

-- by the mark that an answer without a DS set leaves to what is unsigned
abbrev pub absence_row : Proof → ZoneRow
absence_row proof.Insecure = ShownAbsent
absence_row _ = NotShown
