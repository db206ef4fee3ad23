-- For the calls of this crate, and for no promise of a check or a lookup: the rows of the marks of DNSKEY sets, as
-- outcomes (RFC 4035, 5.2).
use Rattle.std.specs.Prelude.{List}
use Rattle.dns_model.specs.declared.proof.Proof.TheVariants as proof
use Rattle.dns_model.specs.Records.{Rr, RrSet}
use Rattle.dns_rules.specs.ProofErrors.{DnskeyNotFound, DsRecordsButNoDnskey}
use Rattle.dns_rules.specs.KeySets as keys
use Rattle.dns_trust.specs.declared.keys.AnchoredRow.{AnchoredRow}
use Rattle.dns_trust.specs.declared.keys.AnchoredRow.TheVariants as anchored
use Rattle.dns_trust.specs.declared.keys.MatchedRow.{MatchedRow}
use Rattle.dns_trust.specs.declared.keys.MatchedRow.TheVariants as matched
use Rattle.dns_trust.specs.Signers.{signed_value}

-- what anchors say of a key set
abbrev pub anchored_outcome : RrSet → AnchoredRow → keys.KeysOutcome
anchored_outcome set (anchored.Signed by) = keys.SignedByAnchored (signed_value by)
anchored_outcome set anchored.Whole = keys.WhollyAnchored
anchored_outcome set anchored.Root = keys.Refused proof.Bogus (DnskeyNotFound set.owner)
anchored_outcome set anchored.NeedsDs = keys.NeedsDs

-- what DS records say of it
abbrev pub matched_outcome : RrSet → List Rr → MatchedRow → keys.KeysOutcome
matched_outcome set ds (matched.Signed by) = keys.SignedByMatched ds (signed_value by)
matched_outcome set ds matched.Whole = keys.WhollyTrusted ds
matched_outcome set ds matched.Neither = keys.Refused proof.Bogus (DsRecordsButNoDnskey set.owner)
