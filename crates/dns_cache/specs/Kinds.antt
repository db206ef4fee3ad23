-- Causes and errors as plain values (RFC 4035, 4.3 and 5.3.1).
use Rattle.dns_model.specs.declared.proof.Proof.{Proof}
use Rattle.dns_model.specs.declared.proof.Proof.TheVariants.{Bogus}
use Rattle.dns_handle.specs.Notices.{notice_text}
use Rattle.dns_rules.specs.ProofErrors as cause
use Rattle.dns_rules.specs.ProofErrors.{ProofErrorKindValue, ProofErrorValue}
use Rattle.dns_cache.specs.declared.proof_error.ProofErrorKind.{ProofErrorKind}
use Rattle.dns_cache.specs.declared.proof_error.ProofErrorKind.TheVariants.{RrsigsNotPresent, Net, RrsigsUnverified, DnskeyNotFound, DsRecordsButNoDnskey, DsRecordShouldExist, DsResponseInsecure, UnknownKeyAlgorithm, ErrorComputingKeyTag, UnsupportedKeyAlgorithm, DnsKeyHasNoDs, InsecureDnsKey, DnsKeyRevoked, NotZoneDnsKey, AlgorithmMismatch, Msg, DnsKeyVerifyRrsig, NoMemory}

-- a notice as its text, a type as its number
abbrev pub kind_value : ProofErrorKind → ProofErrorKindValue
kind_value (RrsigsNotPresent name rtype) = cause.RrsigsNotPresent name rtype.0
kind_value (Net query) = cause.Net query
kind_value (RrsigsUnverified name rtype) = cause.RrsigsUnverified name rtype.0
kind_value (DnskeyNotFound name) = cause.DnskeyNotFound name
kind_value (DsRecordsButNoDnskey name) = cause.DsRecordsButNoDnskey name
kind_value (DsRecordShouldExist name) = cause.DsRecordShouldExist name
kind_value (DsResponseInsecure name) = cause.DsResponseInsecure name
kind_value UnknownKeyAlgorithm = cause.UnknownKeyAlgorithm
kind_value (ErrorComputingKeyTag name) = cause.ErrorComputingKeyTag name
kind_value UnsupportedKeyAlgorithm = cause.UnsupportedKeyAlgorithm
kind_value (DnsKeyHasNoDs name) = cause.DnsKeyHasNoDs name
kind_value (InsecureDnsKey name key_tag) = cause.InsecureDnsKey name key_tag
kind_value (DnsKeyRevoked name key_tag) = cause.DnsKeyRevoked name key_tag
kind_value (NotZoneDnsKey name key_tag) = cause.NotZoneDnsKey name key_tag
kind_value (AlgorithmMismatch rrsig dnskey) = cause.AlgorithmMismatch rrsig dnskey
kind_value (Msg notice) = cause.Msg (notice_text notice)
kind_value (DnsKeyVerifyRrsig name key_tag) = cause.DnsKeyVerifyRrsig name key_tag
kind_value NoMemory = cause.NoMemory

abbrev pub because : Proof → ProofErrorKindValue → ProofErrorValue
because proof kind = record { proof = proof; kind = kind }

-- the error where memory runs out
abbrev pub out_of_memory : ProofErrorValue
out_of_memory = because Bogus cause.NoMemory
