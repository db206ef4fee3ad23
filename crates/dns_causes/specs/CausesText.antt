-- Causes as a text: a line for each set of each step, in the trail's order.
use Rattle.std.specs.Prelude.{ℕ, ◌+◌, List, [], ◌∷◌, ◌++◌, codes, Option, None, Some}
use Rattle.std.specs.Fmt.{decimal}
use Rattle.dns_model.specs.NameText.{printed}
use Rattle.dns_model.specs.Trails.{AskedValue, JudgedSetValue}
use Rattle.dns_record.specs.Words.{type_word}
use Rattle.dns_text.specs.Lines.{line}
use Rattle.dns_report.specs.LineWords.{section_word}
use Rattle.dns_rules.specs.ProofErrors.{ProofErrorKindValue, RrsigsNotPresent, Net, RrsigsUnverified, DnskeyNotFound, DsRecordsButNoDnskey, DsRecordShouldExist, DsResponseInsecure, UnknownKeyAlgorithm, ErrorComputingKeyTag, UnsupportedKeyAlgorithm, DnsKeyHasNoDs, InsecureDnsKey, DnsKeyRevoked, NotZoneDnsKey, AlgorithmMismatch, Msg, DnsKeyVerifyRrsig, NoMemory}

-- the word of a cause
abbrev pub kind_word : ProofErrorKindValue → List ℕ
kind_word (RrsigsNotPresent name rtype) = codes "rrsigs-not-present"
kind_word (Net query) = codes "net"
kind_word (RrsigsUnverified name rtype) = codes "rrsigs-unverified"
kind_word (DnskeyNotFound name) = codes "dnskey-not-found"
kind_word (DsRecordsButNoDnskey name) = codes "ds-records-but-no-dnskey"
kind_word (DsRecordShouldExist name) = codes "ds-record-should-exist"
kind_word (DsResponseInsecure name) = codes "ds-response-insecure"
kind_word UnknownKeyAlgorithm = codes "unknown-key-algorithm"
kind_word (ErrorComputingKeyTag name) = codes "error-computing-key-tag"
kind_word UnsupportedKeyAlgorithm = codes "unsupported-key-algorithm"
kind_word (DnsKeyHasNoDs name) = codes "dns-key-has-no-ds"
kind_word (InsecureDnsKey name key_tag) = codes "insecure-dns-key"
kind_word (DnsKeyRevoked name key_tag) = codes "dns-key-revoked"
kind_word (NotZoneDnsKey name key_tag) = codes "not-zone-dns-key"
kind_word (AlgorithmMismatch rrsig dnskey) = codes "algorithm-mismatch"
kind_word (Msg text) = codes "msg"
kind_word (DnsKeyVerifyRrsig name key_tag) = codes "dns-key-verify-rrsig"
kind_word NoMemory = codes "no-memory"

-- the word of a cause, if there is one
abbrev pub cause_word : Option ProofErrorKindValue → List ℕ
cause_word None = codes "none"
cause_word (Some kind) = kind_word kind

-- `why STEP SECTION OWNER TYPE CAUSE`
abbrev pub why_line : ℕ → JudgedSetValue → Option ProofErrorKindValue → List ℕ
why_line n set cause =
    line (codes "why") (decimal n ∷ section_word set.section ∷ printed set.owner ∷ type_word set.rtype ∷ cause_word cause ∷ [])

-- the lines of a step's sets, as long as there are causes
unfoldable pub step_lines : ℕ → List JudgedSetValue → List (Option ProofErrorKindValue) → List ℕ
step_lines n [] causes = []
step_lines n (set ∷ sets) [] = []
step_lines n (set ∷ sets) (cause ∷ causes) = why_line n set cause ++ step_lines n sets causes

-- the lines of steps, whose first has this number
unfoldable pub causes_text : ℕ → List AskedValue → List (List (Option ProofErrorKindValue)) → List ℕ
causes_text n [] causes = []
causes_text n (step ∷ steps) [] = []
causes_text n (step ∷ steps) (first ∷ more) = step_lines n step.sets first ++ causes_text (n + 1) steps more
