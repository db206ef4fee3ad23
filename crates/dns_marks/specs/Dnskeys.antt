-- Whether DS records prove a key (RFC 4035, 5.2).
use Rattle.std.specs.Prelude.{List, Result, Ok, Err, if◌then◌else◌}
use Rattle.std.specs.Option.{option_map_or}
use Rattle.dns_model.specs.declared.proof.Proof.{Proof}
use Rattle.dns_model.specs.declared.proof.Proof.TheVariants.{Secure, Insecure, Bogus}
use Rattle.dns_model.specs.Records.{Rr}
use Rattle.dns_model.specs.RecordViews.{dnskey_of}
use Rattle.dns_model.specs.Keys.{VerifierAnswers}
use Rattle.dns_rules.specs.ProofErrors.{ProofErrorValue, ErrorComputingKeyTag, UnsupportedKeyAlgorithm, DnsKeyHasNoDs}
use Rattle.dns_rules.specs.Delegations.{matching_ds}
use Rattle.dns_cache.specs.Kinds.{because}

-- why no DS matches a key: it can't be read, its algorithm isn't supported, or none is there that matches
abbrev pub unmatched : VerifierAnswers → Rr → ProofErrorValue
unmatched verifier key =
    option_map_or
    (λ text. if verifier.supports text.algorithm then because Bogus (DnsKeyHasNoDs key.owner)
    else because Insecure UnsupportedKeyAlgorithm)
    (dnskey_of key) (because Insecure (ErrorComputingKeyTag key.owner))

-- Secure exactly where a DS of the key's owner matches it; of those with its algorithm and tag the first two of the
-- list count
abbrev pub key_proof : VerifierAnswers → Rr → List Rr → Result Proof ProofErrorValue
key_proof verifier key ds =
    option_map_or (λ found. Ok Secure) (matching_ds verifier key.owner key ds) (Err (unmatched verifier key))
