-- Why a set isn't Secure (RFC 4035, 4.3, 5.2 and 5.3), and what is found of one that is.
use Rattle.std.specs.Prelude.{ℕ, List, Option}
use Rattle.dns_model.specs.declared.proof.Proof.{Proof}
use Rattle.dns_model.specs.Names.{Labels}
use Rattle.dns_model.specs.Records.{Question}

-- the cause
pub data ProofErrorKindValue : Type 0 where
  -- the set has no signature that could be asked for
  RrsigsNotPresent : (name : Labels) (rtype : ℕ) → ProofErrorKindValue
  -- an ask failed
  Net : (query : Question) → ProofErrorKindValue
  -- no signature proves the set
  RrsigsUnverified : (name : Labels) (rtype : ℕ) → ProofErrorKindValue
  -- no anchored key of the root's key set signs it, nor are all its keys anchored
  DnskeyNotFound : (name : Labels) → ProofErrorKindValue
  -- there are DS records; no key that they match signs the key set, nor is each key anchored or matched
  DsRecordsButNoDnskey : (name : Labels) → ProofErrorKindValue
  -- neither a DS set nor its absence is shown
  DsRecordShouldExist : (name : Labels) → ProofErrorKindValue
  -- it is shown that there is no DS
  DsResponseInsecure : (name : Labels) → ProofErrorKindValue
  -- no DS is of a supported algorithm and digest type
  UnknownKeyAlgorithm : ProofErrorKindValue
  -- the key can't be read
  ErrorComputingKeyTag : (name : Labels) → ProofErrorKindValue
  -- the key's algorithm isn't supported
  UnsupportedKeyAlgorithm : ProofErrorKindValue
  -- no DS matches the key
  DnsKeyHasNoDs : (name : Labels) → ProofErrorKindValue
  -- the key's mark isn't Secure; the tag of this and of the next two kinds is the signature's
  InsecureDnsKey : (name : Labels) (key_tag : ℕ) → ProofErrorKindValue
  -- its flag REVOKE is set (RFC 5011, 2.1)
  DnsKeyRevoked : (name : Labels) (key_tag : ℕ) → ProofErrorKindValue
  -- its flag ZONE is clear, or its protocol isn't 3 (RFC 4034, 2.1.1 and 2.1.2)
  NotZoneDnsKey : (name : Labels) (key_tag : ℕ) → ProofErrorKindValue
  -- signature and key have different algorithms
  AlgorithmMismatch : (rrsig : ℕ) (dnskey : ℕ) → ProofErrorKindValue
  -- signature, set, key and moment don't fit: the text names which
  Msg : (text : List ℕ) → ProofErrorKindValue
  -- the algorithm isn't supported, or the verifier doesn't accept the signature
  DnsKeyVerifyRrsig : (name : Labels) (key_tag : ℕ) → ProofErrorKindValue
  NoMemory : ProofErrorKindValue

-- a cause, and the mark that comes of it
pub record ProofErrorValue : Type 0 where
  pub proof : Proof
  pub kind : ProofErrorKindValue

-- what is found of a set that a signature or its keys decide: its mark, the ttl that the signature leaves it, and the signature's place
pub record RrsetProofValue : Type 0 where
  pub proof : Proof
  pub adjusted_ttl : Option ℕ
  pub rrsig_index : Option ℕ
