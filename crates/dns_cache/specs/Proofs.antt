-- What is found of a set: Secure by a signature or without one, or Insecure (RFC 4035, 4.3 and 5.3.3).
use Rattle.std.specs.Prelude.{ℕ, min, Option, None, Some, slice_get}
use Rattle.dns_model.specs.declared.proof.Proof.TheVariants.{Secure, Insecure}
use Rattle.dns_model.specs.Records.{Rr, RrSet}
use Rattle.dns_model.specs.RecordViews.{rrsig_of}
use Rattle.dns_model.specs.SoundAnswers.{signed_ttl, ttl_of}
use Rattle.dns_rules.specs.ProofErrors.{RrsetProofValue}

-- the ttl that a signature leaves to a set at a moment: no more than that of the set's first record, than the original
-- ttl and than the seconds for which the signature is still valid
abbrev pub ttl_by : ℕ → RrSet → Rr → ℕ
ttl_by now set r = min (ttl_of (slice_get set.records 0)) (signed_ttl (rrsig_of r) now)

-- Secure by a signature, with its place where several were handed in
abbrev pub proved_by : ℕ → RrSet → Rr → Option ℕ → RrsetProofValue
proved_by now set r place = record { proof = Secure; adjusted_ttl = Some (ttl_by now set r); rrsig_index = place }

-- Secure with no signature; its ttl stays
abbrev pub proved_whole : RrsetProofValue
proved_whole = record { proof = Secure; adjusted_ttl = None; rrsig_index = None }

-- Insecure; its ttl stays
abbrev pub excused : RrsetProofValue
excused = record { proof = Insecure; adjusted_ttl = None; rrsig_index = None }

-- ---- for private functions of this crate only

-- Secure with a ttl
abbrev pub proved_with : ℕ → Option ℕ → RrsetProofValue
proved_with ttl place = record { proof = Secure; adjusted_ttl = Some ttl; rrsig_index = place }
