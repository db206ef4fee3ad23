-- For the calls of this crate, and for no promise of a check or a lookup: a signature of a set, by its record and by what
-- that says, and the bytes that it is over, once they are built (RFC 4034, 3.1.8.1; RFC 4035, 5.3).
use Rattle.std.specs.Prelude.{ℕ, ◌≡◌, Bool, List, Option, Some, IfSome}
use Rattle.dns_model.specs.Records.{Rr}
use Rattle.dns_model.specs.RecordViews.{rrsig_of}
use Rattle.dns_model.specs.Signing.{signed_bytes}
use Rattle.dns_model.specs.Chains.{Judge, rdatas_of}
use Rattle.dns_rules.specs.Validity.{is_good_by}
use Rattle.dns_trust.specs.declared.set_signature.SetSignature.{SetSignature}

-- the record says what was read of it
abbrev pub IsRead : SetSignature → Type 0
IsRead signature = rrsig_of signature.sig.now ≡ Some signature.read.now

-- the bytes that it is over
abbrev pub bytes_of : SetSignature → List ℕ
bytes_of signature =
    signed_bytes signature.set.now.owner signature.set.now.rtype signature.set.now.class (rdatas_of signature.set.now.records)
    signature.read.now

-- they are what is kept, if anything is
abbrev pub IsBuilt : SetSignature → Option (List ℕ) → Type 0
IsBuilt signature built = IfSome built (λ bytes. bytes ≡ bytes_of signature)

-- ---- for private functions of this crate only

-- the signature is good by a key
abbrev pub is_good_of : Judge → SetSignature → Rr → Bool
is_good_of j signature = is_good_by j signature.set.now signature.sig.now
