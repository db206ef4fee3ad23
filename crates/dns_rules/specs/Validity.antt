-- When a signature fits a set and a key, and when it is good (RFC 4035, 5.3.1 and 5.3.3).
use Rattle.std.specs.Prelude.{Bool, true, false, not, ◌==◌, ◌&&◌, nat_le, Option, if◌then◌else◌}
use Rattle.std.specs.Option.{option_map_or}
use Rattle.dns_model.specs.Names.{name_eq, at_or_above, num_labels}
use Rattle.dns_model.specs.Views.{RrsigValue, DnskeyValue, is_zone_key, is_revoked}
use Rattle.dns_model.specs.Records.{Rr, RrSet}
use Rattle.dns_model.specs.RecordViews.{rrsig_of, dnskey_of}
use Rattle.dns_model.specs.Signing.{signed_bytes, key_tag_of}
use Rattle.dns_model.specs.Keys.{VerifierAnswers, usable_key}
use Rattle.dns_model.specs.Chains.{Judge, rdatas_of}

-- whether a signature fits a set, a key and a moment
pub data Validity : Type 0 where
  ValidRrsig : Validity
  -- the moment lies before its inception or after its expiration (RFC 4034, 3.1.5)
  ExpiredRrsig : Validity
  -- the key isn't the one that the signature names, or is no zone key
  WrongDnskey : Validity
  -- the signature isn't one of the set
  WrongRrsig : Validity

-- the signature stands at the set's owner and class, under a signer at or above it, over the set's type and no more labels
abbrev pub is_of_set : RrSet → Rr → RrsigValue → Bool
is_of_set set r sig =
    name_eq set.owner r.owner && ((set.class == r.class) && (at_or_above sig.signer set.owner
    && ((sig.covered == set.rtype) && nat_le sig.labels (num_labels set.owner))))

-- the key is the signer's, has the signature's algorithm and tag, and is a zone key
abbrev pub is_by_key : RrsigValue → Rr → DnskeyValue → Bool
is_by_key sig r key =
    name_eq sig.signer r.owner && ((key.algorithm == sig.algorithm) && ((key_tag_of r.rdata == sig.key_tag) && is_zone_key key))

-- by a key as it is read
abbrev pub key_validity : RrsigValue → Rr → Option DnskeyValue → Validity
key_validity sig r key = option_map_or (λ text. if is_by_key sig r text then ValidRrsig else WrongDnskey) key WrongDnskey

-- the first test that fails, of a signature as it is read, the moment and the key
abbrev pub sig_validity : (RrsigValue → Bool) → RrSet → Rr → Rr → Option RrsigValue → Validity
sig_validity is_timely set r key read =
    option_map_or
    (λ sig.
    if not (is_of_set set r sig) then WrongRrsig
    else if not (is_timely sig) then ExpiredRrsig
    else key_validity sig key (dnskey_of key))
    read WrongRrsig

-- a record of another type is neither signature nor key
unfoldable pub validity : (RrsigValue → Bool) → RrSet → Rr → Rr → Validity
validity is_timely set r key = sig_validity is_timely set r key (rrsig_of r)

abbrev pub is_valid : Validity → Bool
is_valid ValidRrsig = true
is_valid _ = false

-- the key may sign by a test of keys, and the verifier accepts its signature
abbrev pub is_accepted_where : (DnskeyValue → Bool) → Judge → RrSet → Option RrsigValue → Option DnskeyValue → Bool
is_accepted_where may_sign j set read key =
    option_map_or
    (λ sig.
    option_map_or
    (λ text.
    may_sign text
    && j.answers.accepts sig.algorithm text.key (signed_bytes set.owner set.rtype set.class (rdatas_of set.records) sig) sig.signature)
    key false)
    read false

abbrev pub is_accepted : Judge → RrSet → Option RrsigValue → Option DnskeyValue → Bool
is_accepted j = is_accepted_where (usable_key j.answers) j

-- the signature (second) of a set fits a key (third) that may sign by a test of keys, and is accepted
abbrev pub is_good_where : (DnskeyValue → Bool) → Judge → RrSet → Rr → Rr → Bool
is_good_where may_sign j set r key =
    is_valid (validity j.is_timely set r key) && is_accepted_where may_sign j set (rrsig_of r) (dnskey_of key)

-- it is good by the key: that may sign records
unfoldable pub is_good_by : Judge → RrSet → Rr → Rr → Bool
is_good_by j = is_good_where (usable_key j.answers) j

-- a key that may sign records but for the flag REVOKE: a zone's key that may with no other flag (RFC 5011, 2.1)
abbrev pub usable_but_for_revoke : VerifierAnswers → DnskeyValue → Bool
usable_but_for_revoke answers key = is_zone_key key && usable_key answers (record key { flags = 0x0100 })

-- it is good by the key but for that flag, with which a key signs that it is revoked
unfoldable pub is_good_but_for_revoke : Judge → RrSet → Rr → Rr → Bool
is_good_but_for_revoke j = is_good_where (usable_but_for_revoke j.answers) j

-- the key doesn't say that it is revoked
abbrev pub is_unrevoked : Option DnskeyValue → Bool
is_unrevoked key = option_map_or (λ text. not (is_revoked text)) key true
