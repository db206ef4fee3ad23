-- What a signature is good by, where it is read, and where it can't be.
use Rattle.std.proofs.Common.{◌≡◌, ℕ, Bool, true, false, not, ◌&&◌, List, [], ◌∷◌, Option, None, Some, refl, sym, ap, ◌∙◌}
use Rattle.std.specs.Prelude.{if◌then◌else◌}
use Rattle.std.specs.List.{find}
use Rattle.std.proofs.lemmas.Bool.{and_right}
use Rattle.dns_model.specs.Views.{RrsigValue, DnskeyValue, is_revoked}
use Rattle.dns_model.specs.Records.{Rr, RrSet}
use Rattle.dns_model.specs.RecordViews.{rrsig_of, dnskey_of}
use Rattle.dns_model.specs.Signing.{signed_bytes}
use Rattle.dns_model.specs.Chains.{Judge, rdatas_of}
use Rattle.dns_rules.specs.Validity.{validity, is_valid, is_good_by, is_accepted_where, usable_but_for_revoke, is_good_but_for_revoke, is_unrevoked}
use Rattle.dns_rules.proofs.GoodLemmas.{good_unrevoked}
use Rattle.dns_rules.specs.MarkParts.{sig_validity, is_accepted}

-- by a key, where the signature is read
pub read_good : (j : Judge) (set : RrSet) (r key : Rr) (sig : RrsigValue) → rrsig_of r ≡ Some sig
    → is_good_by j set r key ≡ (is_valid (sig_validity j.is_timely set r key (Some sig)) && is_accepted j set (Some sig) (dnskey_of key))
unfolding is_good_by validity
read_good j set r key sig h = ap (λ o. is_valid (sig_validity j.is_timely set r key o) && is_accepted j set o (dnskey_of key)) h

-- by no key, where it can't be
pub unread_good : (j : Judge) (set : RrSet) (r key : Rr) → rrsig_of r ≡ None → is_good_by j set r key ≡ false
unfolding is_good_by validity
unread_good j set r key h = ap (λ o. is_valid (sig_validity j.is_timely set r key o) && is_accepted j set o (dnskey_of key)) h

-- a record that is no key makes nothing good
pub good_no_key : (j : Judge) (set : RrSet) (r key : Rr) (sig : RrsigValue) → rrsig_of r ≡ Some sig → dnskey_of key ≡ None
    → false ≡ is_good_by j set r key
good_no_key j set r key sig read none =
    sym (read_good j set r key sig read
    ∙ and_right (is_valid (sig_validity j.is_timely set r key (Some sig))) (is_accepted j set (Some sig) (dnskey_of key))
    (ap (is_accepted j set (Some sig)) none))

-- nor does a key that is revoked
pub good_revoked : (j : Judge) (set : RrSet) (r key : Rr) (text : DnskeyValue) → dnskey_of key ≡ Some text → is_revoked text ≡ true
    → false ≡ is_good_by j set r key
good_revoked j set r key text is revoked =
    sym (good_unrevoked j set r key
    ∙ and_right (is_good_but_for_revoke j set r key) (is_unrevoked (dnskey_of key)) (ap is_unrevoked is ∙ ap not revoked))

and_true : (a : Bool) → (a && true) ≡ a
and_true true = refl
and_true false = refl

-- and where it isn't, its flag decides nothing
pub good_as_unrevoked : (j : Judge) (set : RrSet) (r key : Rr) (text : DnskeyValue) → dnskey_of key ≡ Some text → is_revoked text ≡ false
    → is_good_by j set r key ≡ is_good_but_for_revoke j set r key
good_as_unrevoked j set r key text is unrevoked =
    good_unrevoked j set r key
    ∙ ap (λ b. is_good_but_for_revoke j set r key && b) (ap is_unrevoked is ∙ ap not unrevoked)
    ∙ and_true (is_good_but_for_revoke j set r key)

-- ---- but for the flag REVOKE

-- the key may sign but for it, and the verifier accepts
abbrev accepted_but_for_revoke : Judge → RrSet → Option RrsigValue → Option DnskeyValue → Bool
accepted_but_for_revoke j = is_accepted_where (usable_but_for_revoke j.answers) j

read_but_for_revoke : (j : Judge) (set : RrSet) (r key : Rr) (sig : RrsigValue) → rrsig_of r ≡ Some sig
    → is_good_but_for_revoke j set r key
    ≡ (is_valid (sig_validity j.is_timely set r key (Some sig)) && accepted_but_for_revoke j set (Some sig) (dnskey_of key))
unfolding is_good_but_for_revoke validity
read_but_for_revoke j set r key sig h =
    ap (λ o. is_valid (sig_validity j.is_timely set r key o) && accepted_but_for_revoke j set o (dnskey_of key)) h

-- a signature that can't be read is good by no key
pub unread_but_for_revoke : (j : Judge) (set : RrSet) (r key : Rr) → rrsig_of r ≡ None → is_good_but_for_revoke j set r key ≡ false
unfolding is_good_but_for_revoke validity
unread_but_for_revoke j set r key h =
    ap (λ o. is_valid (sig_validity j.is_timely set r key o) && accepted_but_for_revoke j set o (dnskey_of key)) h

-- nor is one by a record that is no key
pub no_key_but_for_revoke : (j : Judge) (set : RrSet) (r key : Rr) (sig : RrsigValue) → rrsig_of r ≡ Some sig → dnskey_of key ≡ None
    → is_good_but_for_revoke j set r key ≡ false
no_key_but_for_revoke j set r key sig read none =
    read_but_for_revoke j set r key sig read
    ∙ and_right (is_valid (sig_validity j.is_timely set r key (Some sig))) (accepted_but_for_revoke j set (Some sig) (dnskey_of key))
    (ap (accepted_but_for_revoke j set (Some sig)) none)

-- nor one that doesn't fit
pub good_invalid : (j : Judge) (set : RrSet) (r key : Rr) (sig : RrsigValue) → rrsig_of r ≡ Some sig
    → is_valid (sig_validity j.is_timely set r key (Some sig)) ≡ false → false ≡ is_good_but_for_revoke j set r key
good_invalid j set r key sig read invalid =
    sym (read_but_for_revoke j set r key sig read ∙ ap (λ b. b && accepted_but_for_revoke j set (Some sig) (dnskey_of key)) invalid)

-- nor one by a key that may not sign
pub good_unusable : (j : Judge) (set : RrSet) (r key : Rr) (sig : RrsigValue) (text : DnskeyValue) → rrsig_of r ≡ Some sig
    → dnskey_of key ≡ Some text → usable_but_for_revoke j.answers text ≡ false → false ≡ is_good_but_for_revoke j set r key
good_unusable j set r key sig text read is unusable =
    sym (read_but_for_revoke j set r key sig read
    ∙ and_right (is_valid (sig_validity j.is_timely set r key (Some sig))) (accepted_but_for_revoke j set (Some sig) (dnskey_of key))
    (ap (accepted_but_for_revoke j set (Some sig)) is
    ∙ ap (λ b. b && j.answers.accepts sig.algorithm text.key (signed_bytes set.owner set.rtype set.class (rdatas_of set.records) sig)
    sig.signature) unusable))

-- else the verifier decides
pub good_accepted : (j : Judge) (set : RrSet) (r key : Rr) (sig : RrsigValue) (text : DnskeyValue) (bytes : List ℕ) → rrsig_of r ≡ Some sig
    → is_valid (sig_validity j.is_timely set r key (Some sig)) ≡ true → dnskey_of key ≡ Some text
    → usable_but_for_revoke j.answers text ≡ true
    → bytes ≡ signed_bytes set.owner set.rtype set.class (rdatas_of set.records) sig
    → j.answers.accepts sig.algorithm text.key bytes sig.signature ≡ is_good_but_for_revoke j set r key
good_accepted j set r key sig text bytes read valid is usable built =
    sym (read_but_for_revoke j set r key sig read
    ∙ ap (λ b. b && accepted_but_for_revoke j set (Some sig) (dnskey_of key)) valid
    ∙ ap (accepted_but_for_revoke j set (Some sig)) is
    ∙ ap (λ b. b && j.answers.accepts sig.algorithm text.key (signed_bytes set.owner set.rtype set.class (rdatas_of set.records) sig)
    sig.signature) usable
    ∙ ap (λ bs. j.answers.accepts sig.algorithm text.key bs sig.signature) (sym built))

-- ---- by none of some keys

find_step : (b : Bool) (x : Rr) (o : Option Rr) → b ≡ false → o ≡ None → (if b then Some x else o) ≡ None
find_step true x o b_is h = cc
find_step false x o b_is h = h

-- no key makes a signature good that can't be read
pub unread_signer : (j : Judge) (set : RrSet) (r : Rr) (keys : List Rr) → rrsig_of r ≡ None → find (is_good_by j set r) keys ≡ None
unread_signer j set r [] h = refl
unread_signer j set r (key ∷ keys) h =
    find_step (is_good_by j set r key) key (find (is_good_by j set r) keys) (unread_good j set r key h) (unread_signer j set r keys h)
