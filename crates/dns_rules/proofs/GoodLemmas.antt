-- A good signature of a set makes a link that holds.
use Rattle.std.proofs.Common.{◌≡◌, ℕ, Bool, true, false, not, ◌==◌, ◌&&◌, List, Option, None, Some, refl, sym, ap, ◌∙◌}
use Rattle.std.specs.Prelude.{nat_le, if◌then◌else◌}
use Rattle.std.proofs.lemmas.Bool.{and_parts, and_from}
use Rattle.dns_model.specs.Names.{Labels, name_eq, at_or_above, num_labels}
use Rattle.dns_model.specs.Types.{type_rrsig, type_dnskey}
use Rattle.dns_model.specs.Views.{RrsigValue, DnskeyValue, rrsig_in, dnskey_in, is_zone_key, is_revoked}
use Rattle.dns_model.specs.RecordViews.{rrsig_of, dnskey_of}
use Rattle.dns_model.proofs.RecordViewLemmas.{rrsig_read, dnskey_read}
use Rattle.dns_model.specs.Signing.{signed_bytes, key_tag_of}
use Rattle.dns_model.specs.Records.{Rr, RrSet}
use Rattle.dns_model.specs.Keys.{usable_key}
use Rattle.dns_model.specs.Chains.{LinkValue, Signed, Judge, is_nonempty, rdatas_of, signer_fits, never_expanded, right_below_signer, is_good, key_comes, is_signed, link_holds}
use Rattle.dns_model.proofs.SetLemmas.{number_same, IsProper}
use Rattle.dns_rules.specs.Validity.{Validity, ValidRrsig, ExpiredRrsig, WrongDnskey, WrongRrsig, is_of_set, is_by_key, validity, is_valid, is_accepted_where, is_good_by, usable_but_for_revoke, is_good_but_for_revoke, is_unrevoked}
use Rattle.dns_rules.specs.MarkParts.{key_validity, sig_validity, is_accepted}

-- ---- what a good signature is

-- the tests of a good signature, taken apart
pub record IsGoodRead (j : Judge) (set : RrSet) (r key : Rr) (sig : RrsigValue) : Type 0 where
  pub text : DnskeyValue
  pub read : dnskey_of key ≡ Some text
  pub of_set : is_of_set set r sig ≡ true
  pub timely : j.is_timely sig ≡ true
  pub by_key : is_by_key sig key text ≡ true
  pub accepted : is_accepted j set (Some sig) (Some text) ≡ true

valid_parts : (fits timely : Bool) (rest : Validity)
    → is_valid (if not fits then WrongRrsig else if not timely then ExpiredRrsig else rest) ≡ true
    → (fits ≡ true) × (timely ≡ true) × (is_valid rest ≡ true)
valid_parts true true rest h = (refl, refl, h)
valid_parts true false rest h = cc
valid_parts false timely rest h = cc

by_key_is : (b : Bool) → is_valid (if b then ValidRrsig else WrongDnskey) ≡ true → b ≡ true
by_key_is true h = refl
by_key_is false h = cc

good_by_key : (j : Judge) (set : RrSet) (r key : Rr) (sig : RrsigValue) (o : Option DnskeyValue) → dnskey_of key ≡ o
    → is_of_set set r sig ≡ true → j.is_timely sig ≡ true
    → is_valid (key_validity sig key o) ≡ true → is_accepted j set (Some sig) o ≡ true → IsGoodRead j set r key sig
good_by_key j set r key sig None is fits timely valid accepted = cc
good_by_key j set r key sig (Some text) is fits timely valid accepted = record {
  text = text;
  read = is;
  of_set = fits;
  timely = timely;
  by_key = by_key_is (is_by_key sig key text) valid;
  accepted = accepted;
}

pub good_parts : (j : Judge) (set : RrSet) (r key : Rr) (sig : RrsigValue) → rrsig_of r ≡ Some sig → is_good_by j set r key ≡ true
    → IsGoodRead j set r key sig
unfolding is_good_by validity
good_parts j set r key sig is good =
    let both = and_parts (is_valid (sig_validity j.is_timely set r key (rrsig_of r)))
    (is_accepted j set (rrsig_of r) (dnskey_of key)) good in
    let valid : is_valid (sig_validity j.is_timely set r key (Some sig)) ≡ true =
    ap (λ o. is_valid (sig_validity j.is_timely set r key o)) (sym is) ∙ both.0 in
    let accepted : is_accepted j set (Some sig) (dnskey_of key) ≡ true = ap (λ o. is_accepted j set o (dnskey_of key)) (sym is) ∙ both.1 in
    let parts = valid_parts (is_of_set set r sig) (j.is_timely sig) (key_validity sig key (dnskey_of key)) valid in
    good_by_key j set r key sig (dnskey_of key) refl parts.0 parts.1 parts.2 accepted

-- ---- a good signature, and one that is good but for the flag REVOKE

usable_parts : (zone revoked rest accepts : Bool)
    → ((zone && (not revoked && rest)) && accepts) ≡ (((zone && rest) && accepts) && not revoked)
usable_parts false revoked rest accepts = refl
usable_parts true false false accepts = refl
usable_parts true false true false = refl
usable_parts true false true true = refl
usable_parts true true false accepts = refl
usable_parts true true true false = refl
usable_parts true true true true = refl

revoked_apart : (j : Judge) (set : RrSet) (read : Option RrsigValue) (key : Option DnskeyValue)
    → is_accepted j set read key ≡ (is_accepted_where (usable_but_for_revoke j.answers) j set read key && is_unrevoked key)
revoked_apart j set None key = refl
revoked_apart j set (Some sig) None = refl
revoked_apart j set (Some sig) (Some text) =
    usable_parts (is_zone_key text) (is_revoked text) ((text.protocol == 3) && j.answers.supports text.algorithm)
    (j.answers.accepts sig.algorithm text.key (signed_bytes set.owner set.rtype set.class (rdatas_of set.records) sig) sig.signature)

and_again : (a b c : Bool) → (a && (b && c)) ≡ ((a && b) && c)
and_again true b c = refl
and_again false b c = refl

-- a signature is good by a key exactly where it is but for the flag REVOKE, and the key isn't revoked
pub good_unrevoked : (j : Judge) (set : RrSet) (r key : Rr)
    → is_good_by j set r key ≡ (is_good_but_for_revoke j set r key && is_unrevoked (dnskey_of key))
unfolding is_good_by is_good_but_for_revoke
good_unrevoked j set r key =
    ap (λ b. is_valid (validity j.is_timely set r key) && b) (revoked_apart j set (rrsig_of r) (dnskey_of key))
    ∙ and_again (is_valid (validity j.is_timely set r key))
    (is_accepted_where (usable_but_for_revoke j.answers) j set (rrsig_of r) (dnskey_of key)) (is_unrevoked (dnskey_of key))

-- ---- what it is of

-- the name that a good signature gives is that of its key
pub signer_is_owner : (j : Judge) (set : RrSet) (r key : Rr) (sig : RrsigValue) → IsGoodRead j set r key sig
    → name_eq sig.signer key.owner ≡ true
signer_is_owner j set r key sig good =
    (and_parts (name_eq sig.signer key.owner)
    ((good.text.algorithm == sig.algorithm) && ((key_tag_of key.rdata == sig.key_tag) && is_zone_key good.text)) good.by_key).0

-- ---- the same tests in a link

and_four : (a b c d : Bool) → (a && (b && (c && d))) ≡ true → (a ≡ true) × (b ≡ true) × (c ≡ true) × (d ≡ true)
and_four a b c d h =
    let one = and_parts a (b && (c && d)) h in
    let two = and_parts b (c && d) one.1 in
    let three = and_parts c d two.1 in
    (one.0, two.0, three.0, three.1)

good_again : (usable algorithm tag timely accepts : Bool) → usable ≡ true → algorithm ≡ true → tag ≡ true → timely ≡ true → accepts ≡ true
    → (usable && (algorithm && (tag && (timely && accepts)))) ≡ true
good_again usable algorithm tag timely accepts a b c d e = rw (a, b, c, d, e) refl

pub good_in_link : (j : Judge) (set : RrSet) (r key : Rr) (sig : RrsigValue) → IsGoodRead j set r key sig
    → is_good j set.owner set.class set.rtype (rdatas_of set.records) sig key.rdata (dnskey_in key.rdata) ≡ true
good_in_link j set r key sig good =
    let text = good.text in
    let accepts = j.answers.accepts sig.algorithm text.key (signed_bytes set.owner set.rtype set.class (rdatas_of set.records) sig)
    sig.signature in
    let by = and_four (name_eq sig.signer key.owner) (text.algorithm == sig.algorithm) (key_tag_of key.rdata == sig.key_tag)
    (is_zone_key text) good.by_key in
    let to = and_parts (usable_key j.answers text) accepts good.accepted in
    ap (is_good j set.owner set.class set.rtype (rdatas_of set.records) sig key.rdata) (dnskey_read key text good.read)
    ∙ good_again (usable_key j.answers text) (text.algorithm == sig.algorithm) (key_tag_of key.rdata == sig.key_tag)
    (j.is_timely sig) accepts
    to.0 by.1 by.2 good.timely to.1

-- the parts of a test that a signature is of a set
pub record IsOfSet (set : RrSet) (r : Rr) (sig : RrsigValue) : Type 0 where
  pub owner : name_eq set.owner r.owner ≡ true
  pub class : (set.class == r.class) ≡ true
  pub above : at_or_above sig.signer set.owner ≡ true
  pub covered : (sig.covered == set.rtype) ≡ true
  pub labels : nat_le sig.labels (num_labels set.owner) ≡ true

pub of_set_parts : (set : RrSet) (r : Rr) (sig : RrsigValue) → is_of_set set r sig ≡ true → IsOfSet set r sig
of_set_parts set r sig h =
    let last = (sig.covered == set.rtype) && nat_le sig.labels (num_labels set.owner) in
    let front = and_four (name_eq set.owner r.owner) (set.class == r.class) (at_or_above sig.signer set.owner) last h in
    let back = and_parts (sig.covered == set.rtype) (nat_le sig.labels (num_labels set.owner)) front.3 in
    record { owner = front.0; class = front.1; above = front.2; covered = back.0; labels = back.1 }

-- a key set is neither NSEC nor NSEC3
pub keys_unexpanded : (rtype labels : ℕ) (owner : Labels) → (rtype == type_dnskey) ≡ true → never_expanded rtype labels owner ≡ true
keys_unexpanded rtype labels owner keys = rw (number_same rtype type_dnskey keys) refl

pub keys_anywhere : (rtype : ℕ) (signer owner : Labels) → (rtype == type_dnskey) ≡ true → right_below_signer rtype signer owner ≡ true
keys_anywhere rtype signer owner keys = rw (number_same rtype type_dnskey keys) refl

-- ---- the link

-- what stands beside a good signature in a link
pub record Fits (earlier : List LinkValue) (set : RrSet) (sig : RrsigValue) (key_link : ℕ) (key : List ℕ) : Type 0 where
  pub unexpanded : never_expanded set.rtype sig.labels set.owner ≡ true
  pub below : right_below_signer set.rtype sig.signer set.owner ≡ true
  pub signer : signer_fits set.rtype sig.signer set.owner ≡ true
  pub comes : key_comes earlier set.owner set.class set.rtype (rdatas_of set.records) sig.signer key_link key ≡ true

and_seven : (a b c d e f g : Bool) → a ≡ true → b ≡ true → c ≡ true → d ≡ true → e ≡ true → f ≡ true → g ≡ true
    → (a && (b && (c && (d && (e && (f && g)))))) ≡ true
and_seven a b c d e f g p q r s t u v = rw (p, q, r, s, t, u, v) refl

-- the signed link of a proper set holds where the signature is good and the rest fits
pub signed_holds : (j : Judge) (earlier : List LinkValue) (set : RrSet) (r key : Rr) (sig : RrsigValue) (key_link : ℕ)
    → IsProper set → rrsig_of r ≡ Some sig → is_good_by j set r key ≡ true → Fits earlier set sig key_link key.rdata
    → link_holds j earlier (Signed set.owner set.class set.rtype (rdatas_of set.records) r.rdata key_link key.rdata) ≡ true
unfolding link_holds
signed_holds j earlier set r key sig key_link proper is good fits =
    let rdatas = rdatas_of set.records in
    let text = good_parts j set r key sig is good in
    let of_set = of_set_parts set r sig text.of_set in
    let signed : is_signed j earlier set.owner set.class set.rtype rdatas key_link key.rdata (Some sig) ≡ true =
    and_seven (sig.covered == set.rtype) (signer_fits set.rtype sig.signer set.owner) (nat_le sig.labels (num_labels set.owner))
    (never_expanded set.rtype sig.labels set.owner) (right_below_signer set.rtype sig.signer set.owner)
    (is_good j set.owner set.class set.rtype rdatas sig key.rdata (dnskey_in key.rdata))
    (key_comes earlier set.owner set.class set.rtype rdatas sig.signer key_link key.rdata)
    of_set.covered fits.signer of_set.labels fits.unexpanded fits.below (good_in_link j set r key sig text) fits.comes in
    let read : is_signed j earlier set.owner set.class set.rtype rdatas key_link key.rdata (rrsig_in r.rdata) ≡ true =
    ap (is_signed j earlier set.owner set.class set.rtype rdatas key_link key.rdata) (rrsig_read r sig is) ∙ signed in
    and_from (not (set.rtype == type_rrsig)) (is_nonempty rdatas
    && is_signed j earlier set.owner set.class set.rtype rdatas key_link key.rdata (rrsig_in r.rdata))
    (ap not proper.plain)
    (and_from (is_nonempty rdatas) (is_signed j earlier set.owner set.class set.rtype rdatas key_link key.rdata (rrsig_in r.rdata))
    proper.listed read)
