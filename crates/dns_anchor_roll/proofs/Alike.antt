-- A signature is good by keys of one zone alike, where their rdata is one; and so are signatures of one rdata.
use Rattle.std.proofs.Common.{◌≡◌, ℕ, Bool, true, false, cond, not, ◌&&◌, ◌==◌, List, Option, None, Some, refl, sym, ap, ◌∙◌}
use Rattle.std.specs.Prelude.{if◌then◌else◌, nat_le}
use Rattle.std.specs.Option.{option_map_or}
use Rattle.std.proofs.lemmas.Bool.{and_parts, eqb-true}
use Rattle.dns_model.specs.Names.{Labels, name_eq, at_or_above, num_labels}
use Rattle.dns_model.specs.Types.{type_rrsig, type_dnskey}
use Rattle.dns_model.specs.Views.{RrsigValue, DnskeyValue, rrsig_in, dnskey_in, is_zone_key}
use Rattle.dns_model.specs.Records.{Rr, RrSet}
use Rattle.dns_model.specs.RecordViews.{rrsig_of, dnskey_of}
use Rattle.dns_model.specs.Signing.{key_tag_of}
use Rattle.dns_model.specs.Chains.{Judge}
use Rattle.dns_model.proofs.NameLemmas.{name_equiv}
use Rattle.dns_rules.specs.Validity.{Validity, ValidRrsig, ExpiredRrsig, WrongDnskey, WrongRrsig, is_accepted_where, is_good_by, is_good_but_for_revoke, is_good_where, is_valid, usable_but_for_revoke, validity}
use Rattle.dns_model.specs.Keys.{usable_key}
use Rattle.dns_anchor_roll.specs.FollowedKeys.{counting}
use Rattle.dns_anchor_roll.specs.Findings.{stands_at}

-- ---- by two records of one key

-- a record is a key of a zone
pub record IsKeyOf (zone : Labels) (r : Rr) : Type 0 where
  pub owner : name_eq zone r.owner ≡ true
  pub rtype : (r.rtype == type_dnskey) ≡ true

-- the tests of a good signature, by the parts of its key
abbrev good_by : Judge → (DnskeyValue → Bool) → RrSet → Rr → Option RrsigValue → (RrsigValue → Bool) → List ℕ → Option DnskeyValue → Bool
good_by j may set r read by_owner rdata key =
    is_valid (option_map_or (λ sig.
    if not (name_eq set.owner r.owner && ((set.class == r.class) && (at_or_above sig.signer set.owner
    && ((sig.covered == set.rtype) && nat_le sig.labels (num_labels set.owner))))) then WrongRrsig
    else if not (j.is_timely sig) then ExpiredRrsig
    else option_map_or (λ text.
    if by_owner sig && ((text.algorithm == sig.algorithm) && ((key_tag_of rdata == sig.key_tag) && is_zone_key text))
    then ValidRrsig else WrongDnskey) key WrongDnskey)
    read WrongRrsig)
    && is_accepted_where may j set read key

owners_alike : (zone a b signer : Labels) → name_eq zone a ≡ true → name_eq zone b ≡ true → name_eq signer a ≡ name_eq signer b
owners_alike zone a b signer one other =
    name_equiv.symm signer a
    ∙ sym (name_equiv.congr zone a signer one)
    ∙ name_equiv.congr zone b signer other
    ∙ name_equiv.symm b signer

read_alike : {X : Type 0} (a b : Bool) (read : List ℕ → Option X) (one other : List ℕ) → a ≡ true → b ≡ true → one ≡ other
    → (if a then read one else None) ≡ (if b then read other else None)
read_alike a b read one other e f same =
    ap (λ (t : Bool). if t then read one else None) e ∙ ap read same ∙ sym (ap (λ (t : Bool). if t then read other else None) f)

pub dnskeys_alike : (zone : Labels) (a b : Rr) → IsKeyOf zone a → IsKeyOf zone b → a.rdata ≡ b.rdata → dnskey_of a ≡ dnskey_of b
dnskeys_alike zone a b one other same =
    read_alike (a.rtype == type_dnskey) (b.rtype == type_dnskey) dnskey_in a.rdata b.rdata one.rtype other.rtype same

by_owner_alike : (j : Judge) (may : DnskeyValue → Bool) (set : RrSet) (r : Rr) (read : Option RrsigValue) (one other : Labels)
    (rdata : List ℕ) (key : Option DnskeyValue)
    → ((signer : Labels) → name_eq signer one ≡ name_eq signer other)
    → good_by j may set r read (λ sig. name_eq sig.signer one) rdata key ≡ good_by j may set r read (λ sig. name_eq sig.signer other) rdata key
by_owner_alike j may set r None one other rdata key same = refl
by_owner_alike j may set r (Some sig) one other rdata key same =
    ap (λ b. good_by j may set r (Some sig) (λ s. b) rdata key) (same sig.signer)

pub where_alike : (j : Judge) (may : DnskeyValue → Bool) (set : RrSet) (r : Rr) (zone : Labels) (a b : Rr) → IsKeyOf zone a → IsKeyOf zone b
    → a.rdata ≡ b.rdata → is_good_where may j set r a ≡ is_good_where may j set r b
unfolding validity
where_alike j may set r zone a b one other same =
    by_owner_alike j may set r (rrsig_of r) a.owner b.owner a.rdata (dnskey_of a)
    (λ signer. owners_alike zone a.owner b.owner signer one.owner other.owner)
    ∙ ap (λ rdata. good_by j may set r (rrsig_of r) (λ sig. name_eq sig.signer b.owner) rdata (dnskey_of a)) same
    ∙ ap (good_by j may set r (rrsig_of r) (λ sig. name_eq sig.signer b.owner) b.rdata) (dnskeys_alike zone a b one other same)

pub good_alike : (j : Judge) (set : RrSet) (r : Rr) (zone : Labels) (a b : Rr) → IsKeyOf zone a → IsKeyOf zone b → a.rdata ≡ b.rdata
    → is_good_by j set r a ≡ is_good_by j set r b
unfolding is_good_by
good_alike j set r zone a b one other same = where_alike j (usable_key j.answers) set r zone a b one other same

pub revoked_alike : (j : Judge) (set : RrSet) (r : Rr) (zone : Labels) (a b : Rr) → IsKeyOf zone a → IsKeyOf zone b → a.rdata ≡ b.rdata
    → is_good_but_for_revoke j set r a ≡ is_good_but_for_revoke j set r b
unfolding is_good_but_for_revoke
revoked_alike j set r zone a b one other same = where_alike j (usable_but_for_revoke j.answers) set r zone a b one other same

-- ---- two records of one signature

and_three : (a b c : Bool) → (a && (b && c)) ≡ true → (a ≡ true) × (b ≡ true) × (c ≡ true)
and_three a b c h = let one = and_parts a (b && c) h in let two = and_parts b c one.1 in (one.0, two.0, two.1)

-- the tests of a good signature, by the parts of its record
abbrev good_at : Judge → (DnskeyValue → Bool) → RrSet → Rr → Bool → Bool → Option RrsigValue → Bool
good_at j may set key owner class read =
    is_valid (option_map_or (λ sig.
    if not (owner && (class && (at_or_above sig.signer set.owner
    && ((sig.covered == set.rtype) && nat_le sig.labels (num_labels set.owner))))) then WrongRrsig
    else if not (j.is_timely sig) then ExpiredRrsig
    else option_map_or (λ text.
    if name_eq sig.signer key.owner && ((text.algorithm == sig.algorithm) && ((key_tag_of key.rdata == sig.key_tag) && is_zone_key text))
    then ValidRrsig else WrongDnskey) (dnskey_of key) WrongDnskey)
    read WrongRrsig)
    && is_accepted_where may j set read (dnskey_of key)

signatures_where : (j : Judge) (may : DnskeyValue → Bool) (set : RrSet) (key a b : Rr) → stands_at set a ≡ true → stands_at set b ≡ true
    → a.rdata ≡ b.rdata → is_good_where may j set a key ≡ is_good_where may j set b key
unfolding validity
signatures_where j may set key a b one other same =
    let p = and_three (name_eq set.owner a.owner) (set.class == a.class) (a.rtype == type_rrsig) one in
    let q = and_three (name_eq set.owner b.owner) (set.class == b.class) (b.rtype == type_rrsig) other in
    ap (λ o. good_at j may set key o (set.class == a.class) (rrsig_of a)) (p.0 ∙ sym q.0)
    ∙ ap (λ c. good_at j may set key (name_eq set.owner b.owner) c (rrsig_of a)) (p.1 ∙ sym q.1)
    ∙ ap (good_at j may set key (name_eq set.owner b.owner) (set.class == b.class))
    (read_alike (a.rtype == type_rrsig) (b.rtype == type_rrsig) rrsig_in a.rdata b.rdata p.2 q.2 same)

pub signatures_good : (j : Judge) (set : RrSet) (key a b : Rr) → stands_at set a ≡ true → stands_at set b ≡ true → a.rdata ≡ b.rdata
    → is_good_by j set a key ≡ is_good_by j set b key
unfolding is_good_by
signatures_good j set key a b one other same = signatures_where j (usable_key j.answers) set key a b one other same

pub signatures_revoked : (j : Judge) (set : RrSet) (key a b : Rr) → stands_at set a ≡ true → stands_at set b ≡ true → a.rdata ≡ b.rdata
    → is_good_but_for_revoke j set a key ≡ is_good_but_for_revoke j set b key
unfolding is_good_but_for_revoke
signatures_revoked j set key a b one other same = signatures_where j (usable_but_for_revoke j.answers) set key a b one other same

-- ---- a signature that doesn't stand at its set

apart_at : (j : Judge) (may : DnskeyValue → Bool) (set : RrSet) (key : Rr) (owner class rtype : Bool) (read : Option RrsigValue)
    → good_at j may set key owner class (if rtype then read else None) ≡ true → (owner && (class && rtype)) ≡ true
apart_at j may set key true true true read h = refl
apart_at j may set key owner class false read h = cc
apart_at j may set key true false true None h = cc
apart_at j may set key true false true (Some sig) h = cc
apart_at j may set key false class true None h = cc
apart_at j may set key false class true (Some sig) h = cc

where_stands : (j : Judge) (may : DnskeyValue → Bool) (set : RrSet) (r key : Rr) → is_good_where may j set r key ≡ true
    → stands_at set r ≡ true
unfolding validity
where_stands j may set r key h =
    apart_at j may set key (name_eq set.owner r.owner) (set.class == r.class) (r.rtype == type_rrsig) (rrsig_in r.rdata) h

pub good_stands : (j : Judge) (set : RrSet) (r key : Rr) → is_good_by j set r key ≡ true → stands_at set r ≡ true
unfolding is_good_by
good_stands j set r key h = where_stands j (usable_key j.answers) set r key h

pub revoked_stands : (j : Judge) (set : RrSet) (r key : Rr) → is_good_but_for_revoke j set r key ≡ true → stands_at set r ≡ true
unfolding is_good_but_for_revoke
revoked_stands j set r key h = where_stands j (usable_but_for_revoke j.answers) set r key h

-- ---- a record that counts as a key

pub counted_key : (t : DnskeyValue → Bool) (owner rtype : Bool) (read : Option DnskeyValue)
    → option_map_or t (if owner then counting (if rtype then read else None) else None) false ≡ true → (owner ≡ true) × (rtype ≡ true)
counted_key t true true read h = (refl, refl)
counted_key t true false read h = cc
counted_key t false rtype read h = cc
