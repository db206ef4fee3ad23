-- What is found with each rdata asked once is what the fact of a sighting says.
use Rattle.std.proofs.Common.{◌≡◌, ℕ, Bool, true, false, cond, ◌&&◌, ◌||◌, ◌==◌, List, [], ◌∷◌, Option, None, Some, is_some, refl, sym, ap, ◌∙◌}
use Rattle.std.specs.Prelude.{if◌then◌else◌}
use Rattle.std.specs.List.{filter, find, flat_map, list_all, list_any}
use Rattle.std.specs.Option.{option_map, option_map_or}
use Rattle.std.proofs.lemmas.Bool.{and_parts}
use Rattle.std.proofs.lemmas.Slice.Eq.{bytes_eq-Decides}
use Rattle.dns_model.specs.Names.{Labels, name_eq}
use Rattle.dns_model.specs.Types.{type_dnskey}
use Rattle.dns_model.specs.Views.{DnskeyValue, dnskey_in, is_revoked}
use Rattle.dns_model.specs.Records.{Rr, RrSet}
use Rattle.dns_model.specs.RecordViews.{dnskey_of}
use Rattle.dns_model.specs.Keys.{VerifierAnswers, bytes_eq}
use Rattle.dns_model.specs.Chains.{Judge}
use Rattle.dns_model.proofs.EachLemmas.{any_agree, find_agree}
use Rattle.dns_model.proofs.TestLemmas.{same_test}
use Rattle.dns_rules.specs.Validity.{is_good_by, is_good_but_for_revoke}
use Rattle.dns_rules.proofs.FindLemmas.{find-both}
use Rattle.dns_trust.specs.Signers.{AreOnce, TellsRdata}
use Rattle.dns_anchor_roll.specs.FollowedKeys.{counting, followed, is_unrevoked, key_bytes, shows_form}
use Rattle.dns_anchor_roll.specs.Sightings.{SightingValue}
use Rattle.dns_anchor_roll.specs.Facts.{accepted_ttl, is_good_by_any, is_signed_revoked, judge_at, may_accept, original_ttl, shows_revoked, tried}
use Rattle.dns_anchor_roll.specs.Findings.{may_revoke, stands_at}
use Rattle.dns_anchor_roll.proofs.Lists.{any_and, any_filter, any_flat_map, any_swap, is_some_find}
use Rattle.dns_anchor_roll.proofs.Alike.{IsKeyOf, counted_key, dnskeys_alike, good_alike, good_stands, revoked_alike, revoked_stands, signatures_good, signatures_revoked}

-- ---- each rdata once

all_step : {X : Type 0} (p : X → Bool) (b : Bool) (x : X) (xs : List X) → p x ≡ b → list_all p xs ≡ true
    → list_all p (cond b (x ∷ xs) xs) ≡ true
all_step p true x xs e h = ap (λ c. c && list_all p xs) e ∙ h
all_step p false x xs e h = h

all_pass : {X : Type 0} (p : X → Bool) (xs : List X) → list_all p (filter p xs) ≡ true
all_pass p [] = refl
all_pass p (x ∷ xs) = all_step p (p x) x (filter p xs) refl (all_pass p xs)

any_once : (once : List Rr) (may test : Rr → Bool) (all : List Rr) → AreOnce once (filter may all) → TellsRdata may test
    → list_any test once ≡ list_any test (filter may all)
any_once once may test all are tells =
    sym (is_some_find test once) ∙ ap is_some (are may test (all_pass may all) tells) ∙ is_some_find test (filter may all)

find_once : (once : List Rr) (may test : Rr → Bool) (all : List Rr) → AreOnce once (filter may all) → TellsRdata may test
    → ((x : Rr) → test x ≡ true → may x ≡ true) → find test once ≡ find test all
find_once once may test all are tells only =
    are may test (all_pass may all) tells
    ∙ sym (find-both may test all)
    ∙ find_agree (λ x. may x && test x) test (λ x. same_test (may x && test x) (test x) (λ h. (and_parts (may x) (test x) h).1)
    (λ h. ap (λ b. b && test x) (only x h) ∙ h)) all

any_standing : (once : List Rr) (may test : Rr → Bool) (all : List Rr) → AreOnce once (filter may all) → TellsRdata may test
    → ((x : Rr) → test x ≡ true → may x ≡ true) → list_any test once ≡ list_any test all
any_standing once may test all are tells only =
    sym (is_some_find test once) ∙ ap is_some (find_once once may test all are tells only) ∙ is_some_find test all

from_step : {X : Type 0} (p : X → Bool) (r : Bool) (x : X) (b rest : Bool) → p x ≡ b → (p x ≡ true → r ≡ true) → (rest ≡ true → r ≡ true)
    → (b || rest) ≡ true → r ≡ true
from_step p r x true rest e here later h = here e
from_step p r x false rest e here later h = later h

-- a test that some element passes, by what follows of each that does
pub from_any : {X : Type 0} (p : X → Bool) (r : Bool) → ((x : X) → p x ≡ true → r ≡ true) → (xs : List X) → list_any p xs ≡ true → r ≡ true
from_any p r each [] h = cc
from_any p r each (x ∷ xs) h = from_step p r x (p x) (list_any p xs) refl (each x) (from_any p r each xs) h

-- ---- the signature that accepts

accepting_keys : (zone : Labels) (trusted : List ℕ → Bool) (r : Rr) → may_accept zone trusted r ≡ true → IsKeyOf zone r
accepting_keys zone trusted r h =
    let parts = counted_key (λ text. is_unrevoked text && trusted (key_bytes text)) (name_eq zone r.owner) (r.rtype == type_dnskey)
    (dnskey_in r.rdata) h in
    record { owner = parts.0; rtype = parts.1 }

keys_tell : (j : Judge) (set : RrSet) (sig : Rr) (zone : Labels) (trusted : List ℕ → Bool)
    → TellsRdata (may_accept zone trusted) (is_good_by j set sig)
keys_tell j set sig zone trusted a b one other same =
    good_alike j set sig zone a b (accepting_keys zone trusted a one) (accepting_keys zone trusted b other) same

any_key_once : (j : Judge) (set : RrSet) (zone : Labels) (trusted : List ℕ → Bool) (once records : List Rr)
    → AreOnce once (filter (may_accept zone trusted) records) → (sig : Rr)
    → is_good_by_any j set once sig ≡ is_good_by_any j set (filter (may_accept zone trusted) records) sig
any_key_once j set zone trusted once records are sig =
    any_once once (may_accept zone trusted) (is_good_by j set sig) records are (keys_tell j set sig zone trusted)

signers_tell : (j : Judge) (set : RrSet) (keys : List Rr) → TellsRdata (stands_at set) (is_good_by_any j set keys)
signers_tell j set keys a b one other same =
    any_agree (is_good_by j set a) (is_good_by j set b) (λ key. signatures_good j set key a b one other same) keys

pub ttl_found : (answers : VerifierAnswers) (zone : Labels) (trusted : List ℕ → Bool) (s : SightingValue) (signatures keys : List Rr)
    → AreOnce signatures (filter (stands_at s.set) (tried zone s.set))
    → AreOnce keys (filter (may_accept zone trusted) s.set.records)
    → option_map original_ttl (find (is_good_by_any (judge_at answers s.moment) s.set keys) signatures)
    ≡ accepted_ttl answers zone trusted s
ttl_found answers zone trusted s signatures keys signed are =
    let j = judge_at answers s.moment in
    let all = filter (may_accept zone trusted) s.set.records in
    ap (option_map original_ttl)
    (find_agree (is_good_by_any j s.set keys) (is_good_by_any j s.set all) (any_key_once j s.set zone trusted keys s.set.records are) signatures
    ∙ find_once signatures (stands_at s.set) (is_good_by_any j s.set all) (tried zone s.set) signed (signers_tell j s.set all)
    (λ sig. from_any (is_good_by j s.set sig) (stands_at s.set sig) (λ key. good_stands j s.set sig key) all))

-- ---- the keys that are revoked

revoking_keys : (zone : Labels) (trusted : List ℕ → Bool) (accepted : Bool) (r : Rr) → may_revoke zone trusted accepted r ≡ true
    → IsKeyOf zone r
revoking_keys zone trusted accepted r h =
    let parts = counted_key (λ text. is_revoked text && (accepted || trusted (key_bytes text))) (name_eq zone r.owner)
    (r.rtype == type_dnskey) (dnskey_in r.rdata) h in
    record { owner = parts.0; rtype = parts.1 }

followed_alike : (zone : Labels) (a b : Rr) → IsKeyOf zone a → IsKeyOf zone b → a.rdata ≡ b.rdata → followed zone a ≡ followed zone b
followed_alike zone a b one other same =
    ap (λ (t : Bool). if t then counting (dnskey_of a) else None) (one.owner ∙ sym other.owner)
    ∙ ap (λ o. if name_eq zone b.owner then counting o else None) (dnskeys_alike zone a b one other same)

-- a record shows a key with the flag, and a signature is good by it but for that
abbrev revokes_by : Judge → RrSet → Labels → List ℕ → Rr → Rr → Bool
revokes_by j set zone key sig r = is_good_but_for_revoke j set sig r && shows_form zone is_revoked key r

forms_tell : (j : Judge) (set : RrSet) (sig : Rr) (zone : Labels) (trusted : List ℕ → Bool) (accepted : Bool) (key : List ℕ)
    → TellsRdata (may_revoke zone trusted accepted) (revokes_by j set zone key sig)
forms_tell j set sig zone trusted accepted key a b one other same =
    let first = revoking_keys zone trusted accepted a one in
    let second = revoking_keys zone trusted accepted b other in
    ap (λ t. t && shows_form zone is_revoked key a) (revoked_alike j set sig zone a b first second same)
    ∙ ap (λ o. is_good_but_for_revoke j set sig b
    && option_map_or (λ text. is_revoked text && bytes_eq key (key_bytes text)) o false) (followed_alike zone a b first second same)

and_nothing : (a : Bool) → (a && false) ≡ false
and_nothing true = refl
and_nothing false = refl

and_true : (a : Bool) → (a && true) ≡ a
and_true true = refl
and_true false = refl

flags : (revoked is accepted one other good : Bool) → (is ≡ true → one ≡ other)
    → ((revoked && (accepted || one)) && (good && (revoked && is))) ≡ ((accepted || other) && ((revoked && is) && good))
flags true true accepted one other good same =
    ap (λ b. (accepted || b) && (good && true)) (same refl) ∙ ap (λ b. (accepted || other) && b) (and_true good)
flags true false accepted one other good same =
    ap (λ b. (accepted || one) && b) (and_nothing good) ∙ and_nothing (accepted || one) ∙ sym (and_nothing (accepted || other))
flags false is accepted one other good same = sym (and_nothing (accepted || other))

revokes_if : (key : List ℕ) (trusted : List ℕ → Bool) (accepted good : Bool) (o : Option DnskeyValue)
    → (option_map_or (λ text. is_revoked text && (accepted || trusted (key_bytes text))) o false
    && (good && option_map_or (λ text. is_revoked text && bytes_eq key (key_bytes text)) o false))
    ≡ ((accepted || trusted key) && (option_map_or (λ text. is_revoked text && bytes_eq key (key_bytes text)) o false && good))
revokes_if key trusted accepted good None = sym (and_nothing (accepted || trusted key))
revokes_if key trusted accepted good (Some text) =
    flags (is_revoked text) (bytes_eq key (key_bytes text)) accepted (trusted (key_bytes text)) (trusted key) good
    (λ h. sym (ap trusted ((bytes_eq-Decides key (key_bytes text)).0 h)))

-- some record shows the key with the flag, and a signature is good by it but for that
abbrev revokes_some : Judge → RrSet → Labels → List ℕ → Rr → Bool
revokes_some j set zone key sig = list_any (λ r. shows_form zone is_revoked key r && is_good_but_for_revoke j set sig r) set.records

by_forms : (j : Judge) (set : RrSet) (zone : Labels) (trusted : List ℕ → Bool) (accepted : Bool) (key : List ℕ) (forms : List Rr)
    → AreOnce forms (filter (may_revoke zone trusted accepted) set.records) → (sig : Rr)
    → list_any (revokes_by j set zone key sig) forms ≡ ((accepted || trusted key) && revokes_some j set zone key sig)
by_forms j set zone trusted accepted key forms are sig =
    any_once forms (may_revoke zone trusted accepted) (revokes_by j set zone key sig) set.records are
    (forms_tell j set sig zone trusted accepted key)
    ∙ any_filter (revokes_by j set zone key sig) (may_revoke zone trusted accepted) set.records
    ∙ any_agree (λ r. may_revoke zone trusted accepted r && revokes_by j set zone key sig r)
    (λ r. (accepted || trusted key) && (shows_form zone is_revoked key r && is_good_but_for_revoke j set sig r))
    (λ r. revokes_if key trusted accepted (is_good_but_for_revoke j set sig r) (followed zone r)) set.records
    ∙ any_and (accepted || trusted key) (λ r. shows_form zone is_revoked key r && is_good_but_for_revoke j set sig r) set.records

some_tell : (j : Judge) (set : RrSet) (zone : Labels) (key : List ℕ) → TellsRdata (stands_at set) (revokes_some j set zone key)
some_tell j set zone key a b one other same =
    any_agree (λ r. shows_form zone is_revoked key r && is_good_but_for_revoke j set a r)
    (λ r. shows_form zone is_revoked key r && is_good_but_for_revoke j set b r)
    (λ r. ap (λ t. shows_form zone is_revoked key r && t) (signatures_revoked j set r a b one other same)) set.records

some_stands : (j : Judge) (set : RrSet) (zone : Labels) (key : List ℕ) (sig : Rr) → revokes_some j set zone key sig ≡ true
    → stands_at set sig ≡ true
some_stands j set zone key sig h =
    from_any (λ r. shows_form zone is_revoked key r && is_good_but_for_revoke j set sig r) (stands_at set sig)
    (λ r e. revoked_stands j set sig r (and_parts (shows_form zone is_revoked key r) (is_good_but_for_revoke j set sig r) e).1)
    set.records h

-- of the forms that each signature is good by, one is the key
by_signatures : (j : Judge) (set : RrSet) (zone : Labels) (key : List ℕ) (signatures forms : List Rr)
    → list_any (shows_form zone is_revoked key) (flat_map (λ sig. filter (is_good_but_for_revoke j set sig) forms) signatures)
    ≡ list_any (λ sig. list_any (revokes_by j set zone key sig) forms) signatures
by_signatures j set zone key signatures forms =
    any_flat_map (shows_form zone is_revoked key) (λ sig. filter (is_good_but_for_revoke j set sig) forms) signatures
    ∙ any_agree (λ sig. list_any (shows_form zone is_revoked key) (filter (is_good_but_for_revoke j set sig) forms))
    (λ sig. list_any (revokes_by j set zone key sig) forms)
    (λ sig. any_filter (shows_form zone is_revoked key) (is_good_but_for_revoke j set sig) forms) signatures

pub revoked_found : (answers : VerifierAnswers) (zone : Labels) (trusted : List ℕ → Bool) (accepted : Bool) (s : SightingValue)
    (signatures forms : List Rr) (key : List ℕ)
    → AreOnce signatures (filter (stands_at s.set) (tried zone s.set))
    → AreOnce forms (filter (may_revoke zone trusted accepted) s.set.records)
    → list_any (shows_form zone is_revoked key)
    (flat_map (λ sig. filter (is_good_but_for_revoke (judge_at answers s.moment) s.set sig) forms) signatures)
    ≡ ((accepted || trusted key) && shows_revoked answers zone s key)
revoked_found answers zone trusted accepted s signatures forms key signed are =
    let j = judge_at answers s.moment in
    let c = accepted || trusted key in
    by_signatures j s.set zone key signatures forms
    ∙ any_agree (λ sig. list_any (revokes_by j s.set zone key sig) forms) (λ sig. c && revokes_some j s.set zone key sig)
    (by_forms j s.set zone trusted accepted key forms are) signatures
    ∙ any_and c (revokes_some j s.set zone key) signatures
    ∙ ap (λ b. c && b)
    (any_standing signatures (stands_at s.set) (revokes_some j s.set zone key) (tried zone s.set) signed (some_tell j s.set zone key)
    (some_stands j s.set zone key)
    ∙ any_swap (λ sig r. shows_form zone is_revoked key r && is_good_but_for_revoke j s.set sig r) (tried zone s.set) s.set.records
    ∙ any_agree (λ r. list_any (λ sig. shows_form zone is_revoked key r && is_good_but_for_revoke j s.set sig r) (tried zone s.set))
    (λ r. shows_form zone is_revoked key r && is_signed_revoked j s.set (tried zone s.set) r)
    (λ r. any_and (shows_form zone is_revoked key r) (λ sig. is_good_but_for_revoke j s.set sig r) (tried zone s.set)) s.set.records)
