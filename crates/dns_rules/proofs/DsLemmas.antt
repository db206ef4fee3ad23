-- The keys of a set that an anchor or a DS trusts, and the links by which they are (RFC 4035, 5.2).
use Rattle.std.proofs.Common.{◌≡◌, ℕ, suc, ◌-◌, Bool, true, false, ◌==◌, ◌&&◌, ◌||◌, List, [], ◌∷◌, ◌++◌, length, Option, None, Some, refl, sym, ap, ◌∙◌, subst, arith}
use Rattle.std.specs.Prelude.{is_some, if◌then◌else◌}
use Rattle.std.specs.Option.{option_map, option_map_or}
use Rattle.std.specs.List.{filter, find, list_any, slice_get, AllByRecursion}
use Rattle.std.proofs.lemmas.Bool.{and_parts, and_from}
use Rattle.dns_model.specs.declared.proof.Proof.{Proof}
use Rattle.dns_model.specs.declared.proof.Proof.TheVariants.{Secure, Insecure, Bogus, Indeterminate}
use Rattle.dns_model.specs.declared.section.Section.TheVariants.{Answer}
use Rattle.dns_model.specs.Names.{Labels, name_eq}
use Rattle.dns_model.specs.Types.{type_ds, type_dnskey}
use Rattle.dns_model.specs.Records.{Rr, RrSet}
use Rattle.dns_model.specs.Keys.{VerifierAnswers, ds_covers_key}
use Rattle.dns_model.specs.Chains.{LinkValue, Anchored, Matched, KeySet, Signed, Judge, has_bytes, rdatas_of, same_rdatas, shows_key, shows_ds, link_holds, links_hold, is_nonempty, last_link, link_is_for}
use Rattle.dns_model.specs.SoundAnswers.{is_secure, section_eq}
use Rattle.dns_model.proofs.EachLemmas.{each_filter, each_more, find-map, find_known}
use Rattle.dns_model.proofs.SetLemmas.{number_same}
use Rattle.dns_model.proofs.ChainLemmas.{each_member, member_shown, anchor_shown}
use Rattle.dns_rules.specs.MarkedSets.{MarkedSet}
use Rattle.dns_rules.specs.Delegations.{ZoneVerdict, counted_ds, is_ds_for, matching_ds, is_supported_ds, is_readable_ds, is_ds_set_of, shows_no_ds, shows_no_ds_by_hash, is_insecure_above, verdict_by_ds, verdict_without_ds, zone_verdict}
use Rattle.dns_rules.specs.Delegations as zone
use Rattle.dns_rules.specs.ProofErrors.{DsRecordShouldExist, DsResponseInsecure, UnknownKeyAlgorithm}
use Rattle.dns_rules.specs.KeySets.{is_anchored_key, is_matched_key, is_trusted_key}
use Rattle.dns_rules.specs.ChainedSets.{ChainedSet, bare, stands, anchored_link, matched_link, matched_by, trusted_link, ds_chain}
use Rattle.dns_rules.proofs.FindLemmas.{each_taken}
use Rattle.dns_rules.proofs.StandLemmas.{stands_parts}
use Rattle.dns_rules.proofs.ChainedLemmas.{AllStand, IsGoodAnswer}
use Rattle.dns_rules.proofs.KeyLinkLemmas.{IsKeyLink}

-- ---- an anchored key

anchored_rdata : (j : Judge) (set : RrSet) (key : Rr) → is_anchored_key j set key ≡ true → j.is_anchored set.owner key.rdata ≡ true
anchored_rdata j set key h =
    let one = and_parts (key.rtype == type_dnskey) (name_eq set.owner key.owner && j.is_anchored set.owner key.rdata) h in
    (and_parts (name_eq set.owner key.owner) (j.is_anchored set.owner key.rdata) one.1).1

-- the link of an anchored key holds behind any others
pub anchored_by : (j : Judge) (set : RrSet) (front : List LinkValue) (key : Rr) → is_anchored_key j set key ≡ true
    → IsKeyLink j set front key (anchored_link set key)
unfolding link_holds
anchored_by j set front key h = record {
  holds = λ more. anchored_rdata j set key h;
  shown = anchor_shown set.owner set.class key.rdata;
}

-- ---- a key that a DS matches

-- the last of some links shows each of these DS records, and all the links hold
pub record ShowsDs (j : Judge) (set : RrSet) (front : List LinkValue) (ds : List Rr) : Type 0 where
  pub held : links_hold j [] front ≡ true
  pub shown : (more : List LinkValue)
      → AllByRecursion (λ r. shows_ds set.owner set.class r.rdata (slice_get (front ++ more) (length front - 1)) ≡ true) ds

-- so it does of some of them
pub shows_of : (j : Judge) (set : RrSet) (front : List LinkValue) (ds : List Rr) (test : Rr → Bool) → ShowsDs j set front ds
    → ShowsDs j set front (filter test ds)
shows_of j set front ds test shows = record {
  held = shows.held;
  shown = λ more.
      each_filter (λ r. shows_ds set.owner set.class r.rdata (slice_get (front ++ more) (length front - 1)) ≡ true) test ds
      (shows.shown more);
}

kept_twice : {X : Type 0} (test : X → Bool) (x : X) (xs : List X) (b : Bool) → test x ≡ b
    → filter test (if b then x ∷ xs else xs) ≡ (if b then x ∷ filter test xs else filter test xs)
kept_twice test x xs true is = ap (λ c. if c then x ∷ filter test xs else filter test xs) is
kept_twice test x xs false is = refl

-- what passes a test is what passes it again
pub filter-filter : {X : Type 0} (test : X → Bool) (xs : List X) → filter test (filter test xs) ≡ filter test xs
filter-filter test [] = refl
filter-filter test (x ∷ xs) =
    kept_twice test x (filter test xs) (test x) refl ∙ ap (λ ys. if test x then x ∷ ys else ys) (filter-filter test xs)

matched_shown : (owner : Labels) (class : ℕ) (key : List ℕ) (ds_link : ℕ) (ds : List ℕ)
    → shows_key owner class key (Some (Matched owner class key ds_link ds)) ≡ true
matched_shown owner class key ds_link ds = anchor_shown owner class key

matched_step : (j : Judge) (set : RrSet) (front : List LinkValue) (ds : List Rr) (key : Rr) (o : Option Rr) → ShowsDs j set front ds
    → matching_ds j.answers set.owner key ds ≡ o → is_some o ≡ true
    → IsKeyLink j set front key (option_map_or (matched_link set (length front - 1) key) o (anchored_link set key))
unfolding link_holds
matched_step j set front ds key None shows is h = cc
matched_step j set front ds key (Some d) shows is h =
    let last = length front - 1 in
    let test = λ (r : Rr). ds_covers_key j.answers set.owner key.rdata r.rdata in
    record {
      holds = λ more.
          let Shown = λ (r : Rr). shows_ds set.owner set.class r.rdata (slice_get (front ++ more) last) ≡ true in
          let counted = each_taken Shown 2 (filter (is_ds_for set.owner key) ds)
          (each_filter Shown (is_ds_for set.owner key) ds (shows.shown more)) in
          let found = find_known test Shown (counted_ds set.owner key ds) d counted is in
          and_from (shows_ds set.owner set.class d.rdata (slice_get (front ++ more) last)) (test d) found.known found.passes;
      shown = matched_shown set.owner set.class key.rdata last d.rdata;
    }

-- the link of a matched key holds behind the chain of the DS set
pub matched_by_ds : (j : Judge) (set : RrSet) (front : List LinkValue) (ds : List Rr) (key : Rr) → ShowsDs j set front ds
    → is_matched_key j set ds key ≡ true → IsKeyLink j set front key (matched_by j set (length front - 1) ds key)
matched_by_ds j set front ds key shows h =
    let some = (and_parts (name_eq set.owner key.owner) (is_some (matching_ds j.answers set.owner key ds)) h).1 in
    matched_step j set front ds key (matching_ds j.answers set.owner key ds) shows refl some

trusted_step : (j : Judge) (set : RrSet) (front : List LinkValue) (ds : List Rr) (key : Rr) (b m : Bool)
    → (b ≡ true → IsKeyLink j set front key (anchored_link set key))
    → (m ≡ true → IsKeyLink j set front key (matched_by j set (length front - 1) ds key))
    → (b || m) ≡ true
    → IsKeyLink j set front key (if b then anchored_link set key else matched_by j set (length front - 1) ds key)
trusted_step j set front ds key true m anchored matched h = anchored refl
trusted_step j set front ds key false m anchored matched h = matched h

-- that of a key that is the one or the other
pub trusted_by : (j : Judge) (set : RrSet) (front : List LinkValue) (ds : List Rr) (key : Rr) → ShowsDs j set front ds
    → is_trusted_key j set ds key ≡ true → IsKeyLink j set front key (trusted_link j set (length front - 1) ds key)
trusted_by j set front ds key shows h =
    trusted_step j set front ds key (is_anchored_key j set key) (is_matched_key j set ds key) (anchored_by j set front key)
    (matched_by_ds j set front ds key shows) h

-- ---- the chain of a DS set

-- the last link of a chain, whatever comes behind it
last_behind : (front more : List LinkValue) → is_nonempty front ≡ true → slice_get (front ++ more) (length front - 1) ≡ last_link front
unfolding last_link
last_behind [] more h = cc
last_behind (x ∷ []) more h = refl
last_behind (x ∷ y ∷ front) more h =
    let here : length (x ∷ y ∷ front) - 1 ≡ suc (length (y ∷ front) - 1) = omega arith in
    ap (slice_get (x ∷ y ∷ front ++ more)) here ∙ last_behind (y ∷ front) more refl

-- a link for a DS set shows each DS of it
ds_shown : (set : RrSet) (link : Option LinkValue) (name : Labels) (number : ℕ) (ds : List ℕ)
    → link_is_for set link ≡ true → (set.rtype == type_ds) ≡ true → name_eq name set.owner ≡ true → (number == set.class) ≡ true
    → has_bytes (rdatas_of set.records) ds ≡ true → shows_ds name number ds link ≡ true
ds_shown set None name number ds is of_ds owner class member = cc
ds_shown set (Some (Anchored o c k)) name number ds is of_ds owner class member = cc
ds_shown set (Some (Matched o c k ds_link d)) name number ds is of_ds owner class member = cc
ds_shown set (Some (KeySet o c ks links)) name number ds is of_ds owner class member =
    let keys = (and_parts (set.rtype == type_dnskey) (name_eq set.owner o
    && ((set.class == c) && same_rdatas (rdatas_of set.records) ks)) is).0 in
    let rtype = number_same set.rtype type_ds of_ds in
    let differ : (type_ds == type_dnskey) ≡ true = ap (λ n. n == type_dnskey) (sym rtype) ∙ keys in
    cc
ds_shown set (Some (Signed o c rtype rdatas sig key_link k)) name number ds is of_ds owner class member =
    let tail = name_eq set.owner o && ((set.class == c) && same_rdatas (rdatas_of set.records) rdatas) in
    let parts = and_parts (set.rtype == rtype) tail is in
    let rtype_is : (rtype == type_ds) ≡ true = ap (λ n. n == type_ds) (sym (number_same set.rtype rtype parts.0)) ∙ of_ds in
    let keys : RrSet = record set { rtype = type_dnskey } in
    let shown = member_shown keys (Some (KeySet o c rdatas [])) name number ds parts.1 refl owner class member in
    and_from (rtype == type_ds) (name_eq name o && ((number == c) && has_bytes rdatas ds)) rtype_is shown

-- ---- a zone that is signed

-- the parts of a test that a set is the DS set of a zone
record IsDsSetOf (class : ℕ) (name : Labels) (s : MarkedSet) : Type 0 where
  owner : name_eq name s.set.owner ≡ true
  rtype : (s.set.rtype == type_ds) ≡ true
  class_is : (class == s.set.class) ≡ true

ds_set_parts : (class : ℕ) (name : Labels) (s : MarkedSet) → is_ds_set_of class name s ≡ true → IsDsSetOf class name s
ds_set_parts class name s h =
    let one = and_parts (section_eq Answer s.section) (name_eq name s.set.owner
    && ((s.set.rtype == type_ds) && (class == s.set.class))) h in
    let two = and_parts (name_eq name s.set.owner) ((s.set.rtype == type_ds) && (class == s.set.class)) one.1 in
    let three = and_parts (s.set.rtype == type_ds) (class == s.set.class) two.1 in
    record { owner = two.0; rtype = three.0; class_is = three.1 }

-- a DS set by which a zone is signed is Secure, and these are its supported records
record IsSignedBy (answers : VerifierAnswers) (mark : Proof) (records ds : List Rr) : Type 0 where
  secure : mark ≡ Secure
  ds_is : filter (is_supported_ds answers) records ≡ ds

some_step : (answers : VerifierAnswers) (name : Labels) (records ds : List Rr) (some readable : Bool)
    → (if some then zone.Signed (filter (is_supported_ds answers) records)
    else if readable then zone.Insecure UnknownKeyAlgorithm
    else zone.Bogus (DsRecordShouldExist name)) ≡ zone.Signed ds
    → IsSignedBy answers Secure records ds
some_step answers name records ds true readable h = record { secure = refl; ds_is = cc }
some_step answers name records ds false true h = cc
some_step answers name records ds false false h = cc

signed_by_ds : (answers : VerifierAnswers) (name : Labels) (mark : Proof) (records ds : List Rr)
    → verdict_by_ds answers name mark records ≡ zone.Signed ds → IsSignedBy answers mark records ds
signed_by_ds answers name Secure records ds h =
    some_step answers name records ds (list_any (is_supported_ds answers) records) (list_any is_readable_ds records) h
signed_by_ds answers name Insecure records ds h = cc
signed_by_ds answers name Bogus records ds h = cc
signed_by_ds answers name Indeterminate records ds h = cc

-- without a DS set no zone is signed
unsigned_step : (name : Labels) (shown : Bool) (ds : List Rr)
    → (if shown then zone.Insecure (DsResponseInsecure name) else zone.Bogus (DsRecordShouldExist name)) ≡ zone.Signed ds → ⊥
unsigned_step name true ds h = cc
unsigned_step name false ds h = cc

none_signed : (name : Labels) (answer : List MarkedSet) (ds : List Rr) → verdict_without_ds name answer ≡ zone.Signed ds → ⊥
none_signed name answer ds h = unsigned_step name (list_any (shows_no_ds name) answer
    || (shows_no_ds_by_hash name answer || list_any (is_insecure_above name) answer)) ds h

abbrev verdict_found : VerifierAnswers → Labels → ZoneVerdict → Option MarkedSet → ZoneVerdict
verdict_found answers name without found = option_map_or (λ s. verdict_by_ds answers name s.mark s.set.records) found without

abbrev chain_found : Option ChainedSet → List LinkValue
chain_found found = option_map_or (λ c. c.chain) found []

found_step : (j : Judge) (set : RrSet) (cs : List ChainedSet) (without : ZoneVerdict) (o : Option ChainedSet) (ds : List Rr) → AllStand j cs
    → (without ≡ zone.Signed ds → ⊥) → find (λ c. is_ds_set_of set.class set.owner c.judged) cs ≡ o
    → verdict_found j.answers set.owner without (option_map (λ c. c.judged) o) ≡ zone.Signed ds → ShowsDs j set (chain_found o) ds
found_step j set cs without None ds stand never is h = absurd (never h)
found_step j set cs without (Some c) ds stand never is h =
    let found = find_known (λ c. is_ds_set_of set.class set.owner c.judged) (λ c. stands j c ≡ true) cs c stand is in
    let parts = ds_set_parts set.class set.owner c.judged found.passes in
    let signed = signed_by_ds j.answers set.owner c.judged.mark c.judged.set.records ds h in
    let chain = stands_parts j c found.known (ap is_secure signed.secure) in
    let held = and_parts (is_nonempty c.chain) (links_hold j [] c.chain) chain.held in
    let last = length c.chain - 1 in
    let records = c.judged.set.records in
    record {
      held = held.1;
      shown = λ more.
          let Shown = λ (r : Rr). shows_ds set.owner set.class r.rdata (slice_get (c.chain ++ more) last) ≡ true in
          let each : AllByRecursion Shown records =
          each_more (λ r. has_bytes (rdatas_of records) r.rdata ≡ true) Shown (λ r member.
          ap (shows_ds set.owner set.class r.rdata) (last_behind c.chain more held.0)
          ∙ ds_shown c.judged.set (last_link c.chain) set.owner set.class r.rdata chain.ends parts.rtype parts.owner parts.class_is member)
          records (each_member records) in
          subst (λ xs. AllByRecursion Shown xs) signed.ds_is (each_filter Shown (is_supported_ds j.answers) records each);
    }

-- where the verdict of an answer says that the zone is signed, the chain of its DS set shows the DS records
pub signed_zone : (j : Judge) (set : RrSet) (answer : Option (List ChainedSet)) (ds : List Rr) → IsGoodAnswer j answer
    → zone_verdict j.answers set.class set.owner (option_map bare answer) ≡ zone.Signed ds
    → ShowsDs j set (ds_chain set.class set.owner answer) ds
unfolding zone_verdict
signed_zone j set None ds good h = cc
signed_zone j set (Some cs) ds good h =
    let test = is_ds_set_of set.class set.owner in
    let without = verdict_without_ds set.owner (bare cs) in
    found_step j set cs without (find (λ c. test c.judged) cs) ds good (none_signed set.owner (bare cs) ds) refl
    (ap (verdict_found j.answers set.owner without) (sym (find-map test (λ c. c.judged) cs)) ∙ h)
