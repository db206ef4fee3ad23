-- A key set that a trusted key of it signed, or whose keys are all trusted, has a chain behind the links by which they are.
use Rattle.std.proofs.Common.{◌≡◌, ℕ, suc, ◌+◌, Bool, true, ◌==◌, ◌&&◌, List, [], ◌∷◌, ◌++◌, map, length, Option, None, Some, refl, sym, ap, ◌∙◌, arith, length-append, append-nil}
use Rattle.std.specs.Prelude.{if◌then◌else◌}
use Rattle.std.specs.List.{slice_get, AllByRecursion}
use Rattle.std.proofs.lemmas.Bool.{and_parts, and_from}
use Rattle.std.proofs.lemmas.List.{append_assoc}
use Rattle.dns_model.specs.Names.{Labels, name_eq, at_or_above}
use Rattle.dns_model.specs.Types.{type_dnskey}
use Rattle.dns_model.specs.Views.{RrsigValue}
use Rattle.dns_model.specs.RecordViews.{rrsig_of, dnskey_of}
use Rattle.dns_model.specs.Records.{Rr, RrSet}
use Rattle.dns_model.specs.Chains.{LinkValue, KeySet, Signed, Judge, all_shown, is_nonempty, has_bytes, rdatas_of, signer_fits, key_comes, shows_key, shows_member, link_holds, links_hold, justified, link_is_for}
use Rattle.dns_model.proofs.EachLemmas.{each_both, each_more, find_known}
use Rattle.dns_model.proofs.SetLemmas.{name_back, name_trans, number_same, is_of, IsProper}
use Rattle.dns_model.proofs.ChainLemmas.{links_hold-join, links_hold-append, is_nonempty-append, last_link-append, justified_extends, bytes_refl, each_member, signed_is_for, keys_are_for}
use Rattle.dns_model.proofs.Lists.{slice_get_appended}
use Rattle.dns_rules.specs.Validity.{validity, is_valid, is_good_by}
use Rattle.dns_rules.specs.KeySets.{SignedKeys, signer_among}
use Rattle.dns_rules.specs.ChainedSets.{names_decider, numbers_from, whole_chain, self_signed_chain}
use Rattle.dns_rules.specs.MarkParts.{sig_validity, is_accepted}
use Rattle.dns_rules.proofs.GoodLemmas.{good_parts, signer_is_owner, of_set_parts, keys_unexpanded, keys_anywhere, Fits, signed_holds}
use Rattle.dns_rules.proofs.FirstLemmas.{signed_as, signed_from, signed_or, signed_none, signed_more}
use Rattle.dns_rules.proofs.StandLemmas.{IsChainFor}

-- ---- the first signature that is good by a key that may sign

-- where it stands in a list whose first number is n, and its key
pub record IsSignedAt (signer : Rr → Option Rr) (rs : List Rr) (n : ℕ) (s : SignedKeys) : Type 0 where
  pub k : ℕ
  pub place_is : s.place ≡ n + k
  pub at : slice_get rs k ≡ Some s.signature
  pub by : signer s.signature ≡ Some s.key

signed_step : (signer : Rr → Option Rr) (n : ℕ) (r : Rr) (rs : List Rr) (o : Option Rr) (rest : Option SignedKeys) (s : SignedKeys)
    → signer r ≡ o → (rest ≡ Some s → IsSignedAt signer rs (n + 1) s) → signed_or n r o rest ≡ Some s → IsSignedAt signer (r ∷ rs) n s
signed_step signer n r rs None rest s is later h =
    let l = later h in
    record { k = suc l.k; place_is = l.place_is ∙ omega arith; at = l.at; by = l.by }
signed_step signer n r rs (Some key) rest s is later h =
    let same : signed_as n r key ≡ s = cc in
    record {
      k = 0;
      place_is = ap (λ x. x.place) (sym same) ∙ omega arith;
      at = ap (λ x. Some x.signature) same;
      by = ap (λ x. signer x.signature) (sym same) ∙ is ∙ ap (λ x. Some x.key) same;
    }

pub signed_at : (signer : Rr → Option Rr) (n : ℕ) (rs : List Rr) (s : SignedKeys) → signed_from signer n rs ≡ Some s
    → IsSignedAt signer rs n s
signed_at signer n [] s h = let none : signed_from signer n [] ≡ None = signed_none signer n in cc
signed_at signer n (r ∷ rs) s h =
    signed_step signer n r rs (signer r) (signed_from signer (n + 1) rs) s refl (signed_at signer (n + 1) rs s)
    (sym (signed_more signer n r rs) ∙ h)

-- a good signature can be read
record IsRead (r : Rr) : Type 0 where
  sig : RrsigValue
  is : rrsig_of r ≡ Some sig

read_step : (j : Judge) (set : RrSet) (r key : Rr) (o : Option RrsigValue) → rrsig_of r ≡ o
    → is_valid (sig_validity j.is_timely set r key o) ≡ true → IsRead r
read_step j set r key None is h = cc
read_step j set r key (Some sig) is h = record { sig = sig; is = is }

good_is_read : (j : Judge) (set : RrSet) (r key : Rr) → is_good_by j set r key ≡ true → IsRead r
unfolding is_good_by validity
good_is_read j set r key h =
    read_step j set r key (rrsig_of r) refl
    (and_parts (is_valid (sig_validity j.is_timely set r key (rrsig_of r))) (is_accepted j set (rrsig_of r) (dnskey_of key)) h).0

-- ---- links by which keys are trusted

-- behind some links, and any more behind them, this one holds; and it shows the key
pub record IsKeyLink (j : Judge) (set : RrSet) (front : List LinkValue) (key : Rr) (link : LinkValue) : Type 0 where
  pub holds : (more : List LinkValue) → link_holds j (front ++ more) link ≡ true
  pub shown : shows_key set.owner set.class key.rdata (Some link) ≡ true

-- ---- a key set signed by a trusted key of it

signer_of_keys : (rtype : ℕ) (signer owner : Labels) → (rtype == type_dnskey) ≡ true → at_or_above signer owner ≡ true
    → signer_fits rtype signer owner ≡ true
signer_of_keys rtype signer owner keys h = rw (number_same rtype type_dnskey keys) h

comes_of_keys : (keys owner member shown other : Bool) → keys ≡ true → owner ≡ true → member ≡ true → shown ≡ true
    → (if keys then owner && (member && shown) else other) ≡ true
comes_of_keys keys owner member shown other k o m s = rw (k, o, m, s) refl

-- the links before, and the link of the key
with_key_link : (j : Judge) (set : RrSet) (front : List LinkValue) (key : Rr) (link : LinkValue) → links_hold j [] front ≡ true
    → IsKeyLink j set front key link
    → justified j (front ++ link ∷ []) ≡ true
with_key_link j set front key link held by =
    let here : link_holds j front link ≡ true = ap (λ e. link_holds j e link) (sym (append-nil front)) ∙ by.holds [] in
    and_from (is_nonempty (front ++ link ∷ [])) (links_hold j [] (front ++ link ∷ [])) (is_nonempty-append front link)
    (links_hold-append j [] front link ∙ and_from (links_hold j [] front) (link_holds j front link) held here)

pub self_signed : (may_sign : Rr → Bool) (j : Judge) (set : RrSet) (rs : List Rr) (s : SignedKeys) (front : List LinkValue)
    (link : LinkValue)
    → IsProper set → (set.rtype == type_dnskey) ≡ true → links_hold j [] front ≡ true → IsSignedAt (signer_among may_sign j set) rs 0 s
    → (may_sign s.key ≡ true → IsKeyLink j set front s.key link) → IsChainFor j set (self_signed_chain set front link s) (Some s.signature)
self_signed may_sign j set rs s front link proper keys held at trusted =
    let rdatas = rdatas_of set.records in
    let test = λ (key : Rr). may_sign key && is_good_by j set s.signature key in
    let Member = λ (key : Rr). has_bytes rdatas key.rdata ≡ true in
    let Own = λ (key : Rr). is_of set key ≡ true in
    let found = find_known test (λ key. Member key × Own key) set.records s.key
    (each_both Member Own set.records (each_member set.records) proper.own) at.by in
    let passes = and_parts (may_sign s.key) (is_good_by j set s.signature s.key) found.passes in
    let by = trusted passes.0 in
    let read = good_is_read j set s.signature s.key passes.1 in
    let good = good_parts j set s.signature s.key read.sig read.is passes.1 in
    let above = (of_set_parts set s.signature read.sig good.of_set).above in
    let own = and_parts (name_eq set.owner s.key.owner) (set.rtype == s.key.rtype) found.known.1 in
    let owner : name_eq set.owner read.sig.signer ≡ true =
    name_trans set.owner s.key.owner read.sig.signer own.0
    (name_back read.sig.signer s.key.owner (signer_is_owner j set s.signature s.key read.sig good)) in
    let earlier = front ++ link ∷ [] in
    let last = length front in
    let signed = Signed set.owner set.class set.rtype rdatas s.signature.rdata last s.key.rdata in
    let shown : shows_key set.owner set.class s.key.rdata (slice_get earlier last) ≡ true =
    ap (shows_key set.owner set.class s.key.rdata) (slice_get_appended front link []) ∙ by.shown in
    let comes : key_comes earlier set.owner set.class set.rtype rdatas read.sig.signer last s.key.rdata ≡ true =
    comes_of_keys (set.rtype == type_dnskey) (name_eq set.owner read.sig.signer) (has_bytes rdatas s.key.rdata)
    (shows_key set.owner set.class s.key.rdata (slice_get earlier last))
    (shows_member read.sig.signer set.class s.key.rdata (slice_get earlier last))
    keys owner found.known.0 shown in
    let fits : Fits earlier set read.sig last s.key.rdata = record {
      unexpanded = keys_unexpanded set.rtype read.sig.labels set.owner keys;
      below = keys_anywhere set.rtype read.sig.signer set.owner keys;
      signer = signer_of_keys set.rtype read.sig.signer set.owner keys above;
      comes = comes;
    } in
    let holds = signed_holds j earlier set s.signature s.key read.sig last proper read.is passes.1 fits in
    let ended = last_link-append earlier signed in
    record {
      held = justified_extends j earlier signed (with_key_link j set front s.key link held by) holds;
      ends = ap (link_is_for set) ended ∙ signed_is_for set s.signature.rdata last s.key.rdata;
      named = ap (λ l. names_decider l (Some s.signature)) ended ∙ bytes_refl s.signature.rdata;
    }

-- ---- a key set whose keys are all trusted

abbrev AreKeyLinks : Judge → RrSet → List LinkValue → (Rr → LinkValue) → List Rr → Type 0
AreKeyLinks j set front link records = AllByRecursion (λ key. IsKeyLink j set front key (link key)) records

key_links_hold : (j : Judge) (set : RrSet) (front : List LinkValue) (link : Rr → LinkValue) (more : List LinkValue) (records : List Rr)
    → AreKeyLinks j set front link records → links_hold j (front ++ more) (map link records) ≡ true
unfolding links_hold
key_links_hold j set front link more [] by = refl
key_links_hold j set front link more (r ∷ rs) by =
    let next = (front ++ more) ++ link r ∷ [] in
    and_from (link_holds j (front ++ more) (link r)) (links_hold j next (map link rs)) (by.0.holds more)
    (ap (λ e. links_hold j e (map link rs)) (append_assoc front more (link r ∷ []))
    ∙ key_links_hold j set front link (more ++ link r ∷ []) rs by.1)

-- each key is shown by the link with its number
keys_shown : (owner : Labels) (class : ℕ) (front : List LinkValue) (link : Rr → LinkValue) (records : List Rr) (n : ℕ) → n ≡ length front
    → AllByRecursion (λ key. shows_key owner class key.rdata (Some (link key)) ≡ true) records
    → all_shown (front ++ map link records) owner class (rdatas_of records) (numbers_from n (rdatas_of records)) ≡ true
unfolding all_shown
keys_shown owner class front link [] n is shown = refl
keys_shown owner class front link (r ∷ rs) n is shown =
    let rest = map link rs in
    let keys = rdatas_of rs in
    let here : shows_key owner class r.rdata (slice_get (front ++ link r ∷ rest) n) ≡ true =
    ap (λ k. shows_key owner class r.rdata (slice_get (front ++ link r ∷ rest) k)) is
    ∙ ap (shows_key owner class r.rdata) (slice_get_appended front (link r) rest) ∙ shown.0 in
    let longer : n + 1 ≡ length (front ++ link r ∷ []) = omega (arith, length-append front (link r ∷ [])) in
    let later : all_shown (front ++ link r ∷ rest) owner class keys (numbers_from (n + 1) keys) ≡ true =
    ap (λ e. all_shown e owner class keys (numbers_from (n + 1) keys)) (sym (append_assoc front (link r ∷ []) rest))
    ∙ keys_shown owner class (front ++ link r ∷ []) link rs (n + 1) longer shown.1 in
    and_from (shows_key owner class r.rdata (slice_get (front ++ link r ∷ rest) n))
    (all_shown (front ++ link r ∷ rest) owner class keys (numbers_from (n + 1) keys)) here later

pub wholly_trusted : (j : Judge) (set : RrSet) (front : List LinkValue) (link : Rr → LinkValue) → IsProper set
    → (set.rtype == type_dnskey) ≡ true
    → links_hold j [] front ≡ true → AreKeyLinks j set front link set.records → IsChainFor j set (whole_chain set front link) None
unfolding link_holds
wholly_trusted j set front link proper keys held by =
    let rdatas = rdatas_of set.records in
    let links = map link set.records in
    let earlier = front ++ links in
    let numbers = numbers_from (length front) rdatas in
    let whole = KeySet set.owner set.class rdatas numbers in
    let Shown = λ (key : Rr). shows_key set.owner set.class key.rdata (Some (link key)) ≡ true in
    let shown = each_more (λ key. IsKeyLink j set front key (link key)) Shown (λ key h. h.shown) set.records by in
    let holds : link_holds j earlier whole ≡ true =
    and_from (is_nonempty rdatas) (all_shown earlier set.owner set.class rdatas numbers) proper.listed
    (keys_shown set.owner set.class front link set.records (length front) refl shown) in
    let behind : links_hold j front links ≡ true =
    ap (λ e. links_hold j e links) (sym (append-nil front)) ∙ key_links_hold j set front link [] set.records by in
    let before : links_hold j [] earlier ≡ true =
    links_hold-join j [] front links ∙ and_from (links_hold j [] front) (links_hold j front links) held behind in
    let both : links_hold j [] (earlier ++ whole ∷ []) ≡ true =
    links_hold-append j [] earlier whole ∙ and_from (links_hold j [] earlier) (link_holds j earlier whole) before holds in
    let ended = last_link-append earlier whole in
    record {
      held = and_from (is_nonempty (earlier ++ whole ∷ [])) (links_hold j [] (earlier ++ whole ∷ []))
          (is_nonempty-append earlier whole) both;
      ends = ap (link_is_for set) ended ∙ keys_are_for set numbers keys;
      named = ap (λ l. names_decider l None) ended;
    }
