-- What a straight reply holds: one set with one signature, or a key set without one.
use Rattle.std.proofs.Common.{◌≡◌, ◌⊎◌, inl, inr, Bool, true, false, not, ◌==◌, List, [], ◌∷◌, map, length, Option, None, Some, slice_get, refl, sym, ap, ◌∙◌, subst, if◌then◌else◌}
use Rattle.std.specs.Prelude.{◌&&◌, ◌||◌}
use Rattle.std.specs.Option.{option_map_or, option_and_then}
use Rattle.std.specs.List.{filter, list_any, list_all, AllByRecursion}
use Rattle.std.proofs.Math.Logic.{⊎_elim}
use Rattle.std.proofs.lemmas.Bool.{and_parts, and_from, or_cases, not_from_false}
use Rattle.dns_model.specs.Names.{name_eq, num_labels}
use Rattle.dns_model.specs.Types.{type_rrsig}
use Rattle.dns_model.specs.Views.{RrsigValue, rrsig_in}
use Rattle.dns_model.specs.Records.{Rr, RrSet, Question}
use Rattle.dns_model.specs.RecordViews.{rrsig_of}
use Rattle.dns_model.specs.Sections.{same_set, is_signature, covers, leaders, unsigned_part, set_of, sets_of}
use Rattle.dns_model.specs.Chains.{Judge, rdatas_of}
use Rattle.dns_model.specs.SoundAnswers.{Told}
use Rattle.dns_model.proofs.EachLemmas.{each_more, filter_none}
use Rattle.dns_model.proofs.RecordViewLemmas.{rrsig_read}
use Rattle.dns_model.proofs.SetLemmas.{name_back, name_trans, number_same, number_refl, each_leader}
use Rattle.dns_model.proofs.TestLemmas.{if_some}
use Rattle.dns_model.proofs.Lists.{empty_is}
use Rattle.dns_rules.specs.Unsigned.{is_empty}
use Rattle.dns_rules.proofs.FindLemmas.{each_all}
use Rattle.dns_laws.specs.Straight.{is_queried, is_plain_signature, are_distinct, is_wholly_anchored, is_signed_once, is_straight}
use Rattle.dns_laws.specs.Valid.{straight_set}
use Rattle.dns_laws.proofs.TestLemmas.{passing, one_is, only_first, some_kept, kept_alike}
use Rattle.dns_model.proofs.ViewSteps.{covers_rtype}

-- ---- the records

-- a record that was queried
pub record IsQueried (q : Question) (r : Rr) : Type 0 where
  pub plain : is_signature r ≡ false
  pub owner : name_eq q.owner r.owner ≡ true
  pub rtype : r.rtype ≡ q.rtype
  pub class : r.class ≡ q.class

-- a signature over such records
pub record IsPlain (q : Question) (r : Rr) : Type 0 where
  pub signature : is_signature r ≡ true
  pub sig : RrsigValue
  pub read : rrsig_of r ≡ Some sig
  pub owner : name_eq q.owner r.owner ≡ true
  pub class : r.class ≡ q.class
  pub covered : sig.covered ≡ q.rtype
  pub labels : sig.labels ≡ num_labels r.owner

abbrev pub OfReply : Question → Rr → Type 0
OfReply q r = IsQueried q r ⊎ IsPlain q r

abbrev pub is_other : Question → Bool
is_other q = q.rtype == type_rrsig

queried_parts : (q : Question) (r : Rr) → is_other q ≡ false → is_queried q r ≡ true → IsQueried q r
queried_parts q r other h =
    let one = and_parts (name_eq q.owner r.owner) ((r.rtype == q.rtype) && (r.class == q.class)) h in
    let two = and_parts (r.rtype == q.rtype) (r.class == q.class) one.1 in
    let rtype = number_same r.rtype q.rtype two.0 in
    record { plain = ap (λ t. t == type_rrsig) rtype ∙ other; owner = one.0; rtype = rtype; class = number_same r.class q.class two.1 }

plain_parts : (q : Question) (r : Rr) → is_plain_signature q r ≡ true → IsPlain q r
plain_parts q r h =
    let test = λ (sig : RrsigValue). (sig.covered == q.rtype) && (sig.labels == num_labels r.owner) in
    let one = and_parts (name_eq q.owner r.owner) ((r.class == q.class) && option_map_or test (rrsig_of r) false) h in
    let two = and_parts (r.class == q.class) (option_map_or test (rrsig_of r) false) one.1 in
    let read = passing test (rrsig_of r) two.1 in
    let fits = and_parts (read.value.covered == q.rtype) (read.value.labels == num_labels r.owner) read.passes in
    record {
      signature = (if_some (r.rtype == type_rrsig) (rrsig_in r.rdata) read.value read.found).0;
      sig = read.value;
      read = read.found;
      owner = one.0;
      class = number_same r.class q.class two.0;
      covered = number_same read.value.covered q.rtype fits.0;
      labels = number_same read.value.labels (num_labels r.owner) fits.1;
    }

of_reply : (q : Question) (r : Rr) → is_other q ≡ false → (is_queried q r || is_plain_signature q r) ≡ true → OfReply q r
of_reply q r other h =
    ⊎_elim (λ k. inl (queried_parts q r other k)) (λ k. inr (plain_parts q r k)) (or_cases (is_queried q r) (is_plain_signature q r) h)

queried_of : (q : Question) (r : Rr) → OfReply q r → not (is_signature r) ≡ true → IsQueried q r
queried_of q r (inl of) plain = of
queried_of q r (inr of) plain = cc (plain, of.signature)

same_queried : (q : Question) (a b : Rr) → IsQueried q a → IsQueried q b → same_set a b ≡ true
same_queried q a b one two =
    and_from (name_eq a.owner b.owner) (a.rtype == b.rtype)
    (name_trans a.owner q.owner b.owner (name_back q.owner a.owner one.owner) two.owner)
    (ap (λ t. t == b.rtype) (one.rtype ∙ sym two.rtype) ∙ number_refl b.rtype)

-- the set of a queried record has the signatures that stand beside it
covers_of : (q : Question) (r s : Rr) → IsQueried q r → OfReply q s → covers r s ≡ is_signature s
covers_of q r s queried (inl of) = ap (λ b. b && (name_eq r.owner s.owner && covers_rtype r.rtype (rrsig_in s.rdata))) of.plain
    ∙ sym of.plain
covers_of q r s queried (inr of) =
    let owner = name_trans r.owner q.owner s.owner (name_back q.owner r.owner queried.owner) of.owner in
    let covered : (of.sig.covered == r.rtype) ≡ true = ap (λ t. of.sig.covered == t) (queried.rtype ∙ sym of.covered)
    ∙ number_refl of.sig.covered in
    let kind : covers_rtype r.rtype (rrsig_in s.rdata) ≡ true = ap (covers_rtype r.rtype) (rrsig_read s of.sig of.read) ∙ covered in
    and_from (is_signature s) (name_eq r.owner s.owner && covers_rtype r.rtype (rrsig_in s.rdata)) of.signature
    (and_from (name_eq r.owner s.owner) (covers_rtype r.rtype (rrsig_in s.rdata)) owner kind)
    ∙ sym of.signature

-- ---- the set

each_plain : (q : Question) (records : List Rr) → AllByRecursion (OfReply q) records → AllByRecursion (IsQueried q) (unsigned_part records)
each_plain q records each = unsigned_each q records each
  where
    kept : (q : Question) (b : Bool) (r : Rr) (rs : List Rr) → (b ≡ true → IsQueried q r) → AllByRecursion (IsQueried q) rs
        → AllByRecursion (IsQueried q) (if b then r ∷ rs else rs)
    kept q true r rs here later = (here refl, later)
    kept q false r rs here later = later

    unsigned_each : (q : Question) (records : List Rr) → AllByRecursion (OfReply q) records
        → AllByRecursion (IsQueried q) (unsigned_part records)
    unsigned_each q [] each = tt
    unsigned_each q (r ∷ rs) each =
        kept q (not (is_signature r)) r (unsigned_part rs) (λ plain. queried_of q r each.0 plain) (unsigned_each q rs each.1)

one_leader : (q : Question) (r : Rr) (rs : List Rr) → AllByRecursion (IsQueried q) (r ∷ rs) → leaders (r ∷ rs) ≡ r ∷ []
unfolding leaders
one_leader q r rs each =
    ap (λ others. r ∷ others)
    (filter_none (λ s. not (same_set r s)) (leaders rs)
    (each_more (IsQueried q) (λ s. not (same_set r s) ≡ false) (λ s of. ap not (same_queried q r s each.0 of)) (leaders rs)
    (each_leader (IsQueried q) rs each.1)))

-- the set of a reply that is straight
pub record IsOneSet (j : Judge) (q : Question) (told : Told) (set : RrSet) : Type 0 where
  pub sets : sets_of told.answers ≡ set ∷ []
  pub owner : name_eq q.owner set.owner ≡ true
  pub rtype : set.rtype ≡ q.rtype
  pub class : set.class ≡ q.class
  pub signatures : set.signatures ≡ filter is_signature told.answers
  pub authorities : told.authorities ≡ []
  pub additionals : told.additionals ≡ []
  pub each : AllByRecursion (OfReply q) told.answers
  pub any : list_any (is_queried q) told.answers ≡ true
  pub signed : is_signed_once j told.answers ≡ true

pub record HasOneSet (j : Judge) (q : Question) (told : Told) : Type 0 where
  pub set : RrSet
  pub is : IsOneSet j q told set

pub straight_parts : (j : Judge) (q : Question) (told : Told) → is_other q ≡ false → is_straight j q told ≡ true → HasOneSet j q told
unfolding sets_of
straight_parts j q told other h =
    let any = list_any (is_queried q) told.answers in
    let each = list_all (λ r. is_queried q r || is_plain_signature q r) told.answers in
    let distinct = are_distinct (rdatas_of (filter (is_queried q) told.answers)) in
    let once = is_signed_once j told.answers in
    let one = and_parts (told.code == 0) (is_empty told.authorities
    && (is_empty told.additionals && (any && (each && (distinct && once))))) h in
    let two = and_parts (is_empty told.authorities) (is_empty told.additionals && (any && (each && (distinct && once)))) one.1 in
    let three = and_parts (is_empty told.additionals) (any && (each && (distinct && once))) two.1 in
    let four = and_parts any (each && (distinct && once)) three.1 in
    let five = and_parts each (distinct && once) four.1 in
    let all = each_all (λ r. is_queried q r || is_plain_signature q r) (OfReply q) (λ r k. of_reply q r other k) told.answers five.0 in
    let plain = λ (r : Rr) (k : is_queried q r ≡ true). not_from_false (is_signature r) (queried_parts q r other k).plain in
    let begins = some_kept (λ r. not (is_signature r)) (is_queried q) told.answers plain four.0 in
    let queried : AllByRecursion (IsQueried q) (begins.first ∷ begins.rest) =
    subst (AllByRecursion (IsQueried q)) begins.is (each_plain q told.answers all) in
    record {
      set = set_of told.answers begins.first;
      is = record {
        sets = ap (λ rs. map (set_of told.answers) (leaders rs)) begins.is
            ∙ ap (map (set_of told.answers)) (one_leader q begins.first begins.rest queried);
        owner = queried.0.owner;
        rtype = queried.0.rtype;
        class = queried.0.class;
        signatures = kept_alike (covers begins.first) is_signature told.answers
            (each_more (OfReply q) (λ s. covers begins.first s ≡ is_signature s) (λ s of. covers_of q begins.first s queried.0 of)
            told.answers all);
        authorities = empty_is told.authorities two.0;
        additionals = empty_is told.additionals three.0;
        each = all;
        any = four.0;
        signed = (and_parts distinct once five.1).1;
      };
    }

-- the set that a query gets, with the reply
pub record IsAnswered (j : Judge) (tells : Question → Option Told) (q : Question) (set : RrSet) : Type 0 where
  pub told : Told
  pub heard : tells q ≡ Some told
  pub is : IsOneSet j q told set

answered_by : (j : Judge) (tells : Question → Option Told) (q : Question) (set : RrSet) (o : Option Told) (other : is_other q ≡ false)
    → tells q ≡ o
    → option_and_then (λ told. if is_straight j q told then slice_get (sets_of told.answers) 0 else None) o ≡ Some set
    → IsAnswered j tells q set
answered_by j tells q set None other is h = cc
answered_by j tells q set (Some told) other is h =
    let parts = if_some (is_straight j q told) (slice_get (sets_of told.answers) 0) set h in
    let one = straight_parts j q told other parts.0 in
    let same = only_first (sets_of told.answers) one.set set one.is.sets parts.1 in
    record { told = told; heard = is; is = subst (IsOneSet j q told) same one.is }

pub answered : (j : Judge) (tells : Question → Option Told) (q : Question) (set : RrSet) → is_other q ≡ false
    → straight_set j tells q ≡ Some set
    → IsAnswered j tells q set
answered j tells q set other h = answered_by j tells q set (tells q) other refl h

-- ---- its signatures

-- one signature, which is read
pub record IsSigned (q : Question) (set : RrSet) : Type 0 where
  pub signature : Rr
  pub alone : set.signatures ≡ signature ∷ []
  pub plain : IsPlain q signature

signature_of : (q : Question) (r : Rr) → OfReply q r → is_signature r ≡ true → IsPlain q r
signature_of q r (inl of) is = cc (is, of.plain)
signature_of q r (inr of) is = of

pub each_signature : (q : Question) (records : List Rr) → AllByRecursion (OfReply q) records
    → AllByRecursion (IsPlain q) (filter is_signature records)
each_signature q [] each = tt
each_signature q (r ∷ rs) each = kept (is_signature r) (signature_of q r each.0) (each_signature q rs each.1)
  where
    kept : (b : Bool) → (b ≡ true → IsPlain q r) → AllByRecursion (IsPlain q) (filter is_signature rs)
        → AllByRecursion (IsPlain q) (if b then r ∷ filter is_signature rs else filter is_signature rs)
    kept true here later = (here refl, later)
    kept false here later = later

-- a wholly anchored key set without signatures
pub record IsUnsigned (j : Judge) (set : RrSet) : Type 0 where
  pub none : set.signatures ≡ []
  pub anchored : is_wholly_anchored j set ≡ true

pub signed_or_anchored : (j : Judge) (q : Question) (told : Told) (set : RrSet) → IsOneSet j q told set → IsSigned q set ⊎ IsUnsigned j set
signed_or_anchored j q told set one =
    let signatures = filter is_signature told.answers in
    ⊎_elim
    (λ counted.
    let alone = one_is signatures counted in
    inl (record {
      signature = alone.value;
      alone = one.signatures ∙ alone.is;
      plain = (subst (AllByRecursion (IsPlain q)) alone.is (each_signature q told.answers one.each)).0;
    }))
    (λ without.
    let parts = and_parts (is_empty signatures) (list_all (is_wholly_anchored j) (sets_of told.answers)) without in
    inr (record {
      none = one.signatures ∙ empty_is signatures parts.0;
      anchored = (and_parts (is_wholly_anchored j set) true
          (subst (λ sets. list_all (is_wholly_anchored j) sets ≡ true) one.sets parts.1)).0;
    }))
    (or_cases (length signatures == 1) (is_empty signatures && list_all (is_wholly_anchored j) (sets_of told.answers)) one.signed)
