-- The question of a signature with a key, by what both say.
use Rattle.std.proofs.Common.{◌≡◌, ℕ, Bool, true, false, not, ◌==◌, ◌&&◌, List, [], ◌∷◌, None, Some, if◌then◌else◌, refl, sym, ap, ◌∙◌}
use Rattle.std.proofs.lemmas.Bool.{and_parts}
use Rattle.dns_evidence.specs.Listing.{ListedValue, is_listed, answers_of}
use Rattle.dns_model.specs.Chains.{Judge, judge}
use Rattle.dns_model.specs.Names.{name_eq}
use Rattle.dns_model.specs.Records.{Rr, RrSet}
use Rattle.dns_model.specs.RecordViews.{rrsig_of, dnskey_of}
use Rattle.dns_model.specs.Signing.{key_tag_of}
use Rattle.dns_model.specs.Views.{RrsigValue, DnskeyValue, is_zone_key, is_revoked}
use Rattle.dns_model.specs.Keys.{usable_key}
use Rattle.dns_model.proofs.SetLemmas.{number_same}
use Rattle.dns_rules.specs.Marks.{may_be_signed}
use Rattle.dns_rules.specs.Validity.{ValidRrsig, ExpiredRrsig, WrongDnskey, WrongRrsig, is_of_set, is_by_key, sig_validity, validity, is_valid}
use Rattle.dns_questions.specs.Questions.{passes, asked_of, question_of, with_keys}

-- whether a signature fits, where it is read
read_validity : (timely : RrsigValue → Bool) (set : RrSet) (r key : Rr) (sig : RrsigValue) → rrsig_of r ≡ Some sig
    → validity timely set r key ≡ sig_validity timely set r key (Some sig)
unfolding validity
read_validity timely set r key sig read = ap (sig_validity timely set r key) read

-- a signature that can't be read has no question
pub unread_none : (j : Judge) (set : RrSet) (r : Rr) (keys : List Rr) → rrsig_of r ≡ None → with_keys j set r keys ≡ []
unfolding question_of
unread_none j set r [] h = refl
unread_none j set r (key ∷ keys) h = rw h (unread_none j set r keys h)

-- nor has a record that is no key
pub keyless_none : (j : Judge) (set : RrSet) (r key : Rr) (sig : RrsigValue) → rrsig_of r ≡ Some sig → dnskey_of key ≡ None
    → question_of j set r key ≡ None
unfolding question_of
keyless_none j set r key sig read none = rw (read, none) refl

-- what is asked, where both are read
question_is : (j : Judge) (set : RrSet) (r key : Rr) (sig : RrsigValue) (text : DnskeyValue) → rrsig_of r ≡ Some sig
    → dnskey_of key ≡ Some text
    → question_of j set r key ≡ (if passes j set r sig key text then Some (asked_of set sig text) else None)
unfolding question_of
question_is j set r key sig text read is = rw (read, is) refl

pub refused_none : (j : Judge) (set : RrSet) (r key : Rr) (sig : RrsigValue) (text : DnskeyValue) → rrsig_of r ≡ Some sig
    → dnskey_of key ≡ Some text → passes j set r sig key text ≡ false → question_of j set r key ≡ None
refused_none j set r key sig text read is refused =
    question_is j set r key sig text read is ∙ ap (λ b. if b then Some (asked_of set sig text) else None) refused

pub passed_some : (j : Judge) (set : RrSet) (r key : Rr) (sig : RrsigValue) (text : DnskeyValue) → rrsig_of r ≡ Some sig
    → dnskey_of key ≡ Some text → passes j set r sig key text ≡ true → question_of j set r key ≡ Some (asked_of set sig text)
passed_some j set r key sig text read is passed =
    question_is j set r key sig text read is ∙ ap (λ b. if b then Some (asked_of set sig text) else None) passed

-- ---- the tests one after another

passes_read : (j : Judge) (set : RrSet) (r key : Rr) (sig : RrsigValue) (text : DnskeyValue) → rrsig_of r ≡ Some sig
    → passes j set r sig key text
    ≡ (is_valid (sig_validity j.is_timely set r key (Some sig)) && (may_be_signed set sig && usable_key j.answers text))
passes_read j set r key sig text read =
    ap (λ v. is_valid v && (may_be_signed set sig && usable_key j.answers text)) (read_validity j.is_timely set r key sig read)

pub invalid_fails : (j : Judge) (set : RrSet) (r key : Rr) (sig : RrsigValue) (text : DnskeyValue) → rrsig_of r ≡ Some sig
    → is_valid (sig_validity j.is_timely set r key (Some sig)) ≡ false → false ≡ passes j set r sig key text
invalid_fails j set r key sig text read invalid =
    sym (passes_read j set r key sig text read ∙ ap (λ b. b && (may_be_signed set sig && usable_key j.answers text)) invalid)

pub unsigned_fails : (j : Judge) (set : RrSet) (r key : Rr) (sig : RrsigValue) (text : DnskeyValue) → rrsig_of r ≡ Some sig
    → is_valid (sig_validity j.is_timely set r key (Some sig)) ≡ true → may_be_signed set sig ≡ false
    → false ≡ passes j set r sig key text
unsigned_fails j set r key sig text read valid never =
    sym (passes_read j set r key sig text read
    ∙ ap (λ b. b && (may_be_signed set sig && usable_key j.answers text)) valid
    ∙ ap (λ b. b && usable_key j.answers text) never)

pub usable_passes : (j : Judge) (set : RrSet) (r key : Rr) (sig : RrsigValue) (text : DnskeyValue) (usable : Bool)
    → rrsig_of r ≡ Some sig → is_valid (sig_validity j.is_timely set r key (Some sig)) ≡ true → may_be_signed set sig ≡ true
    → usable ≡ usable_key j.answers text → usable ≡ passes j set r sig key text
usable_passes j set r key sig text usable read valid may is =
    is ∙ sym (passes_read j set r key sig text read
    ∙ ap (λ b. b && (may_be_signed set sig && usable_key j.answers text)) valid
    ∙ ap (λ b. b && usable_key j.answers text) may)

-- ---- the algorithm of a question is one that the verifier supports

by_key_case : (own timely by : Bool)
    → is_valid (if not own then WrongRrsig else if not timely then ExpiredRrsig else if by then ValidRrsig else WrongDnskey) ≡ true
    → by ≡ true
by_key_case false timely by h = cc
by_key_case true false by h = cc
by_key_case true true false h = cc
by_key_case true true true h = refl

not_true : (b : Bool) → not b ≡ true → b ≡ false
not_true true h = cc
not_true false h = refl

-- so it isn't 1, which a list never supports
pub never_one : (listed : ListedValue) (now : ℕ) (set : RrSet) (r key : Rr) (sig : RrsigValue) (text : DnskeyValue)
    → rrsig_of r ≡ Some sig → dnskey_of key ≡ Some text
    → passes (judge (answers_of listed) [] now) set r sig key text ≡ true → (sig.algorithm == 1) ≡ false
never_one listed now set r key sig text read is passed =
    let j = judge (answers_of listed) [] now in
    let parts = and_parts (is_valid (validity j.is_timely set r key)) (may_be_signed set sig && usable_key j.answers text) passed in
    let usable = (and_parts (may_be_signed set sig) (usable_key j.answers text) parts.1).1 in
    let fits : is_valid (sig_validity j.is_timely set r key (Some sig)) ≡ true =
    sym (ap is_valid (read_validity j.is_timely set r key sig read)) ∙ parts.0 in
    let by : is_by_key sig key text ≡ true =
    by_key_case (is_of_set set r sig) (j.is_timely sig) (is_by_key sig key text) (rw is at fits) in
    let own = (and_parts (name_eq sig.signer key.owner)
    ((text.algorithm == sig.algorithm) && ((key_tag_of key.rdata == sig.key_tag) && is_zone_key text)) by).1 in
    let same = (and_parts (text.algorithm == sig.algorithm) ((key_tag_of key.rdata == sig.key_tag) && is_zone_key text) own).0 in
    let supported = not (text.algorithm == 1) && is_listed listed text.algorithm in
    let kinds = (and_parts (is_zone_key text) (not (is_revoked text) && ((text.protocol == 3) && supported)) usable).1 in
    let more = (and_parts (not (is_revoked text)) ((text.protocol == 3) && supported) kinds).1 in
    let last = (and_parts (text.protocol == 3) supported more).1 in
    let other = not_true (text.algorithm == 1) (and_parts (not (text.algorithm == 1)) (is_listed listed text.algorithm) last).0 in
    ap (λ a. a == 1) (sym (number_same text.algorithm sig.algorithm same)) ∙ other
