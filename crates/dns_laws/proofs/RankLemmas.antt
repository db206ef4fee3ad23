-- The queries of a valid session, each of which stands lower than the one before: so none comes twice.
use Rattle.std.proofs.Common.{◌≡◌, ℕ, ◌+◌, ◌*◌, ◌≤◌, ◌<◌, Bool, true, false, ◌==◌, length, nat_eq, refl, sym, ap, ◌∙◌, arith, if◌then◌else◌}
use Rattle.std.proofs.lemmas.Bool.{true≢false}
use Rattle.std.proofs.lemmas.Bool.Decides.{nat_tests}
use Rattle.std.proofs.lemmas.List.{length-map}
use Rattle.dns_model.specs.Names.{Labels, lowered, name_eq, at_or_above, strictly_above}
use Rattle.dns_model.specs.Types.{type_ds, type_dnskey}
use Rattle.dns_model.specs.Records.{Question, question_eq}
use Rattle.dns_model.specs.Chains.{signer_fits}
use Rattle.dns_model.proofs.AboveLemmas.{above_is_shorter, strictly_parts}
use Rattle.dns_model.proofs.CommonAncestors.{above_aligned}
use Rattle.dns_model.proofs.NameLemmas.{name_eq-Decides}
use Rattle.dns_model.proofs.QuestionLemmas.{same_parts}
use Rattle.dns_rules.specs.Marks.{key_question}
use Rattle.dns_rules.specs.Delegations.{ds_question}

abbrev kind : ℕ → ℕ
kind rtype = if rtype == type_ds then 0 else if rtype == type_dnskey then 1 else 2

-- by the number of labels, and at one name a set below its keys, and these below their DS set
abbrev pub rank : Question → ℕ
rank q = length q.owner * 3 + kind q.rtype

pub name_lengths : (a b : Labels) → name_eq a b ≡ true → length a ≡ length b
name_lengths a b h = sym (length-map a lowered) ∙ ap length ((name_eq-Decides a b).0 h) ∙ length-map b lowered

pub same_rank : (a b : Question) → question_eq a b ≡ true → rank a ≡ rank b
same_rank a b h =
    let is = same_parts a b h in
    ap (λ n. n * 3 + kind a.rtype) (name_lengths a.owner b.owner is.owner) ∙ ap (λ t. length b.owner * 3 + kind t) is.rtype

strictly_shorter : (above name : Labels) → at_or_above above name ≡ true → name_eq above name ≡ false → length above < length name
strictly_shorter above name h other =
    let short = above_is_shorter above name h in
    by_cases (nat_eq (length above) (length name)) refl short
  where
    by_cases : (b : Bool) → nat_eq (length above) (length name) ≡ b → length above ≤ length name → length above < length name
    by_cases true is short =
        let same : length above ≡ length name = grind (arith, nat_tests) in
        absurd (true≢false (sym h ∙ above_aligned above name same ∙ other))
    by_cases false is short = grind (arith, nat_tests)

-- the keys of a signer stand lower than what they sign
pub keys_lower : (rtype class : ℕ) (owner signer : Labels) (q : Question) → signer_fits rtype signer owner ≡ true
    → (rtype == type_dnskey) ≡ false
    → q.rtype ≡ rtype → length q.owner ≡ length owner → rank (key_question class signer) < rank q
keys_lower rtype class owner signer q fits other is as_long = by_cases (rtype == type_ds) refl fits
  where
    kind_is : kind q.rtype ≡ kind rtype
    kind_is = ap kind is

    by_cases : (b : Bool) → (rtype == type_ds) ≡ b → (if b then strictly_above signer owner else at_or_above signer owner) ≡ true
        → rank (key_question class signer) < rank q
    by_cases true ds h =
        let parts = strictly_parts signer owner h in
        let short = strictly_shorter signer owner parts.0 parts.1 in
        omega arith
    by_cases false ds h =
        let short = above_is_shorter signer owner h in
        let two : kind rtype ≡ 2 = ap (λ b. if b then 0 else if rtype == type_dnskey then 1 else 2) ds
        ∙ ap (λ b. if b then 1 else 2) other in
        omega (arith, kind_is, two)

-- and the DS set of an owner lower than its keys
pub ds_lower : (class : ℕ) (owner : Labels) (q : Question) → (q.rtype == type_dnskey) ≡ true → (q.rtype == type_ds) ≡ false
    → length q.owner ≡ length owner → rank (ds_question class owner) < rank q
ds_lower class owner q keys ds as_long =
    let one : kind q.rtype ≡ 1 = ap (λ b. if b then 0 else if q.rtype == type_dnskey then 1 else 2) ds
    ∙ ap (λ b. if b then 1 else 2) keys in
    omega (arith, one)
