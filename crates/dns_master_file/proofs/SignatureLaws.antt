-- The rdata of an RRSIG that is written is read as the same bytes.
use Rattle.std.proofs.Common.{◌≡◌, ℕ, suc, ◌+◌, ◌*◌, ◌/◌, ◌%◌, ◌<◌, ◌≤◌, true, ◌&&◌, List, [], ◌∷◌, ◌++◌, length, take, drop, Option, None, Some, Ok, refl, sym, ap, subst, ◌∙◌, arith, inl, inr, option_map}
use Rattle.std.specs.Prelude.{nat_lt, slice_index}
use Rattle.std.specs.Fmt.{decimal}
use Rattle.std.proofs.lemmas.Bool.{and_parts, cases_Bool}
use Rattle.std.proofs.lemmas.Bool.Decides.{nat_tests}
use Rattle.std.proofs.lemmas.List.{take-append-drop}
use Rattle.std.proofs.lemmas.List.Folds.{list_all-append}
use Rattle.std.proofs.lemmas.Option.{same_Some}
use Rattle.dns_model.specs.Bytes.{is_bytes, u16_at, u16_bytes, u32_at, u32_bytes}
use Rattle.dns_model.specs.Names.{Labels}
use Rattle.dns_model.specs.NameForm.{name_in}
use Rattle.dns_model.specs.OptionSteps.{◌>>=◌}
use Rattle.dns_model.specs.Views.{RrsigValue, rrsig_in, rrsig_of}
use Rattle.dns_text.proofs.WordShapes.{bytes_below}
use Rattle.dns_presentation.specs.Calendar.{time_text}
use Rattle.dns_presentation.specs.Forms.{Words, base64_word, rrsig_fields, rrsig_words, signed_fields, signer_fields}
use Rattle.dns_presentation.specs.Spelling.{name_text}
use Rattle.dns_presentation.specs.TypeTexts.{type_text}
use Rattle.dns_master_file.specs.Fields.{fields_in}
use Rattle.dns_master_file.specs.Front.{word_in}
use Rattle.dns_master_file.specs.Reading.{after_mark}
use Rattle.dns_master_file.specs.declared.field.Field.{Field}
use Rattle.dns_master_file.specs.declared.field.Field.TheVariants.{Byte, TwoBytes, FourBytes, DomainName, Base64, TypeWord, Time}
use Rattle.dns_master_file.proofs.FieldLaws.{base64_end, byte_step, name_step, time_step, two_step, type_step}
use Rattle.dns_master_file.proofs.TypeLaws.{IsNamed, IsReadAs, drop_at, four_at, four_below, named, number_read}
use Rattle.dns_master_file.proofs.WordLemmas.{left, next_word, plain_unmarked, type_is_word, type_plain}

-- ---- fields at a place of an rdata

pub byte_read : (bytes : List ℕ) (p q : ℕ) (fields : List Field) (words : Words) → is_bytes bytes ≡ true → suc p ≡ q
    → q ≤ length bytes → fields_in fields (left words) ≡ Ok (drop q bytes)
    → fields_in (Byte ∷ fields) (left (decimal (slice_index bytes p) ∷ words)) ≡ Ok (drop p bytes)
byte_read bytes p q fields words h next long others =
    let below = bytes_below bytes h in
    byte_step (slice_index bytes p) fields words (drop q bytes) (below p) others
    ∙ ap Ok (sym (drop_at bytes p q next (omega (arith, next, long))))

two_at : (bytes : List ℕ) (p q : ℕ) → is_bytes bytes ≡ true → p + 2 ≡ q → q ≤ length bytes
    → u16_bytes (u16_at bytes p) ++ drop q bytes ≡ drop p bytes
two_at bytes p q h next long =
    let below = bytes_below bytes h in
    let a_small = below p in
    let b_small = below (p + 1) in
    let a = slice_index bytes p in
    let b = slice_index bytes (p + 1) in
    let high : (slice_index bytes p * 256 + slice_index bytes (p + 1)) / 256 ≡ slice_index bytes p = omega arith in
    let low : (slice_index bytes p * 256 + slice_index bytes (p + 1)) % 256 ≡ slice_index bytes (p + 1) =
    omega arith in
    let one = drop_at bytes p (p + 1) (omega arith) (omega (arith, next, long)) in
    let two = drop_at bytes (p + 1) q (omega (arith, next)) (omega (arith, next, long)) in
    let front : u16_bytes (u16_at bytes p) ++ drop q bytes ≡ a ∷ b ∷ drop q bytes = rw (high, low) refl in
    front ∙ ap (λ l. a ∷ l) (sym two) ∙ sym one

two_below : (bytes : List ℕ) (p : ℕ) → is_bytes bytes ≡ true → u16_at bytes p < 65536
two_below bytes p h =
    let below = bytes_below bytes h in let a = below p in let b = below (p + 1) in omega arith

pub two_read : (bytes : List ℕ) (p q : ℕ) (fields : List Field) (words : Words) → is_bytes bytes ≡ true → p + 2 ≡ q
    → q ≤ length bytes → fields_in fields (left words) ≡ Ok (drop q bytes)
    → fields_in (TwoBytes ∷ fields) (left (decimal (u16_at bytes p) ∷ words)) ≡ Ok (drop p bytes)
two_read bytes p q fields words h next long others =
    two_step (u16_at bytes p) fields words (drop q bytes) (two_below bytes p h) others
    ∙ ap Ok (two_at bytes p q h next long)

type_read : (bytes : List ℕ) (p q : ℕ) (fields : List Field) (words : Words) → is_bytes bytes ≡ true → p + 2 ≡ q
    → q ≤ length bytes → fields_in fields (left words) ≡ Ok (drop q bytes)
    → fields_in (TypeWord ∷ fields) (left (type_text (u16_at bytes p) ∷ words)) ≡ Ok (drop p bytes)
type_read bytes p q fields words h next long others =
    type_step (u16_at bytes p) fields words (drop q bytes) (two_below bytes p h) others
    ∙ ap Ok (two_at bytes p q h next long)

time_read : (bytes : List ℕ) (p q : ℕ) (fields : List Field) (words : Words) → is_bytes bytes ≡ true → p + 4 ≡ q
    → q ≤ length bytes → fields_in fields (left words) ≡ Ok (drop q bytes)
    → fields_in (Time ∷ fields) (left (time_text (u32_at bytes p) ∷ words)) ≡ Ok (drop p bytes)
time_read bytes p q fields words h next long others =
    time_step (u32_at bytes p) fields words (drop q bytes) (four_below bytes p h) others
    ∙ ap Ok (ap (λ n. u32_bytes (u32_at bytes p) ++ drop n bytes) (sym next)
    ∙ four_at bytes p h (omega (arith, next, long)))

type_first : (n : ℕ) (words : Words) → n ≤ 65535 → after_mark (word_in (left (type_text n ∷ words))) ≡ None
type_first n words small =
    rw (next_word (type_text n) words (type_is_word n small), plain_unmarked (type_text n) (type_plain n small)) refl

pub dropped_bytes : (n : ℕ) (bytes : List ℕ) → is_bytes bytes ≡ true → is_bytes (drop n bytes) ≡ true
dropped_bytes n bytes h =
    let split : take n bytes ++ drop n bytes ≡ bytes = take-append-drop n bytes in
    let both : is_bytes (take n bytes) && is_bytes (drop n bytes) ≡ true =
    sym (list_all-append (λ b. nat_lt b 256) (take n bytes) (drop n bytes)) ∙ ap is_bytes split ∙ h in
    (and_parts (is_bytes (take n bytes)) (is_bytes (drop n bytes)) both).1

-- ---- RRSIG

abbrev rrsig_form : List Field
rrsig_form = TypeWord ∷ Byte ∷ Byte ∷ FourBytes ∷ Time ∷ Time ∷ TwoBytes ∷ DomainName ∷ Base64 ∷ []

-- the words of a signature
abbrev words_of : List ℕ → Labels → List ℕ → Words
words_of rdata signer signature =
    signed_fields (rrsig_of rdata signer signature) ++ signer_fields (rrsig_of rdata signer signature)

signature_read : (rdata : List ℕ) (signer : Labels) (signature : List ℕ) → is_bytes rdata ≡ true → 18 ≤ length rdata
    → IsNamed (drop 18 rdata) signer signature → 0 < length signature
    → IsReadAs rrsig_form rdata (words_of rdata signer signature)
signature_read rdata signer signature h long one some =
    let ninth : Words = base64_word signature ∷ [] in
    let eighth : Words = name_text signer ∷ ninth in
    let seventh : Words = decimal (u16_at rdata 16) ∷ eighth in
    let sixth : Words = time_text (u32_at rdata 12) ∷ seventh in
    let fifth : Words = time_text (u32_at rdata 8) ∷ sixth in
    let fourth : Words = decimal (u32_at rdata 4) ∷ fifth in
    let third : Words = decimal (slice_index rdata 3) ∷ fourth in
    let second : Words = decimal (slice_index rdata 2) ∷ third in
    let last = base64_end signature one.after some in
    let name = name_step signer _ ninth _ one.good one.labels last ∙ ap Ok (sym one.whole) in
    let tag = two_read rdata 16 18 _ eighth h refl long name in
    let inception = time_read rdata 12 16 _ seventh h refl (omega (arith, long)) tag in
    let expiration = time_read rdata 8 12 _ sixth h refl (omega (arith, long)) inception in
    let ttl = number_read rdata 4 8 _ fifth h refl (omega (arith, long)) expiration in
    let labels = byte_read rdata 3 4 _ fourth h refl (omega (arith, long)) ttl in
    let algorithm = byte_read rdata 2 3 _ third h refl (omega (arith, long)) labels in
    let below = two_below rdata 0 h in
    record {
      own_form = type_first (u16_at rdata 0) second (omega (arith, below));
      reads = type_read rdata 0 2 _ second h refl (omega (arith, long)) algorithm;
    }

rrsig_at : (rdata : List ℕ) (signer : Labels) (signature : List ℕ) (words : Words) → is_bytes rdata ≡ true
    → 18 ≤ length rdata → IsNamed (drop 18 rdata) signer signature
    → rrsig_fields (rrsig_of rdata signer signature) ≡ Some words → IsReadAs rrsig_form rdata words
rrsig_at rdata signer signature words h long one e =
    elim (cases_Bool (nat_lt 0 (length signature))) [
      | inr empty ↦ let none : None ≡ Some words = rw empty at e in cc
      | inl filled ↦
          let some : 0 < length signature = grind (arith, nat_tests, filled) in
          let same : words_of rdata signer signature ≡ words = same_Some _ _ (rw filled at e) in
          subst (IsReadAs rrsig_form rdata) same (signature_read rdata signer signature h long one some)
    ]

abbrev after_name : List ℕ → Option (Labels × List ℕ) → Option RrsigValue
after_name rdata read = option_map (λ signer. rrsig_of rdata signer.0 signer.1) read

rrsig_named : (rdata : List ℕ) (words : Words) (read : Option (Labels × List ℕ)) → is_bytes rdata ≡ true
    → 18 ≤ length rdata → name_in (drop 18 rdata) ≡ read → (after_name rdata read >>= rrsig_fields) ≡ Some words
    → IsReadAs rrsig_form rdata words
rrsig_named rdata words None h long is e = cc
rrsig_named rdata words (Some (signer, signature)) h long is e =
    let one = named (drop 18 rdata) signer signature (dropped_bytes 18 rdata h) is in
    rrsig_at rdata signer signature words h long one e

pub rrsig_law : (rdata : List ℕ) (words : Words) → is_bytes rdata ≡ true → rrsig_words rdata ≡ Some words
    → IsReadAs rrsig_form rdata words
unfolding rrsig_words rrsig_in
rrsig_law rdata words h e =
    elim (cases_Bool (nat_lt (length rdata) 18)) [
      | inl short ↦ let none : None ≡ Some words = rw short at e in cc
      | inr enough ↦
          let long : 18 ≤ length rdata = grind (arith, nat_tests, enough) in
          rrsig_named rdata words (name_in (drop 18 rdata)) h long refl (rw enough at e)
    ]
