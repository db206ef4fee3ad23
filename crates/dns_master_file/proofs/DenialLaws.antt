-- The rdata of an NSEC and of an NSEC3 that are written are read as the same bytes.
use Rattle.std.proofs.Common.{◌≡◌, ℕ, ◌≤◌, true, false, ◌==◌, List, [], ◌∷◌, ◌++◌, length, drop, map, Option, None, Some, Ok, refl, sym, ap, subst, ◌∙◌, arith, append-nil, inl, inr, option_map}
use Rattle.std.specs.Prelude.{nat_le, nat_lt, slice_index}
use Rattle.std.specs.Fmt.{decimal}
use Rattle.std.specs.List.{list_all}
use Rattle.std.proofs.lemmas.Bool.{and_parts, cases_Bool, eqb-true}
use Rattle.std.proofs.lemmas.Bool.Decides.{nat_tests}
use Rattle.std.proofs.lemmas.Option.{same_Some}
use Rattle.dns_model.specs.Bytes.{is_bytes, u16_at}
use Rattle.dns_model.specs.Names.{Labels}
use Rattle.dns_model.specs.NameForm.{name_in}
use Rattle.dns_model.specs.Nsec3Hash.{base32hex}
use Rattle.dns_model.specs.OptionSteps.{◌>>=◌}
use Rattle.dns_model.specs.Shapes.{counted_in, is_bitmap}
use Rattle.dns_model.specs.Views.{nsec3_after_salt, nsec3_from, nsec3_in, nsec_from, nsec_in}
use Rattle.dns_text.specs.Words.{octets_word}
use Rattle.dns_text.proofs.WordShapes.{bytes_below}
use Rattle.dns_presentation.specs.Forms.{Words, nsec3_fields, nsec3_words, nsec_fields, nsec_words}
use Rattle.dns_presentation.specs.Spelling.{name_text, spaced}
use Rattle.dns_presentation.specs.TypeLists.{types_in}
use Rattle.dns_presentation.specs.TypeTexts.{type_text}
use Rattle.dns_master_words.proofs.BitmapLaws.{bitmap_back, types_small}
use Rattle.dns_master_words.proofs.HashLaws.{hash_back, hash_letters, hash_size}
use Rattle.dns_master_file.specs.Fields.{field_in, fields_in, type_first, types_in as types_read}
use Rattle.dns_master_file.specs.Front.{after_blanks, all_in, is_over}
use Rattle.dns_master_file.specs.Meanings.{counted, meant}
use Rattle.dns_master_file.specs.declared.field.Field.{Field}
use Rattle.dns_master_file.specs.declared.field.Field.TheVariants.{Byte, TwoBytes, DomainName, Salt, Hash, Types}
use Rattle.dns_master_file.proofs.CodeLaws.{type_back}
use Rattle.dns_master_file.proofs.FieldLaws.{field_step, more_fields, name_step, no_fields, octets_some, salt_means}
use Rattle.dns_master_file.proofs.ItemLemmas.{all_more, all_over, type_shorter}
use Rattle.dns_master_file.proofs.QuotedLaws.{ended, is_string, string_of}
use Rattle.dns_master_file.proofs.TextTypeLaws.{IsCountedFront, counted_front}
use Rattle.dns_master_file.proofs.SignatureLaws.{byte_read, dropped_bytes, two_read}
use Rattle.dns_master_file.proofs.TypeLaws.{IsNamed, IsReadAs, name_first, named, number_first}
use Rattle.dns_master_file.proofs.WordLemmas.{alphanumeric_plain, left, left_more, never_over, next_word, octets_plain, plain_word, type_is_word}

-- ---- types

-- a type in front of words
type_step : (rtype : ℕ) (words : Words) → rtype ≤ 65535
    → type_first (left (type_text rtype ∷ words)) ≡ Ok (rtype, left words)
type_step rtype words small =
    rw (next_word (type_text rtype) words (type_is_word rtype small), type_back rtype small) refl

more_types : (rtype : ℕ) (words : Words) → rtype ≤ 65535 → is_over (left (type_text rtype ∷ words)) ≡ false
more_types rtype words small =
    let word = type_is_word rtype small in
    ap is_over (left_more (type_text rtype) words word) ∙ never_over (type_text rtype) (spaced words) word

all_types : (types : List ℕ) → list_all (λ t. nat_lt t 65536) types ≡ true
    → all_in type_first (left (map type_text types)) ≡ Ok types
unfolding after_blanks
all_types [] h = all_over type_first [] refl
all_types (rtype ∷ types) h =
    let parts = and_parts (nat_lt rtype 65536) (list_all (λ t. nat_lt t 65536) types) h in
    let small : rtype ≤ 65535 = grind (arith, nat_tests, parts.0) in
    let more = more_types rtype (map type_text types) small in
    let rest = all_types types parts.1 in
    all_more type_first type_shorter (left (type_text rtype ∷ map type_text types)) more
    ∙ rw (type_step rtype (map type_text types) small, rest) refl

types_back : (bytes types : List ℕ) → is_bytes bytes ≡ true → types_in bytes ≡ Some types
    → types_read (left (map type_text types)) ≡ Ok bytes
unfolding types_read
types_back bytes types h e =
    rw (all_types types (types_small bytes types h e)) (ap Ok (bitmap_back bytes types h e))

-- types that end an rdata
types_end : (bytes types : List ℕ) → is_bytes bytes ≡ true → types_in bytes ≡ Some types
    → fields_in (Types ∷ []) (left (map type_text types)) ≡ Ok bytes
types_end bytes types h e =
    let first : field_in Types (left (map type_text types)) ≡ Ok (bytes, []) =
    ap ended (types_back bytes types h e) in
    more_fields Types [] _ bytes [] [] first no_fields ∙ ap Ok (append-nil bytes)

-- ---- NSEC

nsec_listed : (rdata : List ℕ) (next : Labels) (bitmap : List ℕ) (words : Words) (types : Option (List ℕ))
    → IsNamed rdata next bitmap → types_in bitmap ≡ types
    → option_map (λ types. name_text next ∷ map type_text types) types ≡ Some words
    → IsReadAs (DomainName ∷ Types ∷ []) rdata words
nsec_listed rdata next bitmap words None one is e = cc
nsec_listed rdata next bitmap words (Some types) one is e =
    let same : name_text next ∷ map type_text types ≡ words = same_Some _ _ e in
    let last : Words = map type_text types in
    let end = types_end bitmap types one.after is in
    subst (IsReadAs (DomainName ∷ Types ∷ []) rdata) same (record {
      own_form = name_first next last one.good one.labels;
      reads = name_step next _ last _ one.good one.labels end ∙ ap Ok (sym one.whole);
    })

nsec_at : (rdata : List ℕ) (words : Words) (read : Option (Labels × List ℕ)) → is_bytes rdata ≡ true
    → name_in rdata ≡ read → (nsec_from read >>= nsec_fields) ≡ Some words
    → IsReadAs (DomainName ∷ Types ∷ []) rdata words
nsec_at rdata words None h is e = cc
nsec_at rdata words (Some (next, bitmap)) h is e =
    elim (cases_Bool (is_bitmap bitmap)) [
      | inr other ↦ let none : None ≡ Some words = rw other at e in cc
      | inl good ↦
          nsec_listed rdata next bitmap words (types_in bitmap) (named rdata next bitmap h is) refl (rw good at e)
    ]

pub nsec_law : (rdata : List ℕ) (words : Words) → is_bytes rdata ≡ true → nsec_words rdata ≡ Some words
    → IsReadAs (DomainName ∷ Types ∷ []) rdata words
unfolding nsec_words nsec_in
nsec_law rdata words h e = nsec_at rdata words (name_in rdata) h refl e

-- ---- NSEC3

hash_means : (hash : List ℕ) → is_string hash ≡ true → length hash ≡ 20
    → meant Hash (base32hex hash) ≡ Some (string_of hash)
unfolding meant
hash_means hash string size =
    let parts = and_parts (nat_le (length hash) 255) (is_bytes hash) string in
    let short : counted hash ≡ Some (string_of hash) = rw parts.0 refl in
    rw (hash_back hash parts.1 size) short

hash_step : (hash : List ℕ) (fields : List Field) (words : Words) (more : List ℕ) → is_string hash ≡ true
    → length hash ≡ 20 → fields_in fields (left words) ≡ Ok more
    → fields_in (Hash ∷ fields) (left (base32hex hash ∷ words)) ≡ Ok (string_of hash ++ more)
hash_step hash fields words more string size others =
    let long = hash_size hash size in
    let plain = alphanumeric_plain (base32hex hash) (hash_letters hash) in
    let word = plain_word (base32hex hash) plain (omega (arith, long)) in
    more_fields Hash fields _ (string_of hash) _ more
    (field_step Hash (base32hex hash) (string_of hash) words refl refl word (hash_means hash string size)) others

salt_step : (salt : List ℕ) (fields : List Field) (words : Words) (more : List ℕ) → is_string salt ≡ true
    → fields_in fields (left words) ≡ Ok more
    → fields_in (Salt ∷ fields) (left (octets_word salt ∷ words)) ≡ Ok (string_of salt ++ more)
salt_step salt fields words more string others =
    let parts = and_parts (nat_le (length salt) 255) (is_bytes salt) string in
    let short : length salt ≤ 255 = grind (arith, nat_tests, parts.0) in
    let word = plain_word (octets_word salt) (octets_plain salt parts.1) (octets_some salt) in
    more_fields Salt fields _ (string_of salt) _ more
    (field_step Salt (octets_word salt) (string_of salt) words refl refl word (salt_means salt parts.1 short)) others

abbrev nsec3_form : List Field
nsec3_form = Byte ∷ Byte ∷ TwoBytes ∷ Salt ∷ Hash ∷ Types ∷ []

-- the rdata behind its first four bytes
record IsTail (rest salt next bitmap : List ℕ) : Type 0 where
  salted : List ℕ
  first : IsCountedFront rest salt salted
  second : IsCountedFront salted next bitmap

nsec3_read : (rdata salt next bitmap types : List ℕ) → is_bytes rdata ≡ true → 4 ≤ length rdata
    → IsTail (drop 4 rdata) salt next bitmap → length next ≡ 20 → types_in bitmap ≡ Some types
    → IsReadAs nsec3_form rdata
    (decimal (slice_index rdata 0) ∷ decimal (slice_index rdata 1) ∷ decimal (u16_at rdata 2) ∷ octets_word salt
    ∷ base32hex next ∷ map type_text types)
nsec3_read rdata salt next bitmap types h long tail size e =
    let below = bytes_below rdata h in
    let first_below = below 0 in
    let fifth : Words = map type_text types in
    let fourth : Words = base32hex next ∷ fifth in
    let third : Words = octets_word salt ∷ fourth in
    let second : Words = decimal (u16_at rdata 2) ∷ third in
    let front : Words = decimal (slice_index rdata 1) ∷ second in
    let listed = types_end bitmap types tail.second.after e in
    let hashed = hash_step next _ fifth _ tail.second.string size listed ∙ ap Ok (sym tail.second.whole) in
    let salted = salt_step salt _ fourth _ tail.first.string hashed ∙ ap Ok (sym tail.first.whole) in
    let repeated = two_read rdata 2 4 _ third h refl long salted in
    let flagged = byte_read rdata 1 2 _ second h refl (omega (arith, long)) repeated in
    record {
      own_form = number_first (slice_index rdata 0) front (omega (arith, first_below));
      reads = byte_read rdata 0 1 _ front h refl (omega (arith, long)) flagged;
    }

nsec3_listed : (rdata salt next bitmap : List ℕ) (words : Words) (types : Option (List ℕ)) → is_bytes rdata ≡ true
    → 4 ≤ length rdata → IsTail (drop 4 rdata) salt next bitmap → length next ≡ 20 → types_in bitmap ≡ types
    → option_map
    (λ types. decimal (slice_index rdata 0) ∷ decimal (slice_index rdata 1) ∷ decimal (u16_at rdata 2)
    ∷ octets_word salt ∷ base32hex next ∷ map type_text types)
    types ≡ Some words
    → IsReadAs nsec3_form rdata words
nsec3_listed rdata salt next bitmap words None h long tail size is e = cc
nsec3_listed rdata salt next bitmap words (Some types) h long tail size is e =
    let same : decimal (slice_index rdata 0) ∷ decimal (slice_index rdata 1) ∷ decimal (u16_at rdata 2)
    ∷ octets_word salt ∷ base32hex next ∷ map type_text types
    ≡ words = same_Some _ _ e in
    subst (IsReadAs nsec3_form rdata) same (nsec3_read rdata salt next bitmap types h long tail size is)

nsec3_next : (rdata salt salted : List ℕ) (words : Words) (read : Option (List ℕ × List ℕ)) → is_bytes rdata ≡ true
    → 4 ≤ length rdata → IsCountedFront (drop 4 rdata) salt salted → counted_in salted ≡ read
    → (nsec3_from rdata salt read >>= nsec3_fields) ≡ Some words → IsReadAs nsec3_form rdata words
nsec3_next rdata salt salted words None h long first is e = cc
nsec3_next rdata salt salted words (Some (next, bitmap)) h long first is e =
    let tail : IsTail (drop 4 rdata) salt next bitmap =
    record { salted = salted; first = first; second = counted_front salted next bitmap first.after is } in
    elim (cases_Bool (is_bitmap bitmap)) [
      | inr other ↦ let none : None ≡ Some words = rw other at e in cc
      | inl good ↦ elim (cases_Bool (length next == 20)) [
        | inr other ↦ let none : None ≡ Some words = rw (good, other) at e in cc
        | inl whole ↦
            nsec3_listed rdata salt next bitmap words (types_in bitmap) h long tail (eqb-true (length next) 20 whole)
            refl (rw (good, whole) at e)
      ]
    ]

nsec3_salt : (rdata : List ℕ) (words : Words) (read : Option (List ℕ × List ℕ)) → is_bytes rdata ≡ true
    → 4 ≤ length rdata → counted_in (drop 4 rdata) ≡ read
    → (nsec3_after_salt rdata read >>= nsec3_fields) ≡ Some words → IsReadAs nsec3_form rdata words
nsec3_salt rdata words None h long is e = cc
nsec3_salt rdata words (Some (salt, salted)) h long is e =
    let first = counted_front (drop 4 rdata) salt salted (dropped_bytes 4 rdata h) is in
    nsec3_next rdata salt salted words (counted_in salted) h long first refl e

pub nsec3_law : (rdata : List ℕ) (words : Words) → is_bytes rdata ≡ true → nsec3_words rdata ≡ Some words
    → IsReadAs nsec3_form rdata words
unfolding nsec3_words nsec3_in
nsec3_law rdata words h e =
    elim (cases_Bool (nat_lt (length rdata) 4)) [
      | inl short ↦ let none : None ≡ Some words = rw short at e in cc
      | inr enough ↦
          let long : 4 ≤ length rdata = grind (arith, nat_tests, enough) in
          nsec3_salt rdata words (counted_in (drop 4 rdata)) h long refl (rw enough at e)
    ]
