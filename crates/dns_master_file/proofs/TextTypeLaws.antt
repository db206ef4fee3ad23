-- Addresses and texts that are written as the rdata of a record are read as the same bytes.
use Rattle.std.proofs.Common.{◌≡◌, ℕ, ◌<◌, ◌≤◌, true, ◌&&◌, ◌==◌, List, [], ◌∷◌, ◌++◌, length, take, drop, map, Option, None, Some, Ok, refl, sym, ap, subst, ◌∙◌, arith, append-nil, length-append, length-drop, inl, inr}
use Rattle.std.specs.Prelude.{nat_le, nat_lt}
use Rattle.std.specs.Char.{is_ascii_alphanumeric}
use Rattle.std.specs.Fmt.{decimal}
use Rattle.std.specs.List.{concat, list_all}
use Rattle.std.specs.Net.Addr.{segments_of}
use Rattle.std.specs.Net.Text.{ipv4_text, ipv6_text}
use Rattle.std.proofs.lemmas.Bool.{and_parts, cases_Bool, eqb-true}
use Rattle.std.proofs.lemmas.Bool.Decides.{nat_tests}
use Rattle.std.proofs.lemmas.List.{take-append-drop}
use Rattle.std.proofs.lemmas.List.Folds.{list_all-append}
use Rattle.std.proofs.lemmas.Option.{same_Some}
use Rattle.dns_model.specs.Bytes.{is_bytes}
use Rattle.dns_model.specs.OptionSteps.{◌>>=◌}
use Rattle.dns_model.specs.Shapes.{counted_in}
use Rattle.dns_text.proofs.WordShapes.{bytes_below}
use Rattle.dns_presentation.specs.Forms.{Words, a_words, aaaa_words, caa_fields, caa_words, is_tag, strings_in, txt_words, where_some}
use Rattle.dns_presentation.specs.Spelling.{quoted}
use Rattle.dns_master_words.proofs.AddressLaws.{ipv4_back, ipv4_some, ipv6_back, ipv6_some, segments_below}
use Rattle.dns_master_file.specs.Fields.{fields_in}
use Rattle.dns_master_file.specs.Front.{word_in}
use Rattle.dns_master_file.specs.Meanings.{counted, meant}
use Rattle.dns_master_file.specs.Reading.{after_mark}
use Rattle.dns_master_file.specs.declared.field.Field.{Field}
use Rattle.dns_master_file.specs.declared.field.Field.TheVariants.{Byte, Ipv4, Ipv6, Tag, Text, Texts}
use Rattle.dns_master_file.proofs.FieldLaws.{byte_step, field_step, more_fields, no_words}
use Rattle.dns_master_file.proofs.QuotedLaws.{is_string, quoted_first, string_of, strings_end, text_end}
use Rattle.dns_master_file.proofs.TypeLaws.{IsReadAs, first_small, number_first, rest_small}
use Rattle.dns_master_file.proofs.WordLemmas.{IsWord, alphanumeric_plain, ipv4_plain, ipv6_plain, is_plain, left, next_word, plain_unmarked, plain_word}

-- ---- addresses

plain_first : (word : List ℕ) (words : Words) → is_plain word ≡ true → IsWord word
    → after_mark (word_in (left (word ∷ words))) ≡ None
plain_first word words plain is = rw (next_word word words is, plain_unmarked word plain) refl

-- an rdata that is one word
one_word : (field : Field) (word rdata : List ℕ) → fields_in (field ∷ []) (left (word ∷ [])) ≡ Ok (rdata ++ [])
    → is_plain word ≡ true → IsWord word → IsReadAs (field ∷ []) rdata (word ∷ [])
one_word field word rdata reads plain is =
    record { own_form = plain_first word [] plain is; reads = reads ∙ ap Ok (append-nil rdata) }

ipv4_word : (rdata : List ℕ) → is_bytes rdata ≡ true → length rdata ≡ 4
    → IsReadAs (Ipv4 ∷ []) rdata (ipv4_text rdata ∷ [])
unfolding meant
ipv4_word rdata h size =
    let back = ipv4_back rdata size h in
    let word = ipv4_text rdata in
    let plain = ipv4_plain rdata (bytes_below rdata h) in
    let is = plain_word word plain (ipv4_some word rdata back) in
    one_word Ipv4 word rdata
    (more_fields Ipv4 [] _ rdata (left []) [] (field_step Ipv4 word rdata [] refl refl is back) no_words) plain is

pub a_law : (rdata : List ℕ) (words : Words) → is_bytes rdata ≡ true → a_words rdata ≡ Some words
    → IsReadAs (Ipv4 ∷ []) rdata words
unfolding a_words
a_law rdata words h e =
    elim (cases_Bool (length rdata == 4)) [
      | inl four ↦
          let same : ipv4_text rdata ∷ [] ≡ words = same_Some _ _ (rw four at e) in
          subst (IsReadAs (Ipv4 ∷ []) rdata) same (ipv4_word rdata h (eqb-true (length rdata) 4 four))
      | inr other ↦ let none : None ≡ Some words = rw other at e in cc
    ]

ipv6_word : (rdata : List ℕ) → is_bytes rdata ≡ true → length rdata ≡ 16
    → IsReadAs (Ipv6 ∷ []) rdata (ipv6_text (segments_of rdata) ∷ [])
unfolding meant
ipv6_word rdata h size =
    let back = ipv6_back rdata size h in
    let word = ipv6_text (segments_of rdata) in
    let plain = ipv6_plain (segments_of rdata) (segments_below rdata (bytes_below rdata h)) in
    let is = plain_word word plain (ipv6_some word rdata back) in
    one_word Ipv6 word rdata
    (more_fields Ipv6 [] _ rdata (left []) [] (field_step Ipv6 word rdata [] refl refl is back) no_words) plain is

pub aaaa_law : (rdata : List ℕ) (words : Words) → is_bytes rdata ≡ true → aaaa_words rdata ≡ Some words
    → IsReadAs (Ipv6 ∷ []) rdata words
unfolding aaaa_words
aaaa_law rdata words h e =
    elim (cases_Bool (length rdata == 16)) [
      | inl sixteen ↦
          let same : ipv6_text (segments_of rdata) ∷ [] ≡ words = same_Some _ _ (rw sixteen at e) in
          subst (IsReadAs (Ipv6 ∷ []) rdata) same (ipv6_word rdata h (eqb-true (length rdata) 16 sixteen))
      | inr other ↦ let none : None ≡ Some words = rw other at e in cc
    ]

-- ---- character-strings

-- bytes that a length byte counts, in front of others
pub record IsCountedFront (bytes front rest : List ℕ) : Type 0 where
  pub whole : bytes ≡ string_of front ++ rest
  pub string : is_string front ≡ true
  pub after : is_bytes rest ≡ true

counted_parts : (size : ℕ) (more : List ℕ) → size < 256 → is_bytes more ≡ true → size ≤ length more
    → IsCountedFront (size ∷ more) (take size more) (drop size more)
counted_parts size more small h fits =
    let front = take size more in
    let rest = drop size more in
    let split : take size more ++ drop size more ≡ more = take-append-drop size more in
    let sizes = length-append (take size more) (drop size more) in
    let left_size = length-drop size more in
    let whole_size = ap (λ (l : List ℕ). length l) split in
    let front_size : length (take size more) ≡ size = omega (arith, sizes, left_size, whole_size, fits) in
    let both : is_bytes (take size more) && is_bytes (drop size more) ≡ true =
    sym (list_all-append (λ b. nat_lt b 256) front rest) ∙ ap is_bytes split ∙ h in
    let parts = and_parts (is_bytes (take size more)) (is_bytes (drop size more)) both in
    let short : nat_le (length (take size more)) 255 ≡ true = grind (arith, nat_tests, front_size, small) in
    record {
      whole = ap (λ n. n ∷ more) (sym front_size) ∙ ap (λ l. length (take size more) ∷ l) (sym split);
      string = rw (short, parts.0) refl;
      after = parts.1;
    }

pub counted_front : (bytes front rest : List ℕ) → is_bytes bytes ≡ true → counted_in bytes ≡ Some (front, rest)
    → IsCountedFront bytes front rest
unfolding counted_in
counted_front [] front rest h e = cc
counted_front (size ∷ more) front rest h e =
    elim (cases_Bool (nat_le size (length more))) [
      | inr long ↦ let none : None ≡ Some (front, rest) = rw long at e in cc
      | inl fits ↦
          let within : size ≤ length more = grind (arith, nat_tests, fits) in
          let same : (take size more, drop size more) ≡ (front, rest) = same_Some _ _ (rw fits at e) in
          let parts = counted_parts size more (first_small size more h) (rest_small size more h) within in
          subst (λ (p : List ℕ × List ℕ). IsCountedFront (size ∷ more) p.0 p.1) same parts
    ]

-- bytes that are character-strings
record AreStrings (bytes : List ℕ) (texts : List (List ℕ)) : Type 0 where
  whole : bytes ≡ concat (map string_of texts)
  each : list_all is_string texts ≡ true

abbrev AfterThem : List ℕ → Type 0
AfterThem bound =
    (rest : List ℕ) (texts : List (List ℕ)) → strings_in bound rest ≡ Some texts → is_bytes rest ≡ true
    → AreStrings rest texts

strings_then : (bytes front rest : List ℕ) (texts : List (List ℕ)) (more : Option (List (List ℕ)))
    → IsCountedFront bytes front rest → ((ts : List (List ℕ)) → more ≡ Some ts → AreStrings rest ts)
    → (more >>= λ ts. Some (front ∷ ts)) ≡ Some texts → AreStrings bytes texts
strings_then bytes front rest texts None one others e = cc
strings_then bytes front rest texts (Some ts) one others e =
    let same : front ∷ ts ≡ texts = same_Some _ _ e in
    let them = others ts refl in
    subst (AreStrings bytes) same (record {
      whole = one.whole ∙ ap (λ l. string_of front ++ l) them.whole;
      each = rw (one.string, them.each) refl;
    })

strings_at : (bound bytes : List ℕ) (texts : List (List ℕ)) (read : Option (List ℕ × List ℕ)) → counted_in bytes ≡ read
    → is_bytes bytes ≡ true → AfterThem bound
    → (read >>= λ text. strings_in bound text.1 >>= λ ts. Some (text.0 ∷ ts)) ≡ Some texts → AreStrings bytes texts
strings_at bound bytes texts None is h others e = cc
strings_at bound bytes texts (Some (front, rest)) is h others e =
    let one = counted_front bytes front rest h is in
    strings_then bytes front rest texts (strings_in bound rest) one (λ ts k. others rest ts k one.after) e

are_strings : (bound bytes : List ℕ) (texts : List (List ℕ)) → strings_in bound bytes ≡ Some texts
    → is_bytes bytes ≡ true → AreStrings bytes texts
unfolding strings_in
are_strings bound [] texts e h =
    let same : [] ≡ texts = same_Some _ _ e in subst (AreStrings []) same (record { whole = refl; each = refl })
are_strings [] (b ∷ bs) texts e h = cc
are_strings (_ ∷ bound) (b ∷ bs) texts e h =
    strings_at bound (b ∷ bs) texts (counted_in (b ∷ bs)) refl h (are_strings bound) e

some_strings : (rdata : List ℕ) (texts : List (List ℕ)) → 0 < length rdata → AreStrings rdata texts
    → IsReadAs (Texts ∷ []) rdata (map quoted texts)
some_strings rdata [] some are = absurd (omega (arith, some, ap (λ (l : List ℕ). length l) are.whole))
some_strings rdata (text ∷ texts) some are =
    record {
      own_form = quoted_first text (map quoted texts);
      reads = strings_end text texts are.each ∙ ap Ok (sym are.whole);
    }

txt_at : (rdata : List ℕ) (words : Words) (read : Option (List (List ℕ))) → is_bytes rdata ≡ true
    → strings_in rdata rdata ≡ read → (read >>= λ texts. where_some rdata (map quoted texts)) ≡ Some words
    → IsReadAs (Texts ∷ []) rdata words
txt_at rdata words None h is e = cc
txt_at rdata words (Some texts) h is e =
    elim (cases_Bool (nat_lt 0 (length rdata))) [
      | inr empty ↦ let none : None ≡ Some words = rw empty at e in cc
      | inl filled ↦
          let some : 0 < length rdata = grind (arith, nat_tests, filled) in
          let same : map quoted texts ≡ words = same_Some _ _ (rw filled at e) in
          let are = are_strings rdata rdata texts is h in
          subst (IsReadAs (Texts ∷ []) rdata) same (some_strings rdata texts some are)
    ]

pub txt_law : (rdata : List ℕ) (words : Words) → is_bytes rdata ≡ true → txt_words rdata ≡ Some words
    → IsReadAs (Texts ∷ []) rdata words
unfolding txt_words
txt_law rdata words h e = txt_at rdata words (strings_in rdata rdata) h refl e

-- ---- CAA

tag_word : (tag : List ℕ) → is_tag tag ≡ true → IsWord tag
tag_word tag h =
    let parts = and_parts (nat_lt 0 (length tag)) (list_all is_ascii_alphanumeric tag) h in
    let some : 0 < length tag = grind (arith, nat_tests, parts.0) in
    plain_word tag (alphanumeric_plain tag parts.1) some

tag_means : (tag : List ℕ) → is_tag tag ≡ true → is_string tag ≡ true → meant Tag tag ≡ Some (string_of tag)
unfolding meant
tag_means tag h string =
    let parts = and_parts (nat_le (length tag) 255) (is_bytes tag) string in
    let short : counted tag ≡ Some (string_of tag) = rw parts.0 refl in
    rw h short

caa_at : (flags : ℕ) (rest tag value : List ℕ) → flags < 256 → IsCountedFront rest tag value → is_tag tag ≡ true
    → IsReadAs (Byte ∷ Tag ∷ Text ∷ []) (flags ∷ rest) (decimal flags ∷ tag ∷ quoted value ∷ [])
caa_at flags rest tag value small front is =
    let last : Words = quoted value ∷ [] in
    let words : Words = tag ∷ last in
    let means = tag_means tag is front.string in
    let step = field_step Tag tag (string_of tag) last refl refl (tag_word tag is) means in
    let end = text_end value front.after in
    let after = more_fields Tag (Text ∷ []) _ (string_of tag) (left last) value step end ∙ ap Ok (sym front.whole) in
    record {
      own_form = number_first flags words (omega (arith, small));
      reads = byte_step flags _ words rest small after;
    }

caa_front : (flags : ℕ) (rest : List ℕ) (words : Words) (read : Option (List ℕ × List ℕ))
    → is_bytes (flags ∷ rest) ≡ true
    → counted_in rest ≡ read → (read >>= caa_fields flags) ≡ Some words
    → IsReadAs (Byte ∷ Tag ∷ Text ∷ []) (flags ∷ rest) words
caa_front flags rest words None h is e = cc
caa_front flags rest words (Some (tag, value)) h is e =
    elim (cases_Bool (is_tag tag)) [
      | inr other ↦ let none : None ≡ Some words = rw other at e in cc
      | inl tagged ↦
          let same : decimal flags ∷ tag ∷ quoted value ∷ [] ≡ words = same_Some _ _ (rw tagged at e) in
          let front = counted_front rest tag value (rest_small flags rest h) is in
          subst (IsReadAs (Byte ∷ Tag ∷ Text ∷ []) (flags ∷ rest)) same
          (caa_at flags rest tag value (first_small flags rest h) front tagged)
    ]

pub caa_law : (rdata : List ℕ) (words : Words) → is_bytes rdata ≡ true → caa_words rdata ≡ Some words
    → IsReadAs (Byte ∷ Tag ∷ Text ∷ []) rdata words
unfolding caa_words
caa_law [] words h e = cc
caa_law (flags ∷ rest) words h e = caa_front flags rest words (counted_in rest) h refl e
