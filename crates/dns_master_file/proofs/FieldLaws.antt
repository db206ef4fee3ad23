-- Fields that are written are read as the same bytes.
use Rattle.std.proofs.Common.{◌≡◌, ℕ, zero, suc, ◌+◌, ◌*◌, ◌/◌, ◌%◌, ◌<◌, ◌≤◌, true, false, not, ◌==◌, List, [], ◌∷◌, ◌++◌, length, replicate, Some, Result, Ok, refl, ap, ◌∙◌, arith, length-append, append-nil}
use Rattle.std.specs.Prelude.{nat_le, nat_lt, slice_index}
use Rattle.std.specs.Fmt.{decimal}
use Rattle.std.specs.List.{list_all}
use Rattle.std.proofs.lemmas.Bool.{and_parts}
use Rattle.std.proofs.lemmas.Bool.Decides.{nat_tests}
use Rattle.std.proofs.lemmas.List.Folds.{list_all-append}
use Rattle.std.specs.Result.{result_ok}
use Rattle.base64.specs.GeneralPurpose.{decode_of, engine_symbols}
use Rattle.base64.specs.declared.decode.DecodeError.{DecodeError}
use Rattle.base64.specs.Engines.{standard}
use Rattle.base64.specs.Rfc4648.{encode_symbols, encode_group, padding_len}
use Rattle.base64.proofs.EngineFacts.{decode_of-encode_of}
use Rattle.hex.specs.Hex.{decode_of as decode_hex, encode_lower, lower_digits}
use Rattle.hex.specs.declared.error.FromHexError.{FromHexError}
use Rattle.hex.proofs.HexLemmas.{decode_of-encode_lower, length-encode_with}
use Rattle.dns_model.specs.Bytes.{is_bytes, u16_bytes, u32_bytes}
use Rattle.dns_model.specs.Names.{Labels, is_name, wire}
use Rattle.dns_text.specs.Words.{octets_word}
use Rattle.dns_text.proofs.OctetLaws.{octets_back}
use Rattle.dns_text.proofs.WordShapes.{bytes_below}
use Rattle.dns_text.proofs.WordLaws.{decimal_back}
use Rattle.dns_master_file.specs.Fields.{field_in, fields_in, is_text, one_in, takes_rest}
use Rattle.dns_presentation.specs.Forms.{base64_word}
use Rattle.dns_master_file.specs.Front.{after_blanks, ends_word, is_blank, is_bracket, joined_in, semicolon}
use Rattle.dns_master_file.specs.Meanings.{base64_meant, digits_meant, filled, meant}
use Rattle.dns_presentation.specs.Spelling.{name_text, quote}
use Rattle.dns_master_file.specs.declared.field.Field.{Field}
use Rattle.dns_master_file.specs.declared.field.Field.TheVariants.{Byte, TwoBytes, FourBytes, DomainName, Salt, Digits, Base64, TypeWord, Time}
use Rattle.dns_presentation.specs.Calendar.{time_text}
use Rattle.dns_presentation.specs.TypeTexts.{type_text}
use Rattle.dns_master_words.proofs.TimeLaws.{time_back}
use Rattle.dns_master_file.proofs.CodeLaws.{type_back}
use Rattle.dns_master_file.proofs.NameLaws.{name_back, name_is_word}
use Rattle.dns_master_file.proofs.WordLemmas.{IsWord, decimal_is_word, is_plain, is_plain_byte, left, left_more, next_word, not_so, octets_plain, plain_word, time_is_word, type_is_word}

-- ---- steps

-- a field that is a word
pub field_step : (field : Field) (word octets : List ℕ) (words : List (List ℕ)) → takes_rest field ≡ false
    → is_text field ≡ false → IsWord word → meant field word ≡ Some octets
    → one_in field (left (word ∷ words)) ≡ Ok (octets, left words)
unfolding one_in
field_step field word octets words one plain is means = rw (one, plain, next_word word words is, means) refl

-- words that are joined
pub joined_plain : (word : List ℕ) → is_plain word ≡ true → joined_in word ≡ Ok word
unfolding joined_in
joined_plain [] h = refl
joined_plain (b ∷ bs) h =
    let parts = and_parts (is_plain_byte b) (is_plain bs) h in
    let tests = and_parts (not (ends_word b)) (not (b == 92)) parts.0 in
    let edge : ends_word b ≡ false = not_so (ends_word b) tests.0 in
    let no_comment : (b == semicolon) ≡ false = grind (arith, nat_tests, edge) in
    let no_quote : (b == quote) ≡ false = grind (arith, nat_tests, edge) in
    let no_bracket : is_bracket b ≡ false = grind (arith, nat_tests, edge) in
    let no_blank : is_blank b ≡ false = grind (arith, nat_tests, edge) in
    rw (no_comment, no_quote, no_bracket, no_blank, joined_plain bs parts.1) refl

-- a field that is all that is left
last_step : (field : Field) (word octets : List ℕ) → takes_rest field ≡ true → is_plain word ≡ true → 0 < length word
    → meant field word ≡ Some octets → one_in field (left (word ∷ [])) ≡ Ok (octets, [])
unfolding one_in
last_step field word octets rest plain some means =
    let stays : left (word ∷ []) ≡ word = left_more word [] (plain_word word plain some) ∙ append-nil word in
    rw (rest, stays, joined_plain word plain, means) refl

-- one field more
pub more_fields : (field : Field) (fields : List Field) (bytes octets rest more : List ℕ)
    → field_in field bytes ≡ Ok (octets, rest)
    → fields_in fields rest ≡ Ok more → fields_in (field ∷ fields) bytes ≡ Ok (octets ++ more)
unfolding fields_in
more_fields field fields bytes octets rest more first others = rw (first, others) refl

pub no_fields : fields_in [] [] ≡ Ok []
unfolding fields_in
no_fields = refl

-- ---- numbers and names

pub byte_step : (n : ℕ) (fields : List Field) (words : List (List ℕ)) (more : List ℕ) → n < 256
    → fields_in fields (left words) ≡ Ok more
    → fields_in (Byte ∷ fields) (left (decimal n ∷ words)) ≡ Ok (n ∷ more)
unfolding meant
byte_step n fields words more small others =
    more_fields Byte fields _ (n ∷ []) _ more
    (field_step Byte (decimal n) (n ∷ []) words refl refl (decimal_is_word n (omega arith))
    (rw (decimal_back 255 n (omega arith) (omega arith)) refl)) others

pub two_step : (n : ℕ) (fields : List Field) (words : List (List ℕ)) (more : List ℕ) → n < 65536
    → fields_in fields (left words) ≡ Ok more
    → fields_in (TwoBytes ∷ fields) (left (decimal n ∷ words)) ≡ Ok (u16_bytes n ++ more)
unfolding meant
two_step n fields words more small others =
    more_fields TwoBytes fields _ (u16_bytes n) _ more
    (field_step TwoBytes (decimal n) (u16_bytes n) words refl refl (decimal_is_word n (omega arith))
    (rw (decimal_back 65535 n (omega arith) (omega arith)) refl)) others

pub four_step : (n : ℕ) (fields : List Field) (words : List (List ℕ)) (more : List ℕ) → n < 4294967296
    → fields_in fields (left words) ≡ Ok more
    → fields_in (FourBytes ∷ fields) (left (decimal n ∷ words)) ≡ Ok (u32_bytes n ++ more)
unfolding meant
four_step n fields words more small others =
    more_fields FourBytes fields _ (u32_bytes n) _ more
    (field_step FourBytes (decimal n) (u32_bytes n) words refl refl (decimal_is_word n (omega arith))
    (rw (decimal_back 4294967295 n (omega arith) (omega arith)) refl)) others

pub name_step : (name : Labels) (fields : List Field) (words : List (List ℕ)) (more : List ℕ) → is_name name ≡ true
    → list_all is_bytes name ≡ true → fields_in fields (left words) ≡ Ok more
    → fields_in (DomainName ∷ fields) (left (name_text name ∷ words)) ≡ Ok (wire name ++ more)
unfolding meant
name_step name fields words more good bytes others =
    more_fields DomainName fields _ (wire name) _ more
    (field_step DomainName (name_text name) (wire name) words refl refl (name_is_word name good bytes)
    (rw (name_back name good bytes) refl)) others

pub type_step : (n : ℕ) (fields : List Field) (words : List (List ℕ)) (more : List ℕ) → n < 65536
    → fields_in fields (left words) ≡ Ok more
    → fields_in (TypeWord ∷ fields) (left (type_text n ∷ words)) ≡ Ok (u16_bytes n ++ more)
unfolding meant
type_step n fields words more small others =
    more_fields TypeWord fields _ (u16_bytes n) _ more
    (field_step TypeWord (type_text n) (u16_bytes n) words refl refl (type_is_word n (omega arith))
    (rw (type_back n (omega arith)) refl)) others

pub time_step : (n : ℕ) (fields : List Field) (words : List (List ℕ)) (more : List ℕ) → n < 4294967296
    → fields_in fields (left words) ≡ Ok more
    → fields_in (Time ∷ fields) (left (time_text n ∷ words)) ≡ Ok (u32_bytes n ++ more)
unfolding meant
time_step n fields words more small others =
    more_fields Time fields _ (u32_bytes n) _ more
    (field_step Time (time_text n) (u32_bytes n) words refl refl (time_is_word n) (rw (time_back n small) refl)) others

-- ---- bytes

pub octets_some : (bytes : List ℕ) → 0 < length (octets_word bytes)
unfolding octets_word
octets_some [] = omega arith
octets_some (b ∷ bs) = omega (arith, length-encode_with lower_digits (b ∷ bs))

filled_so : (bytes : List ℕ) → 0 < length bytes → filled (Some bytes) ≡ Some bytes
filled_so bytes some = let is : nat_lt 0 (length bytes) ≡ true = grind (arith, nat_tests, some) in rw is refl

digits_of : (word bytes : List ℕ) → decode_hex word ≡ Ok bytes → 0 < length bytes → meant Digits word ≡ Some bytes
unfolding meant digits_meant
digits_of word bytes h some =
    ap (λ (r : Result (List ℕ) FromHexError). filled (result_ok r)) h ∙ filled_so bytes some

digits_mean : (bytes : List ℕ) → is_bytes bytes ≡ true → 0 < length bytes
    → meant Digits (octets_word bytes) ≡ Some bytes
unfolding octets_word
digits_mean [] h some = absurd (omega arith)
digits_mean (b ∷ bs) h some =
    digits_of (encode_lower (b ∷ bs)) (b ∷ bs) (decode_of-encode_lower (b ∷ bs) (bytes_below (b ∷ bs) h)) some

pub digits_end : (bytes : List ℕ) → is_bytes bytes ≡ true → 0 < length bytes
    → fields_in (Digits ∷ []) (left (octets_word bytes ∷ [])) ≡ Ok bytes
digits_end bytes h some =
    more_fields Digits [] _ bytes [] []
    (last_step Digits (octets_word bytes) bytes refl (octets_plain bytes h) (octets_some bytes)
    (digits_mean bytes h some)) no_fields
    ∙ ap Ok (append-nil bytes)

pub salt_means : (salt : List ℕ) → is_bytes salt ≡ true → length salt ≤ 255
    → meant Salt (octets_word salt) ≡ Some (length salt ∷ salt)
unfolding meant
salt_means salt h short =
    let fits : nat_le (length salt) 255 ≡ true = grind (arith, nat_tests, short) in
    rw (octets_back salt (bytes_below salt h), fits) refl

-- no word is left
pub no_words : fields_in [] (left []) ≡ Ok []
unfolding after_blanks fields_in
no_words = refl

pub salt_end : (salt : List ℕ) → is_bytes salt ≡ true → length salt ≤ 255
    → fields_in (Salt ∷ []) (left (octets_word salt ∷ [])) ≡ Ok (length salt ∷ salt)
salt_end salt h short =
    let word = plain_word (octets_word salt) (octets_plain salt h) (octets_some salt) in
    more_fields Salt [] _ (length salt ∷ salt) (left []) []
    (field_step Salt (octets_word salt) (length salt ∷ salt) [] refl refl word (salt_means salt h short)) no_words
    ∙ ap Ok (append-nil (length salt ∷ salt))

-- the last name of an rdata
pub name_end : (name : Labels) → is_name name ≡ true → list_all is_bytes name ≡ true
    → fields_in (DomainName ∷ []) (left (name_text name ∷ [])) ≡ Ok (wire name)
name_end name good bytes =
    name_step name [] [] [] good bytes no_words ∙ ap Ok (append-nil (wire name))

-- the last number of an rdata
pub four_end : (n : ℕ) → n < 4294967296 → fields_in (FourBytes ∷ []) (left (decimal n ∷ [])) ≡ Ok (u32_bytes n)
four_end n small = four_step n [] [] [] small no_words ∙ ap Ok (append-nil (u32_bytes n))

-- ---- base64

symbol_plain : (table : List ℕ) (i : ℕ) → is_plain table ≡ true → is_plain_byte (slice_index table i) ≡ true
symbol_plain [] i h = refl
symbol_plain (c ∷ cs) zero h = (and_parts (is_plain_byte c) (is_plain cs) h).0
symbol_plain (c ∷ cs) (suc i) h = symbol_plain cs i (and_parts (is_plain_byte c) (is_plain cs) h).1

symbols_plain : (t bytes : List ℕ) → is_plain t ≡ true → is_plain (encode_symbols t bytes) ≡ true
unfolding encode_symbols
symbols_plain t [] h = refl
symbols_plain t (a ∷ []) h = rw (symbol_plain t (a / 4) h, symbol_plain t (a % 4 * 16) h) refl
symbols_plain t (a ∷ b ∷ []) h =
    rw (symbol_plain t (a / 4) h, symbol_plain t (a % 4 * 16 + b / 16) h, symbol_plain t (b % 16 * 4) h) refl
symbols_plain t (a ∷ b ∷ c ∷ rest) h =
    rw (
      symbol_plain t (a / 4) h,
      symbol_plain t (a % 4 * 16 + b / 16) h,
      symbol_plain t (b % 16 * 4 + c / 64) h,
      symbol_plain t (c % 64) h,
      symbols_plain t rest h,
    ) refl

equals_plain : (n : ℕ) → is_plain (replicate n 61) ≡ true
equals_plain zero = refl
equals_plain (suc n) = equals_plain n

base64_plain : (bytes : List ℕ) → is_plain (base64_word bytes) ≡ true
base64_plain bytes =
    list_all-append is_plain_byte (encode_symbols (engine_symbols standard) bytes)
    (replicate (padding_len (length bytes)) 61)
    ∙ rw (symbols_plain (engine_symbols standard) bytes refl, equals_plain (padding_len (length bytes))) refl

symbols_some : (t bytes : List ℕ) → 0 < length bytes → 0 < length (encode_symbols t bytes)
unfolding encode_symbols
symbols_some t [] some = absurd (omega arith)
symbols_some t (a ∷ []) some = omega arith
symbols_some t (a ∷ b ∷ []) some = omega arith
symbols_some t (a ∷ b ∷ c ∷ rest) some = omega (arith, length-append (encode_group t a b c) (encode_symbols t rest))

base64_some : (bytes : List ℕ) → 0 < length bytes → 0 < length (base64_word bytes)
base64_some bytes some =
    let size = length-append (encode_symbols (engine_symbols standard) bytes)
    (replicate (padding_len (length bytes)) 61) in
    omega (arith, size, symbols_some (engine_symbols standard) bytes some)

base64_of : (word bytes : List ℕ) → decode_of standard word ≡ Ok bytes → 0 < length bytes
    → meant Base64 word ≡ Some bytes
unfolding meant base64_meant
base64_of word bytes h some =
    ap (λ (r : Result (List ℕ) DecodeError). filled (result_ok r)) h ∙ filled_so bytes some

base64_means : (bytes : List ℕ) → is_bytes bytes ≡ true → 0 < length bytes
    → meant Base64 (base64_word bytes) ≡ Some bytes
base64_means bytes h some =
    base64_of (base64_word bytes) bytes (decode_of-encode_of standard bytes refl (bytes_below bytes h)) some

pub base64_end : (bytes : List ℕ) → is_bytes bytes ≡ true → 0 < length bytes
    → fields_in (Base64 ∷ []) (left (base64_word bytes ∷ [])) ≡ Ok bytes
base64_end bytes h some =
    more_fields Base64 [] _ bytes [] []
    (last_step Base64 (base64_word bytes) bytes refl (base64_plain bytes) (base64_some bytes some)
    (base64_means bytes h some)) no_fields
    ∙ ap Ok (append-nil bytes)
