-- Character-strings that are written between quotes are read as the same bytes.
use Rattle.std.proofs.Common.{◌≡◌, ℕ, suc, ◌+◌, ◌/◌, ◌%◌, ◌<◌, Bool, true, false, ◌&&◌, ◌||◌, ◌==◌, List, [], ◌∷◌, ◌++◌, length, take, drop, map, None, Result, Ok, refl, sym, ap, ◌∙◌, arith, length-append, append-nil, inl, inr}
use Rattle.std.specs.Prelude.{nat_le, nat_lt}
use Rattle.std.specs.List.{concat, flat_map, list_all}
use Rattle.std.proofs.Math.Seq.{take-append_seam, drop-append_seam}
use Rattle.std.proofs.lemmas.Bool.{cases_Bool, and_parts}
use Rattle.std.proofs.lemmas.Bool.Decides.{nat_tests}
use Rattle.std.proofs.lemmas.List.{append_assoc}
use Rattle.dns_model.specs.Bytes.{is_bytes}
use Rattle.dns_model.specs.NameText.{backslash, three_digits}
use Rattle.dns_model.specs.ResultSteps.{◌>>=◌}
use Rattle.dns_presentation.specs.Spelling.{quote, quoted, quoted_byte, spaced}
use Rattle.dns_master_words.proofs.TextLaws.{text_back}
use Rattle.dns_master_file.specs.Fields.{field_in, fields_in, one_in, string_in, strings_in}
use Rattle.dns_master_file.specs.Front.{after_blanks, all_in, is_over, quoted_cut, quoted_in, quoted_size, text_word, word_in}
use Rattle.dns_master_file.specs.Meanings.{meant}
use Rattle.dns_master_file.specs.Reading.{after_mark}
use Rattle.dns_master_file.specs.declared.field.Field.TheVariants.{Text, Texts}
use Rattle.dns_master_file.specs.declared.stop.Stop.{Stop}
use Rattle.dns_master_file.proofs.FieldLaws.{more_fields, no_fields, no_words}
use Rattle.dns_master_file.proofs.ItemLemmas.{all_more, all_over, string_shorter}
use Rattle.dns_master_file.proofs.WordLemmas.{left}

-- ---- up to the closing quote

escaped_quoted : (byte : ℕ) (more : List ℕ)
    → quoted_size false (backslash ∷ byte ∷ more) ≡ 2 + quoted_size false more
unfolding quoted_size
escaped_quoted byte more =
    let two : quoted_size false (backslash ∷ byte ∷ more) ≡ suc (suc (quoted_size false more)) = refl in
    omega (arith, two)

plain_quoted : (byte : ℕ) (more : List ℕ) → (byte == quote) ≡ false → (byte == backslash) ≡ false
    → quoted_size false (byte ∷ more) ≡ 1 + quoted_size false more
unfolding quoted_size
plain_quoted byte more no_quote no_slash = rw (no_quote, no_slash) (omega arith)

digits_quoted : (byte : ℕ) (more : List ℕ) → byte < 256
    → quoted_size false (backslash ∷ (three_digits byte ++ more)) ≡ 4 + quoted_size false more
digits_quoted byte more small =
    let one = escaped_quoted (48 + byte / 100) ((48 + byte / 10 % 10) ∷ (48 + byte % 10) ∷ more) in
    let b : (48 + byte / 10 % 10 == quote) ≡ false = grind (arith, nat_tests) in
    let b_slash : (48 + byte / 10 % 10 == backslash) ≡ false = grind (arith, nat_tests) in
    let c : (48 + byte % 10 == quote) ≡ false = grind (arith, nat_tests) in
    let c_slash : (48 + byte % 10 == backslash) ≡ false = grind (arith, nat_tests) in
    let two = plain_quoted (48 + byte / 10 % 10) ((48 + byte % 10) ∷ more) b b_slash in
    let three = plain_quoted (48 + byte % 10) more c c_slash in
    one ∙ omega (arith, two, three)

byte_quoted : (byte : ℕ) (more : List ℕ) → byte < 256
    → quoted_size false (quoted_byte byte ++ more) ≡ length (quoted_byte byte) + quoted_size false more
unfolding quoted_byte
byte_quoted byte more small =
    elim (cases_Bool ((byte == quote) || (byte == backslash))) [
      | inl marked ↦ rw marked (escaped_quoted byte more)
      | inr plain ↦
          let no_quote : (byte == quote) ≡ false = grind (arith, nat_tests, plain) in
          let no_slash : (byte == backslash) ≡ false = grind (arith, nat_tests, plain) in
          elim (cases_Bool (nat_le 32 byte && nat_le byte 126)) [
            | inl shown ↦ rw (plain, shown) (plain_quoted byte more no_quote no_slash)
            | inr hidden ↦ rw (plain, hidden) (digits_quoted byte more small)
          ]
    ]

quote_ends : (more : List ℕ) → quoted_size false (quote ∷ more) ≡ 0
unfolding quoted_size
quote_ends more = refl

bytes_quoted : (text more : List ℕ) → is_bytes text ≡ true
    → quoted_size false (flat_map quoted_byte text ++ quote ∷ more) ≡ length (flat_map quoted_byte text)
bytes_quoted [] more h = quote_ends more
bytes_quoted (b ∷ bs) more h =
    let parts = and_parts (nat_lt b 256) (is_bytes bs) h in
    let small : b < 256 = grind (arith, nat_tests, parts.0) in
    let here = byte_quoted b (flat_map quoted_byte bs ++ quote ∷ more) small in
    let rest = bytes_quoted bs more parts.1 in
    let size = length-append (quoted_byte b) (flat_map quoted_byte bs) in
    ap (quoted_size false) (append_assoc (quoted_byte b) (flat_map quoted_byte bs) (quote ∷ more)) ∙ here
    ∙ omega (arith, rest, size)

-- ---- one text

quoted_left : (text : List ℕ) (words : List (List ℕ))
    → left (quoted text ∷ words) ≡ quote ∷ (flat_map quoted_byte text ++ quote ∷ spaced words)
unfolding after_blanks quoted
quoted_left text words =
    ap (λ rest. quote ∷ rest) (append_assoc (flat_map quoted_byte text) (quote ∷ []) (spaced words))

cut_back : (body more : List ℕ) → quoted_size false (body ++ quote ∷ more) ≡ length body
    → quoted_cut (body ++ quote ∷ more) ≡ (body, after_blanks more)
cut_back body more size =
    let front : take (length body) (body ++ quote ∷ more) ≡ body = take-append_seam body (quote ∷ more) in
    let next : length body + 1 ≡ length (body ++ quote ∷ []) = omega (arith, length-append body (quote ∷ [])) in
    let back : drop (length body + 1) (body ++ quote ∷ more) ≡ more =
    ap (λ n. drop n (body ++ quote ∷ more)) next
    ∙ ap (drop (length (body ++ quote ∷ []))) (sym (append_assoc body (quote ∷ []) more))
    ∙ drop-append_seam (body ++ quote ∷ []) more in
    rw (size, front, back) refl

quoted_back : (body more : List ℕ) → quoted_size false (body ++ quote ∷ more) ≡ length body
    → quoted_in (quote ∷ (body ++ quote ∷ more)) ≡ Ok (body, after_blanks more)
unfolding quoted_in
quoted_back body more size =
    let whole = length-append body (quote ∷ more) in
    let long : length body < length (body ++ quote ∷ more) = omega (arith, whole) in
    let closed : nat_lt (quoted_size false (body ++ quote ∷ more)) (length (body ++ quote ∷ more)) ≡ true =
    rw size (grind (arith, nat_tests, long)) in
    rw closed (ap Ok (cut_back body more size))

text_front : (text : List ℕ) (words : List (List ℕ)) → is_bytes text ≡ true
    → text_word (left (quoted text ∷ words)) ≡ Ok (flat_map quoted_byte text, left words)
unfolding text_word
text_front text words h =
    ap text_word (quoted_left text words)
    ∙ quoted_back (flat_map quoted_byte text) (spaced words) (bytes_quoted text (spaced words) h)

-- the first word is no word, and so not `\#`
pub quoted_first : (text : List ℕ) (words : List (List ℕ)) → after_mark (word_in (left (quoted text ∷ words))) ≡ None
unfolding word_in
quoted_first text words = ap (λ bytes. after_mark (word_in bytes)) (quoted_left text words)

text_step : (text : List ℕ) (words : List (List ℕ)) → is_bytes text ≡ true
    → one_in Text (left (quoted text ∷ words)) ≡ Ok (text, left words)
unfolding one_in meant
text_step text words h = rw (text_front text words h, text_back text h) refl

texts_step : (text : List ℕ) (words : List (List ℕ)) → is_bytes text ≡ true
    → one_in Texts (left (quoted text ∷ words)) ≡ Ok (text, left words)
unfolding one_in meant
texts_step text words h = rw (text_front text words h, text_back text h) refl

-- a text that ends an rdata
pub text_end : (text : List ℕ) → is_bytes text ≡ true → fields_in (Text ∷ []) (left (quoted text ∷ [])) ≡ Ok text
text_end text h = more_fields Text [] _ text (left []) [] (text_step text [] h) no_words ∙ ap Ok (append-nil text)

-- ---- character-strings

-- a character-string in an rdata
abbrev pub string_of : List ℕ → List ℕ
string_of text = length text ∷ text

abbrev pub is_string : List ℕ → Bool
is_string text = nat_le (length text) 255 && is_bytes text

string_step : (text : List ℕ) (words : List (List ℕ)) → is_string text ≡ true
    → string_in (left (quoted text ∷ words)) ≡ Ok (string_of text, left words)
unfolding string_in
string_step text words h =
    let parts = and_parts (nat_le (length text) 255) (is_bytes text) h in
    rw (texts_step text words parts.1, parts.0) refl

quoted_more : (text : List ℕ) (words : List (List ℕ)) → is_over (left (quoted text ∷ words)) ≡ false
quoted_more text words = ap is_over (quoted_left text words)

all_back : (texts : List (List ℕ)) → list_all is_string texts ≡ true
    → all_in string_in (left (map quoted texts)) ≡ Ok (map string_of texts)
unfolding after_blanks
all_back [] h = all_over string_in [] refl
all_back (text ∷ texts) h =
    let parts = and_parts (is_string text) (list_all is_string texts) h in
    let more = quoted_more text (map quoted texts) in
    let rest = all_back texts parts.1 in
    all_more string_in string_shorter (left (quoted text ∷ map quoted texts)) more
    ∙ rw (string_step text (map quoted texts) parts.0, rest) refl

strings_back : (text : List ℕ) (texts : List (List ℕ)) → list_all is_string (text ∷ texts) ≡ true
    → strings_in (left (map quoted (text ∷ texts))) ≡ Ok (concat (map string_of (text ∷ texts)))
unfolding strings_in
strings_back text texts h =
    let parts = and_parts (is_string text) (list_all is_string texts) h in
    rw (string_step text (map quoted texts) parts.0, all_back texts parts.1) refl

-- bytes with nothing left behind them
abbrev pub ended : Result (List ℕ) Stop → Result (List ℕ × List ℕ) Stop
ended octets = octets >>= λ b. Ok (b, [])

-- character-strings that are an rdata
pub strings_end : (text : List ℕ) (texts : List (List ℕ)) → list_all is_string (text ∷ texts) ≡ true
    → fields_in (Texts ∷ []) (left (map quoted (text ∷ texts))) ≡ Ok (concat (map string_of (text ∷ texts)))
strings_end text texts h =
    let octets = concat (map string_of (text ∷ texts)) in
    let first : field_in Texts (left (map quoted (text ∷ texts))) ≡ Ok (concat (map string_of (text ∷ texts)), []) =
    ap ended (strings_back text texts h) in
    more_fields Texts [] _ octets [] [] first no_fields ∙ ap Ok (append-nil octets)
