-- A record's line is read as the record.
use Rattle.std.proofs.Common.{◌≡◌, ℕ, ◌<◌, ◌≤◌, true, false, ◌==◌, List, [], ◌∷◌, ◌++◌, length, codes, Option, None, Some, Ok, refl, sym, ap, ◌∙◌, arith, append-nil, inl, inr}
use Rattle.std.specs.Prelude.{nat_le, nat_lt}
use Rattle.std.specs.Fmt.{decimal}
use Rattle.std.specs.List.{list_all}
use Rattle.std.proofs.lemmas.Bool.{cases_Bool, eq-eqb}
use Rattle.std.proofs.lemmas.Bool.Decides.{nat_tests}
use Rattle.std.specs.Result.{result_ok}
use Rattle.hex.specs.Hex.{decode_of, decode_pairs, encode_lower}
use Rattle.hex.proofs.HexLemmas.{decode_of-encode_lower}
use Rattle.dns_model.specs.Bytes.{is_bytes}
use Rattle.dns_model.specs.Names.{Labels, is_name}
use Rattle.dns_model.specs.Records.{Rr}
use Rattle.dns_model.specs.Types.{has_shapes}
use Rattle.dns_record.specs.Words.{class_word}
use Rattle.dns_text.specs.Words.{decimal_in, octets_word}
use Rattle.dns_text.proofs.WordShapes.{bytes_below}
use Rattle.dns_text.proofs.WordLaws.{decimal_back}
use Rattle.dns_presentation.specs.Forms.{Words, form_words}
use Rattle.dns_presentation.specs.Presentation.{data_words, generic_words, or_generic, presentation, rdata_words}
use Rattle.dns_presentation.specs.Spelling.{name_text, spaced}
use Rattle.dns_presentation.specs.TypeTexts.{type_text}
use Rattle.dns_master_file.specs.Codes.{class_in, type_in}
use Rattle.dns_master_file.specs.Front.{after_blanks, is_blank, is_over, joined_in, word_as, word_in}
use Rattle.dns_master_file.specs.Laws.{IsReadBack, told}
use Rattle.dns_master_file.specs.Meanings.{digits_meant, name_meant}
use Rattle.dns_master_file.specs.Reading.{LineValue, after_mark, entry_in, generic_in, line_in, owner_in, rdata_in, ttl_in}
use Rattle.dns_master_file.specs.declared.stop.Refusal.{Refusal}
use Rattle.dns_master_file.specs.declared.stop.Refusal.TheVariants.{BadClass, BadName, BadNumber, BadType}
use Rattle.dns_master_file.proofs.CodeLaws.{class_back, type_back}
use Rattle.dns_master_file.proofs.FieldLaws.{joined_plain, octets_some}
use Rattle.dns_master_file.proofs.NameLaws.{Begins, escaped_runs, name_back, name_is_word, text_begins}
use Rattle.dns_master_file.proofs.FormLaws.{form_law}
use Rattle.dns_master_file.proofs.WordLemmas.{IsWord, begins_so, class_is_word, decimal_is_word, first_word, left, left_more, never_over, next_word, octets_plain, plain_word, same_first, type_is_word, word_stays}

-- ---- any rdata

word_means : {X : Type 0} (reason : Refusal) (meaning : List ℕ → Option X) (word : List ℕ) (x : X) (words : Words)
    → IsWord word
    → meaning word ≡ Some x → word_as reason meaning (left (word ∷ words)) ≡ Ok (x, left words)
word_means reason meaning word x words is means = rw (next_word word words is, means) refl

mark_is_word : IsWord (codes "\\#")
mark_is_word = record { first = 92; rest = 35 ∷ []; spelled = refl; begins = refl; runs = λ more. escaped_runs 35 more }

marked : (words : Words) → after_mark (word_in (left (codes "\\#" ∷ words))) ≡ Some (left words)
marked words = rw (next_word (codes "\\#") words mark_is_word) refl

-- digits that are these bytes are left
record IsDigits (bytes : List ℕ) (rest : List ℕ) : Type 0 where
  digits : List ℕ
  joined : joined_in rest ≡ Ok digits
  means : digits_meant digits ≡ Some bytes

digits_of : (word bytes : List ℕ) → decode_of word ≡ Ok bytes → digits_meant word ≡ Some bytes
unfolding digits_meant
digits_of word bytes h = ap result_ok h

no_digits : digits_meant [] ≡ Some []
unfolding digits_meant decode_pairs
no_digits = refl

octets_mean : (b : ℕ) (bs : List ℕ) → is_bytes (b ∷ bs) ≡ true → digits_meant (octets_word (b ∷ bs)) ≡ Some (b ∷ bs)
unfolding octets_word
octets_mean b bs h =
    digits_of (encode_lower (b ∷ bs)) (b ∷ bs) (decode_of-encode_lower (b ∷ bs) (bytes_below (b ∷ bs) h))

-- an rdata as its bytes
bytes_joined : (rdata : List ℕ) → is_bytes rdata ≡ true → IsDigits rdata (left (data_words rdata))
unfolding joined_in after_blanks
bytes_joined [] h = record { digits = []; joined = refl; means = no_digits }
bytes_joined (b ∷ bs) h =
    let some : nat_lt 0 (length (b ∷ bs)) ≡ true = grind (arith, nat_tests) in
    let listed : data_words (b ∷ bs) ≡ octets_word (b ∷ bs) ∷ [] = rw some refl in
    let plain = octets_plain (b ∷ bs) h in
    let word = plain_word (octets_word (b ∷ bs)) plain (octets_some (b ∷ bs)) in
    let stays = left_more (octets_word (b ∷ bs)) [] word ∙ append-nil (octets_word (b ∷ bs)) in
    record {
      digits = octets_word (b ∷ bs);
      joined = ap (λ words. joined_in (left words)) listed ∙ ap joined_in stays
          ∙ joined_plain (octets_word (b ∷ bs)) plain;
      means = octets_mean b bs h;
    }

-- the steps of reading any rdata
any_read : (bytes rest digits rdata : List ℕ) (size : ℕ) → word_as BadNumber (decimal_in 65535) bytes ≡ Ok (size, rest)
    → joined_in rest ≡ Ok digits
    → digits_meant digits ≡ Some rdata → (length rdata == size) ≡ true → generic_in bytes ≡ Ok rdata
unfolding generic_in
any_read bytes rest digits rdata size number joined means same = rw (number, joined, means, same) refl

generic_back : (rdata : List ℕ) → is_bytes rdata ≡ true → length rdata ≤ 65535
    → generic_in (left (decimal (length rdata) ∷ data_words rdata)) ≡ Ok rdata
generic_back rdata h short =
    let octets = bytes_joined rdata h in
    let word = decimal_is_word (length rdata) (omega arith) in
    let number =
    word_means BadNumber (decimal_in 65535) (decimal (length rdata)) (length rdata) (data_words rdata) word
    (decimal_back 65535 (length rdata) short (omega arith)) in
    any_read _ _ octets.digits rdata (length rdata) number octets.joined octets.means (eq-eqb (length rdata)
    (length rdata) refl)

short_enough : (rdata : List ℕ) → length rdata ≤ 65535 → nat_le (length rdata) 65535 ≡ true
short_enough rdata short = grind (arith, nat_tests)

any_back : (class rtype : ℕ) (rdata : List ℕ) → is_bytes rdata ≡ true → length rdata ≤ 65535
    → rdata_in class rtype (left (generic_words rdata)) ≡ Ok rdata
unfolding rdata_in generic_words
any_back class rtype rdata h short =
    rw (marked (decimal (length rdata) ∷ data_words rdata), generic_back rdata h short, short_enough rdata short) refl

-- ---- an rdata in its type's form

own_back : (class rtype : ℕ) (rdata : List ℕ) (words : Words) → is_bytes rdata ≡ true → length rdata ≤ 65535
    → has_shapes class ≡ true → form_words rtype rdata ≡ Some words → rdata_in class rtype (left words) ≡ Ok rdata
unfolding rdata_in
own_back class rtype rdata words h short shaped e =
    let law = form_law rtype rdata words h e in
    rw (law.form.own_form, shaped, law.known, law.form.reads, short_enough rdata short) refl

shaped_back : (class rtype : ℕ) (rdata : List ℕ) (form : Option Words) → is_bytes rdata ≡ true → length rdata ≤ 65535
    → has_shapes class ≡ true → form_words rtype rdata ≡ form
    → rdata_in class rtype (left (or_generic form rdata)) ≡ Ok rdata
shaped_back class rtype rdata None h short shaped e = any_back class rtype rdata h short
shaped_back class rtype rdata (Some words) h short shaped e = own_back class rtype rdata words h short shaped e

rdata_back : (class rtype : ℕ) (rdata : List ℕ) → is_bytes rdata ≡ true → length rdata ≤ 65535
    → rdata_in class rtype (left (rdata_words class rtype rdata)) ≡ Ok rdata
unfolding rdata_words
rdata_back class rtype rdata h short =
    elim (cases_Bool (has_shapes class)) [
      | inl shaped ↦ rw shaped (shaped_back class rtype rdata (form_words rtype rdata) h short shaped refl)
      | inr other ↦ rw other (any_back class rtype rdata h short)
    ]

-- ---- the line

first_means : {X : Type 0} (reason : Refusal) (meaning : List ℕ → Option X) (word : List ℕ) (x : X) (words : Words)
    → IsWord word
    → meaning word ≡ Some x → word_as reason meaning (word ++ spaced words) ≡ Ok (x, left words)
first_means reason meaning word x words is means = rw (first_word word words is, means) refl

owner_back : (text : List ℕ) (words : Words) (name : Labels) → Begins text → IsWord text → name_meant text ≡ Some name
    → owner_in (text ++ spaced words) ≡ Ok (name, left words)
unfolding owner_in
owner_back [] words name begins is means = let none : [] ≡ begins.first ∷ begins.rest = begins.spelled in cc
owner_back (b ∷ bs) words name begins is means =
    let same : begins.first ≡ b = same_first b begins.first bs begins.rest begins.spelled in
    let edge = begins_so b bs is in
    let no_blank : is_blank b ≡ false = grind (arith, nat_tests, edge) in
    let no_directive : (b == 36) ≡ false = ap (λ c. c == 36) (sym same) ∙ begins.no_directive in
    rw (no_blank, no_directive) (first_means BadName name_meant (b ∷ bs) name words is means)

ttl_back : (ttl : ℕ) (words : Words) → ttl < 4294967296
    → ttl_in (left (decimal ttl ∷ words)) ≡ Ok (Some ttl, left words)
unfolding ttl_in
ttl_back ttl words small =
    rw (
      next_word (decimal ttl) words (decimal_is_word ttl (omega arith)),
      decimal_back 4294967295 ttl (omega arith) (omega arith),
    ) refl

-- the steps of reading a line
entry_of : (bytes rest after_ttl after_class after_type : List ℕ) (v : LineValue) → owner_in bytes ≡ Ok (v.owner, rest)
    → ttl_in rest ≡ Ok (v.ttl, after_ttl)
    → word_as BadClass class_in after_ttl ≡ Ok (v.class, after_class)
    → word_as BadType type_in after_class ≡ Ok (v.rtype, after_type)
    → rdata_in v.class v.rtype after_type ≡ Ok v.rdata
    → entry_in bytes
    ≡ Ok (record { owner = v.owner; ttl = v.ttl; class = v.class; rtype = v.rtype; rdata = v.rdata })
unfolding entry_in
entry_of bytes rest after_ttl after_class after_type v first second third fourth fifth =
    rw (first, second, third, fourth, fifth) refl

line_of : (line : List ℕ) (v : LineValue) → is_over (after_blanks line) ≡ false → entry_in line ≡ Ok v
    → line_in line ≡ Ok (Some v)
unfolding line_in
line_of line v more entry = rw (more, entry) refl

-- the record's line is read as the record
pub line_back : (r : Rr) → is_name r.owner ≡ true → list_all is_bytes r.owner ≡ true → r.ttl < 4294967296
    → r.class ≤ 65535 → r.rtype ≤ 65535 → is_bytes r.rdata ≡ true → length r.rdata ≤ 65535 → IsReadBack r
unfolding presentation
line_back r good bytes ttl class rtype octets short =
    let rdata = rdata_words r.class r.rtype r.rdata in
    let typed = type_text r.rtype ∷ rdata in
    let classed = class_word r.class ∷ typed in
    let words = decimal r.ttl ∷ classed in
    let text = name_text r.owner in
    let name = name_is_word r.owner good bytes in
    let begins = text_begins r.owner good bytes in
    let over = ap is_over (word_stays text (spaced words) name) ∙ never_over text (spaced words) name in
    line_of (text ++ spaced words) (told r) over
    (entry_of (text ++ spaced words) (left words) (left classed) (left typed) (left rdata) (told r)
    (owner_back text words r.owner begins name (name_back r.owner good bytes)) (ttl_back r.ttl classed ttl)
    (word_means BadClass class_in (class_word r.class) r.class typed (class_is_word r.class class)
    (class_back r.class class))
    (word_means BadType type_in (type_text r.rtype) r.rtype rdata (type_is_word r.rtype rtype)
    (type_back r.rtype rtype))
    (rdata_back r.class r.rtype r.rdata octets short))
