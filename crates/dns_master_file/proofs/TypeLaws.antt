-- An rdata that is written in its type's form is read as the same bytes.
use Rattle.std.proofs.Common.{◌≡◌, ℕ, ◌+◌, ◌*◌, ◌/◌, ◌%◌, ◌<◌, ◌≤◌, true, false, ◌&&◌, ◌==◌, List, [], ◌∷◌, ◌++◌, length, take, drop, codes, Option, None, Some, Ok, refl, sym, ap, subst, ◌∙◌, arith, append-nil, length-drop, drop-cons, suc, inl, inr, option_map}
use Rattle.std.specs.Prelude.{nat_eq, nat_le, nat_lt, slice_index}
use Rattle.std.specs.Char.{is_ascii_digit}
use Rattle.std.specs.Fmt.{decimal}
use Rattle.std.specs.List.{list_all}
use Rattle.std.specs.Str.{all_ascii_digits}
use Rattle.std.proofs.lemmas.Bool.{and_parts, cases_Bool, eqb-true}
use Rattle.std.proofs.lemmas.Bool.Decides.{nat_tests}
use Rattle.std.proofs.lemmas.Fmt.{digits_decimal}
use Rattle.std.proofs.lemmas.List.Folds.{list_all-append}
use Rattle.std.proofs.lemmas.List.{take_all}
use Rattle.std.proofs.lemmas.Option.{same_Some}
use Rattle.dns_model.specs.Bytes.{is_bytes, u16_bytes, u32_at, u32_bytes}
use Rattle.dns_model.specs.Keys.{bytes_eq}
use Rattle.dns_model.specs.Names.{Labels, is_name, wire}
use Rattle.dns_model.specs.NameForm.{name_in, name_of, whole_name}
use Rattle.dns_model.specs.Shapes.{counted_in}
use Rattle.dns_model.specs.Views.{SoaValue, dnskey_in, ds_in, soa_in, soa_numbers}
use Rattle.dns_model.specs.OptionSteps.{◌>>=◌}
use Rattle.dns_model.proofs.WireLemmas.{name_in_inverse}
use Rattle.dns_record.proofs.ReadSteps.{is_bytes-labels}
use Rattle.dns_text.specs.Words.{octets_word}
use Rattle.dns_text.proofs.WordShapes.{bytes_below}
use Rattle.dns_text.proofs.WordLaws.{own}
use Rattle.dns_master_file.specs.Fields.{fields_in}
use Rattle.dns_presentation.specs.Forms.{Words, base64_word, dnskey_words, ds_words, mx_words, name_words, nsec3param_words, soa_fields, soa_words, srv_fields, srv_in, srv_of, srv_words, sshfp_words, tlsa_words, whole_counted}
use Rattle.dns_master_file.specs.Front.{word_in}
use Rattle.dns_master_file.specs.Reading.{after_mark}
use Rattle.dns_presentation.specs.Spelling.{name_text}
use Rattle.dns_master_file.specs.declared.field.Field.{Field}
use Rattle.dns_master_file.specs.declared.field.Field.TheVariants.{Byte, TwoBytes, FourBytes, DomainName, Salt, Digits, Base64}
use Rattle.dns_master_file.proofs.FieldLaws.{base64_end, byte_step, digits_end, four_step, name_end, name_step, salt_end, no_words, two_step}
use Rattle.dns_master_file.proofs.NameLaws.{name_is_word, text_begins}
use Rattle.dns_master_file.proofs.WordLemmas.{decimal_is_word, left, next_word}

-- words that are read as this rdata, and don't begin as the form of any rdata does
pub record IsReadAs (fields : List Field) (rdata : List ℕ) (words : Words) : Type 0 where
  pub own_form : after_mark (word_in (left words)) ≡ None
  pub reads : fields_in fields (left words) ≡ Ok rdata

-- ---- what stands first

digits_unmarked : (ds : List ℕ) → all_ascii_digits ds ≡ true → bytes_eq ds (codes "\\#") ≡ false
digits_unmarked [] h = refl
digits_unmarked (c ∷ cs) h =
    let parts = and_parts (is_ascii_digit c) (all_ascii_digits cs) h in
    let digit : is_ascii_digit c ≡ true = parts.0 in
    let other : nat_eq c 92 ≡ false = grind (arith, nat_tests) in
    rw other refl

pub number_first : (n : ℕ) (words : Words) → n < 4294967296 → after_mark (word_in (left (decimal n ∷ words))) ≡ None
number_first n words small =
    let fits : n < 18446744073709551616 = omega arith in
    let other = digits_unmarked (decimal n) (digits_decimal own n fits) in
    rw (next_word (decimal n) words (decimal_is_word n fits), other) refl

pub name_first : (name : Labels) (words : Words) → is_name name ≡ true → list_all is_bytes name ≡ true
    → after_mark (word_in (left (name_text name ∷ words))) ≡ None
name_first name words good bytes =
    let begins = text_begins name good bytes in
    let other : bytes_eq (name_text name) (codes "\\#") ≡ false = rw begins.spelled begins.no_mark in
    rw (next_word (name_text name) words (name_is_word name good bytes), other) refl

-- ---- parts of an rdata

-- a name in front of bytes
pub record IsNamed (bytes : List ℕ) (name : Labels) (rest : List ℕ) : Type 0 where
  pub whole : bytes ≡ wire name ++ rest
  pub good : is_name name ≡ true
  pub labels : list_all is_bytes name ≡ true
  pub after : is_bytes rest ≡ true

pub named : (bytes : List ℕ) (name : Labels) (rest : List ℕ) → is_bytes bytes ≡ true → name_in bytes ≡ Some (name, rest)
    → IsNamed bytes name rest
named bytes name rest h e =
    let read = name_in_inverse bytes name rest e in
    let all : is_bytes (wire name ++ rest) ≡ true = ap is_bytes (sym read.whole) ∙ h in
    let both : is_bytes (wire name) && is_bytes rest ≡ true =
    sym (list_all-append (λ b. nat_lt b 256) (wire name) rest) ∙ all in
    let parts = and_parts (is_bytes (wire name)) (is_bytes rest) both in
    record { whole = read.whole; good = read.good; labels = is_bytes-labels name parts.0; after = parts.1 }

whole_is : (read : Option (Labels × List ℕ)) (name : Labels) → whole_name read ≡ Some name → read ≡ Some (name, [])
whole_is None name h = cc
whole_is (Some (n, [])) name h = ap (λ (m : Labels). Some (m, [])) (same_Some _ _ h)
whole_is (Some (n, b ∷ bs)) name h = cc

-- the name that all bytes are
all_named : (bytes : List ℕ) (name : Labels) → is_bytes bytes ≡ true → name_of bytes ≡ Some name → IsNamed bytes name []
all_named bytes name h e = named bytes name [] h (whole_is (name_in bytes) name e)

pub first_small : (a : ℕ) (rest : List ℕ) → is_bytes (a ∷ rest) ≡ true → a < 256
first_small a rest h = let parts = and_parts (nat_lt a 256) (is_bytes rest) h in grind (arith, nat_tests, parts.0)

pub rest_small : (a : ℕ) (rest : List ℕ) → is_bytes (a ∷ rest) ≡ true → is_bytes rest ≡ true
rest_small a rest h = (and_parts (nat_lt a 256) (is_bytes rest) h).1

-- two bytes in front
record IsTwo (a b : ℕ) (rest : List ℕ) : Type 0 where
  first : a < 256
  second : b < 256
  after : is_bytes rest ≡ true

two_small : (a b : ℕ) (rest : List ℕ) → is_bytes (a ∷ b ∷ rest) ≡ true → IsTwo a b rest
two_small a b rest h =
    let more = rest_small a (b ∷ rest) h in
    record { first = first_small a (b ∷ rest) h; second = first_small b rest more; after = rest_small b rest more }

two_bytes : (a b : ℕ) → a < 256 → b < 256 → u16_bytes (a * 256 + b) ≡ a ∷ b ∷ []
two_bytes a b first second =
    let high : (a * 256 + b) / 256 ≡ a = omega arith in
    let low : (a * 256 + b) % 256 ≡ b = omega arith in
    rw (high, low) refl

four_bytes : (a b c d : ℕ) → a < 256 → b < 256 → c < 256 → d < 256
    → u32_bytes ((a * 256 + b) * 65536 + (c * 256 + d)) ≡ a ∷ b ∷ c ∷ d ∷ []
four_bytes a b c d first second third fourth =
    let n = (a * 256 + b) * 65536 + (c * 256 + d) in
    let one : n / 16777216 ≡ a = omega arith in
    let two : n / 65536 % 256 ≡ b = omega arith in
    let three : n / 256 % 256 ≡ c = omega arith in
    let four : n % 256 ≡ d = omega arith in
    rw (one, two, three, four) refl

two_read : (a b : ℕ) (fields : List Field) (words : Words) (more : List ℕ) → a < 256 → b < 256
    → fields_in fields (left words) ≡ Ok more
    → fields_in (TwoBytes ∷ fields) (left (decimal (a * 256 + b) ∷ words)) ≡ Ok (a ∷ b ∷ more)
two_read a b fields words more first second others =
    two_step (a * 256 + b) fields words more (omega arith) others
    ∙ ap (λ bytes. Ok (bytes ++ more)) (two_bytes a b first second)

-- ---- types of names and numbers

pub name_law : (rdata : List ℕ) (words : Words) → is_bytes rdata ≡ true → name_words rdata ≡ Some words
    → IsReadAs (DomainName ∷ []) rdata words
unfolding name_words
name_law rdata words h e = name_law_at (name_of rdata) refl e
  where
    name_law_at : (read : Option Labels) → name_of rdata ≡ read
        → option_map (λ name. name_text name ∷ []) read ≡ Some words
        → IsReadAs (DomainName ∷ []) rdata words
    name_law_at None is e = cc
    name_law_at (Some name) is e =
        let same : name_text name ∷ [] ≡ words = same_Some _ _ e in
        let parts = all_named rdata name h is in
        subst (IsReadAs (DomainName ∷ []) rdata) same (record {
          own_form = name_first name [] parts.good parts.labels;
          reads = name_end name parts.good parts.labels ∙ ap Ok (sym (parts.whole ∙ append-nil (wire name)));
        })

mx_at : (a b : ℕ) (rest : List ℕ) (words : Words) → IsTwo a b rest → (read : Option Labels) → name_of rest ≡ read
    → option_map (λ name. decimal (a * 256 + b) ∷ name_text name ∷ []) read ≡ Some words
    → IsReadAs (TwoBytes ∷ DomainName ∷ []) (a ∷ b ∷ rest) words
mx_at a b rest words two None is e = cc
mx_at a b rest words two (Some name) is e =
    let same : decimal (a * 256 + b) ∷ name_text name ∷ [] ≡ words = same_Some _ _ e in
    let parts = all_named rest name two.after is in
    let end = name_end name parts.good parts.labels ∙ ap Ok (sym (parts.whole ∙ append-nil (wire name))) in
    let first = two.first in
    let second = two.second in
    subst (IsReadAs (TwoBytes ∷ DomainName ∷ []) (a ∷ b ∷ rest)) same (record {
      own_form = number_first (a * 256 + b) (name_text name ∷ []) (omega arith);
      reads = two_read a b (DomainName ∷ []) (name_text name ∷ []) rest first second end;
    })

pub mx_law : (rdata : List ℕ) (words : Words) → is_bytes rdata ≡ true → mx_words rdata ≡ Some words
    → IsReadAs (TwoBytes ∷ DomainName ∷ []) rdata words
unfolding mx_words
mx_law [] words h e = cc
mx_law (a ∷ []) words h e = cc
mx_law (a ∷ b ∷ rest) words h e =
    let long : nat_lt (length (a ∷ b ∷ rest)) 2 ≡ false = grind (arith, nat_tests) in
    mx_at a b rest words (two_small a b rest h) (name_of rest) refl (rw long at e)

srv_at : (a b c d e f : ℕ) (rest : List ℕ) (words : Words) → IsTwo a b (c ∷ d ∷ e ∷ f ∷ rest) → IsTwo c d (e ∷ f ∷ rest)
    → IsTwo e f rest → (read : Option Labels) → name_of rest ≡ read
    → option_map srv_fields (option_map (srv_of (a ∷ b ∷ c ∷ d ∷ e ∷ f ∷ rest)) read) ≡ Some words
    → IsReadAs (TwoBytes ∷ TwoBytes ∷ TwoBytes ∷ DomainName ∷ []) (a ∷ b ∷ c ∷ d ∷ e ∷ f ∷ rest) words
srv_at a b c d e f rest words one two three None is h = cc
srv_at a b c d e f rest words one two three (Some name) is h =
    let same : decimal (a * 256 + b) ∷ decimal (c * 256 + d) ∷ decimal (e * 256 + f) ∷ name_text name ∷ [] ≡ words =
    same_Some _ _ h in
    let parts = all_named rest name three.after is in
    let end = name_end name parts.good parts.labels ∙ ap Ok (sym (parts.whole ∙ append-nil (wire name))) in
    let last : Words = name_text name ∷ [] in
    let middle : Words = decimal (e * 256 + f) ∷ last in
    let front : Words = decimal (c * 256 + d) ∷ middle in
    let third = two_read e f (DomainName ∷ []) last rest three.first three.second end in
    let second = two_read c d _ middle _ two.first two.second third in
    let a_small = one.first in
    let b_small = one.second in
    subst (IsReadAs (TwoBytes ∷ TwoBytes ∷ TwoBytes ∷ DomainName ∷ []) (a ∷ b ∷ c ∷ d ∷ e ∷ f ∷ rest)) same (record {
      own_form = number_first (a * 256 + b) front (omega arith);
      reads = two_read a b _ front _ one.first one.second second;
    })

pub srv_law : (rdata : List ℕ) (words : Words) → is_bytes rdata ≡ true → srv_words rdata ≡ Some words
    → IsReadAs (TwoBytes ∷ TwoBytes ∷ TwoBytes ∷ DomainName ∷ []) rdata words
unfolding srv_words srv_in
srv_law [] words h e = cc
srv_law (a ∷ []) words h e = cc
srv_law (a ∷ b ∷ []) words h e = cc
srv_law (a ∷ b ∷ c ∷ []) words h e = cc
srv_law (a ∷ b ∷ c ∷ d ∷ []) words h e = cc
srv_law (a ∷ b ∷ c ∷ d ∷ e ∷ []) words h k = cc
srv_law (a ∷ b ∷ c ∷ d ∷ e ∷ f ∷ rest) words h k =
    let long : nat_lt (length (a ∷ b ∷ c ∷ d ∷ e ∷ f ∷ rest)) 6 ≡ false = grind (arith, nat_tests) in
    let one = two_small a b (c ∷ d ∷ e ∷ f ∷ rest) h in
    let two = two_small c d (e ∷ f ∷ rest) one.after in
    srv_at a b c d e f rest words one two (two_small e f rest two.after) (name_of rest) refl (rw long at k)

-- ---- types that end with hexadecimal digits or base64

some_long : (a : ℕ) (rest : List ℕ) → 0 < length (a ∷ rest)
some_long a rest = omega arith

pub sshfp_law : (rdata : List ℕ) (words : Words) → is_bytes rdata ≡ true → sshfp_words rdata ≡ Some words
    → IsReadAs (Byte ∷ Byte ∷ Digits ∷ []) rdata words
unfolding sshfp_words
sshfp_law [] words h e = cc
sshfp_law (a ∷ []) words h e = cc
sshfp_law (a ∷ b ∷ []) words h e = cc
sshfp_law (a ∷ b ∷ c ∷ rest) words h e =
    let long : nat_lt 2 (length (a ∷ b ∷ c ∷ rest)) ≡ true = grind (arith, nat_tests) in
    let same : decimal a ∷ decimal b ∷ octets_word (c ∷ rest) ∷ [] ≡ words = same_Some _ _ (rw long at e) in
    let two = two_small a b (c ∷ rest) h in
    let a_small = two.first in
    let last : Words = octets_word (c ∷ rest) ∷ [] in
    let front : Words = decimal b ∷ last in
    let end = digits_end (c ∷ rest) two.after (some_long c rest) in
    subst (IsReadAs (Byte ∷ Byte ∷ Digits ∷ []) (a ∷ b ∷ c ∷ rest)) same (record {
      own_form = number_first a front (omega arith);
      reads = byte_step a _ front _ two.first (byte_step b _ last _ two.second end);
    })

pub tlsa_law : (rdata : List ℕ) (words : Words) → is_bytes rdata ≡ true → tlsa_words rdata ≡ Some words
    → IsReadAs (Byte ∷ Byte ∷ Byte ∷ Digits ∷ []) rdata words
unfolding tlsa_words
tlsa_law [] words h e = cc
tlsa_law (a ∷ []) words h e = cc
tlsa_law (a ∷ b ∷ []) words h e = cc
tlsa_law (a ∷ b ∷ c ∷ []) words h e = cc
tlsa_law (a ∷ b ∷ c ∷ d ∷ rest) words h e =
    let long : nat_lt 3 (length (a ∷ b ∷ c ∷ d ∷ rest)) ≡ true = grind (arith, nat_tests) in
    let same : decimal a ∷ decimal b ∷ decimal c ∷ octets_word (d ∷ rest) ∷ [] ≡ words = same_Some _ _ (rw long at e) in
    let two = two_small a b (c ∷ d ∷ rest) h in
    let a_small = two.first in
    let c_small = first_small c (d ∷ rest) two.after in
    let last : Words = octets_word (d ∷ rest) ∷ [] in
    let middle : Words = decimal c ∷ last in
    let front : Words = decimal b ∷ middle in
    let end = digits_end (d ∷ rest) (rest_small c (d ∷ rest) two.after) (some_long d rest) in
    subst (IsReadAs (Byte ∷ Byte ∷ Byte ∷ Digits ∷ []) (a ∷ b ∷ c ∷ d ∷ rest)) same (record {
      own_form = number_first a front (omega arith);
      reads = byte_step a _ front _ two.first (byte_step b _ middle _ two.second (byte_step c _ last _ c_small end));
    })

pub ds_law : (rdata : List ℕ) (words : Words) → is_bytes rdata ≡ true → ds_words rdata ≡ Some words
    → IsReadAs (TwoBytes ∷ Byte ∷ Byte ∷ Digits ∷ []) rdata words
unfolding ds_words ds_in
ds_law [] words h e = cc
ds_law (a ∷ []) words h e = cc
ds_law (a ∷ b ∷ []) words h e = cc
ds_law (a ∷ b ∷ c ∷ []) words h e = cc
ds_law (a ∷ b ∷ c ∷ d ∷ []) words h e = cc
ds_law (a ∷ b ∷ c ∷ d ∷ f ∷ rest) words h e =
    let long : nat_lt (length (a ∷ b ∷ c ∷ d ∷ f ∷ rest)) 4 ≡ false = grind (arith, nat_tests) in
    let filled : nat_lt 0 (length (f ∷ rest)) ≡ true = grind (arith, nat_tests) in
    let same : decimal (a * 256 + b) ∷ decimal c ∷ decimal d ∷ octets_word (f ∷ rest) ∷ [] ≡ words =
    same_Some _ _ (rw (long, filled) at e) in
    let one = two_small a b (c ∷ d ∷ f ∷ rest) h in
    let two = two_small c d (f ∷ rest) one.after in
    let a_small = one.first in
    let b_small = one.second in
    let last : Words = octets_word (f ∷ rest) ∷ [] in
    let middle : Words = decimal d ∷ last in
    let front : Words = decimal c ∷ middle in
    let end = digits_end (f ∷ rest) two.after (some_long f rest) in
    let more = byte_step c _ middle _ two.first (byte_step d _ last _ two.second end) in
    subst (IsReadAs (TwoBytes ∷ Byte ∷ Byte ∷ Digits ∷ []) (a ∷ b ∷ c ∷ d ∷ f ∷ rest)) same (record {
      own_form = number_first (a * 256 + b) front (omega arith);
      reads = two_read a b _ front _ one.first one.second more;
    })

pub dnskey_law : (rdata : List ℕ) (words : Words) → is_bytes rdata ≡ true → dnskey_words rdata ≡ Some words
    → IsReadAs (TwoBytes ∷ Byte ∷ Byte ∷ Base64 ∷ []) rdata words
unfolding dnskey_words dnskey_in
dnskey_law [] words h e = cc
dnskey_law (a ∷ []) words h e = cc
dnskey_law (a ∷ b ∷ []) words h e = cc
dnskey_law (a ∷ b ∷ c ∷ []) words h e = cc
dnskey_law (a ∷ b ∷ c ∷ d ∷ []) words h e = cc
dnskey_law (a ∷ b ∷ c ∷ d ∷ f ∷ rest) words h e =
    let long : nat_lt (length (a ∷ b ∷ c ∷ d ∷ f ∷ rest)) 4 ≡ false = grind (arith, nat_tests) in
    let filled : nat_lt 0 (length (f ∷ rest)) ≡ true = grind (arith, nat_tests) in
    let same : decimal (a * 256 + b) ∷ decimal c ∷ decimal d ∷ base64_word (f ∷ rest) ∷ [] ≡ words =
    same_Some _ _ (rw (long, filled) at e) in
    let one = two_small a b (c ∷ d ∷ f ∷ rest) h in
    let two = two_small c d (f ∷ rest) one.after in
    let a_small = one.first in
    let b_small = one.second in
    let last : Words = base64_word (f ∷ rest) ∷ [] in
    let middle : Words = decimal d ∷ last in
    let front : Words = decimal c ∷ middle in
    let end = base64_end (f ∷ rest) two.after (some_long f rest) in
    let more = byte_step c _ middle _ two.first (byte_step d _ last _ two.second end) in
    subst (IsReadAs (TwoBytes ∷ Byte ∷ Byte ∷ Base64 ∷ []) (a ∷ b ∷ c ∷ d ∷ f ∷ rest)) same (record {
      own_form = number_first (a * 256 + b) front (omega arith);
      reads = two_read a b _ front _ one.first one.second more;
    })

-- bytes that a length byte counts, with none behind them
record IsCounted (bytes salt : List ℕ) : Type 0 where
  whole : bytes ≡ length salt ∷ salt
  small : length salt ≤ 255
  octets : is_bytes salt ≡ true

counted_whole : (size : ℕ) (rest left salt : List ℕ) → size < 256 → is_bytes rest ≡ true → size ≤ length rest
    → drop size rest ≡ left → whole_counted (Some (take size rest, left)) ≡ Some salt → IsCounted (size ∷ rest) salt
counted_whole size rest (b ∷ bs) salt small h fits none e = let no : None ≡ Some salt = e in cc
counted_whole size rest [] salt small h fits none e =
    let same : take size rest ≡ salt = same_Some _ _ e in
    let all : length rest ≡ size = omega (arith, length-drop size rest, ap length none) in
    let whole : rest ≡ salt = sym (take_all size rest (omega arith)) ∙ same in
    record {
      whole = rw (← whole, all) refl;
      small = rw (← whole, all) (omega arith);
      octets = rw (← whole) h;
    }

counted_law : (bytes salt : List ℕ) → is_bytes bytes ≡ true → whole_counted (counted_in bytes) ≡ Some salt
    → IsCounted bytes salt
unfolding counted_in
counted_law [] salt h e = cc
counted_law (size ∷ rest) salt h e =
    elim (cases_Bool (nat_le size (length rest))) [
      | inl fits ↦
          let within : size ≤ length rest = grind (arith, nat_tests, fits) in
          counted_whole size rest (drop size rest) salt (first_small size rest h) (rest_small size rest h) within refl
          (rw fits at e)
      | inr long ↦ let none : None ≡ Some salt = rw long at e in cc
    ]

nsec3param_at : (a b c d : ℕ) (rest : List ℕ) (words : Words) → IsTwo a b (c ∷ d ∷ rest) → IsTwo c d rest
    → (read : Option (List ℕ)) → whole_counted (counted_in rest) ≡ read
    → option_map (λ salt. decimal a ∷ decimal b ∷ decimal (c * 256 + d) ∷ octets_word salt ∷ []) read ≡ Some words
    → IsReadAs (Byte ∷ Byte ∷ TwoBytes ∷ Salt ∷ []) (a ∷ b ∷ c ∷ d ∷ rest) words
nsec3param_at a b c d rest words one two None is e = cc
nsec3param_at a b c d rest words one two (Some salt) is e =
    let same : decimal a ∷ decimal b ∷ decimal (c * 256 + d) ∷ octets_word salt ∷ [] ≡ words = same_Some _ _ e in
    let counted = counted_law rest salt two.after is in
    let a_small = one.first in
    let last : Words = octets_word salt ∷ [] in
    let middle : Words = decimal (c * 256 + d) ∷ last in
    let front : Words = decimal b ∷ middle in
    let end = salt_end salt counted.octets counted.small ∙ ap Ok (sym counted.whole) in
    let more = two_read c d _ last _ two.first two.second end in
    subst (IsReadAs (Byte ∷ Byte ∷ TwoBytes ∷ Salt ∷ []) (a ∷ b ∷ c ∷ d ∷ rest)) same (record {
      own_form = number_first a front (omega arith);
      reads = byte_step a _ front _ one.first (byte_step b _ middle _ one.second more);
    })

pub nsec3param_law : (rdata : List ℕ) (words : Words) → is_bytes rdata ≡ true → nsec3param_words rdata ≡ Some words
    → IsReadAs (Byte ∷ Byte ∷ TwoBytes ∷ Salt ∷ []) rdata words
unfolding nsec3param_words
nsec3param_law [] words h e = cc
nsec3param_law (a ∷ []) words h e = cc
nsec3param_law (a ∷ b ∷ []) words h e = cc
nsec3param_law (a ∷ b ∷ c ∷ []) words h e = cc
nsec3param_law (a ∷ b ∷ c ∷ d ∷ rest) words h e =
    let long : nat_lt (length (a ∷ b ∷ c ∷ d ∷ rest)) 4 ≡ false = grind (arith, nat_tests) in
    let one = two_small a b (c ∷ d ∷ rest) h in
    nsec3param_at a b c d rest words one (two_small c d rest one.after) (whole_counted (counted_in rest)) refl
    (rw long at e)

-- ---- SOA

pub drop_at : (bytes : List ℕ) (p q : ℕ) → suc p ≡ q → p < length bytes
    → drop p bytes ≡ slice_index bytes p ∷ drop q bytes
drop_at bytes p q next long =
    drop-cons bytes p 0 long ∙ ap (λ n. slice_index bytes p ∷ drop n bytes) next

-- four bytes at a place
drop_four : (bytes : List ℕ) (p : ℕ) → p + 4 ≤ length bytes
    → drop p bytes
    ≡ slice_index bytes p ∷ slice_index bytes (p + 1) ∷ slice_index bytes (p + 2) ∷ slice_index bytes (p + 2 + 1)
    ∷ drop (p + 4) bytes
drop_four bytes p long =
    let one = drop_at bytes p (p + 1) (omega arith) (omega arith) in
    let two = drop_at bytes (p + 1) (p + 2) (omega arith) (omega arith) in
    let three = drop_at bytes (p + 2) (p + 2 + 1) (omega arith) (omega arith) in
    let four = drop_at bytes (p + 2 + 1) (p + 4) (omega arith) (omega arith) in
    one ∙ ap (λ l. slice_index bytes p ∷ l) two
    ∙ ap (λ l. slice_index bytes p ∷ slice_index bytes (p + 1) ∷ l) three
    ∙ ap (λ l. slice_index bytes p ∷ slice_index bytes (p + 1) ∷ slice_index bytes (p + 2) ∷ l) four

pub four_at : (bytes : List ℕ) (p : ℕ) → is_bytes bytes ≡ true → p + 4 ≤ length bytes
    → u32_bytes (u32_at bytes p) ++ drop (p + 4) bytes ≡ drop p bytes
four_at bytes p h long =
    let below = bytes_below bytes h in
    let bytes_are =
    four_bytes (slice_index bytes p) (slice_index bytes (p + 1)) (slice_index bytes (p + 2))
    (slice_index bytes (p + 2 + 1))
    (below p) (below (p + 1)) (below (p + 2)) (below (p + 2 + 1)) in
    ap (λ front. front ++ drop (p + 4) bytes) bytes_are ∙ sym (drop_four bytes p long)

pub four_below : (bytes : List ℕ) (p : ℕ) → is_bytes bytes ≡ true → u32_at bytes p < 4294967296
four_below bytes p h =
    let below = bytes_below bytes h in
    let a = below p in
    let b = below (p + 1) in
    let c = below (p + 2) in
    let d = below (p + 2 + 1) in
    omega arith

-- one number more, before those at the next place
pub number_read : (bytes : List ℕ) (p q : ℕ) (fields : List Field) (words : Words) → is_bytes bytes ≡ true → p + 4 ≡ q
    → q ≤ length bytes → fields_in fields (left words) ≡ Ok (drop q bytes)
    → fields_in (FourBytes ∷ fields) (left (decimal (u32_at bytes p) ∷ words)) ≡ Ok (drop p bytes)
number_read bytes p q fields words h next long others =
    four_step (u32_at bytes p) fields words (drop q bytes) (four_below bytes p h) others
    ∙ ap Ok (ap (λ n. u32_bytes (u32_at bytes p) ++ drop n bytes) (sym next) ∙ four_at bytes p h (omega arith))

drop_all : (bytes : List ℕ) (n : ℕ) → length bytes ≡ n → drop n bytes ≡ []
drop_all bytes n size = no_more (drop n bytes) (omega (arith, length-drop n bytes))
  where
    no_more : (l : List ℕ) → length l ≡ 0 → l ≡ []
    no_more [] none = refl
    no_more (b ∷ bs) none = absurd (omega arith)

numbers_read : (bytes : List ℕ) → is_bytes bytes ≡ true → length bytes ≡ 20
    → fields_in (FourBytes ∷ FourBytes ∷ FourBytes ∷ FourBytes ∷ FourBytes ∷ [])
    (left (decimal (u32_at bytes 0) ∷ decimal (u32_at bytes 4) ∷ decimal (u32_at bytes 8) ∷ decimal (u32_at bytes 12)
    ∷ decimal (u32_at bytes 16) ∷ []))
    ≡ Ok bytes
numbers_read bytes h size =
    let fourth : Words = decimal (u32_at bytes 16) ∷ [] in
    let third : Words = decimal (u32_at bytes 12) ∷ fourth in
    let second : Words = decimal (u32_at bytes 8) ∷ third in
    let first : Words = decimal (u32_at bytes 4) ∷ second in
    let none = no_words ∙ ap Ok (sym (drop_all bytes 20 size)) in
    let minimum = number_read bytes 16 20 [] [] h refl (omega arith) none in
    let expire = number_read bytes 12 16 _ fourth h refl (omega arith) minimum in
    let retry = number_read bytes 8 12 _ third h refl (omega arith) expire in
    let refresh = number_read bytes 4 8 _ second h refl (omega arith) retry in
    number_read bytes 0 4 _ first h refl (omega arith) refresh

abbrev pub soa_form : List Field
soa_form = DomainName ∷ DomainName ∷ FourBytes ∷ FourBytes ∷ FourBytes ∷ FourBytes ∷ FourBytes ∷ []

soa_at : (rdata rest : List ℕ) (mname rname : Labels) (numbers : List ℕ) (words : Words) → IsNamed rdata mname rest
    → IsNamed rest rname numbers
    → option_map soa_fields (soa_numbers mname rname numbers) ≡ Some words → IsReadAs soa_form rdata words
soa_at rdata rest mname rname numbers words one two e =
    elim (cases_Bool (length numbers == 20)) [
      | inr isnt ↦ let none : None ≡ Some words = rw isnt at e in cc
      | inl is ↦
          let same : name_text mname ∷ name_text rname ∷ decimal (u32_at numbers 0) ∷ decimal (u32_at numbers 4)
          ∷ decimal (u32_at numbers 8) ∷ decimal (u32_at numbers 12) ∷ decimal (u32_at numbers 16) ∷ [] ≡ words =
          same_Some _ _ (rw is at e) in
          let last : Words =
          decimal (u32_at numbers 0) ∷ decimal (u32_at numbers 4) ∷ decimal (u32_at numbers 8)
          ∷ decimal (u32_at numbers 12) ∷ decimal (u32_at numbers 16) ∷ [] in
          let front : Words = name_text rname ∷ last in
          let end = numbers_read numbers two.after (eqb-true (length numbers) 20 is) in
          let second = name_step rname _ last _ two.good two.labels end ∙ ap Ok (sym two.whole) in
          let first = name_step mname _ front _ one.good one.labels second ∙ ap Ok (sym one.whole) in
          subst (IsReadAs soa_form rdata) same
          (record { own_form = name_first mname front one.good one.labels; reads = first })
    ]

abbrev soa_after : Labels → Option (Labels × List ℕ) → Option SoaValue
soa_after mname rname = rname >>= λ n. soa_numbers mname n.0 n.1

soa_rest : (rdata rest : List ℕ) (mname : Labels) (words : Words) → IsNamed rdata mname rest
    → (read : Option (Labels × List ℕ)) → name_in rest ≡ read
    → option_map soa_fields (soa_after mname read) ≡ Some words → IsReadAs soa_form rdata words
soa_rest rdata rest mname words one None is e = cc
soa_rest rdata rest mname words one (Some (rname, numbers)) is e =
    soa_at rdata rest mname rname numbers words one (named rest rname numbers one.after is) e

soa_front : (rdata : List ℕ) (words : Words) → is_bytes rdata ≡ true → (read : Option (Labels × List ℕ))
    → name_in rdata ≡ read
    → option_map soa_fields (read >>= λ n. soa_after n.0 (name_in n.1)) ≡ Some words → IsReadAs soa_form rdata words
soa_front rdata words h None is e = cc
soa_front rdata words h (Some (mname, rest)) is e =
    soa_rest rdata rest mname words (named rdata mname rest h is) (name_in rest) refl e

pub soa_law : (rdata : List ℕ) (words : Words) → is_bytes rdata ≡ true → soa_words rdata ≡ Some words
    → IsReadAs soa_form rdata words
unfolding soa_words soa_in
soa_law rdata words h e = soa_front rdata words h (name_in rdata) refl e
