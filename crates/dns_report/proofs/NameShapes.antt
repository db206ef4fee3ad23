-- A printed name is a word, and tells the name.
use Rattle.std.proofs.Common.{◌≡◌, ℕ, ◌+◌, ◌/◌, ◌%◌, Bool, true, false, cond, nat_lt, [], ◌∷◌, Result, Ok, refl, sym, ap, ◌∙◌, arith}
use Rattle.std.specs.Result.{result_unwrap_or}
use Rattle.std.specs.List.{list_all, flat_map}
use Rattle.std.proofs.lemmas.Bool.Decides.{nat_tests}
use Rattle.dns_model.specs.Bytes.{is_bytes}
use Rattle.dns_model.specs.Names.{Label, Labels, is_name}
use Rattle.dns_model.specs.NameText.{dot, backslash, is_special, is_printable, three_digits, printed_byte, printed_label, printed, read_name}
use Rattle.dns_model.specs.declared.name_error.NameError.{NameError}
use Rattle.dns_record.proofs.TextLemmas.{read_printed}
use Rattle.dns_text.proofs.WordShapes.{is_word, word_append}

digits_word : (byte : ℕ) → is_word (three_digits byte) ≡ true
digits_word byte =
    let a : nat_lt 32 (48 + byte / 100) ≡ true = grind (arith, nat_tests) in
    let b : nat_lt 32 (48 + byte / 10 % 10) ≡ true = grind (arith, nat_tests) in
    let c : nat_lt 32 (48 + byte % 10) ≡ true = grind (arith, nat_tests) in
    rw (a, b, c) refl

byte_word : (byte : ℕ) → is_word (printed_byte byte) ≡ true
unfolding printed_byte
byte_word byte = word_cases (is_special byte) (is_printable byte) refl refl
  where
    word_cases : (s p : Bool) → s ≡ is_special byte → p ≡ is_printable byte
        → is_word (cond s (backslash ∷ byte ∷ []) (cond p (byte ∷ []) (backslash ∷ three_digits byte))) ≡ true
    word_cases true p is shown = let above : nat_lt 32 byte ≡ true = grind (arith, nat_tests) in rw above refl
    word_cases false true is shown = let above : nat_lt 32 byte ≡ true = grind (arith, nat_tests) in rw above refl
    word_cases false false is shown = digits_word byte

bytes_word : (label : Label) → is_word (flat_map printed_byte label) ≡ true
bytes_word [] = refl
bytes_word (byte ∷ label) =
    word_append (printed_byte byte) (flat_map printed_byte label) (byte_word byte) (bytes_word label)

labels_word : (name : Labels) → is_word (flat_map printed_label name) ≡ true
labels_word [] = refl
labels_word (label ∷ name) =
    word_append (printed_label label) (flat_map printed_label name)
    (word_append (flat_map printed_byte label) (dot ∷ []) (bytes_word label) refl) (labels_word name)

pub printed_word : (name : Labels) → is_word (printed name) ≡ true
printed_word [] = refl
printed_word (label ∷ name) = labels_word (label ∷ name)

pub printed_injective : (a b : Labels) → is_name a ≡ true → list_all is_bytes a ≡ true → is_name b ≡ true
    → list_all is_bytes b ≡ true → printed a ≡ printed b → a ≡ b
printed_injective a b first first_bytes second second_bytes h =
    let e : ◌≡◌ {A = Result Labels NameError} (Ok a) (Ok b) =
    sym (read_printed a first first_bytes) ∙ ap read_name h ∙ read_printed b second second_bytes in
    ap (λ r. result_unwrap_or r a) e
