-- A name that is written is a word, and is read as the same name.
use Rattle.std.proofs.Common.{◌≡◌, ℕ, suc, ◌+◌, ◌/◌, ◌%◌, ◌<◌, true, false, ◌||◌, ◌==◌, List, [], ◌∷◌, ◌++◌, length, codes, Some, Ok, if◌then◌else◌, refl, sym, ap, ◌∙◌, arith, length-append, inl, inr, subst}
use Rattle.std.specs.Prelude.{nat_eq, nat_le, nat_lt}
use Rattle.std.specs.Cmp.Lexicographic.{pointwise}
use Rattle.std.specs.List.{list_all, flat_map}
use Rattle.std.specs.Result.{result_ok}
use Rattle.std.proofs.lemmas.Bool.{cases_Bool, and_parts}
use Rattle.std.proofs.lemmas.Bool.Decides.{nat_tests}
use Rattle.std.proofs.lemmas.Grind.{flat_map-append}
use Rattle.std.proofs.lemmas.List.{append_assoc, append-nil}
use Rattle.dns_model.specs.Bytes.{is_bytes}
use Rattle.dns_model.specs.Names.{Label, Labels, wire, is_label, is_name}
use Rattle.dns_model.specs.NameText.{dot, backslash, is_special, is_printable, is_digit, three_digits, printed_byte, printed_label, escape_in, byte_in, Read, ended, after_dot, labels_read, text_read, within, read_name}
use Rattle.dns_model.specs.ResultSteps.{◌>>=◌}
use Rattle.dns_record.specs.LabelRuns.{read_at}
use Rattle.dns_record.proofs.TextLemmas.{checked_label, digits_read, no_dot_alone, read_at-step, whole}
use Rattle.dns_model.specs.Keys.{bytes_eq}
use Rattle.dns_master_file.specs.Front.{ends_word, run_size}
use Rattle.dns_master_file.specs.Meanings.{name_meant}
use Rattle.dns_presentation.specs.Spelling.{is_marked, marked_byte, name_text}
use Rattle.dns_master_file.proofs.WordLemmas.{IsWord}

-- a byte of a label as it is written
abbrev pub spelled_byte : ℕ → List ℕ
spelled_byte byte =
    if is_special byte || is_marked byte then backslash ∷ byte ∷ []
    else (if is_printable byte then byte ∷ [] else backslash ∷ three_digits byte)

byte_spelled : (byte : ℕ) → byte < 256 → flat_map marked_byte (printed_byte byte) ≡ spelled_byte byte
unfolding printed_byte marked_byte
byte_spelled byte small =
    elim (cases_Bool (is_special byte)) [
      | inl special ↦
          let alone : is_marked byte ≡ false = grind (arith, nat_tests, special) in rw (special, alone) refl
      | inr plain ↦ elim (cases_Bool (is_printable byte)) [
        | inl shown ↦ elim (cases_Bool (is_marked byte)) [
          | inl marked ↦ rw (plain, shown, marked) refl
          | inr free ↦ rw (plain, shown, free) refl
        ]
        | inr hidden ↦
            let free : is_marked byte ≡ false = grind (arith, nat_tests, hidden) in
            let a : is_marked (48 + byte / 100) ≡ false = grind (arith, nat_tests) in
            let b : is_marked (48 + byte / 10 % 10) ≡ false = grind (arith, nat_tests) in
            let c : is_marked (48 + byte % 10) ≡ false = grind (arith, nat_tests) in
            rw (plain, hidden, free, a, b, c) refl
      ]
    ]

-- ---- it is a word

pub escaped_runs : (byte : ℕ) (more : List ℕ) → run_size false (backslash ∷ byte ∷ more) ≡ 2 + run_size false more
unfolding run_size
escaped_runs byte more =
    let two : run_size false (backslash ∷ byte ∷ more) ≡ suc (suc (run_size false more)) = refl in omega (arith, two)

plain_runs : (byte : ℕ) (more : List ℕ) → ends_word byte ≡ false → (byte == backslash) ≡ false
    → run_size false (byte ∷ more) ≡ 1 + run_size false more
unfolding run_size
plain_runs byte more edge slash = rw (edge, slash) (omega arith)

digits_run : (byte : ℕ) (more : List ℕ) → byte < 256
    → run_size false (backslash ∷ (three_digits byte ++ more)) ≡ 4 + run_size false more
digits_run byte more small =
    let one = escaped_runs (48 + byte / 100) ((48 + byte / 10 % 10) ∷ (48 + byte % 10) ∷ more) in
    let b : ends_word (48 + byte / 10 % 10) ≡ false = grind (arith, nat_tests) in
    let b_slash : (48 + byte / 10 % 10 == backslash) ≡ false = grind (arith, nat_tests) in
    let c : ends_word (48 + byte % 10) ≡ false = grind (arith, nat_tests) in
    let c_slash : (48 + byte % 10 == backslash) ≡ false = grind (arith, nat_tests) in
    let two = plain_runs (48 + byte / 10 % 10) ((48 + byte % 10) ∷ more) b b_slash in
    let three = plain_runs (48 + byte % 10) more c c_slash in
    one ∙ omega (arith, two, three)

byte_runs : (byte : ℕ) (more : List ℕ) → byte < 256
    → run_size false (spelled_byte byte ++ more) ≡ length (spelled_byte byte) + run_size false more
byte_runs byte more small =
    elim (cases_Bool (is_special byte || is_marked byte)) [
      | inl escaped ↦ rw escaped (escaped_runs byte more)
      | inr free ↦ elim (cases_Bool (is_printable byte)) [
        | inl shown ↦
            let edge : ends_word byte ≡ false = grind (arith, nat_tests, free, shown) in
            let slash : (byte == backslash) ≡ false = grind (arith, nat_tests, free) in
            rw (free, shown) (plain_runs byte more edge slash)
        | inr hidden ↦ rw (free, hidden) (digits_run byte more small)
      ]
    ]

bytes_run : (label more : List ℕ) → is_bytes label ≡ true
    → run_size false (flat_map spelled_byte label ++ more) ≡ length (flat_map spelled_byte label) + run_size false more
bytes_run [] more h = omega arith
bytes_run (b ∷ bs) more h =
    let parts = and_parts (nat_lt b 256) (is_bytes bs) h in
    let small : b < 256 = grind (arith, nat_tests, parts.0) in
    let here = byte_runs b (flat_map spelled_byte bs ++ more) small in
    let rest = bytes_run bs more parts.1 in
    let size = length-append (spelled_byte b) (flat_map spelled_byte bs) in
    ap (run_size false) (append_assoc (spelled_byte b) (flat_map spelled_byte bs) more) ∙ here
    ∙ omega (arith, rest, size)

-- a label as it is written, with its dot
abbrev pub label_text : Label → List ℕ
label_text label = flat_map spelled_byte label ++ dot ∷ []

label_runs : (label more : List ℕ) → is_bytes label ≡ true
    → run_size false (label_text label ++ more) ≡ length (label_text label) + run_size false more
label_runs label more h =
    let bytes = bytes_run label (dot ∷ more) h in
    let last = plain_runs dot more refl refl in
    let size = length-append (flat_map spelled_byte label) (dot ∷ []) in
    ap (run_size false) (append_assoc (flat_map spelled_byte label) (dot ∷ []) more) ∙ omega (arith, bytes, last, size)

labels_run : (name : Labels) (more : List ℕ) → list_all is_bytes name ≡ true
    → run_size false (flat_map label_text name ++ more) ≡ length (flat_map label_text name) + run_size false more
labels_run [] more h = omega arith
labels_run (label ∷ name) more h =
    let parts = and_parts (is_bytes label) (list_all is_bytes name) h in
    let here = label_runs label (flat_map label_text name ++ more) parts.0 in
    let rest = labels_run name more parts.1 in
    let size = length-append (label_text label) (flat_map label_text name) in
    ap (run_size false) (append_assoc (label_text label) (flat_map label_text name) more) ∙ here
    ∙ omega (arith, rest, size)

label_spelled : (label : Label) → is_bytes label ≡ true
    → flat_map marked_byte (flat_map printed_byte label) ≡ flat_map spelled_byte label
label_spelled [] h = refl
label_spelled (b ∷ bs) h =
    let parts = and_parts (nat_lt b 256) (is_bytes bs) h in
    let small : b < 256 = grind (arith, nat_tests, parts.0) in
    flat_map-append marked_byte (printed_byte b) (flat_map printed_byte bs)
    ∙ rw (byte_spelled b small, label_spelled bs parts.1) refl

labels_spelled : (name : Labels) → list_all is_bytes name ≡ true
    → flat_map marked_byte (flat_map printed_label name) ≡ flat_map label_text name
unfolding marked_byte
labels_spelled [] h = refl
labels_spelled (label ∷ name) h =
    let parts = and_parts (is_bytes label) (list_all is_bytes name) h in
    flat_map-append marked_byte (printed_label label) (flat_map printed_label name)
    ∙ ap (λ t. t ++ flat_map marked_byte (flat_map printed_label name))
    (flat_map-append marked_byte (flat_map printed_byte label) (dot ∷ []))
    ∙ rw (label_spelled label parts.0, labels_spelled name parts.1) refl

-- a byte that begins a name as it is written
pub record Begins (text : List ℕ) : Type 0 where
  pub first : ℕ
  pub rest : List ℕ
  pub spelled : text ≡ first ∷ rest
  pub edge : ends_word first ≡ false
  pub no_directive : (first == 36) ≡ false
  pub no_origin : bytes_eq (first ∷ rest) (codes "@") ≡ false
  pub no_mark : bytes_eq (first ∷ rest) (codes "\\#") ≡ false

byte_begins : (byte : ℕ) (more : List ℕ) → Begins (spelled_byte byte ++ more)
byte_begins byte more =
    elim (cases_Bool (is_special byte || is_marked byte)) [
      | inl escaped ↦
          let other : nat_eq byte 35 ≡ false = grind (arith, nat_tests, escaped) in
          record {
            first = backslash;
            rest = byte ∷ more;
            spelled = rw escaped refl;
            edge = refl;
            no_directive = refl;
            no_origin = refl;
            no_mark = rw other refl;
          }
      | inr free ↦ elim (cases_Bool (is_printable byte)) [
        | inl shown ↦
            let no_at : nat_eq byte 64 ≡ false = grind (arith, nat_tests, free) in
            let no_slash : nat_eq byte 92 ≡ false = grind (arith, nat_tests, free) in
            record {
              first = byte;
              rest = more;
              spelled = rw (free, shown) refl;
              edge = grind (arith, nat_tests, free, shown);
              no_directive = grind (arith, nat_tests, free);
              no_origin = rw no_at refl;
              no_mark = rw no_slash refl;
            }
        | inr hidden ↦
            let other : nat_eq (48 + byte / 100) 35 ≡ false = grind (arith, nat_tests) in
            record {
              first = backslash;
              rest = three_digits byte ++ more;
              spelled = rw (free, hidden) refl;
              edge = refl;
              no_directive = refl;
              no_origin = refl;
              no_mark = rw other refl;
            }
      ]
    ]

name_begins : (label : Label) (name : Labels) → is_label label ≡ true → Begins (flat_map label_text (label ∷ name))
name_begins [] name good = let none : false ≡ true = good in cc
name_begins (b ∷ bs) name good =
    let tail = dot ∷ flat_map label_text name in
    let begins = byte_begins b (flat_map spelled_byte bs ++ tail) in
    record {
      first = begins.first;
      rest = begins.rest;
      spelled = append_assoc (flat_map spelled_byte (b ∷ bs)) (dot ∷ []) (flat_map label_text name)
          ∙ append_assoc (spelled_byte b) (flat_map spelled_byte bs) tail ∙ begins.spelled;
      edge = begins.edge;
      no_directive = begins.no_directive;
      no_origin = begins.no_origin;
      no_mark = begins.no_mark;
    }

-- a name as it is written begins so
pub text_begins : (name : Labels) → is_name name ≡ true → list_all is_bytes name ≡ true → Begins (name_text name)
unfolding name_text marked_byte
text_begins [] good bytes =
    record {
      first = dot;
      rest = [];
      spelled = refl;
      edge = refl;
      no_directive = refl;
      no_origin = refl;
      no_mark = refl;
    }
text_begins (label ∷ name) good bytes =
    let parts = and_parts (list_all is_label (label ∷ name)) (nat_le (length (wire (label ∷ name))) 255) good in
    let first = and_parts (is_label label) (list_all is_label name) parts.0 in
    subst Begins (sym (labels_spelled (label ∷ name) bytes)) (name_begins label name first.0)

-- a name as it is written is a word
pub name_is_word : (name : Labels) → is_name name ≡ true → list_all is_bytes name ≡ true → IsWord (name_text name)
unfolding name_text marked_byte
name_is_word [] good bytes =
    record { first = dot; rest = []; spelled = refl; begins = refl; runs = λ more. plain_runs dot more refl refl }
name_is_word (label ∷ name) good bytes =
    let parts = and_parts (list_all is_label (label ∷ name)) (nat_le (length (wire (label ∷ name))) 255) good in
    let first = and_parts (is_label label) (list_all is_label name) parts.0 in
    let begins = name_begins label name first.0 in
    subst IsWord (sym (labels_spelled (label ∷ name) bytes))
    (record {
      first = begins.first;
      rest = begins.rest;
      spelled = begins.spelled;
      begins = begins.edge;
      runs = λ more. labels_run (label ∷ name) more bytes;
    })

-- ---- it is read as the name

after_escape : (label : Label) (byte : ℕ) (text rest : List ℕ) → escape_in text ≡ Some (byte, rest)
    → read_at label (backslash ∷ text) ≡ read_at (label ++ byte ∷ []) rest
unfolding byte_in
after_escape label byte text rest is = read_at-step label (backslash ∷ text) ∙ rw is refl

escaped_read : (label : Label) (byte : ℕ) (rest : List ℕ) → is_special byte || is_marked byte ≡ true
    → read_at label (backslash ∷ byte ∷ rest) ≡ read_at (label ++ byte ∷ []) rest
unfolding escape_in
escaped_read label byte rest is =
    let no_digit : is_digit byte ≡ false = grind (arith, nat_tests, is) in
    let shown : is_printable byte ≡ true = grind (arith, nat_tests, is) in
    after_escape label byte (byte ∷ rest) rest (rw (no_digit, shown) refl)

plain_read : (label : Label) (byte : ℕ) (rest : List ℕ) → is_special byte || is_marked byte ≡ false
    → is_printable byte ≡ true
    → read_at label (byte ∷ rest) ≡ read_at (label ++ byte ∷ []) rest
unfolding byte_in
plain_read label byte rest is shown =
    let no_dot : (byte == dot) ≡ false = grind (arith, nat_tests, is) in
    let no_slash : (byte == backslash) ≡ false = grind (arith, nat_tests, is) in
    read_at-step label (byte ∷ rest) ∙ rw (no_dot, no_slash, shown) refl

byte_read : (label : Label) (byte : ℕ) (rest : List ℕ) → byte < 256
    → read_at label (spelled_byte byte ++ rest) ≡ read_at (label ++ byte ∷ []) rest
byte_read label byte rest small =
    elim (cases_Bool (is_special byte || is_marked byte)) [
      | inl escaped ↦ rw escaped (escaped_read label byte rest escaped)
      | inr free ↦ elim (cases_Bool (is_printable byte)) [
        | inl shown ↦ rw (free, shown) (plain_read label byte rest free shown)
        | inr hidden ↦ rw (free, hidden) (after_escape label byte (three_digits byte ++ rest) rest
            (digits_read byte rest small))
      ]
    ]

bytes_read : (before label : Label) (rest : List ℕ) → is_bytes label ≡ true
    → read_at before (flat_map spelled_byte label ++ rest) ≡ read_at (before ++ label) rest
bytes_read before [] rest good = ap (λ (l : Label). read_at l rest) (sym (append-nil before))
bytes_read before (byte ∷ label) rest good =
    let parts = and_parts (nat_lt byte 256) (is_bytes label) good in
    let small : byte < 256 = grind (arith, nat_tests, parts.0) in
    ap (read_at before) (append_assoc (spelled_byte byte) (flat_map spelled_byte label) rest)
    ∙ byte_read before byte (flat_map spelled_byte label ++ rest) small
    ∙ bytes_read (before ++ byte ∷ []) label rest parts.1
    ∙ ap (λ (l : Label). read_at l rest) (append_assoc before (byte ∷ []) label)

label_read : (label : Label) (rest : List ℕ) → is_bytes label ≡ true
    → read_at [] (label_text label ++ rest) ≡ ended label (after_dot read_at rest)
label_read label rest good =
    ap (read_at []) (append_assoc (flat_map spelled_byte label) (dot ∷ []) rest)
    ∙ bytes_read [] label (dot ∷ rest) good
    ∙ read_at-step label (dot ∷ rest)

dotted : (text : List ℕ) → 0 < length text → after_dot read_at text ≡ read_at [] text
dotted [] some = absurd (omega arith)
dotted (b ∷ text) some = refl

names_some : (label : Label) (name : Labels) → 0 < length (flat_map label_text (label ∷ name))
names_some label name = omega (
  arith,
  length-append (label_text label) (flat_map label_text name),
  length-append (flat_map spelled_byte label) (dot ∷ []),
)

labels_read_back : (label : Label) (name : Labels) → list_all is_label (label ∷ name) ≡ true
    → list_all is_bytes (label ∷ name) ≡ true
    → read_at [] (flat_map label_text (label ∷ name)) ≡ Ok (label ∷ name, true)
labels_read_back label [] good bytes =
    let parts = and_parts (is_label label) true good in
    let of_bytes = and_parts (is_bytes label) true bytes in
    label_read label [] of_bytes.0 ∙ rw (checked_label label parts.0) refl
labels_read_back label (next ∷ name) good bytes =
    let parts = and_parts (is_label label) (list_all is_label (next ∷ name)) good in
    let of_bytes = and_parts (is_bytes label) (list_all is_bytes (next ∷ name)) bytes in
    let more : read_at [] (flat_map label_text (next ∷ name)) ≡ Ok (next ∷ name, true) =
    labels_read_back next name parts.1 of_bytes.1 in
    let some : after_dot read_at (flat_map label_text (next ∷ name)) ≡ read_at [] (flat_map label_text (next ∷ name)) =
    dotted (flat_map label_text (next ∷ name)) (names_some next name) in
    label_read label (flat_map label_text (next ∷ name)) of_bytes.0 ∙ rw (checked_label label parts.0, some, more) refl

spelled_some : (byte : ℕ) → 0 < length (spelled_byte byte)
spelled_some byte =
    elim (cases_Bool (is_special byte || is_marked byte)) [
      | inl escaped ↦ rw escaped (omega arith)
      | inr free ↦ elim (cases_Bool (is_printable byte)) [
        | inl shown ↦ rw (free, shown) (omega arith)
        | inr hidden ↦ rw (free, hidden) (omega arith)
      ]
    ]

two_long : (label : Label) (name : Labels) → is_label label ≡ true → 1 < length (flat_map label_text (label ∷ name))
two_long [] name good = cc
two_long (byte ∷ label) name good =
    omega (
      arith,
      spelled_some byte,
      length-append (label_text (byte ∷ label)) (flat_map label_text name),
      length-append (flat_map spelled_byte (byte ∷ label)) (dot ∷ []),
      length-append (spelled_byte byte) (flat_map spelled_byte label),
    )

names_read : (label : Label) (name : Labels) → is_name (label ∷ name) ≡ true → list_all is_bytes (label ∷ name) ≡ true
    → read_name (flat_map label_text (label ∷ name)) ≡ Ok (label ∷ name)
unfolding text_read
names_read label name good bytes =
    let parts = and_parts (list_all is_label (label ∷ name)) (nat_le (length (wire (label ∷ name))) 255) good in
    let first = and_parts (is_label label) (list_all is_label name) parts.0 in
    let alone : pointwise nat_eq (flat_map label_text (label ∷ name)) (dot ∷ []) ≡ false =
    no_dot_alone (flat_map label_text (label ∷ name)) (two_long label name first.0) in
    let back : labels_read (0 ∷ flat_map label_text (label ∷ name)) [] (flat_map label_text (label ∷ name))
    ≡ Ok (label ∷ name, true) = whole _ _ (labels_read_back label name parts.0 bytes) in
    let read : text_read (flat_map label_text (label ∷ name)) ≡ Ok (label ∷ name, true) = rw (alone, back) refl in
    ap (λ (r : Read). r >>= λ p. within p.0) read ∙ rw parts.1 refl

root_read : read_name (dot ∷ []) ≡ Ok []
unfolding text_read
root_read = refl

meant_of : (text : List ℕ) (name : Labels) → bytes_eq text (codes "@") ≡ false → read_name text ≡ Ok name
    → name_meant text ≡ Some name
meant_of text name apart read = rw apart (ap result_ok read)

-- a name as it is written is read as the name
pub name_back : (name : Labels) → is_name name ≡ true → list_all is_bytes name ≡ true
    → name_meant (name_text name) ≡ Some name
unfolding name_text marked_byte
name_back [] good bytes = meant_of (dot ∷ []) [] refl root_read
name_back (label ∷ name) good bytes =
    let parts = and_parts (list_all is_label (label ∷ name)) (nat_le (length (wire (label ∷ name))) 255) good in
    let first = and_parts (is_label label) (list_all is_label name) parts.0 in
    let begins = name_begins label name first.0 in
    let text = flat_map label_text (label ∷ name) in
    let no_origin : bytes_eq (flat_map label_text (label ∷ name)) (codes "@") ≡ false =
    rw begins.spelled begins.no_origin in
    ap name_meant (labels_spelled (label ∷ name) bytes)
    ∙ meant_of text (label ∷ name) no_origin (names_read label name good bytes)
