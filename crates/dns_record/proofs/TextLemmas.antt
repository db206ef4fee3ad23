-- Reading a name's text step by step, and that a printed name is read as it was.
use Rattle.std.proofs.Common.{◌≡◌, ℕ, ◌+◌, ◌/◌, ◌%◌, ◌≤◌, ◌<◌, Bool, true, false, ◌&&◌, ◌==◌, cond, List, [], ◌∷◌, ◌++◌, length, Option, None, Some, Ok, Err, refl, sym, ap, ◌∙◌, arith, length-append}
use Rattle.std.specs.Prelude.{nat_eq, nat_le, nat_lt}
use Rattle.std.specs.Cmp.Lexicographic.{pointwise}
use Rattle.std.specs.List.{list_all, flat_map}
use Rattle.std.proofs.lemmas.Bool.{and_parts}
use Rattle.std.proofs.lemmas.Bool.Decides.{nat_tests}
use Rattle.std.proofs.lemmas.List.{append_assoc, append-nil}
use Rattle.dns_model.specs.Bytes.{is_bytes}
use Rattle.dns_model.specs.Names.{Label, Labels, wire, is_label, is_name}
use Rattle.dns_model.specs.NameText.{dot, backslash, is_special, is_printable, is_digit, three_digits, printed_byte, printed_label, printed, number_of_digits, number_in, escape_in, byte_in, Read, label_checked, ended, after_dot, step_in, labels_read, text_read, within, read_name}
use Rattle.dns_model.specs.declared.name_error.NameError.TheVariants.{BadEscape}
use Rattle.dns_record.specs.LabelRuns.{read_at}
use Rattle.dns_model.proofs.WireLemmas.{second_of_some}
use Rattle.dns_model.specs.ResultSteps.{◌>>=◌}
use Rattle.std.specs.Option.{option_map_or}

-- ---- each step takes a byte at least

number_shorter : (a : ℕ) (text rest : List ℕ) (value : ℕ) → number_in a text ≡ Some (value, rest) → length rest < length text
unfolding number_in
number_shorter a [] rest value h = cc
number_shorter a (b ∷ []) rest value h = cc
number_shorter a (b ∷ c ∷ left) rest value h = number_cut b c left rest value _ (number_of_digits a b c) h
  where
    number_cut : (b c : ℕ) (left rest : List ℕ) (value : ℕ) (t : Bool) (n : ℕ)
        → cond {A = Option (ℕ × List ℕ)} t (Some (n, left)) None ≡ Some (value, rest) → length rest < length (b ∷ c ∷ left)
    number_cut b c left rest value true n h = let same : left ≡ rest = second_of_some h in rw (← same) (omega arith)
    number_cut b c left rest value false n h = cc

escape_shorter : (text rest : List ℕ) (value : ℕ) → escape_in text ≡ Some (value, rest) → length rest < length text
unfolding escape_in
escape_shorter [] rest value h = cc
escape_shorter (byte ∷ left) rest value h = escape_cut byte left rest value (is_digit byte) (is_printable byte) h
  where
    escape_cut : (byte : ℕ) (left rest : List ℕ) (value : ℕ) (d p : Bool)
        → cond {A = Option (ℕ × List ℕ)} d (number_in byte left) (cond p (Some (byte, left)) None) ≡ Some (value, rest)
        → length rest < length (byte ∷ left)
    escape_cut byte left rest value true p h = omega (arith, number_shorter byte left rest value h)
    escape_cut byte left rest value false true h = let same : left ≡ rest = second_of_some h in rw (← same) (omega arith)
    escape_cut byte left rest value false false h = cc

pub byte_shorter : (byte : ℕ) (text rest : List ℕ) (value : ℕ) → byte_in byte text ≡ Some (value, rest) → length rest ≤ length text
unfolding byte_in
byte_shorter byte text rest value h = byte_cut (byte == backslash) (is_printable byte) h
  where
    byte_cut : (e p : Bool) → cond {A = Option (ℕ × List ℕ)} e (escape_in text) (cond p (Some (byte, text)) None) ≡ Some (value, rest)
        → length rest ≤ length text
    byte_cut true p h = omega (arith, escape_shorter text rest value h)
    byte_cut false true h = let same : text ≡ rest = second_of_some h in rw (← same) (omega arith)
    byte_cut false false h = cc

-- ---- the bound on the steps says nothing once it is longer than the text

abbrev after_byte : (Label → List ℕ → Read) → Label → Option (ℕ × List ℕ) → Read
after_byte more label byte = option_map_or (λ b. more (label ++ b.0 ∷ []) b.1) byte (Err BadEscape)

after_byte_same : (f g : Label → List ℕ → Read) (label : Label) (byte : ℕ) (text : List ℕ) (read : Option (ℕ × List ℕ))
    → byte_in byte text ≡ read
    → ((l : Label) (rest : List ℕ) → length rest ≤ length text → f l rest ≡ g l rest) → after_byte f label read ≡ after_byte g label read
after_byte_same f g label byte text None is same = refl
after_byte_same f g label byte text (Some (value, rest)) is same = same (label ++ value ∷ []) rest (byte_shorter byte text rest value is)

after_dot_same : (f g : Label → List ℕ → Read) (text : List ℕ)
    → ((l : Label) (rest : List ℕ) → length rest ≤ length text → f l rest ≡ g l rest) → after_dot f text ≡ after_dot g text
after_dot_same f g [] same = refl
after_dot_same f g (b ∷ text) same = same [] (b ∷ text) (omega arith)

step_same : (f g : Label → List ℕ → Read) (label : Label) (text : List ℕ)
    → ((l : Label) (rest : List ℕ) → length rest < length text → f l rest ≡ g l rest) → step_in f label text ≡ step_in g label text
step_same f g label [] same = refl
step_same f g label (byte ∷ text) same =
    let dots : after_dot f text ≡ after_dot g text = after_dot_same f g text (λ l rest lt. same l rest (omega arith)) in
    let bytes : after_byte f label (byte_in byte text) ≡ after_byte g label (byte_in byte text) =
    after_byte_same f g label byte text (byte_in byte text) refl (λ l rest lt. same l rest (omega arith)) in
    rw (dots, bytes) refl

bound_same : (one two : List ℕ) (label : Label) (text : List ℕ) → length text < length one → length text < length two
    → labels_read one label text ≡ labels_read two label text
unfolding labels_read
bound_same [] two label text p q = absurd (omega arith)
bound_same (x ∷ one) [] label text p q = absurd (omega arith)
bound_same (x ∷ one) (y ∷ two) label text p q =
    step_same (labels_read one) (labels_read two) label text (λ l rest lt. bound_same one two l rest (omega arith) (omega arith))

pub read_at-step : (label : Label) (text : List ℕ) → read_at label text ≡ step_in read_at label text
unfolding read_at labels_read
read_at-step label text = step_same (labels_read text) read_at label text (λ l rest lt. bound_same text (0 ∷ rest) l rest lt (omega arith))

-- ---- what is printed is read

-- the digits of a byte give it
pub digits_read : (byte : ℕ) (rest : List ℕ) → byte < 256 → escape_in (three_digits byte ++ rest) ≡ Some (byte, rest)
unfolding escape_in number_in
digits_read byte rest small =
    let a : is_digit (48 + byte / 100) ≡ true = grind (arith, nat_tests) in
    let b : is_digit (48 + byte / 10 % 10) ≡ true = grind (arith, nat_tests) in
    let c : is_digit (48 + byte % 10) ≡ true = grind (arith, nat_tests) in
    let whole : number_of_digits (48 + byte / 100) (48 + byte / 10 % 10) (48 + byte % 10) ≡ byte = omega arith in
    let fits : nat_le (number_of_digits (48 + byte / 100) (48 + byte / 10 % 10) (48 + byte % 10)) 255 ≡ true =
    rw whole (grind (arith, nat_tests)) in
    rw (a, b, c, fits, whole) refl

-- a byte that is printed after a backslash
escaped_read : (label : Label) (byte : ℕ) (text rest : List ℕ) → escape_in text ≡ Some (byte, rest)
    → read_at label (backslash ∷ text) ≡ read_at (label ++ byte ∷ []) rest
unfolding byte_in
escaped_read label byte text rest is = read_at-step label (backslash ∷ text) ∙ rw is refl

special_read : (label : Label) (byte : ℕ) (rest : List ℕ) → is_special byte ≡ true
    → read_at label (backslash ∷ byte ∷ rest) ≡ read_at (label ++ byte ∷ []) rest
unfolding escape_in
special_read label byte rest is =
    let no_digit : is_digit byte ≡ false = grind (arith, nat_tests) in
    let shown : is_printable byte ≡ true = grind (arith, nat_tests) in
    escaped_read label byte (byte ∷ rest) rest (rw (no_digit, shown) refl)

plain_read : (label : Label) (byte : ℕ) (rest : List ℕ) → is_special byte ≡ false → is_printable byte ≡ true
    → read_at label (byte ∷ rest) ≡ read_at (label ++ byte ∷ []) rest
unfolding byte_in
plain_read label byte rest is shown =
    let no_dot : (byte == dot) ≡ false = grind (arith, nat_tests) in
    let no_slash : (byte == backslash) ≡ false = grind (arith, nat_tests) in
    read_at-step label (byte ∷ rest) ∙ rw (no_dot, no_slash, shown) refl

pub byte_read : (label : Label) (byte : ℕ) (rest : List ℕ) → byte < 256
    → read_at label (printed_byte byte ++ rest) ≡ read_at (label ++ byte ∷ []) rest
unfolding printed_byte
byte_read label byte rest small = byte_cases (is_special byte) (is_printable byte) refl refl
  where
    byte_cases : (s p : Bool) → s ≡ is_special byte → p ≡ is_printable byte
        → read_at label (cond s (backslash ∷ byte ∷ []) (cond p (byte ∷ []) (backslash ∷ three_digits byte)) ++ rest)
        ≡ read_at (label ++ byte ∷ []) rest
    byte_cases true p is shown = special_read label byte rest (sym is)
    byte_cases false true is shown = plain_read label byte rest (sym is) (sym shown)
    byte_cases false false is shown = escaped_read label byte (three_digits byte ++ rest) rest (digits_read byte rest small)

pub bytes_read : (before label : Label) (rest : List ℕ) → is_bytes label ≡ true
    → read_at before (flat_map printed_byte label ++ rest) ≡ read_at (before ++ label) rest
bytes_read before [] rest good = ap (λ (l : Label). read_at l rest) (sym (append-nil before))
bytes_read before (byte ∷ label) rest good =
    let parts = and_parts (nat_lt byte 256) (is_bytes label) good in
    let small : byte < 256 = grind (arith, nat_tests, parts.0) in
    ap (read_at before) (append_assoc (printed_byte byte) (flat_map printed_byte label) rest)
    ∙ byte_read before byte (flat_map printed_byte label ++ rest) small
    ∙ bytes_read (before ++ byte ∷ []) label rest parts.1
    ∙ ap (λ (l : Label). read_at l rest) (append_assoc before (byte ∷ []) label)

pub label_read : (label : Label) (rest : List ℕ) → is_bytes label ≡ true
    → read_at [] (printed_label label ++ rest) ≡ ended label (after_dot read_at rest)
label_read label rest good =
    ap (read_at []) (append_assoc (flat_map printed_byte label) (dot ∷ []) rest)
    ∙ bytes_read [] label (dot ∷ rest) good
    ∙ read_at-step label (dot ∷ rest)

pub checked_label : (label : Label) → is_label label ≡ true → label_checked label ≡ Ok label
checked_label label good =
    let parts = and_parts (nat_lt 0 (length label)) (nat_le (length label) 63) good in
    let some : (length label == 0) ≡ false = grind (arith, nat_tests, parts.0) in
    let small : nat_lt 63 (length label) ≡ false = grind (arith, nat_tests, parts.1) in
    rw (some, small) refl

printed_some : (byte : ℕ) → 0 < length (printed_byte byte)
unfolding printed_byte
printed_some byte = some_cases (is_special byte) (is_printable byte)
  where
    some_cases : (s p : Bool) → 0 < length (cond s (backslash ∷ byte ∷ []) (cond p (byte ∷ []) (backslash ∷ three_digits byte)))
    some_cases true p = omega arith
    some_cases false true = omega arith
    some_cases false false = omega arith

-- the labels of a printed name that has some
labels_read_back : (label : Label) (name : Labels) → list_all is_label (label ∷ name) ≡ true → list_all is_bytes (label ∷ name) ≡ true
    → read_at [] (flat_map printed_label (label ∷ name)) ≡ Ok (label ∷ name, true)
labels_read_back label [] good bytes =
    let parts = and_parts (is_label label) true good in
    let parts_two = and_parts (is_bytes label) true bytes in
    label_read label [] parts_two.0 ∙ rw (checked_label label parts.0) refl
labels_read_back label (next ∷ name) good bytes =
    let parts = and_parts (is_label label) (list_all is_label (next ∷ name)) good in
    let parts_two = and_parts (is_bytes label) (list_all is_bytes (next ∷ name)) bytes in
    let more : read_at [] (flat_map printed_label (next ∷ name)) ≡ Ok (next ∷ name, true) =
    labels_read_back next name parts.1 parts_two.1 in
    let some : after_dot read_at (flat_map printed_label (next ∷ name)) ≡ read_at [] (flat_map printed_label (next ∷ name)) =
    dotted (flat_map printed_label (next ∷ name)) (longer next name) in
    label_read label (flat_map printed_label (next ∷ name)) parts_two.0 ∙ rw (checked_label label parts.0, some, more) refl
  where
    dotted : (text : List ℕ) → 0 < length text → after_dot read_at text ≡ read_at [] text
    dotted [] lt = absurd (omega arith)
    dotted (b ∷ text) lt = refl

    longer : (next : Label) (name : Labels) → 0 < length (flat_map printed_label (next ∷ name))
    longer next name = omega (
      arith,
      length-append (printed_label next) (flat_map printed_label name),
      length-append (flat_map printed_byte next) (dot ∷ []),
    )

pub no_dot_alone : (text : List ℕ) → 1 < length text → pointwise nat_eq text (dot ∷ []) ≡ false
no_dot_alone [] lt = absurd (omega arith)
no_dot_alone (a ∷ []) lt = absurd (omega arith)
no_dot_alone (a ∷ b ∷ text) lt = elim (nat_eq a dot) as (λ (v : Bool). (v && false) ≡ false) [ true ↦ refl | false ↦ refl ]

two_long : (label : Label) (name : Labels) → is_label label ≡ true → 1 < length (flat_map printed_label (label ∷ name))
two_long [] name good = cc
two_long (byte ∷ label) name good =
    omega (
      arith,
      printed_some byte,
      length-append (printed_label (byte ∷ label)) (flat_map printed_label name),
      length-append (flat_map printed_byte (byte ∷ label)) (dot ∷ []),
      length-append (printed_byte byte) (flat_map printed_byte label),
    )

pub whole : (text : List ℕ) (read : Read) → read_at [] text ≡ read → labels_read (0 ∷ text) [] text ≡ read
unfolding read_at
whole text read h = h

-- the printed form of a name is read as that name
pub read_printed : (name : Labels) → is_name name ≡ true → list_all is_bytes name ≡ true → read_name (printed name) ≡ Ok name
unfolding text_read
read_printed [] good bytes = refl
read_printed (label ∷ name) good bytes =
    let parts = and_parts (list_all is_label (label ∷ name)) (nat_le (length (wire (label ∷ name))) 255) good in
    let first = and_parts (is_label label) (list_all is_label name) parts.0 in
    let alone : pointwise nat_eq (flat_map printed_label (label ∷ name)) (dot ∷ []) ≡ false =
    no_dot_alone (flat_map printed_label (label ∷ name)) (two_long label name first.0) in
    let back : labels_read (0 ∷ flat_map printed_label (label ∷ name)) [] (flat_map printed_label (label ∷ name))
    ≡ Ok (label ∷ name, true) = whole _ _ (labels_read_back label name parts.0 bytes) in
    let read : text_read (flat_map printed_label (label ∷ name)) ≡ Ok (label ∷ name, true) = rw (alone, back) refl in
    ap (λ (r : Read). r >>= λ p. within p.0) read ∙ rw parts.1 refl
