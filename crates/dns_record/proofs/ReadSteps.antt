-- The steps of a reader of a name's text, and of the calls that put a name together label by label.
use Rattle.std.proofs.Common.{◌≡◌, ℕ, suc, ◌+◌, ◌≤◌, ◌<◌, ◌≢◌, Bool, true, false, ◌&&◌, ◌==◌, cond, List, [], ◌∷◌, ◌++◌, length, get_or, take, drop, None, Some, Result, Ok, Err, refl, sym, ap, ◌∙◌, arith, inl, inr}
use Rattle.std.specs.Prelude.{nat_eq, nat_le, nat_lt}
use Rattle.std.specs.Cmp.Lexicographic.{pointwise}
use Rattle.std.specs.List.{list_all}
use Rattle.std.proofs.lemmas.Bool.{and_parts}
use Rattle.std.proofs.lemmas.Bool.Decides.{nat_tests}
use Rattle.std.proofs.lemmas.List.{append_assoc, append-nil, take-append-drop, drop_more, take_more}
use Rattle.std.proofs.lemmas.List.Folds.{list_all-append}
use Rattle.dns_model.specs.Bytes.{is_bytes}
use Rattle.dns_model.specs.Names.{Label, Labels, wire, is_label, is_name}
use Rattle.dns_model.specs.NameForm.{labels_of, IsWire}
use Rattle.dns_model.specs.NameText.{dot, byte_in, Read, label_checked, labels_checked, ended, after_dot, text_read, within}
use Rattle.dns_model.specs.declared.name_error.NameError.{NameError}
use Rattle.dns_model.specs.declared.name_error.NameError.TheVariants.{EmptyLabel, LongLabel, LongName, BadEscape}
use Rattle.dns_model.proofs.WireLemmas.{IsWire-wire, labels_of-wire}
use Rattle.dns_record.specs.LabelRuns.{read_at, rest_read, FailsAs, IsRun, HasRun, IsLabels}
use Rattle.dns_record.proofs.TextLemmas.{read_at-step, checked_label}
use Rattle.dns_model.specs.ResultSteps.{◌>>=◌}

-- ---- bytes that labels in wire form make, with no closing zero byte

pub no_run : IsRun [] []
no_run = record { good = refl; spelled = λ above. refl }

checked_parts : (label kept : Label) (e l : Bool) → e ≡ (length label == 0) → l ≡ nat_lt 63 (length label)
    → cond {A = Result Label NameError} e (Err EmptyLabel) (cond l (Err LongLabel) (Ok label)) ≡ Ok kept
    → (is_label label ≡ true) × (label ≡ kept)
checked_parts label kept true l is long h = cc
checked_parts label kept false true is long h = cc
checked_parts label kept false false is long h = (grind (arith, nat_tests), cc)

-- a label that passed its checks is one
pub checked_is : (label kept : Label) → label_checked label ≡ Ok kept → (is_label label ≡ true) × (label ≡ kept)
checked_is label kept h = checked_parts label kept _ _ refl refl h

-- one label more
pub run_more : (labels : Labels) (bytes : List ℕ) (label : Label) → IsRun labels bytes → label_checked label ≡ Ok label
    → IsRun (labels ++ label ∷ []) (bytes ++ length label ∷ [] ++ label)
run_more labels bytes label run ok =
    let is = checked_is label label ok in
    record {
      good = rw (list_all-append is_label labels (label ∷ []), run.good, is.0) refl;
      spelled = λ above.
          let front : bytes ++ length label ∷ [] ++ label ++ wire above ≡ bytes ++ (length label ∷ (label ++ wire above)) =
          append_assoc (bytes ++ length label ∷ []) label (wire above) ∙ append_assoc bytes (length label ∷ []) (label ++ wire above) in
          front ∙ run.spelled (label ∷ above) ∙ ap wire (sym (append_assoc labels (label ∷ []) above));
    }

name_tail : (name : Labels) → is_name name ≡ true → list_all is_label name ≡ true
name_tail name good = let parts = and_parts (list_all is_label name) (nat_le (length (wire name)) 255) good in parts.0

pub run_good : (labels above : Labels) (bytes : List ℕ) → IsRun labels bytes → is_name above ≡ true
    → length (bytes ++ wire above) ≤ 255 → is_name (labels ++ above) ≡ true
run_good labels above bytes run good small =
    let size : length (wire (labels ++ above)) ≤ 255 = rw (← run.spelled above) small in
    let limit : nat_le (length (wire (labels ++ above))) 255 ≡ true = grind (arith, nat_tests, size) in
    rw (list_all-append is_label labels above, run.good, name_tail above good, limit) refl

-- the name of a run below a name, where it fits
pub run_form : (bytes : List ℕ) (above : Labels) → HasRun bytes → is_name above ≡ true → length (bytes ++ wire above) ≤ 255
    → IsWire (bytes ++ wire above)
run_form bytes above has good small =
    rw has.run.spelled (IsWire-wire (has.labels ++ above) (run_good has.labels above bytes has.run good small))

pub run_name : (bytes : List ℕ) (above labels : Labels) → IsRun labels bytes → is_name above ≡ true → length (bytes ++ wire above) ≤ 255
    → within (labels ++ above) ≡ Ok (labels_of (bytes ++ wire above))
run_name bytes above labels run good small =
    let size : length (wire (labels ++ above)) ≤ 255 = rw (← run.spelled above) small in
    let limit : nat_le (length (wire (labels ++ above))) 255 ≡ true = grind (arith, nat_tests, size) in
    let named : labels_of (bytes ++ wire above) ≡ labels ++ above = ap labels_of (run.spelled above)
    ∙ labels_of-wire (labels ++ above) (run_good labels above bytes run good small) in
    rw (limit, named) refl

pub run_long : (bytes : List ℕ) (above labels : Labels) → IsRun labels bytes → 255 < length (bytes ++ wire above)
    → within (labels ++ above) ≡ Err LongName
run_long bytes above labels run long =
    let size : 255 < length (wire (labels ++ above)) = rw (← run.spelled above) long in
    let limit : nat_le (length (wire (labels ++ above))) 255 ≡ false = grind (arith, nat_tests, size) in
    rw limit refl

-- ---- one label of a text

pub text_end : (label : Label) (text : List ℕ) → length text ≡ 0 → read_at label text ≡ ended label (rest_read None)
text_end label [] none = read_at-step label []
text_end label (b ∷ text) none = absurd (omega arith)

pub text_dot : (label : Label) (byte : ℕ) (text rest : List ℕ) → text ≡ byte ∷ rest → byte ≡ dot
    → read_at label text ≡ ended label (rest_read (Some rest))
text_dot label byte text rest whole is =
    let test : (byte == dot) ≡ true = grind (arith, nat_tests) in
    ap (read_at label) whole ∙ read_at-step label (byte ∷ rest) ∙ rw test refl

pub text_byte : (label : Label) (byte : ℕ) (text rest more : List ℕ) (value : ℕ) → text ≡ byte ∷ rest → byte ≢ dot
    → byte_in byte rest ≡ Some (value, more)
    → read_at label text ≡ read_at (label ++ value ∷ []) more
text_byte label byte text rest more value whole is read =
    let test : (byte == dot) ≡ false = grind (arith, nat_tests) in
    ap (read_at label) whole ∙ read_at-step label (byte ∷ rest) ∙ rw (test, read) refl

pub text_broken : (label : Label) (byte : ℕ) (text rest : List ℕ) → text ≡ byte ∷ rest → byte ≢ dot → byte_in byte rest ≡ None
    → read_at label text ≡ Err BadEscape
text_broken label byte text rest whole is read =
    let test : (byte == dot) ≡ false = grind (arith, nat_tests) in
    ap (read_at label) whole ∙ read_at-step label (byte ∷ rest) ∙ rw (test, read) refl

-- ---- the labels of a text

abbrev pub fronted : Labels → Read → Read
fronted labels read = read >>= λ r. Ok (labels ++ r.0, r.1)

-- how far a loop over labels has come: the first of them, in wire form, and what the rest of the text gives
pub record IsReading (text bytes left : List ℕ) : Type 0 where
  pub labels : Labels
  pub run : IsRun labels bytes
  pub so_far : fronted labels (read_at [] left) ≡ read_at [] text

fronted_none : (read : Read) → fronted [] read ≡ read
fronted_none (Ok r) = refl
fronted_none (Err e) = refl

pub none_read : (text : List ℕ) → IsReading text [] text
none_read text = record { labels = []; run = no_run; so_far = fronted_none (read_at [] text) }

fronted_more : (labels : Labels) (label : Label) (more : Read) → label_checked label ≡ Ok label
    → fronted labels (ended label more) ≡ fronted (labels ++ label ∷ []) more
fronted_more labels label (Ok r) ok = rw ok (ap (λ (n : Labels). Ok (n, r.1)) (sym (append_assoc labels (label ∷ []) r.0)))
fronted_more labels label (Err e) ok = rw ok refl

pub label_more : (text bytes left rest : List ℕ) (label : Label) → IsReading text bytes left
    → read_at [] left ≡ ended label (after_dot read_at rest) → 0 < length rest
    → label_checked label ≡ Ok label → IsReading text (bytes ++ length label ∷ [] ++ label) rest
label_more text bytes left [] label r is some ok = absurd (omega arith)
label_more text bytes left (b ∷ rest) label r is some ok = record {
  labels = r.labels ++ label ∷ [];
  run = run_more r.labels bytes label r.run ok;
  so_far = sym (fronted_more r.labels label (read_at [] (b ∷ rest)) ok) ∙ ap (fronted r.labels) (sym is) ∙ r.so_far;
}

pub label_last : (text bytes left : List ℕ) (label : Label) (dotted : Bool) → IsReading text bytes left
    → read_at [] left ≡ ended label (Ok ([], dotted))
    → label_checked label ≡ Ok label → IsLabels (read_at [] text) (bytes ++ length label ∷ [] ++ label) dotted
label_last text bytes left label dotted r is ok = record {
  labels = r.labels ++ label ∷ [];
  run = run_more r.labels bytes label r.run ok;
  whole =
      sym r.so_far ∙ ap (fronted r.labels) is ∙ fronted_more r.labels label (Ok ([], dotted)) ok
      ∙ ap (λ (n : Labels). Ok (n, dotted)) (append-nil (r.labels ++ label ∷ []));
}

pub label_fails : (text bytes left : List ℕ) (fault : NameError) → IsReading text bytes left → FailsAs fault (read_at [] left)
    → FailsAs fault (read_at [] text)
label_fails text bytes left fault r (inl e) = inl e
label_fails text bytes left fault r (inr e) = inr (sym r.so_far ∙ ap (fronted r.labels) e)

pub label_refused : (label : Label) (more read : Read) (fault : NameError) → read ≡ ended label more
    → FailsAs fault (label_checked label) → FailsAs fault read
label_refused label more read fault is (inl e) = inl e
label_refused label more read fault is (inr e) =
    inr (is ∙ ap (λ (l : Result Label NameError). l >>= λ first. more >>= λ r. Ok (first ∷ r.0, r.1)) e)

-- ---- bytes in memory

pub is_bytes-from_reads : (xs : List ℕ) → ((k : ℕ) → get_or xs k 0 < 256) → is_bytes xs ≡ true
is_bytes-from_reads [] h = refl
is_bytes-from_reads (x ∷ xs) h =
    let first : nat_lt x 256 ≡ true = grind (arith, nat_tests, h 0) in
    let rest : is_bytes xs ≡ true = is_bytes-from_reads xs (λ k. h (suc k)) in
    rw (first, rest) refl

-- the bytes of a name in wire form
pub is_bytes-labels : (name : Labels) → is_bytes (wire name) ≡ true → list_all is_bytes name ≡ true
is_bytes-labels [] h = refl
is_bytes-labels (label ∷ name) h =
    let tail = and_parts (nat_lt (length label) 256) (is_bytes (label ++ wire name)) h in
    let both : (is_bytes label && is_bytes (wire name)) ≡ true = sym (list_all-append (λ (b : ℕ). nat_lt b 256) label (wire name))
    ∙ tail.1 in
    let parts = and_parts (is_bytes label) (is_bytes (wire name)) both in
    rw (parts.0, is_bytes-labels name parts.1) refl

-- ---- a whole text

pub text_root : (text : List ℕ) → pointwise nat_eq text (dot ∷ []) ≡ true → text_read text ≡ Ok ([], true)
unfolding text_read
text_root text h = rw h refl

pub text_labels : (text : List ℕ) → pointwise nat_eq text (dot ∷ []) ≡ false → text_read text ≡ read_at [] text
unfolding text_read read_at
text_labels text h = rw h refl

-- ---- labels in order

labels_pass : (name : Labels) → list_all is_label name ≡ true → labels_checked name ≡ Ok name
labels_pass [] good = refl
labels_pass (label ∷ name) good =
    let parts = and_parts (is_label label) (list_all is_label name) good in
    rw (checked_label label parts.0, labels_pass name parts.1) refl

labels_fail : (front : Labels) (label : Label) (rest : Labels) (fault : NameError) → list_all is_label front ≡ true
    → label_checked label ≡ Err fault
    → labels_checked (front ++ label ∷ rest) ≡ Err fault
labels_fail [] label rest fault good h = rw h refl
labels_fail (first ∷ front) label rest fault good h =
    let parts = and_parts (is_label first) (list_all is_label front) good in
    rw (checked_label first parts.0, labels_fail front label rest fault parts.1 h) refl

-- the labels so far were fine, and the next isn't
pub label_at_fails : (labels : Labels) (i : ℕ) (bytes : List ℕ) (label : Label) (fault : NameError) → IsRun (take i labels) bytes
    → i < length labels
    → label ≡ get_or labels i label → FailsAs fault (label_checked label) → FailsAs fault (labels_checked labels >>= within)
label_at_fails labels i bytes label fault run lt is (inl e) = inl e
label_at_fails labels i bytes label fault run lt is (inr e) =
    let cut : labels ≡ take i labels ++ label ∷ drop (i + 1) labels = sym (take-append-drop i labels)
    ∙ ap (λ (l : Labels). take i labels ++ l) (drop_more labels i label lt ∙ ap (λ (l : Label). l ∷ drop (i + 1) labels) (sym is)) in
    let read : labels_checked labels ≡ Err fault = ap labels_checked cut
    ∙ labels_fail (take i labels) label (drop (i + 1) labels) fault run.good e in
    inr (ap (λ (r : Result Labels NameError). r >>= within) read)

pub label_at_more : (labels : Labels) (i : ℕ) (bytes : List ℕ) (label : Label) → IsRun (take i labels) bytes → i < length labels
    → label ≡ get_or labels i label → label_checked label ≡ Ok label → IsRun (take (i + 1) labels) (bytes ++ length label ∷ [] ++ label)
label_at_more labels i bytes label run lt is ok =
    let more : take (i + 1) labels ≡ take i labels ++ label ∷ [] = take_more labels i label lt
    ∙ ap (λ (l : Label). take i labels ++ l ∷ []) (sym is) in
    rw more (run_more (take i labels) bytes label run ok)

pub name_from_run : (labels : Labels) (bytes : List ℕ) → IsRun labels bytes → (labels_checked labels >>= within) ≡ within (labels ++ [])
name_from_run labels bytes run = rw (labels_pass labels run.good, append-nil labels) refl
