-- Reading a name step by step: each step leaves the rest of the name, and what was read is in wire form.
use Rattle.std.proofs.Common.{◌≡◌, ℕ, zero, suc, ◌+◌, ◌-◌, ◌≤◌, ◌<◌, true, List, [], ◌∷◌, ◌++◌, length, get_or, take, drop, Option, None, Some, Result, Ok, Err, refl, sym, ap, ◌∙◌, subst, arith, length-append, length-drop, append_assoc, add-one, drop-cons}
use Rattle.std.specs.Prelude.{IfSome, nat_le, nat_lt, slice_range}
use Rattle.std.specs.List.{list_all}
use Rattle.std.proofs.lemmas.Bool.Decides.{nat_tests}
use Rattle.std.proofs.lemmas.Bool.{and_from}
use Rattle.std.proofs.lemmas.List.Folds.{list_all-append}
use Rattle.std.proofs.lemmas.List.{append-nil, length-take-le, drop-drop}
use Rattle.dns_model.specs.Names.{Label, Labels, wire, is_label}
use Rattle.dns_model.specs.NameForm.{labels_of, IsWire}
use Rattle.dns_model.proofs.WireLemmas.{IsWire-wire, labels_of-wire}
use Rattle.dns_message.specs.declared.decode_error.DecodeError.{DecodeError}
use Rattle.dns_message.specs.declared.step.Step.{Step}
use Rattle.dns_message.specs.declared.step.Step.TheVariants as step
use Rattle.dns_message.specs.declared.decode_error.DecodeKind.{DecodeKind}
use Rattle.dns_model.specs.ResultSteps.{◌>>=◌}
use Rattle.dns_message.specs.Reading.{FailsWith}
use Rattle.dns_message.proofs.Faults.{fails_on}
use Rattle.dns_message.specs.NameAt.{step_of, after_step, labels_from, labels_at, name_at, spelled_at}
use Rattle.dns_message.specs.Readable.{ending_at, steps_left}
use Rattle.dns_message.specs.Fitting.{IsSpelled, IsAppended, ending_or}
use Rattle.std.specs.Result.{result_ok}

-- a label before a name
abbrev pub with_label : Label → Result (Labels × ℕ) DecodeError → Result (Labels × ℕ) DecodeError
with_label label name = name >>= λ n. Ok (label ∷ n.0, n.1)

-- what a label step says
pub record IsLabelStep (bytes : List ℕ) (pos size n : ℕ) : Type 0 where
  pub byte : get_or bytes pos 0 ≡ n
  pub some : 0 < n
  pub small : n ≤ 63
  pub inside : pos + 1 + n ≤ length bytes
  pub room : size + 1 + n ≤ 254

pub label_step : (bytes : List ℕ) (start pos size n : ℕ) → step_of bytes start pos size ≡ Ok (step.Label n) → IsLabelStep bytes pos size n
unfolding step_of
label_step bytes start pos size n h = record {
  byte = grind (arith, nat_tests);
  some = grind (arith, nat_tests);
  small = grind (arith, nat_tests);
  inside = grind (arith, nat_tests);
  room = grind (arith, nat_tests);
}

-- what a pointer says
pub record IsPointerStep (bytes : List ℕ) (start pos target : ℕ) : Type 0 where
  pub before : target < start
  pub inside : pos + 2 ≤ length bytes

pub pointer_step : (bytes : List ℕ) (start pos size target : ℕ) → step_of bytes start pos size ≡ Ok (step.Pointer target)
    → IsPointerStep bytes start pos target
unfolding step_of
pointer_step bytes start pos size target h = record { before = grind (arith, nat_tests); inside = grind (arith, nat_tests) }

-- a place within the bytes where a name's bytes end
pub ending_fits : (ending : Option ℕ) (place end : ℕ) → IfSome ending (λ e. e ≤ end) → place ≤ end → ending_or ending place ≤ end
ending_fits None place end h k = k
ending_fits (Some first) place end h k = h

-- steps enough give one result
after_alike : (r : Result Step DecodeError) (bytes : List ℕ) (start pos size n m : ℕ) → step_of bytes start pos size ≡ r
    → steps_left start size < suc n → steps_left start size < suc m
    → ((s p z : ℕ) → steps_left s z < n → steps_left s z < m → labels_from n bytes s p z ≡ labels_from m bytes s p z)
    → after_step r bytes start pos size (labels_from n bytes) ≡ after_step r bytes start pos size (labels_from m bytes)
after_alike (Err e) bytes start pos size n m is a b more = refl
after_alike (Ok step.Root) bytes start pos size n m is a b more = refl
after_alike (Ok (step.Label k)) bytes start pos size n m is a b more =
    let s = label_step bytes start pos size k is in
    ap (with_label (slice_range bytes (pos + 1) (pos + 1 + k)))
    (more start (pos + 1 + k) (size + 1 + k) (omega (arith, s.room, s.some)) (omega (arith, s.room, s.some)))
after_alike (Ok (step.Pointer target)) bytes start pos size n m is a b more =
    let before = (pointer_step bytes start pos size target is).before in
    ap (ending_at (pos + 2)) (more target target size (omega (arith, before)) (omega (arith, before)))

pub enough : (n m : ℕ) (bytes : List ℕ) (start pos size : ℕ) → steps_left start size < n → steps_left start size < m
    → labels_from n bytes start pos size ≡ labels_from m bytes start pos size
unfolding labels_from
enough zero m bytes start pos size a b = absurd (omega arith)
enough (suc n) zero bytes start pos size a b = absurd (omega arith)
enough (suc n) (suc m) bytes start pos size a b =
    after_alike (step_of bytes start pos size) bytes start pos size n m refl a b (λ s p z c d. enough n m bytes s p z c d)

-- a step, and then the rest of the labels
pub one_step : (r : Result Step DecodeError) (bytes : List ℕ) (start pos size : ℕ) → step_of bytes start pos size ≡ r
    → labels_at bytes start pos size ≡ after_step r bytes start pos size (labels_at bytes)
unfolding labels_at labels_from
one_step (Err e) bytes start pos size is = rw is refl
one_step (Ok step.Root) bytes start pos size is = rw is refl
one_step (Ok (step.Label k)) bytes start pos size is =
    let s = label_step bytes start pos size k is in
    rw is (ap (with_label (slice_range bytes (pos + 1) (pos + 1 + k)))
    (enough (steps_left start size) (suc (steps_left start (size + 1 + k))) bytes start (pos + 1 + k) (size + 1 + k)
    (omega (arith, s.room, s.some)) (omega arith)))
one_step (Ok (step.Pointer target)) bytes start pos size is =
    let before = (pointer_step bytes start pos size target is).before in
    rw is (ap (ending_at (pos + 2)) (enough (steps_left start size) (suc (steps_left target size)) bytes target target size
    (omega (arith, before)) (omega arith)))

-- ---- what a reader has read so far

-- labels in wire form, without the closing zero byte
abbrev pub row_wire : Labels → List ℕ
row_wire [] = []
row_wire (label ∷ name) = length label ∷ (label ++ row_wire name)

abbrev pub with_labels : Labels → Result (Labels × ℕ) DecodeError → Result (Labels × ℕ) DecodeError
with_labels labels (Ok (name, next)) = Ok (labels ++ name, next)
with_labels labels (Err e) = Err e

-- the name's bytes end after its first pointer, if there was one
abbrev pub finish : Option ℕ → Result (Labels × ℕ) DecodeError → Result (Labels × ℕ) DecodeError
finish None read = read
finish (Some place) read = ending_at place read

-- labels were read, and the rest of the name stands at `pos`
pub record Walked (bytes : List ℕ) (at start pos : ℕ) (ending : Option ℕ) (read : List ℕ) : Type 0 where
  pub labels : Labels
  pub spelled : read ≡ row_wire labels
  pub good : list_all is_label labels ≡ true
  pub so_far : finish ending (with_labels labels (labels_at bytes start pos (length read))) ≡ name_at bytes at

no_labels : (r : Result (Labels × ℕ) DecodeError) → with_labels [] r ≡ r
no_labels (Ok x) = refl
no_labels (Err e) = refl

pub walked_none : (bytes : List ℕ) (at : ℕ) → Walked bytes at at at None []
unfolding name_at
walked_none bytes at = record { labels = []; spelled = refl; good = refl; so_far = no_labels (labels_at bytes at at 0) }

one_more : (labels : Labels) (label : Label) (r : Result (Labels × ℕ) DecodeError)
    → with_labels labels (with_label label r) ≡ with_labels (labels ++ label ∷ []) r
one_more labels label (Ok x) = ap (λ (n : Labels). Ok (n, x.1)) (simp append_assoc)
one_more labels label (Err e) = refl

pub row_wire-append : (a b : Labels) → row_wire (a ++ b) ≡ row_wire a ++ row_wire b
row_wire-append [] b = refl
row_wire-append (label ∷ a) b =
    ap (λ (w : List ℕ). length label ∷ (label ++ w)) (row_wire-append a b)
    ∙ ap (λ (w : List ℕ). length label ∷ w) (sym (append_assoc label (row_wire a) (row_wire b)))

pub wire-row : (labels : Labels) → wire labels ≡ row_wire labels ++ 0 ∷ []
wire-row [] = refl
wire-row (label ∷ labels) = ap (λ (w : List ℕ). length label ∷ (label ++ w)) (wire-row labels)
    ∙ ap (λ (w : List ℕ). length label ∷ w) (sym (append_assoc label (row_wire labels) (0 ∷ [])))

-- a length byte with its label
pub record IsLabelAt (bytes : List ℕ) (pos n : ℕ) : Type 0 where
  pub parts : slice_range bytes pos (pos + 1 + n) ≡ n ∷ slice_range bytes (pos + 1) (pos + 1 + n)
  pub long : length (slice_range bytes (pos + 1) (pos + 1 + n)) ≡ n

pub label_at : (bytes : List ℕ) (pos n : ℕ) → get_or bytes pos 0 ≡ n → pos + 1 + n ≤ length bytes → IsLabelAt bytes pos n
label_at bytes pos n byte inside =
    let k1 : pos + 1 + n - pos ≡ suc n = omega arith in
    let k2 : pos + 1 + n - (pos + 1) ≡ n = omega arith in
    let lt : pos < length bytes = omega arith in
    let d : drop pos bytes ≡ n ∷ drop (pos + 1) bytes = drop-cons bytes pos 0 lt ∙ ap (λ (x : ℕ). x ∷ drop (suc pos) bytes) byte
    ∙ ap (λ (k : ℕ). n ∷ drop k bytes) (sym (add-one pos)) in
    record {
      parts = rw (k1, k2, d) refl;
      long = rw k2 (length-take-le n (drop (pos + 1) bytes) (omega (arith, length-drop (pos + 1) bytes)));
    }

pub walked_label : (bytes : List ℕ) (at start pos : ℕ) (ending : Option ℕ) (read : List ℕ) (n : ℕ) → Walked bytes at start pos ending read
    → step_of bytes start pos (length read) ≡ Ok (step.Label n)
    → Walked bytes at start (pos + 1 + n) ending (read ++ slice_range bytes pos (pos + 1 + n))
walked_label bytes at start pos ending read n w is =
    let s = label_step bytes start pos (length read) n is in
    let l = label_at bytes pos n s.byte s.inside in
    let label : Label = slice_range bytes (pos + 1) (pos + 1 + n) in
    let long : length label ≡ n = l.long in
    let some : nat_lt 0 (length label) ≡ true = grind (arith, nat_tests, long, s.some) in
    let small : nat_le (length label) 63 ≡ true = grind (arith, nat_tests, long, s.small) in
    let is_one : is_label label ≡ true = and_from (nat_lt 0 (length label)) (nat_le (length label) 63) some small in
    let grown : length (read ++ slice_range bytes pos (pos + 1 + n)) ≡ length read + 1 + n =
    length-append read (slice_range bytes pos (pos + 1 + n)) ∙ ap (λ (x : List ℕ). length read + length x) l.parts
    ∙ omega (arith, l.long) in
    let row : read ++ slice_range bytes pos (pos + 1 + n) ≡ row_wire (w.labels ++ label ∷ []) =
    ap (λ (x : List ℕ). x ++ slice_range bytes pos (pos + 1 + n)) w.spelled
    ∙ ap (λ (x : List ℕ). row_wire w.labels ++ x) (l.parts ∙ ap (λ (x : List ℕ). n ∷ x) (sym (append-nil label))
    ∙ ap (λ (k : ℕ). k ∷ (label ++ [])) (sym long))
    ∙ sym (row_wire-append w.labels (label ∷ [])) in
    let all : list_all is_label (w.labels ++ label ∷ []) ≡ true = list_all-append is_label w.labels (label ∷ [])
    ∙ rw (w.good, is_one) refl in
    let rest : labels_at bytes start pos (length read) ≡ with_label label (labels_at bytes start (pos + 1 + n) (length read + 1 + n)) =
    one_step (Ok (step.Label n)) bytes start pos (length read) is in
    record {
      labels = w.labels ++ label ∷ [];
      spelled = row;
      good = all;
      so_far = ap (λ (z : ℕ). finish ending (with_labels (w.labels ++ label ∷ []) (labels_at bytes start (pos + 1 + n) z))) grown
          ∙ ap (finish ending) (sym (one_more w.labels label (labels_at bytes start (pos + 1 + n) (length read + 1 + n))))
          ∙ ap (λ (r : Result (Labels × ℕ) DecodeError). finish ending (with_labels w.labels r)) (sym rest)
          ∙ w.so_far;
    }

jumped : (ending : Option ℕ) (labels : Labels) (place : ℕ) (r : Result (Labels × ℕ) DecodeError)
    → finish (Some (ending_or ending place)) (with_labels labels r) ≡ finish ending (with_labels labels (ending_at place r))
jumped None labels place (Ok x) = refl
jumped None labels place (Err e) = refl
jumped (Some first) labels place (Ok x) = refl
jumped (Some first) labels place (Err e) = refl

pub walked_pointer : (bytes : List ℕ) (at start pos : ℕ) (ending : Option ℕ) (read : List ℕ) (target : ℕ)
    → Walked bytes at start pos ending read
    → step_of bytes start pos (length read) ≡ Ok (step.Pointer target)
    → Walked bytes at target target (Some (ending_or ending (pos + 2))) read
walked_pointer bytes at start pos ending read target w is =
    let rest : labels_at bytes start pos (length read) ≡ ending_at (pos + 2) (labels_at bytes target target (length read)) =
    one_step (Ok (step.Pointer target)) bytes start pos (length read) is in
    record {
      labels = w.labels;
      spelled = w.spelled;
      good = w.good;
      so_far = jumped ending w.labels (pos + 2) (labels_at bytes target target (length read))
          ∙ ap (λ (r : Result (Labels × ℕ) DecodeError). finish ending (with_labels w.labels r)) (sym rest)
          ∙ w.so_far;
    }

ended : (ending : Option ℕ) (labels : Labels) (place : ℕ)
    → finish ending (with_labels labels (Ok ([], place))) ≡ Ok (labels, ending_or ending place)
ended None labels place = ap (λ (n : Labels). Ok (n, place)) (append-nil labels)
ended (Some first) labels place = ap (λ (n : Labels). Ok (n, first)) (append-nil labels)

pub walked_root : (bytes : List ℕ) (at start pos : ℕ) (ending : Option ℕ) (read : List ℕ) → Walked bytes at start pos ending read
    → length read ≤ 254 → step_of bytes start pos (length read) ≡ Ok step.Root
    → IsSpelled (name_at bytes at) [] (read ++ 0 ∷ []) (ending_or ending (pos + 1))
walked_root bytes at start pos ending read w room is =
    let rest : labels_at bytes start pos (length read) ≡ Ok ([], pos + 1) = one_step (Ok step.Root) bytes start pos (length read) is in
    let written : read ++ 0 ∷ [] ≡ wire w.labels = ap (λ (x : List ℕ). x ++ 0 ∷ []) w.spelled ∙ sym (wire-row w.labels) in
    let long : length (wire w.labels) ≤ 255 = omega (arith, ap length written, length-append read (0 ∷ [])) in
    let short : nat_le (length (wire w.labels)) 255 ≡ true = grind (arith, nat_tests) in
    record {
      labels = w.labels;
      told = sym w.so_far ∙ ap (λ (r : Result (Labels × ℕ) DecodeError). finish ending (with_labels w.labels r)) rest
          ∙ ended ending w.labels (pos + 1);
      grown = written;
      good = and_from (list_all is_label w.labels) (nat_le (length (wire w.labels)) 255) w.good short;
    }

failed : (ending : Option ℕ) (labels : Labels) (e : DecodeError) → finish ending (with_labels labels (Err e)) ≡ Err e
failed None labels e = refl
failed (Some first) labels e = refl

pub walked_fault : (bytes : List ℕ) (at start pos : ℕ) (ending : Option ℕ) (read : List ℕ) (e : DecodeError)
    → Walked bytes at start pos ending read
    → step_of bytes start pos (length read) ≡ Err e → name_at bytes at ≡ Err e
walked_fault bytes at start pos ending read e w is =
    let rest : labels_at bytes start pos (length read) ≡ Err e = one_step (Err e) bytes start pos (length read) is in
    sym w.so_far ∙ ap (λ (r : Result (Labels × ℕ) DecodeError). finish ending (with_labels w.labels r)) rest ∙ failed ending w.labels e

-- ---- labels are copied row by row

-- labels were read, of which those of the row that began at `start` are still to be copied behind `new`
pub record Row (bytes : List ℕ) (at start pos : ℕ) (ending : Option ℕ) (old new : List ℕ) (size : ℕ) : Type 0 where
  pub read : List ℕ
  pub walk : Walked bytes at start pos ending read
  pub grown : new ++ slice_range bytes start pos ≡ old ++ read
  pub long : length read ≡ size

take_nil : (n : ℕ) → take {A = ℕ} n [] ≡ []
take_nil zero = refl
take_nil (suc n) = refl

take_two : (m n : ℕ) (xs : List ℕ) → take (m + n) xs ≡ take m xs ++ take n (drop m xs)
take_two zero n xs = let e : zero + n ≡ n = omega arith in rw e refl
take_two (suc m) n [] = take_nil (suc m + n) ∙ sym (take_nil n)
take_two (suc m) n (x ∷ xs) = let e : suc m + n ≡ suc (m + n) = omega arith in rw e (ap (λ (t : List ℕ). x ∷ t) (take_two m n xs))

-- two ranges that meet
pub two_ranges : (bytes : List ℕ) (start pos next : ℕ) → start ≤ pos → pos ≤ next
    → slice_range bytes start next ≡ slice_range bytes start pos ++ slice_range bytes pos next
two_ranges bytes start pos next a b =
    let whole : next - start ≡ (pos - start) + (next - pos) = omega arith in
    let there : start + (pos - start) ≡ pos = omega arith in
    let rest : drop (pos - start) (drop start bytes) ≡ drop pos bytes = drop-drop (pos - start) start bytes
    ∙ ap (λ (k : ℕ). drop k bytes) there in
    ap (λ (k : ℕ). take k (drop start bytes)) whole
    ∙ take_two (pos - start) (next - pos) (drop start bytes)
    ∙ ap (λ (xs : List ℕ). take (pos - start) (drop start bytes) ++ take (next - pos) xs) rest

no_range : (bytes : List ℕ) (pos : ℕ) → slice_range bytes pos pos ≡ []
no_range bytes pos = let none : pos - pos ≡ zero = omega arith in rw none refl

-- a row with no label adds nothing
pub no_row : (bytes into : List ℕ) (start end : ℕ) → start ≡ end → into ≡ into ++ slice_range bytes start end
no_row bytes into start end same = sym (ap (λ (k : ℕ). into ++ slice_range bytes start k) (sym same)
    ∙ ap (λ (x : List ℕ). into ++ x) (no_range bytes start) ∙ append-nil into)

pub row_none : (bytes : List ℕ) (at : ℕ) (old : List ℕ) → Row bytes at at at None old old 0
row_none bytes at old = record {
  read = [];
  walk = walked_none bytes at;
  grown = ap (λ (x : List ℕ). old ++ x) (no_range bytes at);
  long = refl;
}

pub row_label : (bytes : List ℕ) (at start pos : ℕ) (ending : Option ℕ) (old new : List ℕ) (size n : ℕ)
    → Row bytes at start pos ending old new size → start ≤ pos
    → step_of bytes start pos size ≡ Ok (step.Label n) → Row bytes at start (pos + 1 + n) ending old new (size + 1 + n)
row_label bytes at start pos ending old new size n r begun is =
    let s = label_step bytes start pos size n is in
    let part : List ℕ = slice_range bytes pos (pos + 1 + n) in
    let l = label_at bytes pos n s.byte s.inside in
    record {
      read = r.read ++ part;
      walk = walked_label bytes at start pos ending r.read n r.walk (ap (step_of bytes start pos) r.long ∙ is);
      grown = ap (λ (x : List ℕ). new ++ x) (two_ranges bytes start pos (pos + 1 + n) begun (omega arith))
          ∙ sym (append_assoc new (slice_range bytes start pos) part)
          ∙ ap (λ (x : List ℕ). x ++ part) r.grown
          ∙ append_assoc old r.read part;
      long = length-append r.read part ∙ ap (λ (x : List ℕ). length r.read + length x) l.parts ∙ omega (arith, l.long, r.long);
    }

pub row_pointer : (bytes : List ℕ) (at start pos : ℕ) (ending : Option ℕ) (old new : List ℕ) (size target : ℕ) (copied : List ℕ)
    → Row bytes at start pos ending old new size
    → step_of bytes start pos size ≡ Ok (step.Pointer target) → copied ≡ new ++ slice_range bytes start pos
    → Row bytes at target target (Some (ending_or ending (pos + 2))) old copied size
row_pointer bytes at start pos ending old new size target copied r is row = record {
  read = r.read;
  walk = walked_pointer bytes at start pos ending r.read target r.walk (ap (step_of bytes start pos) r.long ∙ is);
  grown = ap (λ (x : List ℕ). copied ++ x) (no_range bytes target) ∙ append-nil copied ∙ row ∙ r.grown;
  long = r.long;
}

-- what the root's zero byte says
record IsRootStep (bytes : List ℕ) (pos : ℕ) : Type 0 where
  byte : get_or bytes pos 0 ≡ 0
  inside : pos < length bytes

root_step : (bytes : List ℕ) (start pos size : ℕ) → step_of bytes start pos size ≡ Ok step.Root → IsRootStep bytes pos
unfolding step_of
root_step bytes start pos size h = record { byte = grind (arith, nat_tests); inside = grind (arith, nat_tests) }

pub row_root : (bytes : List ℕ) (at start pos : ℕ) (ending : Option ℕ) (old new : List ℕ) (size : ℕ) (copied : List ℕ)
    → Row bytes at start pos ending old new size → start ≤ pos
    → size ≤ 254 → step_of bytes start pos size ≡ Ok step.Root → copied ≡ new ++ slice_range bytes start (pos + 1)
    → IsSpelled (name_at bytes at) old copied (ending_or ending (pos + 1))
row_root bytes at start pos ending old new size copied r begun room is row =
    let whole = walked_root bytes at start pos ending r.read r.walk (omega (arith, r.long)) (ap (step_of bytes start pos) r.long ∙ is) in
    let s = root_step bytes start pos size is in
    let one : pos + 1 - pos ≡ suc zero = omega arith in
    let d : drop pos bytes ≡ get_or bytes pos 0 ∷ drop (suc pos) bytes = drop-cons bytes pos 0 s.inside in
    let last : slice_range bytes pos (pos + 1) ≡ 0 ∷ [] = rw (one, d) (ap (λ (b : ℕ). b ∷ []) s.byte) in
    record {
      labels = whole.labels;
      told = whole.told;
      grown = row
          ∙ ap (λ (x : List ℕ). new ++ x) (two_ranges bytes start pos (pos + 1) begun (omega arith))
          ∙ sym (append_assoc new (slice_range bytes start pos) (slice_range bytes pos (pos + 1)))
          ∙ ap (λ (x : List ℕ). x ++ slice_range bytes pos (pos + 1)) r.grown
          ∙ ap (λ (x : List ℕ). (old ++ r.read) ++ x) last
          ∙ append_assoc old r.read (0 ∷ [])
          ∙ ap (λ (x : List ℕ). old ++ x) whole.grown;
      good = whole.good;
    }

-- what a spelled name is read as
pub spelled_is : (bytes : List ℕ) (at : ℕ) (old new : List ℕ) (next : ℕ) → IsSpelled (name_at bytes at) old new next
    → IsAppended (result_ok (spelled_at bytes at)) old new next
unfolding spelled_at
spelled_is bytes at old new next s = record { front = wire s.labels; told = rw s.told refl; grown = s.grown }

pub not_spelled : (bytes : List ℕ) (at : ℕ) (e : DecodeError) → name_at bytes at ≡ Err e → spelled_at bytes at ≡ Err e
unfolding spelled_at
not_spelled bytes at e h = rw h refl

not_named_at : (r : Result (Labels × ℕ) DecodeError) (e : DecodeError)
    → (◌>>=◌ {B = List ℕ × ℕ} r (λ name. Ok (wire name.0, name.1))) ≡ Err e → r ≡ Err e
not_named_at (Ok x) e h = cc
not_named_at (Err d) e h = cc

pub not_named : (bytes : List ℕ) (at : ℕ) (e : DecodeError) → spelled_at bytes at ≡ Err e → name_at bytes at ≡ Err e
unfolding spelled_at
not_named bytes at e h = not_named_at (name_at bytes at) e h

-- a fault of a step is the fault of the name
pub row_fails : (kind : DecodeKind) (place : ℕ) (bytes : List ℕ) (at start pos : ℕ) (ending : Option ℕ) (old new : List ℕ) (size : ℕ)
    → Row bytes at start pos ending old new size
    → FailsWith kind place (step_of bytes start pos size) → FailsWith kind place (spelled_at bytes at)
row_fails kind place bytes at start pos ending old new size r =
    let told : (e : DecodeError) → step_of bytes start pos size ≡ Err e → spelled_at bytes at ≡ Err e =
    λ e h. not_spelled bytes at e (walked_fault bytes at start pos ending r.read e r.walk (ap (step_of bytes start pos) r.long ∙ h)) in
    fails_on kind place (step_of bytes start pos size) (spelled_at bytes at) told

-- where nothing stood before, the bytes are the name's wire form
pub spelled_alone : (read : Result (Labels × ℕ) DecodeError) (old new : List ℕ) (next : ℕ) → old ≡ []
    → IsSpelled read old new next → IsSpelled read [] new next
spelled_alone read old new next none s = subst (λ (o : List ℕ). IsSpelled read o new next) none s

pub wire_form : (read : Result (Labels × ℕ) DecodeError) (written : List ℕ) (next : ℕ) → IsSpelled read [] written next → IsWire written
wire_form read written next s = rw s.grown (IsWire-wire s.labels s.good)

pub named : (read : Result (Labels × ℕ) DecodeError) (written : List ℕ) (next : ℕ) → IsSpelled read [] written next
    → read ≡ Ok (labels_of written, next)
named read written next s = s.told ∙ ap (λ (n : Labels). Ok (n, next)) (sym (ap labels_of s.grown ∙ labels_of-wire s.labels s.good))

pub name_fails : (kind : DecodeKind) (place : ℕ) (bytes : List ℕ) (at : ℕ) → FailsWith kind place (spelled_at bytes at)
    → FailsWith kind place (name_at bytes at)
name_fails kind place bytes at h = fails_on kind place (spelled_at bytes at) (name_at bytes at) (λ e k. not_named bytes at e k) h
