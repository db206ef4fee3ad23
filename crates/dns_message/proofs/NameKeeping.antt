-- Names that were spelled already: what is read at a place is read there behind other bytes too, where it has room.
use Rattle.std.proofs.Common.{◌≡◌, ℕ, zero, suc, ◌+◌, ◌-◌, ◌≤◌, ◌<◌, true, List, [], ◌∷◌, ◌++◌, length, take, drop, Option, None, Some, Result, Ok, Err, refl, sym, ap, ◌∙◌, subst, arith, length-append, length-drop, append_assoc, get_or, replicate, inl, inr}
use Rattle.std.specs.Prelude.{nat_le, slice_index, slice_index_or, slice_range, slice_set}
use Rattle.std.specs.List.{All, list_all}
use Rattle.std.proofs.lemmas.Bool.Decides.{nat_tests}
use Rattle.std.proofs.lemmas.Bool.{and_from, and_parts, cases_eq, leb-true}
use Rattle.std.proofs.lemmas.List.Elements.{All-push}
use Rattle.std.proofs.lemmas.List.Folds.{list_all-append}
use Rattle.std.proofs.Math.Seq.{drop-append_seam, take-length}
use Rattle.std.proofs.lemmas.Grind.{get_or-set_at}
use Rattle.std.proofs.lemmas.List.{drop-append-le, take-append-le, drop-drop, drop-take, get_or-replicate, get_or-set_other, length-set, length-replicate}
use Rattle.dns_model.specs.Names.{Label, Labels, wire, is_label}
use Rattle.dns_message.specs.declared.decode_error.DecodeError.{DecodeError}
use Rattle.dns_message.specs.declared.known_names.Passed.{Passed}
use Rattle.dns_message.specs.declared.step.Step.{Step}
use Rattle.dns_message.specs.declared.step.Step.TheVariants as step
use Rattle.dns_message.specs.NameAt.{step_of, after_step, labels_from, labels_at, name_at}
use Rattle.dns_message.specs.Readable.{ending_at, steps_left}
use Rattle.dns_message.specs.KnownNames.{AreKept, HasPassed, IsPartKept, IsKnown, IsPassed, part_of}
use Rattle.dns_message.specs.Fitting.{IsSpelled, ending_or}
use Rattle.dns_message.proofs.NameReading.{Row, row_wire, with_label, with_labels, finish, label_step, label_at, enough, one_step, row_wire-append, wire-row}

-- ---- behind other bytes

root_again : (bytes : List ℕ) (start pos size other : ℕ) → step_of bytes start pos size ≡ Ok step.Root
    → step_of bytes start pos other ≡ Ok step.Root
unfolding step_of
root_again bytes start pos size other h = grind (arith, nat_tests)

pointer_again : (bytes : List ℕ) (start pos size other target : ℕ)
    → step_of bytes start pos size ≡ Ok (step.Pointer target) → step_of bytes start pos other ≡ Ok (step.Pointer target)
unfolding step_of
pointer_again bytes start pos size other target h = grind (arith, nat_tests)

label_again : (bytes : List ℕ) (start pos size other n : ℕ) → step_of bytes start pos size ≡ Ok (step.Label n)
    → other + 1 + n + 1 ≤ 255 → step_of bytes start pos other ≡ Ok (step.Label n)
unfolding step_of
label_again bytes start pos size other n h room = grind (arith, nat_tests)

-- the two parts of a name that was read
abbrev labels_read : Result (Labels × ℕ) DecodeError → Labels
labels_read (Ok name) = name.0
labels_read (Err e) = []

abbrev place_read : Result (Labels × ℕ) DecodeError → ℕ
place_read (Ok name) = name.1
place_read (Err e) = 0

-- the name behind a label
record IsBehind (label : Label) (read : Result (Labels × ℕ) DecodeError) (labels : Labels) (next : ℕ) : Type 0 where
  rest : Labels
  told : read ≡ Ok (rest, next)
  whole : labels ≡ label ∷ rest

behind_label : (label : Label) (read : Result (Labels × ℕ) DecodeError) (labels : Labels) (next : ℕ)
    → with_label label read ≡ Ok (labels, next) → IsBehind label read labels next
behind_label label (Ok (rest, n)) labels next h = record {
  rest = rest;
  told = ap (λ (k : ℕ). Ok (rest, k)) (ap place_read h);
  whole = sym (ap labels_read h);
}
behind_label label (Err e) labels next h = absurd cc

-- a name, whose bytes end elsewhere
record IsElsewhere (read : Result (Labels × ℕ) DecodeError) (labels : Labels) (next place : ℕ) : Type 0 where
  other : ℕ
  told : read ≡ Ok (labels, other)
  there : next ≡ place

elsewhere : (read : Result (Labels × ℕ) DecodeError) (labels : Labels) (next place : ℕ)
    → ending_at place read ≡ Ok (labels, next) → IsElsewhere read labels next place
elsewhere (Ok (rest, n)) labels next place h = record {
  other = n;
  told = ap (λ (l : Labels). Ok (l, n)) (ap labels_read h);
  there = sym (ap place_read h);
}
elsewhere (Err e) labels next place h = absurd cc

some_wire : (labels : Labels) → 0 < length (wire labels)
some_wire [] = omega arith
some_wire (label ∷ labels) = omega arith

-- what reading says of a place, whatever stood before
abbrev ReadsAgain : ℕ → List ℕ → Type 0
ReadsAgain bound bytes = (start pos size other : ℕ) (labels : Labels) (next : ℕ)
    → labels_from bound bytes start pos size ≡ Ok (labels, next)
    → other + length (wire labels) ≤ 255 → labels_from bound bytes start pos other ≡ Ok (labels, next)

step_again : (r : Result Step DecodeError) (bound : ℕ) (bytes : List ℕ) (start pos size other : ℕ) (labels : Labels) (next : ℕ)
    → step_of bytes start pos size ≡ r
    → ReadsAgain bound bytes → after_step r bytes start pos size (labels_from bound bytes) ≡ Ok (labels, next)
    → other + length (wire labels) ≤ 255
    → after_step (step_of bytes start pos other) bytes start pos other (labels_from bound bytes) ≡ Ok (labels, next)
step_again (Err e) bound bytes start pos size other labels next is more h room = absurd cc
step_again (Ok step.Root) bound bytes start pos size other labels next is more h room = rw (root_again bytes start pos size other is) h
step_again (Ok (step.Label n)) bound bytes start pos size other labels next is more h room =
    let s = label_step bytes start pos size n is in
    let label : Label = slice_range bytes (pos + 1) (pos + 1 + n) in
    let b = behind_label label (labels_from bound bytes start (pos + 1 + n) (size + 1 + n)) labels next h in
    let long : length label ≡ n = (label_at bytes pos n s.byte s.inside).long in
    let size_of : length (wire labels) ≡ suc (length label + length (wire b.rest)) =
    ap (λ (l : Labels). length (wire l)) b.whole ∙ ap suc (length-append label (wire b.rest)) in
    let some = some_wire b.rest in
    let again : labels_from bound bytes start (pos + 1 + n) (other + 1 + n) ≡ Ok (b.rest, next) =
    more start (pos + 1 + n) (size + 1 + n) (other + 1 + n) b.rest next b.told (omega (arith, room, size_of, long)) in
    rw (label_again bytes start pos size other n is (omega (arith, room, size_of, long, some))) (ap (with_label label) again
    ∙ ap (λ (l : Labels). Ok (l, next)) (sym b.whole))
step_again (Ok (step.Pointer target)) bound bytes start pos size other labels next is more h room =
    let e = elsewhere (labels_from bound bytes target target size) labels next (pos + 2) h in
    let again : labels_from bound bytes target target other ≡ Ok (labels, e.other) =
    more target target size other labels e.other e.told room in
    rw (pointer_again bytes start pos size other target is) (ap (ending_at (pos + 2)) again ∙ ap (λ (k : ℕ). Ok (labels, k)) (sym e.there))

reads_again : (bound : ℕ) (bytes : List ℕ) → ReadsAgain bound bytes
unfolding labels_from
reads_again zero bytes start pos size other labels next h room = absurd cc
reads_again (suc bound) bytes start pos size other labels next h room =
    step_again (step_of bytes start pos size) bound bytes start pos size other labels next refl (reads_again bound bytes) h room

pub labels_again : (bytes : List ℕ) (start pos size other : ℕ) (labels : Labels) (next : ℕ)
    → labels_at bytes start pos size ≡ Ok (labels, next)
    → other + length (wire labels) ≤ 255 → labels_at bytes start pos other ≡ Ok (labels, next)
unfolding labels_at
labels_again bytes start pos size other labels next h room =
    let bound : ℕ = suc (start + 255) in
    let one = enough (suc (steps_left start size)) bound bytes start pos size (omega arith) (omega arith) in
    let two = enough bound (suc (steps_left start other)) bytes start pos other (omega arith) (omega arith) in
    sym two ∙ reads_again bound bytes start pos size other labels next (sym one ∙ h) room

-- ---- a pointer to a known name

wire-append : (front rest : Labels) → wire (front ++ rest) ≡ row_wire front ++ wire rest
wire-append front rest = wire-row (front ++ rest) ∙ ap (λ (w : List ℕ). w ++ 0 ∷ []) (row_wire-append front rest)
    ∙ append_assoc (row_wire front) (row_wire rest) (0 ∷ [])
    ∙ ap (λ (w : List ℕ). row_wire front ++ w) (sym (wire-row rest))

ended_with : (ending : Option ℕ) (front rest : Labels) (place : ℕ)
    → finish ending (with_labels front (Ok (rest, place))) ≡ Ok (front ++ rest, ending_or ending place)
ended_with None front rest place = refl
ended_with (Some first) front rest place = refl

pub row_known : (bytes : List ℕ) (at start pos : ℕ) (ending : Option ℕ) (old new : List ℕ) (size target : ℕ)
    (copied whole spelled : List ℕ) → Row bytes at start pos ending old new size
    → step_of bytes start pos size ≡ Ok (step.Pointer target) → IsKnown bytes target spelled
    → size + length spelled ≤ 255
    → copied ≡ new ++ slice_range bytes start pos → whole ≡ copied ++ spelled
    → IsSpelled (name_at bytes at) old whole (ending_or ending (pos + 2))
unfolding name_at
row_known bytes at start pos ending old new size target copied whole spelled r is k room row grown =
    let w = r.walk in
    let labels : Labels = w.labels ++ k.labels in
    let length_of : length spelled ≡ length (wire k.labels) = ap length k.written in
    let there : labels_at bytes target target (length r.read) ≡ Ok (k.labels, k.next) =
    labels_again bytes target target 0 (length r.read) k.labels k.next k.told (omega (arith, room, length_of, r.long)) in
    let read : labels_at bytes start pos (length r.read) ≡ Ok (k.labels, pos + 2) =
    one_step (Ok (step.Pointer target)) bytes start pos (length r.read) (ap (step_of bytes start pos) r.long ∙ is)
    ∙ ap (ending_at (pos + 2)) there in
    let written : r.read ++ spelled ≡ wire labels =
    ap (λ (x : List ℕ). x ++ spelled) w.spelled ∙ ap (λ (x : List ℕ). row_wire w.labels ++ x) k.written
    ∙ sym (wire-append w.labels k.labels) in
    let long : length (wire labels) ≤ 255 =
    omega (arith, ap length written, length-append r.read spelled, r.long, room) in
    let short : nat_le (length (wire labels)) 255 ≡ true = grind (arith, nat_tests) in
    let known : list_all is_label k.labels ≡ true = (and_parts _ _ k.good).0 in
    let all : list_all is_label labels ≡ true = list_all-append is_label w.labels k.labels ∙ rw (w.good, known) refl in
    record {
      labels = labels;
      told = sym w.so_far ∙ ap (λ (x : Result (Labels × ℕ) DecodeError). finish ending (with_labels w.labels x)) read
          ∙ ended_with ending w.labels k.labels (pos + 2);
      grown = grown ∙ ap (λ (x : List ℕ). x ++ spelled) (row ∙ r.grown) ∙ append_assoc old r.read spelled
          ∙ ap (λ (x : List ℕ). old ++ x) written;
      good = and_from (list_all is_label labels) (nat_le (length (wire labels)) 255) all short;
    }

-- ---- the places that a name passes

abbrev just_labels : Result (Labels × ℕ) DecodeError → Result Labels DecodeError
just_labels (Ok name) = Ok name.0
just_labels (Err e) = Err e

-- the name goes on at the place, behind labels of so many bytes
pub record IsOnWay (bytes : List ℕ) (at : ℕ) (one : Passed) : Type 0 where
  pub labels : Labels
  pub long : length (row_wire labels) ≡ one.size
  pub rest : just_labels (with_labels labels (labels_at bytes one.place one.place one.size)) ≡ just_labels (name_at bytes at)

finish_labels : (ending : Option ℕ) (read : Result (Labels × ℕ) DecodeError)
    → just_labels (finish ending read) ≡ just_labels read
finish_labels None read = refl
finish_labels (Some place) (Ok name) = refl
finish_labels (Some place) (Err e) = refl

pub on_way : (bytes : List ℕ) (at target size : ℕ) (ending : Option ℕ) (old new : List ℕ)
    → Row bytes at target target ending old new size
    → IsOnWay bytes at (record { place = target; size = size })
on_way bytes at target size ending old new r =
    let w = r.walk in
    let read : Result (Labels × ℕ) DecodeError = with_labels w.labels (labels_at bytes target target size) in
    record {
      labels = w.labels;
      long = sym (ap length w.spelled) ∙ r.long;
      rest = sym (finish_labels ending read)
          ∙ ap (λ (k : ℕ). just_labels (finish ending (with_labels w.labels (labels_at bytes target target k)))) (sym r.long)
          ∙ ap just_labels w.so_far;
    }

-- the labels behind some
record IsSplit (front : Labels) (read : Result (Labels × ℕ) DecodeError) (labels : Labels) : Type 0 where
  rest : Labels
  next : ℕ
  told : read ≡ Ok (rest, next)
  whole : labels ≡ front ++ rest

split_at : (front : Labels) (read : Result (Labels × ℕ) DecodeError) (labels : Labels)
    → just_labels (with_labels front read) ≡ Ok labels → IsSplit front read labels
split_at front (Ok (rest, n)) labels h = record { rest = rest; next = n; told = refl; whole = cc }
split_at front (Err e) labels h = absurd cc

pub passed_known : (bytes : List ℕ) (at next : ℕ) (old new : List ℕ) (one : Passed)
    → IsSpelled (name_at bytes at) old new next → IsOnWay bytes at one
    → IsPassed bytes (drop (length old) new) one
unfolding name_at
passed_known bytes at next old new one s way =
    let name : List ℕ = drop (length old) new in
    let is : name ≡ wire s.labels = ap (drop (length old)) s.grown ∙ drop-append_seam old (wire s.labels) in
    let p =
    split_at way.labels (labels_at bytes one.place one.place one.size) s.labels (way.rest ∙ ap just_labels s.told) in
    let parts : name ≡ row_wire way.labels ++ wire p.rest = is ∙ ap wire p.whole ∙ wire-append way.labels p.rest in
    let behind : drop one.size name ≡ wire p.rest =
    ap (λ (k : ℕ). drop k name) (sym way.long) ∙ ap (drop (length (row_wire way.labels))) parts
    ∙ drop-append_seam (row_wire way.labels) (wire p.rest) in
    let long : length name ≡ one.size + length (wire p.rest) =
    ap length parts ∙ length-append (row_wire way.labels) (wire p.rest)
    ∙ ap (λ (k : ℕ). k + length (wire p.rest)) way.long in
    let short : length (wire s.labels) ≤ 255 =
    leb-true (length (wire s.labels)) 255 (and_parts (list_all is_label s.labels) (nat_le (length (wire s.labels)) 255) s.good).1 in
    let few : length (wire p.rest) ≤ 255 = omega (arith, short, ap length is, long) in
    let fits : nat_le (length (wire p.rest)) 255 ≡ true = grind (arith, nat_tests) in
    let all : list_all is_label (way.labels ++ p.rest) ≡ true =
    ap (list_all is_label) (sym p.whole) ∙ (and_parts _ _ s.good).0 in
    let last : list_all is_label p.rest ≡ true =
    (and_parts (list_all is_label way.labels) (list_all is_label p.rest) (sym (list_all-append is_label way.labels p.rest) ∙ all)).1 in
    record {
      inside = omega (arith, long, some_wire p.rest);
      short = omega (arith, short, ap length is);
      known = record {
        labels = p.rest;
        next = p.next;
        told = labels_again bytes one.place one.place one.size 0 p.rest p.next p.told (omega (arith, few));
        written = behind;
        good = and_from (list_all is_label p.rest) (nat_le (length (wire p.rest)) 255) last fits;
      };
    }

pub all_passed : (bytes : List ℕ) (at next : ℕ) (old new : List ℕ) (passed : List Passed)
    → IsSpelled (name_at bytes at) old new next → All (IsOnWay bytes at) passed
    → All (IsPassed bytes (drop (length old) new)) passed
all_passed bytes at next old new passed s all = λ k d lt. passed_known bytes at next old new (slice_index_or passed k d) s (all k d lt)

pub none_passed : (bytes : List ℕ) (at : ℕ) (passed : List Passed) → passed ≡ [] → All (IsOnWay bytes at) passed
none_passed bytes at passed none = λ k d lt. absurd (omega (arith, lt, ap length none))

pub more_passed : (bytes : List ℕ) (at place size : ℕ) (old new : List Passed) → HasPassed place size old new
    → All (IsOnWay bytes at) old
    → IsOnWay bytes at (record { place = place; size = size }) → All (IsOnWay bytes at) new
more_passed bytes at place size old new (inl same) all one = subst (All (IsOnWay bytes at)) (sym same) all
more_passed bytes at place size old new (inr more) all one =
    subst (All (IsOnWay bytes at)) (sym more) (All-push (IsOnWay bytes at) old (record { place = place; size = size }) all one)

-- ---- the table

pub none_kept : (bytes spelled starts sizes : List ℕ) (count : ℕ) → starts ≡ replicate count 0
    → sizes ≡ replicate count 0 → AreKept bytes spelled starts sizes
none_kept bytes spelled starts sizes count a b = record {
  long = ap length a ∙ sym (ap length b);
  each = λ place lt.
      let inside : place < count = omega (arith, lt, ap length b, length-replicate {A = ℕ} count 0) in
      let none : slice_index sizes place ≡ 0 =
      ap (λ (xs : List ℕ). get_or xs place 0) b ∙ get_or-replicate count place 0 0 inside in
      record { inside = λ some. absurd (omega (arith, some, none)); known = λ some. absurd (omega (arith, some, none)) };
}

-- what is spelled more changes no range
same_part : (spelled more : List ℕ) (start size : ℕ) → start + size ≤ length spelled
    → part_of (spelled ++ more) start size ≡ part_of spelled start size
same_part spelled more start size inside =
    let front : drop start (spelled ++ more) ≡ drop start spelled ++ more =
    drop-append-le start spelled more (omega (arith, inside)) in
    ap (take (start + size - start)) front
    ∙ take-append-le (start + size - start) (drop start spelled) more (omega (arith, inside, length-drop start spelled))

pub kept_more : (bytes spelled more starts sizes : List ℕ) → AreKept bytes spelled starts sizes
    → AreKept bytes (spelled ++ more) starts sizes
kept_more bytes spelled more starts sizes all = record {
  long = all.long;
  each = λ place lt.
      let one = all.each place lt in
      record {
        inside = λ some. omega (arith, one.inside some, length-append spelled more);
        known = λ some. subst (IsKnown bytes place)
            (sym (same_part spelled more (slice_index starts place) (slice_index sizes place) (one.inside some))) (one.known some);
      };
}

pub kept_put : (bytes spelled starts sizes : List ℕ) (place start size : ℕ) → AreKept bytes spelled starts sizes
    → place < length sizes → IsPartKept bytes spelled place start size
    → AreKept bytes spelled (slice_set starts place start) (slice_set sizes place size)
kept_put bytes spelled starts sizes place start size all lt one = record {
  long = length-set starts place start ∙ all.long ∙ sym (length-set sizes place size);
  each = λ other inside.
      elim (cases_eq other place) [
        | inl same ↦
            let a : slice_index (slice_set starts place start) other ≡ start =
            get_or-set_at starts place other start 0 same (omega (arith, lt, all.long)) in
            let b : slice_index (slice_set sizes place size) other ≡ size =
            get_or-set_at sizes place other size 0 same lt in
            rw (a, b) (subst (λ (p : ℕ). IsPartKept bytes spelled p start size) (sym same) one)
        | inr apart ↦
            let a : slice_index (slice_set starts place start) other ≡ slice_index starts other =
            get_or-set_other starts place other start 0 apart in
            let b : slice_index (slice_set sizes place size) other ≡ slice_index sizes other =
            get_or-set_other sizes place other size 0 apart in
            rw (a, b) (all.each other (omega (arith, inside, length-set sizes place size)))
      ];
}

-- the part of a spelled name behind some of its bytes
part_behind : (spelled name : List ℕ) (base size : ℕ) → part_of spelled base (length name) ≡ name → size ≤ length name
    → part_of spelled (base + size) (length name - size) ≡ drop size name
part_behind spelled name base size is fits =
    let e1 : base + size + (length name - size) - (base + size) ≡ length name - size = omega (arith, fits) in
    let e2 : size + (length name - size) ≡ base + length name - base = omega (arith, fits) in
    let there : drop (base + size) spelled ≡ drop size (drop base spelled) =
    ap (λ (k : ℕ). drop k spelled) (omega arith) ∙ sym (drop-drop size base spelled) in
    ap (λ (k : ℕ). take k (drop (base + size) spelled)) e1
    ∙ ap (take (length name - size)) there
    ∙ sym (drop-take size (length name - size) (drop base spelled))
    ∙ ap (λ (k : ℕ). drop size (take k (drop base spelled))) e2
    ∙ ap (drop size) is

pub put_kept : (bytes spelled name : List ℕ) (base : ℕ) (one : Passed) → part_of spelled base (length name) ≡ name
    → base + length name ≤ length spelled → IsPassed bytes name one
    → IsPartKept bytes spelled one.place (base + one.size) (length name - one.size)
put_kept bytes spelled name base one is inside p = record {
  inside = λ some. omega (arith, inside, p.inside);
  known = λ some. subst (IsKnown bytes one.place) (sym (part_behind spelled name base one.size is (omega (arith, p.inside)))) p.known;
}

-- what is put behind all that was spelled lies there
pub part_last : (spelled name : List ℕ) (base : ℕ) → base ≡ length spelled
    → part_of (spelled ++ name) base (length name) ≡ name
part_last spelled name base is =
    let e : base + length name - base ≡ length name = omega arith in
    let there : drop base (spelled ++ name) ≡ name =
    ap (λ (k : ℕ). drop k (spelled ++ name)) is ∙ drop-append_seam spelled name in
    ap (λ (k : ℕ). take k (drop base (spelled ++ name))) e ∙ ap (take (length name)) there ∙ take-length name
