-- A name's wire form has one reading: what is written is read, and what is read was written.
use Rattle.std.proofs.Common.{◌≡◌, ℕ, ◌≤◌, ◌<◌, Bool, true, false, ◌&&◌, cond, List, [], ◌∷◌, ◌++◌, length, take, drop, Option, None, Some, refl, sym, ap, ◌∙◌, arith, length-append}
use Rattle.std.specs.Prelude.{nat_le, nat_lt, option_map}
use Rattle.std.specs.List.{list_all}
use Rattle.std.proofs.lemmas.Bool.{and_parts}
use Rattle.std.proofs.lemmas.Bool.Decides.{nat_tests}
use Rattle.std.proofs.lemmas.List.{append_assoc, append-nil, take-append-drop, length-take-le}
use Rattle.dns_model.specs.Names.{Label, Labels, wire, is_label, is_name}
use Rattle.dns_model.specs.NameForm.{label_in, after_label, labels_in, name_in, labels_of, IsWire}
use Rattle.dns_model.proofs.Lists.{take-front, drop-front}
use Rattle.dns_model.specs.OptionSteps.{◌>>=◌}

-- what two equal pairs in an option have in common
pub first_of_some : {X Y : Type 0} {p q : X × Y} → Some p ≡ Some q → p.0 ≡ q.0
first_of_some {X} {Y} {p} {q} h = let e : p ≡ q = cc in ap (λ (x : X × Y). x.0) e

pub second_of_some : {X Y : Type 0} {p q : X × Y} → Some p ≡ Some q → p.1 ≡ q.1
second_of_some {X} {Y} {p} {q} h = let e : p ≡ q = cc in ap (λ (x : X × Y). x.1) e

abbrev pub with_front_label : Label → Option (Labels × List ℕ) → Option (Labels × List ℕ)
with_front_label label name = option_map (λ n. (label ∷ n.0, n.1)) name

-- what was read, where it isn't too long
abbrev pub within_limit : Option (Labels × List ℕ) → Option (Labels × List ℕ)
within_limit name = name >>= λ n. cond (nat_le (length (wire n.0)) 255) (Some n) None

-- a label that stands at the front is read
pub label_in-label : (label rest : List ℕ) → length label ≤ 63 → label_in (length label ∷ (label ++ rest)) ≡ Some (label, rest)
unfolding label_in
label_in-label label rest fits =
    let small : nat_le (length label) 63 ≡ true = grind (arith, nat_tests) in
    let long : nat_le (length label) (length (label ++ rest)) ≡ true = grind (arith, nat_tests, length-append label rest) in
    rw (small, long, take-front label rest, drop-front label rest) refl

-- a label that is read stood at the front
pub record IsLabelIn (bytes label rest : List ℕ) : Type 0 where
  pub whole : bytes ≡ length label ∷ (label ++ rest)
  pub small : length label ≤ 63

label_in_parts : (size : ℕ) (bytes label rest : List ℕ) (fits : Bool) → fits ≡ (nat_le size 63 && nat_le size (length bytes))
    → cond {A = Option (Label × List ℕ)} fits (Some (take size bytes, drop size bytes)) None ≡ Some (label, rest)
    → IsLabelIn (size ∷ bytes) label rest
label_in_parts size bytes label rest false is h = cc
label_in_parts size bytes label rest true is h =
    let parts = and_parts (nat_le size 63) (nat_le size (length bytes)) (sym is) in
    let small : size ≤ 63 = grind (arith, nat_tests, parts.0) in
    let inside : size ≤ length bytes = grind (arith, nat_tests, parts.1) in
    let front : take size bytes ≡ label = first_of_some h in
    let back : drop size bytes ≡ rest = second_of_some h in
    let long : length label ≡ size = rw (← front) (length-take-le size bytes inside) in
    record {
      whole = rw (long, ← front, ← back, take-append-drop size bytes) refl;
      small = omega arith;
    }

pub label_in_inverse : (bytes label rest : List ℕ) → label_in bytes ≡ Some (label, rest) → IsLabelIn bytes label rest
unfolding label_in
label_in_inverse [] label rest h = cc
label_in_inverse (size ∷ bytes) label rest h = label_in_parts size bytes label rest _ refl h

-- ---- what is written is read

-- the labels of a name are read back, given room for one more list than there are labels
pub labels_in-wire : (name : Labels) (rest bound : List ℕ) → list_all is_label name ≡ true → length name < length bound
    → labels_in bound (wire name ++ rest) ≡ Some (name, rest)
unfolding labels_in
labels_in-wire name rest [] good room = absurd (omega arith)
labels_in-wire [] rest (b ∷ bound) good room = rw (label_in-label [] rest (omega arith)) refl
labels_in-wire ([] ∷ name) rest (b ∷ bound) good room = cc
labels_in-wire ((c ∷ label) ∷ name) rest (b ∷ bound) good room =
    let parts = and_parts (is_label (c ∷ label)) (list_all is_label name) good in
    let halves = and_parts (nat_lt 0 (length (c ∷ label))) (nat_le (length (c ∷ label)) 63) parts.0 in
    let small : length (c ∷ label) ≤ 63 = grind (arith, nat_tests, halves.1) in
    let front : label_in (length (c ∷ label) ∷ ((c ∷ label) ++ (wire name ++ rest))) ≡ Some (c ∷ label, wire name ++ rest) =
    label_in-label (c ∷ label) (wire name ++ rest) small in
    let more : labels_in bound (wire name ++ rest) ≡ Some (name, rest) = labels_in-wire name rest bound parts.1 (omega arith) in
    let joined : (c ∷ label) ++ wire name ++ rest ≡ (c ∷ label) ++ (wire name ++ rest) = append_assoc (c ∷ label) (wire name) rest in
    ap (λ (w : List ℕ). after_label (label_in (length (c ∷ label) ∷ w)) (labels_in bound)) joined
    ∙ ap (λ (o : Option (Label × List ℕ)). after_label o (labels_in bound)) front
    ∙ ap (with_front_label (c ∷ label)) more

-- a list has no more labels than its wire form has bytes after the last
pub length-wire : (name : Labels) → length name < length (wire name)
length-wire [] = omega arith
length-wire (label ∷ name) = omega (arith, length-wire name, length-append label (wire name))

-- a name in wire form is read back, and the bytes after it are left
pub name_in-wire : (name : Labels) (rest : List ℕ) → is_name name ≡ true → name_in (wire name ++ rest) ≡ Some (name, rest)
unfolding name_in
name_in-wire name rest good =
    let parts = and_parts (list_all is_label name) (nat_le (length (wire name)) 255) good in
    let room : length name < length (wire name ++ rest) = omega (arith, length-wire name, length-append (wire name) rest) in
    rw (labels_in-wire name rest (wire name ++ rest) parts.0 room, parts.1) refl

-- the labels of a wire form are those that were written
pub labels_of-wire : (name : Labels) → is_name name ≡ true → labels_of (wire name) ≡ name
unfolding labels_of
labels_of-wire name good = rw (← append-nil (wire name), name_in-wire name [] good) refl

-- the wire form of a name is one
pub IsWire-wire : (name : Labels) → is_name name ≡ true → IsWire (wire name)
IsWire-wire name good =
    let back : name_in (wire name) ≡ Some (name, []) = ap name_in (sym (append-nil (wire name))) ∙ name_in-wire name [] good in
    back ∙ ap (λ (n : Labels). Some (n, [])) (sym (labels_of-wire name good))

-- ---- what is read was written

-- labels that were read, with the bytes after them
pub record IsNameIn (bytes : List ℕ) (name : Labels) (rest : List ℕ) : Type 0 where
  pub whole : bytes ≡ wire name ++ rest
  pub good : list_all is_label name ≡ true

-- a label in front of what was read
record IsWithLabel (label : Label) (more : Option (Labels × List ℕ)) (name : Labels) (rest : List ℕ) : Type 0 where
  tail : Labels
  was : more ≡ Some (tail, rest)
  is : name ≡ label ∷ tail

with_front_label_inverse : (label : Label) (more : Option (Labels × List ℕ)) (name : Labels) (rest : List ℕ)
    → with_front_label label more ≡ Some (name, rest) → IsWithLabel label more name rest
with_front_label_inverse label None name rest h = cc
with_front_label_inverse label (Some (tail, after)) name rest h =
    let same : label ∷ tail ≡ name = first_of_some h in
    let left : after ≡ rest = second_of_some h in
    record { tail = tail; was = rw left refl; is = sym same }

joined_inverse : (bytes : List ℕ) (c : ℕ) (label : Label) (after : List ℕ) (more : Option (Labels × List ℕ)) (name : Labels) (rest : List ℕ)
    → ((tail : Labels) → more ≡ Some (tail, rest) → IsNameIn after tail rest)
    → label_in bytes ≡ Some (c ∷ label, after) → IsWithLabel (c ∷ label) more name rest → IsNameIn bytes name rest
joined_inverse bytes c label after more name rest ih is one =
    let stood = label_in_inverse bytes (c ∷ label) after is in
    let all = ih one.tail one.was in
    let some : nat_lt 0 (length (c ∷ label)) ≡ true = grind (arith, nat_tests) in
    let small : nat_le (length (c ∷ label)) 63 ≡ true = grind (arith, nat_tests, stood.small) in
    let tail : after ≡ wire one.tail ++ rest = all.whole in
    let assoc : (c ∷ label) ++ wire one.tail ++ rest ≡ (c ∷ label) ++ (wire one.tail ++ rest) =
    append_assoc (c ∷ label) (wire one.tail) rest in
    let written : wire name ≡ wire ((c ∷ label) ∷ one.tail) = ap wire one.is in
    record {
      whole = stood.whole ∙ ap (λ (w : List ℕ). length (c ∷ label) ∷ ((c ∷ label) ++ w)) tail
          ∙ ap (λ (w : List ℕ). length (c ∷ label) ∷ w) (sym assoc) ∙ ap (λ (w : List ℕ). w ++ rest) (sym written);
      good = rw (one.is, some, small, all.good) refl;
    }

after_label_inverse : (bound bytes : List ℕ) (front : Option (Label × List ℕ)) (name : Labels) (rest : List ℕ)
    → ((more : List ℕ) (tail : Labels) → labels_in bound more ≡ Some (tail, rest) → IsNameIn more tail rest)
    → label_in bytes ≡ front → after_label front (labels_in bound) ≡ Some (name, rest) → IsNameIn bytes name rest
after_label_inverse bound bytes None name rest ih is h = cc
after_label_inverse bound bytes (Some ([], after)) name rest ih is h =
    let none : [] ≡ name = first_of_some h in
    let left : after ≡ rest = second_of_some h in
    let stood = label_in_inverse bytes [] after is in
    record { whole = stood.whole ∙ rw (← none, left) refl; good = rw (← none) refl }
after_label_inverse bound bytes (Some (c ∷ label, after)) name rest ih is h =
    joined_inverse bytes c label after _ name rest (ih after) is (with_front_label_inverse (c ∷ label) (labels_in bound after) name rest h)

pub labels_in_inverse : (bound bytes : List ℕ) (name : Labels) (rest : List ℕ) → labels_in bound bytes ≡ Some (name, rest)
    → IsNameIn bytes name rest
unfolding labels_in
labels_in_inverse [] bytes name rest h = cc
labels_in_inverse (b ∷ bound) bytes name rest h =
    after_label_inverse bound bytes (label_in bytes) name rest (λ more tail. labels_in_inverse bound more tail rest) refl h

-- a name that was read, with the bytes after it
pub record IsRead (bytes : List ℕ) (name : Labels) (rest : List ℕ) : Type 0 where
  pub whole : bytes ≡ wire name ++ rest
  pub good : is_name name ≡ true

fitting_inverse : (bytes : List ℕ) (labels : Labels) (after : List ℕ) (name : Labels) (rest : List ℕ) (fits : Bool)
    → fits ≡ nat_le (length (wire labels)) 255 → Some (labels, after) ≡ labels_in bytes bytes
    → cond {A = Option (Labels × List ℕ)} fits (Some (labels, after)) None ≡ Some (name, rest) → IsRead bytes name rest
fitting_inverse bytes labels after name rest false fits is h = cc
fitting_inverse bytes labels after name rest true fits is h =
    let same : labels ≡ name = first_of_some h in
    let left : after ≡ rest = second_of_some h in
    let read = labels_in_inverse bytes bytes labels after (sym is) in
    record { whole = rw (← same, ← left) read.whole; good = rw (← same, read.good, ← fits) refl }

within_limit_inverse : (bytes : List ℕ) (read : Option (Labels × List ℕ)) (name : Labels) (rest : List ℕ)
    → read ≡ labels_in bytes bytes → within_limit read ≡ Some (name, rest) → IsRead bytes name rest
within_limit_inverse bytes None name rest is h = cc
within_limit_inverse bytes (Some (labels, after)) name rest is h =
    fitting_inverse bytes labels after name rest (nat_le (length (wire labels)) 255) refl is h

-- a name that is read stood at the front, and is one
pub name_in_inverse : (bytes : List ℕ) (name : Labels) (rest : List ℕ) → name_in bytes ≡ Some (name, rest) → IsRead bytes name rest
unfolding name_in
name_in_inverse bytes name rest h = within_limit_inverse bytes _ name rest refl h

-- the labels of a wire form are a name, and are written as they came
pub wire-labels_of : (bytes : List ℕ) → IsWire bytes → wire (labels_of bytes) ≡ bytes
wire-labels_of bytes h = let r = name_in_inverse bytes (labels_of bytes) [] h in sym (r.whole ∙ append-nil (wire (labels_of bytes)))

pub is_name-labels_of : (bytes : List ℕ) → IsWire bytes → is_name (labels_of bytes) ≡ true
is_name-labels_of bytes h = let r = name_in_inverse bytes (labels_of bytes) [] h in r.good

-- two names with one wire form are one
pub wire_injective : (a b : Labels) → is_name a ≡ true → is_name b ≡ true → wire a ≡ wire b → a ≡ b
wire_injective a b p q same = sym (labels_of-wire a p) ∙ ap labels_of same ∙ labels_of-wire b q
