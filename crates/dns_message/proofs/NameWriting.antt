-- A name that was read is one, and in wire form it is read again.
use Rattle.std.proofs.Common.{◌≡◌, ℕ, zero, suc, ◌+◌, ◌≤◌, ◌<◌, true, List, [], ◌∷◌, ◌++◌, length, get_or, Result, Ok, Err, refl, sym, ap, ◌∙◌, subst, arith, length-append, add-zero}
use Rattle.std.specs.Prelude.{nat_le, nat_lt, slice_range}
use Rattle.std.specs.List.{list_all}
use Rattle.std.proofs.lemmas.Bool.Decides.{nat_tests}
use Rattle.std.proofs.lemmas.Bool.{and_from, and_parts}
use Rattle.dns_model.specs.Names.{Label, Labels, wire, is_label, is_name}
use Rattle.dns_model.proofs.WireLemmas.{length-wire}
use Rattle.dns_message.specs.declared.decode_error.DecodeError.{DecodeError}
use Rattle.dns_message.specs.declared.step.Step.{Step}
use Rattle.dns_message.specs.declared.step.Step.TheVariants as step
use Rattle.dns_message.specs.NameAt.{step_of, after_step, labels_from, labels_at, name_at}
use Rattle.dns_message.proofs.NameReading.{label_step, label_at, one_step, with_label}
use Rattle.dns_message.proofs.Standing.{Stands, stands_front, stands_back, stands_inside, stands_range, stands_byte}
use Rattle.dns_message.specs.Readable.{ending_at, steps_left}

-- labels of a name of which `size` bytes were read before
pub record IsGood (size : ℕ) (labels : Labels) : Type 0 where
  pub good : list_all is_label labels ≡ true
  pub room : size + length (wire labels) ≤ 255

record IsMore (label : Label) (r : Result (Labels × ℕ) DecodeError) (labels : Labels) (next : ℕ) : Type 0 where
  tail : Labels
  was : r ≡ Ok (tail, next)
  is : labels ≡ label ∷ tail

-- what equal results hold
pub first_of_ok : {X Y : Type 0} {p q : X × Y} → (let r : Result (X × Y) DecodeError = Ok p in r) ≡ Ok q → p.0 ≡ q.0
first_of_ok {X} {Y} {p} {q} h = let e : p ≡ q = cc in ap (λ (x : X × Y). x.0) e

pub second_of_ok : {X Y : Type 0} {p q : X × Y} → (let r : Result (X × Y) DecodeError = Ok p in r) ≡ Ok q → p.1 ≡ q.1
second_of_ok {X} {Y} {p} {q} h = let e : p ≡ q = cc in ap (λ (x : X × Y). x.1) e

with_label_inverse : (label : Label) (r : Result (Labels × ℕ) DecodeError) (labels : Labels) (next : ℕ)
    → with_label label r ≡ Ok (labels, next) → IsMore label r labels next
with_label_inverse label (Err e) labels next h = absurd cc
with_label_inverse label (Ok x) labels next h =
    let same : label ∷ x.0 ≡ labels = first_of_ok h in
    let end : x.1 ≡ next = second_of_ok h in
    record { tail = x.0; was = ap (λ (n : ℕ). Ok (x.0, n)) end; is = sym same }

record IsEnding (r : Result (Labels × ℕ) DecodeError) (labels : Labels) : Type 0 where
  place : ℕ
  was : r ≡ Ok (labels, place)

ending_inverse : (place : ℕ) (r : Result (Labels × ℕ) DecodeError) (labels : Labels) (next : ℕ)
    → ending_at place r ≡ Ok (labels, next) → IsEnding r labels
ending_inverse place (Err e) labels next h = absurd cc
ending_inverse place (Ok x) labels next h =
    let same : x.0 ≡ labels = first_of_ok h in
    record { place = x.1; was = ap (λ (l : Labels). Ok (l, x.1)) same }

step_good : (r : Result Step DecodeError) (n : ℕ) (bytes : List ℕ) (start pos size : ℕ) (labels : Labels) (next : ℕ)
    → size ≤ 254 → step_of bytes start pos size ≡ r
    → ((s p z : ℕ) (l : Labels) (k : ℕ) → z ≤ 254 → labels_from n bytes s p z ≡ Ok (l, k) → IsGood z l)
    → after_step r bytes start pos size (labels_from n bytes) ≡ Ok (labels, next) → IsGood size labels
step_good (Err e) n bytes start pos size labels next fits is ih h = absurd cc
step_good (Ok step.Root) n bytes start pos size labels next fits is ih h =
    let same : [] ≡ labels = first_of_ok h in
    subst (λ (l : Labels). IsGood size l) same (record { good = refl; room = omega arith })
step_good (Ok (step.Label k)) n bytes start pos size labels next fits is ih h =
    let s = label_step bytes start pos size k is in
    let l = label_at bytes pos k s.byte s.inside in
    let label : Label = slice_range bytes (pos + 1) (pos + 1 + k) in
    let more = with_label_inverse label (labels_from n bytes start (pos + 1 + k) (size + 1 + k)) labels next h in
    let rest = ih start (pos + 1 + k) (size + 1 + k) more.tail next s.room more.was in
    let long : length label ≡ k = l.long in
    let some : nat_lt 0 (length label) ≡ true = grind (arith, nat_tests, long, s.some) in
    let small : nat_le (length label) 63 ≡ true = grind (arith, nat_tests, long, s.small) in
    let is_one : is_label label ≡ true = and_from (nat_lt 0 (length label)) (nat_le (length label) 63) some small in
    let all : list_all is_label (label ∷ more.tail) ≡ true = rw (is_one, rest.good) refl in
    let room : size + length (wire (label ∷ more.tail)) ≤ 255 = omega (arith, rest.room, long, length-append label (wire more.tail)) in
    subst (λ (x : Labels). IsGood size x) (sym more.is) (record { good = all; room = room })
step_good (Ok (step.Pointer target)) n bytes start pos size labels next fits is ih h =
    let more = ending_inverse (pos + 2) (labels_from n bytes target target size) labels next h in
    ih target target size labels more.place fits more.was

labels_good : (n : ℕ) (bytes : List ℕ) (start pos size : ℕ) (labels : Labels) (next : ℕ) → size ≤ 254
    → labels_from n bytes start pos size ≡ Ok (labels, next) → IsGood size labels
unfolding labels_from
labels_good zero bytes start pos size labels next fits h = absurd cc
labels_good (suc n) bytes start pos size labels next fits h =
    step_good (step_of bytes start pos size) n bytes start pos size labels next fits refl
    (λ s p z l k f e. labels_good n bytes s p z l k f e) h

-- what is read is a name
pub name_good : (bytes : List ℕ) (pos : ℕ) (labels : Labels) (next : ℕ) → name_at bytes pos ≡ Ok (labels, next) → is_name labels ≡ true
unfolding name_at labels_at
name_good bytes pos labels next h =
    let g = labels_good (suc (steps_left pos 0)) bytes pos pos 0 labels next (omega arith) h in
    let short : nat_le (length (wire labels)) 255 ≡ true = grind (arith, nat_tests, g.room) in
    and_from (list_all is_label labels) (nat_le (length (wire labels)) 255) g.good short

-- ---- the other way

root_here : (bytes : List ℕ) (start pos size : ℕ) → pos < length bytes → get_or bytes pos 0 ≡ 0
    → step_of bytes start pos size ≡ Ok step.Root
unfolding step_of
root_here bytes start pos size inside byte = grind (arith, nat_tests)

label_here : (bytes : List ℕ) (start pos size n : ℕ) → get_or bytes pos 0 ≡ n → 0 < n → n ≤ 63 → pos + 1 + n ≤ length bytes
    → size + 1 + n ≤ 254 → step_of bytes start pos size ≡ Ok (step.Label n)
unfolding step_of
label_here bytes start pos size n byte some small inside room = grind (arith, nat_tests)

pub labels_again : (labels : Labels) (bytes : List ℕ) (start pos size : ℕ) → Stands bytes pos (wire labels)
    → list_all is_label labels ≡ true → size + length (wire labels) ≤ 255
    → labels_at bytes start pos size ≡ Ok (labels, pos + length (wire labels))
labels_again [] bytes start pos size s good room =
    let inside : pos + 1 ≤ length bytes = stands_inside bytes pos (0 ∷ []) s in
    let byte : get_or bytes pos 0 ≡ 0 = ap (λ (k : ℕ). get_or bytes k 0) (sym (add-zero pos))
    ∙ stands_byte bytes pos (0 ∷ []) 0 s (omega arith) in
    one_step (Ok step.Root) bytes start pos size (root_here bytes start pos size (omega arith) byte)
labels_again (label ∷ name) bytes start pos size s good room =
    let n : ℕ = length label in
    let parts = and_parts (is_label label) (list_all is_label name) good in
    let halves = and_parts (nat_lt 0 (length label)) (nat_le (length label) 63) parts.0 in
    let some : 0 < length label = grind (arith, nat_tests, halves.0) in
    let small : length label ≤ 63 = grind (arith, nat_tests, halves.1) in
    let whole : length (wire (label ∷ name)) ≡ 1 + length label + length (wire name) = omega (arith, length-append label (wire name)) in
    let last : 0 < length (wire name) = omega (arith, length-wire name) in
    let inside : pos + length (wire (label ∷ name)) ≤ length bytes = stands_inside bytes pos (wire (label ∷ name)) s in
    let byte : get_or bytes pos 0 ≡ length label = ap (λ (k : ℕ). get_or bytes k 0) (sym (add-zero pos))
    ∙ stands_byte bytes pos (wire (label ∷ name)) 0 s (omega (arith, whole)) in
    let behind : Stands bytes (pos + 1) (label ++ wire name) = stands_back bytes pos (length label ∷ []) (label ++ wire name) s in
    let here : Stands bytes (pos + 1) label = stands_front bytes (pos + 1) label (wire name) behind in
    let rest : Stands bytes (pos + 1 + length label) (wire name) = stands_back bytes (pos + 1) label (wire name) behind in
    let is : step_of bytes start pos size ≡ Ok (step.Label (length label)) =
    label_here bytes start pos size (length label) byte some small (omega (arith, whole)) (omega (arith, whole)) in
    let more : labels_at bytes start (pos + 1 + length label) (size + 1 + length label)
    ≡ Ok (name, pos + 1 + length label + length (wire name)) =
    labels_again name bytes start (pos + 1 + length label) (size + 1 + length label) rest parts.1 (omega (arith, whole)) in
    let end : pos + 1 + length label + length (wire name) ≡ pos + length (wire (label ∷ name)) = omega (arith, whole) in
    one_step (Ok (step.Label (length label))) bytes start pos size is
    ∙ ap (with_label (slice_range bytes (pos + 1) (pos + 1 + length label))) more
    ∙ ap (λ (l : Label). Ok (l ∷ name, pos + 1 + length label + length (wire name))) (stands_range bytes (pos + 1) label here)
    ∙ ap (λ (k : ℕ). Ok (label ∷ name, k)) end

-- a name in wire form is read again
pub name_again : (labels : Labels) (bytes : List ℕ) (pos : ℕ) → Stands bytes pos (wire labels) → is_name labels ≡ true
    → name_at bytes pos ≡ Ok (labels, pos + length (wire labels))
unfolding name_at
name_again labels bytes pos s good =
    let parts = and_parts (list_all is_label labels) (nat_le (length (wire labels)) 255) good in
    let short : length (wire labels) ≤ 255 = grind (arith, nat_tests, parts.1) in
    labels_again labels bytes pos pos 0 s parts.0 (omega (arith, short))
