-- The steps of a reader that goes over a name's wire form label by label.
use Rattle.std.proofs.Common.{◌≡◌, ℕ, suc, ◌+◌, ◌≤◌, ◌<◌, true, false, List, [], ◌∷◌, ◌++◌, length, take, drop, Option, None, Some, refl, sym, ap, ◌∙◌, arith, length-append}
use Rattle.std.specs.Prelude.{nat_le}
use Rattle.std.specs.Option.{option_map}
use Rattle.std.proofs.lemmas.Bool.Decides.{nat_tests}
use Rattle.std.proofs.lemmas.List.{take_at, drop_at}
use Rattle.dns_model.specs.Names.{Label, Labels, wire, is_name}
use Rattle.dns_model.specs.NameForm.{label_in, after_label, labels_in, name_in}
use Rattle.dns_record.specs.NameEnds.{front_labels, end_of, end_in, IsFront}
use Rattle.dns_model.proofs.WireLemmas.{label_in_inverse, labels_in_inverse, name_in-wire, labels_of-wire, IsWire-wire, with_front_label, within_limit}

-- ---- the bound on how many labels are read says nothing once it is as long as the bytes

same_after : (bytes : List ℕ) (front : Option (Label × List ℕ)) (f g : List ℕ → Option (Labels × List ℕ)) → label_in bytes ≡ front
    → ((rest : List ℕ) → length rest < length bytes → f rest ≡ g rest) → after_label front f ≡ after_label front g
same_after bytes None f g is same = refl
same_after bytes (Some ([], rest)) f g is same = refl
same_after bytes (Some (c ∷ label, rest)) f g is same =
    let stood = label_in_inverse bytes (c ∷ label) rest is in
    let shorter : length rest < length bytes = rw stood.whole (omega (arith, length-append (c ∷ label) rest)) in
    ap (with_front_label (c ∷ label)) (same rest shorter)

pub same_bound : (one two bytes : List ℕ) → length bytes ≤ length one → length bytes ≤ length two
    → labels_in one bytes ≡ labels_in two bytes
unfolding labels_in label_in
same_bound [] [] bytes p q = refl
same_bound [] (y ∷ two) [] p q = refl
same_bound [] (y ∷ two) (b ∷ bytes) p q = absurd (omega arith)
same_bound (x ∷ one) [] [] p q = refl
same_bound (x ∷ one) [] (b ∷ bytes) p q = absurd (omega arith)
same_bound (x ∷ one) (y ∷ two) bytes p q =
    same_after bytes (label_in bytes) (labels_in one) (labels_in two) refl (λ rest lt. same_bound one two rest (omega arith) (omega arith))

pub front_labels-cons : (size : ℕ) (bytes : List ℕ) → front_labels (size ∷ bytes) ≡ after_label (label_in (size ∷ bytes)) front_labels
unfolding labels_in
front_labels-cons size bytes =
    same_after (size ∷ bytes) (label_in (size ∷ bytes)) (labels_in bytes) front_labels refl
    (λ rest lt. same_bound bytes rest rest (omega arith) (omega arith))

-- ---- where a wire form ends

end_of-with : (label : Label) (read : Option (Labels × List ℕ))
    → end_of (with_front_label label read) ≡ option_map (λ (n : ℕ). length label + 1 + n) (end_of read)
end_of-with label None = refl
end_of-with label (Some (name, rest)) = ap Some (omega (arith, length-append label (wire name)))

-- there is no label where there are no bytes
pub label_in-nil : (bytes : List ℕ) → length bytes ≡ 0 → None ≡ label_in bytes
unfolding label_in
label_in-nil [] h = refl
label_in-nil (b ∷ bytes) h = absurd (omega arith)

-- where the labels end, by what the first of them is
abbrev pub end_after : Option (Label × List ℕ) → Option ℕ
end_after None = None
end_after (Some ([], rest)) = Some 1
end_after (Some (byte ∷ label, rest)) = option_map (λ (n : ℕ). length (byte ∷ label) + 1 + n) (end_in rest)

end_of-after : (front : Option (Label × List ℕ)) → end_of (after_label front front_labels) ≡ end_after front
unfolding end_in
end_of-after None = refl
end_of-after (Some ([], rest)) = refl
end_of-after (Some (c ∷ label, rest)) = end_of-with (c ∷ label) (front_labels rest)

pub end_in-step : (bytes : List ℕ) → end_in bytes ≡ end_after (label_in bytes)
unfolding end_in labels_in label_in
end_in-step [] = refl
end_in-step (size ∷ bytes) = ap end_of (front_labels-cons size bytes) ∙ end_of-after (label_in (size ∷ bytes))

-- ---- the name in front, by where it ends

front_at : (bytes rest : List ℕ) (name : Labels) (n : ℕ) → n ≡ length (wire name) → bytes ≡ wire name ++ rest
    → is_name name ≡ true → IsFront bytes n
front_at bytes rest name n long whole good =
    let front : take n bytes ≡ wire name = rw whole (take_at (wire name) rest n (sym long)) in
    let back : drop n bytes ≡ rest = rw whole (drop_at (wire name) rest n (sym long)) in
    let read : name_in bytes ≡ Some (name, rest) = rw whole (name_in-wire name rest good) in
    record {
      fits = rw whole (omega (arith, length-append (wire name) rest));
      form = rw front (IsWire-wire name good);
      read = read ∙ rw (front, back, labels_of-wire name good) refl;
    }

found : (bytes : List ℕ) (read : Option (Labels × List ℕ)) (n : ℕ) → read ≡ front_labels bytes → end_of read ≡ Some n
    → n ≤ 255 → IsFront bytes n
found bytes None n is h small = cc
found bytes (Some (name, rest)) n is h small =
    let stood = labels_in_inverse bytes bytes name rest (sym is) in
    let long : n ≡ length (wire name) = cc in
    let limit : nat_le (length (wire name)) 255 ≡ true = rw (← long) (grind (arith, nat_tests)) in
    front_at bytes rest name n long stood.whole (rw (stood.good, limit) refl)

pub front_found : (bytes : List ℕ) (n : ℕ) → end_in bytes ≡ Some n → n ≤ 255 → IsFront bytes n
unfolding end_in
front_found bytes n h small = found bytes (front_labels bytes) n refl h small

none : (bytes : List ℕ) (read : Option (Labels × List ℕ)) → read ≡ front_labels bytes → end_of read ≡ None → within_limit read ≡ None
none bytes None is h = refl
none bytes (Some p) is h = cc

pub front_none : (bytes : List ℕ) → end_in bytes ≡ None → name_in bytes ≡ None
unfolding end_in name_in
front_none bytes h = none bytes (front_labels bytes) refl h

too_long : (read : Option (Labels × List ℕ)) (n : ℕ) → end_of read ≡ Some n → 255 < n → within_limit read ≡ None
too_long None n h long = refl
too_long (Some (name, rest)) n h long =
    let same : length (wire name) ≡ n = cc in
    let limit : nat_le (length (wire name)) 255 ≡ false = rw same (grind (arith, nat_tests)) in
    rw limit refl

pub front_too_long : (bytes : List ℕ) (n : ℕ) → end_in bytes ≡ Some n → 255 < n → name_in bytes ≡ None
unfolding end_in name_in
front_too_long bytes n h long = too_long (front_labels bytes) n h long

-- how far a loop over labels has come, and what the labels at the rest make of it
pub record IsEnd (bytes rest : List ℕ) (end : ℕ) : Type 0 where
  pub so_far : option_map (λ (n : ℕ). end + n) (end_in rest) ≡ end_in bytes
  pub room : end + length rest ≡ length bytes

none_yet : (read : Option ℕ) → option_map (λ (n : ℕ). 0 + n) read ≡ read
none_yet None = refl
none_yet (Some n) = ap Some (omega arith)

pub no_end : (bytes : List ℕ) → IsEnd bytes bytes 0
no_end bytes = record { so_far = none_yet (end_in bytes); room = omega arith }

pub end_broken : (bytes rest : List ℕ) (end : ℕ) → IsEnd bytes rest end → label_in rest ≡ None → None ≡ end_in bytes
end_broken bytes rest end e is = rw (end_in-step rest, is) at e.so_far

pub end_here : (bytes rest label more : List ℕ) (end : ℕ) → IsEnd bytes rest end → label_in rest ≡ Some (label, more) → length label ≡ 0
    → Some (end + 1) ≡ end_in bytes
end_here bytes rest [] more end e is nil = rw (end_in-step rest, is) at e.so_far
end_here bytes rest (c ∷ label) more end e is nil = absurd (omega arith)

sum_twice : (a b : ℕ) (read : Option ℕ)
    → option_map (λ (n : ℕ). a + b + n) read ≡ option_map (λ (n : ℕ). a + n) (option_map (λ (n : ℕ). b + n) read)
sum_twice a b None = refl
sum_twice a b (Some n) = ap Some (omega arith)

pub end_more : (bytes rest label more : List ℕ) (end : ℕ) → IsEnd bytes rest end → label_in rest ≡ Some (label, more) → 0 < length label
    → IsEnd bytes more (end + (length label + 1))
end_more bytes rest [] more end e is some = absurd (omega arith)
end_more bytes rest (c ∷ label) more end e is some =
    let stood = label_in_inverse rest (c ∷ label) more is in
    let whole : length rest ≡ suc (length ((c ∷ label) ++ more)) = ap length stood.whole in
    record {
      so_far = sum_twice end (length (c ∷ label) + 1) (end_in more) ∙ rw (end_in-step rest, is) at e.so_far;
      room = omega (arith, e.room, whole, length-append (c ∷ label) more);
    }
