-- Keys of names sort as the names do (RFC 4034, 6.1), and the names at or below one lie together.
use Rattle.std.proofs.Common.{◌≡◌, ℕ, ◌+◌, ◌-◌, ◌<◌, ◌≤◌, Bool, true, false, ◌&&◌, ◌||◌, cond, List, [], ◌∷◌, ◌++◌, map, reverse, length, refl, sym, ap, ◌∙◌, arith, append_assoc, length-append, ◌⊎◌, inl, inr, ⊎_elim, Ordering}
use Rattle.std.specs.Prelude.{nat_le, nat_lt, ◌==◌}
use Rattle.std.specs.Char.{to_ascii_lowercase}
use Rattle.std.specs.Cmp.Lexicographic.{slice_cmp}
use Rattle.std.specs.List.{flat_map, list_all}
use Rattle.std.specs.Ordering.{nat_cmp, is_lt, is_le, is_eq, ordering_then}
use Rattle.std.specs.declared.cmp.Ordering.TheVariants.{Less, Equal, Greater}
use Rattle.std.specs.FinMap.{slice_cmp-IsAntisymmetric, nat_cmp-IsAntisymmetric}
use Rattle.std.proofs.lemmas.Bool.{false≢true, and_parts, and_from, lt-ltb, le-ltb, ltb-true, ltb-false, eq-eqb, ne_eqb, leb-true, cases_order}
use Rattle.std.proofs.lemmas.Cmp.{nat_list_cmp_total, tied_itself}
use Rattle.std.proofs.lemmas.List.{reverse-append, reverse-reverse, map-append, length-map, append-nil}
use Rattle.std.proofs.lemmas.List.Concat.{flat_map-append}
use Rattle.std.proofs.lemmas.List.Folds.{list_all-append}
use Rattle.dns_model.specs.Bytes.{is_bytes}
use Rattle.dns_model.specs.Names.{Label, Labels, is_label, is_name, lowered, folded, name_cmp, before, at_or_above, wire}
use Rattle.dns_model.specs.Owned.{OwnedNsec}
use Rattle.dns_model.proofs.AboveLemmas.{IsBelow, below_parts, below_made}
use Rattle.dns_model.proofs.OrderLemmas.{then_assoc}
use Rattle.dns_rules.specs.Covering.{leads_back, nsec_spans}
use Rattle.dns_denial_index.specs.Places.{key_before}
use Rattle.dns_denial_index.specs.NameKeys.{shifted, symbol, label_key, name_key, behind, end_key}

-- ---- bytes

-- no folded byte is A to Z
abbrev IsOut : ℕ → Type 0
IsOut byte = (byte < 65) ⊎ (91 ≤ byte)

lower_is_out : (byte : ℕ) → IsOut (to_ascii_lowercase byte)
lower_is_out byte = by (nat_lt byte 65) refl (nat_lt byte 91) refl
  where
    by : (low : Bool) → nat_lt byte 65 ≡ low → (upper : Bool) → nat_lt byte 91 ≡ upper
        → IsOut (cond low byte (cond upper (byte + 32) byte))
    by true e upper f = inl (ltb-true byte 65 e)
    by false e true f = inr (omega (arith, ltb-false byte 65 e))
    by false e false f = inr (ltb-false byte 91 f)

shifted_low : (byte : ℕ) → byte < 65 → shifted byte ≡ byte + 1
shifted_low byte lt = ap (λ b. cond b (byte + 1) (byte - 1)) (lt-ltb byte 65 lt)

shifted_high : (byte : ℕ) → 91 ≤ byte → shifted byte ≡ byte - 1
shifted_high byte le = ap (λ b. cond b (byte + 1) (byte - 1)) (le-ltb byte 65 (omega (arith, le)))

shifted_less : (x y : ℕ) → IsOut x → IsOut y → x < y → shifted x < shifted y
shifted_less x y (inl low) (inl low') lt = omega (arith, shifted_low x low, shifted_low y low', lt)
shifted_less x y (inl low) (inr high) lt = omega (arith, shifted_low x low, shifted_high y high, lt, low, high)
shifted_less x y (inr high) (inl low) lt = absurd (omega (arith, high, low, lt))
shifted_less x y (inr high) (inr high') lt = omega (arith, shifted_high x high, shifted_high y high', lt, high, high')

shifted_some : (x : ℕ) → IsOut x → 0 < shifted x
shifted_some x (inl low) = omega (arith, shifted_low x low)
shifted_some x (inr high) = omega (arith, shifted_high x high, high)

shifted_last : (x : ℕ) → IsOut x → x < 256 → shifted x < 255
shifted_last x (inl low) lt = omega (arith, shifted_low x low, low)
shifted_last x (inr high) lt = omega (arith, shifted_high x high, high, lt)

cmp_less : (x y : ℕ) → x < y → nat_cmp x y ≡ Less
cmp_less x y lt = ap (λ b. cond b Less (cond (x == y) Equal Greater)) (lt-ltb x y lt)

cmp_greater : (x y : ℕ) → y < x → nat_cmp x y ≡ Greater
cmp_greater x y lt =
    ap (λ b. cond b Less (cond (x == y) Equal Greater)) (le-ltb x y (omega (arith, lt)))
    ∙ ap (λ b. cond b Equal Greater) (ne_eqb x y (λ e. omega (arith, e, lt)))

cmp_itself : (n : ℕ) → nat_cmp n n ≡ Equal
cmp_itself n =
    ap (λ b. cond b Less (cond (n == n) Equal Greater)) (le-ltb n n (omega arith))
    ∙ ap (λ b. cond b Equal Greater) (eq-eqb n n refl)

shifted_cmp : (x y : ℕ) → IsOut x → IsOut y → nat_cmp (shifted x) (shifted y) ≡ nat_cmp x y
shifted_cmp x y out out' =
    ⊎_elim {A = x ≡ y} {B = (x < y) ⊎ (y < x)} {C = nat_cmp (shifted x) (shifted y) ≡ nat_cmp x y}
    (λ same. ap (λ n. nat_cmp (shifted x) (shifted n)) (sym same) ∙ cmp_itself (shifted x) ∙ sym (cmp_itself x)
    ∙ ap (nat_cmp x) same)
    (λ differ. ⊎_elim {A = x < y} {B = y < x} {C = nat_cmp (shifted x) (shifted y) ≡ nat_cmp x y}
    (λ lt. cmp_less (shifted x) (shifted y) (shifted_less x y out out' lt) ∙ sym (cmp_less x y lt))
    (λ lt. cmp_greater (shifted x) (shifted y) (shifted_less y x out' out lt) ∙ sym (cmp_greater x y lt)) differ)
    (cases_order x y)

symbol_cmp : (x y : ℕ) → nat_cmp (symbol x) (symbol y) ≡ nat_cmp (to_ascii_lowercase x) (to_ascii_lowercase y)
symbol_cmp x y = shifted_cmp (to_ascii_lowercase x) (to_ascii_lowercase y) (lower_is_out x) (lower_is_out y)

symbol_some : (x : ℕ) → 0 < symbol x
symbol_some x = shifted_some (to_ascii_lowercase x) (lower_is_out x)

lower_fits : (x : ℕ) → x < 256 → to_ascii_lowercase x < 256
lower_fits x lt = by (nat_lt x 65) (nat_lt x 91) refl
  where
    by : (low upper : Bool) → nat_lt x 91 ≡ upper → cond low x (cond upper (x + 32) x) < 256
    by true upper e = lt
    by false true e = omega (arith, ltb-true x 91 e)
    by false false e = lt

symbol_last : (x : ℕ) → x < 256 → symbol x < 255
symbol_last x lt = shifted_last (to_ascii_lowercase x) (lower_is_out x) (lower_fits x lt)

-- ---- labels

-- two labels with something after each
label_step : (one two : Label) (r s : List ℕ) → slice_cmp nat_cmp (label_key one ++ r) (label_key two ++ s)
    ≡ ordering_then (slice_cmp nat_cmp (lowered one) (lowered two)) (slice_cmp nat_cmp r s)
label_step [] [] r s = refl
label_step [] (y ∷ two) r s = ap (λ o. ordering_then o (slice_cmp nat_cmp r (label_key two ++ s)))
    (cmp_less 0 (symbol y) (symbol_some y))
label_step (x ∷ one) [] r s = ap (λ o. ordering_then o (slice_cmp nat_cmp (label_key one ++ r) s))
    (cmp_greater (symbol x) 0 (symbol_some x))
label_step (x ∷ one) (y ∷ two) r s =
    ap (λ o. ordering_then o (slice_cmp nat_cmp (label_key one ++ r) (label_key two ++ s))) (symbol_cmp x y)
    ∙ ap (ordering_then (nat_cmp (to_ascii_lowercase x) (to_ascii_lowercase y))) (label_step one two r s)
    ∙ then_assoc (nat_cmp (to_ascii_lowercase x) (to_ascii_lowercase y))
    (slice_cmp nat_cmp (lowered one) (lowered two)) (slice_cmp nat_cmp r s)

first_of_all : (label : Label) (r : List ℕ) → slice_cmp nat_cmp [] (label_key label ++ r) ≡ Less
first_of_all [] r = refl
first_of_all (x ∷ label) r = refl

after_nothing : (label : Label) (r : List ℕ) → slice_cmp nat_cmp (label_key label ++ r) [] ≡ Greater
after_nothing [] r = refl
after_nothing (x ∷ label) r = refl

before_last : (label : Label) (r : List ℕ) → is_bytes label ≡ true
    → is_lt (slice_cmp nat_cmp (label_key label ++ r) (255 ∷ [])) ≡ true
before_last [] r fits = refl
before_last (x ∷ label) r fits =
    let lt : x < 256 = ltb-true x 256 (and_parts (nat_lt x 256) (is_bytes label) fits).0 in
    ap (λ o. is_lt (ordering_then o (slice_cmp nat_cmp (label_key label ++ r) [])))
    (cmp_less (symbol x) 255 (symbol_last x lt))

-- ---- names from the root

from_root : (name : Labels) → name_key name ≡ flat_map label_key (reverse name)
unfolding name_key
from_root [] = refl
from_root (label ∷ above) =
    let e : reverse (label ∷ above) ≡ reverse above ++ label ∷ [] = reverse-append (label ∷ []) above in
    ap (λ k. k ++ label_key label) (from_root above)
    ∙ sym (ap (flat_map label_key) e ∙ flat_map-append label_key (reverse above) (label ∷ [])
    ∙ ap (λ k. flat_map label_key (reverse above) ++ k) (append-nil (label_key label)))

reverse_lowered : (name : Labels) → reverse (folded name) ≡ map lowered (reverse name)
reverse_lowered [] = refl
reverse_lowered (label ∷ above) =
    reverse-append (lowered label ∷ []) (folded above) ∙ ap (λ l. l ++ lowered label ∷ []) (reverse_lowered above)
    ∙ sym (ap (map lowered) (reverse-append (label ∷ []) above) ∙ map-append lowered (reverse above) (label ∷ []))

rooted_cmp : (one two : Labels) → slice_cmp nat_cmp (flat_map label_key one) (flat_map label_key two)
    ≡ slice_cmp (slice_cmp nat_cmp) (map lowered one) (map lowered two)
rooted_cmp [] [] = refl
rooted_cmp [] (label ∷ two) = first_of_all label (flat_map label_key two)
rooted_cmp (label ∷ one) [] = after_nothing label (flat_map label_key one)
rooted_cmp (first ∷ one) (second ∷ two) =
    label_step first second (flat_map label_key one) (flat_map label_key two)
    ∙ ap (ordering_then (slice_cmp nat_cmp (lowered first) (lowered second))) (rooted_cmp one two)

-- keys of names sort as the names do
pub key_cmp : (one two : Labels) → slice_cmp nat_cmp (name_key one) (name_key two) ≡ name_cmp one two
key_cmp one two =
    ap (λ k. slice_cmp nat_cmp k (name_key two)) (from_root one)
    ∙ ap (slice_cmp nat_cmp (flat_map label_key (reverse one))) (from_root two)
    ∙ rooted_cmp (reverse one) (reverse two)
    ∙ sym (ap (λ n. slice_cmp (slice_cmp nat_cmp) n (reverse (folded two))) (reverse_lowered one)
    ∙ ap (slice_cmp (slice_cmp nat_cmp) (map lowered (reverse one))) (reverse_lowered two))

pub key_before_is : (one two : Labels) → key_before (name_key one) (name_key two) ≡ before one two
key_before_is one two = ap is_lt (key_cmp one two)

-- ---- names at or below one

-- the first labels, read from the root, are those of the other
begins : Labels → Labels → Bool
begins [] name = true
begins (label ∷ above) [] = false
begins (label ∷ above) (first ∷ name) = is_eq (slice_cmp nat_cmp (lowered first) (lowered label)) && begins above name

record Begins (above name : Labels) : Type 0 where
  rest : Labels
  is : map lowered name ≡ map lowered above ++ rest

equal_from : (o : Ordering) → is_eq o ≡ true → o ≡ Equal
equal_from Less h = absurd (false≢true h)
equal_from Equal h = refl
equal_from Greater h = absurd (false≢true h)

begins_parts : (above name : Labels) → begins above name ≡ true → Begins above name
unfolding begins
begins_parts [] name h = record { rest = map lowered name; is = refl }
begins_parts (label ∷ above) [] h = absurd (false≢true h)
begins_parts (label ∷ above) (first ∷ name) h =
    let parts = and_parts (is_eq (slice_cmp nat_cmp (lowered first) (lowered label))) (begins above name) h in
    let same : lowered first ≡ lowered label =
    slice_cmp-IsAntisymmetric nat_cmp-IsAntisymmetric (lowered first) (lowered label)
    (equal_from (slice_cmp nat_cmp (lowered first) (lowered label)) parts.0) in
    let later : Begins above name = begins_parts above name parts.1 in
    record {
      rest = later.rest;
      is = ap (λ (l : Label). l ∷ map lowered name) same ∙ ap (λ (m : Labels). lowered label ∷ m) later.is;
    }

begins_made : (above name : Labels) (rest : Labels) → map lowered name ≡ map lowered above ++ rest
    → begins above name ≡ true
unfolding begins
begins_made [] name rest is = refl
begins_made (label ∷ above) [] rest is = absurd (omega (arith, ap length is))
begins_made (label ∷ above) (first ∷ name) rest is =
    let same : lowered first ≡ lowered label = cc in
    let later : map lowered name ≡ map lowered above ++ rest = cc in
    and_from (is_eq (slice_cmp nat_cmp (lowered first) (lowered label))) (begins above name)
    (ap (λ l. is_eq (slice_cmp nat_cmp l (lowered label))) same
    ∙ ap is_eq (tied_itself nat_list_cmp_total (lowered label)))
    (begins_made above name rest later)

-- a test that holds where another does, and the other way round, is that one
one_test : (p q : Bool) → (p ≡ true → q ≡ true) → (q ≡ true → p ≡ true) → p ≡ q
one_test true true f g = refl
one_test true false f g = sym (f refl)
one_test false true f g = g refl
one_test false false f g = refl

begins_is : (above name : Labels) → begins (reverse above) (reverse name) ≡ at_or_above above name
begins_is above name =
    one_test (begins (reverse above) (reverse name)) (at_or_above above name)
    (λ h.
    let i : Begins (reverse above) (reverse name) = begins_parts (reverse above) (reverse name) h in
    let e : reverse (folded name) ≡ reverse (folded above) ++ i.rest =
    reverse_lowered name ∙ i.is ∙ ap (λ (l : Labels). l ++ i.rest) (sym (reverse_lowered above)) in
    below_made above name (record {
      front = reverse i.rest;
      whole = sym (reverse-reverse (folded name)) ∙ ap reverse e ∙ reverse-append (reverse (folded above)) i.rest
          ∙ ap (λ (l : Labels). reverse i.rest ++ l) (reverse-reverse (folded above));
    }))
    (λ h.
    let i : IsBelow above name = below_parts above name h in
    begins_made (reverse above) (reverse name) (reverse i.front)
    (sym (reverse_lowered name) ∙ ap reverse i.whole ∙ reverse-append i.front (folded above)
    ∙ ap (λ (l : Labels). l ++ reverse i.front) (reverse_lowered above)))

behind_step : (o x y : Ordering) (s : Bool) → is_lt x ≡ (is_lt y || s)
    → is_lt (ordering_then o x) ≡ (is_lt (ordering_then o y) || (is_eq o && s))
behind_step Less x y s h = refl
behind_step Equal x y s h = h
behind_step Greater x y s h = refl

rooted_behind : (above name : Labels) → list_all is_bytes name ≡ true
    → is_lt (slice_cmp nat_cmp (flat_map label_key name) (flat_map label_key above ++ 255 ∷ []))
    ≡ (is_lt (slice_cmp (slice_cmp nat_cmp) (map lowered name) (map lowered above)) || begins above name)
unfolding begins
rooted_behind [] [] fits = refl
rooted_behind [] (first ∷ name) fits =
    before_last first (flat_map label_key name) (and_parts (is_bytes first) (list_all is_bytes name) fits).0
rooted_behind (label ∷ above) [] fits =
    ap (λ k. is_lt (slice_cmp nat_cmp [] k)) (append_assoc (label_key label) (flat_map label_key above) (255 ∷ []))
    ∙ ap is_lt (first_of_all label (flat_map label_key above ++ 255 ∷ []))
rooted_behind (label ∷ above) (first ∷ name) fits =
    let rest = and_parts (is_bytes first) (list_all is_bytes name) fits in
    ap (λ k. is_lt (slice_cmp nat_cmp (label_key first ++ flat_map label_key name) k))
    (append_assoc (label_key label) (flat_map label_key above) (255 ∷ []))
    ∙ ap is_lt (label_step first label (flat_map label_key name) (flat_map label_key above ++ 255 ∷ []))
    ∙ behind_step (slice_cmp nat_cmp (lowered first) (lowered label))
    (slice_cmp nat_cmp (flat_map label_key name) (flat_map label_key above ++ 255 ∷ []))
    (slice_cmp (slice_cmp nat_cmp) (map lowered name) (map lowered above)) (begins above name)
    (rooted_behind above name rest.1)

all_reversed : (name : Labels) → list_all is_bytes name ≡ true → list_all is_bytes (reverse name) ≡ true
all_reversed [] h = refl
all_reversed (label ∷ above) h =
    let parts = and_parts (is_bytes label) (list_all is_bytes above) h in
    ap (list_all is_bytes) (reverse-append (label ∷ []) above) ∙ list_all-append is_bytes (reverse above) (label ∷ [])
    ∙ and_from (list_all is_bytes (reverse above)) (list_all is_bytes (label ∷ [])) (all_reversed above parts.1)
    (and_from (is_bytes label) true parts.0 refl)

pub before_behind : (name above : Labels) → list_all is_bytes name ≡ true
    → key_before (name_key name) (behind above) ≡ (before name above || at_or_above above name)
before_behind name above fits =
    ap (λ k. key_before k (behind above)) (from_root name)
    ∙ ap (λ k. key_before (flat_map label_key (reverse name)) (k ++ 255 ∷ [])) (from_root above)
    ∙ rooted_behind (reverse above) (reverse name) (all_reversed name fits)
    ∙ ap (λ b. is_lt (slice_cmp (slice_cmp nat_cmp) (map lowered (reverse name)) (map lowered (reverse above))) || b)
    (begins_is above name)
    ∙ ap (λ n. is_lt (slice_cmp (slice_cmp nat_cmp) n (map lowered (reverse above))) || at_or_above above name)
    (sym (reverse_lowered name))
    ∙ ap (λ n. is_lt (slice_cmp (slice_cmp nat_cmp) (reverse (folded name)) n) || at_or_above above name)
    (sym (reverse_lowered above))

-- ---- the names that a record spans

or_nothing : (x : Bool) → x ≡ (x || false)
or_nothing true = refl
or_nothing false = refl

ends_before : (name : Labels) (nsec : OwnedNsec) (back : Bool) → list_all is_bytes name ≡ true
    → key_before (name_key name) (cond back (behind nsec.fields.next) (name_key nsec.fields.next))
    ≡ (before name nsec.fields.next || (back && at_or_above nsec.fields.next name))
ends_before name nsec true fits = before_behind name nsec.fields.next fits
ends_before name nsec false fits = key_before_is name nsec.fields.next ∙ or_nothing (before name nsec.fields.next)

pub spans_by_keys : (name : Labels) (nsec : OwnedNsec) → list_all is_bytes name ≡ true
    → (key_before (name_key nsec.owner) (name_key name) && key_before (name_key name) (end_key nsec))
    ≡ nsec_spans name nsec
spans_by_keys name nsec fits =
    ap (λ b. b && key_before (name_key name) (end_key nsec)) (key_before_is nsec.owner name)
    ∙ ap (λ b. before nsec.owner name && b) (ends_before name nsec (leads_back nsec) fits)

-- ---- the end of a record

-- keys tell whether a record leads back
pub back_by_keys : (nsec : OwnedNsec) (owner next : List ℕ) → owner ≡ name_key nsec.owner
    → next ≡ name_key nsec.fields.next → is_le (slice_cmp nat_cmp next owner) ≡ leads_back nsec
back_by_keys nsec owner next own its =
    ap (λ k. is_le (slice_cmp nat_cmp next k)) own ∙ ap (λ k. is_le (slice_cmp nat_cmp k (name_key nsec.owner))) its
    ∙ ap is_le (key_cmp nsec.fields.next nsec.owner)

-- records with the same two names end alike
pub same_end : (one two : OwnedNsec) → one.owner ≡ two.owner → one.fields.next ≡ two.fields.next
    → end_key one ≡ end_key two
same_end one two owner next =
    ap (λ n. cond (is_le (name_cmp n one.owner)) (behind n) (name_key n)) next
    ∙ ap (λ n. cond (is_le (name_cmp two.fields.next n)) (behind two.fields.next) (name_key two.fields.next)) owner

-- ---- how long a key is

pub key_length : (name : Labels) → length (name_key name) + 1 ≡ length (wire name)
unfolding name_key
key_length [] = refl
key_length (label ∷ above) =
    omega (
      arith,
      key_length above,
      length-append (name_key above) (label_key label),
      length-append (map symbol label) (0 ∷ []),
      length-map label symbol,
      length-append label (wire above),
    )

pub key_fits : (name : Labels) → is_name name ≡ true → length (name_key name) < 255
key_fits name is =
    omega (
      arith,
      key_length name,
      leb-true (length (wire name)) 255 (and_parts (list_all is_label name) (nat_le (length (wire name)) 255) is).1,
    )

pub key_of : (name : Labels) (label : Label) (above : Labels) → name ≡ label ∷ above
    → name_key name ≡ name_key above ++ label_key label
unfolding name_key
key_of name label above is = ap name_key is

pub key_length_of : (name : Labels) (label : Label) (above : Labels) → name ≡ label ∷ above
    → length (name_key name) ≡ length (name_key above) + length (label_key label)
key_length_of name label above is = ap length (key_of name label above is)
    ∙ length-append (name_key above) (label_key label)

pub key_of_root : (name : Labels) → name ≡ [] → name_key name ≡ []
unfolding name_key
key_of_root name is = ap name_key is
