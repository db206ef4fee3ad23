-- Labels that are hashes: compared as texts as they are as hashes (RFC 4648, 7; RFC 5155, 3).
use Rattle.std.proofs.Common.{◌≡◌, ℕ, ◌%◌, Bool, true, false, ◌&&◌, cond, List, map, length, take, refl, sym, ap, ◌∙◌, arith, None, Some}
use Rattle.std.specs.Prelude.{◌↔◌, IsTrue, nat_eq, nat_le, ◌==◌}
use Rattle.std.specs.Char.{to_ascii_lowercase}
use Rattle.std.specs.Cmp.Lexicographic.{pointwise, slice_cmp}
use Rattle.std.specs.List.{list_all}
use Rattle.std.specs.Ordering.{nat_cmp}
use Rattle.std.proofs.lemmas.Bool.{and_parts}
use Rattle.std.proofs.lemmas.Bool.Decides.{nat_tests, same_from_decides}
use Rattle.std.proofs.lemmas.List.{take_all}
use Rattle.std.proofs.lemmas.Slice.Eq.{bytes_eq-Decides}
use Rattle.dns_model.specs.Nsec3Hash.{is_symbol, base32hex, base32hex_bytes, base32hex_decode, is_hash_text}
use Rattle.dns_model.specs.Owned.{OwnedNsec3}
use Rattle.dns_model.proofs.HashTextLemmas.{bytes_below, bytes_length, bytes_written, text_read, text_order}
use Rattle.dns_rules.specs.Nsec3Covering.{first_label, hash_algorithm_sha1, is_considered, owner_hash}

-- ---- texts and hashes

pub record IsText (text : List ℕ) : Type 0 where
  pub size : length text ≡ 32
  pub symbols : list_all is_symbol text ≡ true

text_parts : (text : List ℕ) → is_hash_text text ≡ true → IsText text
text_parts text h =
    let parts = and_parts (length text == 32) (list_all is_symbol text) h in
    let size : length text ≡ 32 = grind (arith, nat_tests, parts.0) in
    record { size = size; symbols = parts.1 }

-- what a hash's text is read as has 20 bytes
hash_size : (text : List ℕ) → length text ≡ 32 → length (base32hex_bytes text) ≡ 20
hash_size text size = let n = bytes_length text in omega (arith, n, size)

-- a label's hash has the label's text in lower case
pub label_written : (label : List ℕ) → is_hash_text label ≡ true
    → base32hex (base32hex_bytes label) ≡ map to_ascii_lowercase label
label_written label h =
    let t = text_parts label h in
    let size = t.size in
    let whole : length label % 8 ≡ 0 = omega (arith, size) in
    bytes_written label t.symbols whole

-- what is read is read again
read_again : (text : List ℕ) → length text ≡ 32
    → base32hex_bytes (base32hex (base32hex_bytes text)) ≡ base32hex_bytes text
read_again text size =
    let n = hash_size text size in
    let whole : length (base32hex_bytes text) % 5 ≡ 0 = omega (arith, n) in
    text_read (base32hex_bytes text) (bytes_below text) whole

-- a label in lower case is the same hash
pub label_lowered : (label : List ℕ) → is_hash_text label ≡ true
    → base32hex_bytes (map to_ascii_lowercase label) ≡ base32hex_bytes label
label_lowered label h = ap base32hex_bytes (sym (label_written label h)) ∙ read_again label (text_parts label h).size

-- a label is a hash's text, but for case, exactly where it is that hash
written_is : (label hash : List ℕ) → is_hash_text label ≡ true → base32hex_bytes (base32hex hash) ≡ hash
    → pointwise nat_eq (map to_ascii_lowercase label) (base32hex hash) ≡ pointwise nat_eq (base32hex_bytes label) hash
written_is label hash h back =
    let hashes = bytes_eq-Decides (base32hex_bytes label) hash in
    same_from_decides (pointwise nat_eq (map to_ascii_lowercase label) (base32hex hash))
    (pointwise nat_eq (base32hex_bytes label) hash)
    (bytes_eq-Decides (map to_ascii_lowercase label) (base32hex hash)) (
      λ e. sym (label_written label h) ∙ ap base32hex (hashes.0 e),
      λ e. hashes.1 (sym (label_lowered label h) ∙ ap base32hex_bytes e ∙ back),
    )

-- the test of two texts but for case
pub folded_is : (label low hash : List ℕ) (r : Bool) → (IsTrue r ↔ (map to_ascii_lowercase label ≡ low))
    → low ≡ base32hex hash
    → r ≡ pointwise nat_eq (map to_ascii_lowercase label) (base32hex hash)
folded_is label low hash r test same =
    same_from_decides r (pointwise nat_eq (map to_ascii_lowercase label) (base32hex hash))
    (λ h. test.0 h ∙ same, λ e. test.1 (e ∙ sym same))
    (bytes_eq-Decides (map to_ascii_lowercase label) (base32hex hash))

-- texts compare as their hashes do
pub texts_order : (one two : List ℕ) → length one ≡ 32 → length two ≡ 32
    → base32hex (base32hex_bytes one) ≡ one → base32hex (base32hex_bytes two) ≡ two
    → slice_cmp nat_cmp one two ≡ slice_cmp nat_cmp (base32hex_bytes one) (base32hex_bytes two)
texts_order one two h k e f =
    let m = hash_size one h in
    let n = hash_size two k in
    let whole : length (base32hex_bytes one) % 5 ≡ 0 = omega (arith, m) in
    ap (λ t. slice_cmp nat_cmp t two) (sym e) ∙ ap (slice_cmp nat_cmp (base32hex (base32hex_bytes one))) (sym f)
    ∙ text_order (base32hex_bytes one) (base32hex_bytes two) (bytes_below one) (bytes_below two) (m ∙ sym n) whole

-- twenty bytes and no more
pub first_twenty : (bytes : List ℕ) → length bytes ≡ 20 → take 20 bytes ≡ bytes
first_twenty bytes size = take_all 20 bytes (omega (arith, size))

-- ---- records that aren't ignored

owner_is_text : (nsec3 : OwnedNsec3) → is_considered nsec3 ≡ true → is_hash_text (first_label nsec3.owner) ≡ true
owner_is_text nsec3 h =
    let ends : Bool = is_hash_text (first_label nsec3.owner) && (length nsec3.fields.next == 20) in
    let first = and_parts (nsec3.fields.hash_algorithm == hash_algorithm_sha1)
    (nat_le nsec3.fields.flags 1 && ends) h in
    let second = and_parts (nat_le nsec3.fields.flags 1) ends first.1 in
    (and_parts (is_hash_text (first_label nsec3.owner)) (length nsec3.fields.next == 20) second.1).0

pub owner_decoded : (nsec3 : OwnedNsec3) → is_considered nsec3 ≡ true
    → base32hex_decode (first_label nsec3.owner) ≡ Some (owner_hash nsec3)
owner_decoded nsec3 h = ap (λ b. cond b (Some (owner_hash nsec3)) None) (owner_is_text nsec3 h)

-- an owner is a hash where it is written so and the record isn't ignored
matched_by : (written considered is : Bool) → (considered ≡ true → written ≡ is)
    → (written && considered) ≡ (considered && is)
matched_by true true is same = same refl
matched_by false true is same = same refl
matched_by true false is same = refl
matched_by false false is same = refl

pub matched : (nsec3 : OwnedNsec3) (hash : List ℕ) (written : Bool) → base32hex_bytes (base32hex hash) ≡ hash
    → pointwise nat_eq (map to_ascii_lowercase (first_label nsec3.owner)) (base32hex hash) ≡ written
    → (written && is_considered nsec3) ≡ (is_considered nsec3 && pointwise nat_eq (owner_hash nsec3) hash)
matched nsec3 hash written back is =
    matched_by written (is_considered nsec3) (pointwise nat_eq (owner_hash nsec3) hash)
    (λ h. sym is ∙ written_is (first_label nsec3.owner) hash (owner_is_text nsec3 h) back)
