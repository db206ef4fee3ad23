-- Canonical form keeps the length.
use Rattle.std.proofs.Common.{◌≡◌, ℕ, ◌+◌, ◌≤◌, true, false, nat_le, cond, List, [], ◌∷◌, map, length, take, drop, Option, None, Some, refl, sym, ap, ◌∙◌, arith, length-append, length-drop}
use Rattle.std.proofs.lemmas.List.{length-take-le}
use Rattle.std.proofs.lemmas.Bool.{leb-true}
use Rattle.std.specs.List.{concat}
use Rattle.dns_model.specs.Names.{Labels, wire}
use Rattle.dns_model.specs.NameForm.{name_in}
use Rattle.dns_model.specs.Shapes.{Field, Octets, DomainName, CharacterString, TypeBitmap, Remainder, Part, Plain, part_in, parts_in, counted_in, canonical_part, canonical_form, is_lowered_type, shape_of, is_bitmap}
use Rattle.dns_model.proofs.WireLemmas.{name_in_inverse}
use Rattle.dns_model.proofs.NameLemmas.{length-wire-folded}
use Rattle.dns_rdata.proofs.Through.{let_through, test_through}
use Rattle.dns_model.proofs.ShapeSteps.{named_front, counted_front, with_part, after_part, canonical_parts}

-- how long a part in canonical form and the bytes after it are
abbrev size_of : Part × List ℕ → ℕ
size_of p = length (canonical_part p.0) + length p.1

abbrev size_in : Option (Part × List ℕ) → ℕ
size_in None = 0
size_in (Some p) = size_of p

cut_length : (n : ℕ) (bytes : List ℕ) → n ≤ length bytes → length (take n bytes) + length (drop n bytes) ≡ length bytes
cut_length n bytes h = omega (arith, length-take-le n bytes h, length-drop n bytes)

plain_size : (n : ℕ) (bytes : List ℕ) (part : Part) (rest : List ℕ) → part_in (Octets n) bytes ≡ Some (part, rest)
    → size_of (part, rest) ≡ length bytes
plain_size n bytes part rest h =
    sym (ap size_of (let_through (nat_le n (length bytes)) (Plain (take n bytes), drop n bytes) (part, rest) h))
    ∙ cut_length n bytes (leb-true n (length bytes)
    (test_through (nat_le n (length bytes)) (Plain (take n bytes), drop n bytes) (part, rest) h))

named_size : (bytes : List ℕ) (front : Option (Labels × List ℕ)) → name_in bytes ≡ front → (part : Part) (rest : List ℕ)
    → named_front front ≡ Some (part, rest) → size_of (part, rest) ≡ length bytes
named_size bytes None e part rest h = cc
named_size bytes (Some (name, after)) e part rest h =
    let read = name_in_inverse bytes name after e in
    let folded_size = length-wire-folded name in
    sym (ap size_in h) ∙ omega (arith, ap length read.whole, length-append (wire name) after)

counted_length : (bytes text rest : List ℕ) → counted_in bytes ≡ Some (text, rest) → length text + 1 + length rest ≡ length bytes
unfolding counted_in
counted_length [] text rest h = cc
counted_length (size ∷ xs) text rest h =
    let e = ap (λ (p : List ℕ × List ℕ). length p.0 + length p.1)
    (let_through (nat_le size (length xs)) (take size xs, drop size xs) (text, rest) h) in
    let f = cut_length size xs (leb-true size (length xs)
    (test_through (nat_le size (length xs)) (take size xs, drop size xs) (text, rest) h)) in
    omega arith

counted_size : (bytes : List ℕ) (front : Option (List ℕ × List ℕ)) → counted_in bytes ≡ front → (part : Part) (rest : List ℕ)
    → counted_front front ≡ Some (part, rest) → size_of (part, rest) ≡ length bytes
counted_size bytes None e part rest h = cc
counted_size bytes (Some (text, after)) e part rest h =
    let f = counted_length bytes text after e in
    sym (ap size_in h) ∙ omega arith

part_size : (field : Field) (bytes : List ℕ) (part : Part) (rest : List ℕ) → part_in field bytes ≡ Some (part, rest)
    → size_of (part, rest) ≡ length bytes
part_size (Octets n) bytes part rest h = plain_size n bytes part rest h
part_size DomainName bytes part rest h = named_size bytes (name_in bytes) refl part rest h
part_size CharacterString bytes part rest h = counted_size bytes (counted_in bytes) refl part rest h
part_size TypeBitmap bytes part rest h = sym (ap size_of (let_through (is_bitmap bytes) (Plain bytes, []) (part, rest) h)) ∙ omega arith
part_size Remainder bytes part rest h = sym (ap size_in h) ∙ omega arith

abbrev joined : List Part → List ℕ
joined parts = concat (map canonical_part parts)

abbrev joined_in : Option (List Part) → List ℕ
joined_in None = []
joined_in (Some parts) = joined parts

parts_tail : (fields : List Field) (bytes : List ℕ) (part : Part) (rest : List ℕ) (tail : Option (List Part))
    → parts_in fields rest ≡ tail → (parts : List Part) → size_of (part, rest) ≡ length bytes
    → ((ps : List Part) → tail ≡ Some ps → length (joined ps) ≡ length rest) → with_part part tail ≡ Some parts
    → length (joined parts) ≡ length bytes
parts_tail fields bytes part rest None e parts s ih h = cc
parts_tail fields bytes part rest (Some ps) e parts s ih h =
    let i = ih ps refl in
    sym (ap (λ p. length (joined_in p)) h) ∙ omega (arith, length-append (canonical_part part) (joined ps))

parts_head : (fields : List Field) (bytes : List ℕ) (front : Option (Part × List ℕ))
    → ((part : Part) (rest : List ℕ) → front ≡ Some (part, rest) → size_of (part, rest) ≡ length bytes)
    → ((rest : List ℕ) (ps : List Part) → parts_in fields rest ≡ Some ps → length (joined ps) ≡ length rest)
    → (parts : List Part) → after_part front (parts_in fields) ≡ Some parts → length (joined parts) ≡ length bytes
parts_head fields bytes None s ih parts h = cc
parts_head fields bytes (Some (part, rest)) s ih parts h =
    parts_tail fields bytes part rest (parts_in fields rest) refl parts (s part rest refl) (ih rest) h

parts_size : (fields : List Field) (bytes : List ℕ) (parts : List Part) → parts_in fields bytes ≡ Some parts
    → length (joined parts) ≡ length bytes
unfolding parts_in
parts_size [] [] parts h = sym (ap (λ p. length (joined_in p)) h)
parts_size [] (byte ∷ bytes) parts h = cc
parts_size (field ∷ fields) bytes parts h =
    parts_head fields bytes (part_in field bytes) (part_size field bytes) (λ rest ps e. parts_size fields rest ps e) parts h

form_size : (rdata : List ℕ) (parts : Option (List Part)) → ((ps : List Part) → parts ≡ Some ps → length (joined ps) ≡ length rdata)
    → length (canonical_parts rdata parts) ≡ length rdata
form_size rdata None s = refl
form_size rdata (Some ps) s = s ps refl

pub length-canonical_form : (rtype : ℕ) (rdata : List ℕ) → length (canonical_form rtype rdata) ≡ length rdata
unfolding canonical_form
length-canonical_form rtype rdata =
    elim (is_lowered_type rtype) as (λ lowered. length (cond lowered (canonical_parts rdata (parts_in (shape_of rtype) rdata)) rdata)
    ≡ length rdata) [
      | true ↦ form_size rdata (parts_in (shape_of rtype) rdata) (parts_size (shape_of rtype) rdata)
      | false ↦ refl
    ]
