-- An rdata is read field by field.
use Rattle.std.proofs.Common.{◌≡◌, ℕ, ◌+◌, ◌≤◌, ◌<◌, ◌==◌, suc, cond, List, [], ◌∷◌, ◌++◌, map, length, drop, get_or, Option, None, Some, refl, sym, ap, ◌∙◌, arith, append_assoc, add-one, unwrap_or}
use Rattle.std.specs.Option.{is_some}
use Rattle.std.specs.List.{concat}
use Rattle.std.proofs.lemmas.List.{append-nil, drop-map}
use Rattle.std.proofs.Math.Seq.{drop-cons}
use Rattle.std.proofs.lemmas.Bool.Decides.{nat_tests}
use Rattle.std.proofs.lemmas.Grind.{common_steps}
use Rattle.dns_model.specs.Shapes as shape
use Rattle.dns_model.specs.Shapes.{Part, part_in, parts_in, canonical_part, canonical_form, is_lowered_type, shape_of, has_shape}
use Rattle.dns_rdata.specs.Fields.{field_value}
use Rattle.dns_rdata.specs.Lowered.{lowered_form, lowered_parts}
use Rattle.dns_rdata.specs.declared.shape.Field.{Field}
use Rattle.dns_model.proofs.ShapeSteps.{with_part, after_part, canonical_parts}

-- the parts still to be read, put behind those that were read
abbrev pub behind : List ℕ → Option (List Part) → Option (List ℕ)
behind done None = None
behind done (Some parts) = Some (done ++ concat (map canonical_part parts))

canonical_parts_as : (rdata : List ℕ) (parts : Option (List Part)) → canonical_parts rdata parts ≡ unwrap_or (lowered_parts parts) rdata
canonical_parts_as rdata None = refl
canonical_parts_as rdata (Some parts) = refl

-- canonical form, by the form with lowered names
pub canonical_as : (rtype : ℕ) (rdata : List ℕ)
    → canonical_form rtype rdata ≡ cond (is_lowered_type rtype) (unwrap_or (lowered_form rtype rdata) rdata) rdata
unfolding canonical_form
canonical_as rtype rdata = ap (λ form. cond (is_lowered_type rtype) form rdata) (canonical_parts_as rdata (parts_in (shape_of rtype) rdata))

fields_more : (fields : List Field) (i : ℕ) (d : Field) → i < length fields
    → drop i (map field_value fields) ≡ field_value (get_or fields i d) ∷ drop (i + 1) (map field_value fields)
fields_more fields i d h =
    drop-map field_value i fields
    ∙ (ap (map field_value) (drop-cons fields i d h)
    ∙ ap (λ fs. field_value (get_or fields i d) ∷ fs) (sym (drop-map field_value (suc i) fields)
    ∙ ap (λ n. drop n (map field_value fields)) (sym (add-one i))))

part_more : (field : shape.Field) (fields : List shape.Field) (bytes : List ℕ) (part : Part) (rest : List ℕ)
    → part_in field bytes ≡ Some (part, rest) → parts_in (field ∷ fields) bytes ≡ with_part part (parts_in fields rest)
unfolding parts_in
part_more field fields bytes part rest e = ap (λ front. after_part front (parts_in fields)) e

part_none : (field : shape.Field) (fields : List shape.Field) (bytes : List ℕ) → part_in field bytes ≡ None
    → parts_in (field ∷ fields) bytes ≡ None
unfolding parts_in
part_none field fields bytes e = ap (λ front. after_part front (parts_in fields)) e

pub parts_more : (fields : List Field) (i : ℕ) (d : Field) (bytes : List ℕ) (part : Part) (rest : List ℕ) → i < length fields
    → part_in (field_value (get_or fields i d)) bytes ≡ Some (part, rest)
    → parts_in (drop i (map field_value fields)) bytes ≡ with_part part (parts_in (drop (i + 1) (map field_value fields)) rest)
parts_more fields i d bytes part rest h p =
    ap (λ fs. parts_in fs bytes) (fields_more fields i d h)
    ∙ part_more (field_value (get_or fields i d)) (drop (i + 1) (map field_value fields)) bytes part rest p

pub parts_none : (fields : List Field) (i : ℕ) (d : Field) (bytes : List ℕ) → i < length fields
    → part_in (field_value (get_or fields i d)) bytes ≡ None → parts_in (drop i (map field_value fields)) bytes ≡ None
parts_none fields i d bytes h p =
    ap (λ fs. parts_in fs bytes) (fields_more fields i d h)
    ∙ part_none (field_value (get_or fields i d)) (drop (i + 1) (map field_value fields)) bytes p

no_fields : (fields : List Field) (i : ℕ) → length fields ≤ i → drop i (map field_value fields) ≡ []
no_fields fields i h = grind (arith, common_steps)

parts_all_at : (bytes : List ℕ) → length bytes ≡ 0 → parts_in [] bytes ≡ Some []
unfolding parts_in
parts_all_at [] h = refl
parts_all_at (x ∷ xs) h = absurd (omega arith)

parts_over_at : (bytes : List ℕ) → 0 < length bytes → parts_in [] bytes ≡ None
unfolding parts_in
parts_over_at [] h = absurd (omega arith)
parts_over_at (x ∷ xs) h = refl

pub parts_all : (fields : List Field) (i : ℕ) (bytes : List ℕ) → length fields ≤ i → length bytes ≡ 0
    → parts_in (drop i (map field_value fields)) bytes ≡ Some []
parts_all fields i bytes h e = ap (λ fs. parts_in fs bytes) (no_fields fields i h) ∙ parts_all_at bytes e

pub parts_over : (fields : List Field) (i : ℕ) (bytes : List ℕ) → length fields ≤ i → 0 < length bytes
    → parts_in (drop i (map field_value fields)) bytes ≡ None
parts_over fields i bytes h e = ap (λ fs. parts_in fs bytes) (no_fields fields i h) ∙ parts_over_at bytes e

pub behind_with : (done : List ℕ) (part : Part) (parts : Option (List Part))
    → behind done (with_part part parts) ≡ behind (done ++ canonical_part part) parts
behind_with done part None = refl
behind_with done part (Some parts) = ap Some (sym (append_assoc done (canonical_part part) (concat (map canonical_part parts))))

pub behind_start : (parts : Option (List Part)) → behind [] parts ≡ lowered_parts parts
behind_start None = refl
behind_start (Some parts) = refl

pub behind_end : (done : List ℕ) → behind done (Some []) ≡ Some done
behind_end done = ap Some (append-nil done)

decided_at : (bytes : List ℕ) → is_some (parts_in [] bytes) ≡ (length bytes == 0)
unfolding parts_in
decided_at [] = refl
decided_at (x ∷ xs) = grind (arith, nat_tests)

-- where no field is left, no byte may be left
pub parts_decided : (fields : List Field) (i : ℕ) (bytes : List ℕ) → length fields ≤ i
    → is_some (parts_in (drop i (map field_value fields)) bytes) ≡ (length bytes == 0)
parts_decided fields i bytes h = ap (λ fs. is_some (parts_in fs bytes)) (no_fields fields i h) ∙ decided_at bytes
