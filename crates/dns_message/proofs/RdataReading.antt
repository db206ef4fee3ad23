-- Reading an rdata field by field.
use Rattle.std.proofs.Common.{◌≡◌, ℕ, zero, suc, ◌+◌, ◌<◌, ◌≤◌, Bool, true, false, cond, List, [], ◌∷◌, ◌++◌, length, get_or, drop, map, Option, None, Some, refl, sym, ap, ◌∙◌, append_assoc, arith, drop-cons, add-one}
use Rattle.std.specs.Prelude.{◌==◌}
use Rattle.std.proofs.lemmas.List.{append-nil}
use Rattle.dns_model.specs.Shapes as shapes
use Rattle.dns_rdata.specs.declared.shape.Field.{Field}
use Rattle.dns_message.specs.RdataAt.{field_at, fields_at}
use Rattle.dns_rdata.specs.Fields.{field_value}
use Rattle.dns_message.specs.Fitting.{IsAppended}
use Rattle.dns_model.specs.OptionSteps.{◌>>=◌}

abbrev pub with_bytes : List ℕ → Option (List ℕ) → Option (List ℕ)
with_bytes front more = more >>= λ rest. Some (front ++ rest)

abbrev pub after_field : Option (List ℕ × ℕ) → (ℕ → Option (List ℕ)) → Option (List ℕ)
after_field front more = front >>= λ f. with_bytes f.0 (more f.1)

no_front : (o : Option (List ℕ)) → with_bytes [] o ≡ o
no_front None = refl
no_front (Some bytes) = refl

pub fields_start : (into : List ℕ) (fields : List shapes.Field) (bytes : List ℕ) (at stop : ℕ) → into ≡ []
    → with_bytes into (fields_at fields bytes at stop) ≡ fields_at fields bytes at stop
fields_start into fields bytes at stop none = rw none (no_front (fields_at fields bytes at stop))

joined : (a b : List ℕ) (o : Option (List ℕ)) → with_bytes (a ++ b) o ≡ with_bytes a (with_bytes b o)
joined a b None = refl
joined a b (Some bytes) = ap Some (append_assoc a b bytes)

-- the fields that are left, the first of them apart
pub record IsNext (shape : List Field) (i : ℕ) (field : Field) : Type 0 where
  pub parts : map field_value (drop i shape) ≡ field_value field ∷ map field_value (drop (i + 1) shape)

pub next_field : (shape : List Field) (i : ℕ) (d : Field) → i < length shape → IsNext shape i (get_or shape i d)
next_field shape i d lt =
    let parts : drop i shape ≡ get_or shape i d ∷ drop (i + 1) shape = drop-cons shape i d lt
    ∙ ap (λ (k : ℕ). get_or shape i d ∷ drop k shape) (sym (add-one i)) in
    record { parts = ap (map field_value) parts }

pub fields_more : (shape : List Field) (i : ℕ) (field : Field) (bytes old new : List ℕ) (pos stop next : ℕ) (total : Option (List ℕ))
    → IsNext shape i field
    → IsAppended (field_at (field_value field) bytes pos stop) old new next
    → with_bytes old (fields_at (map field_value (drop i shape)) bytes pos stop) ≡ total
    → with_bytes new (fields_at (map field_value (drop (i + 1) shape)) bytes next stop) ≡ total
unfolding fields_at
fields_more shape i field bytes old new pos stop next total n a so_far =
    let rest : Option (List ℕ) = fields_at (map field_value (drop (i + 1) shape)) bytes next stop in
    let one : fields_at (map field_value (drop i shape)) bytes pos stop ≡ with_bytes a.front rest =
    ap (λ (fields : List shapes.Field). fields_at fields bytes pos stop) n.parts
    ∙ ap (λ (o : Option (List ℕ × ℕ)). after_field o (λ k. fields_at (map field_value (drop (i + 1) shape)) bytes k stop)) a.told in
    ap (λ (b : List ℕ). with_bytes b rest) a.grown ∙ joined old a.front rest ∙ ap (with_bytes old) (sym one) ∙ so_far

pub fields_none : (shape : List Field) (i : ℕ) (field : Field) (bytes old : List ℕ) (pos stop : ℕ) (total : Option (List ℕ))
    → IsNext shape i field
    → field_at (field_value field) bytes pos stop ≡ None
    → with_bytes old (fields_at (map field_value (drop i shape)) bytes pos stop) ≡ total
    → None ≡ total
unfolding fields_at
fields_none shape i field bytes old pos stop total n none so_far =
    let one : fields_at (map field_value (drop i shape)) bytes pos stop ≡ None =
    ap (λ (fields : List shapes.Field). fields_at fields bytes pos stop) n.parts
    ∙ ap (λ (o : Option (List ℕ × ℕ)). after_field o (λ k. fields_at (map field_value (drop (i + 1) shape)) bytes k stop)) none in
    sym (ap (with_bytes old) one) ∙ so_far

drop_past : (shape : List Field) (i : ℕ) → length shape ≤ i → drop i shape ≡ []
drop_past [] zero h = refl
drop_past [] (suc i) h = refl
drop_past (f ∷ shape) zero h = absurd (omega arith)
drop_past (f ∷ shape) (suc i) h = drop_past shape i (omega arith)

ended : (b : Bool) (old : List ℕ) → with_bytes old (cond {A = Option (List ℕ)} b (Some []) None) ≡ cond b (Some old) None
ended true old = ap Some (append-nil old)
ended false old = refl

-- no field is left
pub fields_done : (shape : List Field) (i : ℕ) (bytes old : List ℕ) (pos stop : ℕ) (total : Option (List ℕ)) → length shape ≤ i
    → with_bytes old (fields_at (map field_value (drop i shape)) bytes pos stop) ≡ total
    → cond (pos == stop) (Some old) None ≡ total
unfolding fields_at
fields_done shape i bytes old pos stop total past so_far =
    let one : fields_at (map field_value (drop i shape)) bytes pos stop ≡ cond (pos == stop) (Some []) None =
    ap (λ (fields : List Field). fields_at (map field_value fields) bytes pos stop) (drop_past shape i past) in
    sym (ended (pos == stop) old) ∙ ap (with_bytes old) (sym one) ∙ so_far
