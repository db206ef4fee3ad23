-- Reading a section record by record, and questions one by one.
use Rattle.std.proofs.Common.{◌≡◌, ℕ, suc, ◌+◌, ◌-◌, ◌≤◌, ◌<◌, Bool, true, false, cond, List, [], ◌∷◌, ◌++◌, length, Option, None, Some, Result, Ok, Err, refl, sym, ap, ◌∙◌, append_assoc, arith, length-append}
use Rattle.std.specs.Prelude.{◌==◌, IfSome}
use Rattle.std.proofs.lemmas.Bool.Decides.{nat_tests}
use Rattle.std.proofs.lemmas.List.{append-nil}
use Rattle.dns_model.specs.Names.{Labels, wire}
use Rattle.dns_model.specs.Records.{Rr, EdnsValue, Question}
use Rattle.dns_model.proofs.WireLemmas.{length-wire}
use Rattle.dns_message.specs.declared.decode_error.DecodeError.{DecodeError}
use Rattle.dns_message.specs.declared.decode_error.DecodeKind.{DecodeKind}
use Rattle.dns_message.specs.declared.item.Item.{Item}
use Rattle.dns_message.specs.declared.item.Item.TheVariants as item
use Rattle.dns_message.specs.declared.decode_error.DecodeKind.TheVariants.{BadOpt}
use Rattle.dns_model.specs.Types.{type_opt}
use Rattle.dns_message.specs.NameAt.{name_at}
use Rattle.dns_message.specs.RdataAt.{rdata_at}
use Rattle.dns_model.specs.ResultSteps.{◌>>=◌}
use Rattle.dns_message.specs.Reading.{fault, FailsWith, u16_field, u32_field}
use Rattle.dns_message.specs.RecordAt.{is_root, record_at, item_at, Listed, with_item, allow_opt_after, section_at}
use Rattle.dns_message.specs.MessageAt.{question_at, questions_at}
use Rattle.dns_message.proofs.Faults.{fails_on}

-- only the root's wire form is one byte
pub root_wire : (name : Labels) → (length (wire name) == 1) ≡ is_root name
root_wire [] = refl
root_wire (label ∷ name) =
    let long : 1 < length (wire (label ∷ name)) = omega (arith, length-wire name, length-append label (wire name)) in
    grind (arith, nat_tests)

-- ---- sections

abbrev pub first_opt : Option (EdnsValue × ℕ) → Option (EdnsValue × ℕ) → Option (EdnsValue × ℕ)
first_opt None later = later
first_opt (Some opt) later = Some opt

-- what was read before, and what is still read
abbrev pub with_front : List Rr → Option (EdnsValue × ℕ) → Result Listed DecodeError → Result Listed DecodeError
with_front records opt (Err e) = Err e
with_front records opt (Ok (more, later, next)) = Ok (records ++ more, first_opt opt later, next)

pub section_start : (records : List Rr) (r : Result Listed DecodeError) → records ≡ [] → with_front records None r ≡ r
section_start records (Err e) none = refl
section_start records (Ok x) none = rw none refl

kept_more : (records : List Rr) (opt : Option (EdnsValue × ℕ)) (kept : Rr) (r : Result Listed DecodeError)
    → with_front records opt (with_item (item.Kept kept) r) ≡ with_front (records ++ kept ∷ []) opt r
kept_more records opt kept (Err e) = refl
kept_more records opt kept (Ok x) = ap (λ (all : List Rr). Ok (all, first_opt opt x.1, x.2)) (simp append_assoc)

opt_more : (records : List Rr) (edns : EdnsValue) (code : ℕ) (r : Result Listed DecodeError)
    → with_front records None (with_item (item.Opt edns code) r) ≡ with_front records (Some (edns, code)) r
opt_more records edns code (Err e) = refl
opt_more records edns code (Ok x) = refl

-- the first of the records that are left, and the others
section_step : (count i : ℕ) (allow_opt : Bool) (bytes : List ℕ) (pos : ℕ) (it : Item) (next : ℕ) → i < count
    → item_at allow_opt bytes pos ≡ Ok (it, next)
    → section_at (count - i) allow_opt bytes pos ≡ with_item it (section_at (count - (i + 1)) (allow_opt_after it allow_opt) bytes next)
unfolding section_at
section_step count i allow_opt bytes pos it next lt h =
    let k : count - i ≡ suc (count - (i + 1)) = omega arith in
    rw (k, h) refl

pub section_kept : (count i : ℕ) (allow_opt : Bool) (bytes : List ℕ) (pos : ℕ) (kept : Rr) (next : ℕ) (records : List Rr)
    (opt : Option (EdnsValue × ℕ)) (total : Result Listed DecodeError)
    → i < count → item_at allow_opt bytes pos ≡ Ok (item.Kept kept, next)
    → with_front records opt (section_at (count - i) allow_opt bytes pos) ≡ total
    → with_front (records ++ kept ∷ []) opt (section_at (count - (i + 1)) allow_opt bytes next) ≡ total
section_kept count i allow_opt bytes pos kept next records opt total lt h so_far =
    sym (ap (with_front records opt) (section_step count i allow_opt bytes pos (item.Kept kept) next lt h)
    ∙ kept_more records opt kept (section_at (count - (i + 1)) allow_opt bytes next)) ∙ so_far

pub section_opt : (count i : ℕ) (allow_opt : Bool) (bytes : List ℕ) (pos : ℕ) (edns : EdnsValue) (code next : ℕ)
    (records : List Rr) (total : Result Listed DecodeError)
    → i < count → item_at allow_opt bytes pos ≡ Ok (item.Opt edns code, next)
    → with_front records None (section_at (count - i) allow_opt bytes pos) ≡ total
    → with_front records (Some (edns, code)) (section_at (count - (i + 1)) false bytes next) ≡ total
section_opt count i allow_opt bytes pos edns code next records total lt h so_far =
    sym (ap (with_front records None) (section_step count i allow_opt bytes pos (item.Opt edns code) next lt h)
    ∙ opt_more records edns code (section_at (count - (i + 1)) false bytes next)) ∙ so_far

section_fault : (count i : ℕ) (allow_opt : Bool) (bytes : List ℕ) (pos : ℕ) (records : List Rr) (opt : Option (EdnsValue × ℕ))
    (total : Result Listed DecodeError) (e : DecodeError)
    → i < count → with_front records opt (section_at (count - i) allow_opt bytes pos) ≡ total
    → item_at allow_opt bytes pos ≡ Err e → total ≡ Err e
unfolding section_at
section_fault count i allow_opt bytes pos records opt total e lt so_far h =
    let k : count - i ≡ suc (count - (i + 1)) = omega arith in
    let one : with_front records opt (section_at (count - i) allow_opt bytes pos) ≡ Err e = rw (k, h) refl in
    sym so_far ∙ one

pub section_fails : (kind : DecodeKind) (place count i : ℕ) (allow_opt : Bool) (bytes : List ℕ) (pos : ℕ) (records : List Rr)
    (opt : Option (EdnsValue × ℕ)) (total : Result Listed DecodeError)
    → i < count → with_front records opt (section_at (count - i) allow_opt bytes pos) ≡ total
    → FailsWith kind place (item_at allow_opt bytes pos) → FailsWith kind place total
section_fails kind place count i allow_opt bytes pos records opt total lt so_far h =
    fails_on kind place (item_at allow_opt bytes pos) total
    (λ e k. section_fault count i allow_opt bytes pos records opt total e lt so_far k) h

ended : (records : List Rr) (opt : Option (EdnsValue × ℕ)) (pos : ℕ) → with_front records opt (Ok ([], None, pos)) ≡ Ok (records, opt, pos)
ended records None pos = ap (λ (all : List Rr). Ok (all, None, pos)) (append-nil records)
ended records (Some opt) pos = ap (λ (all : List Rr). Ok (all, Some opt, pos)) (append-nil records)

pub section_done : (count i : ℕ) (allow_opt : Bool) (bytes : List ℕ) (pos : ℕ) (records : List Rr) (opt : Option (EdnsValue × ℕ))
    (total : Result Listed DecodeError)
    → count ≤ i → with_front records opt (section_at (count - i) allow_opt bytes pos) ≡ total → total ≡ Ok (records, opt, pos)
unfolding section_at
section_done count i allow_opt bytes pos records opt total past so_far =
    let k : count - i ≡ 0 = omega arith in
    let one : with_front records opt (section_at (count - i) allow_opt bytes pos) ≡ Ok (records, opt, pos) = rw k (ended records opt pos) in
    sym so_far ∙ one

-- the value of a step that did not fail
pub bind_ok : {A B : Type 0} (r : Result A DecodeError) (f : A → Result B DecodeError) (y : B) → (r >>= f) ≡ Ok y
    → (x : A) × (r ≡ Ok x) × (f x ≡ Ok y)
bind_ok (Ok x) f y e = (x, refl, e)
bind_ok (Err d) f y e = absurd cc

abbrev pub is_kept : Item → Bool
is_kept (item.Kept kept) = true
is_kept (item.Opt edns code) = false

first_kept : (a b : Item × ℕ) → is_kept a.0 ≡ true → (let r : Result (Item × ℕ) DecodeError = Ok a in r) ≡ Ok b → is_kept b.0 ≡ true
first_kept a b kept e = let same : a ≡ b = cc in ap (λ (x : Item × ℕ). is_kept x.0) (sym same) ∙ kept

pub record_kept : (owner : Labels) (rtype : ℕ) (bytes : List ℕ) (pos : ℕ) (x : Item × ℕ) → record_at owner rtype bytes pos ≡ Ok x
    → is_kept x.0 ≡ true
unfolding record_at
record_kept owner rtype bytes pos x e =
    let a = bind_ok (u16_field bytes pos) _ x e in
    let b = bind_ok (u32_field bytes a.0.1) _ x a.2 in
    let c = bind_ok (u16_field bytes b.0.1) _ x b.2 in
    let d = bind_ok (rdata_at rtype a.0.0 bytes c.0.0 c.0.1) _ x c.2 in
    first_kept _ x refl d.2

chosen_kept : (opt : Bool) (bytes : List ℕ) (pos : ℕ) (owner : Labels) (rtype next : ℕ) (x : Item × ℕ)
    → cond opt (Err (fault BadOpt pos)) (record_at owner rtype bytes next) ≡ Ok x → is_kept x.0 ≡ true
chosen_kept true bytes pos owner rtype next x e = absurd cc
chosen_kept false bytes pos owner rtype next x e = record_kept owner rtype bytes next x e

-- where none may stand no OPT is taken
closed_kept : (bytes : List ℕ) (pos : ℕ) (x : Item × ℕ) → item_at false bytes pos ≡ Ok x → is_kept x.0 ≡ true
unfolding item_at
closed_kept bytes pos x e =
    let a = bind_ok (name_at bytes pos) _ x e in
    let b = bind_ok (u16_field bytes a.0.1) _ x a.2 in
    chosen_kept (b.0.0 == type_opt) bytes pos a.0.0 b.0.0 b.0.1 x b.2

pub opt_allowed : (allow_opt : Bool) (bytes : List ℕ) (pos : ℕ) (edns : EdnsValue) (code next : ℕ)
    → item_at allow_opt bytes pos ≡ Ok (item.Opt edns code, next) → allow_opt ≡ true
opt_allowed true bytes pos edns code next h = refl
opt_allowed false bytes pos edns code next h = let kept = closed_kept bytes pos (item.Opt edns code, next) h in absurd cc

-- ---- questions

abbrev pub with_questions : List Question → Result (List Question × ℕ) DecodeError → Result (List Question × ℕ) DecodeError
with_questions queries (Err e) = Err e
with_questions queries (Ok (more, next)) = Ok (queries ++ more, next)

pub questions_start : (queries : List Question) (r : Result (List Question × ℕ) DecodeError) → queries ≡ [] → with_questions queries r ≡ r
questions_start queries (Err e) none = refl
questions_start queries (Ok x) none = rw none refl

one_question : (queries : List Question) (query : Question) (r : Result (List Question × ℕ) DecodeError)
    → with_questions queries (◌>>=◌ {B = List Question × ℕ} r (λ others. Ok (query ∷ others.0, others.1)))
    ≡ with_questions (queries ++ query ∷ []) r
one_question queries query (Err e) = refl
one_question queries query (Ok x) = ap (λ (all : List Question). Ok (all, x.1)) (simp append_assoc)

pub questions_more : (count i : ℕ) (bytes : List ℕ) (pos : ℕ) (query : Question) (next : ℕ) (queries : List Question)
    (total : Result (List Question × ℕ) DecodeError)
    → i < count → question_at bytes pos ≡ Ok (query, next) → with_questions queries (questions_at (count - i) bytes pos) ≡ total
    → with_questions (queries ++ query ∷ []) (questions_at (count - (i + 1)) bytes next) ≡ total
unfolding questions_at
questions_more count i bytes pos query next queries total lt h so_far =
    let k : count - i ≡ suc (count - (i + 1)) = omega arith in
    let one : with_questions queries (questions_at (count - i) bytes pos) ≡ with_questions (queries
    ++ query ∷ []) (questions_at (count - (i + 1)) bytes next) =
    rw (k, h) (one_question queries query (questions_at (count - (i + 1)) bytes next)) in
    sym one ∙ so_far

questions_fault : (count i : ℕ) (bytes : List ℕ) (pos : ℕ) (queries : List Question)
    (total : Result (List Question × ℕ) DecodeError) (e : DecodeError)
    → i < count → with_questions queries (questions_at (count - i) bytes pos) ≡ total → question_at bytes pos ≡ Err e → total ≡ Err e
unfolding questions_at
questions_fault count i bytes pos queries total e lt so_far h =
    let k : count - i ≡ suc (count - (i + 1)) = omega arith in
    let one : with_questions queries (questions_at (count - i) bytes pos) ≡ Err e = rw (k, h) refl in
    sym so_far ∙ one

pub questions_fail : (kind : DecodeKind) (place count i : ℕ) (bytes : List ℕ) (pos : ℕ) (queries : List Question)
    (total : Result (List Question × ℕ) DecodeError)
    → i < count → with_questions queries (questions_at (count - i) bytes pos) ≡ total → FailsWith kind place (question_at bytes pos)
    → FailsWith kind place total
questions_fail kind place count i bytes pos queries total lt so_far h =
    fails_on kind place (question_at bytes pos) total (λ e k. questions_fault count i bytes pos queries total e lt so_far k) h

pub questions_done : (count i : ℕ) (bytes : List ℕ) (pos : ℕ) (queries : List Question) (total : Result (List Question × ℕ) DecodeError)
    → count ≤ i → with_questions queries (questions_at (count - i) bytes pos) ≡ total → total ≡ Ok (queries, pos)
unfolding questions_at
questions_done count i bytes pos queries total past so_far =
    let k : count - i ≡ 0 = omega arith in
    let one : with_questions queries (questions_at (count - i) bytes pos) ≡ Ok (queries, pos) =
    rw k (ap (λ (all : List Question). Ok (all, pos)) (append-nil queries)) in
    sym so_far ∙ one

-- where one may stand, none was taken before
pub none_before : (opt : Option (EdnsValue × ℕ)) (allow_opt : Bool) → IfSome opt (λ x. allow_opt ≡ false) → allow_opt ≡ true → opt ≡ None
none_before None allow_opt once free = refl
none_before (Some opt) allow_opt once free = absurd cc
