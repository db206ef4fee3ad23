-- Spans chained from the last to the first.
use Rattle.std.proofs.Common.{◌≡◌, ℕ, ◌+◌, ◌<◌, List, length, get_or, set, Option, None, Some, sym, ap, ◌∙◌, arith, ⊎_elim}
use Rattle.std.specs.Prelude.{replicate}
use Rattle.std.proofs.Math.ListN.{length-set}
use Rattle.std.proofs.lemmas.Bool.{cases_eq, eq-eqb, ne_eqb}
use Rattle.std.proofs.lemmas.List.{length-replicate, get_or-replicate, get_or-set_same, get_or-set_other}
use Rattle.dns_denial_index.specs.declared.spans.Span.{Span}
use Rattle.dns_denial_index.specs.Spans.{starts_at, first_from, nowhere, start_of}
use Rattle.dns_denial_index.specs.Stack.{AreChained}
use Rattle.dns_denial_index.proofs.Firsts.{first_past, first_here, first_later}

-- none is chained yet
pub chained_none : (spans : List Span) (from places : ℕ) (first following : List (Option ℕ)) → from ≡ length spans
    → first ≡ replicate places None → following ≡ replicate (length spans) None
    → AreChained spans from places first following
chained_none spans from places first following all f g = record {
  wide = ap length f ∙ length-replicate places None;
  long = ap length g ∙ length-replicate (length spans) None;
  begun = λ place lt.
      ap (λ l. get_or l place None) f ∙ get_or-replicate places place None None lt
      ∙ sym (first_past (starts_at place) from spans (omega (arith, all)));
  next = λ number le lt. absurd (omega (arith, le, lt, all));
}

-- one more is
pub chained_more : (spans : List Span) (next from places : ℕ) (first following : List (Option ℕ))
    → AreChained spans next places first following
    → next ≡ from + 1 → from < length spans → start_of spans from < places
    → AreChained spans from places (set first (start_of spans from) (Some from))
    (set following from (get_or first (start_of spans from) None))
chained_more spans next from places first following is step within inside =
    let start : ℕ = start_of spans from in
    let wide : length first ≡ places = is.wide in
    let long : length following ≡ length spans = is.long in
    record {
      wide = length-set first start (Some from) ∙ wide;
      long = length-set following from (get_or first start None) ∙ long;
      begun = λ place lt.
          ⊎_elim {A = place ≡ start} {B = place ≡ start → ⊥}
          {C = get_or (set first start (Some from)) place None ≡ first_from (starts_at place) from spans}
          (λ same.
          ap (λ k. get_or (set first start (Some from)) k None) same
          ∙ get_or-set_same first start (Some from) None (omega (arith, wide, inside))
          ∙ sym (first_here (starts_at place) from spans nowhere within (eq-eqb start place (sym same))))
          (λ other.
          get_or-set_other first start place (Some from) None other ∙ is.begun place lt
          ∙ ap (λ n. first_from (starts_at place) n spans) step
          ∙ sym (first_later (starts_at place) from spans nowhere within (ne_eqb start place (λ e. other (sym e)))))
          (cases_eq place start);
      next = λ number le lt.
          ⊎_elim {A = number ≡ from} {B = number ≡ from → ⊥}
          {C = get_or (set following from (get_or first start None)) number None
          ≡ first_from (starts_at (start_of spans number)) (number + 1) spans}
          (λ same.
          ap (λ k. get_or (set following from (get_or first start None)) k None) same
          ∙ get_or-set_same following from (get_or first start None) None (omega (arith, long, within))
          ∙ is.begun start inside
          ∙ ap (λ n. first_from (starts_at start) n spans) step
          ∙ ap (λ k. first_from (starts_at (start_of spans k)) (k + 1) spans) (sym same))
          (λ other. get_or-set_other following from number (get_or first start None) None other
          ∙ is.next number (omega (arith, le, other, step)) lt)
          (cases_eq number from);
    }
