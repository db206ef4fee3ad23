-- The stack of spans: its top counts at a place, and it stays the stack of what isn't over.
use Rattle.std.proofs.Common.{◌≡◌, ℕ, ◌+◌, ◌-◌, ◌<◌, ◌≤◌, true, ◌||◌, List, [], ◌∷◌, ◌++◌, length, get_or, reverse, Option, None, Some, refl, sym, ap, subst, ◌∙◌, arith, ◌⊎◌, inl, inr, ⊎_elim}
use Rattle.std.specs.Prelude.{nat_lt, nat_le, ◌==◌, position}
use Rattle.std.specs.List.{list_any, sum_by}
use Rattle.std.proofs.lemmas.Bool.{and_parts, and_from, or_cases, or_left, or_right, ltb-true, lt-ltb, le-ltb, leb-true, le-leb, eqb-true, eq-eqb, both_ways, false_from_ne_true, false≢true, cases_lt}
use Rattle.std.proofs.lemmas.List.{get_or_default, reverse-append, length_push, get_or_append_left, get_or_push}
use Rattle.std.proofs.lemmas.List.Sums.{sum_by_push}
use Rattle.dns_denial.proofs.Best.{IsBest, best_found}
use Rattle.dns_denial_index.specs.declared.spans.Span.{Span}
use Rattle.dns_denial_index.specs.Spans.{covers, starts_before, counts_at, starts_at, first_from, nowhere, start_of, end_of}
use Rattle.dns_denial_index.specs.Stack.{heads, Falls, StandsOn, Stands, AreCounting}
use Rattle.dns_denial_index.proofs.Firsts.{IsFirst, found_first, none_first}

-- ---- what a place says of the stack

same_start : (spans : List Span) (number top : ℕ) → heads spans number top ≡ true
    → start_of spans top ≡ start_of spans number
same_start spans number top h =
    eqb-true (start_of spans top) (start_of spans number)
    (and_parts (start_of spans top == start_of spans number) (nat_le top number) h).0

no_later : (spans : List Span) (number top : ℕ) → heads spans number top ≡ true → top ≤ number
no_later spans number top h =
    leb-true top number (and_parts (start_of spans top == start_of spans number) (nat_le top number) h).1

headed_by : (spans : List Span) (number top : ℕ) → start_of spans top ≡ start_of spans number → top ≤ number
    → heads spans number top ≡ true
headed_by spans number top same le =
    and_from (start_of spans top == start_of spans number) (nat_le top number)
    (eq-eqb (start_of spans top) (start_of spans number) same) (le-leb top number le)

-- a span with its head in a stack starts before the place
headed : (spans : List Span) (place : ℕ) (stack : List ℕ) (number : ℕ) → Falls spans place stack
    → list_any (heads spans number) stack ≡ true → start_of spans number < place
headed spans place [] number falls h = absurd (false≢true h)
headed spans place (top ∷ below) number falls h =
    let under : start_of spans top < place = falls.1 in
    ⊎_elim
    (λ here. let same : start_of spans top ≡ start_of spans number = same_start spans number top here in
    omega (arith, under, same))
    (λ lower. let less : start_of spans number < start_of spans top =
    headed spans (start_of spans top) below number falls.2 lower in
    omega (arith, under, less))
    (or_cases (heads spans number top) (list_any (heads spans number) below) h)

falls_wider : (spans : List Span) (low high : ℕ) (stack : List ℕ) → low ≤ high → Falls spans low stack
    → Falls spans high stack
falls_wider spans low high [] le falls = falls
falls_wider spans low high (top ∷ below) le falls =
    let under : start_of spans top < low = falls.1 in
    (falls.0, omega (arith, under, le), falls.2)

-- a span around the place starts before the top one, or with it and isn't before it in the list
abbrev IsUnder : List Span → ℕ → ℕ → Type 0
IsUnder spans number top =
    (start_of spans number < start_of spans top) ⊎ ((start_of spans top ≡ start_of spans number) × (top ≤ number))

under_top : (spans : List Span) (place top : ℕ) (below : List ℕ) (number : ℕ) → StandsOn spans place (top ∷ below)
    → number < length spans
    → covers place (get_or spans number nowhere) ≡ true → IsUnder spans number top
under_top spans place top below number stands within around =
    let parts = and_parts (nat_lt (start_of spans number) place) (nat_lt place (end_of spans number)) around in
    ⊎_elim {A = heads spans number top ≡ true} {B = list_any (heads spans number) below ≡ true} {C =
    IsUnder spans number top}
    (λ here. inr (same_start spans number top here, no_later spans number top here))
    (λ lower. inl (headed spans (start_of spans top) below number stands.falls.2 lower))
    (or_cases (heads spans number top) (list_any (heads spans number) below)
    (stands.heads number within (ltb-true (start_of spans number) place parts.0)
    (ltb-true place (end_of spans number) parts.1)))

-- the top that isn't over counts
pub counting_top : (spans : List Span) (place top : ℕ) (below : List ℕ) → StandsOn spans place (top ∷ below)
    → place < end_of spans top
    → position (counts_at place spans) spans ≡ Some top
counting_top spans place top below stands lasting =
    let best : Span = get_or spans top nowhere in
    let within : top < length spans = stands.falls.0 in
    let is : IsBest (covers place) starts_before spans (length spans) top best = record {
      within = within;
      at = get_or_default spans top nowhere best within;
      counts = and_from (nat_lt (start_of spans top) place) (nat_lt place (end_of spans top))
          (lt-ltb (start_of spans top) place stands.falls.1) (lt-ltb place (end_of spans top) lasting);
      top = λ k d lt passes.
          let e : get_or spans k d ≡ get_or spans k nowhere = get_or_default spans k d nowhere lt in
          let low : start_of spans k ≤ start_of spans top =
          ⊎_elim (λ less. omega (arith, less)) (λ same. omega (arith, same.0))
          (under_top spans place top below k stands lt (ap (covers place) (sym e) ∙ passes)) in
          ap (starts_before best) e ∙ le-ltb (start_of spans top) (start_of spans k) low;
      first = λ k d lt passes.
          let inside : k < length spans = omega (arith, lt, within) in
          let e : get_or spans k d ≡ get_or spans k nowhere = get_or_default spans k d nowhere inside in
          let low : start_of spans k < start_of spans top =
          ⊎_elim (λ less. less) (λ same. absurd (omega (arith, same.1, lt)))
          (under_top spans place top below k stands inside (ap (covers place) (sym e) ∙ passes)) in
          ap (λ span. starts_before span best) e ∙ lt-ltb (start_of spans k) (start_of spans top) low;
    } in
    sym (best_found (covers place) starts_before spans (Some (top, best)) is).number

-- where the stack is empty none counts
pub counting_none : (spans : List Span) (place : ℕ) → StandsOn spans place []
    → position (counts_at place spans) spans ≡ None
counting_none spans place stands =
    sym (best_found (covers place) starts_before spans None
    (λ k d lt. false_from_ne_true (covers place (get_or spans k d)) (λ around.
    let e : get_or spans k d ≡ get_or spans k nowhere = get_or_default spans k d nowhere lt in
    let parts =
    and_parts (nat_lt (start_of spans k) place) (nat_lt place (end_of spans k)) (ap (covers place) (sym e) ∙ around) in
    false≢true
    (stands.heads k lt (ltb-true (start_of spans k) place parts.0) (ltb-true place (end_of spans k) parts.1))))).number

-- ---- how the stack changes

-- at the first place nothing has begun
pub stands_first : (spans : List Span) → StandsOn spans 0 []
stands_first spans = record { falls = tt; heads = λ number within begun lasting. absurd (omega (arith, begun)) }

-- what stands below a top that is over
after_top : (spans : List Span) (place top : ℕ) (below : List ℕ) (number : ℕ) → StandsOn spans place (top ∷ below)
    → end_of spans top ≤ place
    → number < length spans → start_of spans number < place → place < end_of spans number
    → ((start_of spans top ≡ start_of spans number) × (top < number)) ⊎ (list_any (heads spans number) below ≡ true)
after_top spans place top below number stands over within begun lasting =
    ⊎_elim {A = heads spans number top ≡ true} {B = list_any (heads spans number) below ≡ true}
    {C = ((start_of spans top ≡ start_of spans number) × (top < number)) ⊎ (list_any (heads spans number) below ≡ true)}
    (λ here.
    let le : top ≤ number = no_later spans number top here in
    let other : top ≡ number
    → ⊥ = λ e. let same : end_of spans top ≡ end_of spans number = ap (end_of spans) e in
    omega (arith, same, over, lasting) in
    inl (same_start spans number top here, omega (arith, le, other)))
    (λ lower. inr lower)
    (or_cases (heads spans number top) (list_any (heads spans number) below) (stands.heads number within begun lasting))

falls_below : (spans : List Span) (place top : ℕ) (below : List ℕ) → StandsOn spans place (top ∷ below)
    → Falls spans place below
falls_below spans place top below stands =
    let under : start_of spans top < place = stands.falls.1 in
    falls_wider spans (start_of spans top) place below (omega (arith, under)) stands.falls.2

-- a top that is over goes, where no later span starts with it
pub stands_without : (spans : List Span) (place top : ℕ) (below : List ℕ) → StandsOn spans place (top ∷ below)
    → end_of spans top ≤ place
    → first_from (starts_at (start_of spans top)) (top + 1) spans ≡ None → StandsOn spans place below
stands_without spans place top below stands over none = record {
  falls = falls_below spans place top below stands;
  heads = λ number within begun lasting.
      ⊎_elim {A = (start_of spans top ≡ start_of spans number) × (top < number)} {B =
      list_any (heads spans number) below ≡ true}
      {C = list_any (heads spans number) below ≡ true}
      (λ here.
      let lt : top < number = here.1 in
      absurd (both_ways (starts_at (start_of spans top) (get_or spans number nowhere))
      (none_first (starts_at (start_of spans top)) (top + 1) spans none number nowhere (omega (arith, lt)) within)
      (eq-eqb (start_of spans number) (start_of spans top) (sym here.0))))
      (λ lower. lower)
      (after_top spans place top below number stands over within begun lasting);
}

-- else the next such span takes its place
pub stands_with_next : (spans : List Span) (place top next : ℕ) (below : List ℕ) → StandsOn spans place (top ∷ below)
    → end_of spans top ≤ place → first_from (starts_at (start_of spans top)) (top + 1) spans ≡ Some next
    → StandsOn spans place (next ∷ below)
stands_with_next spans place top next below stands over found =
    let is : IsFirst (starts_at (start_of spans top)) (top + 1) spans next =
    found_first (starts_at (start_of spans top)) (top + 1) spans next found in
    let same : start_of spans next ≡ start_of spans top =
    eqb-true (start_of spans next) (start_of spans top) (is.passes nowhere) in
    let under : start_of spans top < place = stands.falls.1 in
    record {
      falls = (is.within, omega (arith, same, under), subst (λ (n : ℕ). Falls spans n below) (sym same) stands.falls.2);
      heads = λ number within begun lasting.
          ⊎_elim {A = (start_of spans top ≡ start_of spans number) × (top < number)} {B =
          list_any (heads spans number) below ≡ true}
          {C = (heads spans number next || list_any (heads spans number) below) ≡ true}
          (λ here.
          let lt : top < number = here.1 in
          let le : next ≤ number = ⊎_elim {A = number < next} {B = next ≤ number} {C = next ≤ number}
          (λ less. absurd (both_ways (starts_at (start_of spans top) (get_or spans number nowhere))
          (is.before number nowhere (omega (arith, lt)) less)
          (eq-eqb (start_of spans number) (start_of spans top) (sym here.0))))
          (λ le. le) (cases_lt number next) in
          or_left (heads spans number next) (list_any (heads spans number) below)
          (headed_by spans number next (same ∙ here.0) le))
          (λ lower. or_right (heads spans number next) (list_any (heads spans number) below) lower)
          (after_top spans place top below number stands over within begun lasting);
    }

-- the next place, where no span starts at this one
pub stands_further : (spans : List Span) (place : ℕ) (stack : List ℕ) → StandsOn spans place stack
    → first_from (starts_at place) 0 spans ≡ None → StandsOn spans (place + 1) stack
stands_further spans place stack stands none = record {
  falls = falls_wider spans place (place + 1) stack (omega arith) stands.falls;
  heads = λ number within begun lasting.
      let other : start_of spans number ≡ place → ⊥ = λ e. both_ways (starts_at place (get_or spans number nowhere))
      (none_first (starts_at place) 0 spans none number nowhere (omega arith) within)
      (eq-eqb (start_of spans number) place e) in
      stands.heads number within (omega (arith, begun, other)) (omega (arith, lasting));
}

-- the next place, where a span starts at this one
pub stands_begun : (spans : List Span) (place first : ℕ) (stack : List ℕ) → StandsOn spans place stack
    → first_from (starts_at place) 0 spans ≡ Some first → StandsOn spans (place + 1) (first ∷ stack)
stands_begun spans place first stack stands found =
    let is : IsFirst (starts_at place) 0 spans first = found_first (starts_at place) 0 spans first found in
    let same : start_of spans first ≡ place = eqb-true (start_of spans first) place (is.passes nowhere) in
    record {
      falls = (is.within, omega (arith, same), subst (λ (n : ℕ). Falls spans n stack) (sym same) stands.falls);
      heads = λ number within begun lasting.
          ⊎_elim {A = start_of spans number < place} {B = place ≤ start_of spans number}
          {C = (heads spans number first || list_any (heads spans number) stack) ≡ true}
          (λ earlier. or_right (heads spans number first) (list_any (heads spans number) stack)
          (stands.heads number within earlier (omega (arith, lasting))))
          (λ here.
          let e : start_of spans number ≡ place = omega (arith, here, begun) in
          let le : first ≤ number = ⊎_elim {A = number < first} {B = first ≤ number} {C = first ≤ number}
          (λ less. absurd (both_ways (starts_at place (get_or spans number nowhere))
          (is.before number nowhere (omega arith) less) (eq-eqb (start_of spans number) place e)))
          (λ le. le) (cases_lt number first) in
          or_left (heads spans number first) (list_any (heads spans number) stack)
          (headed_by spans number first (same ∙ sym e) le))
          (cases_lt (start_of spans number) place);
    }

-- ---- the stack as its top is taken off

pub none_left : (xs : List ℕ) → length xs ≡ 0 → xs ≡ []
none_left [] none = refl
none_left (x ∷ xs) none = absurd (omega (arith, none))

pub taken_off : (whole rest : List ℕ) (top : ℕ) → whole ≡ rest ++ top ∷ [] → reverse whole ≡ top ∷ reverse rest
taken_off whole rest top is = ap reverse is ∙ reverse-append rest (top ∷ [])

pub stands_taken : (spans : List Span) (place : ℕ) (whole rest : List ℕ) (top : ℕ)
    → StandsOn spans place (reverse whole)
    → whole ≡ rest ++ top ∷ [] → StandsOn spans place (top ∷ reverse rest)
stands_taken spans place whole rest top stands is = subst (StandsOn spans place) (taken_off whole rest top is) stands

pub stands_put : (spans : List Span) (place : ℕ) (rest more : List ℕ) (top : ℕ)
    → StandsOn spans place (top ∷ reverse rest)
    → more ≡ rest ++ top ∷ [] → StandsOn spans place (reverse more)
stands_put spans place rest more top stands is = subst (StandsOn spans place) (sym (taken_off more rest top is)) stands

top_added : (count : ℕ) (whole rest : List ℕ) (top : ℕ) → whole ≡ rest ++ top ∷ []
    → sum_by (λ number. count - number) whole ≡ sum_by (λ number. count - number) rest + (count - top)
top_added count whole rest top is =
    ap (sum_by (λ number. count - number)) is ∙ sum_by_push (λ number. count - number) rest top

-- a later span in the place of the top leaves less to do
pub next_is_less : (spans : List Span) (top next : ℕ) (whole rest more : List ℕ) → whole ≡ rest ++ top ∷ []
    → more ≡ rest ++ next ∷ []
    → first_from (starts_at (start_of spans top)) (top + 1) spans ≡ Some next
    → sum_by (λ number. length spans - number) more < sum_by (λ number. length spans - number) whole
next_is_less spans top next whole rest more is put found =
    let first : IsFirst (starts_at (start_of spans top)) (top + 1) spans next =
    found_first (starts_at (start_of spans top)) (top + 1) spans next found in
    let inside : next < length spans = first.within in
    let later : top + 1 ≤ next = first.later in
    omega (
      arith,
      top_added (length spans) whole rest top is,
      top_added (length spans) more rest next put,
      inside,
      later,
    )

-- and so does a top that goes, which is a span of the list
pub less_without : (spans : List Span) (place top : ℕ) (whole rest : List ℕ) → whole ≡ rest ++ top ∷ []
    → StandsOn spans place (top ∷ reverse rest)
    → sum_by (λ number. length spans - number) rest < sum_by (λ number. length spans - number) whole
less_without spans place top whole rest is stands =
    let inside : top < length spans = stands.falls.0 in
    omega (arith, top_added (length spans) whole rest top is, inside)

-- ---- a place is done

pub swept_begun : (spans : List Span) (place first : ℕ) (stack more : List ℕ) → Stands spans place stack
    → first_from (starts_at place) 0 spans ≡ Some first → more ≡ stack ++ first ∷ [] → Stands spans (place + 1) more
swept_begun spans place first stack more stands found is =
    subst (StandsOn spans (place + 1)) (sym (taken_off more stack first is))
    (stands_begun spans place first (reverse stack) stands found)

pub swept_further : (spans : List Span) (place : ℕ) (stack : List ℕ) → Stands spans place stack
    → first_from (starts_at place) 0 spans ≡ None → Stands spans (place + 1) stack
swept_further spans place stack stands none = stands_further spans place (reverse stack) stands none

pub counting_more : (spans : List Span) (place : ℕ) (counting more : List (Option ℕ)) (top : Option ℕ)
    → AreCounting spans place counting
    → top ≡ position (counts_at place spans) spans → more ≡ counting ++ top ∷ [] → AreCounting spans (place + 1) more
counting_more spans place counting more top so_far here is = record {
  long = ap length is ∙ length_push counting top ∙ ap (λ n. n + 1) so_far.long;
  at = λ k lt.
      let read : get_or more k None ≡ get_or (counting ++ top ∷ []) k None = ap (λ l. get_or l k None) is in
      ⊎_elim {A = k < place} {B = place ≤ k} {C = get_or more k None ≡ position (counts_at k spans) spans}
      (λ earlier.
      let inside : k < length counting = omega (arith, earlier, so_far.long) in
      read ∙ get_or_append_left counting (top ∷ []) None k inside ∙ so_far.at k earlier)
      (λ le.
      let same : k ≡ place = omega (arith, le, lt) in
      read ∙ get_or_push counting top None k (so_far.long ∙ sym same) ∙ here
      ∙ ap (λ n. position (counts_at n spans) spans) (sym same))
      (cases_lt k place);
}
