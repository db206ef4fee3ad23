-- For private functions alone: the parts of a table of spans, and the stack by which they are found.
use Rattle.std.specs.Prelude.{◌≡◌, ℕ, ◌+◌, ◌<◌, ◌≤◌, ◌^◌, Bool, true, ◌&&◌, ◌==◌, nat_le, List, [], ◌∷◌, length, reverse, slice_index_or, Option, None, position, ⊤}
use Rattle.std.specs.List.{list_any}
use Rattle.dns_denial_index.specs.declared.spans.Span.{Span}
use Rattle.dns_denial_index.specs.Spans.{counts_at, starts_at, first_from, start_of, end_of}

-- for each span the next one that starts where it does
pub record AreFollowing (spans : List Span) (following : List (Option ℕ)) : Type 0 where
  pub long : length following ≡ length spans
  pub next : (number : ℕ) → number < length spans
      → slice_index_or following number None ≡ first_from (starts_at (start_of spans number)) (number + 1) spans

-- the same of the spans from this number on, and for each place the first of these that starts there
pub record AreChained (spans : List Span) (from places : ℕ) (first following : List (Option ℕ)) : Type 0 where
  pub wide : length first ≡ places
  pub long : length following ≡ length spans
  pub begun : (place : ℕ) → place < places → slice_index_or first place None ≡ first_from (starts_at place) from spans
  pub next : (number : ℕ) → from ≤ number → number < length spans
      → slice_index_or following number None ≡ first_from (starts_at (start_of spans number)) (number + 1) spans

-- for each place, so many, the span that counts there
pub record AreCounting (spans : List Span) (places : ℕ) (counting : List (Option ℕ)) : Type 0 where
  pub long : length counting ≡ places
  pub at : (place : ℕ) → place < places → slice_index_or counting place None ≡ position (counts_at place spans) spans

-- the parts of a table
pub record IsTable (spans : List Span) (first following counting : List (Option ℕ)) : Type 0 where
  pub few : length spans < 2 ^ 32
  pub chained : AreChained spans 0 (length counting) first following
  pub exact : AreCounting spans (length counting) counting

-- the span in the stack starts where the other one does, and is that one or stands before it in the list
abbrev pub heads : List Span → ℕ → ℕ → Bool
heads spans number top = (start_of spans top == start_of spans number) && nat_le top number

-- from the top on each span starts before the one above it, and all before this place
abbrev pub Falls : List Span → ℕ → List ℕ → Type 0
Falls spans place [] = ⊤
Falls spans place (top ∷ below) = (top < length spans) × (start_of spans top < place) × Falls spans (start_of spans top) below

-- a stack, its top first, with the first span of each start that isn't over at the place
pub record StandsOn (spans : List Span) (place : ℕ) (stack : List ℕ) : Type 0 where
  pub falls : Falls spans place stack
  pub heads : (number : ℕ) → number < length spans → start_of spans number < place → place < end_of spans number
      → list_any (heads spans number) stack ≡ true

-- the same of a stack whose top is the last element
abbrev pub Stands : List Span → ℕ → List ℕ → Type 0
Stands spans place stack = StandsOn spans place (reverse stack)

-- the places so far, this many, have their spans, and the stack is that of the next place
pub record IsSwept (spans : List Span) (place : ℕ) (counting : List (Option ℕ)) (stack : List ℕ) : Type 0 where
  pub exact : AreCounting spans place counting
  pub stands : Stands spans place stack
