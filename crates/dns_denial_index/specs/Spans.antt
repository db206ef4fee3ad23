-- For private functions alone: spans of places on a line, and which of those around a place counts there.
use Rattle.std.specs.Prelude.{ℕ, ◌+◌, ◌<◌, Bool, not, ◌&&◌, nat_lt, ◌==◌, List, [], ◌∷◌, length, drop, slice_index_or, Option, None, Some, if◌then◌else◌}
use Rattle.std.specs.List.{list_all}
use Rattle.dns_denial_index.specs.declared.spans.Span.{Span}

-- the span lies around the place
abbrev pub covers : ℕ → Span → Bool
covers place span = nat_lt span.start place && nat_lt place span.end

abbrev pub starts_before : Span → Span → Bool
starts_before one two = nat_lt one.start two.start

-- of the spans around the place, one with the greatest start
abbrev pub counts_at : ℕ → List Span → Span → Bool
counts_at place spans span = covers place span && list_all (λ other. not (covers place other && starts_before span other)) spans

abbrev pub starts_at : ℕ → Span → Bool
starts_at place span = span.start == place

-- the number of the first element that passes, where the elements are numbered from here on
abbrev pub first_in : {X : Type 0} → (X → Bool) → ℕ → List X → Option ℕ
first_in test number [] = None
first_in test number (x ∷ xs) = if test x then Some number else first_in test (number + 1) xs

-- the number of the first element that passes, from this number on
unfoldable pub first_from : {X : Type 0} → (X → Bool) → ℕ → List X → Option ℕ
first_from test number xs = first_in test number (drop number xs)

-- a span of no place
abbrev pub nowhere : Span
nowhere = record { start = 0; end = 0 }

-- start and end of the span with a number
abbrev pub start_of : List Span → ℕ → ℕ
start_of spans number = (slice_index_or spans number nowhere).start

abbrev pub end_of : List Span → ℕ → ℕ
end_of spans number = (slice_index_or spans number nowhere).end

-- each span starts at one of so many places
pub record AreInside (places : ℕ) (spans : List Span) : Type 0 where
  pub starts : (number : ℕ) → number < length spans → start_of spans number < places

-- spans, and how many places there are
pub record TableValue : Type 0 where
  pub spans : List Span
  pub places : ℕ
