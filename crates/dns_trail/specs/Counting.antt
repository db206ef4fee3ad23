-- For private functions and proofs only: the order of the sends and that of the ends in one walk, which counts both.
use Rattle.std.specs.Prelude.{ℕ, ◌+◌, zero, suc, Bool, false, ◌==◌, ◌&&◌, nat_lt, nat_le, List, [], ◌∷◌, Option, None, Some, slice_get, if◌then◌else◌}
use Rattle.std.specs.Option.{option_map_or, option_and_then}
use Rattle.dns_model.specs.declared.trail.AskRef.{AskRef}
use Rattle.dns_model.specs.declared.trail.AskRef.TheVariants.{Step, TooDeep, TooMany}
use Rattle.dns_model.specs.Trails.{AskedValue}
use Rattle.dns_rules.specs.Asking.{most_sends}
use Rattle.dns_rules.specs.Derivation.{asks_of}
use Rattle.dns_trail.specs.declared.order.Counts.{Counts}

-- an ask of step n: a step before it is sent and ends by `visit`, while fewer were sent than may be
unfoldable pub count_ask : (ℕ → Counts → Option Counts) → ℕ → AskRef → Counts → Option Counts
count_ask visit n TooDeep counts = Some counts
count_ask visit n TooMany counts = if nat_le most_sends counts.sent then Some counts else None
count_ask visit n (Step m) counts = if nat_lt m n && nat_lt counts.sent most_sends then visit m counts else None

-- asks of step n, in order
unfoldable pub count_asks : (ℕ → Counts → Option Counts) → ℕ → List AskRef → Counts → Option Counts
count_asks visit n [] counts = Some counts
count_asks visit n (ask ∷ asks) counts = option_and_then (count_asks visit n asks) (count_ask visit n ask counts)

-- one more was sent
abbrev pub one_sent : Counts → Counts
one_sent counts = record { sent = counts.sent + 1; ended = counts.ended }

-- step n ends, where that is the next number
abbrev pub end_at : ℕ → Counts → Option Counts
end_at n counts = if counts.ended == n then Some (record { sent = counts.sent; ended = n + 1 }) else None

-- a step is sent, then its asks, and it ends. The first number is more than the step's, which falls from asker to ask
unfoldable pub count_step : ℕ → List AskedValue → ℕ → Counts → Option Counts
count_step zero trail n counts = None
count_step (suc above) trail n counts =
    option_and_then
    (λ step. option_and_then (end_at n) (count_asks (count_step above trail) n (asks_of step) (one_sent counts)))
    (slice_get trail n)

-- how the asks of step n are sent and end: each is a step before it
abbrev pub asking_step : List AskedValue → ℕ → ℕ → Counts → Option Counts
asking_step trail n = count_step n trail

-- nothing was sent yet
abbrev pub none_yet : Counts
none_yet = record { sent = 0; ended = 0 }

-- so many steps have ended, where the walk came through
abbrev pub ends_with : ℕ → Option Counts → Bool
ends_with n counts = option_map_or (λ c. c.ended == n) counts false
