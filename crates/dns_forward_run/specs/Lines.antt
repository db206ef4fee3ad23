-- The lines that tell how seats ended: `seat K requests N END`.
use Rattle.std.specs.Prelude.{ℕ, ◌+◌, Bool, true, false, List, [], ◌∷◌, ◌++◌, codes, Option, None, Some}
use Rattle.std.specs.Fmt.{decimal}
use Rattle.std.specs.List.{list_any}
use Rattle.dns_seats.specs.declared.seat.Ended.{Ended}
use Rattle.dns_seats.specs.declared.seat.Ended.TheVariants as ended
use Rattle.dns_forward_run.specs.declared.lines.SeatEnd.{SeatEnd}
use Rattle.dns_forward_run.specs.declared.lines.SeatEnd.TheVariants.{Count, Closed, Port}
use Rattle.dns_forward_run.specs.declared.lines.SeatLine.{SeatLine}

-- the word of an end
abbrev pub end_word : SeatEnd → List ℕ
end_word Count = codes "count"
end_word Closed = codes "closed"
end_word Port = codes "port"

-- the line of the seat with this number
abbrev pub line_text : ℕ → SeatLine → List ℕ
line_text seat line =
    codes "seat " ++ decimal seat ++ codes " requests " ++ decimal line.requests ++ 32 ∷ end_word line.end ++ 10 ∷ []

-- the lines of seats that are numbered from this number on
abbrev pub lines_from : ℕ → List SeatLine → List ℕ
lines_from seat [] = []
lines_from seat (line ∷ lines) = line_text seat line ++ lines_from (seat + 1) lines

-- the line of a seat that ended so, after so many requests; for want of memory it has none
abbrev pub line_of : ℕ → Ended → Option SeatLine
line_of requests ended.Count = Some (record { requests = requests; end = Count })
line_of requests ended.Closed = Some (record { requests = requests; end = Closed })
line_of requests (ended.Port kind) = Some (record { requests = requests; end = Port })
line_of requests ended.NoMemory = None

-- ---- what lines say together

abbrev pub is_closed : SeatEnd → Bool
is_closed Closed = true
is_closed _ = false

abbrev pub is_broken : SeatEnd → Bool
is_broken Port = true
is_broken _ = false

abbrev pub one_if : Bool → ℕ
one_if true = 1
one_if false = 0

-- how many requests there were
abbrev pub requests_in : List SeatLine → ℕ
requests_in [] = 0
requests_in (line ∷ lines) = line.requests + requests_in lines

-- how many seats ended because no more requests came
abbrev pub closed_in : List SeatLine → ℕ
closed_in [] = 0
closed_in (line ∷ lines) = one_if (is_closed line.end) + closed_in lines

-- how many seats ended at a fault of their port
abbrev pub broken_in : List SeatLine → ℕ
broken_in [] = 0
broken_in (line ∷ lines) = one_if (is_broken line.end) + broken_in lines

-- 1 where a seat ended at a fault of its port
abbrev pub lines_status : List SeatLine → ℕ
lines_status lines = one_if (list_any (λ line. is_broken line.end) lines)
