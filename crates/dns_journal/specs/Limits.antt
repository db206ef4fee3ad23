-- How much a journal may keep, and what each call asks for: by these a history is full.
use Rattle.std.specs.Prelude.{ℕ, ◌+◌, ◌^◌, Bool, true, false, ◌&&◌, List, [], ◌∷◌, length, reverse, Option, None, Some, nat_le, if◌then◌else◌}
use Rattle.turns.specs.Turns.{Held}
use Rattle.dns_multiplexer.specs.Machine.{Settings}
use Rattle.dns_multiplexer.specs.Draws.{CoreValue}
use Rattle.dns_journal.specs.Entries.{Entry, Send, Arrive}
use Rattle.dns_journal.specs.Histories.{is_closed, machine_after}

-- so many entries, and so many bytes of messages
abbrev pub most_entries : ℕ
most_entries = 2 ^ 20

abbrev pub most_bytes : ℕ
most_bytes = 67108864

-- a request that is too long has no byte
abbrev pub request_len : Option (List ℕ) → ℕ
request_len None = 0
request_len (Some bytes) = length bytes

abbrev pub bytes_by : Entry → ℕ
bytes_by (Send request moment drawn reply) = request_len request
bytes_by (Arrive bytes reply) = length bytes
bytes_by _ = 0

-- the bytes of requests, refused ones too, and of arrivals, whatever they were answered
unfoldable pub bytes_in : List Entry → ℕ
bytes_in [] = 0
bytes_in (e ∷ past) = bytes_in past + bytes_by e

-- the places that are kept: one for the first close, and one for each message that isn't popped
abbrev pub kept_in : CoreValue → ℕ
kept_in machine = (if machine.is_shutdown then 0 else 1) + length machine.state.outbound

abbrev pub places_in : Settings → List Entry → ℕ
places_in about past = length past + kept_in (machine_after about past)

-- so many entries more find a place
abbrev pub has_places : ℕ → Held Settings Entry → Bool
has_places more held = nat_le (places_in held.about (reverse held.journal) + more) most_entries

-- so many bytes more may be kept
abbrev pub has_bytes : ℕ → Held Settings Entry → Bool
has_bytes more held = nat_le (bytes_in (reverse held.journal) + more) most_bytes

-- ---- what each call asks for

abbrev pub was_closed : Held Settings Entry → Bool
was_closed held = is_closed (reverse held.journal)

-- before a close a send asks for the place of its pop too
abbrev pub send_fits : Option (List ℕ) → Held Settings Entry → Bool
send_fits request held =
    has_bytes (request_len request) held && has_places (if was_closed held then 1 else 2) held

abbrev pub arrival_fits : List ℕ → Held Settings Entry → Bool
arrival_fits bytes held = has_bytes (length bytes) held && has_places 1 held

-- a take, a cancel, a tick
abbrev pub call_fits : Held Settings Entry → Bool
call_fits held = has_places 1 held

-- the first close has its place
abbrev pub close_fits : Held Settings Entry → Bool
close_fits held = if was_closed held then has_places 1 held else true
