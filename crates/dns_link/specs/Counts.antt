-- What is counted of links, sockets and dialers: by these counts a layer above says what an answer came from.
use Rattle.std.specs.Prelude.{ℕ, ◌+◌, ◌-◌, ◌^◌, ◌==◌, min, nat_lt, if◌then◌else◌, Result, Ok, Err, Option, None, Some}
use Rattle.dns_model.specs.Counts.{one_more}
use Rattle.dns_handle.specs.declared.io_kind.IoKind.{IoKind}

-- each count stops at the greatest 64-bit number
pub record CountsValue : Type 0 where
  -- calls that failed
  pub faults : ℕ
  -- reads that found the end, and writes and sends that took less than they have to
  pub ends : ℕ
  -- reads that gave bytes, and datagrams that came
  pub gots : ℕ
  -- waits for a datagram in which none came
  pub quiet : ℕ

abbrev pub no_counts : CountsValue
no_counts = record { faults = 0; ends = 0; gots = 0; quiet = 0 }

abbrev pub with_fault : CountsValue → CountsValue
with_fault counts = record counts { faults = one_more counts.faults }

abbrev pub with_end : CountsValue → CountsValue
with_end counts = record counts { ends = one_more counts.ends }

abbrev pub with_got : CountsValue → CountsValue
with_got counts = record counts { gots = one_more counts.gots }

abbrev pub with_quiet : CountsValue → CountsValue
with_quiet counts = record counts { quiet = one_more counts.quiet }

-- a sum that stops where counts stop
abbrev pub sum_counted : ℕ → ℕ → ℕ
sum_counted a b = min (a + b) (2 ^ 64 - 1)

-- what a dialer counts once it has an object back
abbrev pub with_counts : CountsValue → CountsValue → CountsValue
with_counts dialer object = record {
  faults = sum_counted dialer.faults object.faults;
  ends = sum_counted dialer.ends object.ends;
  gots = sum_counted dialer.gots object.gots;
  quiet = sum_counted dialer.quiet object.quiet;
}

-- a read into so much room: none for room is the end, bytes have come, or it failed
abbrev pub after_read : ℕ → Result ℕ IoKind → CountsValue → CountsValue
after_read room (Ok n) counts = if n == 0 then (if room == 0 then counts else with_end counts) else with_got counts
after_read room (Err kind) counts = with_fault counts

-- a write of so many bytes: none taken of some is an end
abbrev pub after_write : ℕ → Result ℕ IoKind → CountsValue → CountsValue
after_write offered (Ok n) counts = if n == 0 then (if offered == 0 then counts else with_end counts) else counts
after_write offered (Err kind) counts = with_fault counts

-- a datagram of so many bytes that is sent: less taken is an end
abbrev pub after_send : ℕ → Result ℕ IoKind → CountsValue → CountsValue
after_send offered (Ok n) counts = if nat_lt n offered then with_end counts else counts
after_send offered (Err kind) counts = with_fault counts

-- a wait for a datagram: it came, none did, or the wait failed
abbrev pub after_receive : {D : Type 0} → Result (Option D) IoKind → CountsValue → CountsValue
after_receive (Ok None) counts = with_quiet counts
after_receive (Ok (Some datagram)) counts = with_got counts
after_receive (Err kind) counts = with_fault counts

-- a call that makes a link or a socket
abbrev pub after_dial : {X : Type 0} → Result X IoKind → CountsValue → CountsValue
after_dial (Ok made) counts = counts
after_dial (Err kind) counts = with_fault counts
