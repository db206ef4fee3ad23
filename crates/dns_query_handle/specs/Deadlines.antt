-- A request that is sent only in time (RFC 1035, 7.1: the work that a request starts is limited).
use Rattle.std.specs.Prelude.{ℕ, ◌≡◌, ◌<◌, ◌≤◌, Err}
use Rattle.dns_handle.specs.Errors as seen
use Rattle.dns_handle.specs.Errors.{Reply}
use Rattle.dns_handle.specs.Requests.{RequestValue}
use Rattle.dns_handle.specs.declared.handle.DnsHandle as handle
use Rattle.dns_retry.specs.Retries.{SendsRequest}

-- how a handle is asked within a limit of milliseconds, by what a stopwatch tells before the send
pub data AsksInTime {H T : Type 0} (meanings : handle.Ghosts H) (reads : T → ℕ → T → Type 0) (limit : ℕ) (old : H) (watch : T)
    (request : RequestValue) (now : ℕ) (new : H) (new_watch : T) (reply : Reply) : Type 0 where
  -- the time is over, and nothing is sent
  Late : (elapsed : ℕ) → reads watch elapsed new_watch → limit ≤ elapsed → new ≡ old → reply ≡ Err seen.Timeout
      → AsksInTime meanings reads limit old watch request now new new_watch reply
  -- it isn't, and the handle's answer is given
  InTime : (elapsed : ℕ) → reads watch elapsed new_watch → elapsed < limit → SendsRequest meanings request now old reply new
      → AsksInTime meanings reads limit old watch request now new new_watch reply
