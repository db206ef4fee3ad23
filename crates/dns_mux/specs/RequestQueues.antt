-- Requests that wait to be sent, in their order (RFC 7766, 6.2.1): a queue of stated length.
use Rattle.std.specs.Prelude.{ℕ, ◌≡◌, ◌⊎◌, ◌+◌, ◌<◌, ◌≤◌, List, [], ◌∷◌, ◌++◌, length, Result, Ok, Err}
use Rattle.dns_handle.specs.Requests.{RequestValue}
use Rattle.dns_handle.specs.declared.error.NetError.{NetError}
use Rattle.dns_handle.specs.declared.error.NetError.TheVariants.{Busy, NoMemory}
use Rattle.dns_mux.specs.declared.response_receiver.DnsResponseReceiver.{DnsResponseReceiver}
use Rattle.dns_mux.specs.declared.response_receiver.DnsResponseReceiver.TheVariants.{Receiver}

-- a request, and how many requests the queue took before it
pub record OneshotValue : Type 0 where
  pub request : RequestValue
  pub slot : ℕ

-- the requests that wait, and how many the queue took
pub record RequestQueueValue : Type 0 where
  pub waiting : List OneshotValue
  pub slots : ℕ

-- so many requests wait at most
abbrev pub most_requests : ℕ
most_requests = 33

-- the request is put behind the others and gets the next slot; the queue is busy exactly where as many wait as may, and then, and
-- without memory, nothing changes
abbrev pub IsQueued : RequestQueueValue → RequestValue → RequestQueueValue → Result DnsResponseReceiver NetError → Type 0
IsQueued old request new (Ok receiver) = (length old.waiting < most_requests) × (receiver ≡ Receiver old.slots)
    × (new ≡ record {
      waiting = old.waiting ++ (record { request = request; slot = old.slots }) ∷ [];
      slots = old.slots + 1;
    })
IsQueued old request new (Err error) =
    ((error ≡ NoMemory) ⊎ ((most_requests ≤ length old.waiting) × (error ≡ Busy))) × (new ≡ old)
