-- Queues of stated length: how many messages wait to be sent at most, and what a send to a full queue answers.
use Rattle.std.specs.Prelude.{ℕ, ◌≡◌, ◌⊎◌, true, false, List, [], ◌∷◌, ◌++◌, length, Result, Ok, Err, nat_lt}
use Rattle.std.specs.declared.net.socket_addr.SocketAddr.{SocketAddr}
use Rattle.dns_handle.specs.declared.error.NetError.{NetError}
use Rattle.dns_handle.specs.declared.error.NetError.TheVariants.{Message, NoMemory}
use Rattle.dns_handle.specs.declared.notice.Notice.TheVariants.{SendQueueFull}
use Rattle.dns_multiplexer.specs.Messages.{SerialMessageValue}

-- a handle: where its messages go to, and how many wait beside one more at most
pub record StreamHandleValue : Type 0 where
  pub addr : SocketAddr
  pub buffer : ℕ

-- a message that waits, under the handle's address
abbrev pub addressed : SocketAddr → SerialMessageValue → SerialMessageValue
addressed addr message = record { bytes = message.bytes; addr = addr }

-- the queue takes the message at its end, and is full exactly where one more than the buffer waits; without memory, and where
-- it is full, nothing changes
abbrev pub IsPut : {X : Type 0} → SocketAddr → ℕ → SerialMessageValue → List SerialMessageValue → List SerialMessageValue
    → Result X NetError → Type 0
IsPut addr buffer message old new (Ok done) =
    (nat_lt buffer (length old) ≡ false) × (new ≡ old ++ addressed addr message ∷ [])
IsPut addr buffer message old new (Err error) =
    ((error ≡ NoMemory) ⊎ ((nat_lt buffer (length old) ≡ true) × (error ≡ Message SendQueueFull))) × (new ≡ old)
