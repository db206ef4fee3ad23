-- A connection that carries messages: what was read of a frame, what is to be written, and whether it failed.
use Rattle.std.specs.Prelude.{ℕ, Bool, true, false, List, [], Result, Ok, Err}
use Rattle.std.specs.declared.net.socket_addr.SocketAddr.{SocketAddr}
use Rattle.dns_model.specs.Counts.{one_more}
use Rattle.dns_handle.specs.declared.error.NetError.{NetError}
use Rattle.dns_handle.specs.declared.error.NetError.TheVariants.{NoMemory}
use Rattle.dns_multiplexer.specs.Messages.{SerialMessageValue}

pub record StreamValue : Type 0 where
  -- the other side
  pub peer : SocketAddr
  -- the bytes that were read of a frame that isn't whole
  pub part : List ℕ
  -- the messages that wait to be written
  pub queue : List SerialMessageValue
  -- what is still to be written of a frame
  pub unsent : List ℕ
  -- after a fault nothing is read or written any more
  pub failed : Bool
  -- how many faults were answered, and how often that the link was closed
  pub failures : ℕ

abbrev pub new_stream : SocketAddr → List SerialMessageValue → StreamValue
new_stream peer queue = record { peer = peer; part = []; queue = queue; unsent = []; failed = false; failures = 0 }

abbrev pub with_failure : StreamValue → StreamValue
with_failure stream = record stream { failures = one_more stream.failures }

abbrev pub with_fault : StreamValue → StreamValue
with_fault stream = record stream { failed = true; failures = one_more stream.failures }

-- a fault is counted and ends the connection; want of memory is none
abbrev pub after_error : NetError → StreamValue → StreamValue
after_error NoMemory stream = stream
after_error _ stream = with_fault stream

abbrev pub after_reply : {X : Type 0} → Result X NetError → StreamValue → StreamValue
after_reply (Ok x) stream = stream
after_reply (Err error) stream = after_error error stream
