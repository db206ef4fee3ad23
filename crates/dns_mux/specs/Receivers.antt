-- What a request in a queue has come to: nothing yet, or the replies that are to come (RFC 7766, 6.2.1).
use Rattle.std.specs.Prelude.{⊤, List, [], ◌∷◌, Option, None, Some, Result, Ok, Err, drop, slice_get}
use Rattle.futures.specs.declared.task.Poll.{Poll}
use Rattle.futures.specs.declared.task.Poll.TheVariants.{Ready, Pending}
use Rattle.futures.specs.Runs.{Runs}
use Rattle.dns_handle.specs.Errors.{Reply}
use Rattle.dns_handle.specs.Replies.{error_of}
use Rattle.dns_handle.specs.declared.error.NetError.{NetError}
use Rattle.dns_mux.specs.Streams.{Item, YieldsInTurn}
use Rattle.dns_mux.specs.declared.response_receiver.DnsResponseReceiver.{DnsResponseReceiver}
use Rattle.dns_mux.specs.declared.response_receiver.DnsResponseReceiver.TheVariants as rust

-- the replies that are to come, once that is settled
abbrev pub coming : DnsResponseReceiver → Option (List Reply)
coming (rust.Receiver slot) = None
coming (rust.Received replies) = Some replies
coming (rust.Err None) = Some []
coming (rust.Err (Some error)) = Some (Err (error_of error) ∷ [])

abbrev pub settled_by : Result (List Reply) NetError → DnsResponseReceiver
settled_by (Ok replies) = rust.Received replies
settled_by (Err error) = rust.Err (Some error)

-- what waits is settled, and what is settled stays
abbrev pub settled : Result (List Reply) NetError → DnsResponseReceiver → DnsResponseReceiver
settled made (rust.Receiver slot) = settled_by made
settled made (rust.Received replies) = rust.Received replies
settled made (rust.Err error) = rust.Err error

-- a poll gives the first reply, or the end; before it is settled it is pending
abbrev pub poll_of_coming : Option (List Reply) → Poll (Option Reply)
poll_of_coming None = Pending
poll_of_coming (Some replies) = Ready (slice_get replies 0)

abbrev pub left_of : Option (List Reply) → Option (List Reply)
left_of None = None
left_of (Some replies) = Some (drop 1 replies)

-- what is settled gives its replies in turn; before, anything may come
abbrev pub YieldsSettled : Option (List Reply) → Runs Item
YieldsSettled None items last = ⊤
YieldsSettled (Some replies) items last = YieldsInTurn replies items last
