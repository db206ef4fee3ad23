-- What contracts see of the multiplexer's answers.
use Rattle.std.specs.Prelude.{ℕ, Result, Ok, Err}
use Rattle.dns_handle.specs.declared.error.NetError.{NetError}
use Rattle.dns_handle.specs.Errors.{ErrorValue}
use Rattle.dns_handle.specs.Replies.{error_of, reply_of}
use Rattle.dns_multiplexer.specs.declared.request_id.RequestId.{RequestId}
use Rattle.dns_multiplexer.specs.declared.taken.Taken.{Taken}
use Rattle.dns_multiplexer.specs.declared.taken.Taken.TheVariants as rust
use Rattle.dns_multiplexer.specs.Events.{TakenValue, Item, Pending, Ended}

abbrev pub taken_of : Taken → TakenValue
taken_of (rust.Item reply) = Item (reply_of reply)
taken_of rust.Pending = Pending
taken_of rust.Ended = Ended

-- the number of an accepted send, or why it was refused
abbrev pub sent_of : Result RequestId NetError → Result ℕ ErrorValue
sent_of (Ok id) = Ok id.0
sent_of (Err error) = Err (error_of error)
