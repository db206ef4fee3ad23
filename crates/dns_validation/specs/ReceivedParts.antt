-- For private functions of this crate only: what was received, as the plain value.
use Rattle.dns_handle.specs.Replies.{error_of}
use Rattle.dns_validation.specs.Received.{ReceivedValue}
use Rattle.dns_validation.specs.Received as plain
use Rattle.dns_validation.specs.declared.receiving.Received.{Received}
use Rattle.dns_validation.specs.declared.receiving.Received.TheVariants.{Message, Failed}

abbrev pub as_received : Received → ReceivedValue
as_received (Message received) = plain.Message received.message received.empty
as_received (Failed error) = plain.Failed (error_of error)
