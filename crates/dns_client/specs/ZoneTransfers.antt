-- A zone that is asked for by one send (RFC 5936, 2.1 and 2.2; RFC 1995, 3 and 4).
use Rattle.std.specs.Prelude.{ℕ, ◌≡◌, Bool, List, [], ◌∷◌, Option, Result, Ok, Err}
use Rattle.std.specs.Option.{is_some}
use Rattle.dns_model.specs.Names.{Labels}
use Rattle.dns_model.specs.Records.{Rr}
use Rattle.dns_handle.specs.Errors.{Reply}
use Rattle.dns_handle.specs.declared.error.NetError.{NetError}
use Rattle.dns_handle.specs.declared.handle.DnsHandle as handle
use Rattle.dns_update.specs.Transfers.{transfer_message}
use Rattle.dns_transfer.specs.TransferStreams.{stream_of, transfer_of}
use Rattle.dns_transfer.specs.declared.stage.Stage.TheVariants.{Nothing}
use Rattle.dns_transfer.specs.declared.transfer_stream.ClientStreamXfr.{ClientStreamXfr}
use Rattle.dns_client.specs.Sends.{Answer, SendsOnce, request_with}

-- the transfer that an answer begins: its stream gives the one response, of which nothing was looked at yet. An error is the send's
abbrev pub Begins : Bool → Answer → Result (ClientStreamXfr (List Reply)) NetError → Type 0
Begins incremental (Ok response) (Ok transfer) =
    (stream_of transfer ≡ Ok response ∷ []) × (transfer_of transfer ≡ record { is_incremental = incremental; stage = Nothing })
Begins incremental (Ok response) (Err error) = ⊥
Begins incremental (Err error) (Ok transfer) = ⊥
Begins incremental (Err error) (Err answered) = answered ≡ error

-- a zone is asked for by one send, or what has changed in it since the SOA that is known
pub record AsksForZone {H : Type 0} (meanings : handle.Ghosts H) (zone : Labels) (known : Option Rr) (now : ℕ) (old new : H)
    (result : Result (ClientStreamXfr (List Reply)) NetError) : Type 0 where
  pub answer : Answer
  pub sends : SendsOnce meanings (request_with (transfer_message zone known)) now old new answer
  pub begins : Begins (is_some known) answer result
