-- What a lookup comes to for the one who had it made (RFC 4035, 5.4 and 5.5).
use Rattle.std.specs.Prelude.{Option, None, Some, Result, Ok, Err}
use Rattle.dns_model.specs.SoundAnswers.{ResponseValue}
use Rattle.dns_handle.specs.declared.error.NetError.{NetError}
use Rattle.dns_handle.specs.declared.error.NetError.TheVariants as error
use Rattle.dns_handle.specs.declared.error.DnsError.TheVariants.{Nsec}
use Rattle.dns_forwarded.specs.declared.outcome.Outcome.{Outcome}
use Rattle.dns_forwarded.specs.declared.outcome.Outcome.TheVariants.{Answered, Denied, Failed}

-- an answer, a denial with the response in it, or another error; where memory ran out, nothing
abbrev pub outcome_of : Result ResponseValue NetError → Option Outcome
outcome_of (Ok response) = Some (Answered response)
outcome_of (Err error.NoMemory) = None
outcome_of (Err (error.Dns (Nsec query response proof))) = Some (Denied response.value proof)
outcome_of (Err fault) = Some (Failed fault)
