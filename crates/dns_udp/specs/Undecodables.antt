-- For private functions only: what bytes are called that are no message.
use Rattle.std.specs.Prelude.{◌≡◌, Result, Ok, IsErr}
use Rattle.dns_message.specs.declared.decode_error.DecodeError.{DecodeError}
use Rattle.dns_message.specs.declared.decode_error.DecodeKind.{DecodeKind}
use Rattle.dns_message.specs.declared.decode_error.DecodeKind.TheVariants as kinds
use Rattle.dns_udp.specs.declared.acceptance.Accepted.{Accepted}
use Rattle.dns_udp.specs.declared.acceptance.Accepted.TheVariants.{Undecodable}

abbrev pub undecodable_by : {E : Type 0} → DecodeKind → DecodeError → Result Accepted E → Type 0
undecodable_by kinds.NoMemory error told = IsErr told
undecodable_by _ error told = told ≡ Ok (Undecodable error)

-- bytes that are no message; want of memory says nothing of them
abbrev pub IsUndecodable : {E : Type 0} → DecodeError → Result Accepted E → Type 0
IsUndecodable error told = undecodable_by error.kind error told
