-- For private functions only: a request as bytes.
use Rattle.std.specs.Prelude.{◌≡◌, ◌⊎◌, List, ℕ, Result, Ok, Err}
use Rattle.dns_model.specs.Records.{MessageValue}
use Rattle.dns_message.specs.WrittenAs.{encoded}
use Rattle.dns_message.specs.declared.encode_error.EncodeError.TheVariants as encode
use Rattle.dns_handle.specs.declared.error.NetError.{NetError}
use Rattle.dns_handle.specs.declared.error.NetError.TheVariants.{Proto, NoMemory}
use Rattle.dns_handle.specs.declared.error.ProtoError.TheVariants.{TooLong}

-- the request's bytes, or that it is too long; want of memory says neither
abbrev pub IsEncoded : MessageValue → Result (List ℕ) NetError → Type 0
IsEncoded message (Ok bytes) = encoded message ≡ Ok bytes
IsEncoded message (Err error) = (error ≡ NoMemory) ⊎ ((encoded message ≡ Err encode.TooLong) × (error ≡ Proto TooLong))
