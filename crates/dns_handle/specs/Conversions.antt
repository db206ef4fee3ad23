-- Errors of other layers as errors of the net.
use Rattle.dns_message.specs.declared.decode_error.DecodeError.{DecodeError}
use Rattle.dns_message.specs.declared.decode_error.DecodeKind.{DecodeKind}
use Rattle.dns_message.specs.declared.decode_error.DecodeKind.TheVariants as decode
use Rattle.dns_handle.specs.declared.io_kind.IoKind.{IoKind}
use Rattle.dns_handle.specs.declared.io_kind.IoKind.TheVariants.{TimedOut}
use Rattle.dns_handle.specs.declared.error.ProtoError.{ProtoError}
use Rattle.dns_handle.specs.declared.error.ProtoError.TheVariants.{Decode, TooLong}
use Rattle.dns_handle.specs.declared.error.NetError.{NetError}
use Rattle.dns_handle.specs.declared.error.NetError.TheVariants.{Proto, Io, Timeout, NoMemory}

abbrev pub decode_failed_by : DecodeKind → DecodeError → NetError
decode_failed_by decode.NoMemory error = NoMemory
decode_failed_by _ error = Proto (Decode error)

-- a message that can't be read; want of memory stays what it is
abbrev pub decode_failed : DecodeError → NetError
decode_failed error = decode_failed_by error.kind error

-- bytes that can't be read or a message that can't be written; want of memory stays what it is here too
abbrev pub proto_failed : ProtoError → NetError
proto_failed (Decode error) = decode_failed error
proto_failed TooLong = Proto TooLong

-- a call of the outside that failed; what timed out is Timeout
abbrev pub outside_failed : IoKind → NetError
outside_failed TimedOut = Timeout
outside_failed kind = Io kind
